-- What the fault says that a run ended at.
use Rattle.std.proofs.Common.{◌≡◌, ◌⊎◌, inl, inr, ℕ, List, [], Some, refl, ap, sym, ◌∙◌, subst}
use Rattle.std.specs.Prelude.{⊤}
use Rattle.rg_event.specs.Rising.{next_offset}
use Rattle.rg_run.specs.Begun.{Begun}
use Rattle.rg_run.specs.declared.fault.RunFault.{RunFault}
use Rattle.rg_run.specs.declared.fault.RunFault.TheVariants as run
use Rattle.rg_commands.specs.Call.{damage_line, schema_line, state_line, gap_line, EndsRun}
use Rattle.rg_commands.specs.Runs.{IsLastOf}
use Rattle.rg_messages.specs.declared.status.Status.{Status}
use Rattle.rg_messages.specs.declared.status.Status.TheVariants.{Store, Read, Write, Disk, Limit, Memory, Gap}

-- the cause of a refused store
abbrev pub IsStoreFault : RunFault → List ℕ → Type 0
IsStoreFault cause last =
    ((cause ≡ run.SchemaDiffers) × (last ≡ schema_line))
    ⊎ ((p : ℕ) × (cause ≡ run.Damaged p) × (last ≡ damage_line (Some p)))
    ⊎ ((n : ℕ) × (cause ≡ run.BadState n) × (last ≡ state_line n))

-- what a status says of the fault that a run ended at, and of the last line
abbrev pub SaysFault : ℕ → RunFault → List ℕ → Status → Type 0
SaysFault first cause last Store = IsStoreFault cause last
SaysFault first cause last Read = cause ≡ run.Read
SaysFault first cause last Write = cause ≡ run.Write
SaysFault first cause last Disk = cause ≡ run.Disk
SaysFault first cause last Limit = cause ≡ run.Limit
SaysFault first cause last Memory = ⊤
SaysFault first cause last Gap = (n : ℕ) × (cause ≡ run.Gap n) × (last ≡ gap_line first n)
SaysFault first cause last other = ⊥

says_fault : (first : ℕ) (cause : RunFault) (status : Status) (last : List ℕ) → EndsRun first cause status last → SaysFault first cause last status
says_fault first run.Disk status last ends = subst (SaysFault first run.Disk last) (sym ends.0) refl
says_fault first (run.Damaged p) status last (inl says) = subst (SaysFault first (run.Damaged p) last) (sym says.0) (inr (inl (p, refl, says.1)))
says_fault first (run.Damaged p) status last (inr fails) = subst (SaysFault first (run.Damaged p) last) (sym fails.0) tt
says_fault first run.SchemaDiffers status last (inl says) = subst (SaysFault first run.SchemaDiffers last) (sym says.0) (inl (refl, says.1))
says_fault first run.SchemaDiffers status last (inr fails) = subst (SaysFault first run.SchemaDiffers last) (sym fails.0) tt
says_fault first (run.BadState n) status last (inl says) = subst (SaysFault first (run.BadState n) last) (sym says.0) (inr (inr (n, refl, says.1)))
says_fault first (run.BadState n) status last (inr fails) = subst (SaysFault first (run.BadState n) last) (sym fails.0) tt
says_fault first (run.Gap n) status last (inl says) = subst (SaysFault first (run.Gap n) last) (sym says.0) (n, refl, says.1)
says_fault first (run.Gap n) status last (inr fails) = subst (SaysFault first (run.Gap n) last) (sym fails.0) tt
says_fault first run.Read status last ends = subst (SaysFault first run.Read last) (sym ends.0) refl
says_fault first run.Limit status last ends = subst (SaysFault first run.Limit last) (sym ends.0) refl
says_fault first run.Memory status last ends = subst (SaysFault first run.Memory last) (sym ends.0) tt
says_fault first run.Write status last ends = subst (SaysFault first run.Write last) (sym ends.0) refl

-- at a status that is known
pub run_at : (first : ℕ) (cause : RunFault) (status : Status) (last : List ℕ) → EndsRun first cause status last → (known : Status) → status ≡ known → SaysFault first cause last known
run_at first cause status last ends known is = subst (SaysFault first cause last) is (says_fault first cause status last ends)

-- a status of its own
pub run_is : (first : ℕ) (cause other : RunFault) (status wanted : Status) (last : List ℕ) → (EndsRun first other status last → status ≡ wanted) → EndsRun first cause status last → cause ≡ other → status ≡ wanted
run_is first cause other status wanted last so ends is = so (subst (λ c. EndsRun first c status last) is ends)

last_at : (b : Begun) (status wanted : Status) (last : List ℕ) → status ≡ wanted → IsLastOf wanted b last → IsLastOf status b last
last_at b status wanted last is line = subst (λ s. IsLastOf s b last) (sym is) line

-- the last line of a run over a store that is ready, by the fault
pub run_last : (b : Begun) (cause : RunFault) (status : Status) (last : List ℕ) → EndsRun b.first cause status last → (cause ≡ run.SchemaDiffers → ⊥) → ((n : ℕ) → cause ≡ run.BadState n → ⊥) → ((n : ℕ) → cause ≡ run.Gap n → n ≡ next_offset b.held) → IsLastOf status b last
run_last b run.Disk status last ends differs bad gap = last_at b status Disk last ends.0 ends.1
run_last b (run.Damaged p) status last (inl says) differs bad gap = last_at b status Store last says.0 (p, says.1)
run_last b (run.Damaged p) status last (inr fails) differs bad gap = last_at b status Memory last fails.0 fails.1
run_last b run.SchemaDiffers status last (inl says) differs bad gap = absurd (differs refl)
run_last b run.SchemaDiffers status last (inr fails) differs bad gap = last_at b status Memory last fails.0 fails.1
run_last b (run.BadState n) status last (inl says) differs bad gap = absurd (bad n refl)
run_last b (run.BadState n) status last (inr fails) differs bad gap = last_at b status Memory last fails.0 fails.1
run_last b (run.Gap n) status last (inl says) differs bad gap = last_at b status Gap last says.0 (says.1 ∙ ap (gap_line b.first) (gap n refl))
run_last b (run.Gap n) status last (inr fails) differs bad gap = last_at b status Memory last fails.0 fails.1
run_last b run.Read status last ends differs bad gap = last_at b status Read last ends.0 ends.1
run_last b run.Limit status last ends differs bad gap = last_at b status Limit last ends.0 ends.1
run_last b run.Memory status last ends differs bad gap = last_at b status Memory last ends.0 ends.1
run_last b run.Write status last ends differs bad gap = last_at b status Write last ends.0 ends.1
