-- Without grace what is decided is what it was before there was any.
use Rattle.std.proofs.Common.{◌≡◌, ℕ, ◌+◌, nat_le, nat_lt, Bool, true, false, cond, List, length, Option, Result, Ok, Err, refl, ap, sym, ◌∙◌, arith}
use Rattle.std.specs.List.{list_any}
use Rattle.rg_event.specs.declared.event.Event.{Event}
use Rattle.rg_event.specs.Rising.{last_time, IsRising}
use Rattle.rg_reply.specs.declared.reply.Reply.{Reply}
use Rattle.rg_reply.specs.declared.reply.Reply.TheVariants.{Late, Full}
use Rattle.rg_run_spec.specs.Verdicts.{Basis, Verdict, control_at, read_as, verdict_of, obeyed_or, line_verdict}
use Rattle.rg_run_spec.specs.Verdicts.Verdict.{refused, accepted, moved}
use Rattle.rg_run_spec.specs.Laws.{strict_verdict}
use Rattle.rg_run_spec.proofs.Verdicts.{later_by_last}

-- the last test answers the first one's way, so nothing is moved
none_moved : (e moved_e : Event) (full late : Bool) → cond late (refused Late) (cond full (refused Full) (cond late (moved moved_e) (accepted e))) ≡ cond late (refused Late) (cond full (refused Full) (accepted e))
none_moved e moved_e full true = refl
none_moved e moved_e full false = refl

strict_event : (most : ℕ) (events : List Event) (e : Event) → IsRising events → verdict_of most 0 events (Ok e) ≡ strict_verdict most events (Ok e)
strict_event most events e rising =
    let zero_more : e.time + 0 ≡ e.time = omega arith in
    let late = nat_lt e.time (last_time events) in
    let full = nat_le most (length events) in
    let moved_e : Event = record e { time = last_time events } in
    ap (λ n. cond (nat_lt n (last_time events)) (refused Late) (cond full (refused Full) (cond late (moved moved_e) (accepted e)))) zero_more
    ∙ none_moved e moved_e full late
    ∙ ap (λ b. cond b (refused Late) (cond full (refused Full) (accepted e))) (later_by_last events e.time rising)

strict_reading : (most : ℕ) (events : List Event) (reading : Result Event Reply) → IsRising events → verdict_of most 0 events reading ≡ strict_verdict most events reading
strict_reading most events (Ok e) rising = strict_event most events e rising
strict_reading most events (Err reply) rising = refl

pub no_grace : (basis : Basis) (events : List Event) (offset : ℕ) (line : Option (List ℕ)) → basis.grace ≡ 0 → IsRising events →
    line_verdict basis events offset line ≡ obeyed_or (control_at basis offset line) (strict_verdict basis.most events (read_as basis offset line))
no_grace basis events offset line none rising =
    ap (λ (v : Verdict). obeyed_or (control_at basis offset line) v)
    (ap (λ n. verdict_of basis.most n events (read_as basis offset line)) none ∙ strict_reading basis.most events (read_as basis offset line) rising)
