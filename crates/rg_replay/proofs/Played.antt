-- A step of a replay over a reservoir and its host.
use Rattle.std.proofs.Common.{◌≡◌, ◌∙◌, ◌≤◌, ◌<◌, ◌^◌, inl, inr, ℕ, false, List, length, take, Option, Some, None, Result, Ok, Err, IfErr, sym, ap, subst, arith}
use Rattle.std.specs.Borrow.{MutBor}
use Rattle.std.specs.Option.{ForSome}
use Rattle.std.proofs.lemmas.List.{length-take}
use Rattle.std.proofs.lemmas.Option.{slice_get_within}
use Rattle.rg_bytes.specs.Counts.{Rose}
use Rattle.rg_event.specs.declared.event.Event.{Event}
use Rattle.rg_host.specs.Image.{Image}
use Rattle.rg_host.specs.Moments.{Moment}
use Rattle.rg_metric.specs.Queries.{Asked}
use Rattle.rg_reply.specs.declared.reply.Reply.TheVariants.{Answered}
use Rattle.rg_past.specs.declared.past.Spot.{Spot}
use Rattle.rg_past.specs.declared.past.PastFault.TheVariants as past
use Rattle.rg_state.specs.Rows.{Cells}
use Rattle.rg_window.specs.Placed.{AreWithin}
use Rattle.rg_engine.specs.Seen.{Seen}
use Rattle.rg_engine.specs.declared.fault.EngineFault.{EngineFault}
use Rattle.rg_engine.specs.declared.fault.EngineFault.TheVariants as engine
use Rattle.rg_reservoir.specs.Chain.{IsIllegalBy}
use Rattle.rg_reservoir.specs.Going.{Goes}
use Rattle.rg_reservoir.specs.Kept.{Base, base, view_of, opened, all_events, IsSound, Spells}
use Rattle.rg_reservoir.specs.declared.reservoir.Reservoir.{Reservoir}
use Rattle.rg_replay.specs.declared.stepping.Told.{Told}
use Rattle.rg_replay.specs.declared.fault.ReplayFault.{ReplayFault}
use Rattle.rg_replay.specs.Faults.{of_engine, IsFromOutside}
use Rattle.rg_replay.specs.Going.{Replays, IsAnswered, Came}
use Rattle.rg_replay.specs.Playing.{count_in, IsPlaced, IsPlaying, IsCaused, IsExpected, StaysQuiet}
use Rattle.rg_replay.specs.Replay.{line_from, line_of, line_at}
use Rattle.rg_replay.proofs.Causes.{disk_by, damaged_by, not_write, not_differs}
use Rattle.rg_replay.proofs.Going.{within_more}
use Rattle.rg_replay.proofs.Starting.{long}

-- what holds of two values holds of the same ones
pub moved : {A B : Type 0} (P : A → B → Type 0) (a then : A) (b after : B) → then ≡ a → after ≡ b → P a b → P then after
moved P a then b after first second here = subst (λ x. P x after) (sym first) (subst (λ y. P a y) (sym second) here)

-- a step over the same events, and what follows from where it goes on
pub came_on : (queries : List Asked) (listed events : List Event) (n : ℕ) (found : Option Told) (Then After : Type 0) → listed ≡ events → (Then → After) → Came queries listed n found Then → Came queries events n found After
came_on queries listed events n None Then After same follows came = (came.0 ∙ ap length same, follows came.1)
came_on queries listed events n (Some told) Then After same follows came = (subst (λ l. IsAnswered queries l n told) same came.0, follows came.1)

-- the events up to a number that is at most the count
pub front_long : (now : Option Image) (r : Reservoir) (n : ℕ) → n ≤ count_in r → length (take n (all_events now (base r) (opened r))) ≡ n
front_long now r n within = omega (arith, within, long now r, length-take n (all_events now (base r) (opened r)))

pub within_front : (now : Option Image) (r : Reservoir) (n : ℕ) (spots : List Spot) → n ≤ count_in r → AreWithin spots n → AreWithin spots (length (take n (all_events now (base r) (opened r))))
within_front now r n spots number within = subst (AreWithin spots) (sym (front_long now r n number)) within

module _ {T : Type 0} (queries : List Asked) (events : List Event) (now : Option Image) (may : Image → Type 0) (is_told : Type 0) (cells : Cells) (r : Reservoir) (engine : Seen T) (spot : Spot) where
  -- to the replay over the reservoir's own list, and back
  pub on_list : (is : IsPlaying queries events now may is_told cells r engine spot) → Replays queries (IsSound now may r) (Spells now (base r) (opened r) spot) is_told (λ s. Spells now (base r) (opened r) s) (all_events now (base r) (opened r)) spot.number cells engine.plan engine.spots
  on_list is = subst (λ l. Replays queries (IsSound now may r) (Spells now (base r) (opened r) spot) is_told (λ s. Spells now (base r) (opened r) s) l spot.number cells engine.plan engine.spots) (sym is.list) is.on

  pub playing : (shown : ℕ) → spot.number ≡ shown → all_events now (base r) (opened r) ≡ events
      → Replays queries (IsSound now may r) (Spells now (base r) (opened r) spot) is_told (λ s. Spells now (base r) (opened r) s) (all_events now (base r) (opened r)) shown cells engine.plan engine.spots → IsPlaying queries events now may is_told cells r engine spot
  playing shown at same on = record {
    list = same;
    on = subst (λ n. Replays queries (IsSound now may r) (Spells now (base r) (opened r) spot) is_told (λ s. Spells now (base r) (opened r) s) events n cells engine.plan engine.spots) (sym at)
        (subst (λ l. Replays queries (IsSound now may r) (Spells now (base r) (opened r) spot) is_told (λ s. Spells now (base r) (opened r) s) l shown cells engine.plan engine.spots) same on);
  }

-- where the edges are within the shown events and nothing has ended
pub placed : {T : Type 0} (now : Option Image) (r : Reservoir) (engine : Seen T) (spot : Spot) (shown : ℕ) → spot.number ≡ shown → shown ≤ length (all_events now (base r) (opened r)) → AreWithin engine.spots (length (take shown (all_events now (base r) (opened r)))) → engine.ended ≡ false → (base r).ended ≡ false → IsPlaced r engine spot
placed now r engine spot shown at below within going runs = record {
  number = omega (arith, at, below, long now r);
  within = within_more engine.spots (length (take shown (all_events now (base r) (opened r)))) spot.number (omega (arith, at, length-take shown (all_events now (base r) (opened r)))) within;
  going = going;
  runs = runs;
}

-- the line of an answered event
pub line_told : (queries : List Asked) (first : ℕ) (events : List Event) (n : ℕ) (told : Told) → IsAnswered queries events n told → line_from first told.event.offset (Answered told.answers) ≡ line_at queries first events n
line_told queries first events n told is = ap (λ a. line_from first told.event.offset (Answered a)) is.answers ∙ ap (λ o. line_of queries first events n o) (sym is.event)

-- a fault from outside is one that a replay of a legal log may have
pub expected : (fault : ReplayFault) → IsFromOutside fault → IsExpected fault
expected fault (inl disk) = inl disk
expected fault (inr memory) = inr (inl memory)

-- the causes of a step's fault
pub step_caused : {H : Type 0} (now : H → Option Image) (disk_faults out_faults : H → ℕ) (b : Base) (fault : EngineFault) (old new : H) → (fault ≡ engine.Past past.Disk → Rose (disk_faults old) (disk_faults new))
    → ((p : ℕ) → fault ≡ engine.Past (past.Damaged p) → ForSome (now old) (λ v. IsIllegalBy (view_of b) p (v b.file))) → IsCaused now disk_faults out_faults b (of_engine fault) old new
step_caused now disk_faults out_faults b fault old new disk damaged = record {
  disk = λ is. disk (disk_by fault is);
  damaged = λ p is. damaged p (damaged_by fault p is);
  write = λ is. absurd (not_write fault is);
  same_schema = λ is. not_differs fault is;
}

-- what a step over a reservoir and its host leaves
pub quiet_of : {H : Type 0} (now : H → Option Image) (may : H → Image → Type 0) (clock : H → ℕ) (since : H → ℕ → Moment → Type 0) (said : H → Option (List ℕ)) (disk_faults out_faults : H → ℕ) (pr : MutBor Reservoir) (ph : MutBor H) (qr : MutBor Reservoir) (qh : MutBor H)
    → Goes now may clock since said out_faults pr ph qr qh → disk_faults ph.now ≤ disk_faults qh.now → StaysQuiet now may clock since said disk_faults out_faults pr.now qr.now ph.now qh.now
quiet_of now may clock since said disk_faults out_faults pr ph qr qh goes later = record { base = goes.base; leaves = goes.leaves; disk = later; out = goes.outs_stay }

-- there are no more events than a reservoir may have
pub small_count : {T : Type 0} (r : Reservoir) (engine : Seen T) (spot : Spot) → IsPlaced r engine spot → spot.number ≤ 2 ^ 40
small_count r engine spot placed = omega (arith, placed.number, r.few)

-- an answered event is one of the list
pub below_count : (queries : List Asked) (events : List Event) (n : ℕ) (told : Told) → IsAnswered queries events n told → n < length events
below_count queries events n told is = slice_get_within events n told.event is.event

pub if_err_of : {T E : Type 0} (result : Result T E) (P Q : E → Type 0) → IfErr result P → ((x : E) → P x → Q x) → IfErr result Q
if_err_of (Ok x) P Q has follows = tt
if_err_of (Err x) P Q has follows = follows x has

pub if_err_at : {T E : Type 0} (result : Result T E) (P : E → Type 0) → IfErr result P → (x : E) → result ≡ Err x → P x
if_err_at (Ok y) P has x is = absurd cc
if_err_at (Err y) P has x is = let same : y ≡ x = cc in subst P same has
