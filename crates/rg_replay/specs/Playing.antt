-- A replay over a reservoir and its host.
use Rattle.std.specs.Prelude.{◌≡◌, ◌⊎◌, ℕ, ◌+◌, ◌≤◌, ◌<◌, Bool, false, List, [], ◌++◌, length, replicate, Option, Some, None, Result, Ok, Err, IfOk, IfErr, IsTrue, ⊤}
use Rattle.std.specs.Option.{ForSome}
use Rattle.rg_bytes.specs.Counts.{Rose}
use Rattle.rg_event.specs.Shapes.{Shape}
use Rattle.rg_event.specs.declared.event.Event.{Event}
use Rattle.rg_metric.specs.Queries.{Asked}
use Rattle.rg_past.specs.declared.past.Spot.{Spot}
use Rattle.rg_plan.specs.Plans.{Tasks, plan_for}
use Rattle.rg_state.specs.Rows.{Cells}
use Rattle.rg_window.specs.Placed.{AreWithin}
use Rattle.rg_engine.specs.Feeding.{Serves}
use Rattle.rg_engine.specs.Seen.{Seen}
use Rattle.rg_host.specs.Image.{Image, NothingPending}
use Rattle.rg_host.specs.Lines.{ended}
use Rattle.rg_host.specs.Moments.{Moment, LeavesFiles, LeavesAll}
use Rattle.rg_host.specs.Puts.{IsPrefix, StopsWith}
use Rattle.rg_log.specs.Log.{HasEvents, joined}
use Rattle.rg_log.specs.declared.summary.LogSummary.{LogSummary}
use Rattle.rg_reservoir.specs.Attached.{IsOther, IsBadFrame, IsIllegalSince, IsOpened}
use Rattle.rg_reservoir.specs.Chain.{Chain, IsIllegalBy}
use Rattle.rg_reservoir.specs.Kept.{Base, base, view_of, opened, cache_of, all_events, IsSound, Spells}
use Rattle.rg_reservoir.specs.Reached.{IsReached, IsWhole}
use Rattle.rg_reservoir.specs.Views.{View}
use Rattle.rg_reservoir.specs.declared.reservoir.Reservoir.{Reservoir}
use Rattle.rg_replay.specs.declared.fault.ReplayFault.{ReplayFault}
use Rattle.rg_replay.specs.declared.fault.ReplayFault.TheVariants.{Disk, Damaged, SchemaDiffers, BadState, Memory, Write}
use Rattle.rg_replay.specs.Faults.{IsFromOutside}
use Rattle.rg_replay.specs.Going.{Replays}
use Rattle.rg_replay.specs.Replay.{line_at}

-- how many events there are
abbrev pub count_in : Reservoir → ℕ
count_in r = (base r).committed + length (opened r)

-- The next event's spot is at most at the end and no edge is behind it, and neither the engine nor the reservoir has ended.
pub record IsPlaced {T : Type 0} (r : Reservoir) (engine : Seen T) (spot : Spot) : Type 0 where
  pub number : spot.number ≤ count_in r
  pub within : AreWithin engine.spots spot.number
  pub going : engine.ended ≡ false
  pub runs : (base r).ended ≡ false

-- The reservoir has these events, and the replay has come to the spot's.
pub record IsPlaying {T : Type 0} (queries : List Asked) (events : List Event) (now : Option Image) (may : Image → Type 0) (is_told : Type 0) (cells : Cells) (r : Reservoir) (engine : Seen T) (spot : Spot) : Type 0 where
  pub list : all_events now (base r) (opened r) ≡ events
  pub on : Replays queries (IsSound now may r) (Spells now (base r) (opened r) spot) is_told (λ s. Spells now (base r) (opened r) s) events spot.number cells engine.plan engine.spots

-- a log of these events is told, nothing of it is pending, and its columns serve the plan of these queries
pub record IsReplayable (queries : List Asked) (events : List Event) (tasks : Tasks) (shape : Shape) (now : Option Image) (may : Image → Type 0) : Type 0 where
  pub image : Image
  pub told : now ≡ Some image
  pub settled : NothingPending 2 now may
  pub has : HasEvents shape events (image 2)
  pub made : tasks ≡ plan_for queries
  pub serves : Serves shape.fields tasks

-- what stops a replay of a log whose events are of that base: a failed call on the file, a damaged place, a failed put
pub record IsCaused {H : Type 0} (now : H → Option Image) (disk_faults out_faults : H → ℕ) (b : Base) (fault : ReplayFault) (old new : H) : Type 0 where
  pub disk : fault ≡ Disk → Rose (disk_faults old) (disk_faults new)
  pub damaged : (p : ℕ) → fault ≡ Damaged p → ForSome (now old) (λ v. IsIllegalBy (view_of b) p (v b.file))
  pub write : fault ≡ Write → Rose (out_faults old) (out_faults new)
  pub same_schema : fault ≡ SchemaDiffers → ⊥

-- the spot of the next event was reached in the log, or the log is whole
pub record IsReachedAt {H : Type 0} (now : H → Option Image) (r : Reservoir) (host : H) (spot : Spot) : Type 0 where
  pub is : IsReached (now host) (base r) (cache_of r) spot

-- no chunk of the log of that base is illegal
abbrev pub IsWholeIn : {H : Type 0} → (H → Option Image) → Base → H → Type 0
IsWholeIn now b host = ForSome (now host) (λ v. IsWhole b (v b.file))

-- The heads and growths of the log are whole, and that schema is in force at its end. Behind legal chunks no illegal one stands in front of the end
-- whose first event would be one of those that the heads count.
pub record IsLegalThrough (shape : Shape) (bytes : List ℕ) : Type 0 where
  pub view : View
  pub first : ℕ
  pub end : ℕ
  pub summary : LogSummary
  pub opened : IsOpened view first end summary bytes
  pub shape_is : view.shape ≡ shape
  pub legal : (chunks : List (List Event)) (place : ℕ) → Chain view bytes first chunks place → length (joined chunks) < summary.count → place < end → IsIllegalBy view place bytes → ⊥

-- Why a replay that ended at this fault refused the store: another schema is in force at the log's end; a frame is bad by heads and growths, or an illegal
-- chunk stands at the place; or the rows of a node don't stand for the events, which no log has that is ready. Other faults refuse no store.
abbrev pub IsRefusedOf : Tasks → Shape → Option Image → (Image → Type 0) → ReplayFault → Type 0
IsRefusedOf tasks shape now may (Damaged p) = ForSome now (λ v. IsBadFrame p (v 2)) ⊎ ForSome now (λ v. IsIllegalSince shape (v 2) p (v 2))
IsRefusedOf tasks shape now may SchemaDiffers = ForSome now (λ v. IsOther shape (v 2))
IsRefusedOf tasks shape now may (BadState node) = (queries : List Asked) (events : List Event) → IsReplayable queries events tasks shape now may → ⊥
IsRefusedOf tasks shape now may fault = ⊤

-- what stops a replay of any log: of another schema than that, or damaged, by its heads or within a chunk; or a failed call
pub record IsCausedOver {H : Type 0} (now : H → Option Image) (disk_faults out_faults : H → ℕ) (shape : Shape) (fault : ReplayFault) (old new : H) : Type 0 where
  pub disk : fault ≡ Disk → Rose (disk_faults old) (disk_faults new)
  pub damaged : (p : ℕ) → fault ≡ Damaged p → ForSome (now old) (λ v. IsBadFrame p (v 2)) ⊎ ForSome (now old) (λ v. IsIllegalSince shape (v 2) p (v 2))
  pub write : fault ≡ Write → Rose (out_faults old) (out_faults new)
  pub differs : fault ≡ SchemaDiffers → ForSome (now old) (λ v. IsOther shape (v 2))

-- nothing was written or put, and what only a commit changes stays
pub record StaysQuiet {H : Type 0} (now : H → Option Image) (may : H → Image → Type 0) (clock : H → ℕ) (since : H → ℕ → Moment → Type 0) (said : H → Option (List ℕ)) (disk_faults out_faults : H → ℕ) (r then : Reservoir) (old new : H) : Type 0 where
  pub base : base then ≡ base r
  pub leaves : LeavesAll now may clock since said old new
  pub disk : disk_faults old ≤ disk_faults new
  pub out : out_faults new ≡ out_faults old

-- no file was written, and no count of faults fell
pub record LeavesStore {H : Type 0} (now : H → Option Image) (may : H → Image → Type 0) (clock : H → ℕ) (since : H → ℕ → Moment → Type 0) (disk_faults out_faults : H → ℕ) (old new : H) : Type 0 where
  pub leaves : LeavesFiles now may clock since old new
  pub disk : disk_faults old ≤ disk_faults new
  pub out : out_faults old ≤ out_faults new

-- no file was written, no count of faults fell, and what only a commit changes stays
pub record LeavesLog {H : Type 0} (now : H → Option Image) (may : H → Image → Type 0) (clock : H → ℕ) (since : H → ℕ → Moment → Type 0) (disk_faults out_faults : H → ℕ) (r then : Reservoir) (old new : H) : Type 0 where
  pub base : base then ≡ base r
  pub store : LeavesStore now may clock since disk_faults out_faults old new

-- no file was written, and what stopped a replay of any log has its cause
pub record EndsOver {H : Type 0} (now : H → Option Image) (may : H → Image → Type 0) (clock : H → ℕ) (since : H → ℕ → Moment → Type 0) (disk_faults out_faults : H → ℕ) (shape : Shape) (result : Result Unit ReplayFault) (old new : H) : Type 0 where
  pub leaves : LeavesStore now may clock since disk_faults out_faults old new
  pub cause : IfErr result (λ fault. IsCausedOver now disk_faults out_faults shape fault old new)

-- memory ran out, or a put failed and was counted
abbrev pub IsPutFault : {H : Type 0} → (H → ℕ) → ReplayFault → H → H → Type 0
IsPutFault out_faults fault old new = (fault ≡ Memory) ⊎ ((fault ≡ Write) × Rose (out_faults old) (out_faults new))

-- these lines were put; or a put failed and a prefix of them was; or memory ran out and nothing was
abbrev pub PutsLines : List (List ℕ) → (List ℕ → Type 0) → Result Unit ReplayFault → Type 0
PutsLines lines Put (Ok x) = Put (ended lines)
PutsLines lines Put (Err fault) = ((fault ≡ Memory) × Put []) ⊎ ((fault ≡ Write) × ((put : List ℕ) × IsPrefix put (ended lines) × Put put))

-- these lines are gathered, or were put
abbrev pub AreAdded : List (List ℕ) → (List ℕ → Type 0) → List ℕ → Type 0
AreAdded lines Put gathered = (Put [] × (gathered ≡ ended lines)) ⊎ (Put (ended lines) × (gathered ≡ []))

-- these lines are gathered or were put; or a put failed and a prefix of them was put; or memory ran out and nothing was
abbrev pub AddsLines : List (List ℕ) → (List ℕ → Type 0) → List ℕ → Result Unit ReplayFault → Type 0
AddsLines lines Put gathered (Ok x) = AreAdded lines Put gathered
AddsLines lines Put gathered (Err fault) = ((fault ≡ Memory) × Put []) ⊎ ((fault ≡ Write) × ((put : List ℕ) × IsPrefix put (ended lines) × Put put))

-- of these lines some were put, and those behind them are gathered
pub record Gathered (lines : List (List ℕ)) (Put : List ℕ → Type 0) (gathered : List ℕ) : Type 0 where
  pub out : List (List ℕ)
  pub held : List (List ℕ)
  pub both : out ++ held ≡ lines
  pub puts : Put (ended out)
  pub text_is : gathered ≡ ended held

-- what a turn comes to, where these lines are gathered: the line of the next event was added to them, or there was none; or it stopped before that line, or
-- in a put of these with it
pub record Turned (queries : List Asked) (first : ℕ) (events : List Event) (number : ℕ) (held : List (List ℕ)) (Put : List ℕ → Type 0) (gathered : List ℕ) (Then : Type 0) (result : Result Bool ReplayFault) : Type 0 where
  pub more : IfOk result (λ more. IsTrue more → AreAdded (held ++ line_at queries first events number) Put gathered × Then)
  pub last : IfOk result (λ more. more ≡ false → (number ≡ length events) × Put [] × (gathered ≡ ended held) × Then)
  pub stopped : IfErr result (λ fault. (IsFromOutside fault × Put []) ⊎ ((fault ≡ Write) × (number < length events) × ((put : List ℕ) × IsPrefix put (ended (held ++ line_at queries first events number)) × Put put)))

-- whole lines of a text were put, or, where a put failed, a prefix of it
abbrev pub StopsIn : List (List ℕ) → (List ℕ → Type 0) → ReplayFault → Type 0
StopsIn text Put fault = (put : List ℕ) × Put put × (StopsWith text [] put ⊎ ((fault ≡ Write) × IsPrefix put (ended text)))

-- a fault that a replay of a legal log may have
abbrev pub IsExpected : ReplayFault → Type 0
IsExpected fault = (fault ≡ Disk) ⊎ (fault ≡ Memory) ⊎ (fault ≡ Write)

-- all these lines were put, and then this holds; or it stopped within a text
abbrev pub Answered : List (List ℕ) → List (List ℕ) → (List ℕ → Type 0) → Type 0 → Result Unit ReplayFault → Type 0
Answered lines text Put Then (Ok x) = Put (ended lines) × Then
Answered lines text Put Then (Err fault) = IsExpected fault × StopsIn text Put fault

-- all these lines were put or are gathered, and then this holds; or it stopped within a text
abbrev pub Answering : List (List ℕ) → List (List ℕ) → (List ℕ → Type 0) → List ℕ → Type 0 → Result Unit ReplayFault → Type 0
Answering lines text Put gathered Then (Ok x) = Gathered lines Put gathered × Then
Answering lines text Put gathered Then (Err fault) = IsExpected fault × StopsIn text Put fault

-- the spot of event 0
abbrev pub start_of : Base → Spot
start_of b = record { place = b.first; index = 0; number = 0 }

-- an engine of this plan that hasn't ended, over a table without a row, all of whose edges stand at that spot
pub record HasBegun {T : Type 0} (plan : Tasks) (start : Spot) (is_told : Type 0) (cells : Cells) (engine : Seen T) : Type 0 where
  pub plan_is : engine.plan ≡ plan
  pub going : engine.ended ≡ false
  pub told : is_told
  pub none : (n : ℕ) (key : List ℕ) → cells n key ≡ None
  pub spots : engine.spots ≡ replicate (length plan.offsets) start

-- a sound reservoir that hasn't ended has these events
pub record HasRead (events : List Event) (now : Option Image) (may : Image → Type 0) (r : Reservoir) : Type 0 where
  pub list : all_events now (base r) (opened r) ≡ events
  pub sound : IsSound now may r
  pub runs : (base r).ended ≡ false

-- a sound reservoir that hasn't ended has these events, and they serve the plan of these queries
pub record IsReadFor (queries : List Asked) (events : List Event) (plan : Tasks) (now : Option Image) (may : Image → Type 0) (r : Reservoir) : Type 0 where
  pub read : HasRead events now may r
  pub made : plan ≡ plan_for queries
  pub serves : Serves (base r).shape.fields plan
