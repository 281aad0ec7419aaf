-- How far a walk over a log has come, and what a frame of it is.
use Rattle.std.specs.Prelude.{◌≡◌, ◌+◌, ℕ, List, length, Option, Some, None, option_map, option_and_then}
use Rattle.rg_event.specs.Shapes.{Shape}
use Rattle.rg_event.specs.declared.event.Event.{Event}
use Rattle.rg_frame.specs.Frames.{payload_at}
use Rattle.rg_log.specs.Entries.{entry_of, with_entry, events_by}
use Rattle.rg_log.specs.declared.entry.Entry.{Entry}
use Rattle.rg_log.specs.declared.entry.Entry.TheVariants as entry
use Rattle.rg_log.specs.declared.entry.LogSoFar.{LogSoFar}
use Rattle.rg_log.specs.declared.summary.LogSummary.{LogSummary}
use Rattle.rg_reservoir.specs.Heads.{IsOpenGate}
use Rattle.rg_reservoir.specs.declared.walk.Stage.{Stage}
use Rattle.rg_reservoir.specs.declared.walk.Stage.TheVariants as stage
use Rattle.rg_reservoir.specs.declared.walk.Walk.{Walk}

-- the place that it has come to; what the frames so far say: the schema, once its frame was read, and what the heads of the chunks come to
abbrev pub place_of : Walk → ℕ
place_of w = w.place

abbrev pub so_far_of : Walk → LogSoFar
so_far_of w = w.so_far

abbrev pub schema_of : Walk → Option Shape
schema_of w = w.so_far.schema

abbrev pub tally_of : Walk → LogSummary
tally_of w = w.so_far.summary

-- what a frame is that is read whole: the schema, the events of a chunk by the schema in force, or a growth
abbrev pub stage_by : Option Shape → List ℕ → Entry → Option Stage
stage_by schema payload (entry.Schema shape) = Some (stage.Schema shape)
stage_by schema payload (entry.Chunk head) = option_map (λ (events : List Event). stage.Chunk events) (events_by schema payload)
stage_by schema payload (entry.Growth growth) = Some (stage.Growth growth.to growth.values)

-- both, where they are there
abbrev pub with_both : Option Stage → Option LogSoFar → Option (Stage × LogSoFar)
with_both None next = None
with_both (Some s) None = None
with_both (Some s) (Some next) = Some (s, next)

-- one step, read whole: what the frame of this payload is, and what the frames then say, where it may follow those so far
abbrev pub stage_after : LogSoFar → List ℕ → Option (Stage × LogSoFar)
stage_after so_far payload = option_and_then (λ (e : Entry). with_both (stage_by so_far.schema payload e) (with_entry so_far e)) (entry_of so_far.schema payload)

-- that payload is this stage of the log, and the walk goes on at that place
abbrev pub IsTaken : List ℕ → ℕ → Walk → Stage → Walk → Type 0
IsTaken payload next old s new = (stage_after (so_far_of old) payload ≡ Some (s, so_far_of new)) × (place_of new ≡ next)

-- the frame where the walk has come to is that stage of the log, and the walk goes on behind it
abbrev pub IsNext : List ℕ → Walk → Stage → Walk → Type 0
IsNext bytes old stage new = (payload : List ℕ) × (payload_at (place_of old) bytes ≡ Some payload) × IsTaken payload (place_of old + 9 + length payload) old stage new

-- that payload isn't what its place asks for, or doesn't continue the frames so far
abbrev pub IsUntaken : List ℕ → Walk → Type 0
IsUntaken payload walk = stage_after (so_far_of walk) payload ≡ None

-- an open gate stands where the walk has come to, and behind it no whole frame with a payload that may follow
pub record IsRefusedWalk (bytes : List ℕ) (walk : Walk) : Type 0 where
  pub gate : IsOpenGate (place_of walk) bytes
  pub untaken : (payload : List ℕ) → payload_at (place_of walk) bytes ≡ Some payload → IsUntaken payload walk
