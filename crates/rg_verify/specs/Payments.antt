-- What a log has, up to where it ends or is damaged.
use Rattle.std.specs.Prelude.{◌≡◌, ℕ, Bool, true, false, List, [], ◌∷◌, ◌++◌, Option, Some, None}
use Rattle.rg_event.specs.declared.event.Event.{Event}
use Rattle.rg_event.specs.declared.value.Value.{Value}
use Rattle.rg_chunk.specs.Extended.{all_extended}
use Rattle.rg_reservoir.specs.declared.walk.Stage.{Stage}
use Rattle.rg_reservoir.specs.declared.walk.Stage.TheVariants as stage
use Rattle.rg_dump.specs.Behind.{events_in}
use Rattle.rg_dump.specs.Dump.{damage_of}
use Rattle.rg_dump.specs.Stages.{stages_of}

-- the events up to and with a frame, where these are in front of it: those of a chunk come behind them, and the values of a growth behind those of each
abbrev pub events_after : List Event → Stage → List Event
events_after events (stage.Schema shape) = events
events_after events (stage.Chunk chunk) = events ++ chunk
events_after events (stage.Growth shape values) = all_extended values events

-- the events with these values behind their own, where there are some
abbrev pub extended_by : Option (List Value) → List Event → List Event
extended_by None events = events
extended_by (Some values) events = all_extended values events

abbrev pub has_frames : List Stage → Bool
has_frames [] = false
has_frames (s ∷ stages) = true

-- the events of the log of a file, each with the values of every later growth behind its own
abbrev pub payments_in : List ℕ → List Event
payments_in bytes = events_in (stages_of bytes).stages

-- the log of a file has a frame
abbrev pub is_framed : List ℕ → Bool
is_framed bytes = has_frames (stages_of bytes).stages

-- the whole log of a file was read: its events, whether it has a frame, and nothing of it is damaged
pub record IsReadAll (bytes : List ℕ) (events : List Event) (framed : Bool) : Type 0 where
  pub events_are : events ≡ payments_in bytes
  pub framed_is : framed ≡ is_framed bytes
  pub undamaged : damage_of bytes ≡ None
