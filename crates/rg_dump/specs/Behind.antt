-- What frames of a log put in force, and what the events are of those before and behind them.
use Rattle.std.specs.Prelude.{List, [], ◌∷◌, ◌++◌, length, drop, Option, Some}
use Rattle.rg_event.specs.Shapes.{Shape}
use Rattle.rg_event.specs.declared.event.Event.{Event}
use Rattle.rg_event.specs.declared.value.Value.{Value}
use Rattle.rg_chunk.specs.Extended.{all_extended}
use Rattle.rg_reservoir.specs.declared.walk.Stage.{Stage}
use Rattle.rg_reservoir.specs.declared.walk.Stage.TheVariants as stage

-- the schema in force behind a frame, if one is
abbrev pub known_after : Option Shape → Stage → Option Shape
known_after known (stage.Schema shape) = Some shape
known_after known (stage.Chunk events) = known
known_after known (stage.Growth shape values) = Some shape

-- and behind frames
abbrev pub known_behind : Option Shape → List Stage → Option Shape
known_behind known [] = known
known_behind known (s ∷ stages) = known_behind (known_after known s) stages

-- the values that a frame puts behind those of an event before it
abbrev pub stage_values : Stage → List Value
stage_values (stage.Schema shape) = []
stage_values (stage.Chunk events) = []
stage_values (stage.Growth shape values) = values

-- and frames
abbrev pub values_of : List Stage → List Value
values_of [] = []
values_of (s ∷ stages) = stage_values s ++ values_of stages

-- what is left of the values of frames behind the first one of them
abbrev pub behind_after : Stage → List Value → List Value
behind_after (stage.Schema shape) values = values
behind_after (stage.Chunk events) values = values
behind_after (stage.Growth shape own) values = drop (length own) values

-- the events of a frame
abbrev pub stage_events : Stage → List Event
stage_events (stage.Schema shape) = []
stage_events (stage.Chunk events) = events
stage_events (stage.Growth shape values) = []

-- the events of frames, one after another, each with the values of every later growth behind its own
abbrev pub events_in : List Stage → List Event
events_in [] = []
events_in (s ∷ stages) = all_extended (values_of stages) (stage_events s) ++ events_in stages
