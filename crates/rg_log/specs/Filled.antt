-- The events that a log has for a schema to which the one in force at its end grows: each column that it lacks has its default in
-- every event.
use Rattle.std.specs.Prelude.{◌≡◌, ◌⊎◌, ℕ, List}
use Rattle.rg_event.specs.Shapes.{Shape}
use Rattle.rg_event.specs.declared.event.Event.{Event}
use Rattle.rg_event.specs.declared.value.Value.{Value}
use Rattle.rg_growth.specs.Filling.{Given, IsFilled}
use Rattle.rg_chunk.specs.Extended.{all_extended}
use Rattle.rg_log.specs.Log.{HasEvents, IsInForce, IsOfSchema}

-- the schema in force at the log's end grows to this one by these defaults, and these are its events with them behind their own values
pub record HasFilled (shape : Shape) (defaults : Given) (events : List Event) (bytes : List ℕ) : Type 0 where
  pub from : Shape
  pub values : List Value
  pub fills : IsFilled from shape defaults values
  pub framed : IsInForce from bytes
  pub own : List Event
  pub has : HasEvents from own bytes
  pub are : events ≡ all_extended values own

-- the log's events for a schema that is in force at its end, that the one in force there grows to by these defaults, or that it may begin with
abbrev pub HasEventsFor : Shape → Given → List Event → List ℕ → Type 0
HasEventsFor shape defaults events bytes = HasEvents shape events bytes ⊎ HasFilled shape defaults events bytes

-- the file has no frame; or this schema is in force at its end; or one that grows to it by these defaults
abbrev pub IsOfSchemaFor : Shape → Given → List ℕ → Type 0
IsOfSchemaFor shape defaults bytes = IsOfSchema shape bytes ⊎ ((from : Shape) × (values : List Value) × IsFilled from shape defaults values × IsInForce from bytes)
