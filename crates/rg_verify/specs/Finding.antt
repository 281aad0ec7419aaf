-- What a log is to a schema and its defaults: which values come behind those of its events.
use Rattle.std.specs.Prelude.{◌≡◌, ◌≢◌, ℕ, List, Option, Some, None}
use Rattle.rg_event.specs.Shapes.{Shape}
use Rattle.rg_event.specs.declared.event.Event.{Event}
use Rattle.rg_event.specs.declared.value.Value.{Value}
use Rattle.rg_growth.specs.Filling.{Given, IsFilled, filled}
use Rattle.rg_log.specs.Filled.{HasEventsFor}
use Rattle.rg_reservoir.specs.Attached.{IsForeign}
use Rattle.rg_verify.specs.Payments.{extended_by, payments_in}

-- what comes behind the values of an event of the first schema to make it one of the other: nothing where they are one, and else the defaults by which it grows
abbrev pub IsFurther : Shape → Shape → Given → Option (List Value) → Type 0
IsFurther from shape defaults None = from ≡ shape
IsFurther from shape defaults (Some values) = IsFilled from shape defaults values

-- the first schema is another than that one, and doesn't grow to it by these defaults
pub record IsApart (from shape : Shape) (defaults : Given) : Type 0 where
  pub differs : from ≢ shape
  pub cannot : filled from shape defaults ≡ None

-- with these behind the values of each of its payments, the events of the log of a file are those for that schema and its defaults, if it has such; and it is of no schema that is foreign to that one
pub record IsFoundFor (shape : Shape) (defaults : Given) (further : Option (List Value)) (bytes : List ℕ) : Type 0 where
  pub events : (events : List Event) → HasEventsFor shape defaults events bytes → extended_by further (payments_in bytes) ≡ events
  pub ours : IsForeign shape defaults bytes → ⊥
