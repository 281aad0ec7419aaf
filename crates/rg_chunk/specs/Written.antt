-- A payload, beside the events that it was written of.
use Rattle.std.specs.Prelude.{ℕ, List}
use Rattle.rg_event.specs.declared.event.Event.{Event}

-- the payload, and the events, the first one first
pub record Put : Type 0 where
  pub payload : List ℕ
  pub events : List Event
