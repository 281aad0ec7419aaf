-- The ranges of an event.
use Rattle.std.specs.Prelude.{◌<◌, ◌≤◌, ◌^◌}
use Rattle.rg_event.specs.declared.event.Event.{Event}

-- an event's offset is below 2^62, and its time at most 10^15 milliseconds
pub record IsInRange (event : Event) : Type 0 where
  pub offset : event.offset < 2 ^ 62
  pub time : event.time ≤ 1000000000000000
