-- Events with more values behind their own.
use Rattle.std.specs.Prelude.{List, ◌++◌, map}
use Rattle.rg_event.specs.declared.event.Event.{Event}
use Rattle.rg_event.specs.declared.value.Value.{Value}

-- the event with these values behind its own
abbrev pub extended : List Value → Event → Event
extended values event = record { offset = event.offset; time = event.time; values = event.values ++ values }

-- each of these events so
abbrev pub all_extended : List Value → List Event → List Event
all_extended values events = map (extended values) events
