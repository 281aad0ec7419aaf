use Rattle.std.proofs.Common.{◌≡◌, ◌-◌, ◌++◌, [], length}
use Rattle.std.specs.List.{All}
use Rattle.rg_bytes.specs.Reading.{list_bytes, more_at}
use Rattle.rg_event.specs.Codec.{IsEventOf, event_bytes}
use Rattle.rg_event.specs.Rising.{IsRising, last_time, next_offset}
use Rattle.rg_chunk.specs.Chunks.{next_event_at}
use Rattle.rg_chunk.proofs.chunk.take_events.Given as goal

abbrev pub invariant-loop-done : goal.invariant-loop-done
invariant-loop-done l = record {
  counted : length l.events ≡ l.done;
  to_come : more_at (next_event_at l.schema.fields) [] l.count l.fn.from ≡ more_at (next_event_at l.schema.fields) l.events (l.count - l.done) l.from;
  taken : l.fn.from ≡ list_bytes event_bytes l.events ++ l.from;
  legal : All (IsEventOf l.schema.fields) l.events;
  rising : IsRising l.events;
  next : l.next ≡ next_offset l.events;
  time : l.time ≡ last_time l.events;
}
