use Rattle.std.proofs.Common.{drop}
use Rattle.std.specs.List.{All}
use Rattle.rg_event.specs.Codec.{IsEventOf}
use Rattle.rg_chunk.proofs.legal.are_legal.Given as goal

abbrev pub invariant-loop-event : goal.invariant-loop-event
invariant-loop-event l = All (IsEventOf l.fields) (drop l.event-index l.events) → All (IsEventOf l.fields) l.events
