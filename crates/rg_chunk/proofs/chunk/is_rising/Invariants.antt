use Rattle.std.proofs.Common.{◌≡◌, drop}
use Rattle.rg_chunk.specs.Chunks.{rises_from}
use Rattle.rg_chunk.proofs.chunk.is_rising.Given as goal

abbrev pub invariant-loop-event : goal.invariant-loop-event
invariant-loop-event l = rises_from l.lowest l.earliest (drop l.event-index l.events) ≡ rises_from 0 0 l.events
