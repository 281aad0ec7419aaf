use Rattle.std.proofs.Common.{◌≡◌, take}
use Rattle.rg_chunk.specs.Extended.{all_extended}
use Rattle.rg_verify.proofs.longer.all_extended.Given as goal

abbrev pub invariant-loop-event : goal.invariant-loop-event
invariant-loop-event l = l.longer ≡ all_extended l.values (take l.event-index l.events)
