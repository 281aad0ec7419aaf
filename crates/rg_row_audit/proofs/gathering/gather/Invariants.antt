use Rattle.std.proofs.Common.{take}
use Rattle.rg_row_audit.specs.Gathering.{node_of, AreGathered}
use Rattle.rg_row_audit.proofs.gathering.gather.Given as goal

abbrev pub invariant-events : goal.invariant-events
invariant-events l = AreGathered (node_of l.asking) l.time (take l.event-index l.events) l.map
