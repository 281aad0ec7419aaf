use Rattle.std.proofs.Common.{take, ◌≤◌}
use Rattle.std.specs.Prelude.{All}
use Rattle.rg_past.specs.declared.past.Spot.{Spot}
use Rattle.rg_engine_tests.proofs.check.are_within.Given as goal

abbrev pub invariant-loop-spot : goal.invariant-loop-spot
invariant-loop-spot l = All ((λ (spot : Spot). spot.number ≤ l.count)) (take l.spot-index l.spots)
