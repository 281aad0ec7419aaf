use Rattle.std.proofs.Common.{◌≡◌, length}
use Rattle.rg_engine_tests.proofs.engine.starts.Given as goal

abbrev pub invariant-loop-offset : goal.invariant-loop-offset
invariant-loop-offset l = length l.spots.items ≡ l._offset-index
