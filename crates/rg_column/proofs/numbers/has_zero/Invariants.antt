use Rattle.std.proofs.Common.{◌≡◌, ◌==◌, drop}
use Rattle.rg_column.specs.Numbers.{least}
use Rattle.rg_column.proofs.numbers.has_zero.Given as goal

abbrev pub invariant-loop-difference : goal.invariant-loop-difference
invariant-loop-difference l = (least (drop l.difference-index l.differences) == 0) ≡ (least l.differences == 0)
