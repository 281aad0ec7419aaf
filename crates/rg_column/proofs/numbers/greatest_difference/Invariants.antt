use Rattle.std.proofs.Common.{◌≡◌, max, drop}
use Rattle.rg_column.specs.Numbers.{greatest}
use Rattle.rg_column.proofs.numbers.greatest_difference.Given as goal

abbrev pub invariant-loop-difference : goal.invariant-loop-difference
invariant-loop-difference l = max l.greatest (greatest (drop l.difference-index l.differences)) ≡ greatest l.differences
