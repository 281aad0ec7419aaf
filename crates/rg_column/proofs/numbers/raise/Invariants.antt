use Rattle.std.proofs.Common.{◌≡◌, ◌++◌, drop, take}
use Rattle.rg_column.specs.Numbers.{raised}
use Rattle.rg_column.proofs.numbers.raise.Given as goal

abbrev pub invariant-loop-number : goal.invariant-loop-number
invariant-loop-number l = l.number-items ≡ raised l.base (take l.number-index l.fn.differences.items) ++ drop l.number-index l.fn.differences.items
