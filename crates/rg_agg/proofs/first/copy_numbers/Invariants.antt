use Rattle.std.proofs.Common.{◌≡◌, ◌++◌}
use Rattle.rg_agg.proofs.first.copy_numbers.Given as goal

abbrev pub invariant-loop-number : goal.invariant-loop-number
invariant-loop-number l = l.copies.items ++ (l.number-iterator.head.now ++ l.number-iterator.wrapped.now) ≡ l.numbers.items
