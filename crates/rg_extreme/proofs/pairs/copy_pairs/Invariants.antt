use Rattle.std.proofs.Common.{◌≡◌, ◌++◌}
use Rattle.rg_extreme.proofs.pairs.copy_pairs.Given as goal

abbrev pub invariant-loop-pair : goal.invariant-loop-pair
invariant-loop-pair l = l.copies.items ++ (l.pair-iterator.head.now ++ l.pair-iterator.wrapped.now) ≡ l.pairs.items
