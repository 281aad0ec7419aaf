use Rattle.std.proofs.Common.{◌≡◌, ◌++◌}
use Rattle.rg_multiset.proofs.map.copy_in.Given as goal

abbrev pub invariant-loop-key : goal.invariant-loop-key
invariant-loop-key g l = l.copies.entries ++ l.key-iterator ≡ l.map.entries
