use Rattle.std.proofs.Common.{◌≡◌, length}
use Rattle.rg_engine.proofs.tree.empty_keys.Given as goal

abbrev pub invariant-loop-group : goal.invariant-loop-group
invariant-loop-group l = length l.keys.items ≡ l._group-index
