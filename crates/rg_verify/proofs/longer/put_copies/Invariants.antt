use Rattle.std.proofs.Common.{◌≡◌, ◌++◌, drop}
use Rattle.rg_verify.proofs.longer.put_copies.Given as goal

abbrev pub invariant-loop-value : goal.invariant-loop-value
invariant-loop-value l = l.out ++ drop l.value-index l.values ≡ l.fn.out ++ l.values
