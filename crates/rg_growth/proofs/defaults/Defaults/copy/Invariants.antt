use Rattle.std.proofs.Common.{◌≡◌, take}
use Rattle.rg_growth.proofs.defaults.Defaults.copy.Given as goal

abbrev pub invariant-loop-default : goal.invariant-loop-default
invariant-loop-default l = l.list.items ≡ take l.default-index l.default-items
