use Rattle.std.proofs.Common.{◌≡◌, drop}
use Rattle.rg_growth.specs.Filling.{all_given}
use Rattle.rg_growth.proofs.Filled.{behind}
use Rattle.rg_growth.proofs.filling.given.Given as goal

abbrev pub invariant-loop-default : goal.invariant-loop-default
invariant-loop-default l = all_given l.defaults ≡ behind l.values (all_given (drop l.default-index l.defaults))
