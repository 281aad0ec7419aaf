use Rattle.std.proofs.Common.{◌≡◌, drop}
use Rattle.rg_reservoir.specs.Views.{passed}
use Rattle.rg_reservoir.proofs.view.Growths.passed.Given as goal

abbrev pub invariant-loop-growing : goal.invariant-loop-growing
invariant-loop-growing l = passed (drop l.growing-index l.growing-items) l.at ≡ passed l.growing-items l.place
