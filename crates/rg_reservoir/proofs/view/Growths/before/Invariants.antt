use Rattle.std.proofs.Common.{◌≡◌, drop}
use Rattle.rg_reservoir.specs.Views.{before}
use Rattle.rg_reservoir.proofs.view.Growths.before.Given as goal

abbrev pub invariant-loop-growing : goal.invariant-loop-growing
invariant-loop-growing l = before (drop l.growing-index l.growing-items) l.place ≡ before l.growing-items l.place
