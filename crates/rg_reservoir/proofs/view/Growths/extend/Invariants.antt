use Rattle.std.proofs.Common.{◌≡◌, drop}
use Rattle.rg_reservoir.specs.Views.{grown_at}
use Rattle.rg_reservoir.proofs.view.Growths.extend.Given as goal

abbrev pub invariant-loop-growing : goal.invariant-loop-growing
invariant-loop-growing l = grown_at (drop l.growing-index l.growing-items) l.place l.chunk ≡ grown_at l.growing-items l.place l.fn.chunk
