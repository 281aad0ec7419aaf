use Rattle.std.proofs.Common.{◌≡◌, drop}
use Rattle.rg_growth.specs.Growing.{begins}
use Rattle.rg_growth.proofs.grows.begin.Given as goal

abbrev pub invariant-loop-i : goal.invariant-loop-i
invariant-loop-i l = begins (drop l.i l.own) (drop l.i l.all) ≡ begins l.own l.all
