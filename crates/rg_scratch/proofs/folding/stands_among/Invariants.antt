use Rattle.std.proofs.Common.{◌≡◌, false, take}
use Rattle.std.specs.List.{list_any}
use Rattle.rg_metric.specs.Same.{same_value}
use Rattle.rg_scratch.specs.Asking.{counted}
use Rattle.rg_scratch.proofs.folding.stands_among.Given as goal

abbrev pub invariant-places : goal.invariant-places
invariant-places l = list_any (same_value l.value) (counted l.asking l.answered (take l.place l.events)) ≡ false
