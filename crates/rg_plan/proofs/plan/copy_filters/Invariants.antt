use Rattle.std.proofs.Common.{◌≡◌, map, take}
use Rattle.rg_plan.specs.Nodes.{filtered}
use Rattle.rg_plan.proofs.plan.copy_filters.Given as goal

abbrev pub invariant-loop-filter : goal.invariant-loop-filter
invariant-loop-filter l = map filtered l.copies.items ≡ map filtered (take l.filter-index l.filters)
