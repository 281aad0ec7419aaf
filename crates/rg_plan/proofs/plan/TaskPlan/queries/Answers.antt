use Rattle.std.proofs.Common.{map, arith}
use Rattle.rg_plan.specs.Nodes.{filtered}
use Rattle.rg_plan.specs.Plans.{Tasks}
use Rattle.rg_plan.proofs.Sizes.{paths_small}
use Rattle.rg_plan.proofs.plan.TaskPlan.queries.Goals as goal

pub overflow_cast-result : goal.overflow_cast-result
overflow_cast-result c =
    let p = c.self.inside in
    let plan : Tasks = record { offsets = p.offsets.items; windows = p.windows.items; filters = map filtered p.filters.items; groups = p.groups.items; aggs = p.aggs.items; paths = p.paths.items } in
    omega (arith, paths_small plan c.self.invariant, c.len.ensures)
