use Rattle.std.proofs.Common.{subst}
use Rattle.rg_plan.specs.Whole.{IsWhole}
use Rattle.rg_plan.proofs.Whole.{whole}
use Rattle.rg_plan.proofs.plan.TaskPlan.aggs.Goals as goal

pub returns-clause-whole : goal.returns-clause-whole
returns-clause-whole c = subst IsWhole c.self.view_is (whole _ c.self.invariant)
