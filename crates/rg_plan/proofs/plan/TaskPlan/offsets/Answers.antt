use Rattle.std.proofs.Common.{sym, subst}
use Rattle.rg_plan.specs.Offsets.{AreRising}
use Rattle.rg_plan.specs.Whole.{IsWhole}
use Rattle.rg_plan.proofs.Whole.{whole}
use Rattle.rg_plan.proofs.plan.TaskPlan.offsets.Goals as goal

pub returns-clause-rising : goal.returns-clause-rising
returns-clause-rising c = let is = whole _ c.self.invariant in subst AreRising (sym c.deref.ensures.value) is.rising

pub returns-clause-whole : goal.returns-clause-whole
returns-clause-whole c = subst IsWhole c.self.view_is (whole _ c.self.invariant)
