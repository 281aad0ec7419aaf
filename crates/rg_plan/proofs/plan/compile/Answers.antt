use Rattle.std.proofs.Common.{rules, ◌≡◌, None, map}
use Rattle.rg_metric.specs.Queries.{asked}
use Rattle.rg_plan.specs.Plans.{excess}
use Rattle.rg_plan.proofs.Compiled.{is_whole, is_begun}
use Rattle.rg_plan.proofs.plan.compile.Goals as goal

pub returns-clause-whole : goal.returns-clause-whole
returns-clause-whole c =
    let within : excess (map asked c.args.queries.now) ≡ None = search rules in
    is_whole c.in_ok-plan_of.field-0 (map asked c.args.queries.now) c.in_ok-plan_of.ensures c.requires within

pub returns-clause-begun : goal.returns-clause-begun
returns-clause-begun c = is_begun c.in_ok-plan_of.field-0 (map asked c.args.queries.now) c.in_ok-plan_of.ensures
