use Rattle.std.proofs.Common.{map, sym, subst}
use Rattle.std.specs.Prelude.{All}
use Rattle.rg_metric.specs.Queries.{asked}
use Rattle.rg_plan.specs.Offsets.{IsMeasured}
use Rattle.rg_plan.proofs.Sizes.{windows_measured}
use Rattle.rg_plan.proofs.plan.plan_of.Goals as goal

pub timed_of-requires : goal.timed_of-requires
timed_of-requires c =
    subst (All IsMeasured) (sym c.in_ok-levels.ensures.windows) (windows_measured (map asked c.args.queries.now) c.requires.measured)
