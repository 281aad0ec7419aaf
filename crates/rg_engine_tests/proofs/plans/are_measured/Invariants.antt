use Rattle.std.proofs.Common.{take}
use Rattle.std.specs.Prelude.{All}
use Rattle.rg_metric.specs.declared.query.Query.{Query}
use Rattle.rg_plan.specs.Offsets.{IsMeasured}
use Rattle.rg_engine_tests.proofs.plans.are_measured.Given as goal

abbrev pub invariant-loop-query : goal.invariant-loop-query
invariant-loop-query l = All (λ (q : Query). IsMeasured q.window) (take l.query-index l.queries)
