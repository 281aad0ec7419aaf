use Rattle.std.proofs.Common.{subst, arith}
use Rattle.std.specs.Prelude.{All}
use Rattle.std.proofs.lemmas.List.{take_all}
use Rattle.std.proofs.lemmas.List.Elements.{All-more, All-map}
use Rattle.rg_metric.specs.declared.query.Query.{Query}
use Rattle.rg_metric.specs.Queries.{asked, Asked}
use Rattle.rg_plan.specs.Offsets.{IsMeasured}
use Rattle.rg_engine_tests.proofs.plans.are_measured.Goals as goal

pub loop-query-preserved : goal.loop-query-preserved
loop-query-preserved c =
    All-more (λ (q : Query). IsMeasured q.window) c.args.queries.now c.loop-query.query-index c.query-item.result c.loop-query-test.true c.loop-query.invariant
    (subst (λ (q : Query). IsMeasured q.window) c.query-item.is (c.is_too_long.ensures c.if-is_too_long.false))

pub returns : goal.returns
returns c _ =
    All-map (λ (q : Asked). IsMeasured q.window) asked c.args.queries.now
    (subst (All (λ (q : Query). IsMeasured q.window)) (take_all c.loop-query.query-index c.args.queries.now (omega (arith, c.loop-query-test.false))) c.loop-query.invariant)
