use Rattle.rg_parse.specs.Views.{call}
use Rattle.rg_query.specs.declared.fault.QueryFault.TheVariants.{WrongKind}
use Rattle.rg_query.proofs.Lists.{next_at, fault_at, handed_on}
use Rattle.rg_query.proofs.building.aggs.Goals as goal

pub returns-in_err-agg : goal.returns-in_err-agg
returns-in_err-agg c known =
    rw (handed_on c.from_residual.result _ c.from_residual.ensures)
    (fault_at WrongKind (call c.args.text.now) c.args.calls.now c.loop-call.call-index _ _ _ c.loop-call-test.true (c.loop-call.invariant known) c.in_err-agg.ensures)

pub loop-call-preserved : goal.loop-call-preserved
loop-call-preserved c known =
    rw c.in_ok-push.ensures.ok (next_at WrongKind (call c.args.text.now) c.args.calls.now c.loop-call.call-index _ _ c.loop-call-test.true (c.loop-call.invariant known) c.in_ok-agg.ensures)
