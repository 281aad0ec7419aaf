use Rattle.rg_chunk.proofs.Judging.{legal_more}
use Rattle.std.proofs.Common.{rules}
use Rattle.rg_event.specs.Codec.{IsEventOf}
use Rattle.rg_chunk.proofs.legal.are_legal.Goals as goal

pub loop-event-preserved : goal.loop-event-preserved
loop-event-preserved c = λ more.
    let one : IsEventOf c.args.fields.now c.event-item.result = search rules in
    c.loop-event.invariant (legal_more c.args.fields.now c.args.events.now c.loop-event.event-index c.event-item.result c.loop-event-test.true c.event-item.is one more)
