use Rattle.std.proofs.Common.{◌≤◌, ap, arith}
use Rattle.std.proofs.lemmas.Bool.{leb-true}
use Rattle.rg_engine.proofs.Laws.{last_at, not_empty}
use Rattle.rg_engine_tests.proofs.check.may_follow.Goals as goal

pub returns-then-last-event : goal.returns-then-last-event
returns-then-last-event c = λ is.
    let some = not_empty c.args.events.now c.is_empty.result c.is_empty.ensures c.if-is_empty.false in
    let last = last_at c.args.events.now _ c.index-events-events.result some in
    let time : c.index-events-events.result.time ≤ c.args.event.now.time = leb-true _ _ is in
    record {
      offset = omega (arith, last.0, ap (λ e. e.offset) c.index-events-events.is, c.if-last-event.true);
      time = omega (arith, last.1, ap (λ e. e.time) c.index-events-events.is, time);
    }
