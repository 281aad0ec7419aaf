use Rattle.std.proofs.Common.{◌≡◌, true, false, sym, ◌∙◌, rules, arith}
use Rattle.rg_chunk.specs.Chunks.{HasOffset, follows}
use Rattle.rg_chunk.proofs.Chunks.{has_offset, rises_more, rises_not, rises_end}
use Rattle.rg_chunk.proofs.chunk.is_rising.Goals as goal

pub returns-then-not-may_follow : goal.returns-then-not-may_follow
returns-then-not-may_follow c =
    let falls : follows c.event-item.result c.loop-event.lowest c.loop-event.earliest ≡ false = search rules in
    sym (sym c.loop-event.invariant ∙ rises_not c.args.events.now c.loop-event.event-index c.loop-event.lowest c.loop-event.earliest c.event-item.result c.loop-event-test.true c.event-item.is falls)

pub overflow_add-lowest : goal.overflow_add-lowest
overflow_add-lowest c =
    let has : HasOffset c.event-item.result = has_offset c.args.events.now c.loop-event.event-index c.event-item.result c.loop-event-test.true c.event-item.is c.requires in
    omega (arith, has)

pub loop-event-preserved : goal.loop-event-preserved
loop-event-preserved c =
    let may : follows c.event-item.result c.loop-event.lowest c.loop-event.earliest ≡ true = search rules in
    sym (rises_more c.args.events.now c.loop-event.event-index c.loop-event.lowest c.loop-event.earliest c.event-item.result c.loop-event-test.true c.event-item.is may) ∙ c.loop-event.invariant

pub returns : goal.returns
returns c = sym (sym c.loop-event.invariant ∙ rises_end c.args.events.now c.loop-event.event-index c.loop-event.lowest c.loop-event.earliest c.loop-event-test.false)
