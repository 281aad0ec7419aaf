use Rattle.std.proofs.Common.{◌≡◌, ◌++◌, ◌∷◌, [], Ok, rules}
use Rattle.rg_event.specs.Codec.{IsEventOf, event_bytes}
use Rattle.rg_bytes.proofs.Laws.{step_counted, step_to_come, step_taken, step_legal}
use Rattle.rg_chunk.specs.Chunks.{next_event_at}
use Rattle.rg_chunk.proofs.Chunks.{next_is, next_pushed, time_pushed, rising_pushed}
use Rattle.rg_chunk.proofs.chunk.take_events.Goals as goal

pub loop-done-preserved : goal.loop-done-preserved
loop-done-preserved c =
    let fields = c.args.schema.now.fields in
    let old = c.loop-done.events in
    let new = c.push.new.self in
    let event = c.in-Ok-take_event.event in
    let left = c.take_event.new.from in
    let pushed : new ≡ old ++ event ∷ [] = c.in-Ok-push.ensures.ok in
    let here : next_event_at fields old c.loop-done.from ≡ Ok (event, left) =
    next_is fields old c.loop-done.next c.loop-done.time c.loop-done.from (Ok (event, left)) c.loop-done.invariant.next c.loop-done.invariant.time c.in-Ok-take_event.ensures.agrees in
    record {
      counted = step_counted old new event c.loop-done.done pushed c.loop-done.invariant.counted;
      to_come = step_to_come (next_event_at fields) old new event c.args.count c.loop-done.done c.args.from.now c.loop-done.from left pushed (search rules) c.loop-done.invariant.to_come here;
      taken = step_taken event_bytes old new event c.args.from.now c.loop-done.from left pushed c.loop-done.invariant.taken c.in-Ok-take_event.ensures.ok;
      legal = step_legal (IsEventOf fields) old new event pushed c.loop-done.invariant.legal c.in-Ok-take_event.ensures.legal;
      rising = rising_pushed old new event c.loop-done.next c.loop-done.time pushed c.loop-done.invariant.rising c.loop-done.invariant.next c.loop-done.invariant.time c.in-Ok-take_event.ensures.offset c.in-Ok-take_event.ensures.time;
      next = next_pushed old new event pushed;
      time = time_pushed old new event pushed;
    }
