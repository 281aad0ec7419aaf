use Rattle.std.proofs.Common.{◌≡◌, true, false, inl, inr, rules}
use Rattle.rg_chunk.specs.Chunks.{follows}
use Rattle.rg_chunk.proofs.Chunks.{event_stops, event_tested, follows_parts}
use Rattle.rg_chunk.proofs.chunk.take_event.Goals as goal

pub returns-in-Err-clause-agrees : goal.returns-in-Err-clause-agrees
returns-in-Err-clause-agrees c = elim c.in-Err.ensures.agrees [
  | inl stops ↦ inl (event_stops _ c.args.next c.args.time _ c.in-Err.fault stops)
  | inr memory ↦ inr memory
]

pub returns-then-not-may_follow-clause-agrees : goal.returns-then-not-may_follow-clause-agrees
returns-then-not-may_follow-clause-agrees c =
    let falls : follows c.in-Ok.event c.args.next c.args.time ≡ false = search rules in
    inl (event_tested _ c.args.next c.args.time _ c.in-Ok.event c.decode.new.from false c.in-Ok.ensures.agrees falls)

pub returns-clause-agrees : goal.returns-clause-agrees
returns-clause-agrees c =
    let may : follows c.in-Ok.event c.args.next c.args.time ≡ true = search rules in
    event_tested _ c.args.next c.args.time _ c.in-Ok.event c.decode.new.from true c.in-Ok.ensures.agrees may

pub returns-clause-offset : goal.returns-clause-offset
returns-clause-offset c =
    let may : follows c.in-Ok.event c.args.next c.args.time ≡ true = search rules in
    (follows_parts c.in-Ok.event c.args.next c.args.time may).0

pub returns-clause-time : goal.returns-clause-time
returns-clause-time c =
    let may : follows c.in-Ok.event c.args.next c.args.time ≡ true = search rules in
    (follows_parts c.in-Ok.event c.args.next c.args.time may).1
