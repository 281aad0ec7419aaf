use Rattle.std.proofs.Common.{◌≡◌, ◌∙◌, ◌⊎◌, inl, inr, List, [], Err, refl, ap, sym, subst}
use Rattle.std.specs.Prelude.{⊤}
use Rattle.rg_engine.specs.Feeding.{Serves}
use Rattle.rg_event.specs.Shapes.{Shape}
use Rattle.rg_event.specs.declared.event.Event.{Event}
use Rattle.rg_host.specs.Puts.{Puts}
use Rattle.rg_host.proofs.Laws.{puts-then}
use Rattle.std.specs.Option.{ForSome}
use Rattle.rg_frame.specs.Frames.{HasPayloads}
use Rattle.rg_host.specs.Image.{Image}
use Rattle.rg_reservoir.specs.Kept.{base, next_of, time_of}
use Rattle.rg_replay.specs.Playing.{Answered, IsWholeIn, IsLegalThrough}
use Rattle.rg_replay.specs.Replay.{replay_text}
use Rattle.rg_replay.proofs.Causes.{log_expected, log_disk, log_damaged, log_differs, log_not_write}
use Rattle.rg_replay.proofs.Played.{if_err_of}
use Rattle.rg_replay.proofs.Progress.{last_put, none_put, answered_behind}
use Rattle.rg_replay.proofs.Quiet.{puts_nothing, leaves_all, leaves_store-then, caused_opened, caused_end}
use Rattle.rg_replay.proofs.Reading.{on_ok, on_ok_some, on_ok_then, legal_through}
use Rattle.rg_replay.proofs.replaying.replay_log.Goals as goal

-- where the log has a frame

pub returns-in-Ok-Some-clause-answered : goal.returns-in-Ok-Some-clause-answered
returns-in-Ok-Some-clause-answered g c = λ queries events is.
    let sound = (rw c.in-Ok-Some.field-0-is at c.in-Ok-Some.ensures.sound) is.image events is.told is.settled is.has in
    let going = rw c.in-Ok-Some.field-0-is at c.in-Ok-Some.ensures.going in
    let text = replay_text queries c.args.first events in
    let went = c.replay_opened-replayed.ensures.answered queries events (record {
      read = record { list = sound.1; sound = sound.0; runs = going.0 };
      made = is.made;
      serves = subst (λ (shape : Shape). Serves shape.fields c.args.plan) (sym going.2) is.serves;
    }) in
    answered_behind text text (Puts g.H.Host.said g.H.Host.clock g.H.Host.since c.view.new.host c.replay_opened-replayed.new.host) (Puts g.H.Host.said g.H.Host.clock g.H.Host.since c.args.host.now c.replay_opened-replayed.new.host) ⊤
    (λ x put. puts-then g.H.Host.said g.H.Host.clock g.H.Host.since _ _ _ [] x (puts_nothing g.H.Host.now g.H.Host.may g.H.Host.clock g.H.Host.since g.H.Host.said _ _ c.view.ensures.leaves) put) c.replay_opened-replayed.result went

pub returns-in-Ok-Some-clause-refused : goal.returns-in-Ok-Some-clause-refused
returns-in-Ok-Some-clause-refused g c = λ v told why. absurd (c.in-Ok-Some.ensures.exact v told why)

pub returns-in-Ok-Some-clause-ends : goal.returns-in-Ok-Some-clause-ends
returns-in-Ok-Some-clause-ends g c = record {
  leaves = leaves_store-then g.H.Host.now g.H.Host.may g.H.Host.clock g.H.Host.since g.H.Host.disk_faults g.H.Host.out_faults _ _ _
      (leaves_all g.H.Host.now g.H.Host.may g.H.Host.clock g.H.Host.since g.H.Host.said g.H.Host.disk_faults g.H.Host.out_faults _ _ c.view.ensures.leaves c.view.ensures.disk_faults c.view.ensures.out_faults) c.replay_opened-replayed.ensures.leaves;
  cause =
      let going = rw c.in-Ok-Some.field-0-is at c.in-Ok-Some.ensures.going in
      let seen = rw c.in-Ok-Some.field-0-is at c.in-Ok-Some.ensures.view in
      if_err_of c.replay_opened-replayed.result _ _ c.replay_opened-replayed.ensures.cause (λ fault cause.
      caused_opened g.H.Host.now g.H.Host.may g.H.Host.clock g.H.Host.since g.H.Host.disk_faults g.H.Host.out_faults (base c.in-Ok-Some.viewed) c.args.schema.now fault _ _ _ going.1 seen
      (leaves_all g.H.Host.now g.H.Host.may g.H.Host.clock g.H.Host.since g.H.Host.said g.H.Host.disk_faults g.H.Host.out_faults _ _ c.view.ensures.leaves c.view.ensures.disk_faults c.view.ensures.out_faults) cause);
}

-- where it has none

pub returns-in-Ok-None-clause-answered : goal.returns-in-Ok-None-clause-answered
returns-in-Ok-None-clause-answered g c = λ queries events is.
    let none : events ≡ [] = (rw c.in-Ok-None.field-0-is at c.in-Ok-None.ensures.empty_log) is.image events is.told is.has in
    let quiet = puts_nothing g.H.Host.now g.H.Host.may g.H.Host.clock g.H.Host.since g.H.Host.said _ _ c.view.ensures.leaves in
    subst (λ (l : List Event). Answered (replay_text queries c.args.first l) (replay_text queries c.args.first l) (Puts g.H.Host.said g.H.Host.clock g.H.Host.since c.args.host.now c.put_end.new.host) ⊤ c.put_end.result) (sym none)
    (last_put queries c.args.first [] (Puts g.H.Host.said g.H.Host.clock g.H.Host.since c.args.host.now c.view.new.host) (Puts g.H.Host.said g.H.Host.clock g.H.Host.since c.view.new.host c.put_end.new.host) (Puts g.H.Host.said g.H.Host.clock g.H.Host.since c.args.host.now c.put_end.new.host)
    (λ x y. puts-then g.H.Host.said g.H.Host.clock g.H.Host.since _ _ _ x y) c.new-text.result.items (record { out = []; held = []; both = refl; puts = quiet; text_is = c.new-text.ensures.items }) c.put_end.result (c.put_end.ensures.puts [] c.new-text.ensures.items))

pub returns-in-Ok-None-clause-refused : goal.returns-in-Ok-None-clause-refused
returns-in-Ok-None-clause-refused g c = λ v told why. absurd (c.in-Ok-None.ensures.exact v told why)

pub returns-in-Ok-None-clause-ends : goal.returns-in-Ok-None-clause-ends
returns-in-Ok-None-clause-ends g c = record {
  leaves = leaves_store-then g.H.Host.now g.H.Host.may g.H.Host.clock g.H.Host.since g.H.Host.disk_faults g.H.Host.out_faults _ _ _
      (leaves_all g.H.Host.now g.H.Host.may g.H.Host.clock g.H.Host.since g.H.Host.said g.H.Host.disk_faults g.H.Host.out_faults _ _ c.view.ensures.leaves c.view.ensures.disk_faults c.view.ensures.out_faults) c.put_end.ensures.leaves;
  cause = if_err_of c.put_end.result _ _ c.put_end.ensures.write (λ fault put.
      caused_end g.H.Host.now g.H.Host.may g.H.Host.clock g.H.Host.since g.H.Host.disk_faults g.H.Host.out_faults c.args.schema.now fault _ _ _
      (leaves_all g.H.Host.now g.H.Host.may g.H.Host.clock g.H.Host.since g.H.Host.said g.H.Host.disk_faults g.H.Host.out_faults _ _ c.view.ensures.leaves c.view.ensures.disk_faults c.view.ensures.out_faults) put);
}

-- where the log is refused

pub reservoir_fault-requires : goal.reservoir_fault-requires
reservoir_fault-requires g c =
    let never = c.in-Err.ensures.neither in
    record { full = λ is. never.0 (ap Err is); ended = λ is. never.1 (ap Err is) }

pub returns-in-Err-clause-answered : goal.returns-in-Err-clause-answered
returns-in-Err-clause-answered g c = λ queries events is.
    let refused = c.in-Err.ensures in
    let why = log_expected c.in-Err.fault (λ p e. refused.legal is.image events p is.told is.has (ap Err e)) (λ e. refused.legal_ours is.image events is.told is.has (ap Err e)) in
    let none = none_put (replay_text queries c.args.first events) (Puts g.H.Host.said g.H.Host.clock g.H.Host.since c.args.host.now c.view.new.host) c.reservoir_fault.result (puts_nothing g.H.Host.now g.H.Host.may g.H.Host.clock g.H.Host.since g.H.Host.said _ _ c.view.ensures.leaves) in
    (rw (← c.reservoir_fault.ensures) at why, none)

pub returns-in-Err-clause-refused : goal.returns-in-Err-clause-refused
returns-in-Err-clause-refused g c = λ v told why. (tt, puts_nothing g.H.Host.now g.H.Host.may g.H.Host.clock g.H.Host.since g.H.Host.said _ _ c.view.ensures.leaves)

pub returns-in-Err-clause-ends : goal.returns-in-Err-clause-ends
returns-in-Err-clause-ends g c = record {
  leaves = leaves_all g.H.Host.now g.H.Host.may g.H.Host.clock g.H.Host.since g.H.Host.said g.H.Host.disk_faults g.H.Host.out_faults _ _ c.view.ensures.leaves c.view.ensures.disk_faults c.view.ensures.out_faults;
  cause =
      let refused = c.in-Err.ensures in
      let f = c.in-Err.fault in
      record {
        disk = λ is. refused.disk (ap Err (log_disk f (sym c.reservoir_fault.ensures ∙ is)));
        damaged = λ p is. inl (refused.damaged p (ap Err (log_damaged f p (sym c.reservoir_fault.ensures ∙ is))));
        write = λ is. absurd (log_not_write f (sym c.reservoir_fault.ensures ∙ is));
        differs = λ is. refused.differs (ap Err (log_differs f (sym c.reservoir_fault.ensures ∙ is)));
      };
}

-- what an end that is well says of the log

pub returns-in-Ok-Some-clause-whole : goal.returns-in-Ok-Some-clause-whole
returns-in-Ok-Some-clause-whole g c =
    let shape = c.args.schema.now in
    let now = g.H.Host.now c.args.host.now in
    let r = c.in-Ok-Some.viewed in
    let going = rw c.in-Ok-Some.field-0-is at c.in-Ok-Some.ensures.going in
    let mid = c.view.ensures.leaves.now_stays in
    on_ok_some c.replay_opened-replayed.result now (λ (v : Image). HasPayloads [] (v 2) ⊎ IsLegalThrough shape (v 2)) (λ v told.
    let opened = (rw c.in-Ok-Some.field-0-is at c.in-Ok-Some.ensures.opened) v told in
    let reached = (rw c.in-Ok-Some.field-0-is at c.in-Ok-Some.ensures.reached) v told in
    on_ok_then c.replay_opened-replayed.result (IsWholeIn g.H.Host.now (base r) c.view.new.host) (HasPayloads [] (v 2) ⊎ IsLegalThrough shape (v 2))
    (λ whole. inr (legal_through shape (base r) (record { count = (base r).committed; next = next_of r; time = time_of r }) now (g.H.Host.now c.view.new.host) v mid told going.1 going.2 refl opened whole))
    (c.replay_opened-replayed.ensures.whole (record { is = reached })))

pub returns-in-Ok-None-clause-whole : goal.returns-in-Ok-None-clause-whole
returns-in-Ok-None-clause-whole g c =
    let shape = c.args.schema.now in
    let now = g.H.Host.now c.args.host.now in
    on_ok c.put_end.result (ForSome now (λ (v : Image). HasPayloads [] (v 2) ⊎ IsLegalThrough shape (v 2))) (λ v told. inl ((rw c.in-Ok-None.field-0-is at c.in-Ok-None.ensures.none) v told))
