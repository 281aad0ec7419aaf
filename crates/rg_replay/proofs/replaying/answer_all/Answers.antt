use Rattle.std.proofs.Common.{◌≡◌, ◌∙◌, ⊎_elim, inr, [], length, ap, sym, subst, refl, arith}
use Rattle.rg_host.specs.Puts.{Puts}
use Rattle.rg_host.proofs.Laws.{puts-nothing, puts-then}
use Rattle.rg_past.specs.declared.past.Spot.{Spot}
use Rattle.rg_reservoir.specs.Kept.{base}
use Rattle.rg_state.specs.contracts.mem_table.MemTableTable.TheImpl.{ghosts as rows}
use Rattle.rg_replay.specs.Playing.{IsPlaced, IsPlaying, IsReachedAt, start_of}
use Rattle.rg_replay.proofs.Progress.{Progress, next, finish, stop, cut}
use Rattle.rg_replay.proofs.Quiet.{leaves_store-none, leaves_store-then, caused_later}
use Rattle.rg_replay.proofs.Reading.{whole_since}
use Rattle.rg_replay.proofs.Starting.{long}
use Rattle.rg_replay.proofs.Played.{expected}
use Rattle.rg_replay.proofs.replaying.answer_all.Goals as goal

pub payments-init : goal.payments-init
payments-init g c =
    let r = c.args.reservoir.now in
    let e = c.args.engine.now in
    let at : start_of (base r) ≡ c.start-spot.result = sym c.start-spot.ensures in
    record {
      placed = subst (λ (s : Spot). IsPlaced r e s) at c.requires.placed;
      same = refl;
      store = leaves_store-none g.H.Host.now g.H.Host.may g.H.Host.clock g.H.Host.since g.H.Host.disk_faults g.H.Host.out_faults _ (λ t u m. g.met.H.Host.sinks _ t u m) (λ m now. (g.met.H.Host.only_now _ m now).0);
      reached = λ begun. subst (λ (s : Spot). IsReachedAt g.H.Host.now r c.args.host.now s) at begun;
      goes = λ queries events is. subst (λ (s : Spot). Progress queries c.args.first events s.number (Puts g.H.Host.said g.H.Host.clock g.H.Host.since c.args.host.now c.args.host.now) c.args.text.now.items (IsPlaying queries events (g.H.Host.now c.args.host.now) (g.H.Host.may c.args.host.now) (rows.tells e.table) (rows.cell e.table) r e s)) at
          (record { within = omega arith; lines = record { out = []; held = []; both = refl; puts = puts-nothing g.H.Host.said g.H.Host.clock g.H.Host.since _ (λ t u m. g.met.H.Host.sinks _ t u m) (λ m. g.met.H.Host.only_now _ m); text_is = c.requires.none }; goes = is });
    }

pub payments-preserved : goal.payments-preserved
payments-preserved g c =
    let inv = c.payments.invariant in
    let turn = c.in-Ok-true.ensures in
    record {
      placed = turn.placed;
      same = c.turn.ensures.log.base ∙ inv.same;
      store = leaves_store-then g.H.Host.now g.H.Host.may g.H.Host.clock g.H.Host.since g.H.Host.disk_faults g.H.Host.out_faults _ _ _ inv.store c.turn.ensures.log.store;
      reached = λ begun. (turn.reads (inv.reached begun)).1 c.in-Ok-true.field-0-test;
      goes = λ queries events is.
          let at = inv.goes queries events is in
          let more = (turn.turned queries events at.lines.held at.lines.text_is at.goes).more c.in-Ok-true.field-0-test in
          next queries c.args.first events c.payments.spot.number (Puts g.H.Host.said g.H.Host.clock g.H.Host.since c.args.host.now c.payments.host) (Puts g.H.Host.said g.H.Host.clock g.H.Host.since c.payments.host c.turn.new.host) (Puts g.H.Host.said g.H.Host.clock g.H.Host.since c.args.host.now c.turn.new.host)
          (λ x y. puts-then g.H.Host.said g.H.Host.clock g.H.Host.since _ _ _ x y) c.payments.text.items _ at c.turn.new.spot.number _ c.turn.new.text.items (turn.one c.in-Ok-true.field-0-test).0
          (omega (arith, turn.placed.number, ap length more.1.list, long (g.H.Host.now c.turn.new.host) c.turn.new.reservoir)) more.0 more.1;
    }

pub returns-in-Ok-false-clause-answered : goal.returns-in-Ok-false-clause-answered
returns-in-Ok-false-clause-answered g c = λ queries events is.
    let at = c.payments.invariant.goes queries events is in
    let last = (c.in-Ok-false.ensures.turned queries events at.lines.held at.lines.text_is at.goes).last c.in-Ok-false.field-0-test in (
      finish queries c.args.first events c.payments.spot.number (Puts g.H.Host.said g.H.Host.clock g.H.Host.since c.args.host.now c.payments.host) (Puts g.H.Host.said g.H.Host.clock g.H.Host.since c.payments.host c.turn.new.host) (Puts g.H.Host.said g.H.Host.clock g.H.Host.since c.args.host.now c.turn.new.host)
          (λ x y. puts-then g.H.Host.said g.H.Host.clock g.H.Host.since _ _ _ x y) c.payments.text.items _ at c.turn.new.text.items last.0 last.1 last.2,
      record { list = last.3.list; sound = last.3.on.sound; runs = c.in-Ok-false.ensures.placed.runs },
    )

pub returns-in-Err-clause-answered : goal.returns-in-Err-clause-answered
returns-in-Err-clause-answered g c = λ queries events is.
    let at = c.payments.invariant.goes queries events is in
    let fault = c.in-Err.fault in
    let old = Puts g.H.Host.said g.H.Host.clock g.H.Host.since c.args.host.now c.payments.host in
    let step = Puts g.H.Host.said g.H.Host.clock g.H.Host.since c.payments.host c.turn.new.host in
    let new = Puts g.H.Host.said g.H.Host.clock g.H.Host.since c.args.host.now c.turn.new.host in
    ⊎_elim
    (λ none. (expected fault none.0, stop queries c.args.first events c.payments.spot.number old step new (λ x y. puts-then g.H.Host.said g.H.Host.clock g.H.Host.since _ _ _ x y) c.payments.text.items _ at fault none.1))
    (λ part. (inr (inr part.0), cut queries c.args.first events c.payments.spot.number old step new (λ x y. puts-then g.H.Host.said g.H.Host.clock g.H.Host.since _ _ _ x y) c.payments.text.items _ at fault part.0 part.1 part.2.0 part.2.1 part.2.2))
    (c.in-Err.ensures.turned queries events at.lines.held at.lines.text_is at.goes).stopped

pub returns-in-Err-clause-cause : goal.returns-in-Err-clause-cause
returns-in-Err-clause-cause g c =
    let inv = c.payments.invariant in
    caused_later g.H.Host.now g.H.Host.may g.H.Host.clock g.H.Host.since g.H.Host.disk_faults g.H.Host.out_faults _ _ c.in-Err.fault _ _ _ inv.same inv.store c.in-Err.ensures.cause

pub returns-in-Ok-false-clause-leaves : goal.returns-in-Ok-false-clause-leaves
returns-in-Ok-false-clause-leaves g c = leaves_store-then g.H.Host.now g.H.Host.may g.H.Host.clock g.H.Host.since g.H.Host.disk_faults g.H.Host.out_faults _ _ _ c.payments.invariant.store c.turn.ensures.log.store

pub returns-in-Err-clause-leaves : goal.returns-in-Err-clause-leaves
returns-in-Err-clause-leaves g c = leaves_store-then g.H.Host.now g.H.Host.may g.H.Host.clock g.H.Host.since g.H.Host.disk_faults g.H.Host.out_faults _ _ _ c.payments.invariant.store c.turn.ensures.log.store

pub returns-in-Ok-false-clause-whole : goal.returns-in-Ok-false-clause-whole
returns-in-Ok-false-clause-whole g c = λ begun.
    let inv = c.payments.invariant in
    whole_since (g.H.Host.now c.args.host.now) (g.H.Host.now c.payments.host) (base c.args.reservoir.now) (base c.payments.reservoir) inv.store.leaves.now_stays inv.same ((c.in-Ok-false.ensures.reads (inv.reached begun)).0 c.in-Ok-false.field-0-test)
