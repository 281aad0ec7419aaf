use Rattle.std.proofs.Common.{◌≡◌, ◌+◌, ◌<◌, ◌∙◌, ap, sym, arith, ◌∷◌, length, rules}
use Rattle.std.specs.Prelude.{slice_get}
use Rattle.std.specs.Option.{option_copied}
use Rattle.rg_past.specs.declared.past.PastFault.TheVariants.{Damaged}
use Rattle.rg_past.proofs.Laws.{kept-then}
use Rattle.rg_window.specs.Passing.{passed}
use Rattle.rg_window.proofs.Chains.{ok_err, past_err, Went-end, Went-more, Refused-next, passed-come, passed-stays, passed-end}
use Rattle.rg_window.proofs.edges.move_edge.Goals as goal

pub returns-in-Ok-None-clause-goes : goal.returns-in-Ok-None-clause-goes
returns-in-Ok-None-clause-goes g c =
    let i = c.edge.invariant in
    Went-end _ c.args.edge _ _ _ _ c.peek.new.spot.number _ _ _ i.went c.peek.ensures.number
    (λ s. passed-end (g.P.Past.events c.args.past.now) c.args.t c.args.offset c.edge.spot.number
    (ap (λ v. slice_get v c.edge.spot.number) (sym i.events) ∙ sym (c.in-Ok-None.ensures.event (i.past.sound s.0) (i.spells s.0 s.1)) ∙ ap option_copied c.in-Ok-None.field-0-is))

pub returns-then-not-has_come_to-clause-goes : goal.returns-then-not-has_come_to-clause-goes
returns-then-not-has_come_to-clause-goes g c =
    let i = c.edge.invariant in
    Went-end _ c.args.edge _ _ _ _ c.peek.new.spot.number _ _ _ i.went c.peek.ensures.number
    (λ s. passed-stays (g.P.Past.events c.args.past.now) c.args.t c.args.offset c.edge.spot.number c.in-Ok-Some.event.now
    (ap (λ v. slice_get v c.edge.spot.number) (sym i.events) ∙ sym (c.in-Ok-Some.ensures.event (i.past.sound s.0) (i.spells s.0 s.1)) ∙ ap option_copied c.in-Ok-Some.field-0-is)
    (sym c.if-not-has_come_to.ensures))

pub returns-in-Err-event-clause-goes : goal.returns-in-Err-event-clause-goes
returns-in-Err-event-clause-goes g c =
    let i = c.edge.invariant in
    Refused-next _ c.args.edge _ _ _ _ _ c.peek.new.spot.number _ _ _ _ c.in-Ok-Some.event.now _ i.went c.in-Err-event.ensures c.peek.ensures.number
    (λ s. passed-come (g.P.Past.events c.args.past.now) c.args.t c.args.offset c.edge.spot.number c.in-Ok-Some.event.now
    (ap (λ v. slice_get v c.edge.spot.number) (sym i.events) ∙ sym (c.in-Ok-Some.ensures.event (i.past.sound s.0) (i.spells s.0 s.1)) ∙ ap option_copied c.in-Ok-Some.field-0-is)
    (sym c.if-not-has_come_to.ensures))

pub edge-preserved : goal.edge-preserved
edge-preserved g c =
    let i = c.edge.invariant in
    let k = c.peek.follows.holds-at-none in
    let events = g.P.Past.events c.args.past.now in
    let n : c.advance.new.spot.number ≡ c.edge.spot.number + 1 = c.advance.ensures.next ∙ ap (λ v. v + 1) c.peek.ensures.number in
    let w : (c.peek.new.spot.number < length (g.P.Past.events c.edge.past)) × (c.peek.new.spot.index < 4096) = rw c.in-Ok-Some.field-0-is at c.in-Ok-Some.ensures.within in
    record {
      went = Went-more _ c.args.edge _ _ _ _ c.edge.spot.number _ _ _ _ _ c.in-Ok-Some.event.now i.went c.in-Ok.ensures n
          (λ s. passed-come events c.args.t c.args.offset c.edge.spot.number c.in-Ok-Some.event.now
          (ap (λ v. slice_get v c.edge.spot.number) (sym i.events) ∙ sym (c.in-Ok-Some.ensures.event (i.past.sound s.0) (i.spells s.0 s.1)) ∙ ap option_copied c.in-Ok-Some.field-0-is)
          (sym c.if-not-has_come_to.ensures) ∙ ap (λ v. c.in-Ok-Some.event.now ∷ passed events c.args.t c.args.offset v) (sym n));
      within = omega (arith, n, w.0, ap length i.events, c.peek.ensures.number);
      spells = λ s p. c.advance.ensures.spells (k.3 (i.past.sound s)) (rw c.in-Ok-Some.is at (k.8 (i.past.sound s) (i.spells s p)).1);
      asks = λ a. absurd (c.in-Ok-Some.ensures.legal (i.asks a));
      events = k.0 ∙ i.events;
      room = λ r. k.4 (i.room r);
      past = kept-then _ _ _ _ _ _ _ g.met.P.Past.transitive i.past (record { goes = k.1; sound = k.3; ended = k.2; later = k.5 });
      unvisited = λ e. absurd (ok_err (c.in-Ok-Some.ensures.ended.1 (i.past.ended.1 e)));
    }

pub returns-in-Err-clause-refuses : goal.returns-in-Err-clause-refuses
returns-in-Err-clause-refuses g c =
    let i = c.edge.invariant in
    record {
      ended = search rules;
      unvisited = i.unvisited;
      legal = λ _. tt;
      cause = search rules;
      never_damaged = λ place told is. c.in-Err.ensures.never_damaged place (i.past.sound told.0) (i.spells told.0 told.1) (past_err c.in-Err.fault (Damaged place) is);
    }
