use Rattle.std.proofs.Common.{◌≡◌, ◌∙◌, ℕ, ◌<◌, refl, ap, sym, subst, length, arith, rules}
use Rattle.std.specs.Prelude.{Ok, Err}
use Rattle.std.proofs.lemmas.List.{length-map}
use Rattle.std.proofs.lemmas.Option.{slice_get_within}
use Rattle.rg_past.specs.declared.past.PastFault.TheVariants.{Damaged, Ended}
use Rattle.rg_past.specs.declared.past.Spot.{Spot}
use Rattle.rg_engine.specs.Moving.{RowsMove, MoveRefuses, RowsStay, EdgesStay}
use Rattle.rg_engine.proofs.Moves.{moved, both_moved, ended_called, not_err, two_faults}
use Rattle.rg_engine.proofs.Places.{place_after}
use Rattle.rg_engine.proofs.Plain.{same_fault}
use Rattle.rg_engine.proofs.Visits.{chain_keeps, halt_keeps, halt_rose, each_stands, none_stuck, steps_taken}
use Rattle.rg_engine.proofs.moving.move_rows.Goals as goal

pub returns-in-Ok-clause-moves : goal.returns-in-Ok-clause-moves
returns-in-Ok-clause-moves g c =
    let kept = (chain_keeps c.move_to.new.visit (λ u. u.plan) (λ p. p.now.offsets) (λ u. u.rows.ghost_name) (λ u. u.steps.ghost_name) (λ u. u.rows.now.parts) (λ p. p.items) (λ u. g.T.Table.tells u.rows.now.table) (λ u. g.T.Table.named u.rows.now.table) (λ u. g.T.Table.there u.rows.now.table) (λ u. g.T.Table.cell u.rows.now.table) (λ u. g.T.Table.faults u.rows.now.table) (λ u. u.steps.now) _ _ c.move_to.new.visit c.in-Ok.ensures.moved.chain) in
    let rows_lent = kept.rows in
    let steps_lent = kept.steps in
    both_moved c.move_to.new.visit.rows.now.table c.move_to.new.visit.steps.now (λ table steps. RowsMove c.args.plan.now c.args.t (g.P.Past.sound c.args.past.now) (g.P.Past.spells c.args.past.now) (g.T.Table.tells c.args.rows.now.table) (g.P.Past.events c.args.past.now) (g.T.Table.cell c.args.rows.now.table) (g.T.Table.cell table) c.args.edges.now.spots c.move_to.new.self.spots c.args.steps.now steps (Ok tt)) _ _ (search rules) (search rules) (record {
      stands = λ n front last on.
          each_stands c.move_to.new.visit (λ u. u.plan) (λ p. p.now.offsets) (λ u. u.rows.ghost_name) (λ u. u.steps.ghost_name) (λ u. u.rows.now.parts) (λ p. p.items) (λ u. g.T.Table.tells u.rows.now.table) (λ u. g.T.Table.named u.rows.now.table) (λ u. g.T.Table.there u.rows.now.table) (λ u. g.T.Table.cell u.rows.now.table) (λ u. g.T.Table.faults u.rows.now.table) (λ u. u.steps.now) c.args.plan.now c.args.rows.now.parts c.requires.tree n _ c.move_to.new.visit _ front on.more c.args.t _ _ _
          (rw c.requires.offsets at c.in-Ok.ensures.moved) refl refl on.tells on.begins last c.requires.whole on.fed
          (λ some. g.met.P.Past.in_order c.args.past.now on.sound (λ ended. not_err (c.in-Ok.ensures.stops ended (subst (λ os. 0 < length os) (sym c.requires.offsets) some))))
          (λ edge offset is_offset has. (on.sound, on.spelled edge offset is_offset has))
          (λ edge has. rw c.requires.offsets at (c.in-Ok.ensures.reached has.0 edge has.1)) on.stood;
      bad = λ n first is. cc;
      places = λ edge offset front more sound spelled is last is_offset stood.
          let offsets = c.args.plan.now.offsets in
          let some : 0 < length offsets = omega (arith, slice_get_within offsets edge offset is_offset) in
          let order = g.met.P.Past.in_order c.args.past.now sound (λ ended. not_err (c.in-Ok.ensures.stops ended (subst (λ os. 0 < length os) (sym c.requires.offsets) some))) in
          place_after (g.P.Past.events c.args.past.now) front more c.args.t offsets _ _ edge offset is last order.0 is_offset stood (rw c.requires.offsets at (c.in-Ok.ensures.reached sound edge spelled));
      ticks =
          let same = c.requires.same ∙ ap length c.requires.offsets in
          steps_taken c.move_to.new.visit (λ u. u.plan) (λ p. p.now.offsets) (λ u. u.rows.ghost_name) (λ u. u.steps.ghost_name) (λ u. u.rows.now.parts) (λ p. p.items) (λ u. g.T.Table.tells u.rows.now.table) (λ u. g.T.Table.named u.rows.now.table) (λ u. g.T.Table.there u.rows.now.table) (λ u. g.T.Table.cell u.rows.now.table) (λ u. g.T.Table.faults u.rows.now.table) (λ u. u.steps.now) c.args.plan.now c.args.rows.now.parts c.requires.tree _ c.move_to.new.visit c.args.t _ _ _ _ (rw c.requires.offsets at c.in-Ok.ensures.moved) refl refl
          (length-map c.args.edges.now.spots (λ (spot : Spot). spot.number) ∙ same)
          (length-map c.move_to.new.self.spots (λ (spot : Spot). spot.number) ∙ c.in-Ok.ensures.same ∙ same);
    })

pub returns-in-Ok-clause-refuses : goal.returns-in-Ok-clause-refuses
returns-in-Ok-clause-refuses g c =
    let kept = (chain_keeps c.move_to.new.visit (λ u. u.plan) (λ p. p.now.offsets) (λ u. u.rows.ghost_name) (λ u. u.steps.ghost_name) (λ u. u.rows.now.parts) (λ p. p.items) (λ u. g.T.Table.tells u.rows.now.table) (λ u. g.T.Table.named u.rows.now.table) (λ u. g.T.Table.there u.rows.now.table) (λ u. g.T.Table.cell u.rows.now.table) (λ u. g.T.Table.faults u.rows.now.table) (λ u. u.steps.now) _ _ c.move_to.new.visit c.in-Ok.ensures.moved.chain) in
    let rows_lent = kept.rows in
    let steps_lent = kept.steps in
    moved c.move_to.new.visit.rows.now.table (λ table. MoveRefuses c.args.plan.now (g.P.Past.sound c.args.past.now) (g.P.Past.spells c.args.past.now) (g.P.Past.asks_illegal c.args.past.now) (g.P.Past.illegal c.move_to.new.past) (g.P.Past.ended c.args.past.now) (g.P.Past.faults c.args.past.now) (g.P.Past.faults c.move_to.new.past) (g.T.Table.faults c.args.rows.now.table) (g.T.Table.faults table) c.args.edges.now.spots (Ok tt)) _ (search rules) (record {
      stops = λ ended some. absurd (not_err (c.in-Ok.ensures.stops ended (subst (λ os. 0 < length os) (sym c.requires.offsets) some)));
      legal = c.in-Ok.ensures.legal;
      cause = λ cause is. cc;
      never_damaged = λ place sound all is. cc;
      table = λ is. cc;
      not_ended = λ is. cc;
    })

pub returns-in-Ok-clause-rows : goal.returns-in-Ok-clause-rows
returns-in-Ok-clause-rows g c =
    let kept = (chain_keeps c.move_to.new.visit (λ u. u.plan) (λ p. p.now.offsets) (λ u. u.rows.ghost_name) (λ u. u.steps.ghost_name) (λ u. u.rows.now.parts) (λ p. p.items) (λ u. g.T.Table.tells u.rows.now.table) (λ u. g.T.Table.named u.rows.now.table) (λ u. g.T.Table.there u.rows.now.table) (λ u. g.T.Table.cell u.rows.now.table) (λ u. g.T.Table.faults u.rows.now.table) (λ u. u.steps.now) _ _ c.move_to.new.visit c.in-Ok.ensures.moved.chain) in
    let rows_lent = kept.rows in
    let steps_lent = kept.steps in
    moved c.move_to.new.visit.rows.now.table (λ table. RowsStay g.T.Table.tells g.T.Table.named g.T.Table.there g.T.Table.cell g.T.Table.faults c.args.rows.now.table table) _ (search rules) (record { rows = record { tells = kept.tells; later = kept.later }; since = record { tells = kept.tells; since = kept.since } })

pub returns-in-Ok-clause-edges : goal.returns-in-Ok-clause-edges
returns-in-Ok-clause-edges g c =
    let kept = (chain_keeps c.move_to.new.visit (λ u. u.plan) (λ p. p.now.offsets) (λ u. u.rows.ghost_name) (λ u. u.steps.ghost_name) (λ u. u.rows.now.parts) (λ p. p.items) (λ u. g.T.Table.tells u.rows.now.table) (λ u. g.T.Table.named u.rows.now.table) (λ u. g.T.Table.there u.rows.now.table) (λ u. g.T.Table.cell u.rows.now.table) (λ u. g.T.Table.faults u.rows.now.table) (λ u. u.steps.now) _ _ c.move_to.new.visit c.in-Ok.ensures.moved.chain) in
    let rows_lent = kept.rows in
    let steps_lent = kept.steps in
    moved c.move_to.new.visit.rows.now.parts.items (λ items. EdgesStay (g.P.Past.sound c.args.past.now) (g.P.Past.spells c.args.past.now) (g.P.Past.spells c.move_to.new.past) (g.P.Past.events c.move_to.new.past) c.args.edges.now c.move_to.new.self c.args.rows.now.parts.items items) _ (search rules) (record { offsets = c.in-Ok.ensures.offsets; same = c.in-Ok.ensures.same; moved = record { rises = c.in-Ok.ensures.rises; within = c.in-Ok.ensures.within; spells = c.in-Ok.ensures.spells }; parts = ap (λ p. p.items) kept.parts })

pub returns-in-Err-clause-moves : goal.returns-in-Err-clause-moves
returns-in-Err-clause-moves g c =
    let kept = (halt_keeps c.move_to.new.visit (λ u. u.plan) (λ p. p.now.offsets) (λ u. u.rows.ghost_name) (λ u. u.steps.ghost_name) (λ u. u.rows.now.parts) (λ p. p.items) (λ u. g.T.Table.tells u.rows.now.table) (λ u. g.T.Table.named u.rows.now.table) (λ u. g.T.Table.there u.rows.now.table) (λ u. g.T.Table.cell u.rows.now.table) (λ u. g.T.Table.faults u.rows.now.table) (λ u. u.steps.now) _ c.move_to.new.visit _ c.args.t _ _ _ _ c.in-Err.fault c.in-Err.ensures.halted) in
    let rows_lent = kept.rows in
    let steps_lent = kept.steps in
    both_moved c.move_to.new.visit.rows.now.table c.move_to.new.visit.steps.now (λ table steps. RowsMove c.args.plan.now c.args.t (g.P.Past.sound c.args.past.now) (g.P.Past.spells c.args.past.now) (g.T.Table.tells c.args.rows.now.table) (g.P.Past.events c.args.past.now) (g.T.Table.cell c.args.rows.now.table) (g.T.Table.cell table) c.args.edges.now.spots c.move_to.new.self.spots c.args.steps.now steps (Err c.move_fault.result)) _ _ (search rules) (search rules) (record {
      stands = λ n front last on. tt;
      bad = λ n front bad on.
          let is = c.move_fault.ensures.bad n (same_fault bad) in
          none_stuck c.move_to.new.visit (λ u. u.plan) (λ p. p.now.offsets) (λ u. u.rows.ghost_name) (λ u. u.steps.ghost_name) (λ u. u.rows.now.parts) (λ p. p.items) (λ u. g.T.Table.tells u.rows.now.table) (λ u. g.T.Table.named u.rows.now.table) (λ u. g.T.Table.there u.rows.now.table) (λ u. g.T.Table.cell u.rows.now.table) (λ u. g.T.Table.faults u.rows.now.table) (λ u. u.steps.now) c.args.plan.now c.args.rows.now.parts c.requires.tree n _ c.move_to.new.visit _ front on.more c.args.t _ _ _ c.in-Err.fault
          (rw c.requires.offsets at c.in-Err.ensures.halted) is refl refl on.tells on.begins c.requires.whole on.fed
          (λ some. g.met.P.Past.in_order c.args.past.now on.sound (λ ended. two_faults is (same_fault (c.in-Err.ensures.stops ended (subst (λ os. 0 < length os) (sym c.requires.offsets) some)))))
          (λ edge offset is_offset has. (on.sound, on.spelled edge offset is_offset has)) on.stood;
      places = λ edge offset front more sound spelled is last is_offset stood. tt;
      ticks = tt;
    })

pub returns-in-Err-clause-refuses : goal.returns-in-Err-clause-refuses
returns-in-Err-clause-refuses g c =
    let kept = (halt_keeps c.move_to.new.visit (λ u. u.plan) (λ p. p.now.offsets) (λ u. u.rows.ghost_name) (λ u. u.steps.ghost_name) (λ u. u.rows.now.parts) (λ p. p.items) (λ u. g.T.Table.tells u.rows.now.table) (λ u. g.T.Table.named u.rows.now.table) (λ u. g.T.Table.there u.rows.now.table) (λ u. g.T.Table.cell u.rows.now.table) (λ u. g.T.Table.faults u.rows.now.table) (λ u. u.steps.now) _ c.move_to.new.visit _ c.args.t _ _ _ _ c.in-Err.fault c.in-Err.ensures.halted) in
    let rows_lent = kept.rows in
    let steps_lent = kept.steps in
    moved c.move_to.new.visit.rows.now.table (λ table. MoveRefuses c.args.plan.now (g.P.Past.sound c.args.past.now) (g.P.Past.spells c.args.past.now) (g.P.Past.asks_illegal c.args.past.now) (g.P.Past.illegal c.move_to.new.past) (g.P.Past.ended c.args.past.now) (g.P.Past.faults c.args.past.now) (g.P.Past.faults c.move_to.new.past) (g.T.Table.faults c.args.rows.now.table) (g.T.Table.faults table) c.args.edges.now.spots (Err c.move_fault.result)) _ (search rules) (record {
      stops = λ ended some. ended_called (same_fault (c.in-Err.ensures.stops ended (subst (λ os. 0 < length os) (sym c.requires.offsets) some))) c.move_fault.ensures.called;
      legal = λ edge spot at asks. tt;
      cause = λ cause is. c.in-Err.ensures.cause cause (ap Err (c.move_fault.ensures.past cause (same_fault is)));
      never_damaged = λ place sound all is. c.in-Err.ensures.never_damaged place sound all (ap Err (c.move_fault.ensures.past (Damaged place) (same_fault is)));
      table = λ is. halt_rose c.move_to.new.visit (λ u. u.plan) (λ p. p.now.offsets) (λ u. u.rows.ghost_name) (λ u. u.steps.ghost_name) (λ u. u.rows.now.parts) (λ p. p.items) (λ u. g.T.Table.tells u.rows.now.table) (λ u. g.T.Table.named u.rows.now.table) (λ u. g.T.Table.there u.rows.now.table) (λ u. g.T.Table.cell u.rows.now.table) (λ u. g.T.Table.faults u.rows.now.table) (λ u. u.steps.now) _ c.move_to.new.visit _ c.args.t _ _ _ _ c.in-Err.fault c.in-Err.ensures.halted (c.move_fault.ensures.disk (same_fault is));
      not_ended = λ is. c.move_fault.ensures.not_ended (same_fault is);
    })

pub returns-in-Err-clause-rows : goal.returns-in-Err-clause-rows
returns-in-Err-clause-rows g c =
    let kept = (halt_keeps c.move_to.new.visit (λ u. u.plan) (λ p. p.now.offsets) (λ u. u.rows.ghost_name) (λ u. u.steps.ghost_name) (λ u. u.rows.now.parts) (λ p. p.items) (λ u. g.T.Table.tells u.rows.now.table) (λ u. g.T.Table.named u.rows.now.table) (λ u. g.T.Table.there u.rows.now.table) (λ u. g.T.Table.cell u.rows.now.table) (λ u. g.T.Table.faults u.rows.now.table) (λ u. u.steps.now) _ c.move_to.new.visit _ c.args.t _ _ _ _ c.in-Err.fault c.in-Err.ensures.halted) in
    let rows_lent = kept.rows in
    let steps_lent = kept.steps in
    moved c.move_to.new.visit.rows.now.table (λ table. RowsStay g.T.Table.tells g.T.Table.named g.T.Table.there g.T.Table.cell g.T.Table.faults c.args.rows.now.table table) _ (search rules) (record { rows = record { tells = kept.tells; later = kept.later }; since = record { tells = kept.tells; since = kept.since } })

pub returns-in-Err-clause-edges : goal.returns-in-Err-clause-edges
returns-in-Err-clause-edges g c =
    let kept = (halt_keeps c.move_to.new.visit (λ u. u.plan) (λ p. p.now.offsets) (λ u. u.rows.ghost_name) (λ u. u.steps.ghost_name) (λ u. u.rows.now.parts) (λ p. p.items) (λ u. g.T.Table.tells u.rows.now.table) (λ u. g.T.Table.named u.rows.now.table) (λ u. g.T.Table.there u.rows.now.table) (λ u. g.T.Table.cell u.rows.now.table) (λ u. g.T.Table.faults u.rows.now.table) (λ u. u.steps.now) _ c.move_to.new.visit _ c.args.t _ _ _ _ c.in-Err.fault c.in-Err.ensures.halted) in
    let rows_lent = kept.rows in
    let steps_lent = kept.steps in
    moved c.move_to.new.visit.rows.now.parts.items (λ items. EdgesStay (g.P.Past.sound c.args.past.now) (g.P.Past.spells c.args.past.now) (g.P.Past.spells c.move_to.new.past) (g.P.Past.events c.move_to.new.past) c.args.edges.now c.move_to.new.self c.args.rows.now.parts.items items) _ (search rules) (record { offsets = c.in-Err.ensures.offsets; same = c.in-Err.ensures.same; moved = record { rises = c.in-Err.ensures.rises; within = c.in-Err.ensures.within; spells = c.in-Err.ensures.spells }; parts = ap (λ p. p.items) kept.parts })
