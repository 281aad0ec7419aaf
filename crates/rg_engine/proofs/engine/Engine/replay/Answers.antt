use Rattle.std.proofs.Common.{length, refl, ap, sym, subst, ◌∙◌}
use Rattle.rg_window.specs.Placed.{numbers_of}
use Rattle.rg_engine.specs.Standing.{IsAtPosition}
use Rattle.rg_engine.proofs.Passed.{steps_passed}
use Rattle.rg_engine.proofs.Taken.{spelled_at, numbers_same, stands_events}
use Rattle.rg_engine.proofs.engine.Engine.replay.Goals as goal

pub returns-in-Err-clause-bad : goal.returns-in-Err-clause-bad
returns-in-Err-clause-bad g c = rw (← c.self.view_is) (λ n first bad on. c.in-Err.ensures.moves.bad n first bad on)

pub returns-in-Err-clause-never_damaged : goal.returns-in-Err-clause-never_damaged
returns-in-Err-clause-never_damaged g c = rw (← c.self.view_is) (λ place sound all is. c.in-Err.ensures.refuses.never_damaged place sound all is)

pub returns-clause-stands : goal.returns-clause-stands
returns-clause-stands g c = rw (← c.self.view_is) (λ n first last on.
    let moved = c.in-Ok.ensures in
    stands_events c.self.inside.plan n _ _ _ _ moved.past.events (moved.moves.stands n first last on))

pub returns-clause-places : goal.returns-clause-places
returns-clause-places g c = rw (← c.self.view_is) (λ edge offset front more sound spelled is last is_offset stood.
    let moved = c.in-Ok.ensures in
    subst (λ events. IsAtPosition events (numbers_of c.move_rows.new.edges.spots) edge offset) (sym moved.past.events)
    (moved.moves.places edge offset front more sound spelled is last is_offset stood))

pub returns-clause-passed : goal.returns-clause-passed
returns-clause-passed g c = rw (← c.self.view_is) (λ front more sound all is last placed.
    let plan = c.self.inside.plan in
    let edges = c.self.inside.edges in
    let built = c.self.invariant in
    let moved = c.in-Ok.ensures in
    steps_passed front (g.P.Past.events c.move_rows.new.past) plan (numbers_of edges.spots) (numbers_of c.move_rows.new.edges.spots)
    (numbers_same plan edges edges.spots _ _ _ built refl) (numbers_same plan edges c.move_rows.new.edges.spots _ _ _ built moved.edges.same) moved.edges.moved.rises placed
    (λ edge offset is_offset. subst (λ events. IsAtPosition events (numbers_of c.move_rows.new.edges.spots) edge offset) (sym moved.past.events)
    (moved.moves.places edge offset front more sound (spelled_at _ edges.spots plan.offsets edge offset (built.same ∙ ap length built.offsets) all is_offset) is last is_offset (placed edge offset is_offset))) _ _ moved.moves.ticks)

pub returns-clause-legal : goal.returns-clause-legal
returns-clause-legal g c = rw (← c.self.view_is) (λ edge spot at asks. c.in-Ok.ensures.refuses.legal edge spot at asks)
