use Rattle.std.proofs.Common.{◌<◌, ◌∙◌, ◌++◌, ◌∷◌, [], ℕ, List, All, length, refl, ap, sym, subst, inl, Bool, Vec, rules}
use Rattle.std.specs.Prelude.{Err}
use Rattle.std.specs.declared.alloc.Global.{Global}
use Rattle.rg_event.specs.Rising.{last_time}
use Rattle.rg_metric.specs.declared.answer.Answer.{Answer}
use Rattle.rg_plan.specs.declared.node.GroupNode.{GroupNode}
use Rattle.rg_engine.specs.Answering.{keys_for, node_answers}
use Rattle.rg_window.specs.Placed.{numbers_of}
use Rattle.rg_engine.specs.Standing.{IsAtPosition}
use Rattle.rg_past.specs.declared.past.PastFault.TheVariants as past
use Rattle.rg_past.proofs.Laws.{cause-within, kept-then}
use Rattle.rg_engine.specs.Accepting.{IsRefusal}
use Rattle.rg_engine.specs.Carrying.{is_ending}
use Rattle.rg_engine.proofs.Taken.{not_bad, not_damaged, not_table, not_ended, refused_always, refused_cause, ends_true, edges_from, edges_still, last_of, stands_same, stands_events, row_stands, carried_on, spelled_later, spelled_at, numbers_same, front_and_more, answers_are, asked_within}
use Rattle.rg_engine.proofs.Passed.{steps_passed}
use Rattle.rg_engine.proofs.Plain.{same_fault}
use Rattle.rg_engine.proofs.Since.{keeps_then}
use Rattle.rg_engine.proofs.engine.Engine.take.Goals as goal

pub answer_each-requires-clause-nodes : goal.answer_each-requires-clause-nodes
answer_each-requires-clause-nodes g c =
    let built = c.self.invariant in
    subst (λ aggs. All (λ n. n < length aggs) c.deref.result.now) (sym c.aggs.ensures.aggs) (asked_within _ c.deref.result.now built.whole (c.deref.ensures.value ∙ built.asked))

pub returns-clause-stands : goal.returns-clause-stands
returns-clause-stands g c = rw (← c.self.view_is) (λ n first on.
    let plan = c.self.inside.plan in
    let event = c.args.event in
    let added = c.in-Ok.ensures in
    let moved = c.in-Ok-move_rows.ensures in
    let after = moved.moves.stands n first (ap last_time added.accepted.appended ∙ last_of (g.P.Past.events c.args.past.now) event)
    (carried_on plan n _ _ _ _ _ (g.P.Past.events c.args.past.now) _ first event _ _ added.accepted.appended added.past.sound (λ sound spot spelled. g.met.P.Past.stays_spelled _ _ spot added.past.goes sound spelled) on) in
    stands_events plan n _ _ _ _ moved.past.events (stands_same plan n _ _ _ _ (c.in-Ok-answer_each.ensures.told.same (moved.rows.rows.tells.1 on.tells)) after))

pub returns-clause-places : goal.returns-clause-places
returns-clause-places g c = rw (← c.self.view_is) (λ edge offset front more sound spelled is is_offset stood.
    let event = c.args.event in
    let added = c.in-Ok.ensures in
    let moved = c.in-Ok-move_rows.ensures in
    let placed = moved.moves.places edge offset front (more ++ event ∷ []) (added.past.sound sound)
    (spelled_later _ _ _ edge (λ spot spells. g.met.P.Past.stays_spelled _ _ spot added.past.goes sound spells) spelled)
    (front_and_more _ _ front more event added.accepted.appended is) (ap last_time added.accepted.appended ∙ last_of (g.P.Past.events c.args.past.now) event) is_offset stood in
    subst (λ events. IsAtPosition events (numbers_of c.move_rows.new.edges.spots) edge offset) (sym moved.past.events) placed)

pub returns-clause-passed : goal.returns-clause-passed
returns-clause-passed g c = rw (← c.self.view_is) (λ front more sound all is placed.
    let plan = c.self.inside.plan in
    let edges = c.self.inside.edges in
    let built = c.self.invariant in
    let moved = c.in-Ok-move_rows.ensures in
    steps_passed front (g.P.Past.events c.move_rows.new.past) plan (numbers_of edges.spots) (numbers_of c.move_rows.new.edges.spots)
    (numbers_same plan edges edges.spots _ _ _ built refl) (numbers_same plan edges c.move_rows.new.edges.spots _ _ _ built moved.edges.same) moved.edges.moved.rises placed
    (λ edge offset is_offset. (rw (← c.self.view_is) at (returns-clause-places g c)) edge offset front more sound
    (spelled_at _ edges.spots plan.offsets edge offset (built.same ∙ ap length built.offsets) all is_offset) is is_offset (placed edge offset is_offset)) _ _ moved.moves.ticks)

pub returns-clause-answers : goal.returns-clause-answers
returns-clause-answers g c = rw (← c.self.view_is) (λ queries first made on.
    let plan = c.self.inside.plan in
    let event = c.args.event in
    let built = c.self.invariant in
    let added = c.in-Ok.ensures in
    let moved = c.in-Ok-move_rows.ensures in
    let after = λ (n : ℕ). moved.moves.stands n first (ap last_time added.accepted.appended ∙ last_of (g.P.Past.events c.args.past.now) event)
    (carried_on plan n _ _ _ _ _ (g.P.Past.events c.args.past.now) _ first event _ _ added.accepted.appended added.past.sound (λ sound spot spelled. g.met.P.Past.stays_spelled _ _ spot added.past.goes sound spelled) (on n)) in
    let keys = c.deref-2.ensures.value ∙ added.prepared.made ∙ ap (λ (groups : List GroupNode). keys_for groups event) c.groups.ensures in
    let told = c.in-Ok-answer_each.ensures.told.answers (moved.rows.rows.tells.1 (on 0).tells) plan (g.P.Past.events c.args.past.now ++ event ∷ []) event built.whole (sym c.aggs.ensures.aggs) keys
    (λ n key. row_stands plan n (g.P.Past.events c.accept.new.past) (g.P.Past.events c.args.past.now ++ event ∷ []) event.time (g.T.Table.cell c.move_rows.new.rows.table) _ added.accepted.appended (last_of (g.P.Past.events c.args.past.now) event) (after n) key) in
    c.from.ensures ∙ ap (λ (list : Vec Answer Global). list.items) c.replace-answers.ensures.value ∙ answers_are queries plan _ event c.deref.result.now _ made (on 0).fed (c.deref.ensures.value ∙ built.asked)
    (told ∙ ap (λ old. old ++ node_answers plan (g.P.Past.events c.args.past.now ++ event ∷ []) event c.deref.result.now) added.prepared.empty))

pub returns-in-Err-move_rows-clause-bad : goal.returns-in-Err-move_rows-clause-bad
returns-in-Err-move_rows-clause-bad g c = rw (← c.self.view_is) (λ n first bad on.
    let plan = c.self.inside.plan in
    let event = c.args.event in
    let added = c.in-Ok.ensures in
    c.in-Err-move_rows.ensures.moves.bad n first (ap Err (same_fault bad))
    (carried_on plan n _ _ _ _ _ (g.P.Past.events c.args.past.now) _ first event _ _ added.accepted.appended added.past.sound (λ sound spot spelled. g.met.P.Past.stays_spelled _ _ spot added.past.goes sound spelled) on))

pub returns-in-Err-move_rows-clause-full : goal.returns-in-Err-move_rows-clause-full
returns-in-Err-move_rows-clause-full g c = λ is. absurd (c.in-Err-move_rows.ensures.refuses.cause past.Full (ap Err (same_fault is)))

pub returns-in-Err-move_rows-clause-cause : goal.returns-in-Err-move_rows-clause-cause
returns-in-Err-move_rows-clause-cause g c = λ fault is.
    let added = c.in-Ok.ensures in
    cause-within _ _ _ _ _ _ _ _ fault added.past.later (λ full. absurd full) (λ ended. added.past.ended.0 ended) (c.in-Err-move_rows.ensures.refuses.cause fault (ap Err (same_fault is)))

pub returns-in-Err-move_rows-clause-ends : goal.returns-in-Err-move_rows-clause-ends
returns-in-Err-move_rows-clause-ends g c = sym (ends_true c.in-Err-move_rows.fault (λ is. c.in-Err-move_rows.ensures.refuses.cause past.Full (ap Err is)))

pub returns-in-Err-move_rows-clause-edges : goal.returns-in-Err-move_rows-clause-edges
returns-in-Err-move_rows-clause-edges g c = rw (← c.self.view_is) (
    let added = c.in-Ok.ensures in
    edges_from _ _ _ _ _ _ _ _ added.past.sound (λ sound edge k. spelled_later _ _ _ edge (λ spot spells. g.met.P.Past.stays_spelled _ _ spot added.past.goes sound spells) k) c.in-Err-move_rows.ensures.edges.moved)

pub returns-in-Err-answer_each-clause-edges : goal.returns-in-Err-answer_each-clause-edges
returns-in-Err-answer_each-clause-edges g c = rw (← c.self.view_is) (
    let added = c.in-Ok.ensures in
    edges_from _ _ _ _ _ _ _ _ added.past.sound (λ sound edge k. spelled_later _ _ _ edge (λ spot spells. g.met.P.Past.stays_spelled _ _ spot added.past.goes sound spells) k) c.in-Ok-move_rows.ensures.edges.moved)

pub returns-clause-edges : goal.returns-clause-edges
returns-clause-edges g c = rw (← c.self.view_is) (
    let added = c.in-Ok.ensures in
    edges_from _ _ _ _ _ _ _ _ added.past.sound (λ sound edge k. spelled_later _ _ _ edge (λ spot spells. g.met.P.Past.stays_spelled _ _ spot added.past.goes sound spells) k) c.in-Ok-move_rows.ensures.edges.moved)

pub returns-in-Err-answer_each-clause-bad : goal.returns-in-Err-answer_each-clause-bad
returns-in-Err-answer_each-clause-bad g c = rw (← c.self.view_is) (λ n first bad on.
    let plan = c.self.inside.plan in
    let event = c.args.event in
    let added = c.in-Ok.ensures in
    let moved = c.in-Ok-move_rows.ensures in
    let after = moved.moves.stands n first (ap last_time added.accepted.appended ∙ last_of (g.P.Past.events c.args.past.now) event)
    (carried_on plan n _ _ _ _ _ (g.P.Past.events c.args.past.now) _ first event _ _ added.accepted.appended added.past.sound (λ sound spot spelled. g.met.P.Past.stays_spelled _ _ spot added.past.goes sound spelled) on) in
    c.in-Err-answer_each.ensures.told.bad n (ap Err (c.table_fault.ensures.bad n (same_fault bad))) (moved.rows.rows.tells.1 on.tells) plan (g.P.Past.events c.args.past.now ++ event ∷ []) event c.self.invariant.whole (sym c.aggs.ensures.aggs)
    (λ key. row_stands plan n (g.P.Past.events c.accept.new.past) (g.P.Past.events c.args.past.now ++ event ∷ []) event.time (g.T.Table.cell c.move_rows.new.rows.table) _ added.accepted.appended (last_of (g.P.Past.events c.args.past.now) event) after key))

pub returns-in-Err-move_rows-clause-never_damaged : goal.returns-in-Err-move_rows-clause-never_damaged
returns-in-Err-move_rows-clause-never_damaged g c = rw (← c.self.view_is) (λ place sound all is.
    let added = c.in-Ok.ensures in
    c.in-Err-move_rows.ensures.refuses.never_damaged place (added.past.sound sound) (λ edge d below. g.met.P.Past.stays_spelled _ _ _ added.past.goes sound (all edge d below)) (ap Err (same_fault is)))

pub returns-in-Err-answer_each-clause-never_damaged : goal.returns-in-Err-answer_each-clause-never_damaged
returns-in-Err-answer_each-clause-never_damaged g c = λ place sound all is. c.table_fault.ensures.not_past (past.Damaged place) (same_fault is)

pub returns-clause-past : goal.returns-clause-past
returns-clause-past g c = kept-then _ _ _ _ _ _ _ g.met.P.Past.transitive c.in-Ok.ensures.past c.in-Ok-move_rows.ensures.past.past

pub returns-in-Err-clause-bad : goal.returns-in-Err-clause-bad
returns-in-Err-clause-bad g c = λ n first is on. not_bad _ _ _ n c.in-Err.ensures.accepted.refused (same_fault is)

pub returns-in-Err-clause-appends : goal.returns-in-Err-clause-appends
returns-in-Err-clause-appends g c = inl c.in-Err.ensures.accepted.same

pub returns-in-Err-clause-always : goal.returns-in-Err-clause-always
returns-in-Err-clause-always g c = λ _. refused_always _ _ _ c.in-Err.ensures.accepted.refused

pub returns-in-Err-clause-cause : goal.returns-in-Err-clause-cause
returns-in-Err-clause-cause g c = λ fault is. refused_cause _ _ _ _ _ fault (subst (IsRefusal _ _) (same_fault is) c.in-Err.ensures.accepted.refused)

pub returns-in-Err-clause-never_damaged : goal.returns-in-Err-clause-never_damaged
returns-in-Err-clause-never_damaged g c = λ place sound all is. not_damaged _ _ _ place c.in-Err.ensures.accepted.refused (same_fault is)

pub returns-in-Err-clause-table : goal.returns-in-Err-clause-table
returns-in-Err-clause-table g c = λ is. absurd (not_table _ _ _ c.in-Err.ensures.accepted.refused (same_fault is))

pub returns-in-Err-clause-ended : goal.returns-in-Err-clause-ended
returns-in-Err-clause-ended g c = (λ is. absurd (not_ended _ _ _ c.in-Err.ensures.accepted.refused (same_fault is)), search rules)

pub returns-in-Err-clause-untouched : goal.returns-in-Err-clause-untouched
returns-in-Err-clause-untouched g c = λ is. absurd (not_ended _ _ _ c.in-Err.ensures.accepted.refused (same_fault is))

pub returns-in-Err-clause-full : goal.returns-in-Err-clause-full
returns-in-Err-clause-full g c = rw (← c.self.view_is) (λ is.
    let refused = c.in-Err.ensures.accepted in
    let engine = c.self.inside in
    let goes_on = c.is_ending-self-inside.ensures.ends ∙ ap is_ending (same_fault is) ∙ sym c.if-self.false in
    (ap (λ (b : Bool). record { plan = engine.plan; spots = engine.edges.spots; table = engine.rows.table; ended = b }) goes_on, refl, refused.same, refused.room c.requires.room))

pub returns-in-Err-clause-edges : goal.returns-in-Err-clause-edges
returns-in-Err-clause-edges g c =
    let refused = c.in-Err.ensures in
    let within = rw (← c.self.view_is) at c.requires.within in
    rw (← c.self.view_is) (edges_still _ _ _ _ _ _ within (ap length refused.accepted.same) (λ sound spot spells. g.met.P.Past.stays_spelled _ _ spot refused.past.goes sound spells))

pub returns-clause-since : goal.returns-clause-since
returns-clause-since g c = rw (← c.self.view_is) (keeps_then _ _ _ _ _ _ _ c.in-Ok-move_rows.ensures.rows.since c.in-Ok-answer_each.ensures.goes.since)

pub returns-in-Err-answer_each-clause-since : goal.returns-in-Err-answer_each-clause-since
returns-in-Err-answer_each-clause-since g c = rw (← c.self.view_is) (keeps_then _ _ _ _ _ _ _ c.in-Ok-move_rows.ensures.rows.since c.in-Err-answer_each.ensures.goes.since)

pub returns-clause-legal : goal.returns-clause-legal
returns-clause-legal g c = rw (← c.self.view_is) (λ edge spot at asks. c.in-Ok-move_rows.ensures.refuses.legal edge spot at (g.met.P.Past.stays_asking _ _ spot c.in-Ok.ensures.past.goes asks))
