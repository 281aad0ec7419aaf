use Rattle.std.proofs.Common.{◌<◌, ◌∙◌, ◌++◌, ◌∷◌, [], ℕ, List, All, length, ap, sym, subst, Vec}
use Rattle.std.specs.Prelude.{Err}
use Rattle.std.specs.declared.alloc.Global.{Global}
use Rattle.rg_event.specs.Rising.{last_time}
use Rattle.rg_metric.specs.declared.answer.Answer.{Answer}
use Rattle.rg_metric.specs.Replies.{answers_to}
use Rattle.rg_plan.specs.declared.node.GroupNode.{GroupNode}
use Rattle.rg_engine.specs.Answering.{keys_for, node_answers}
use Rattle.rg_engine.specs.Feeding.{IsFed}
use Rattle.rg_engine.proofs.Taken.{last_of, stands_same, stands_events, row_stands, answers_are, asked_within}
use Rattle.rg_engine.proofs.Plain.{same_fault}
use Rattle.rg_engine.proofs.Since.{keeps_then}
use Rattle.rg_engine.proofs.engine.Engine.answer.Goals as goal

pub answer_each-requires-clause-nodes : goal.answer_each-requires-clause-nodes
answer_each-requires-clause-nodes g c =
    let built = c.self.invariant in
    subst (λ aggs. All (λ n. n < length aggs) c.deref.result.now) (sym c.aggs.ensures.aggs) (asked_within _ c.deref.result.now built.whole (c.deref.ensures.value ∙ built.asked))

pub returns-clause-stands : goal.returns-clause-stands
returns-clause-stands g c = rw (← c.self.view_is) (λ n first front is on.
    let plan = c.self.inside.plan in
    let event = c.args.event.now in
    let moved = c.in-Ok-move_rows.ensures in
    let after = moved.moves.stands n first (ap last_time is ∙ last_of front event) on in
    stands_events plan n _ _ _ _ moved.past.events (stands_same plan n _ _ _ _ (c.in-Ok-answer_each.ensures.told.same (moved.rows.rows.tells.1 on.tells)) after))

pub returns-clause-answers : goal.returns-clause-answers
returns-clause-answers g c = rw (← c.self.view_is) (λ queries first front made is on.
    let plan = c.self.inside.plan in
    let event = c.args.event.now in
    let built = c.self.invariant in
    let moved = c.in-Ok-move_rows.ensures in
    let after = λ (n : ℕ). moved.moves.stands n first (ap last_time is ∙ last_of front event) (on n) in
    let keys = c.deref-2.ensures.value ∙ c.in-Ok.ensures.prepared.made ∙ ap (λ (groups : List GroupNode). keys_for groups event) c.groups.ensures in
    let told = c.in-Ok-answer_each.ensures.told.answers (moved.rows.rows.tells.1 (on 0).tells) plan (front ++ event ∷ []) event built.whole (sym c.aggs.ensures.aggs) keys
    (λ n key. row_stands plan n (g.P.Past.events c.args.past.now) (front ++ event ∷ []) event.time (g.T.Table.cell c.move_rows.new.rows.table) _ is (last_of front event) (after n) key) in
    c.from.ensures ∙ ap (λ (list : Vec Answer Global). list.items) c.replace-answers.ensures.value ∙ answers_are queries plan front event c.deref.result.now _ made (subst (IsFed plan) is (on 0).fed) (c.deref.ensures.value ∙ built.asked)
    (told ∙ ap (λ old. old ++ node_answers plan (front ++ event ∷ []) event c.deref.result.now) c.in-Ok.ensures.prepared.empty) ∙ ap (λ all. answers_to queries all event) (sym is))

pub returns-in-Err-move_rows-clause-bad : goal.returns-in-Err-move_rows-clause-bad
returns-in-Err-move_rows-clause-bad g c = rw (← c.self.view_is) (λ n first front is bad on. c.in-Err-move_rows.ensures.moves.bad n first (ap Err (same_fault bad)) on)

pub returns-in-Err-move_rows-clause-never_damaged : goal.returns-in-Err-move_rows-clause-never_damaged
returns-in-Err-move_rows-clause-never_damaged g c = rw (← c.self.view_is) (λ place sound all is. c.in-Err-move_rows.ensures.refuses.never_damaged place sound all (ap Err (same_fault is)))

pub returns-in-Err-answer_each-clause-bad : goal.returns-in-Err-answer_each-clause-bad
returns-in-Err-answer_each-clause-bad g c = rw (← c.self.view_is) (λ n first front is bad on.
    let plan = c.self.inside.plan in
    let event = c.args.event.now in
    let moved = c.in-Ok-move_rows.ensures in
    let after = moved.moves.stands n first (ap last_time is ∙ last_of front event) on in
    c.in-Err-answer_each.ensures.told.bad n (ap Err (c.table_fault.ensures.bad n (same_fault bad))) (moved.rows.rows.tells.1 on.tells) plan (front ++ event ∷ []) event c.self.invariant.whole (sym c.aggs.ensures.aggs)
    (λ key. row_stands plan n (g.P.Past.events c.args.past.now) (front ++ event ∷ []) event.time (g.T.Table.cell c.move_rows.new.rows.table) _ is (last_of front event) after key))

pub returns-clause-since : goal.returns-clause-since
returns-clause-since g c = rw (← c.self.view_is) (keeps_then _ _ _ _ _ _ _ c.in-Ok-move_rows.ensures.rows.since c.in-Ok-answer_each.ensures.goes.since)

pub returns-in-Err-answer_each-clause-since : goal.returns-in-Err-answer_each-clause-since
returns-in-Err-answer_each-clause-since g c = rw (← c.self.view_is) (keeps_then _ _ _ _ _ _ _ c.in-Ok-move_rows.ensures.rows.since c.in-Err-answer_each.ensures.goes.since)

pub returns-clause-legal : goal.returns-clause-legal
returns-clause-legal g c = rw (← c.self.view_is) (λ edge spot at asks. c.in-Ok-move_rows.ensures.refuses.legal edge spot at asks)
