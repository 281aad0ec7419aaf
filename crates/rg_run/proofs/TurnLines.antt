-- The lines of a turn are what was due, and hold.
use Rattle.std.proofs.Common.{◌≡◌, ℕ, ◌+◌, ◌≤◌, ◌<◌, ◌^◌, List, ◌∷◌, length, Option, Some, refl, sym, ◌∙◌, ap, subst, arith}
use Rattle.rg_host.specs.Image.{Image}
use Rattle.rg_event.specs.declared.event.Event.{Event}
use Rattle.rg_event.specs.Rising.{next_offset}
use Rattle.rg_reply.specs.declared.reply.Reply.{Reply}
use Rattle.rg_config.specs.Plans.{Planned}
use Rattle.rg_reply.specs.Texts.{reply_line}
use Rattle.rg_run_spec.specs.Verdicts.{Verdict, accepted_after, reply_of, line_verdict}
use Rattle.rg_run_spec.proofs.Laws.{next_after, looked_at, turn_marks, Item}
use Rattle.rg_run_spec.specs.Accepted.{after_turn, verdict_from}
use Rattle.rg_run_spec.specs.Output.{Terms, stores, saves, turn_lines}
use Rattle.rg_run_spec.specs.Ahead.{lines_for}
use Rattle.rg_run_spec.specs.Stores.{Course}
use Rattle.rg_run_spec.specs.Steps.{MarksHold, HasInKept}
use Rattle.rg_run.specs.declared.due.Due.{Due}
use Rattle.rg_run.specs.declared.due.Due.TheVariants.{Nothing, Commit, Save}
use Rattle.rg_run.specs.Due.{marks_for}
use Rattle.rg_task.specs.Terms.{terms_of}
use Rattle.rg_task.specs.View.{View}
use Rattle.rg_run.specs.Turning.{IsMidTurn, IsDueDone}
use Rattle.rg_run.proofs.Marking.{due_on, marks_due, stores_due, saves_due}

-- where something was due, all events are stored
done_stored : {K : Type 0} (view : View K) (due : Due) (plan : Planned) (t : K) → IsDueDone view due plan t → (due ≡ Nothing → ⊥) → (view.at t).stored ≡ (view.at t).events
done_stored view Nothing plan t done some = absurd (some refl)
done_stored view Commit plan t done some = done
done_stored view Save plan t done some = done.all_stored

done_saved : {K : Type 0} (view : View K) (due : Due) (plan : Planned) (t : K) → IsDueDone view due plan t → due ≡ Save → HasInKept (view.store plan) (view.at t).stored (view.at t).keep (view.may t) (length (view.at t).events)
done_saved view Nothing plan t done save = absurd (let e : ◌≡◌ {A = Due} Nothing Save = save in cc)
done_saved view Commit plan t done save = absurd (let e : ◌≡◌ {A = Due} Commit Save = save in cc)
done_saved view Save plan t done save = let same : length (view.at t).stored ≡ length (view.at t).events = ap length done.all_stored in (omega (arith, same), (done.slot, done.kept, done.has))

module _ {K : Type 0} (view : View K) (plan : Planned) (course : Course) (offset : ℕ) (item : Item) (items : List Item) (start t : K) (gathered : List ℕ)
    (m : IsMidTurn view plan course offset item items start t gathered) (next : next_offset (view.at start).events ≤ offset) (due : Due) (due_is : due ≡ due_on (terms_of plan) (view.at start).events (line_verdict (terms_of plan).basis (view.at start).events offset item)) where
  abbrev events : List Event
  events = (view.at start).events

  abbrev terms : Terms
  terms = terms_of plan

  abbrev verdict : Verdict
  verdict = line_verdict terms.basis events offset item

  abbrev after : List Event
  after = accepted_after events verdict

  looked : verdict_from terms.basis (next_offset events) events offset item ≡ Some verdict
  looked = looked_at terms.basis (next_offset events) events offset item next

  after_is : (view.at t).events ≡ after
  after_is = m.follows ∙ ap (λ v. after_turn events v) looked

  count_is : length (view.at t).events ≡ length after
  count_is = ap length after_is

  next_then : (view.at t).next ≡ next_offset after
  next_then = view.next_is plan t m.running ∙ ap next_offset after_is

  -- what is put are the lines of the turn
  pub lines_told : (reply : Reply) → reply ≡ reply_of plan.queries events verdict → reply_line offset reply ∷ marks_for due (view.at t).next (length (view.at t).events) ≡ lines_for terms events offset item
  lines_told reply is =
      let d = due_on terms events verdict in
      ap (λ r. reply_line offset r ∷ marks_for due (view.at t).next (length (view.at t).events)) is
      ∙ ap (λ (l : List (List ℕ)). reply_line offset (reply_of plan.queries events verdict) ∷ l)
      (ap (λ (e : Due). marks_for e (view.at t).next (length (view.at t).events)) due_is ∙ ap (λ n. marks_for d n (length (view.at t).events)) next_then ∙ ap (λ n. marks_for d (next_offset after) n) count_is ∙ sym (marks_due terms events verdict))
      ∙ sym (ap (λ v. turn_lines terms events offset v) looked)

  -- and what their marks say is so
  pub marks_hold : offset < 2 ^ 62 → IsDueDone view due plan t → MarksHold (view.store plan) (view.at t).stored (view.at t).keep (view.may t) (lines_for terms events offset item)
  marks_hold small done =
      let v = verdict_from terms.basis (next_offset events) events offset item in
      let whole : after_turn events v ≡ after = ap (λ w. after_turn events w) looked in
      let low : next_offset (after_turn events v) ≤ offset + 1 = subst (λ (l : List Event). next_offset l ≤ offset + 1) (sym whole) (next_after events terms.basis offset item next) in
      let few : length (after_turn events v) ≤ 2 ^ 40 = subst (λ (l : List Event). length l ≤ 2 ^ 40) m.follows (view.few plan t m.running) in
      turn_marks Image (view.store plan) terms events offset v (view.at t).stored (view.at t).keep (view.may t) (omega (arith, small)) (omega (arith, low, small)) (omega (arith, few))
      (λ w is yes. let same = verdict_is w is in done_stored view due plan t done (λ none. stores_due terms events verdict (ap (λ (x : Verdict). stores terms events x) same ∙ yes) (sym due_is ∙ none)) ∙ after_is ∙ ap (λ (x : Verdict). accepted_after events x) same)
      (λ w is yes. let same = verdict_is w is in
      subst (λ (l : List Event). HasInKept (view.store plan) (view.at t).stored (view.at t).keep (view.may t) (length l)) (after_is ∙ ap (λ (x : Verdict). accepted_after events x) same) (done_saved view due plan t done (due_is ∙ saves_due terms events verdict (ap (λ (x : Verdict). saves terms events x) same ∙ yes))))
    where
      verdict_is : (w : Verdict) → verdict_from terms.basis (next_offset events) events offset item ≡ Some w → verdict ≡ w
      verdict_is w is = let both : ◌≡◌ {A = Option Verdict} (Some verdict) (Some w) = sym looked ∙ is in cc
