-- A line is answered.
use Rattle.std.proofs.Common.{◌≡◌, inl, inr, ℕ, ◌+◌, ◌<◌, ◌≤◌, ◌^◌, List, ◌∷◌, ◌++◌, length, Option, Some, refl, sym, ◌∙◌, ap, subst, arith}
use Rattle.rg_event.specs.declared.event.Event.{Event}
use Rattle.rg_event.specs.Rising.{next_offset}
use Rattle.rg_config.specs.Plans.{Planned}
use Rattle.rg_pipe.specs.Handing.{Given}
use Rattle.rg_pipe.specs.Handing.Given.{row}
use Rattle.rg_reply.specs.declared.reply.Reply.{Reply}
use Rattle.rg_reply.specs.Texts.{reply_line}
use Rattle.rg_row.specs.Rows.{row_of}
use Rattle.rg_run_spec.specs.declared.control.Control.{Control}
use Rattle.rg_run_spec.specs.Verdicts.{Verdict, accepted_after, reply_of, line_verdict, verdict_of, obeyed_or, read_as, or_reply}
use Rattle.rg_run_spec.specs.Verdicts.Verdict.{refused, obeyed}
use Rattle.rg_run_spec.specs.Output.{verdict_lines}
use Rattle.rg_run_spec.specs.Steps.{MarksHold}
use Rattle.rg_run_spec.proofs.Laws.{next_after}
use Rattle.rg_run.specs.declared.due.Due.{Due}
use Rattle.rg_run.specs.Due.{is_due, marks_for}
use Rattle.rg_run_spec.specs.Verdicts.{IsRow}
use Rattle.rg_run.specs.Turning.{HasWay, IsDueDone}
use Rattle.rg_run.proofs.Laws.{due_on, row_due, none_due, row_verdict_is}
use Rattle.rg_task.specs.Terms.{terms_of, verdict_on}
use Rattle.rg_task.specs.View.{View}
use Rattle.rg_serve_spec.specs.Frames.{text_of, framed, lines_in}
use Rattle.rg_serve_spec.specs.Errands.{Errand, course_of}
use Rattle.rg_serve.specs.Serving.{IsWithin, IsAwaiting}
use Rattle.rg_serve.specs.Calls.{IsDecided}
use Rattle.rg_serve.proofs.Marked.{told_lines, marks_hold}
use Rattle.rg_serve.proofs.Replied.{replies, answered, behind, behind_begins, behind_near}
use Rattle.rg_serve.proofs.Within.{line_within}
use Rattle.rg_host.specs.Moments.{LeavesAll}
use Rattle.rg_run_spec.specs.Laws.{IsPrefixOf}
use Rattle.rg_run_spec.specs.Stores.{IsNear}
use Rattle.rg_task.specs.Stepping.{IsWithinStep, IsStored}

-- What is decided on a line that brings no event, after any events.
pub record HasVerdict (plan : Planned) (events : List Event) (offset : ℕ) (item : List ℕ) (said : Reply) (due : Due) : Type 0 where
  pub verdict : Verdict
  pub is : line_verdict (terms_of plan).basis events offset (Some item) ≡ verdict
  pub stays : accepted_after events verdict ≡ events
  pub reply_is : said ≡ reply_of plan.queries events verdict
  pub due_is : due ≡ due_on (terms_of plan) events verdict

pub decide : (plan : Planned) (events : List Event) (offset : ℕ) (item : List ℕ) (said : Reply) (due : Due) → IsDecided (terms_of plan).basis offset item said due → HasVerdict plan events offset item said due
decide plan events offset item said due (inl (reads, none)) = record {
  verdict = refused said;
  is =
      let basis = (terms_of plan).basis in
      ap (λ (c : Option Control). obeyed_or c (verdict_of basis.most basis.grace events (read_as basis offset (Some item)))) reads.asks_nothing ∙ ap (λ r. verdict_of basis.most basis.grace events r) reads.reads;
  stays = refl;
  reply_is = refl;
  due_is = none ∙ none_due plan.settings.commit plan.settings.save (length events);
}
decide plan events offset item said due (inr (control, asks, done, due_is)) = record {
  verdict = obeyed control;
  is =
      let basis = (terms_of plan).basis in
      ap (λ (c : Option Control). obeyed_or c (verdict_of basis.most basis.grace events (read_as basis offset (Some item)))) asks;
  stays = refl;
  reply_is = done;
  due_is = due_is;
}

module _ {K : Type 0} (view : View K) (plan : Planned) (e : Errand) (offset : ℕ) (item : List ℕ) (ahead : List Given) (old : K) (gathered : List ℕ) (a : IsAwaiting view plan e (row offset item ∷ ahead) old gathered)
    (small : offset < 2 ^ 62) (low : (view.at old).next ≤ offset) where
  next_low : next_offset (view.at old).events ≤ offset
  next_low = subst (λ n. n ≤ offset) (view.next_is plan old a.within.running) low

  module _ (t : K) (left then_left : List ℕ) (w : IsWithin view plan e (replies view plan e (row offset item) ahead old gathered a) t left) (said : Reply) (due : Due) (done : IsDueDone view due plan t)
      (told : then_left ≡ left ++ framed (text_of (reply_line offset said ∷ marks_for due (view.at t).next (length (view.at t).events)))) (fits : length (text_of (reply_line offset said ∷ marks_for due (view.at t).next (length (view.at t).events))) < 2 ^ 32) where
    -- by its verdict
    by_verdict : (verdict : Verdict) → line_verdict (terms_of plan).basis (view.at old).events offset (Some item) ≡ verdict → (view.at t).events ≡ accepted_after (view.at old).events verdict → due ≡ due_on (terms_of plan) (view.at old).events verdict
        → said ≡ reply_of plan.queries (view.at old).events verdict → next_offset (accepted_after (view.at old).events verdict) ≤ offset + 1 → IsAwaiting view plan e ahead t then_left
    by_verdict verdict is after due_is said_is grows =
        let events = (view.at old).events in
        let lines = told_lines view plan events offset verdict t w.running after due due_is said said_is in
        answered view plan e (row offset item) ahead old gathered a t left then_left (reply_line offset said ∷ marks_for due (view.at t).next (length (view.at t).events)) w
        (after ∙ ap (λ (v : Verdict). accepted_after events v) (sym is)) (lines ∙ ap (λ (v : Verdict). verdict_lines (terms_of plan) events offset v) (sym is))
        (subst (λ (l : List (List ℕ)). MarksHold (view.store plan) (view.at t).stored (view.at t).keep (view.may t) l) (sym lines) (marks_hold view plan events offset verdict t w.running after due due_is small grows done)) told fits

    -- a line that brings no event
    pub decided_answered : (view.at t).events ≡ (view.at old).events → IsDecided (terms_of plan).basis offset item said due → IsAwaiting view plan e ahead t then_left
    decided_answered same decided =
        let h = decide plan (view.at old).events offset item said due decided in
        by_verdict h.verdict h.is (same ∙ sym h.stays) h.due_is h.reply_is (omega (arith, ap next_offset h.stays, next_low))

    -- a row
    pub row_answered : (line : List ℕ) → IsRow (terms_of plan).basis offset (Some item) line → (view.at t).events ≡ accepted_after (view.at old).events (verdict_on plan (view.at old).events offset line)
        → said ≡ reply_of plan.queries (view.at old).events (verdict_on plan (view.at old).events offset line)
        → (before count : ℕ) → before ≡ length (view.at old).events → count ≡ length (accepted_after (view.at old).events (verdict_on plan (view.at old).events offset line)) → due ≡ is_due plan.settings.commit plan.settings.save before count
        → IsAwaiting view plan e ahead t then_left
    row_answered line reads after said_is before count before_is count_is due_is =
        let events = (view.at old).events in
        let is = row_verdict_is plan events offset (Some item) line reads in
        by_verdict (verdict_on plan events offset line) is after
        (due_is ∙ ap (λ n. is_due plan.settings.commit plan.settings.save n count) before_is ∙ ap (λ n. is_due plan.settings.commit plan.settings.save (length events) n) count_is
        ∙ sym (row_due (terms_of plan) events plan.settings.events plan.settings.grace (or_reply (row_of plan.shape.fields offset line))))
        said_is (subst (λ (v : Verdict). next_offset (accepted_after events v) ≤ offset + 1) is (next_after events (terms_of plan).basis offset (Some item) next_low))

  -- the events once a row is taken
  pub taken_are : (taken : K) (line : List ℕ) → IsRow (terms_of plan).basis offset (Some item) line → (view.at taken).events ≡ accepted_after (view.at old).events (verdict_on plan (view.at old).events offset line) → (view.at taken).events ≡ behind view plan e (row offset item) ahead old gathered a
  taken_are taken line reads after = after ∙ ap (λ (v : Verdict). accepted_after (view.at old).events v) (sym (row_verdict_is plan (view.at old).events offset (Some item) line reads))

  -- a row is taken
  pub row_within : (taken : K) (line : List ℕ) → IsRow (terms_of plan).basis offset (Some item) line → HasWay view old gathered
      → IsWithinStep view.may view.clock view.since view.said (view.store plan) (view.at old).keep (view.at old).chunk old taken
      → (view.roomy old → LeavesAll view.now view.may view.clock view.since view.said old taken × ((view.at taken).stored ≡ (view.at old).stored))
      → IsStored (view.store plan) (view.at old).keep (view.at old).chunk (view.at old).stored (view.at taken).stored (view.may old) (view.may taken)
      → (view.at taken).keep ≡ (view.at old).keep → view.runs plan taken → (view.at taken).events ≡ accepted_after (view.at old).events (verdict_on plan (view.at old).events offset line)
      → IsWithin view plan e (replies view plan e (row offset item) ahead old gathered a) taken gathered
  row_within taken line reads way step roomy stored keep running after =
      let behind_is = taken_are taken line reads after in
      line_within view plan e (replies view plan e (row offset item) ahead old gathered a) old taken gathered a.within way step roomy stored keep running
      (subst (λ (l : List Event). IsPrefixOf l (course_of e).accepted) (sym behind_is) (behind_begins view plan e (row offset item) ahead old gathered a))
      (subst (λ (l : List Event). IsNear (course_of e) (lines_in (replies view plan e (row offset item) ahead old gathered a)) l) (sym behind_is) (behind_near view plan e (row offset item) ahead old gathered a))
