-- What the lines of a reply say is so.
use Rattle.std.proofs.Common.{◌≡◌, ◌≢◌, inl, inr, ℕ, ◌+◌, ◌<◌, ◌≤◌, ◌^◌, List, [], ◌∷◌, ◌++◌, length, get_or, Option, Some, refl, sym, ◌∙◌, ap, subst, arith}
use Rattle.std.proofs.lemmas.Fmt.{decimal_is_IsNumeral, decimal_nonempty}
use Rattle.std.proofs.lemmas.Str.Parse.{digit_at}
use Rattle.std.proofs.Math.ListN.{get_or-append}
use Rattle.std.specs.Prelude.{decimal}
use Rattle.rg_event.specs.declared.event.Event.{Event}
use Rattle.rg_event.specs.Rising.{next_offset}
use Rattle.rg_config.specs.Plans.{Planned}
use Rattle.rg_host.specs.Image.{Image}
use Rattle.rg_reply.specs.declared.reply.Reply.{Reply}
use Rattle.rg_reply.specs.Texts.{reply_line, mark_line}
use Rattle.rg_reply.specs.declared.mark.Mark.TheVariants.{Stored, Saved, Finished}
use Rattle.rg_run_spec.specs.Acknowledged.{SayNothing}
use Rattle.rg_run_spec.specs.Output.{stores, saves, stored_line, saved_line, verdict_lines, end_lines}
use Rattle.rg_run_spec.specs.Stores.{Store, Course}
use Rattle.rg_run_spec.specs.Steps.{MarksHold, HasInKept}
use Rattle.rg_run_spec.specs.Verdicts.{Verdict, accepted_after, reply_of}
use Rattle.rg_run_spec.proofs.Laws.{marks_prefix, turn_marks, end_marks, contains_one, contains_none, stored_injective, no_mark}
use Rattle.rg_task.specs.Terms.{terms_of}
use Rattle.rg_task.specs.View.{View}
use Rattle.rg_run.specs.declared.due.Due.{Due}
use Rattle.rg_run.specs.declared.due.Due.TheVariants.{Nothing, Commit, Save}
use Rattle.rg_run.specs.Due.{marks_for}
use Rattle.rg_run.specs.Turning.{IsDueDone}
use Rattle.rg_run.proofs.Laws.{due_on, marks_due, stores_due, saves_due}

-- where something was due, all events are stored
pub done_stored : {K : Type 0} (view : View K) (due : Due) (plan : Planned) (t : K) → IsDueDone view due plan t → (due ≡ Nothing → ⊥) → (view.at t).stored ≡ (view.at t).events
done_stored view Nothing plan t done some = absurd (some refl)
done_stored view Commit plan t done some = done
done_stored view Save plan t done some = done.all_stored

pub done_saved : {K : Type 0} (view : View K) (due : Due) (plan : Planned) (t : K) → IsDueDone view due plan t → due ≡ Save → HasInKept (view.store plan) (view.at t).stored (view.at t).keep (view.may t) (length (view.at t).events)
done_saved view Nothing plan t done save = absurd (let e : ◌≡◌ {A = Due} Nothing Save = save in cc)
done_saved view Commit plan t done save = absurd (let e : ◌≡◌ {A = Due} Commit Save = save in cc)
done_saved view Save plan t done save = let same : length (view.at t).stored ≡ length (view.at t).events = ap (λ (l : List Event). length l) done.all_stored in (omega (arith, same), (done.slot, done.kept, done.has))

-- lines that say nothing of the store
pub nothing_holds : (store : Store Image) (stored : List Event) (keep : Option ℕ) (may : Image → Type 0) (lines : List (List ℕ)) → SayNothing lines → MarksHold store stored keep may lines
nothing_holds store stored keep may lines nothing = record {
  stored_by = λ n k says. absurd (nothing.not_stored n k says);
  saved_by = λ count k says. absurd (nothing.not_saved count k says);
}

-- a line that begins with a digit
pub digit_nothing : (offset : ℕ) (text : List ℕ) → offset < 2 ^ 64 → SayNothing ((decimal offset ++ text) ∷ [])
digit_nothing offset text small =
    let first : get_or (decimal offset ++ text) 0 0 ≡ get_or (decimal offset) 0 0 = get_or-append (decimal offset) text 0 0 (decimal_nonempty offset small) in
    let range = digit_at (decimal offset) 0 (decimal_is_IsNumeral offset small).0.1 (decimal_nonempty offset small) in
    no_mark (decimal offset ++ text) (λ same. omega (arith, first, range, same))

stored_not_saved : (m n : ℕ) → mark_line (Stored m) ≢ mark_line (Saved n)
stored_not_saved m n e = let second : 116 ≡ 97 = ap (λ (l : List ℕ). get_or l 1 0) e in omega (arith, second)

stored_holds : (store : Store Image) (events : List Event) (keep : Option ℕ) (may : Image → Type 0) → next_offset events < 2 ^ 64 → MarksHold store events keep may (stored_line events ∷ [])
stored_holds store events keep may small = record {
  stored_by = λ n k says. elim (contains_one (stored_line events) (mark_line (Stored n)) [] says) [
    | inl is ↦ let same = stored_injective (next_offset events) n small k is in omega (arith, same)
    | inr none ↦ absurd (contains_none (mark_line (Stored n)) none)
  ];
  saved_by = λ count k says. elim (contains_one (stored_line events) (mark_line (Saved count)) [] says) [
    | inl is ↦ absurd (stored_not_saved (next_offset events) count is)
    | inr none ↦ absurd (contains_none (mark_line (Saved count)) none)
  ];
}

module _ {K : Type 0} (view : View K) (plan : Planned) (t : K) (running : view.runs plan t) where
  abbrev pub now : List Event
  now = (view.at t).events

  few : length now < 2 ^ 64
  few = let most = view.few plan t running in omega (arith, most)

  -- the end says what is so, once a checkpoint of all events is saved
  pub end_holds : (offset : ℕ) → next_offset now < 2 ^ 64 → IsDueDone view Save plan t → MarksHold (view.store plan) (view.at t).stored (view.at t).keep (view.may t) (end_lines offset now)
  end_holds offset small done =
      subst (λ (l : List Event). MarksHold (view.store plan) l (view.at t).keep (view.may t) (end_lines offset now)) (sym done.all_stored)
      (end_marks Image (view.store plan) offset now (view.at t).keep (view.may t) small few
      (subst (λ (l : List Event). HasInKept (view.store plan) l (view.at t).keep (view.may t) (length now)) done.all_stored (done_saved view Save plan t done refl)))

  pub commit_holds : next_offset now < 2 ^ 64 → IsDueDone view Commit plan t → MarksHold (view.store plan) (view.at t).stored (view.at t).keep (view.may t) (stored_line now ∷ [])
  commit_holds small done = subst (λ (l : List Event). MarksHold (view.store plan) l (view.at t).keep (view.may t) (stored_line now ∷ [])) (sym done) (stored_holds (view.store plan) now (view.at t).keep (view.may t) small)

  pub save_holds : (course : Course) → next_offset now < 2 ^ 64 → IsDueDone view Save plan t → MarksHold (view.store plan) (view.at t).stored (view.at t).keep (view.may t) (stored_line now ∷ (saved_line now ∷ []))
  save_holds course small done =
      marks_prefix Image (view.store plan) course (stored_line now ∷ (saved_line now ∷ [])) (end_lines 0 now) (view.at t).stored (view.at t).keep (view.may t) (mark_line (Finished 0 (length now)) ∷ [], refl) (end_holds 0 small done)

-- The lines of a reply that was decided by this verdict, once what is due is done.
module _ {K : Type 0} (view : View K) (plan : Planned) (events : List Event) (offset : ℕ) (verdict : Verdict) (t : K) (running : view.runs plan t) (after_is : (view.at t).events ≡ accepted_after events verdict)
    (due : Due) (due_is : due ≡ due_on (terms_of plan) events verdict) where
  next_then : (view.at t).next ≡ next_offset (accepted_after events verdict)
  next_then = view.next_is plan t running ∙ ap next_offset after_is

  count_then : length (view.at t).events ≡ length (accepted_after events verdict)
  count_then = ap (λ (l : List Event). length l) after_is

  pub told_lines : (said : Reply) → said ≡ reply_of plan.queries events verdict → reply_line offset said ∷ marks_for due (view.at t).next (length (view.at t).events) ≡ verdict_lines (terms_of plan) events offset verdict
  told_lines said is =
      let after = accepted_after events verdict in
      let d = due_on (terms_of plan) events verdict in
      ap (λ r. reply_line offset r ∷ marks_for due (view.at t).next (length (view.at t).events)) is
      ∙ ap (λ (l : List (List ℕ)). reply_line offset (reply_of plan.queries events verdict) ∷ l)
      (ap (λ (x : Due). marks_for x (view.at t).next (length (view.at t).events)) due_is ∙ ap (λ n. marks_for d n (length (view.at t).events)) next_then ∙ ap (λ n. marks_for d (next_offset after) n) count_then ∙ sym (marks_due (terms_of plan) events verdict))

  verdict_is : (w : Verdict) → ◌≡◌ {A = Option Verdict} (Some verdict) (Some w) → verdict ≡ w
  verdict_is w is = cc

  pub marks_hold : offset < 2 ^ 62 → next_offset (accepted_after events verdict) ≤ offset + 1 → IsDueDone view due plan t → MarksHold (view.store plan) (view.at t).stored (view.at t).keep (view.may t) (verdict_lines (terms_of plan) events offset verdict)
  marks_hold small low done =
      let most : length (accepted_after events verdict) ≤ 2 ^ 40 = subst (λ (l : List Event). length l ≤ 2 ^ 40) after_is (view.few plan t running) in
      turn_marks Image (view.store plan) (terms_of plan) events offset (Some verdict) (view.at t).stored (view.at t).keep (view.may t) (omega (arith, small)) (omega (arith, low, small)) (omega (arith, most))
      (λ w is yes. let same = verdict_is w is in done_stored view due plan t done (λ none. stores_due (terms_of plan) events verdict (ap (λ (x : Verdict). stores (terms_of plan) events x) same ∙ yes) (sym due_is ∙ none)) ∙ after_is ∙ ap (λ (x : Verdict). accepted_after events x) same)
      (λ w is yes. let same = verdict_is w is in
      subst (λ (l : List Event). HasInKept (view.store plan) (view.at t).stored (view.at t).keep (view.may t) (length l)) (after_is ∙ ap (λ (x : Verdict). accepted_after events x) same) (done_saved view due plan t done (due_is ∙ saves_due (terms_of plan) events verdict (ap (λ (x : Verdict). saves (terms_of plan) events x) same ∙ yes))))
