-- The verdict on one line and its marks, and what is accepted over an empty store.
use Rattle.std.proofs.Common.{◌≡◌, ℕ, zero, suc, ◌+◌, ◌≤◌, ◌<◌, true, cond, List, [], ◌∷◌, ◌++◌, length, get_or, Option, Some, None, refl, ap, ◌∙◌, arith}
use Rattle.std.proofs.lemmas.Bool.{lt-ltb, le-ltb}
use Rattle.rg_event.specs.declared.event.Event.{Event}
use Rattle.rg_reply.specs.Texts.{reply_line}
use Rattle.rg_run_spec.specs.Verdicts.{Basis, Verdict, accepted_after, line_verdict}
use Rattle.rg_run_spec.specs.Verdicts.Verdict.{refused, obeyed, accepted, moved}
use Rattle.rg_run_spec.specs.declared.control.Control.TheVariants.{Commit, Save, Ahead}
use Rattle.rg_run_spec.specs.Verdicts.{accepted_before, reply_to}
use Rattle.rg_run_spec.specs.Accepted.{verdict_from, after_turn, events_before}
use Rattle.rg_run_spec.specs.Output.{Terms, stored_line, saved_line, is_every, is_saved, saves, marks_of, turn_lines, put_at}
use Rattle.rg_run_spec.proofs.Steps.{or_true}

pub looked_at : (basis : Basis) (next : ℕ) (events : List Event) (offset : ℕ) (line : Option (List ℕ)) → next ≤ offset → verdict_from basis next events offset line ≡ Some (line_verdict basis events offset line)
looked_at basis next events offset line after = ap (λ b. cond b None (Some (line_verdict basis events offset line))) (le-ltb offset next after)

pub passed_over : (basis : Basis) (next : ℕ) (events : List Event) (offset : ℕ) (line : Option (List ℕ)) → offset < next → verdict_from basis next events offset line ≡ None
passed_over basis next events offset line below = ap (λ b. cond b None (Some (line_verdict basis events offset line))) (lt-ltb offset next below)

module _ (basis : Basis) (lines : List (Option (List ℕ))) where
  pub events_first : (i : ℕ) → events_before basis [] 0 lines i ≡ accepted_before basis lines i
  events_first zero = refl
  events_first (suc i) =
      let n : 0 + i ≡ i = omega arith in
      let events = accepted_before basis lines i in
      ap (λ es. after_turn es (verdict_from basis 0 es (0 + i) (get_or lines i None))) (events_first i)
      ∙ ap (λ k. after_turn events (verdict_from basis 0 events k (get_or lines i None))) n
      ∙ ap (λ v. after_turn events v) (looked_at basis 0 events i (get_or lines i None) (omega arith))

pub put_first : (terms : Terms) (lines : List (Option (List ℕ))) (i : ℕ) →
    put_at terms [] 0 lines i ≡ reply_line i (reply_to terms.basis lines i) ∷ marks_of terms (accepted_before terms.basis lines i) (line_verdict terms.basis (accepted_before terms.basis lines i) i (get_or lines i None))
put_first terms lines i =
    let n : 0 + i ≡ i = omega arith in
    let events = accepted_before terms.basis lines i in
    ap (λ es. turn_lines terms es (0 + i) (verdict_from terms.basis 0 es (0 + i) (get_or lines i None))) (events_first terms.basis lines i)
    ∙ ap (λ k. turn_lines terms events k (verdict_from terms.basis 0 events k (get_or lines i None))) n
    ∙ ap (λ v. turn_lines terms events i v) (looked_at terms.basis 0 events i (get_or lines i None) (omega arith))

-- what is saved is stored before
pub saved_marks : (terms : Terms) (events : List Event) (verdict : Verdict) → saves terms events verdict ≡ true →
    marks_of terms events verdict ≡ stored_line (accepted_after events verdict) ∷ (saved_line (accepted_after events verdict) ∷ [])
saved_marks terms events (refused reply) due = absurd (cc)
saved_marks terms events (obeyed Commit) due = absurd (cc)
saved_marks terms events (obeyed Save) due = refl
saved_marks terms events (obeyed Ahead) due = absurd (cc)
saved_marks terms events (accepted e) due = rw (or_true (is_every terms.commit (length (events ++ e ∷ []))) (is_saved terms (events ++ e ∷ [])) due, due) refl
saved_marks terms events (moved e) due = rw (or_true (is_every terms.commit (length (events ++ e ∷ []))) (is_saved terms (events ++ e ∷ [])) due, due) refl
