-- From one moment between two lines to the next.
use Rattle.std.proofs.Common.{◌≡◌, inl, inr, ℕ, suc, ◌+◌, ◌<◌, List, [], ◌∷◌, ◌++◌, length, take, Option, refl, sym, ◌∙◌, ap, subst, arith, append_assoc}
use Rattle.std.proofs.lemmas.List.{append-nil}
use Rattle.rg_event.specs.declared.event.Event.{Event}
use Rattle.rg_event.specs.Rising.{next_offset, IsRising}
use Rattle.rg_reply.specs.declared.mark.Mark.TheVariants.{Opened}
use Rattle.rg_host.specs.Lines.{ended}
use Rattle.rg_run_spec.specs.Accepted.{verdict_from, events_before}
use Rattle.rg_run_spec.specs.Output.{end_lines, open_line, put_before, Terms}
use Rattle.rg_run_spec.specs.Ahead.{after_line, lines_for, events_from, put_from, out_from}
use Rattle.rg_run_spec.specs.Laws.{IsPrefixOf}
use Rattle.rg_run_spec.specs.Stores.{Store, Course, course_of, IsNear}
use Rattle.rg_run_spec.specs.Steps.{IsAtRest, MarksHold}
use Rattle.rg_run_spec.specs.Turns.{IsBetween, IsStopped, IsDone}
use Rattle.rg_run_spec.proofs.Steps.{Item, passed_over}
use Rattle.rg_run_spec.proofs.Folds.{accepted-all, accepted-goes, puts-goes, out-is, grown}
use Rattle.rg_host.proofs.Laws.{ended-append}
use Rattle.rg_run_spec.proofs.Texts.{are-append, mark_no_lf, turn_are_lines}
use Rattle.rg_run_spec.proofs.Keeping.{rest_fewer, rest_more}
use Rattle.rg_run_spec.proofs.Marking.{open_marks, no_marks}
use Rattle.rg_run_spec.proofs.Courses.{stopped_at_rest}
use Rattle.rg_run_spec.proofs.Whole.{accepted_rises, held_begins}

-- what is still to come is what the next line gives, and then what comes behind it
pub ahead_next : (terms : Terms) (events : List Event) (offset : ℕ) (item : Item) (items : List Item) → out_from terms events offset (item ∷ items) ≡ lines_for terms events offset item ++ out_from terms (after_line terms.basis events offset item) (offset + 1) items
ahead_next terms events offset item items =
    let next = after_line terms.basis events offset item in
    let more = put_from terms next (offset + 1) items in
    let n : offset + length (item ∷ items) ≡ offset + 1 + length items = omega arith in
    append_assoc (lines_for terms events offset item) more (end_lines (offset + length (item ∷ items)) (events_from terms.basis next (offset + 1) items))
    ∙ ap (λ k. lines_for terms events offset item ++ (more ++ end_lines k (events_from terms.basis next (offset + 1) items))) n

-- the events so far begin those of the course
pub events_begin : (course : Course) (terms : Terms) (events : List Event) (offset : ℕ) (items : List Item) → events_from terms.basis events offset items ≡ course.accepted → IsPrefixOf events course.accepted
events_begin course terms events offset items is = let g = grown terms events offset items in (g.added, sym g.is ∙ is)

module _ (Image : Type 0) (store : Store Image) (course : Course) where
  -- what came with the next line at most
  pub near_next : (terms : Terms) (events : List Event) (offset : ℕ) (item : Item) (items : List Item) (stored : List Event) (keep : Option ℕ) (may : Image → Type 0) (said : List ℕ) (b : IsBetween store terms course events offset (item ∷ items) stored keep may said) (es : List Event) →
      IsPrefixOf es (after_line terms.basis events offset item) → IsNear course b.lines es
  near_next terms events offset item items stored keep may said b es front =
      let now = b.answers_ahead 0 (omega arith) in
      let next = b.answers_ahead 1 (omega arith) in
      let n : b.count ≡ b.count + 0 = omega arith in
      inr (b.count, b.count + 1, omega arith, next.0, ([], append-nil (course.answers b.count) ∙ ap course.answers n ∙ now.1 ∙ append-nil b.lines), subst (λ (l : List Event). IsPrefixOf es l) (sym (b.events_ahead 1 (omega arith))) front)

  -- at the end
  pub near_end : (terms : Terms) (events : List Event) (offset : ℕ) (stored : List Event) (keep : Option ℕ) (may : Image → Type 0) (said : List ℕ) (b : IsBetween store terms course events offset [] stored keep may said) (es : List Event) →
      IsPrefixOf es events → IsNear course b.lines es
  near_end terms events offset stored keep may said b es front =
      let now = b.answers_ahead 0 (omega arith) in
      let n : b.count ≡ b.count + 0 = omega arith in
      inr (b.count, b.count + 0, omega arith, now.0, ([], append-nil (course.answers b.count) ∙ ap course.answers n ∙ now.1 ∙ append-nil b.lines), subst (λ (l : List Event). IsPrefixOf es l) (sym (b.events_ahead 0 (omega arith))) front)

  -- a run may stop here
  pub between_stopped : (terms : Terms) (events : List Event) (offset : ℕ) (items : List Item) (stored : List Event) (keep : Option ℕ) (may : Image → Type 0) (said : List ℕ) → IsBetween store terms course events offset items stored keep may said → IsStopped store course may said
  between_stopped terms events offset items stored keep may said b = stopped_at_rest Image store course b.lines (out_from terms events offset items) stored keep may said b.at_rest b.are_lines b.text b.said_is

  pub between_next : (terms : Terms) (events : List Event) (offset : ℕ) (item : Item) (items : List Item) (old stored : List Event) (old_keep keep : Option ℕ) (old_may may next : Image → Type 0) (said now : List ℕ) →
      (b : IsBetween store terms course events offset (item ∷ items) old old_keep old_may said) → IsAtRest store course b.lines stored keep may → IsPrefixOf stored (after_line terms.basis events offset item) →
      MarksHold store stored keep may (lines_for terms events offset item) → ((v : Image) → next v → may v) → now ≡ said ++ ended (lines_for terms events offset item) →
      IsBetween store terms course (after_line terms.basis events offset item) (offset + 1) items stored keep next now
  between_next terms events offset item items old stored old_keep keep old_may may next said now b at_rest of marks fewer is =
      let more = lines_for terms events offset item in
      record {
        lines = b.lines ++ more;
        said_is = is ∙ ap (λ (l : List ℕ). l ++ ended more) b.said_is ∙ append_assoc course.said (ended b.lines) (ended more) ∙ ap (λ (l : List ℕ). course.said ++ l) (sym (ended-append b.lines more));
        are_lines = are-append b.lines more b.are_lines (turn_are_lines terms events offset (verdict_from terms.basis (next_offset events) events offset item));
        text = append_assoc b.lines more (out_from terms (after_line terms.basis events offset item) (offset + 1) items) ∙ ap (λ (l : List (List ℕ)). b.lines ++ l) (sym (ahead_next terms events offset item items)) ∙ b.text;
        accepted = b.accepted;
        of_events = of;
        count = b.count + 1;
        answers_ahead = λ i within.
            let a = b.answers_ahead (suc i) (omega (arith, within)) in
            let n : b.count + suc i ≡ b.count + 1 + i = omega arith in
            (omega (arith, a.0), ap course.answers (sym n) ∙ a.1 ∙ sym (append_assoc b.lines more (put_from terms (after_line terms.basis events offset item) (offset + 1) (take i items))));
        events_ahead = λ i within.
            let n : b.count + suc i ≡ b.count + 1 + i = omega arith in
            ap course.events (sym n) ∙ b.events_ahead (suc i) (omega (arith, within));
        at_rest = rest_fewer Image store course (b.lines ++ more) stored keep may next (rest_more Image store course b.lines more stored keep may at_rest marks) fewer;
      }

  -- behind a line below the next offset, which is passed over
  pub between_passed : (terms : Terms) (events : List Event) (offset : ℕ) (item : Item) (items : List Item) (stored : List Event) (keep : Option ℕ) (may next : Image → Type 0) (said : List ℕ) → offset < next_offset events →
      IsBetween store terms course events offset (item ∷ items) stored keep may said → ((v : Image) → next v → may v) → IsBetween store terms course events (offset + 1) items stored keep next said
  between_passed terms events offset item items stored keep may next said below b fewer =
      let p = passed_over terms events offset item below in
      let marks = subst (λ (l : List (List ℕ)). MarksHold store stored keep may l) (sym p.nothing) (no_marks Image store stored keep may) in
      let nothing : said ≡ said ++ ended (lines_for terms events offset item) = sym (ap (λ (l : List (List ℕ)). said ++ ended l) p.nothing ∙ append-nil said) in
      subst (λ (es : List Event). IsBetween store terms course es (offset + 1) items stored keep next said) p.stays
      (between_next terms events offset item items stored stored keep keep may may next said said b b.at_rest (subst (λ (es : List Event). IsPrefixOf stored es) (sym p.stays) b.of_events) marks fewer nothing)

  -- after the last line, once all is stored and put
  pub between_done : (terms : Terms) (events : List Event) (offset : ℕ) (keep old_keep : Option ℕ) (old_may may next : Image → Type 0) (old : List Event) (said now : List ℕ) → (b : IsBetween store terms course events offset [] old old_keep old_may said) → IsAtRest store course b.lines events keep may → ((v : Image) → next v → may v) →
      now ≡ said ++ ended (end_lines offset events) → IsDone store course next now
  between_done terms events offset keep old_keep old_may may next old said now b at_rest fewer is =
      let n : offset ≡ offset + 0 = omega arith in
      record {
        said_is = is ∙ ap (λ (l : List ℕ). l ++ ended (end_lines offset events)) b.said_is ∙ append_assoc course.said (ended b.lines) (ended (end_lines offset events))
            ∙ ap (λ (l : List ℕ). course.said ++ l) (sym (ended-append b.lines (end_lines offset events)) ∙ ap (λ k. ended (b.lines ++ end_lines k events)) n ∙ ap ended b.text);
        truthful = λ v left. at_rest.truthful v (fewer v left);
        grown = λ v left. at_rest.grown v (fewer v left);
        has = λ v left. subst (λ (es : List Event). store.HasEvents es v) b.accepted (at_rest.has v (fewer v left));
      }

-- before the open line is put, over a store whose images have these events
pub at_rest_first : (Image : Type 0) (store : Store Image) (terms : Terms) (said : List ℕ) (held : List Event) (from first : ℕ) (lines : List Item) (keep : Option ℕ) (may : Image → Type 0) →
    ((v : Image) → may v → store.IsTruthful v) → ((v : Image) → may v → store.IsOfSchema v) → ((v : Image) → may v → store.IsGrown v) → ((v : Image) → may v → store.HasEvents held v) → IsRising held → IsAtRest store (course_of terms said held from first lines) [] held keep may
at_rest_first Image store terms said held from first lines keep may truthful schema grown has rising =
    let none = no_marks Image store held keep may in
    record {
      truthful = truthful;
      schema = schema;
      grown = grown;
      has = has;
      rising = accepted_rises terms held first lines rising;
      begins = held_begins terms held first lines;
      keeps = ([], append-nil held);
      near = inl refl;
      stored_by = none.stored_by;
      saved_by = none.saved_by;
    }

-- the first moment, with the open line put
pub between_first : (Image : Type 0) (store : Store Image) (terms : Terms) (said : List ℕ) (held : List Event) (from first : ℕ) (lines : List Item) (keep : Option ℕ) (may next : Image → Type 0) (now : List ℕ) →
    IsAtRest store (course_of terms said held from first lines) [] held keep may → ((v : Image) → next v → may v) → now ≡ said ++ ended (open_line held from ∷ []) →
    IsBetween store terms (course_of terms said held from first lines) held first lines held keep next now
between_first Image store terms said held from first lines keep may next now at_rest fewer is =
    let course = course_of terms said held from first lines in
    record {
      lines = open_line held from ∷ [];
      said_is = is;
      are_lines = (mark_no_lf (Opened (next_offset held) (length held) from), tt);
      text = ap (λ (l : List (List ℕ)). open_line held from ∷ l) (sym (out-is terms held first lines));
      accepted = sym (accepted-all terms held first lines);
      of_events = ([], append-nil held);
      count = 0;
      answers_ahead = λ i within.
          let n : i ≡ 0 + i = omega arith in
          (omega (arith, within), ap (λ k. open_line held from ∷ put_before terms held first lines k) (sym n) ∙ ap (λ (l : List (List ℕ)). open_line held from ∷ l) (puts-goes terms held first lines i within));
      events_ahead = λ i within.
          let n : i ≡ 0 + i = omega arith in
          ap (λ k. events_before terms.basis held first lines k) (sym n) ∙ accepted-goes terms held first lines i within;
      at_rest = rest_fewer Image store course (open_line held from ∷ []) held keep may next (rest_more Image store course [] (open_line held from ∷ []) held keep may at_rest (open_marks Image store held from held keep may)) fewer;
    }
