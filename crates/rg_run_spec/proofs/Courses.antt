-- Each moment of a run is on its course: within a step and between steps, while lines are put, and at its stop.
use Rattle.std.proofs.Common.{◌≡◌, inl, inr, ⊎_elim, ℕ, ◌^◌, ◌<◌, List, [], ◌++◌, Option, refl, sym, ◌∙◌, ap, subst, append_assoc}
use Rattle.std.proofs.lemmas.List.{append-nil}
use Rattle.std.proofs.lemmas.List.Elements.{Contains-append_cases, Contains-append_left}
use Rattle.std.specs.List.{Contains}
use Rattle.rg_event.specs.declared.event.Event.{Event}
use Rattle.rg_reply.specs.Texts.{mark_line}
use Rattle.rg_reply.specs.declared.mark.Mark.TheVariants.{Stored, Saved}
use Rattle.rg_host.specs.Lines.{ended}
use Rattle.rg_host.specs.Puts.{IsPrefix, IsPartWay, IsPut}
use Rattle.rg_run_spec.specs.Laws.{IsPrefixOf}
use Rattle.rg_run_spec.specs.Acknowledged.{SavesLast, SayNothing}
use Rattle.rg_run_spec.specs.Pieces.{whole_pieces, AreLines}
use Rattle.rg_run_spec.specs.Stores.{Store, Course, IsNear, IsKeptInStore, IsOnCourse, IsOnCourseSince, Promised}
use Rattle.rg_run_spec.specs.Steps.{IsAtRest, IsMidStep, MarksHold}
use Rattle.rg_run_spec.specs.Turns.{IsStopped}
use Rattle.rg_run_spec.proofs.Acknowledging.{line_among}
use Rattle.rg_host.proofs.Laws.{ended-append}
use Rattle.rg_run_spec.proofs.Texts.{pieces_then, pieces_prefix, nil_prefix}
use Rattle.rg_run_spec.proofs.Keeping.{rest_kept, mid_step_kept, put_kept, near_more}

module _ (Image : Type 0) (store : Store Image) (course : Course) where
  lines_whole : (lines : List (List ℕ)) → AreLines lines → whole_pieces (ended lines) ≡ lines
  lines_whole lines are = ap (λ (t : List ℕ). whole_pieces t) (sym (append-nil (ended lines))) ∙ pieces_then lines [] are ∙ append-nil lines

  -- within a step on the disk
  pub on_course_mid_step : (lines after : List (List ℕ)) (stored chunk : List Event) (keep : Option ℕ) (may : Image → Type 0) (last : List ℕ) (v : Image) (said : List ℕ) → IsAtRest store course lines stored keep may → IsPrefixOf (stored ++ chunk) course.accepted → IsNear course lines (stored ++ chunk) → AreLines lines → lines ++ after ≡ course.text →
      IsMidStep store keep chunk may v → said ≡ course.said ++ ended lines → IsOnCourse store course last v said
  on_course_mid_step lines after stored chunk keep may last v said at_rest begins near are text w is = record {
    put = ended lines;
    since = is;
    text = inl (ended after, sym (ended-append lines after) ∙ ap ended text);
    kept = subst (λ (l : List (List ℕ)). IsKeptInStore store course l v) (sym (lines_whole lines are)) (mid_step_kept Image store course lines stored chunk keep may v at_rest begins near w);
    grown = inl (w.grown (at_rest.grown w.from w.left));
  }

  -- between steps
  pub on_course_at_rest : (lines after : List (List ℕ)) (stored : List Event) (keep : Option ℕ) (may : Image → Type 0) (last : List ℕ) (v : Image) (said : List ℕ) → IsAtRest store course lines stored keep may → AreLines lines → lines ++ after ≡ course.text →
      may v → said ≡ course.said ++ ended lines → IsOnCourse store course last v said
  on_course_at_rest lines after stored keep may last v said at_rest are text left is = record {
    put = ended lines;
    since = is;
    text = inl (ended after, sym (ended-append lines after) ∙ ap ended text);
    kept = subst (λ (l : List (List ℕ)). IsKeptInStore store course l v) (sym (lines_whole lines are)) (rest_kept Image store course lines stored keep may v at_rest left);
    grown = inl (at_rest.grown v left);
  }

  -- while lines of the text are put
  pub on_course_put : (lines more after : List (List ℕ)) (stored : List Event) (keep : Option ℕ) (may : Image → Type 0) (last : List ℕ) (v : Image) (said : List ℕ) → IsAtRest store course lines stored keep may → AreLines lines → AreLines more → lines ++ (more ++ after) ≡ course.text →
      MarksHold store stored keep may more → may v → IsPartWay (course.said ++ ended lines) (ended more) said → IsOnCourse store course last v said
  on_course_put lines more after stored keep may last v said at_rest are are_more text marks left way =
      let part = way.0 in
      let rest = way.1.0 in
      record {
        put = ended lines ++ part;
        since = way.2 ∙ append_assoc course.said (ended lines) part;
        text = inl (
          rest ++ ended after,
          append_assoc (ended lines) part (rest ++ ended after)
              ∙ ap (λ (l : List ℕ). ended lines ++ l) (sym (append_assoc part rest (ended after)) ∙ ap (λ (l : List ℕ). l ++ ended after) way.1.1 ∙ sym (ended-append more after))
              ∙ sym (ended-append lines (more ++ after)) ∙ ap ended text,
        );
        kept = put_kept Image store course lines more part stored keep may v at_rest are are_more marks way.1 left;
        grown = inl (at_rest.grown v left);
      }

  -- a run that stopped

  pub stopped_at_rest : (lines more : List (List ℕ)) (stored : List Event) (keep : Option ℕ) (may : Image → Type 0) (said : List ℕ) → IsAtRest store course lines stored keep may → AreLines lines → lines ++ more ≡ course.text → said ≡ course.said ++ ended lines → IsStopped store course may said
  stopped_at_rest lines more stored keep may said at_rest are text is = record {
    lines = lines;
    more = more;
    said_is = is;
    are_lines = are;
    of_text = text;
    kept = λ v left. rest_kept Image store course lines stored keep may v at_rest left;
    grown = inl at_rest.grown;
  }

  -- in a step on the disk
  pub stopped_mid_step : (lines more : List (List ℕ)) (stored chunk : List Event) (keep : Option ℕ) (may next : Image → Type 0) (said : List ℕ) → IsAtRest store course lines stored keep may → IsPrefixOf (stored ++ chunk) course.accepted → IsNear course lines (stored ++ chunk) → AreLines lines → lines ++ more ≡ course.text → said ≡ course.said ++ ended lines →
      ((v : Image) → next v → IsMidStep store keep chunk may v) → IsStopped store course next said
  stopped_mid_step lines more stored chunk keep may next said at_rest begins near are text is within = record {
    lines = lines;
    more = more;
    said_is = is;
    are_lines = are;
    of_text = text;
    kept = λ v left. mid_step_kept Image store course lines stored chunk keep may v at_rest begins near (within v left);
    grown = inl (λ v left. let w = within v left in w.grown (at_rest.grown w.from w.left));
  }

  -- lines that say nothing are put behind
  kept_more : (lines more : List (List ℕ)) (v : Image) → IsKeptInStore store course lines v → SayNothing more → IsKeptInStore store course (lines ++ more) v
  kept_more lines more v kept nothing = record {
    truthful = kept.truthful;
    schema = kept.schema;
    events = kept.events;
    has = kept.has;
    begins = kept.begins;
    keeps = kept.keeps;
    near = near_more course lines more kept.events kept.near;
    stored = λ n small says. elim (Contains-append_cases lines more (mark_line (Stored n)) says) [
      | inl old ↦ kept.stored n small old
      | inr new ↦ absurd (nothing.not_stored n small new)
    ];
    saved = λ count small says. elim (Contains-append_cases lines more (mark_line (Saved count)) says) [
      | inl old ↦ kept.saved count small old
      | inr new ↦ absurd (nothing.not_saved count small new)
    ];
  }

  nothing_prefix : (front whole : List (List ℕ)) → IsPrefixOf front whole → SayNothing whole → SayNothing front
  nothing_prefix front whole begins nothing = record {
    not_stored = λ n small says. nothing.not_stored n small (subst (λ (l : List (List ℕ)). Contains l (mark_line (Stored n))) begins.1 (Contains-append_left front begins.0 (mark_line (Stored n)) says));
    not_saved = λ count small says. nothing.not_saved count small (subst (λ (l : List (List ℕ)). Contains l (mark_line (Saved count))) begins.1 (Contains-append_left front begins.0 (mark_line (Saved count)) says));
  }

  -- while the last line of a status is put
  pub on_course_last : (ends : List (List ℕ)) (may : Image → Type 0) (old : List ℕ) (v : Image) (said : List ℕ) → IsStopped store course may old → AreLines ends → SayNothing ends → may v → IsPartWay old (ended ends) said → IsOnCourse store course (ended ends) v said
  on_course_last ends may old v said stop are_ends nothing left way =
      let part = way.0 in
      record {
        put = ended stop.lines ++ part;
        since = way.2 ∙ ap (λ (l : List ℕ). l ++ part) stop.said_is ∙ append_assoc course.said (ended stop.lines) part;
        text = inr (part, way.1, record { lines = stop.lines; more = stop.more; of_text = stop.of_text; is = refl });
        kept = subst (λ (l : List (List ℕ)). IsKeptInStore store course l v) (sym (pieces_then stop.lines part stop.are_lines))
            (kept_more stop.lines (whole_pieces part) v (stop.kept v left) (nothing_prefix (whole_pieces part) ends (pieces_prefix ends part are_ends way.1) nothing));
        grown = ⊎_elim (λ all. inl (all v left)) (λ none. inr (subst (λ (l : List (List ℕ)). IsPrefix (ended l ++ part) (ended ends)) (sym none) way.1)) stop.grown;
      }

  -- the last checkpoint that a line says is saved is in a slot
  pub last_saved : (lines : List (List ℕ)) (count : ℕ) (v : Image) → count < 2 ^ 64 → SavesLast lines count → IsKeptInStore store course lines v → (slot : ℕ) × store.HasSaved slot count v
  last_saved lines count v small last kept = kept.saved count small (line_among lines last.front last.back (mark_line (Saved count)) last.is)

  wider : (text : List (List ℕ)) (last put : List ℕ) → IsPut text [] put → IsPut text last put
  wider text last put (inl front) = inl front
  wider text last put (inr (part, front, stops)) = inr ([], (last, refl), record { lines = stops.lines; more = stops.more; of_text = stops.of_text; is = stops.is ∙ ap (λ (p : List ℕ). ended stops.lines ++ p) (nil_prefix part front.0 front.1) })

  -- whatever the last line
  pub on_course_wider : (last : List ℕ) (v : Image) (said : List ℕ) → IsOnCourse store course [] v said → IsOnCourse store course last v said
  on_course_wider last v said h = record {
    put = h.put;
    since = h.since;
    text = wider course.text last h.put h.text;
    kept = h.kept;
    grown = ⊎_elim (λ is. inl is) (λ none. inr (subst (λ (p : List ℕ). IsPrefix p last) (sym (nil_prefix h.put none.0 none.1)) (last, refl))) h.grown;
  }

  pub on_course_since_wider : (start : Image → Type 0) (last : List ℕ) (v : Image) (said : List ℕ) → IsOnCourseSince store course start [] v said → IsOnCourseSince store course start last v said
  on_course_since_wider start last v said (inl (begun, way)) =
      let none : way.0 ≡ [] = nil_prefix way.0 way.1.0 way.1.1 in
      inl (begun, ([], (last, refl), way.2 ∙ ap (λ (p : List ℕ). course.said ++ p) none))
  on_course_since_wider start last v said (inr h) = inr (on_course_wider last v said h)

  pub promised : (start : Image → Type 0) (last : List ℕ) (v : Image) (said : List ℕ) → ((u : Image) → start u → store.IsTruthful u) → IsOnCourseSince store course start last v said → Promised store course start last v said
  promised start last v said all (inl (begun, way)) = record {
    put = way.0;
    since = way.2;
    text = inr (way.0, way.1, record { lines = []; more = course.text; of_text = refl; is = refl });
    truthful = all v begun;
    schema = inl begun;
    grown = inr way.1;
    image = inl (begun, way.1);
  }
  promised start last v said all (inr h) = record {
    put = h.put;
    since = h.since;
    text = h.text;
    truthful = h.kept.truthful;
    schema = inr h.kept.schema;
    grown = h.grown;
    image = inr h.kept;
  }
