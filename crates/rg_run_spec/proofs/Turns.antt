-- A whole turn from its steps: the line is taken (which may commit the open chunk), what is due is committed, what is due is saved,
-- and the lines are put. Each step is given by what a call promises of it; one that failed ends the run.
use Rattle.std.proofs.Common.{◌≡◌, ℕ, ◌+◌, List, [], ◌∷◌, ◌++◌, Option, ap, sym, ◌∙◌, subst}
use Rattle.std.proofs.lemmas.List.{append-nil}
use Rattle.rg_event.specs.declared.event.Event.{Event}
use Rattle.rg_event.specs.Rising.{next_offset}
use Rattle.rg_host.specs.Image.{Image}
use Rattle.rg_host.specs.Lines.{ended}
use Rattle.rg_host.specs.Moments.{Moment, Moments}
use Rattle.rg_host.proofs.Laws.{moments_then, moments-weaker}
use Rattle.rg_host.specs.Puts.{IsPartWay}
use Rattle.rg_run_spec.specs.Accepted.{verdict_from}
use Rattle.rg_run_spec.specs.Output.{Terms}
use Rattle.rg_run_spec.specs.Ahead.{after_line, lines_for, out_from}
use Rattle.rg_run_spec.specs.Laws.{IsPrefixOf}
use Rattle.rg_run_spec.specs.Pieces.{AreLines}
use Rattle.rg_run_spec.specs.Stores.{Store, Course, IsNear, StaysOnCourse}
use Rattle.rg_run_spec.specs.Steps.{IsAtRest, IsMidStep, IsStepped, MarksHold}
use Rattle.rg_run_spec.specs.Turns.{IsBetween, IsStopped}
use Rattle.rg_run_spec.proofs.Steps.{Item}
use Rattle.rg_run_spec.proofs.Texts.{turn_are_lines}
use Rattle.rg_run_spec.proofs.Keeping.{after_step}
use Rattle.rg_run_spec.proofs.Courses.{on_course_mid_step, on_course_put, stopped_mid_step}
use Rattle.rg_run_spec.proofs.Betweens.{between_next, events_begin, ahead_next, near_next}
use Rattle.rg_run_spec.proofs.Folds.{grown}
use Rattle.rg_run_spec.proofs.Prefixes.{prefix_then}

module _ (H : Type 0) (clock : H → ℕ) (since : H → ℕ → Moment → Type 0) (may : H → Image → Type 0) (store : Store Image) (terms : Terms) (course : Course) where
  -- a step on the disk, whose moments say nothing new
  abbrev Steps : Option ℕ → List Event → List ℕ → H → H → Type 0
  Steps keep chunk said old new = Moments clock since old new (λ m. IsMidStep store keep chunk (may old) m.image × (m.said ≡ said))

  pub on_course_step : (lines after : List (List ℕ)) (stored chunk : List Event) (keep : Option ℕ) (said : List ℕ) (old new : H) → IsAtRest store course lines stored keep (may old) → IsPrefixOf (stored ++ chunk) course.accepted → IsNear course lines (stored ++ chunk) → AreLines lines → lines ++ after ≡ course.text → said ≡ course.said ++ ended lines →
      Steps keep chunk said old new → Moments clock since old new (StaysOnCourse store course [])
  on_course_step lines after stored chunk keep said old new at_rest begins near are text is moments =
      moments-weaker clock since old new (λ m. IsMidStep store keep chunk (may old) m.image × (m.said ≡ said)) (StaysOnCourse store course []) moments (λ m p. on_course_mid_step Image store course lines after stored chunk keep (may old) [] m.image m.said at_rest begins near are text p.0 (p.1 ∙ is))

  -- A run that stopped within a turn: each moment is on course, and whatever image is left is kept.
  pub record Stopped (old new : H) (said : List ℕ) : Type 0 where
    pub moments : Moments clock since old new (StaysOnCourse store course [])
    pub stopped : IsStopped store course (may new) said

  -- a step that failed, from where these events are stored
  pub step_stopped : (events : List Event) (offset : ℕ) (item : Item) (items : List Item) (begun stored chunk : List Event) (begun_keep keep : Option ℕ) (start old new : H) (said : List ℕ)
      (b : IsBetween store terms course events offset (item ∷ items) begun begun_keep (may start) said) → IsAtRest store course b.lines stored keep (may old) → IsPrefixOf (stored ++ chunk) (after_line terms.basis events offset item) →
      Steps keep chunk said old new → ((v : Image) → may new v → IsMidStep store keep chunk (may old) v) → Stopped old new said
  step_stopped events offset item items begun stored chunk begun_keep keep start old new said b at_rest of_line moments left =
      let next = after_line terms.basis events offset item in
      let after = out_from terms events offset (item ∷ items) in
      let begins = prefix_then (stored ++ chunk) next course.accepted of_line (events_begin course terms next (offset + 1) items b.accepted) in
      let near = near_next Image store course terms events offset item items begun begun_keep (may start) said b (stored ++ chunk) of_line in
      record {
        moments = on_course_step b.lines after stored chunk keep said old new at_rest begins near b.are_lines b.text b.said_is moments;
        stopped = stopped_mid_step Image store course b.lines after stored chunk keep (may old) (may new) said at_rest begins near b.are_lines b.text b.said_is left;
      }

  pub record Turned (events : List Event) (offset : ℕ) (item : Item) (items : List Item) (stored : List Event) (keep : Option ℕ) (old new : H) (said now : List ℕ) : Type 0 where
    pub moments : Moments clock since old new (StaysOnCourse store course [])
    pub between : IsBetween store terms course (after_line terms.basis events offset item) (offset + 1) items stored keep (may new) now

  module _ (events : List Event) (offset : ℕ) (item : Item) (items : List Item) (keep kept : Option ℕ) (old taken committed saved new : H) (stored chunk more due late : List Event) (said : List ℕ)
      (b : IsBetween store terms course events offset (item ∷ items) stored keep (may old) said)
      -- the line is taken: the open chunk is what isn't stored of the events; it may be committed
      (open_chunk : stored ++ chunk ≡ events)
      (take : Steps keep chunk said old taken)
      (takes : (v : Image) → may taken v → IsStepped store keep more (may old) v)
      -- what is due is committed
      (next_chunk : (stored ++ more) ++ due ≡ after_line terms.basis events offset item)
      (commit : Steps keep due said taken committed)
      (commits : (v : Image) → may committed v → IsStepped store keep late (may taken) v)
      (of_due : IsPrefixOf ((stored ++ more) ++ late) (after_line terms.basis events offset item))
      -- what is due is saved
      (save : Steps keep [] said committed saved)
      (saves : IsAtRest store course b.lines ((stored ++ more) ++ late) keep (may committed) → IsAtRest store course b.lines ((stored ++ more) ++ late) kept (may saved))
      -- the lines are put
      (marks : MarksHold store ((stored ++ more) ++ late) kept (may saved) (lines_for terms events offset item))
      (put : Moments clock since saved new (λ m. may saved m.image × IsPartWay said (ended (lines_for terms events offset item)) m.said)) where
    near : (es : List Event) → IsPrefixOf es (after_line terms.basis events offset item) → IsNear course b.lines es
    near es front = near_next Image store course terms events offset item items stored keep (may old) said b es front

    -- the events before the line begin those with it
    now_begins : IsPrefixOf events (after_line terms.basis events offset item)
    now_begins = let g = grown terms events offset (item ∷ []) in (g.added, sym g.is)

    abbrev lines : List (List ℕ)
    lines = lines_for terms events offset item

    begins_now : IsPrefixOf events course.accepted
    begins_now = events_begin course terms events offset (item ∷ items) b.accepted

    begins_next : IsPrefixOf (after_line terms.basis events offset item) course.accepted
    begins_next = events_begin course terms (after_line terms.basis events offset item) (offset + 1) items b.accepted

    taken_begins : IsPrefixOf (stored ++ more) course.accepted
    taken_begins = prefix_then (stored ++ more) (after_line terms.basis events offset item) course.accepted (due, next_chunk) begins_next

    pub at_taken : IsAtRest store course b.lines (stored ++ more) keep (may taken)
    at_taken = after_step Image store course b.lines stored more keep (may old) (may taken) b.at_rest taken_begins (near (stored ++ more) (due, next_chunk)) takes

    committed_begins : IsPrefixOf ((stored ++ more) ++ late) course.accepted
    committed_begins = prefix_then ((stored ++ more) ++ late) (after_line terms.basis events offset item) course.accepted of_due begins_next

    pub at_committed : IsAtRest store course b.lines ((stored ++ more) ++ late) keep (may committed)
    at_committed = after_step Image store course b.lines (stored ++ more) late keep (may taken) (may committed) at_taken committed_begins (near ((stored ++ more) ++ late) of_due) commits

    pub at_saved : IsAtRest store course b.lines ((stored ++ more) ++ late) kept (may saved)
    at_saved = saves at_committed

    rest : List (List ℕ)
    rest = out_from terms events offset (item ∷ items)

    ahead : b.lines ++ (lines ++ out_from terms (after_line terms.basis events offset item) (offset + 1) items) ≡ course.text
    ahead = ap (λ (l : List (List ℕ)). b.lines ++ l) (sym (ahead_next terms events offset item items)) ∙ b.text

    put_holds : (m : Moment) → may saved m.image × IsPartWay said (ended lines) m.said → StaysOnCourse store course [] m
    put_holds m p =
        on_course_put Image store course b.lines lines (out_from terms (after_line terms.basis events offset item) (offset + 1) items) ((stored ++ more) ++ late) kept (may saved) [] m.image m.said at_saved b.are_lines
        (turn_are_lines terms events offset (verdict_from terms.basis (next_offset events) events offset item)) ahead marks p.0 (subst (λ (l : List ℕ). IsPartWay l (ended lines) m.said) b.said_is p.1)

    -- all moments, where the lines may be put in part
    pub turn_moments : Moments clock since old new (StaysOnCourse store course [])
    turn_moments =
        let out = out_from terms events offset (item ∷ items) in
        let P = StaysOnCourse store course [] in
        let one : Moments clock since old taken P = on_course_step b.lines out stored chunk keep said old taken b.at_rest (subst (λ (l : List Event). IsPrefixOf l course.accepted) (sym open_chunk) begins_now) (near (stored ++ chunk) (subst (λ (l : List Event). IsPrefixOf l (after_line terms.basis events offset item)) (sym open_chunk) now_begins)) b.are_lines b.text b.said_is take in
        let two : Moments clock since taken committed P = on_course_step b.lines out (stored ++ more) due keep said taken committed at_taken (subst (λ (l : List Event). IsPrefixOf l course.accepted) (sym next_chunk) begins_next) (near ((stored ++ more) ++ due) ([], append-nil ((stored ++ more) ++ due) ∙ next_chunk)) b.are_lines b.text b.said_is commit in
        let three : Moments clock since committed saved P = on_course_step b.lines out ((stored ++ more) ++ late) [] keep said committed saved at_committed (subst (λ (l : List Event). IsPrefixOf l course.accepted) (sym (append-nil ((stored ++ more) ++ late))) committed_begins) (near (((stored ++ more) ++ late) ++ []) (subst (λ (l : List Event). IsPrefixOf l (after_line terms.basis events offset item)) (sym (append-nil ((stored ++ more) ++ late))) of_due)) b.are_lines b.text b.said_is save in
        moments_then clock since old saved new P (λ m. may saved m.image × IsPartWay said (ended lines) m.said) P
        (moments_then clock since old committed saved P P P (moments_then clock since old taken committed P P P one two (λ m p. p) (λ m p. p)) three (λ m p. p) (λ m p. p)) put (λ m p. p) put_holds

    module _ (now : List ℕ) (puts : (v : Image) → may new v → may saved v) (said_now : now ≡ said ++ ended (lines_for terms events offset item)) where
      pub turned : Turned events offset item items ((stored ++ more) ++ late) kept old new said now
      turned = record {
        moments = turn_moments;
        between = between_next Image store course terms events offset item items stored ((stored ++ more) ++ late) keep kept (may old) (may saved) (may new) said now b at_saved of_due marks puts said_now;
      }
