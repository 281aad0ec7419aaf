-- The beginning and the end of a run from their steps, and its stop in mid-way.
use Rattle.std.proofs.Common.{◌≡◌, inl, inr, ℕ, ◌+◌, List, [], ◌∷◌, ◌++◌, length, Option, refl, ap, sym, ◌∙◌, subst, arith}
use Rattle.std.proofs.lemmas.List.{append-nil}
use Rattle.rg_event.specs.declared.event.Event.{Event}
use Rattle.rg_event.specs.Rising.{next_offset}
use Rattle.rg_reply.specs.declared.mark.Mark.TheVariants.{Opened}
use Rattle.rg_host.specs.Image.{Image}
use Rattle.rg_host.specs.Lines.{ended}
use Rattle.rg_host.specs.Moments.{Moment, Moments}
use Rattle.rg_host.proofs.Laws.{moments_then, moments-weaker}
use Rattle.rg_host.specs.Puts.{IsPartWay}
use Rattle.rg_run_spec.specs.Output.{open_line, end_lines, out, Terms}
use Rattle.rg_run_spec.specs.Ahead.{out_from}
use Rattle.rg_run_spec.specs.Laws.{IsPrefixOf}
use Rattle.rg_run_spec.specs.Acknowledged.{SayNothing}
use Rattle.rg_run_spec.specs.Pieces.{AreLines}
use Rattle.rg_run_spec.specs.Stores.{Store, Course, course_of, IsNear, StaysOnCourse, StaysOnCourseSince}
use Rattle.rg_run_spec.specs.Steps.{IsAtRest, IsMidStep, IsStepped, MarksHold}
use Rattle.rg_run_spec.specs.Turns.{IsBetween, IsStopped, IsDone}
use Rattle.rg_run_spec.proofs.Steps.{Item}
use Rattle.rg_run_spec.proofs.Texts.{mark_no_lf, end_are_lines}
use Rattle.rg_run_spec.proofs.Keeping.{after_step}
use Rattle.rg_run_spec.proofs.Courses.{on_course_put, on_course_last, on_course_wider, on_course_since_wider, stopped_mid_step}
use Rattle.rg_run_spec.proofs.Marking.{open_marks}
use Rattle.rg_run_spec.proofs.Betweens.{between_first, between_done, near_end, events_begin}
use Rattle.rg_run_spec.proofs.Prefixes.{prefix_then}
use Rattle.rg_run_spec.proofs.Turns.{Stopped, on_course_step}

module _ (H : Type 0) (clock : H → ℕ) (since : H → ℕ → Moment → Type 0) (may : H → Image → Type 0) (store : Store Image) (terms : Terms) where
  -- Until a byte of the open line is put, what is left is as at the start, or the log got the schema.
  module _ (said : List ℕ) (held : List Event) (from first : ℕ) (lines : List Item) (keep : Option ℕ) (old synced opened new : H)
      (sync : Moments clock since old synced (λ m. may old m.image × (m.said ≡ said)))
      (at_rest : IsAtRest store (course_of terms said held from first lines) [] held keep (may synced))
      (open' : Moments clock since synced opened (λ m. IsMidStep store keep [] (may synced) m.image × (m.said ≡ said)))
      (opens : (v : Image) → may opened v → IsStepped store keep [] (may synced) v)
      (put : Moments clock since opened new (λ m. may opened m.image × IsPartWay said (ended (open_line held from ∷ [])) m.said)) where
    abbrev course : Course
    course = course_of terms said held from first lines

    abbrev P : Moment → Type 0
    P = StaysOnCourseSince store course (may old) []

    same : held ++ [] ≡ held
    same = append-nil held

    begins : IsPrefixOf (held ++ []) course.accepted
    begins = subst (λ (l : List Event). IsPrefixOf l course.accepted) (sym same) at_rest.begins

    at_open : IsAtRest store course [] held keep (may opened)
    at_open = subst (λ (l : List Event). IsAtRest store course [] l keep (may opened)) same (after_step Image store course [] held [] keep (may synced) (may opened) at_rest begins (inl same) opens)

    nothing_said : said ≡ said ++ ended []
    nothing_said = sym (append-nil said)

    put_holds : (m : Moment) → may opened m.image × IsPartWay said (ended (open_line held from ∷ [])) m.said → P m
    put_holds m p = inr (on_course_put Image store course [] (open_line held from ∷ []) (out terms held first lines) held keep (may opened) [] m.image m.said at_open tt (mark_no_lf (Opened (next_offset held) (length held) from), tt) refl
        (open_marks Image store held from held keep (may opened)) p.0 (subst (λ (l : List ℕ). IsPartWay l (ended (open_line held from ∷ [])) m.said) nothing_said p.1))

    -- all moments, where the open line may be put in part
    pub begun_moments : Moments clock since old new P
    begun_moments =
        let one : Moments clock since old synced P = moments-weaker clock since old synced (λ m. may old m.image × (m.said ≡ said)) P sync (λ m p. inl (p.0, ([], ([], refl), p.1 ∙ sym (append-nil said)))) in
        let two : Moments clock since synced opened (StaysOnCourse store course []) =
        on_course_step H clock since may store terms course [] course.text held [] keep said synced opened at_rest begins (inl same) tt refl nothing_said open' in
        moments_then clock since old opened new P (λ m. may opened m.image × IsPartWay said (ended (open_line held from ∷ [])) m.said) P (moments_then clock since old synced opened P (StaysOnCourse store course []) P one two (λ m p. p) (λ m h. inr h)) put (λ m p. p) put_holds

    module _ (now : List ℕ) (puts : (v : Image) → may new v → may opened v) (said_now : now ≡ said ++ ended (open_line held from ∷ [])) where
      pub begun : IsBetween store terms course held first lines held keep (may new) now
      begun = between_first Image store terms said held from first lines keep (may opened) (may new) now at_open puts said_now

  -- At the end of the input all is committed and saved, and the end is put.
  module _ (course : Course) (events : List Event) (offset : ℕ) (keep kept : Option ℕ) (old committed saved new : H) (stored chunk : List Event) (said : List ℕ)
      (b : IsBetween store terms course events offset [] stored keep (may old) said)
      (all : stored ++ chunk ≡ events)
      (commit : Moments clock since old committed (λ m. IsMidStep store keep chunk (may old) m.image × (m.said ≡ said)))
      (commits : (v : Image) → may committed v → IsStepped store keep chunk (may old) v)
      (save : Moments clock since committed saved (λ m. IsMidStep store keep [] (may committed) m.image × (m.said ≡ said)))
      (saves : IsAtRest store course b.lines events keep (may committed) → IsAtRest store course b.lines events kept (may saved))
      (marks : MarksHold store events kept (may saved) (end_lines offset events))
      (put : Moments clock since saved new (λ m. may saved m.image × IsPartWay said (ended (end_lines offset events)) m.said)) where
    near : (es : List Event) → IsPrefixOf es events → IsNear course b.lines es
    near es front = near_end Image store course terms events offset stored keep (may old) said b es front

    all_begins : IsPrefixOf (stored ++ chunk) course.accepted
    all_begins = subst (λ (l : List Event). IsPrefixOf l course.accepted) (sym all) (events_begin course terms events offset [] b.accepted)

    all_near : IsNear course b.lines (stored ++ chunk)
    all_near = near (stored ++ chunk) ([], append-nil (stored ++ chunk) ∙ all)

    at_committed : IsAtRest store course b.lines events keep (may committed)
    at_committed = subst (λ (l : List Event). IsAtRest store course b.lines l keep (may committed)) all (after_step Image store course b.lines stored chunk keep (may old) (may committed) b.at_rest all_begins all_near commits)

    at_saved : IsAtRest store course b.lines events kept (may saved)
    at_saved = saves at_committed

    ends_text : b.lines ++ (end_lines offset events ++ []) ≡ course.text
    ends_text =
        let n : offset ≡ offset + 0 = omega arith in
        ap (λ (l : List (List ℕ)). b.lines ++ l) (append-nil (end_lines offset events)) ∙ ap (λ k. b.lines ++ end_lines k events) n ∙ b.text

    end_holds : (m : Moment) → may saved m.image × IsPartWay said (ended (end_lines offset events)) m.said → StaysOnCourse store course [] m
    end_holds m p = on_course_put Image store course b.lines (end_lines offset events) [] events kept (may saved) [] m.image m.said at_saved b.are_lines (end_are_lines offset events) ends_text marks p.0
        (subst (λ (l : List ℕ). IsPartWay l (ended (end_lines offset events)) m.said) b.said_is p.1)

    -- all moments, where the end may be put in part
    pub end_moments : Moments clock since old new (StaysOnCourse store course [])
    end_moments =
        let P = StaysOnCourse store course [] in
        let none : events ++ [] ≡ events = append-nil events in
        let one : Moments clock since old committed P = on_course_step H clock since may store terms course b.lines (out_from terms events offset []) stored chunk keep said old committed b.at_rest all_begins all_near b.are_lines b.text b.said_is commit in
        let two : Moments clock since committed saved P = on_course_step H clock since may store terms course b.lines (out_from terms events offset []) events [] keep said committed saved at_committed
        (subst (λ (l : List Event). IsPrefixOf l course.accepted) (sym none) (events_begin course terms events offset [] b.accepted)) (near (events ++ []) ([], append-nil (events ++ []) ∙ none)) b.are_lines b.text b.said_is save in
        moments_then clock since old saved new P (λ m. may saved m.image × IsPartWay said (ended (end_lines offset events)) m.said) P (moments_then clock since old committed saved P P P one two (λ m p. p) (λ m p. p)) put (λ m p. p) end_holds

    module _ (now : List ℕ) (puts : (v : Image) → may new v → may saved v) (said_now : now ≡ said ++ ended (end_lines offset events)) where
      pub done : IsDone store course (may new) now
      done = between_done Image store course terms events offset kept keep (may old) (may saved) (may new) stored said now b at_saved puts said_now

  -- A step at the end of the input that failed, from where these events are stored.
  pub end_stopped : (course : Course) (events : List Event) (offset : ℕ) (begun stored chunk : List Event) (begun_keep keep : Option ℕ) (start old new : H) (said : List ℕ)
      (b : IsBetween store terms course events offset [] begun begun_keep (may start) said) → IsAtRest store course b.lines stored keep (may old) → IsPrefixOf (stored ++ chunk) events →
      Moments clock since old new (λ m. IsMidStep store keep chunk (may old) m.image × (m.said ≡ said)) → ((v : Image) → may new v → IsMidStep store keep chunk (may old) v) → Stopped H clock since may store terms course old new said
  end_stopped course events offset begun stored chunk begun_keep keep start old new said b at_rest of_events moments left =
      let after = out_from terms events offset [] in
      let begins = prefix_then (stored ++ chunk) events course.accepted of_events (events_begin course terms events offset [] b.accepted) in
      let near = near_end Image store course terms events offset begun begun_keep (may start) said b (stored ++ chunk) of_events in
      record {
        moments = on_course_step H clock since may store terms course b.lines after stored chunk keep said old new at_rest begins near b.are_lines b.text b.said_is moments;
        stopped = stopped_mid_step Image store course b.lines after stored chunk keep (may old) (may new) said at_rest begins near b.are_lines b.text b.said_is left;
      }

  -- A run that stopped puts its last line.
  module _ (course : Course) (ends : List (List ℕ)) (begun stopped new : H) (said : List ℕ)
      (so_far : Moments clock since begun stopped (StaysOnCourse store course []))
      (stop : IsStopped store course (may stopped) said)
      (are : AreLines ends)
      (nothing : SayNothing ends)
      (put : Moments clock since stopped new (λ m. may stopped m.image × IsPartWay said (ended ends) m.said)) where
    pub told : Moments clock since begun new (StaysOnCourse store course (ended ends))
    told = moments_then clock since begun stopped new (StaysOnCourse store course []) (λ m. may stopped m.image × IsPartWay said (ended ends) m.said) (StaysOnCourse store course (ended ends)) so_far put
        (λ m h. on_course_wider Image store course (ended ends) m.image m.said h) (λ m p. on_course_last Image store course ends (may stopped) said m.image m.said stop are nothing p.0 p.1)

  -- The same of a run that may not have opened its store.
  module _ (course : Course) (start : Image → Type 0) (ends : List (List ℕ)) (begun stopped new : H) (said : List ℕ)
      (so_far : Moments clock since begun stopped (StaysOnCourseSince store course start []))
      (stop : IsStopped store course (may stopped) said)
      (are : AreLines ends)
      (nothing : SayNothing ends)
      (put : Moments clock since stopped new (λ m. may stopped m.image × IsPartWay said (ended ends) m.said)) where
    pub told_since : Moments clock since begun new (StaysOnCourseSince store course start (ended ends))
    told_since = moments_then clock since begun stopped new (StaysOnCourseSince store course start []) (λ m. may stopped m.image × IsPartWay said (ended ends) m.said) (StaysOnCourseSince store course start (ended ends)) so_far put
        (λ m h. on_course_since_wider Image store course start (ended ends) m.image m.said h) (λ m p. inr (on_course_last Image store course ends (may stopped) said m.image m.said stop are nothing p.0 p.1))

  -- A run that stopped before it wrote: each image that might be left might have been left at the start.
  module _ (course : Course) (start : Image → Type 0) (last : List ℕ) (begun new : H)
      (put : Moments clock since begun new (λ m. start m.image × IsPartWay course.said last m.said)) where
    pub told_at_start : Moments clock since begun new (StaysOnCourseSince store course start last)
    told_at_start = moments-weaker clock since begun new (λ m. start m.image × IsPartWay course.said last m.said) (StaysOnCourseSince store course start last) put (λ m p. inl p)
