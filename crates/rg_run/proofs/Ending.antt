-- The end of a run: all events are saved, and the last lines are put.
use Rattle.std.proofs.Common.{◌≡◌, ℕ, ◌+◌, ◌≤◌, ◌<◌, ◌^◌, List, [], ◌++◌, length, Some, refl, sym, ◌∙◌, ap, subst, arith}
use Rattle.std.proofs.lemmas.List.{append-nil}
use Rattle.rg_host.specs.Image.{Image}
use Rattle.rg_host.specs.Lines.{ended}
use Rattle.rg_host.specs.Moments.{Moments, LeavesFiles}
use Rattle.rg_host.specs.Puts.{IsPrefix, IsPartWay, Puts}
use Rattle.rg_host.proofs.Laws.{moments_then}
use Rattle.rg_event.specs.declared.event.Event.{Event}
use Rattle.rg_event.specs.Rising.{next_offset}
use Rattle.rg_config.specs.Plans.{Planned}
use Rattle.rg_run_spec.specs.Output.{end_lines}
use Rattle.rg_run_spec.specs.Laws.{IsPrefixOf}
use Rattle.rg_run_spec.specs.Stores.{Course, StaysOnCourse}
use Rattle.rg_run_spec.specs.Steps.{IsAtRest, IsMidStep, MarksHold}
use Rattle.rg_run_spec.specs.Turns.{IsBetween, IsDone}
use Rattle.rg_run_spec.proofs.Laws.{between_done, events_begin, near_end, on_course_put, told_moments, part_way_more, put as putting, after_step, end_marks, prefix_then, end_stopped, end_are_lines, Stopped}
use Rattle.rg_run.specs.Due.{last_lines}
use Rattle.rg_task.specs.Stepping.{IsWithinStep, IsStored, IsAllSaved}
use Rattle.rg_task.specs.Terms.{terms_of}
use Rattle.rg_task.specs.View.{View}
use Rattle.rg_run.specs.Turning.{IsAwaiting, HasStopped}
use Rattle.rg_run.proofs.Gathering.{between_at}
use Rattle.rg_run.proofs.Saving.{rest_saved}
use Rattle.rg_run.proofs.Stepping.{has_stopped}

module _ {K : Type 0} (view : View K) (plan : Planned) (course : Course) (offset : ℕ) (old saved : K)
    (a : IsAwaiting view plan course offset [] old []) (within : IsWithinStep view.may view.clock view.since view.said (view.store plan) (view.at old).keep (view.at old).chunk old saved) where
  abbrev events : List Event
  events = (view.at old).events

  -- all is put
  abbrev b : IsBetween (view.store plan) (terms_of plan) course events offset [] (view.at old).stored (view.at old).keep (view.may old) a.put
  b = between_at a.between (sym (append-nil a.put))

  -- the save
  end_saved : Stopped K view.clock view.since view.may (view.store plan) (terms_of plan) course old saved a.put
  end_saved =
      end_stopped K view.clock view.since view.may (view.store plan) (terms_of plan) course events offset (view.at old).stored (view.at old).stored (view.at old).chunk (view.at old).keep (view.at old).keep old old saved a.put b b.at_rest ([], append-nil ((view.at old).stored ++ (view.at old).chunk) ∙ view.whole old)
      (told_moments K view.now view.may view.clock view.since view.said old saved (IsMidStep (view.store plan) (view.at old).keep (view.at old).chunk (view.may old)) a.put a.told within.moments) within.left

  pub save_moments : Moments view.clock view.since old saved (StaysOnCourse (view.store plan) course [])
  save_moments = end_saved.moments

  pub save_stopped : HasStopped view plan course saved
  save_stopped = has_stopped view plan course old saved a.put (within.said_stays ∙ a.told) end_saved

  module _ (running : view.runs plan saved)
      (stored : IsStored (view.store plan) (view.at old).keep (view.at old).chunk (view.at old).stored (view.at saved).stored (view.may old) (view.may saved)) (same : (view.at saved).events ≡ events)
      (all : IsAllSaved (view.store plan) (view.may saved) (view.at saved)) where
    whole : (view.at saved).stored ≡ events
    whole = all.all_stored ∙ same

    -- at rest, with the slot kept before
    at_stored : IsAtRest (view.store plan) course b.lines (view.at saved).stored (view.at old).keep (view.may saved)
    at_stored =
        let front : IsPrefixOf ((view.at old).stored ++ stored.more) events = ([], append-nil ((view.at old).stored ++ stored.more) ∙ sym stored.grown ∙ whole) in
        let begins = prefix_then ((view.at old).stored ++ stored.more) events course.accepted front (events_begin course (terms_of plan) events offset [] b.accepted) in
        let near = near_end Image (view.store plan) course (terms_of plan) events offset (view.at old).stored (view.at old).keep (view.may old) a.put b ((view.at old).stored ++ stored.more) front in
        subst (λ (l : List Event). IsAtRest (view.store plan) course b.lines l (view.at old).keep (view.may saved)) (sym stored.grown)
        (after_step Image (view.store plan) course b.lines (view.at old).stored stored.more (view.at old).keep (view.may old) (view.may saved) b.at_rest begins near stored.left)

    at_saved : IsAtRest (view.store plan) course b.lines events (view.at saved).keep (view.may saved)
    at_saved =
        subst (λ (l : List Event). IsAtRest (view.store plan) course b.lines l (view.at saved).keep (view.may saved)) whole
        (rest_saved view plan saved all course b.lines (view.at old).keep at_stored)

    module _ (next count : ℕ) (small : next < 2 ^ 64) (next_is : next ≡ (view.at saved).next) (count_is : count ≡ length (view.at saved).events) (new : K) (files : LeavesFiles view.now view.may view.clock view.since saved new) where
      next_by_events : next ≡ next_offset events
      next_by_events = next_is ∙ view.next_is plan saved running ∙ ap next_offset same

      count_by_events : count ≡ length events
      count_by_events = count_is ∙ ap length same

      -- what is put are the lines of the end, and they hold
      lines_are : last_lines offset next count ≡ end_lines offset events
      lines_are = ap (λ n. last_lines offset n count) next_by_events ∙ ap (λ n. last_lines offset (next_offset events) n) count_by_events

      holds : MarksHold (view.store plan) events (view.at saved).keep (view.may saved) (end_lines offset events)
      holds =
          let few : length events ≤ 2 ^ 40 = subst (λ (l : List Event). length l ≤ 2 ^ 40) same (view.few plan saved running) in
          end_marks Image (view.store plan) offset events (view.at saved).keep (view.may saved) (omega (arith, small, next_by_events)) (omega (arith, few))
          (omega arith, (all.slot, all.kept, λ v left. subst (λ (l : List Event). (view.store plan).HasSaved all.slot (length l) v) same (all.has v left)))

      ends_text : b.lines ++ (end_lines offset events ++ []) ≡ course.text
      ends_text =
          let n : offset ≡ offset + 0 = omega arith in
          ap (λ (l : List (List ℕ)). b.lines ++ l) (append-nil (end_lines offset events)) ∙ ap (λ k. b.lines ++ end_lines k events) n ∙ b.text

      -- a part of them is put
      pub end_moments : (part : List ℕ) × IsPrefix part (ended (last_lines offset next count)) × Puts view.said view.clock view.since saved new part → Moments view.clock view.since old new (StaysOnCourse (view.store plan) course [])
      end_moments p =
          let P = StaysOnCourse (view.store plan) course [] in
          let prefix = subst (λ (l : List (List ℕ)). IsPrefix p.0 (ended l)) lines_are p.1 in
          let puts = putting K view.now view.may view.clock view.since view.said saved new a.put p.0 (within.said_stays ∙ a.told) files p.2 in
          moments_then view.clock view.since old saved new P (λ w. view.may saved w.image × IsPartWay a.put p.0 w.said) P save_moments puts.moments (λ w h. h) (λ w h.
          on_course_put Image (view.store plan) course b.lines (end_lines offset events) [] events (view.at saved).keep (view.may saved) [] w.image w.said at_saved b.are_lines (end_are_lines offset events) ends_text holds h.0
          (subst (λ (l : List ℕ). IsPartWay l (ended (end_lines offset events)) w.said) b.said_is (part_way_more a.put p.0 (ended (end_lines offset events)) w.said prefix h.1)))

      -- all of them are
      pub end_done : Puts view.said view.clock view.since saved new (ended (last_lines offset next count)) → (put : List ℕ) × (view.said new ≡ Some put) × IsDone (view.store plan) course (view.may new) put
      end_done all_put =
          let puts = putting K view.now view.may view.clock view.since view.said saved new a.put (ended (end_lines offset events)) (within.said_stays ∙ a.told) files (subst (λ (l : List (List ℕ)). Puts view.said view.clock view.since saved new (ended l)) lines_are all_put) in (
            a.put ++ ended (end_lines offset events),
            puts.told,
            between_done Image (view.store plan) course (terms_of plan) events offset (view.at saved).keep (view.at old).keep (view.may old) (view.may saved) (view.may new) (view.at old).stored a.put (a.put ++ ended (end_lines offset events)) b at_saved puts.fewer refl,
          )
