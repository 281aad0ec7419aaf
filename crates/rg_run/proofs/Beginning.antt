-- A run up to its open line.
use Rattle.std.proofs.Common.{◌≡◌, inl, ℕ, List, [], ◌∷◌, ◌++◌, length, Option, refl, ap, sym, ◌∙◌, subst}
use Rattle.std.proofs.lemmas.List.{append-nil}
use Rattle.rg_host.specs.Image.{Image}
use Rattle.rg_host.specs.Lines.{ended}
use Rattle.rg_host.specs.Moments.{Moment, Moments, LeavesFiles}
use Rattle.rg_host.specs.Puts.{IsPrefix, IsPartWay, Puts}
use Rattle.rg_host.specs.Reading.{Reading}
use Rattle.rg_host.proofs.Laws.{moments-none, moments-weaker}
use Rattle.rg_event.specs.declared.event.Event.{Event}
use Rattle.rg_event.specs.Rising.{next_offset}
use Rattle.rg_config.specs.Plans.{Planned}
use Rattle.rg_reply.specs.Texts.{mark_line}
use Rattle.rg_reply.specs.declared.mark.Mark.TheVariants.{Opened}
use Rattle.rg_run_spec.specs.Output.{open_line, out}
use Rattle.rg_run_spec.specs.Stores.{StaysOnCourse}
use Rattle.rg_run_spec.specs.Turns.{IsBetween}
use Rattle.rg_run_spec.proofs.Laws.{between_first, on_course_put, part_way_more, put as putting, open_marks, mark_no_lf}
use Rattle.rg_task.specs.Terms.{terms_of}
use Rattle.rg_run.specs.Turning.{IsAwaiting}
use Rattle.rg_run.proofs.Gathering.{between_at, put_apart}
use Rattle.rg_run.specs.Answered.{IsFresh, IsToBegin}
use Rattle.rg_task.specs.State.{State}
use Rattle.rg_task.specs.View.{View, Keeps, OnlyNow, Sinks}
use Rattle.rg_run.specs.Begun.{Begun, lines_in, course_for}
use Rattle.rg_run.specs.UnderWay.{IsUnderWay}
use Rattle.rg_run.proofs.Runs.{way_first}

-- the open line
pub open_is : (held : List Event) (from next count : ℕ) → next ≡ next_offset held → count ≡ length held → ended (mark_line (Opened next count from) ∷ []) ≡ ended (open_line held from ∷ [])
open_is held from next count n c = ap (λ k. ended (mark_line (Opened k count from) ∷ [])) n ∙ ap (λ k. ended (mark_line (Opened (next_offset held) k from) ∷ [])) c

-- Of a run that is to begin, its open line, or a part of it, is put.
module _ {K : Type 0} (view : View K) (plan : Planned) (b : Begun) (left : Option (List ℕ)) (from first next count : ℕ) (old : K)
    (start : IsToBegin view plan b left from first old) (next_is : next ≡ (view.at old).next) (count_is : count ≡ length (view.at old).events) where
  abbrev line : List ℕ
  line = ended (open_line b.held b.from ∷ [])

  abbrev mark : List ℕ
  mark = ended (mark_line (Opened next count from) ∷ [])

  abbrev Stays : Moment → Type 0
  Stays = StaysOnCourse (view.store plan) (course_for plan b) []

  line_is : mark ≡ line
  line_is = open_is b.held from next count (next_is ∙ view.next_is plan old start.running ∙ ap next_offset start.events) (count_is ∙ ap length start.events) ∙ ap (λ (k : ℕ). ended (open_line b.held k ∷ [])) start.from_is

  put_holds : (m : Moment) → view.may old m.image × IsPartWay b.said line m.said → Stays m
  put_holds m p = on_course_put Image (view.store plan) (course_for plan b) [] (open_line b.held b.from ∷ []) (out (terms_of plan) b.held b.first (lines_in b)) b.held (view.at old).keep (view.may old) [] m.image m.said start.at_rest tt (mark_no_lf (Opened (next_offset b.held) (length b.held) b.from), tt) refl
      (open_marks Image (view.store plan) b.held b.from b.held (view.at old).keep (view.may old)) p.0 (subst (λ (l : List ℕ). IsPartWay l line m.said) (sym (append-nil b.said)) p.1)

  -- no call is on the course
  still : OnlyNow view → Sinks view → Moments view.clock view.since old old Stays
  still only sinks = moments-none view.clock view.since old Stays (λ t u m le h. sinks old t u m le h)
      (λ m h. let at = only old m h in put_holds m (at.0, ([], (line, refl), at.1 b.said start.told ∙ sym (append-nil b.said))))

  module _ (new : K) (files : LeavesFiles view.now view.may view.clock view.since old new) (keeps : Keeps view old new) where
    pub part_moments : (part : List ℕ) → IsPrefix part mark → Puts view.said view.clock view.since old new part → Moments view.clock view.since old new Stays
    part_moments part front puts =
        let p = putting K view.now view.may view.clock view.since view.said old new b.said part start.told files puts in
        moments-weaker view.clock view.since old new (λ m. view.may old m.image × IsPartWay b.said part m.said) Stays p.moments
        (λ m h. put_holds m (h.0, part_way_more b.said part line m.said (subst (λ (l : List ℕ). IsPrefix part l) line_is front) h.1))

    -- before the first line
    pub first_way : Puts view.said view.clock view.since old new mark → (reading : Reading) → IsFresh reading → IsUnderWay view plan b left reading first new []
    first_way puts reading fresh =
        let p = putting K view.now view.may view.clock view.since view.said old new b.said line start.told files (subst (λ (l : List ℕ). Puts view.said view.clock view.since old new l) line_is puts) in
        let store = view.store plan in
        let terms = terms_of plan in
        let course = course_for plan b in
        let lines = lines_in b in
        let put_now : List ℕ = b.said ++ line in
        let events_now : (view.at new).events ≡ b.held = ap (λ (x : State). x.events) keeps.at_stays ∙ start.events in
        let stored_now : (view.at new).stored ≡ b.held = ap (λ (x : State). x.stored) keeps.at_stays ∙ start.stored in
        let b0 = between_first Image store terms b.said b.held b.from b.first lines (view.at old).keep (view.may old) (view.may new) put_now start.at_rest p.fewer refl in
        let b1 = subst (λ (es : List Event). IsBetween store terms course es b.first lines b.held (view.at old).keep (view.may new) put_now) (sym events_now) b0 in
        let b2 = subst (λ (es : List Event). IsBetween store terms course (view.at new).events b.first lines es (view.at old).keep (view.may new) put_now) (sym stored_now) b1 in
        let b3 = subst (λ (k : Option ℕ). IsBetween store terms course (view.at new).events b.first lines (view.at new).stored k (view.may new) put_now) (ap (λ (x : State). x.keep) (sym keeps.at_stays)) b2 in
        let awaits : IsAwaiting view plan course b.first lines new [] = record {
          running = keeps.running plan start.running;
          put = put_now;
          told = p.told;
          between = between_at b3 (append-nil put_now);
          apart = put_apart course (view.at new).stored put_now (open_line b.held b.from ∷ []) (mark_no_lf (Opened (next_offset b.held) (length b.held) b.from), tt) refl (inl stored_now);
        } in
        way_first view plan b left reading first new [] start.comes fresh.pending fresh.still_open start.first_is awaits events_now

-- no call is on the course of a run that is to begin
pub quiet : {K : Type 0} (view : View K) (only : OnlyNow view) (sinks : Sinks view) (plan : Planned) (b : Begun) (left : Option (List ℕ)) (from first next count : ℕ) (old : K) → IsToBegin view plan b left from first old → next ≡ (view.at old).next → count ≡ length (view.at old).events
    → Moments view.clock view.since old old (StaysOnCourse (view.store plan) (course_for plan b) [])
quiet view only sinks plan b left from first next count old start next_is count_is = still view plan b left from first next count old start next_is count_is only sinks
