-- A run from one line of its input to the next.
use Rattle.std.proofs.Common.{◌≡◌, Bool, true, false, ◌⊎◌, inl, inr, ⊎_elim, ℕ, ◌+◌, List, [], ◌∷◌, ◌++◌, length, Option, Some, Result, Ok, Err, refl, ap, sym, ◌∙◌, subst, arith, append_assoc, length-append}
use Rattle.std.proofs.lemmas.List.{append-nil, append_cancel_right}
use Rattle.std.specs.Prelude.{OnOk, IfErr}
use Rattle.rg_host.specs.Image.{Image}
use Rattle.rg_host.specs.Lines.{ended}
use Rattle.rg_host.specs.Moments.{Moments}
use Rattle.rg_host.specs.Reading.{Reading, Next}
use Rattle.rg_host.specs.declared.lines.Line.TheVariants.{End}
use Rattle.rg_host.specs.declared.lines.LineFault.{LineFault}
use Rattle.rg_host.specs.declared.lines.LineFault.TheVariants as reading
use Rattle.rg_event.specs.declared.event.Event.{Event}
use Rattle.rg_config.specs.Plans.{Planned}
use Rattle.rg_run_spec.specs.Accepted.{events_after}
use Rattle.rg_run_spec.specs.Ahead.{after_line, out_from}
use Rattle.rg_run_spec.specs.Output.{open_line, put_before, out}
use Rattle.rg_run_spec.specs.Stores.{StaysOnCourse}
use Rattle.rg_run_spec.specs.Turns.{IsDone}
use Rattle.rg_run_spec.proofs.Laws.{stopped_at_rest, accepted_more, out_more}
use Rattle.rg_task.specs.declared.fault.TaskFault.TheVariants as task
use Rattle.rg_run.specs.declared.fault.TurnFault.{TurnFault}
use Rattle.rg_run.specs.declared.fault.TurnFault.TheVariants as turn
use Rattle.rg_task.specs.Terms.{terms_of}
use Rattle.rg_run.specs.Turning.{IsAwaiting, HasStopped}
use Rattle.rg_run.proofs.Replied.{still_on_course}
use Rattle.rg_task.specs.State.{State}
use Rattle.rg_task.specs.View.{View, OnlyNow, Sinks}
use Rattle.rg_run.specs.Begun.{Begun, course_for}
use Rattle.rg_run.specs.Faults.{of_turn, of_line, of_end, of_input}
use Rattle.rg_run.specs.Gathered.{PutsOnly, StopsFrom}
use Rattle.rg_run.specs.Turned.{MoreOr, GoesTrue}
use Rattle.rg_run.specs.UnderWay.{IsUnderWay, Answers, HasAnswered, HasFinished}
use Rattle.rg_run.specs.declared.fault.RunFault.{RunFault}
use Rattle.rg_run.specs.declared.fault.RunFault.TheVariants.{BadState, Damaged, Read, Limit, Write}
use Rattle.rg_run.proofs.Causes.{EndsBy, end_others, err_is, input_is, input_limit, ok_never, put_or_memory, read_others, turn_bad, turn_damaged, turn_others}
use Rattle.rg_run.proofs.Turned.{more, no_more}
use Rattle.rg_run.proofs.Taking.{Item, TakesLine, read_on, item_next, end_next, whole_handed, took_past}

-- whole lines were put, or a put failed
abbrev pub IsCut : {K : Type 0} → View K → Planned → Begun → K → RunFault → Type 0
IsCut view plan b new fault = (fault ≡ Write) ⊎ HasStopped view plan (course_for plan b) new

stops : {K : Type 0} (view : View K) (plan : Planned) (b : Begun) (new : K) (fault : TurnFault) → (fault ≡ turn.Write) ⊎ HasStopped view plan (course_for plan b) new → IsCut view plan b new (of_turn fault)
stops view plan b new fault (inl is) = inl (ap of_turn is)
stops view plan b new fault (inr stopped) = inr stopped

module _ {K : Type 0} (view : View K) (plan : Planned) (b : Begun) (left : Option (List ℕ)) (old new : K) (moments : Moments view.clock view.since old new (StaysOnCourse (view.store plan) (course_for plan b) [])) where
  true_at_ok : {B : Type 0} {Done : B → Type 0} (value : B) → Done value → GoesTrue view plan b left Done (Ok value) old new
  true_at_ok value done = record {
    moments = moments;
    done = done;
    stopped = tt;
    answered = tt;
    never_bad = λ n is. ok_never value (BadState n) is;
    never_damaged = λ p is. ok_never value (Damaged p) is;
  }

  true_at_err : {B : Type 0} (Done : B → Type 0) (fault : TurnFault) (ran : RunFault) → ran ≡ of_turn fault → ((n : ℕ) → fault ≡ turn.Task (task.BadState n) → ⊥) → ((p : ℕ) → fault ≡ turn.Task (task.Damaged p) → ⊥) → IsCut view plan b new (of_turn fault) → GoesTrue view plan b left Done (Err ran) old new
  true_at_err Done fault ran ran_is bad damaged cut = record {
    moments = moments;
    done = tt;
    stopped = subst (IsCut view plan b new) (sym ran_is) cut;
    answered = λ which. absurd (⊎_elim (λ is. (turn_others fault).0 (sym ran_is ∙ is)) (λ is. (turn_others fault).1 (sym ran_is ∙ is)) which);
    never_bad = λ n is. bad n (turn_bad fault n (sym ran_is ∙ err_is ran (BadState n) is));
    never_damaged = λ p is. damaged p (turn_damaged fault p (sym ran_is ∙ err_is ran (Damaged p) is));
  }

  -- a read that failed
  pub true_unread : {B : Type 0} (Done : B → Type 0) (fault : RunFault) → (fault ≡ Read) ⊎ (fault ≡ Limit) → HasStopped view plan (course_for plan b) new → HasAnswered plan b left (view.said new) (fault ≡ Limit) → GoesTrue view plan b left Done (Err fault) old new
  true_unread Done fault which stopped answered = record {
    moments = moments;
    done = tt;
    stopped = inr stopped;
    answered = λ _. answered;
    never_bad = λ n is. (read_others fault which).0 n (err_is fault (BadState n) is);
    never_damaged = λ p is. (read_others fault which).1 p (err_is fault (Damaged p) is);
  }

module _ {K : Type 0} (view : View K) (plan : Planned) (b : Begun) (left : Option (List ℕ)) (old_r : Reading) (offset : ℕ) (gathered : List ℕ) (old : K)
    (way : IsUnderWay view plan b left old_r offset old gathered) where
  -- a line was handed out
  module _ (then_left : Option (List ℕ)) (new_r : Reading) (item : Item) (takes : TakesLine old_r new_r left then_left item) where
    next : (more : List Item) × (way.items ≡ item ∷ more)
    next = item_next b.input left then_left old_r new_r way.handed way.read item takes way.items way.whole

    awaits : IsAwaiting view plan (course_for plan b) offset (item ∷ next.0) old gathered
    awaits = subst (λ (l : List Item). IsAwaiting view plan (course_for plan b) offset l old gathered) next.1 way.awaiting

    module _ {A : Type 0} (result : Result A TurnFault) (offset_then : ℕ) (gathered_then : List ℕ) (new : K) (a : Answers view plan item offset offset_then gathered gathered_then old new result) where
      pub line_moments : Moments view.clock view.since old new (StaysOnCourse (view.store plan) (course_for plan b) [])
      line_moments = a.moments (course_for plan b) next.0 awaits

      pub line_stopped : (fault : TurnFault) → result ≡ Err fault → IsCut view plan b new (of_turn fault)
      line_stopped fault is = stops view plan b new fault (subst (λ (r : Result A TurnFault). IfErr r (λ f. (f ≡ turn.Write) ⊎ HasStopped view plan (course_for plan b) new)) is (a.stopped (course_for plan b) next.0 awaits))

      pub line_never_bad : IfErr result (λ f. (n : ℕ) → f ≡ turn.Task (task.BadState n) → ⊥)
      line_never_bad = a.never_bad (course_for plan b) next.0 awaits

      pub line_never_damaged : IfErr result (λ f. (p : ℕ) → f ≡ turn.Task (task.Damaged p) → ⊥)
      line_never_damaged = a.never_damaged (course_for plan b) next.0 awaits

      pub line_on : (done : A) → result ≡ Ok done → offset_then ≡ offset + 1 → IsUnderWay view plan b then_left new_r offset_then new gathered_then
      line_on done is moved =
          let events = subst (λ (r : Result A TurnFault). OnOk r ((view.at new).events ≡ after_line (terms_of plan).basis (view.at old).events offset item)) is (a.events (course_for plan b) next.0 awaits) in
          record {
            handed = way.handed ++ item ∷ [];
            items = next.0;
            read = read_on b.input left then_left old_r new_r way.handed way.read item takes;
            whole = append_assoc way.handed (item ∷ []) next.0 ∙ ap (λ (l : List Item). way.handed ++ l) (sym next.1) ∙ way.whole;
            offset_is = omega (arith, moved, way.offset_is, length-append way.handed (item ∷ []));
            awaiting = subst (λ (r : Result A TurnFault). OnOk r (IsAwaiting view plan (course_for plan b) offset_then next.0 new gathered_then)) is (a.awaits (course_for plan b) next.0 awaits);
            events = events
                ∙ ap (λ (es : List Event). after_line (terms_of plan).basis es offset item) way.events
                ∙ ap (λ (n : ℕ). after_line (terms_of plan).basis (events_after (terms_of plan).basis b.held b.first way.handed) n item) way.offset_is
                ∙ sym (accepted_more (terms_of plan) b.held b.first way.handed (item ∷ []));
          }

      pub goes_on : (done : A) → result ≡ Ok done → offset_then ≡ offset + 1 → GoesTrue view plan b then_left (MoreOr (IsUnderWay view plan b then_left new_r offset_then new gathered_then) (HasFinished view plan b new)) (Ok true) old new
      goes_on done is moved = true_at_ok view plan b then_left old new line_moments true (more (line_on done is moved))

      pub goes_err : {B : Type 0} (Done : B → Type 0) (fault : TurnFault) (ran : RunFault) → ran ≡ of_turn fault → result ≡ Err fault → GoesTrue view plan b then_left Done (Err ran) old new
      goes_err Done fault ran ran_is is = true_at_err view plan b then_left old new line_moments Done fault ran ran_is
          (subst (λ (r : Result A TurnFault). IfErr r (λ f. (n : ℕ) → f ≡ turn.Task (task.BadState n) → ⊥)) is line_never_bad)
          (subst (λ (r : Result A TurnFault). IfErr r (λ f. (p : ℕ) → f ≡ turn.Task (task.Damaged p) → ⊥)) is line_never_damaged)
          (line_stopped fault is)

    goes_by : {A : Type 0} (result : Result A TurnFault) (offset_then : ℕ) (gathered_then : List ℕ) (new : K) → Answers view plan item offset offset_then gathered gathered_then old new result → OnOk result (offset_then ≡ offset + 1)
        → GoesTrue view plan b then_left (MoreOr (IsUnderWay view plan b then_left new_r offset_then new gathered_then) (HasFinished view plan b new)) (of_line result) old new
    goes_by (Ok done) offset_then gathered_then new a moved = goes_on (Ok done) offset_then gathered_then new a done refl moved
    goes_by (Err fault) offset_then gathered_then new a moved = goes_err (Err fault) offset_then gathered_then new a (MoreOr (IsUnderWay view plan b then_left new_r offset_then new gathered_then) (HasFinished view plan b new)) fault (of_turn fault) refl refl

    pub line_goes : {A : Type 0} (result : Result A TurnFault) (offset_then : ℕ) (gathered_then : List ℕ) (new : K) → Answers view plan item offset offset_then gathered gathered_then old new result → OnOk result (offset_then ≡ offset + 1)
        → (ran : Result Bool RunFault) → ran ≡ of_line result
        → GoesTrue view plan b then_left (MoreOr (IsUnderWay view plan b then_left new_r offset_then new gathered_then) (HasFinished view plan b new)) ran old new
    line_goes result offset_then gathered_then new a moved ran ran_is =
        subst (λ (r : Result Bool RunFault). GoesTrue view plan b then_left (MoreOr (IsUnderWay view plan b then_left new_r offset_then new gathered_then) (HasFinished view plan b new)) r old new)
        (sym ran_is) (goes_by result offset_then gathered_then new a moved)

  -- the end came
  pub end_awaits : (then_left : Option (List ℕ)) (new_r : Reading) → Next old_r new_r left then_left (Ok End) → IsAwaiting view plan (course_for plan b) offset [] old gathered
  end_awaits then_left new_r next = subst (λ (l : List Item). IsAwaiting view plan (course_for plan b) offset l old gathered) (end_next b.input left then_left old_r new_r way.handed way.read next way.items way.whole) way.awaiting

-- the end was answered
module _ {K : Type 0} (view : View K) (plan : Planned) (b : Begun) (left : Option (List ℕ)) (old new : K) (On : Type 0) (moments : Moments view.clock view.since old new (StaysOnCourse (view.store plan) (course_for plan b) [])) where
  finished_by : {A : Type 0} (result : Result A TurnFault) → OnOk result ((put : List ℕ) × (view.said new ≡ Some put) × IsDone (view.store plan) (course_for plan b) (view.may new) put)
      → IfErr result (λ f. (f ≡ turn.Write) ⊎ HasStopped view plan (course_for plan b) new) → IfErr result EndsBy
      → GoesTrue view plan b left (MoreOr On (HasFinished view plan b new)) (of_end result) old new
  finished_by (Ok done) ended stopped faults = true_at_ok view plan b left old new moments false (no_more (record { put = ended.0; told = ended.1; done = ended.2 }))
  finished_by (Err fault) ended stopped faults =
      let not = end_others fault faults in
      true_at_err view plan b left old new moments (MoreOr On (HasFinished view plan b new)) fault (of_turn fault) refl not.0 not.1 (stops view plan b new fault stopped)

  pub end_goes : {A : Type 0} (result : Result A TurnFault) → OnOk result ((put : List ℕ) × (view.said new ≡ Some put) × IsDone (view.store plan) (course_for plan b) (view.may new) put)
      → IfErr result (λ f. (f ≡ turn.Write) ⊎ HasStopped view plan (course_for plan b) new) → IfErr result EndsBy
      → (ran : Result Bool RunFault) → ran ≡ of_end result
      → GoesTrue view plan b left (MoreOr On (HasFinished view plan b new)) ran old new
  end_goes result ended stopped faults ran ran_is =
      subst (λ (r : Result Bool RunFault). GoesTrue view plan b left (MoreOr On (HasFinished view plan b new)) r old new)
      (sym ran_is) (finished_by result ended stopped faults)

-- no call is on the course
pub stays : {K : Type 0} (view : View K) (only : OnlyNow view) (sinks : Sinks view) (plan : Planned) (b : Begun) (left : Option (List ℕ)) (reading : Reading) (offset : ℕ) (gathered : List ℕ) (t : K) → IsUnderWay view plan b left reading offset t gathered
    → Moments view.clock view.since t t (StaysOnCourse (view.store plan) (course_for plan b) [])
stays view only sinks plan b left reading offset gathered t way = still_on_course view only sinks plan (course_for plan b) offset way.items t gathered way.awaiting

module _ {K : Type 0} (view : View K) (plan : Planned) (b : Begun) (left : Option (List ℕ)) (old_r : Reading) (offset : ℕ) (t : K) (gathered : List ℕ)
    (way : IsUnderWay view plan b left old_r offset t gathered) where
  -- just what answers the lines handed out was told
  lines_are : way.awaiting.between.lines ≡ open_line b.held b.from ∷ put_before (terms_of plan) b.held b.first way.handed (length way.handed)
  lines_are =
      let terms = terms_of plan in
      let rest = out_from terms (view.at t).events offset way.items in
      append_cancel_right way.awaiting.between.lines (open_line b.held b.from ∷ put_before terms b.held b.first way.handed (length way.handed)) rest
      (way.awaiting.between.text
      ∙ ap (λ (l : List (List ℕ)). open_line b.held b.from ∷ l)
      (ap (λ (l : List Item). out terms b.held b.first l) (sym way.whole)
      ∙ out_more terms b.held b.first way.handed way.items
      ∙ ap (λ (es : List Event). put_before terms b.held b.first way.handed (length way.handed) ++ out_from terms es (b.first + length way.handed) way.items) (sym way.events)
      ∙ ap (λ (n : ℕ). put_before terms b.held b.first way.handed (length way.handed) ++ out_from terms (view.at t).events n way.items) (sym way.offset_is)))

-- where all that was told is put
module _ {K : Type 0} (view : View K) (plan : Planned) (b : Begun) (left : Option (List ℕ)) (old_r : Reading) (offset : ℕ) (t : K)
    (way : IsUnderWay view plan b left old_r offset t []) where
  all_said : way.awaiting.put ≡ b.said ++ ended way.awaiting.between.lines
  all_said = sym (append-nil way.awaiting.put) ∙ way.awaiting.between.said_is

  -- the run stops where it is
  pub stops_here : HasStopped view plan (course_for plan b) t
  stops_here =
      let a = way.awaiting in
      record {
        put = a.put;
        told = a.told;
        stopped = stopped_at_rest Image (view.store plan) (course_for plan b) a.between.lines (out_from (terms_of plan) (view.at t).events offset way.items) (view.at t).stored (view.at t).keep (view.may t) a.put a.between.at_rest a.between.are_lines a.between.text all_said;
      }

  pub answered : (then_left : Option (List ℕ)) (new_r : Reading) (fault : LineFault) (limit : Type 0) → (next : Next old_r new_r left then_left (Err fault)) → (fault ≡ reading.Limit → limit) → HasAnswered plan b then_left (view.said t) limit
  answered then_left new_r fault limit next is_limit =
      let got = way.read.got ++ next.got in
      let handed = whole_handed b.input left then_left old_r new_r way.handed way.read fault next in
      record {
        got = got;
        past = next.past;
        took = took_past b.input left then_left old_r new_r way.handed way.read fault next;
        one = next.one_past;
        none_past = ⊎_elim (λ none. inl none) (λ is. inr (is_limit (let e : fault ≡ reading.Limit = cc in e))) next.none_past;
        put = way.awaiting.told
            ∙ ap (λ (x : List ℕ). Some x) (all_said ∙ ap (λ (l : List (List ℕ)). b.said ++ ended l)
            (lines_are view plan b left old_r offset t [] way ∙ ap (λ (l : List Item). open_line b.held b.from ∷ put_before (terms_of plan) b.held b.first l (length l)) (sym handed)));
      }

-- a run under way, after a call that put what it had gathered
pub way_on : {K : Type 0} (view : View K) (plan : Planned) (b : Begun) (left : Option (List ℕ)) (reading : Reading) (offset offset_then : ℕ) (old new : K) (gathered gathered_then : List ℕ)
    (way : IsUnderWay view plan b left reading offset old gathered) → offset_then ≡ offset → view.at new ≡ view.at old → IsAwaiting view plan (course_for plan b) offset_then way.items new gathered_then
    → IsUnderWay view plan b left reading offset_then new gathered_then
way_on view plan b left reading offset offset_then old new gathered gathered_then way same stays awaits = record {
  handed = way.handed;
  items = way.items;
  read = way.read;
  whole = way.whole;
  offset_is = same ∙ way.offset_is;
  awaiting = awaits;
  events = ap (λ (x : State). x.events) stays ∙ way.events;
}

-- A read of the input failed: what was gathered was put, or a part of it.
module _ {K : Type 0} (view : View K) (disk_faults out_faults : K → ℕ) (plan : Planned) (b : Begun) (left : Option (List ℕ)) (old_r : Reading) (offset offset_then : ℕ) (gathered : List ℕ) (old new : K)
    (puts : PutsOnly view disk_faults out_faults offset offset_then gathered old new) (way : IsUnderWay view plan b left old_r offset old gathered)
    (then_left : Option (List ℕ)) (new_r : Reading) (fault : LineFault) (next : Next old_r new_r left then_left (Err fault)) where
  moments : Moments view.clock view.since old new (StaysOnCourse (view.store plan) (course_for plan b) [])
  moments = puts.moments plan b left old_r way

  unread_by : {B : Type 0} (Done : B → Type 0) (ran result : RunFault) → (ran ≡ Read) ⊎ (ran ≡ Limit) → (fault ≡ reading.Limit → ran ≡ Limit) → (result ≡ Write) ⊎ ((result ≡ ran) × IsUnderWay view plan b left old_r offset_then new []) → GoesTrue view plan b then_left Done (Err result) old new
  unread_by Done ran result which is_limit (inl write) =
      let not = put_or_memory turn.Write (inl refl) in
      true_at_err view plan b then_left old new moments Done turn.Write result write not.0 not.1 (inl refl)
  unread_by Done ran result which is_limit (inr put) =
      true_unread view plan b then_left old new moments Done result (⊎_elim (λ is. inl (put.0 ∙ is)) (λ is. inr (put.0 ∙ is)) which)
      (stops_here view plan b left old_r offset_then new put.1)
      (answered view plan b left old_r offset_then new put.1 then_left new_r fault (result ≡ Limit) next (λ is. put.0 ∙ is_limit is))

  pub unread : {B : Type 0} (Done : B → Type 0) (ran result : RunFault) → ran ≡ of_input fault → StopsFrom view out_faults ran result offset offset_then gathered old new → GoesTrue view plan b then_left Done (Err result) old new
  unread Done ran result ran_is stops = unread_by Done ran result (input_is fault ran ran_is) (input_limit fault ran ran_is) (stops.under_way plan b left old_r way)
