-- A turn at which a line is taken, what is due is done, and the lines are gathered.
use Rattle.std.proofs.Common.{◌≡◌, ◌⊎◌, inl, inr, ℕ, ◌+◌, ◌≤◌, ◌<◌, ◌^◌, List, [], ◌∷◌, ◌++◌, length, Option, Some, Result, refl, sym, ◌∙◌, ap, subst}
use Rattle.rg_host.specs.Image.{Image}
use Rattle.rg_host.specs.Lines.{ended}
use Rattle.rg_host.specs.Moments.{Moments, LeavesAll}
use Rattle.rg_host.proofs.Laws.{leaves_all-none}
use Rattle.rg_event.specs.declared.event.Event.{Event}
use Rattle.rg_event.specs.Rising.{next_offset}
use Rattle.rg_reply.specs.declared.reply.Reply.{Reply}
use Rattle.rg_reply.specs.declared.reply.Reply.TheVariants.{Done}
use Rattle.rg_config.specs.Plans.{Planned}
use Rattle.rg_row.specs.Rows.{row_of}
use Rattle.rg_reply.specs.Texts.{reply_line}
use Rattle.rg_run_spec.specs.declared.control.Control.{Control}
use Rattle.rg_run_spec.specs.Verdicts.{IsRow, Verdict, accepted_after, control_at, read_as, or_reply, obeyed_or, reply_of, verdict_of, line_verdict}
use Rattle.rg_run_spec.specs.Verdicts.Verdict.{refused, obeyed}
use Rattle.rg_run_spec.specs.Accepted.{after_turn}
use Rattle.rg_run_spec.specs.Ahead.{after_line, lines_for}
use Rattle.rg_run_spec.specs.Stores.{Course, StaysOnCourse}
use Rattle.rg_run_spec.specs.Steps.{MarksHold}
use Rattle.rg_run_spec.proofs.Laws.{between_passed, looked_at, Item, passed_over}
use Rattle.rg_run.specs.declared.due.Due.{Due}
use Rattle.rg_run.specs.declared.due.Due.TheVariants.{Nothing}
use Rattle.rg_run.specs.Due.{is_due, due_for, marks_for}
use Rattle.rg_task.specs.Stepping.{IsWithinStep, IsStored}
use Rattle.rg_task.specs.Terms.{terms_of, verdict_on}
use Rattle.rg_task.specs.View.{View, OnlyNow, Sinks}
use Rattle.rg_run.specs.Turning.{IsRefused, IsAwaiting, IsMidTurn, IsDueDone, IsHeld, HasWay}
use Rattle.rg_run.proofs.Gathering.{awaiting_held, held_still, quiet_moments, stopped_held}
use Rattle.rg_run.proofs.Marking.{due_on, row_due, none_due}
use Rattle.rg_run.proofs.TurnLines.{lines_told, marks_hold}
use Rattle.rg_run.proofs.Stepping.{row_verdict_is, line_steps, line_taken, lines_gathered, has_stopped}

module _ {K : Type 0} (view : View K) (plan : Planned) (course : Course) (offset : ℕ) (item : Item) (items : List Item)
    (old taken : K) (gathered : List ℕ)
    (a : IsAwaiting view plan course offset (item ∷ items) old gathered) (way : HasWay view old gathered)
    (within : IsWithinStep view.may view.clock view.since view.said (view.store plan) (view.at old).keep (view.at old).chunk old taken)
    (roomy : view.roomy old → LeavesAll view.now view.may view.clock view.since view.said old taken × ((view.at taken).stored ≡ (view.at old).stored)) where
  -- no file was written, or all was put
  went : (LeavesAll view.now view.may view.clock view.since view.said old taken × ((view.at taken).stored ≡ (view.at old).stored)) ⊎ (gathered ≡ [])
  went = elim way [
    | inl room ↦ inl (roomy room)
    | inr none ↦ inr none
  ]

  all_put : gathered ≡ [] → IsAwaiting view plan course offset (item ∷ items) old []
  all_put none = subst (λ (l : List ℕ). IsAwaiting view plan course offset (item ∷ items) old l) none a

  pub taken_moments : Moments view.clock view.since old taken (StaysOnCourse (view.store plan) course [])
  taken_moments = elim went [
    | inl quiet ↦ quiet_moments view plan course old taken gathered (awaiting_held view plan course offset old gathered (item ∷ items) a) quiet.0
    | inr none ↦ (line_steps view plan course offset item items old taken (all_put none) within).moments
  ]

  pub taken_held : IsHeld view plan course taken gathered
  taken_held = elim went [
    | inl quiet ↦ held_still view plan course old taken gathered (awaiting_held view plan course offset old gathered (item ∷ items) a) quiet.0
    | inr none ↦
        let b = all_put none in
        subst (λ (l : List ℕ). IsHeld view plan course taken l) (sym none)
        (stopped_held view plan course taken (has_stopped view plan course old taken b.put (within.said_stays ∙ b.told) (line_steps view plan course offset item items old taken b within)))
  ]

  module _ (line : List ℕ) (next : (view.at old).next ≤ offset)
      (reads : IsRow (terms_of plan).basis offset item line)
      (running : view.runs plan taken) (keep : (view.at taken).keep ≡ (view.at old).keep)
      (stored : IsStored (view.store plan) (view.at old).keep (view.at old).chunk (view.at old).stored (view.at taken).stored (view.may old) (view.may taken))
      (events : (view.at taken).events ≡ accepted_after (view.at old).events (verdict_on plan (view.at old).events offset line)) where
    after_next : next_offset (view.at old).events ≤ offset
    after_next = subst (λ (n : ℕ). n ≤ offset) (view.next_is plan old a.running) next

    pub mid_taken : IsMidTurn view plan course offset item items old taken gathered
    mid_taken = line_taken view plan course offset item items old taken gathered line a after_next reads running within.said_stays keep stored events went

    module _ (settled : K) (left : List ℕ)
        (m : IsMidTurn view plan course offset item items old settled left)
        (due : Due) (before count : ℕ) (before_is : before ≡ length (view.at old).events) (count_is : count ≡ length (view.at taken).events) (due_is : due ≡ is_due plan.settings.commit plan.settings.save before count) where
      row_is : line_verdict (terms_of plan).basis (view.at old).events offset item ≡ verdict_on plan (view.at old).events offset line
      row_is = row_verdict_is plan (view.at old).events offset item line reads

      due_row : due ≡ due_on (terms_of plan) (view.at old).events (line_verdict (terms_of plan).basis (view.at old).events offset item)
      due_row =
          let es = (view.at old).events in
          let at_first : before ≡ length es = before_is in
          let at_last : count ≡ length (accepted_after es (verdict_on plan es offset line)) = count_is ∙ ap length events in
          due_is ∙ ap (λ n. is_due plan.settings.commit plan.settings.save n count) at_first ∙ ap (λ n. is_due plan.settings.commit plan.settings.save (length es) n) at_last
          ∙ sym (row_due (terms_of plan) es plan.settings.events plan.settings.grace (or_reply (row_of plan.shape.fields offset line)))
          ∙ sym (ap (λ (v : Verdict). due_on (terms_of plan) es v) row_is)

      module _ (small : offset < 2 ^ 62) (done : IsDueDone view due plan settled) (reply : Reply) (reply_is : reply ≡ reply_of plan.queries (view.at old).events (verdict_on plan (view.at old).events offset line)) where
        told_lines : reply_line offset reply ∷ marks_for due (view.at settled).next (length (view.at settled).events) ≡ lines_for (terms_of plan) (view.at old).events offset item
        told_lines = lines_told view plan course offset item items old settled left m after_next due due_row reply
            (reply_is ∙ ap (λ (v : Verdict). reply_of plan.queries (view.at old).events v) (sym row_is))

        holds : MarksHold (view.store plan) (view.at settled).stored (view.at settled).keep (view.may settled) (lines_for (terms_of plan) (view.at old).events offset item)
        holds = marks_hold view plan course offset item items old settled left m after_next due due_row small done

        pub then_awaits : (then_left : List ℕ) → then_left ≡ left ++ ended (reply_line offset reply ∷ marks_for due (view.at settled).next (length (view.at settled).events)) → IsAwaiting view plan course (offset + 1) items settled then_left
        then_awaits then_left is =
            subst (λ (l : List ℕ). IsAwaiting view plan course (offset + 1) items settled l) (sym (is ∙ ap (λ (l : List (List ℕ)). left ++ ended l) told_lines))
            (lines_gathered view plan course offset item items old settled left m holds)

module _ {K : Type 0} (view : View K) (only : OnlyNow view) (sinks : Sinks view) (plan : Planned) (course : Course) (offset : ℕ) (items : List Item) (old : K) (gathered : List ℕ) (a : IsAwaiting view plan course offset items old gathered) where
  -- no call is on the course
  pub still_on_course : Moments view.clock view.since old old (StaysOnCourse (view.store plan) course [])
  still_on_course =
      quiet_moments view plan course old old gathered (awaiting_held view plan course offset old gathered items a) (leaves_all-none view.now view.may view.clock view.since view.said old (sinks old) (only old))

module _ {K : Type 0} (view : View K)
    (plan : Planned) (course : Course) (offset : ℕ) (item : Item) (items : List Item) (old : K) (gathered : List ℕ) (a : IsAwaiting view plan course offset (item ∷ items) old gathered) where
  -- a line below the next offset is passed over
  pub passed : offset < (view.at old).next → IsAwaiting view plan course (offset + 1) items old gathered
  passed below = record {
    running = a.running;
    put = a.put;
    told = a.told;
    between = between_passed Image (view.store plan) course (terms_of plan) (view.at old).events offset item items (view.at old).stored (view.at old).keep (view.may old) (view.may old) (a.put ++ gathered) (subst (λ (n : ℕ). offset < n) (view.next_is plan old a.running) below) a.between (λ v left. left);
    apart = a.apart;
  }

  pub passed_events : offset < (view.at old).next → (view.at old).events ≡ after_line (terms_of plan).basis (view.at old).events offset item
  passed_events below = sym (passed_over (terms_of plan) (view.at old).events offset item (subst (λ (n : ℕ). offset < n) (view.next_is plan old a.running) below)).stays

  -- a line that adds no event
  module _ (verdict : Verdict) (next : (view.at old).next ≤ offset) (is : line_verdict (terms_of plan).basis (view.at old).events offset item ≡ verdict) (none : accepted_after (view.at old).events verdict ≡ (view.at old).events) where
    still_next : next_offset (view.at old).events ≤ offset
    still_next = subst (λ (n : ℕ). n ≤ offset) (view.next_is plan old a.running) next

    pub still_events : (view.at old).events ≡ after_line (terms_of plan).basis (view.at old).events offset item
    still_events =
        let events = (view.at old).events in
        sym (ap (λ v. after_turn events v) (looked_at (terms_of plan).basis (next_offset events) events offset item still_next) ∙ ap (λ (v : Verdict). accepted_after events v) is ∙ none)

    pub still_mid : IsMidTurn view plan course offset item items old old gathered
    still_mid = record {
      running = a.running;
      put = a.put;
      told = a.told;
      between = a.between;
      at_rest = a.between.at_rest;
      apart = a.apart;
      follows = still_events;
    }

    module _ (settled : K) (left : List ℕ)
        (m : IsMidTurn view plan course offset item items old settled left)
        (due : Due) (due_is : due ≡ due_on (terms_of plan) (view.at old).events verdict) (small : offset < 2 ^ 62) (done : IsDueDone view due plan settled)
        (reply : Reply) (reply_is : reply ≡ reply_of plan.queries (view.at old).events verdict) where
      due_still : due ≡ due_on (terms_of plan) (view.at old).events (line_verdict (terms_of plan).basis (view.at old).events offset item)
      due_still = due_is ∙ ap (λ (v : Verdict). due_on (terms_of plan) (view.at old).events v) (sym is)

      still_lines : reply_line offset reply ∷ marks_for due (view.at settled).next (length (view.at settled).events) ≡ lines_for (terms_of plan) (view.at old).events offset item
      still_lines = lines_told view plan course offset item items old settled left m still_next due due_still reply
          (reply_is ∙ ap (λ (v : Verdict). reply_of plan.queries (view.at old).events v) (sym is))

      still_holds : MarksHold (view.store plan) (view.at settled).stored (view.at settled).keep (view.may settled) (lines_for (terms_of plan) (view.at old).events offset item)
      still_holds = marks_hold view plan course offset item items old settled left m still_next due due_still small done

      pub still_awaits : (then_left : List ℕ) → then_left ≡ left ++ ended (reply_line offset reply ∷ marks_for due (view.at settled).next (length (view.at settled).events)) → IsAwaiting view plan course (offset + 1) items settled then_left
      still_awaits then_left left_is =
          subst (λ (l : List ℕ). IsAwaiting view plan course (offset + 1) items settled l) (sym (left_is ∙ ap (λ (l : List (List ℕ)). left ++ ended l) still_lines))
          (lines_gathered view plan course offset item items old settled left m still_holds)

  -- a line that is refused before a session sees it
  module _ (reply : Reply) (next : (view.at old).next ≤ offset) (reads : IsRefused (terms_of plan).basis offset item reply) where
    refused_is : line_verdict (terms_of plan).basis (view.at old).events offset item ≡ refused reply
    refused_is =
        let basis = (terms_of plan).basis in
        let events = (view.at old).events in
        ap (λ (c : Option Control). obeyed_or c (verdict_of basis.most basis.grace events (read_as basis offset item))) reads.asks_nothing ∙ ap (λ (r : Result Event Reply). verdict_of basis.most basis.grace events r) reads.reads

    pub refused_events : (view.at old).events ≡ after_line (terms_of plan).basis (view.at old).events offset item
    refused_events = still_events (refused reply) next refused_is refl

    pub refused_awaits : offset < 2 ^ 62 → (then_left : List ℕ) → then_left ≡ gathered ++ ended (reply_line offset reply ∷ marks_for Nothing (view.at old).next (length (view.at old).events)) → IsAwaiting view plan course (offset + 1) items old then_left
    refused_awaits small then_left left_is =
        still_awaits (refused reply) next refused_is refl old gathered (still_mid (refused reply) next refused_is refl)
        Nothing (none_due plan.settings.commit plan.settings.save (length (view.at old).events)) small tt reply refl then_left left_is

  -- one that asks for something
  module _ (control : Control) (next : (view.at old).next ≤ offset) (asks : control_at (terms_of plan).basis offset item ≡ Some control) where
    obeyed_is : line_verdict (terms_of plan).basis (view.at old).events offset item ≡ obeyed control
    obeyed_is =
        let basis = (terms_of plan).basis in
        ap (λ (c : Option Control). obeyed_or c (verdict_of basis.most basis.grace (view.at old).events (read_as basis offset item))) asks

    pub obeyed_mid : IsMidTurn view plan course offset item items old old gathered
    obeyed_mid = still_mid (obeyed control) next obeyed_is refl

    pub obeyed_awaits : (settled : K) (left : List ℕ)
        → IsMidTurn view plan course offset item items old settled left
        → (due : Due) → due ≡ due_for control → offset < 2 ^ 62 → IsDueDone view due plan settled
        → (then_left : List ℕ) → then_left ≡ left ++ ended (reply_line offset Done ∷ marks_for due (view.at settled).next (length (view.at settled).events)) → IsAwaiting view plan course (offset + 1) items settled then_left
    obeyed_awaits settled left m due due_is small done then_left left_is =
        still_awaits (obeyed control) next obeyed_is refl settled left m due due_is small done Done refl then_left left_is
