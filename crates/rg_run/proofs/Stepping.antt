-- A turn from the clauses of a session's calls and of a put.
use Rattle.std.proofs.Common.{◌≡◌, ◌⊎◌, inl, inr, ℕ, ◌+◌, ◌≤◌, List, [], ◌∷◌, ◌++◌, Option, Some, Result, sym, ◌∙◌, ap, subst, append_assoc}
use Rattle.std.proofs.lemmas.List.{append-nil}
use Rattle.rg_host.specs.Image.{Image}
use Rattle.rg_host.specs.Lines.{ended}
use Rattle.rg_host.specs.Moments.{LeavesAll}
use Rattle.rg_host.proofs.Laws.{ended-append}
use Rattle.rg_event.specs.declared.event.Event.{Event}
use Rattle.rg_event.specs.Rising.{next_offset}
use Rattle.rg_reply.specs.declared.reply.Reply.{Reply}
use Rattle.rg_config.specs.Plans.{Planned}
use Rattle.rg_run_spec.specs.declared.control.Control.{Control}
use Rattle.rg_run_spec.specs.Verdicts.{IsRow, Verdict, accepted_after, read_as, verdict_of, obeyed_or, line_verdict}
use Rattle.rg_run_spec.specs.Accepted.{after_turn, verdict_from}
use Rattle.rg_run_spec.specs.Ahead.{after_line, lines_for}
use Rattle.rg_run_spec.specs.Laws.{IsPrefixOf}
use Rattle.rg_run_spec.specs.Stores.{Course}
use Rattle.rg_run_spec.specs.Steps.{IsAtRest, IsMidStep, MarksHold}
use Rattle.rg_run_spec.specs.Turns.{IsBetween}
use Rattle.rg_run_spec.proofs.Laws.{between_next, events_begin, near_next, grown, told_moments, after_step, looked_at, prefix_then, Item, are-append, turn_are_lines, Stopped, step_stopped}
use Rattle.rg_task.specs.Stepping.{IsWithinStep, IsStored}
use Rattle.rg_task.specs.Terms.{terms_of, verdict_on}
use Rattle.rg_task.specs.View.{View}
use Rattle.rg_run.specs.Turning.{IsGathered, IsAwaiting, IsMidTurn, HasStopped}
use Rattle.rg_run.proofs.Gathering.{between_at, put_apart}

-- a row is decided as its session decides it
pub row_verdict_is : (plan : Planned) (events : List Event) (offset : ℕ) (item : Item) (line : List ℕ) → IsRow (terms_of plan).basis offset item line → line_verdict (terms_of plan).basis events offset item ≡ verdict_on plan events offset line
row_verdict_is plan events offset item line is =
    let basis = (terms_of plan).basis in
    ap (λ (c : Option Control). obeyed_or c (verdict_of basis.most basis.grace events (read_as basis offset item))) is.asks_nothing ∙ ap (λ (r : Result Event Reply). verdict_of basis.most basis.grace events r) is.reads

pub judged : (plan : Planned) (events : List Event) (offset : ℕ) (item : Item) (line : List ℕ) → next_offset events ≤ offset → IsRow (terms_of plan).basis offset item line
    → verdict_from (terms_of plan).basis (next_offset events) events offset item ≡ Some (verdict_on plan events offset line)
judged plan events offset item line next reads = looked_at (terms_of plan).basis (next_offset events) events offset item next ∙ ap (λ (v : Verdict). Some v) (row_verdict_is plan events offset item line reads)

module _ {K : Type 0} (view : View K) (plan : Planned) (course : Course) (offset : ℕ) (item : Item) (items : List Item) where
  -- the events before a line begin those with it
  begin_next : (events : List Event) → IsPrefixOf events (after_line (terms_of plan).basis events offset item)
  begin_next events = let g = grown (terms_of plan) events offset (item ∷ []) in (g.added, sym g.is)

  -- after a step that stored some of the events up to a line
  pub at_rest_after : (events begun : List Event) (begun_keep keep kept : Option ℕ) (start next : Image → Type 0) (from : Image → Type 0) (put : List ℕ) (stored chunk then rest : List Event) (b : IsBetween (view.store plan) (terms_of plan) course events offset (item ∷ items) begun begun_keep start put)
      → IsAtRest (view.store plan) course b.lines stored keep from → (done : IsStored (view.store plan) keep chunk stored then from next) → then ++ rest ≡ after_line (terms_of plan).basis events offset item → kept ≡ keep → IsAtRest (view.store plan) course b.lines then kept next
  at_rest_after events begun begun_keep keep kept start next from put stored chunk then rest b at_rest done whole same =
      let after = after_line (terms_of plan).basis events offset item in
      let front : IsPrefixOf (stored ++ done.more) after = (rest, ap (λ (l : List Event). l ++ rest) (sym done.grown) ∙ whole) in
      let begins = prefix_then (stored ++ done.more) after course.accepted front (events_begin course (terms_of plan) after (offset + 1) items b.accepted) in
      let near = near_next Image (view.store plan) course (terms_of plan) events offset item items begun begun_keep start put b (stored ++ done.more) front in
      let rests = after_step Image (view.store plan) course b.lines stored done.more keep from next at_rest begins near done.left in
      subst (λ (l : List Event). IsAtRest (view.store plan) course b.lines l kept next) (sym done.grown) (subst (λ (k : Option ℕ). IsAtRest (view.store plan) course b.lines (stored ++ done.more) k next) (sym same) rests)

module _ {K : Type 0} (view : View K) (plan : Planned) (course : Course) (offset : ℕ) (item : Item) (items : List Item) where
  -- the step of a call that takes a line, from a moment between two lines at which all is put
  pub line_steps : (old new : K) (a : IsAwaiting view plan course offset (item ∷ items) old [])
      → IsWithinStep view.may view.clock view.since view.said (view.store plan) (view.at old).keep (view.at old).chunk old new → Stopped K view.clock view.since view.may (view.store plan) (terms_of plan) course old new a.put
  line_steps old new a w =
      step_stopped K view.clock view.since view.may (view.store plan) (terms_of plan) course (view.at old).events offset item items (view.at old).stored (view.at old).stored (view.at old).chunk (view.at old).keep (view.at old).keep old old new a.put (between_at a.between (sym (append-nil a.put))) a.between.at_rest
      (subst (λ (l : List Event). IsPrefixOf l (after_line (terms_of plan).basis (view.at old).events offset item)) (sym (view.whole old)) (begin_next view plan course offset item items (view.at old).events)) (told_moments K view.now view.may view.clock view.since view.said old new (IsMidStep (view.store plan) (view.at old).keep (view.at old).chunk (view.may old)) a.put a.told w.moments) w.left

  -- the step of a call within a turn at which all is put
  pub due_steps : (start old new : K) (m : IsMidTurn view plan course offset item items start old [])
      → IsWithinStep view.may view.clock view.since view.said (view.store plan) (view.at old).keep (view.at old).chunk old new → Stopped K view.clock view.since view.may (view.store plan) (terms_of plan) course old new m.put
  due_steps start old new m w =
      step_stopped K view.clock view.since view.may (view.store plan) (terms_of plan) course (view.at start).events offset item items (view.at start).stored (view.at old).stored (view.at old).chunk (view.at start).keep (view.at old).keep start old new m.put (between_at m.between (sym (append-nil m.put))) m.at_rest
      ([], append-nil ((view.at old).stored ++ (view.at old).chunk) ∙ view.whole old ∙ m.follows) (told_moments K view.now view.may view.clock view.since view.said old new (IsMidStep (view.store plan) (view.at old).keep (view.at old).chunk (view.may old)) m.put m.told w.moments) w.left

  -- the line is taken: no file was written, or all was put
  pub line_taken : (old new : K) (gathered line : List ℕ) → (a : IsAwaiting view plan course offset (item ∷ items) old gathered)
      → next_offset (view.at old).events ≤ offset → IsRow (terms_of plan).basis offset item line
      → view.runs plan new → view.said new ≡ view.said old → (view.at new).keep ≡ (view.at old).keep
      → IsStored (view.store plan) (view.at old).keep (view.at old).chunk (view.at old).stored (view.at new).stored (view.may old) (view.may new)
      → (view.at new).events ≡ accepted_after (view.at old).events (verdict_on plan (view.at old).events offset line)
      → (LeavesAll view.now view.may view.clock view.since view.said old new × ((view.at new).stored ≡ (view.at old).stored)) ⊎ (gathered ≡ [])
      → IsMidTurn view plan course offset item items old new gathered
  line_taken old new gathered line a next reads running said_stays keep done events way =
      let b = a.between in
      let put = a.put in
      let follows : (view.at new).events ≡ after_line (terms_of plan).basis (view.at old).events offset item = events ∙ sym (ap (λ v. after_turn (view.at old).events v) (judged plan (view.at old).events offset item line next reads)) in
      let at_rest = at_rest_after view plan course offset item items (view.at old).events (view.at old).stored (view.at old).keep (view.at old).keep (view.at new).keep (view.may old) (view.may new) (view.may old) (put ++ gathered) (view.at old).stored (view.at old).chunk (view.at new).stored (view.at new).chunk b b.at_rest done (view.whole new ∙ follows) keep in
      record {
        running = running;
        put = put;
        told = said_stays ∙ a.told;
        between = b;
        at_rest = at_rest;
        apart = elim way [
          | inl quiet ↦ subst (λ (l : List Event). IsGathered course l put gathered) (sym quiet.1) a.apart
          | inr none ↦ subst (λ (l : List ℕ). IsGathered course (view.at new).stored put l) (sym none)
              (put_apart course (view.at new).stored put b.lines b.are_lines (sym (append-nil put) ∙ ap (λ (l : List ℕ). put ++ l) (sym none) ∙ b.said_is) at_rest.near)
        ];
        follows = follows;
      }

  -- what was due is stored, once all is put
  pub due_stored : (start old new : K) (m : IsMidTurn view plan course offset item items start old [])
      → view.runs plan new → view.said new ≡ view.said old → (view.at new).keep ≡ (view.at old).keep
      → IsStored (view.store plan) (view.at old).keep (view.at old).chunk (view.at old).stored (view.at new).stored (view.may old) (view.may new)
      → (view.at new).events ≡ (view.at old).events
      → IsMidTurn view plan course offset item items start new []
  due_stored start old new m running said_stays keep done same =
      let b = m.between in
      let at_rest = at_rest_after view plan course offset item items (view.at start).events (view.at start).stored (view.at start).keep (view.at old).keep (view.at new).keep (view.may start) (view.may new) (view.may old) (m.put ++ []) (view.at old).stored (view.at old).chunk (view.at new).stored (view.at new).chunk b m.at_rest done (view.whole new ∙ same ∙ m.follows) keep in
      record {
        running = running;
        put = m.put;
        told = said_stays ∙ m.told;
        between = b;
        at_rest = at_rest;
        apart = put_apart course (view.at new).stored m.put b.lines b.are_lines (sym (append-nil m.put) ∙ b.said_is) at_rest.near;
        follows = same ∙ m.follows;
      }

  -- the lines of the turn are gathered
  pub lines_gathered : (start t : K) (gathered : List ℕ) (m : IsMidTurn view plan course offset item items start t gathered)
      → MarksHold (view.store plan) (view.at t).stored (view.at t).keep (view.may t) (lines_for (terms_of plan) (view.at start).events offset item)
      → IsAwaiting view plan course (offset + 1) items t (gathered ++ ended (lines_for (terms_of plan) (view.at start).events offset item))
  lines_gathered start t gathered m marks =
      let lines = lines_for (terms_of plan) (view.at start).events offset item in
      let g = m.apart in
      let said_then = m.put ++ (gathered ++ ended lines) in
      let b = between_next Image (view.store plan) course (terms_of plan) (view.at start).events offset item items (view.at start).stored (view.at t).stored (view.at start).keep (view.at t).keep (view.may start) (view.may t) (view.may t) (m.put ++ gathered) said_then m.between m.at_rest ((view.at t).chunk, view.whole t ∙ m.follows) marks (λ v left. left) (sym (append_assoc m.put gathered (ended lines))) in
      record {
        running = m.running;
        put = m.put;
        told = m.told;
        between = subst (λ (l : List Event). IsBetween (view.store plan) (terms_of plan) course l (offset + 1) items (view.at t).stored (view.at t).keep (view.may t) said_then) (sym m.follows) b;
        apart = record {
          first = g.first;
          rest = g.rest ++ lines;
          put_is = g.put_is;
          gathered_is = ap (λ (l : List ℕ). l ++ ended lines) g.gathered_is ∙ sym (ended-append g.rest lines);
          are_first = g.are_first;
          are_rest = are-append g.rest lines g.are_rest (turn_are_lines (terms_of plan) (view.at start).events offset (verdict_from (terms_of plan).basis (next_offset (view.at start).events) (view.at start).events offset item));
          near = g.near;
        };
      }

-- what a step that failed within a turn leaves
pub has_stopped : {K : Type 0} (view : View K) (plan : Planned) (course : Course) (old new : K) (put : List ℕ) → view.said new ≡ Some put → Stopped K view.clock view.since view.may (view.store plan) (terms_of plan) course old new put
    → HasStopped view plan course new
has_stopped view plan course old new put is stop = record { put = put; told = is; stopped = stop.stopped }
