-- A replay of what a run leaves puts the lines that the run put for its payments.
use Rattle.std.proofs.Common.{◌≡◌, ◌∙◌, ◌≤◌, ◌+◌, ℕ, zero, suc, nat_lt, nat_le, cond, Bool, true, false, List, [], ◌∷◌, ◌++◌, length, codes, decimal, Option, Some, None, Result, Ok, Err, refl, ap, sym, arith, get_or, append_assoc}
use Rattle.std.proofs.lemmas.Bool.Decides.{nat_tests}
use Rattle.std.proofs.lemmas.List.{append-nil}
use Rattle.std.proofs.lemmas.List.Prefix.{front_rest}
use Rattle.rg_event.specs.declared.event.Event.{Event}
use Rattle.rg_event.specs.Rising.{next_offset, last_time, IsRising}
use Rattle.rg_metric.specs.Replies.{answers_to}
use Rattle.rg_metric.specs.declared.answer.Answer.{Answer}
use Rattle.rg_reply.specs.declared.reply.Reply.{Reply}
use Rattle.rg_reply.specs.declared.reply.Reply.TheVariants.{Late, Full, Answered, Moved}
use Rattle.rg_reply.specs.Texts.{answers_text, reply_line}
use Rattle.rg_run_spec.specs.declared.control.Control.{Control}
use Rattle.rg_run_spec.specs.Verdicts.{Basis, Verdict, control_at, verdict_of, obeyed_or, line_verdict, read_as}
use Rattle.rg_run_spec.specs.Verdicts.Verdict.{refused, obeyed, accepted, moved}
use Rattle.rg_run_spec.specs.Accepted.{verdict_from, after_turn, events_before, events_after}
use Rattle.rg_run_spec.specs.Output.{Terms, turn_lines}
use Rattle.rg_run_spec.proofs.Laws.{read_fits}
use Rattle.rg_replay.specs.Replay.{replay_lines, line_from}
use Rattle.rg_replay.specs.Runs.{with_ok, reply_if, answered_at, answered_before, where_from, answered_from}
use Rattle.rg_replay.proofs.Lines.{lines_push, line_kept, none_before, below_next}

-- the event that is stored of a line
abbrev stored_of : Verdict → Option Event
stored_of (refused reply) = None
stored_of (obeyed control) = None
stored_of (accepted e) = Some e
stored_of (moved e) = Some e

-- it has the offset of its line
stored_by : (offset time : ℕ) (x e : Event) (a b c : Bool) → x.offset ≡ offset → stored_of (cond a (refused Late) (cond b (refused Full) (cond c (moved (record x { time = time })) (accepted x)))) ≡ Some e → e.offset ≡ offset
stored_by offset time x e true b c at is = absurd (cc)
stored_by offset time x e false true c at is = absurd (cc)
stored_by offset time x e false false true at is = let same : record x { time = time } ≡ e = cc in ap (λ (y : Event). y.offset) (sym same) ∙ at
stored_by offset time x e false false false at is = let same : x ≡ e = cc in ap (λ (y : Event). y.offset) (sym same) ∙ at

stored_read : (most grace offset : ℕ) (events : List Event) (reading : Result Event Reply) (e : Event) → ((x : Event) → reading ≡ Ok x → x.offset ≡ offset) → stored_of (verdict_of most grace events reading) ≡ Some e → e.offset ≡ offset
stored_read most grace offset events (Err reply) e at is = absurd (cc)
stored_read most grace offset events (Ok x) e at is =
    stored_by offset (last_time events) x e (nat_lt (x.time + grace) (last_time events)) (nat_le most (length events)) (nat_lt x.time (last_time events)) (at x refl) is

stored_asked : (basis : Basis) (events : List Event) (offset : ℕ) (line : Option (List ℕ)) (e : Event) (control : Option Control) → stored_of (obeyed_or control (verdict_of basis.most basis.grace events (read_as basis offset line))) ≡ Some e → e.offset ≡ offset
stored_asked basis events offset line e (Some control) is = absurd (cc)
stored_asked basis events offset line e None is = stored_read basis.most basis.grace offset events (read_as basis offset line) e (λ x h. (read_fits basis offset line x h).at) is

stored_offset : (basis : Basis) (events : List Event) (offset : ℕ) (line : Option (List ℕ)) (e : Event) → stored_of (line_verdict basis events offset line) ≡ Some e → e.offset ≡ offset
stored_offset basis events offset line e is = stored_asked basis events offset line e (control_at basis offset line) is

-- the line of a moved event with the other word
ok_line : (offset : ℕ) (answers : List Answer) → reply_line offset (Answered answers) ≡ with_ok offset (reply_line offset (Moved answers))
ok_line offset answers =
    let split : reply_line offset (Moved answers) ≡ (decimal offset ++ codes " moved") ++ answers_text answers = sym (append_assoc (decimal offset) (codes " moved") (answers_text answers)) in
    ap (λ l. decimal offset ++ (codes " ok" ++ l)) (sym (front_rest (reply_line offset (Moved answers)) (decimal offset ++ codes " moved") (answers_text answers) split))

module _ (terms : Terms) (next : ℕ) (events : List Event) (offset : ℕ) (line : Option (List ℕ)) where
  -- one event more
  one_event : (e : Event) → e.offset ≡ offset → next ≤ offset →
      replay_lines terms.basis.queries next (events ++ e ∷ []) ≡ replay_lines terms.basis.queries next events ++ reply_line offset (Answered (answers_to terms.basis.queries (events ++ e ∷ []) e)) ∷ []
  one_event e at from =
      let answers = answers_to terms.basis.queries (events ++ e ∷ []) e in
      lines_push terms.basis.queries next events e
      ∙ ap (λ l. replay_lines terms.basis.queries next events ++ l) (line_kept next e.offset (Answered answers) (omega (arith, at, from)) ∙ ap (λ n. reply_line n (Answered answers) ∷ []) at)

  -- one line of an input, by its verdict
  one_by : (verdict : Option Verdict) → ((v : Verdict) (e : Event) → verdict ≡ Some v → stored_of v ≡ Some e → (e.offset ≡ offset) × (next ≤ offset)) →
      replay_lines terms.basis.queries next (after_turn events verdict) ≡ replay_lines terms.basis.queries next events ++ reply_if offset verdict (turn_lines terms events offset verdict)
  one_by None at = sym (append-nil (replay_lines terms.basis.queries next events))
  one_by (Some (refused reply)) at = sym (append-nil (replay_lines terms.basis.queries next events))
  one_by (Some (obeyed control)) at = sym (append-nil (replay_lines terms.basis.queries next events))
  one_by (Some (accepted e)) at = let is = at (accepted e) e refl refl in one_event e is.0 is.1
  one_by (Some (moved e)) at =
      let is = at (moved e) e refl refl in
      one_event e is.0 is.1 ∙ ap (λ l. replay_lines terms.basis.queries next events ++ l ∷ []) (ok_line offset (answers_to terms.basis.queries (events ++ e ∷ []) e))

  looked_by : (b : Bool) → nat_lt offset next ≡ b → (v : Verdict) (e : Event) → cond b None (Some (line_verdict terms.basis events offset line)) ≡ Some v → stored_of v ≡ Some e → (e.offset ≡ offset) × (next ≤ offset)
  looked_by true below v e is stored = absurd (cc)
  looked_by false above v e is stored =
      let same : line_verdict terms.basis events offset line ≡ v = cc in
      let from : next ≤ offset = grind (arith, nat_tests, above) in
      (stored_offset terms.basis events offset line e (ap (λ (w : Verdict). stored_of w) same ∙ stored), from)

  one : replay_lines terms.basis.queries next (after_turn events (verdict_from terms.basis next events offset line))
      ≡ replay_lines terms.basis.queries next events ++ reply_if offset (verdict_from terms.basis next events offset line) (turn_lines terms events offset (verdict_from terms.basis next events offset line))
  one = one_by (verdict_from terms.basis next events offset line) (looked_by (nat_lt offset next) refl)

-- what a run puts for the payments that it accepts among the first lines is what a replay of what it leaves then puts for them
pub same_as_run : (terms : Terms) (held : List Event) (first : ℕ) (lines : List (Option (List ℕ))) (i : ℕ) → IsRising held →
    replay_lines terms.basis.queries (next_offset held) (events_before terms.basis held first lines i) ≡ answered_before terms held first lines i
same_as_run terms held first lines zero rising = none_before terms.basis.queries (next_offset held) held (length held) (below_next held rising)
same_as_run terms held first lines (suc i) rising =
    one terms (next_offset held) (events_before terms.basis held first lines i) (first + i) (get_or lines i None)
    ∙ ap (λ l. l ++ answered_at terms held first lines i) (same_as_run terms held first lines i rising)

pub same_from_nothing : (terms : Terms) (lines : List (Option (List ℕ))) → replay_lines terms.basis.queries 0 (events_after terms.basis [] 0 lines) ≡ answered_before terms [] 0 lines (length lines)
same_from_nothing terms lines = same_as_run terms [] 0 lines (length lines) tt

-- no line is none from any offset on
none_from : (from offset : ℕ) → where_from from offset [] ≡ []
none_from from offset = by (nat_le from offset) []
  where
    by : (b : Bool) (lines : List (List ℕ)) → cond b lines lines ≡ lines
    by true lines = refl
    by false lines = refl

module _ (terms : Terms) (from : ℕ) (events : List Event) (offset : ℕ) (line : Option (List ℕ)) where
  -- one event more, from any offset on
  event_from : (e : Event) → e.offset ≡ offset →
      replay_lines terms.basis.queries from (events ++ e ∷ []) ≡ replay_lines terms.basis.queries from events ++ line_from from offset (Answered (answers_to terms.basis.queries (events ++ e ∷ []) e))
  event_from e at =
      lines_push terms.basis.queries from events e
      ∙ ap (λ n. replay_lines terms.basis.queries from events ++ line_from from n (Answered (answers_to terms.basis.queries (events ++ e ∷ []) e))) at

  none_more : replay_lines terms.basis.queries from events ≡ replay_lines terms.basis.queries from events ++ where_from from offset []
  none_more = sym (ap (λ l. replay_lines terms.basis.queries from events ++ l) (none_from from offset) ∙ append-nil (replay_lines terms.basis.queries from events))

  -- one line of an input, by its verdict
  turn_by : (verdict : Option Verdict) → ((v : Verdict) (e : Event) → verdict ≡ Some v → stored_of v ≡ Some e → e.offset ≡ offset) →
      replay_lines terms.basis.queries from (after_turn events verdict) ≡ replay_lines terms.basis.queries from events ++ where_from from offset (reply_if offset verdict (turn_lines terms events offset verdict))
  turn_by None at = none_more
  turn_by (Some (refused reply)) at = none_more
  turn_by (Some (obeyed control)) at = none_more
  turn_by (Some (accepted e)) at = event_from e (at (accepted e) e refl refl)
  turn_by (Some (moved e)) at =
      event_from e (at (moved e) e refl refl)
      ∙ ap (λ l. replay_lines terms.basis.queries from events ++ where_from from offset (l ∷ [])) (ok_line offset (answers_to terms.basis.queries (events ++ e ∷ []) e))

  offset_by : (b : Bool) → (v : Verdict) (e : Event) → cond b None (Some (line_verdict terms.basis events offset line)) ≡ Some v → stored_of v ≡ Some e → e.offset ≡ offset
  offset_by true v e is stored = absurd (cc)
  offset_by false v e is stored =
      let same : line_verdict terms.basis events offset line ≡ v = cc in
      stored_offset terms.basis events offset line e (ap (λ (w : Verdict). stored_of w) same ∙ stored)

  turn_from : (next : ℕ) → replay_lines terms.basis.queries from (after_turn events (verdict_from terms.basis next events offset line))
      ≡ replay_lines terms.basis.queries from events ++ where_from from offset (reply_if offset (verdict_from terms.basis next events offset line) (turn_lines terms events offset (verdict_from terms.basis next events offset line)))
  turn_from next = turn_by (verdict_from terms.basis next events offset line) (offset_by (nat_lt offset next))

-- from any offset on, a replay of what a run leaves after the first lines puts the lines of what the store held, and then the run's
pub same_from : (from : ℕ) (terms : Terms) (held : List Event) (first : ℕ) (lines : List (Option (List ℕ))) (i : ℕ) →
    replay_lines terms.basis.queries from (events_before terms.basis held first lines i) ≡ replay_lines terms.basis.queries from held ++ answered_from from terms held first lines i
same_from from terms held first lines zero = sym (append-nil (replay_lines terms.basis.queries from held))
same_from from terms held first lines (suc i) =
    turn_from terms from (events_before terms.basis held first lines i) (first + i) (get_or lines i None) (next_offset held)
    ∙ ap (λ l. l ++ where_from from (first + i) (answered_at terms held first lines i)) (same_from from terms held first lines i)
    ∙ append_assoc (replay_lines terms.basis.queries from held) (answered_from from terms held first lines i) (where_from from (first + i) (answered_at terms held first lines i))
