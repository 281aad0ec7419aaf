-- What is due after a line, by the verdict on it.
use Rattle.std.proofs.Common.{◌≡◌, ℕ, ◌+◌, ◌||◌, nat_le, nat_lt, cond, Bool, true, false, List, [], ◌∷◌, ◌++◌, length, Result, Ok, Err, refl, sym, ◌∙◌, ap, arith, length-append}
use Rattle.std.proofs.lemmas.Bool.{lt-leb, le-leb}
use Rattle.rg_event.specs.declared.event.Event.{Event}
use Rattle.rg_event.specs.Rising.{next_offset, last_time}
use Rattle.rg_reply.specs.declared.reply.Reply.{Reply}
use Rattle.rg_reply.specs.declared.reply.Reply.TheVariants.{Late, Full}
use Rattle.rg_reply.specs.Texts.{mark_line}
use Rattle.rg_reply.specs.declared.mark.Mark.TheVariants.{Stored, Saved}
use Rattle.rg_run_spec.specs.declared.control.Control.TheVariants as control
use Rattle.rg_run_spec.specs.Verdicts.{Verdict, accepted_after, verdict_of}
use Rattle.rg_run_spec.specs.Verdicts.Verdict.{refused, obeyed, accepted, moved}
use Rattle.rg_run_spec.specs.Output.{Terms, is_every, is_saved, is_stored, stores, saves, line_where, marks_of}
use Rattle.rg_run.specs.declared.due.Due.{Due}
use Rattle.rg_run.specs.declared.due.Due.TheVariants.{Nothing, Commit, Save}
use Rattle.rg_run.specs.Due.{is_due, due_for, marks_for}

-- by two tests
abbrev due_by : Bool → Bool → Due
due_by save commit = cond save Save (cond commit Commit Nothing)

by_tests : (save commit : Bool) (next count : ℕ) → line_where (commit || save) (mark_line (Stored next)) ++ line_where save (mark_line (Saved count)) ≡ marks_for (due_by save commit) next count
by_tests true true next count = refl
by_tests true false next count = refl
by_tests false true next count = refl
by_tests false false next count = refl

some_by : (save commit : Bool) → (commit || save) ≡ true → due_by save commit ≡ Nothing → ⊥
some_by true commit is none = absurd (let e : ◌≡◌ {A = Due} Save Nothing = none in cc)
some_by false true is none = absurd (let e : ◌≡◌ {A = Due} Commit Nothing = none in cc)
some_by false false is none = absurd cc

save_by : (save commit : Bool) → save ≡ true → due_by save commit ≡ Save
save_by true commit is = refl
save_by false commit is = absurd cc

module _ (terms : Terms) (events : List Event) where
  -- what is due after a line of this verdict
  abbrev pub due_on : Verdict → Due
  due_on (refused reply) = is_due terms.commit terms.save (length events) (length events)
  due_on (obeyed control) = due_for control
  due_on (accepted e) = is_due terms.commit terms.save (length events) (length (events ++ e ∷ []))
  due_on (moved e) = is_due terms.commit terms.save (length events) (length (events ++ e ∷ []))

  -- an event makes the events more
  more : (e : Event) → nat_le (length (events ++ e ∷ [])) (length events) ≡ false
  more e = lt-leb _ _ (omega (arith, length-append events (e ∷ [])))

  event_due : (e : Event) → due_on (accepted e) ≡ due_by (is_saved terms (events ++ e ∷ [])) (is_every terms.commit (length (events ++ e ∷ [])))
  event_due e = ap (λ (b : Bool). cond b Nothing (due_by (is_saved terms (events ++ e ∷ [])) (is_every terms.commit (length (events ++ e ∷ []))))) (more e)

  event_marks : (e : Event) → marks_of terms events (accepted e) ≡ marks_for (due_on (accepted e)) (next_offset (events ++ e ∷ [])) (length (events ++ e ∷ []))
  event_marks e =
      let now = events ++ e ∷ [] in
      by_tests (is_saved terms now) (is_every terms.commit (length now)) (next_offset now) (length now) ∙ ap (λ (d : Due). marks_for d (next_offset now) (length now)) (sym (event_due e))

  -- the marks behind a reply are those of what is due
  pub marks_due : (v : Verdict) → marks_of terms events v ≡ marks_for (due_on v) (next_offset (accepted_after events v)) (length (accepted_after events v))
  marks_due (refused reply) = ap (λ (b : Bool). marks_for (cond b Nothing (due_by (is_saved terms events) (is_every terms.commit (length events)))) (next_offset events) (length events)) (sym (le-leb (length events) (length events) (omega arith)))
  marks_due (obeyed control.Commit) = refl
  marks_due (obeyed control.Save) = refl
  marks_due (obeyed control.Ahead) = refl
  marks_due (accepted e) = event_marks e
  marks_due (moved e) = event_marks e

  event_stores : (e : Event) → is_stored terms (events ++ e ∷ []) ≡ true → due_on (accepted e) ≡ Nothing → ⊥
  event_stores e is none = some_by (is_saved terms (events ++ e ∷ [])) (is_every terms.commit (length (events ++ e ∷ []))) is (sym (event_due e) ∙ none)

  -- where all events are to be stored, something is due
  pub stores_due : (v : Verdict) → stores terms events v ≡ true → due_on v ≡ Nothing → ⊥
  stores_due (refused reply) is none = absurd cc
  stores_due (obeyed control.Commit) is none = absurd (let e : ◌≡◌ {A = Due} Commit Nothing = none in cc)
  stores_due (obeyed control.Save) is none = absurd (let e : ◌≡◌ {A = Due} Save Nothing = none in cc)
  stores_due (obeyed control.Ahead) is none = absurd cc
  stores_due (accepted e) is none = event_stores e is none
  stores_due (moved e) is none = event_stores e is none

  event_saves : (e : Event) → is_saved terms (events ++ e ∷ []) ≡ true → due_on (accepted e) ≡ Save
  event_saves e is = event_due e ∙ save_by (is_saved terms (events ++ e ∷ [])) (is_every terms.commit (length (events ++ e ∷ []))) is

  -- where they are to be saved, that is due
  pub saves_due : (v : Verdict) → saves terms events v ≡ true → due_on v ≡ Save
  saves_due (refused reply) is = absurd cc
  saves_due (obeyed control.Commit) is = absurd cc
  saves_due (obeyed control.Save) is = refl
  saves_due (obeyed control.Ahead) is = absurd cc
  saves_due (accepted e) is = event_saves e is
  saves_due (moved e) is = event_saves e is

  due_by_tests : (e then : Event) (late full early : Bool) →
      due_on (cond late (refused Late) (cond full (refused Full) (cond early (moved then) (accepted e))))
      ≡ is_due terms.commit terms.save (length events) (length (accepted_after events (cond late (refused Late) (cond full (refused Full) (cond early (moved then) (accepted e))))))
  due_by_tests e then true full early = refl
  due_by_tests e then false true early = refl
  due_by_tests e then false false true = refl
  due_by_tests e then false false false = refl

  -- what is due after a row is told by the number of events before and after it
  pub row_due : (most grace : ℕ) (reading : Result Event Reply) → due_on (verdict_of most grace events reading) ≡ is_due terms.commit terms.save (length events) (length (accepted_after events (verdict_of most grace events reading)))
  row_due most grace (Err reply) = refl
  row_due most grace (Ok e) = due_by_tests e (record e { time = last_time events }) (nat_lt (e.time + grace) (last_time events)) (nat_le most (length events)) (nat_lt e.time (last_time events))

-- nothing is due where the events are as many as before
pub none_due : (commit save n : ℕ) → Nothing ≡ is_due commit save n n
none_due commit save n = ap (λ (b : Bool). cond b Nothing (due_by (is_every save n) (is_every commit n))) (sym (le-leb n n (omega arith)))
