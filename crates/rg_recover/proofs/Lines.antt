-- What is decided on a line.
use Rattle.std.proofs.Common.{◌≡◌, ℕ, ◌<◌, ◌≤◌, ◌+◌, ◌-◌, nat_lt, Bool, true, false, List, [], ◌∷◌, ◌++◌, length, Option, Result, Ok, Err, refl, sym, ◌∙◌, ap, subst, arith}
use Rattle.std.specs.Prelude.{All}
use Rattle.std.proofs.lemmas.Bool.{lt-ltb, le-ltb, ltb-true, ltb-false}
use Rattle.std.proofs.lemmas.List.Elements.{All-head, All-tail}
use Rattle.rg_host.specs.Image.{Image}
use Rattle.rg_event.specs.Codec.{IsEventOf}
use Rattle.rg_event.specs.Rising.{last_time}
use Rattle.rg_event.specs.Shapes.{Shape}
use Rattle.rg_event.specs.declared.event.Event.{Event}
use Rattle.rg_event.specs.declared.schema.Field.{Field}
use Rattle.rg_metric.specs.Queries.{Asked}
use Rattle.rg_metric.specs.Replies.{answers_to}
use Rattle.rg_metric.specs.declared.answer.Answer.{Answer}
use Rattle.rg_reply.specs.declared.reply.Reply.{Reply}
use Rattle.rg_reply.specs.declared.reply.Reply.TheVariants.{Late, Full}
use Rattle.rg_config.specs.Plans.{Planned}
use Rattle.rg_row.specs.Rows.{row_of}
use Rattle.rg_row.specs.declared.fault.RowFault.{RowFault}
use Rattle.rg_row.specs.declared.fault.RowFault.TheVariants as rows
use Rattle.rg_state.specs.Changes.{Marks}
use Rattle.rg_state.specs.Rows.{Cells}
use Rattle.rg_run_spec.specs.Verdicts.{Verdict, refused, accepted, moved, verdict_of, or_reply, fault_reply, accepted_after, reply_of}
use Rattle.rg_run_spec.proofs.Laws.{is_late, is_full, is_moved, is_accepted}
use Rattle.rg_reservoir.specs.Kept.{base}
use Rattle.rg_task.specs.Terms.{HasAnswers}
use Rattle.rg_recover.specs.Deciding.{verdict_on, as_verdict, answered_as, AreBefore}
use Rattle.rg_recover.specs.Sessions.{Sitting, IsRunning, events_of}
use Rattle.rg_recover.specs.declared.line.Decision.TheVariants.{Accepted}
use Rattle.rg_recover.proofs.Sound.{all_fit, time_is, long}

-- whether a last time is later by more than the grace
pub late_by : (time grace last : ℕ) → nat_lt grace (last - time) ≡ nat_lt (time + grace) last
late_by time grace last = by (nat_lt (time + grace) last) refl
  where
    by : (late : Bool) → nat_lt (time + grace) last ≡ late → nat_lt grace (last - time) ≡ nat_lt (time + grace) last
    by true is = lt-ltb grace (last - time) (omega (arith, ltb-true (time + grace) last is)) ∙ sym is
    by false is = le-ltb grace (last - time) (omega (arith, ltb-false (time + grace) last is)) ∙ sym is

-- the last time of no events
pub none_last : (events : List Event) → length events ≡ 0 → 0 ≡ last_time events
none_last [] none = refl
none_last (x ∷ events) none = absurd (omega (arith, none))

-- the last time of events of a row's columns
pub last_small : (fields : List Field) (events : List Event) → All (IsEventOf fields) events → last_time events ≤ 1000000000000000
last_small fields [] all = omega arith
last_small fields (x ∷ []) all = (All-head (IsEventOf fields) x [] all).time
last_small fields (x ∷ (y ∷ events)) all = last_small fields (y ∷ events) (All-tail (IsEventOf fields) x (y ∷ events) all)

-- what is decided on the event of a row, behind events of that last time
module _ (most grace : ℕ) (events : List Event) (e : Event) (last : ℕ) (last_is : last ≡ last_time events) where
  pub says_late : nat_lt (e.time + grace) last ≡ true → refused Late ≡ verdict_of most grace events (Ok e)
  says_late late = sym (is_late most grace events e (omega (arith, ltb-true (e.time + grace) last late, last_is)))

  pub says_full : nat_lt (e.time + grace) last ≡ false → most ≤ length events → refused Full ≡ verdict_of most grace events (Ok e)
  says_full in_time full = sym (is_full most grace events e (omega (arith, ltb-false (e.time + grace) last in_time, last_is)) full)

  pub says_moved : nat_lt (e.time + grace) last ≡ false → length events < most → e.time < last → moved (record e { time = last }) ≡ verdict_of most grace events (Ok e)
  says_moved in_time below early =
      ap (λ (n : ℕ). moved (record e { time = n })) last_is ∙ sym (is_moved most grace events e (omega (arith, ltb-false (e.time + grace) last in_time, last_is)) below (omega (arith, early, last_is)))

  pub says_accepted : length events < most → last ≤ e.time → accepted e ≡ verdict_of most grace events (Ok e)
  says_accepted below in_time = sym (is_accepted most grace events e (omega (arith, in_time, last_is)) below)

-- what is decided on a line
pub says_row : (most grace : ℕ) (events : List Event) (given : Result Event RowFault) (e : Event) (verdict : Verdict) → given ≡ Ok e → verdict ≡ verdict_of most grace events (Ok e) → verdict ≡ verdict_of most grace events (or_reply given)
says_row most grace events given e verdict is by = by ∙ sym (ap (λ v. verdict_of most grace events (or_reply v)) is)

pub says_fault : (most grace : ℕ) (events : List Event) (given : Result Event RowFault) (fault : RowFault) → given ≡ Err fault → refused (fault_reply fault) ≡ verdict_of most grace events (or_reply given)
says_fault most grace events given fault is = sym (ap (λ v. verdict_of most grace events (or_reply v)) is)

-- the event of a row with a later time that a row may have
pub moved_fits : (fields : List Field) (e : Event) (time : ℕ) → time ≤ 1000000000000000 → IsEventOf fields e → IsEventOf fields (record e { time = time })
moved_fits fields e time small is = record { offset = is.offset; time = small; values = is.values }

-- what a decision makes of the events and the queries
pub reply_accepted : (queries : List Asked) (events : List Event) (event : Event) (is_moved : Bool) → answered_as is_moved (answers_to queries (events ++ event ∷ []) event) ≡ reply_of queries events (as_verdict (Accepted event is_moved))
reply_accepted queries events event true = refl
reply_accepted queries events event false = refl

pub has_answers : (is_moved : Bool) (answers : List Answer) (reply : Reply) → reply ≡ answered_as is_moved answers → HasAnswers reply
has_answers true answers reply is = subst HasAnswers (sym is) tt
has_answers false answers reply is = subst HasAnswers (sym is) tt

-- a reply that refuses a row answers none
pub no_answers : (why : RowFault) (reply : Reply) → reply ≡ fault_reply why → HasAnswers reply → ⊥
no_answers rows.Row reply is has = subst HasAnswers is has
no_answers rows.Fields reply is has = subst HasAnswers is has
no_answers rows.Time reply is has = subst HasAnswers is has
no_answers (rows.Value column) reply is has = subst HasAnswers is has
no_answers rows.Memory reply is has = subst HasAnswers is has

pub after_accepted : (events : List Event) (event : Event) (is_moved : Bool) → events ++ event ∷ [] ≡ accepted_after events (as_verdict (Accepted event is_moved))
after_accepted events event true = refl
after_accepted events event false = refl

-- what is decided by a session that runs is what its plan gives
pub decided : {T : Type 0} (plan : Planned) (now : Option Image) (may : Image → Type 0) (Tells : T → Type 0) (cell : T → Cells) (named there : T → Marks) (s : Sitting T) (offset : ℕ) (line : List ℕ) (verdict : Verdict)
    → IsRunning plan now may Tells cell named there s
    → ((events : List Event) → AreBefore events s.reservoir → verdict ≡ verdict_of (base s.reservoir).limit s.grace events (or_reply (row_of (base s.reservoir).shape.fields offset line)))
    → verdict ≡ verdict_on plan (events_of now s) offset line
decided plan now may Tells cell named there s offset line verdict runs says =
    let log = runs.ready.in_step.reservoir in
    let small = last_small (base s.reservoir).shape.fields (events_of now s) (all_fit now may s.reservoir log.sound log.going) in
    says (events_of now s) (record { small = small; last = time_is now may s.reservoir log.sound log.going; count = long now s.reservoir })
    ∙ ap (λ (most : ℕ). verdict_of most s.grace (events_of now s) (or_reply (row_of (base s.reservoir).shape.fields offset line))) runs.limit_is
    ∙ ap (λ (grace : ℕ). verdict_of plan.settings.events grace (events_of now s) (or_reply (row_of (base s.reservoir).shape.fields offset line))) runs.grace_is
    ∙ ap (λ (shape : Shape). verdict_of plan.settings.events plan.settings.grace (events_of now s) (or_reply (row_of shape.fields offset line))) log.shape
