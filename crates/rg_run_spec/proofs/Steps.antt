-- What one line adds.
use Rattle.std.proofs.Common.{◌≡◌, ℕ, ◌≤◌, ◌<◌, ◌+◌, ◌||◌, nat_le, nat_lt, Bool, true, false, cond, List, [], ◌∷◌, ◌++◌, length, Option, Some, None, Result, Ok, Err, refl, ap, arith}
use Rattle.std.proofs.lemmas.Bool.{ltb-true, ltb-false, leb-false}
use Rattle.rg_event.specs.declared.event.Event.{Event}
use Rattle.rg_event.specs.Rising.{next_offset, last_time}
use Rattle.rg_reply.specs.declared.reply.Reply.{Reply}
use Rattle.rg_reply.specs.declared.reply.Reply.TheVariants.{Late, Full}
use Rattle.rg_run_spec.specs.Verdicts.{Verdict, control_at, read_as, verdict_of, obeyed_or, line_verdict}
use Rattle.rg_run_spec.specs.Verdicts.Verdict.{refused, accepted, moved}
use Rattle.rg_run_spec.specs.declared.control.Control.{Control}
use Rattle.rg_run_spec.proofs.Events.{read_fits}
use Rattle.rg_run_spec.specs.Accepted.{verdict_from, after_turn}
use Rattle.rg_run_spec.specs.Output.{turn_lines, Terms}
use Rattle.rg_run_spec.specs.Ahead.{after_line, lines_for}

abbrev pub Item : Type 0
Item = Option (List ℕ)

pub or_true : (a b : Bool) → b ≡ true → (a || b) ≡ true
or_true true b h = refl
or_true false b h = h

-- an event that is accepted from the line at this offset, after these
pub record IsAccepted (terms : Terms) (events : List Event) (offset : ℕ) (e : Event) : Type 0 where
  pub at : e.offset ≡ offset
  pub in_time : last_time events ≤ e.time
  pub room : length events < terms.basis.most

-- the three ways of a line: it is passed over, adds nothing, or adds an event
pub data Decided (terms : Terms) (next : ℕ) (events : List Event) (offset : ℕ) (v : Option Verdict) : Type 0 where
  passes : offset < next → v ≡ None → Decided terms next events offset v
  stays : next ≤ offset → after_turn events v ≡ events → Decided terms next events offset v
  adds : (e : Event) → next ≤ offset → IsAccepted terms events offset e → after_turn events v ≡ events ++ e ∷ [] → Decided terms next events offset v

module _ (terms : Terms) (next : ℕ) (events : List Event) (offset : ℕ) (item : Item) where
  by_move : (e : Event) → next ≤ offset → e.offset ≡ offset → length events < terms.basis.most → (b : Bool) → nat_lt e.time (last_time events) ≡ b →
      Decided terms next events offset (Some (cond b (moved (record e { time = last_time events })) (accepted e)))
  by_move e after at room true early = adds (record e { time = last_time events }) after (record { at = at; in_time = omega arith; room = room }) refl
  by_move e after at room false in_time = adds e after (record { at = at; in_time = ltb-false _ _ in_time; room = room }) refl

  by_room : (e : Event) → next ≤ offset → e.offset ≡ offset → (b : Bool) → nat_le terms.basis.most (length events) ≡ b →
      Decided terms next events offset (Some (cond b (refused Full) (cond (nat_lt e.time (last_time events)) (moved (record e { time = last_time events })) (accepted e))))
  by_room e after at true full = stays after refl
  by_room e after at false room = by_move e after at (leb-false _ _ room) (nat_lt e.time (last_time events)) refl

  by_time : (e : Event) → next ≤ offset → e.offset ≡ offset → (b : Bool) →
      Decided terms next events offset (Some (cond b (refused Late) (cond (nat_le terms.basis.most (length events)) (refused Full) (cond (nat_lt e.time (last_time events)) (moved (record e { time = last_time events })) (accepted e)))))
  by_time e after at true = stays after refl
  by_time e after at false = by_room e after at (nat_le terms.basis.most (length events)) refl

  by_look : next ≤ offset → (look : Result Event Reply) → read_as terms.basis offset item ≡ look → Decided terms next events offset (Some (verdict_of terms.basis.most terms.basis.grace events look))
  by_look after (Err reply) look = stays after refl
  by_look after (Ok e) look = by_time e after (read_fits terms.basis offset item e look).at (nat_lt (e.time + terms.basis.grace) (last_time events))

  by_control : next ≤ offset → (control : Option Control) → Decided terms next events offset (Some (obeyed_or control (verdict_of terms.basis.most terms.basis.grace events (read_as terms.basis offset item))))
  by_control after (Some control) = stays after refl
  by_control after None = by_look after (read_as terms.basis offset item) refl

  by_next : (b : Bool) → nat_lt offset next ≡ b → Decided terms next events offset (cond b None (Some (line_verdict terms.basis events offset item)))
  by_next true below = passes (ltb-true _ _ below) refl
  by_next false after = by_control (ltb-false _ _ after) (control_at terms.basis offset item)

  decided : Decided terms next events offset (verdict_from terms.basis next events offset item)
  decided = by_next (nat_lt offset next) refl

-- a line adds nothing, or the event that it is accepted by
pub data Adds (terms : Terms) (events : List Event) (offset : ℕ) (item : Item) : Type 0 where
  none_below : offset < next_offset events → after_line terms.basis events offset item ≡ events → lines_for terms events offset item ≡ [] → Adds terms events offset item
  none : next_offset events ≤ offset → after_line terms.basis events offset item ≡ events → Adds terms events offset item
  one : (e : Event) → next_offset events ≤ offset → IsAccepted terms events offset e → after_line terms.basis events offset item ≡ events ++ e ∷ [] → Adds terms events offset item

line_adds : (terms : Terms) (events : List Event) (offset : ℕ) (item : Item) → Decided terms (next_offset events) events offset (verdict_from terms.basis (next_offset events) events offset item) → Adds terms events offset item
line_adds terms events offset item (passes below is) = none_below below (ap (λ v. after_turn events v) is) (ap (λ v. turn_lines terms events offset v) is)
line_adds terms events offset item (stays after is) = none after is
line_adds terms events offset item (adds e after a is) = one e after a is

pub added : (terms : Terms) (events : List Event) (offset : ℕ) (item : Item) → Adds terms events offset item
added terms events offset item = line_adds terms events offset item (decided terms (next_offset events) events offset item)

-- a line below the next offset is passed over
pub record IsPassed (terms : Terms) (events : List Event) (offset : ℕ) (item : Item) : Type 0 where
  pub stays : after_line terms.basis events offset item ≡ events
  pub nothing : lines_for terms events offset item ≡ []

passed_by : (terms : Terms) (events : List Event) (offset : ℕ) (item : Item) → offset < next_offset events → Adds terms events offset item → IsPassed terms events offset item
passed_by terms events offset item below (none_below _ same nothing) = record { stays = same; nothing = nothing }
passed_by terms events offset item below (none after _) = absurd (omega (arith, below, after))
passed_by terms events offset item below (one e after _ _) = absurd (omega (arith, below, after))

pub passed_over : (terms : Terms) (events : List Event) (offset : ℕ) (item : Item) → offset < next_offset events → IsPassed terms events offset item
passed_over terms events offset item below = passed_by terms events offset item below (added terms events offset item)
