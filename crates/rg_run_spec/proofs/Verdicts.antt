-- The verdict on an event, by the last one before it.
use Rattle.std.proofs.Common.{◌≡◌, ℕ, suc, ◌≤◌, ◌<◌, ◌+◌, ◌-◌, ◌||◌, nat_lt, Bool, true, false, List, [], ◌∷◌, ◌++◌, length, Some, Ok, refl, ap, sym, ◌∙◌, arith}
use Rattle.std.specs.List.{list_any}
use Rattle.std.specs.Prelude.{slice_get}
use Rattle.std.proofs.lemmas.Bool.{lt-ltb, le-ltb, le-leb, lt-leb, ltb-true, ltb-false}
use Rattle.rg_event.specs.declared.event.Event.{Event}
use Rattle.rg_event.specs.Rising.{next_offset, last_time, IsRising}
use Rattle.rg_run_spec.specs.Verdicts.{verdict_of}
use Rattle.rg_reply.specs.declared.reply.Reply.TheVariants.{Late, Full}
use Rattle.rg_run_spec.specs.Verdicts.Verdict.{refused, accepted, moved}

-- some of these events has a greater time
abbrev later_than : ℕ → List Event → Bool
later_than time events = list_any (λ x. nat_lt time x.time) events

or_true : (a b : Bool) → b ≡ true → (a || b) ≡ true
or_true true b h = refl
or_true false b h = h

pub first_time : (x : Event) (events : List Event) → IsRising (x ∷ events) → x.time ≤ last_time (x ∷ events)
first_time x [] h = omega arith
first_time x (y ∷ events) h = omega (arith, h.1, first_time y events h.2)

pub any_later : (events : List Event) (time : ℕ) → IsRising events → time < last_time events → later_than time events ≡ true
any_later [] time h k = absurd (omega arith)
any_later (x ∷ []) time h k = rw (lt-ltb time x.time k) refl
any_later (x ∷ (y ∷ events)) time h k = or_true (nat_lt time x.time) (later_than time (y ∷ events)) (any_later (y ∷ events) time h.2 k)

pub none_later : (events : List Event) (time : ℕ) → IsRising events → last_time events ≤ time → later_than time events ≡ false
none_later [] time h k = refl
none_later (x ∷ []) time h k = rw (le-ltb time x.time k) refl
none_later (x ∷ (y ∷ events)) time h k =
    let early : x.time ≤ time = omega (arith, first_time x (y ∷ events) h, k) in
    rw (le-ltb time x.time early) (none_later (y ∷ events) time h.2 k)

-- of events in order one has a greater time just where the last one has
pub later_by_last : (events : List Event) (time : ℕ) → IsRising events → nat_lt time (last_time events) ≡ later_than time events
later_by_last events time h = by (nat_lt time (last_time events)) refl
  where
    by : (b : Bool) → nat_lt time (last_time events) ≡ b → b ≡ later_than time events
    by true t = sym (any_later events time h (ltb-true _ _ t))
    by false t = sym (none_later events time h (ltb-false _ _ t))

pub last_time-push : (events : List Event) (e : Event) → last_time (events ++ e ∷ []) ≡ e.time
last_time-push [] e = refl
last_time-push (x ∷ []) e = refl
last_time-push (x ∷ (y ∷ events)) e = last_time-push (y ∷ events) e

pub next_offset-push : (events : List Event) (e : Event) → next_offset (events ++ e ∷ []) ≡ e.offset + 1
next_offset-push [] e = refl
next_offset-push (x ∷ []) e = refl
next_offset-push (x ∷ (y ∷ events)) e = next_offset-push (y ∷ events) e

-- the four verdicts on an event
module _ (most grace : ℕ) (events : List Event) (e : Event) where
  pub is_late : e.time + grace < last_time events → verdict_of most grace events (Ok e) ≡ refused Late
  is_late late = rw (lt-ltb (e.time + grace) (last_time events) late) refl

  pub is_full : last_time events ≤ e.time + grace → most ≤ length events → verdict_of most grace events (Ok e) ≡ refused Full
  is_full in_time full = rw (le-ltb (e.time + grace) (last_time events) in_time, le-leb most (length events) full) refl

  pub is_moved : last_time events ≤ e.time + grace → length events < most → e.time < last_time events → verdict_of most grace events (Ok e) ≡ moved (record e { time = last_time events })
  is_moved in_time room early = rw (le-ltb (e.time + grace) (last_time events) in_time, lt-leb most (length events) room, lt-ltb e.time (last_time events) early) refl

  pub is_accepted : last_time events ≤ e.time → length events < most → verdict_of most grace events (Ok e) ≡ accepted e
  is_accepted in_time room =
      let within : last_time events ≤ e.time + grace = omega (arith, in_time) in
      rw (le-ltb (e.time + grace) (last_time events) within, lt-leb most (length events) room, le-ltb e.time (last_time events) in_time) refl
