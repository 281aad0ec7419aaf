-- The last event of a chunk, and of events with a chunk behind them.
use Rattle.std.proofs.Common.{◌≡◌, ◌∙◌, suc, ◌+◌, ◌-◌, ◌≤◌, List, [], ◌∷◌, ◌++◌, length, Some, None, refl, sym, ap, arith}
use Rattle.std.specs.Prelude.{slice_get}
use Rattle.rg_event.specs.declared.event.Event.{Event}
use Rattle.rg_event.specs.Rising.{next_offset, last_time}
use Rattle.rg_chunk.specs.Heads.{last_stamp}

pub last_is : (events : List Event) (event : Event) → slice_get events (length events - 1) ≡ Some event → last_stamp events ≡ (event.offset, event.time)
last_is [] event is = absurd cc
last_is (x ∷ []) event is = let same : x ≡ event = cc in ap (λ (e : Event). (e.offset, e.time)) same
last_is (x ∷ (y ∷ events)) event is =
    let e : length (x ∷ (y ∷ events)) - 1 ≡ suc (length (y ∷ events) - 1) = omega arith in
    last_is (y ∷ events) event (sym (ap (slice_get (x ∷ (y ∷ events))) e) ∙ is)

pub last_some : (events : List Event) → 1 ≤ length events → slice_get events (length events - 1) ≡ None → ⊥
last_some [] some none = absurd (omega (arith, some))
last_some (x ∷ []) some none = absurd (let e : Some x ≡ None = none in cc)
last_some (x ∷ (y ∷ events)) some none =
    let e : length (x ∷ (y ∷ events)) - 1 ≡ suc (length (y ∷ events) - 1) = omega arith in
    last_some (y ∷ events) (omega arith) (sym (ap (slice_get (x ∷ (y ∷ events))) e) ∙ none)

next_last : (c : List Event) → 1 ≤ length c → next_offset c ≡ (last_stamp c).0 + 1
next_last [] some = absurd (omega (arith, some))
next_last (x ∷ []) some = refl
next_last (x ∷ (y ∷ c)) some = next_last (y ∷ c) (omega arith)

pub next_more : (front c : List Event) → 1 ≤ length c → next_offset (front ++ c) ≡ (last_stamp c).0 + 1
next_more [] c some = next_last c some
next_more (x ∷ []) [] some = absurd (omega (arith, some))
next_more (x ∷ []) (y ∷ c) some = next_last (y ∷ c) some
next_more (x ∷ (y ∷ front)) c some = next_more (y ∷ front) c some

time_last : (c : List Event) → last_time c ≡ (last_stamp c).1
time_last [] = refl
time_last (x ∷ []) = refl
time_last (x ∷ (y ∷ c)) = time_last (y ∷ c)

pub time_more : (front c : List Event) → 1 ≤ length c → last_time (front ++ c) ≡ (last_stamp c).1
time_more [] c some = time_last c
time_more (x ∷ []) [] some = absurd (omega (arith, some))
time_more (x ∷ []) (y ∷ c) some = time_last (y ∷ c)
time_more (x ∷ (y ∷ front)) c some = time_more (y ∷ front) c some
