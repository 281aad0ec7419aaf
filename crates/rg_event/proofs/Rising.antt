-- Events that rise, and one event more.
use Rattle.std.proofs.Common.{◌≡◌, ◌+◌, List, [], ◌∷◌, ◌++◌, refl, arith}
use Rattle.rg_event.specs.Rising.{next_offset, last_time, IsRising, MayFollow}
use Rattle.rg_event.specs.declared.event.Event.{Event}

pub next_offset-push : (events : List Event) (event : Event) → next_offset (events ++ event ∷ []) ≡ event.offset + 1
next_offset-push [] event = refl
next_offset-push (x ∷ []) event = refl
next_offset-push (x ∷ (y ∷ events)) event = next_offset-push (y ∷ events) event

pub last_time-push : (events : List Event) (event : Event) → last_time (events ++ event ∷ []) ≡ event.time
last_time-push [] event = refl
last_time-push (x ∷ []) event = refl
last_time-push (x ∷ (y ∷ events)) event = last_time-push (y ∷ events) event

-- an event that may follow rising events makes them go on rising
pub IsRising-push : (events : List Event) (event : Event) → IsRising events → MayFollow events event → IsRising (events ++ event ∷ [])
IsRising-push [] event rising follows = tt
IsRising-push (x ∷ []) event rising follows = (omega (arith, follows.offset), follows.time, tt)
IsRising-push (x ∷ (y ∷ events)) event rising follows =
    (rising.0, rising.1, IsRising-push (y ∷ events) event rising.2 (record { offset = follows.offset; time = follows.time }))
