-- The time of the last event.
use Rattle.std.proofs.Common.{◌≡◌, ℕ, ◌+◌, List, [], ◌∷◌, length, get_or, refl, sym, arith}
use Rattle.rg_event.specs.Rising.{last_time}
use Rattle.rg_event.specs.declared.event.Event.{Event}
use Rattle.rg_engine.proofs.Laws.{last_at}

pub no_time : (events : List Event) → length events ≡ 0 → 0 ≡ last_time events
no_time [] none = refl
no_time (x ∷ events) none = absurd (omega (arith, none))

pub last_is : (events : List Event) (i : ℕ) (d : Event) → i + 1 ≡ length events → (get_or events i d).time ≡ last_time events
last_is events i d end = sym (last_at events i d end).1
