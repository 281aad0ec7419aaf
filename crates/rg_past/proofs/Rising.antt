-- A past in memory with one event more.
use Rattle.std.proofs.Common.{◌≡◌, ℕ, ◌<◌, List, [], ◌∷◌, ◌++◌, length, ap, arith, length-append}
use Rattle.rg_event.specs.declared.event.Event.{Event}
use Rattle.rg_past.specs.Listed.{Listed, IsSound}
use Rattle.rg_event.specs.Rising.{MayFollow}
use Rattle.rg_event.proofs.Laws.{IsRising-push}

-- below the limit a past stays sound when such an event is added
pub stays_sound : (old : Listed) (events : List Event) (limit : ℕ) (event : Event) → IsSound old → (IsSound old → (⊥ → ⊥) → MayFollow old.events event) → limit ≡ old.limit → events ≡ old.events ++ event ∷ [] → length old.events < limit → IsSound (record { events = events; limit = limit })
stays_sound old events limit event sound follows same added room = record {
  rising = rw added (IsRising-push old.events event sound.rising (follows sound (λ none. none)));
  within = omega (arith, ap length added, length-append old.events (event ∷ []), sound.within);
  small = omega (arith, sound.small);
}
