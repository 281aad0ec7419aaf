-- What a past keeps that was asked or read, and why it refused that.
use Rattle.std.specs.Prelude.{◌≡◌, ◌↔◌, ℕ, List, ⊤}
use Rattle.rg_event.specs.declared.event.Event.{Event}
use Rattle.rg_past.specs.Keeping.{Kept, HasCause}
use Rattle.rg_past.specs.declared.past.PastFault.{PastFault}
use Rattle.rg_past.specs.declared.past.Spot.{Spot}
use Rattle.rg_engine.specs.declared.fault.EngineFault.{EngineFault}
use Rattle.rg_engine.specs.declared.fault.EngineFault.TheVariants.{Past, BadState, Memory, Ended, Table}

-- the events and the room of a past stay, whatever else goes on
pub record KeepsEvents {P : Type 0} (events_of : P → List Event) (HasRoom : P → Type 0) (Goes : P → P → Type 0) (IsSound HasEnded : P → Type 0) (faults : P → ℕ) (old new : P) : Type 0 where
  pub events : events_of new ≡ events_of old
  pub room : HasRoom old → HasRoom new
  pub past : Kept Goes IsSound HasEnded faults old new

-- a past names and spells the same spots as before, and can be asked again
pub record StaysNamed {P : Type 0} (IsTold IsReady : P → Type 0) (Names Spells : P → Spot → Type 0) (old new : P) : Type 0 where
  pub named : (spot : Spot) → Names new spot ↔ Names old spot
  pub spells : (spot : Spot) → Spells new spot ↔ Spells old spot
  pub ready : IsReady new
  pub told : IsTold old → IsTold new

-- why a past that isn't full refused: each fault its cause, and what is sound is never damaged
abbrev pub IsRefused : (ℕ → Type 0) → Type 0 → Type 0 → ℕ → ℕ → PastFault → Type 0
IsRefused IsIllegal is_sound had_ended before after fault = HasCause (λ place. IsIllegal place × (is_sound → ⊥)) ⊥ had_ended before after fault

-- why an engine that hasn't ended wasn't made, from why a past, a node's rows and a table refuse; want of memory has no cause
abbrev pub IsUnmade : (PastFault → Type 0) → (ℕ → Type 0) → Type 0 → EngineFault → Type 0
IsUnmade PastRefused IsBad table_failed (Past fault) = PastRefused fault
IsUnmade PastRefused IsBad table_failed (BadState node) = IsBad node
IsUnmade PastRefused IsBad table_failed Memory = ⊤
IsUnmade PastRefused IsBad table_failed Ended = ⊥
IsUnmade PastRefused IsBad table_failed Table = table_failed
