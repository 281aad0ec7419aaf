-- What a move of one edge keeps of a past, and why it may be refused.
use Rattle.std.specs.Prelude.{◌≡◌, ℕ, ◌≤◌, List, length, Result, OnOk, IsErrOf}
use Rattle.rg_event.specs.declared.event.Event.{Event}
use Rattle.rg_past.specs.Keeping.{Kept, HasCause}
use Rattle.rg_past.specs.declared.past.PastFault.{PastFault}
use Rattle.rg_past.specs.declared.past.PastFault.TheVariants.{Damaged, Ended}
use Rattle.rg_past.specs.declared.past.Spot.{Spot}
use Rattle.rg_window.specs.declared.edges.MoveFault.{MoveFault}
use Rattle.rg_window.specs.declared.edges.MoveFault.TheVariants.{Past}

-- A past that had ended refuses the first look, and nothing is visited. So is one refused that asks for an illegal place. Each fault of a past has its
-- cause, and where the spot is told the place isn't damaged.
pub record MayRefuse {V F : Type 0} (IsIllegal : ℕ → Type 0) (asks_illegal had_ended is_told : Type 0) (before after : ℕ) (old new : V) (result : Result Unit (MoveFault F)) : Type 0 where
  pub ended : had_ended → IsErrOf result (Past Ended)
  pub unvisited : had_ended → new ≡ old
  pub legal : asks_illegal → OnOk result ⊥
  pub cause : (fault : PastFault) → IsErrOf result (Past fault) → HasCause IsIllegal ⊥ had_ended before after fault
  pub never_damaged : (place : ℕ) → is_told → IsErrOf result (Past (Damaged place)) → ⊥

-- The events stay, and so does a room. The edge's spot is not behind the end, and one that was spelled is spelled.
pub record Keeps {P : Type 0} (Goes : P → P → Type 0) (IsSound HasEnded HasRoom : P → Type 0) (events : P → List Event) (faults : P → ℕ) (Spells : P → Spot → Type 0) (old new : P) (spot spot' : Spot) : Type 0 where
  pub within : spot'.number ≤ length (events old)
  pub spells : IsSound old → Spells old spot → Spells new spot'
  pub same : events new ≡ events old
  pub room : HasRoom old → HasRoom new
  pub past : Kept Goes IsSound HasEnded faults old new
