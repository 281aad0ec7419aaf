-- The two slots, and which of their checkpoints an engine goes on from.
use Rattle.std.specs.Prelude.{◌≡◌, ◌⊎◌, ℕ, zero, suc, ◌<◌, ◌≤◌, List, map, Option, Some, None}
use Rattle.rg_event.specs.declared.event.Event.{Event}
use Rattle.rg_past.specs.declared.past.Spot.{Spot}
use Rattle.rg_plan.specs.Plans.{Tasks}
use Rattle.rg_window.specs.Placed.{numbers_of}
use Rattle.rg_checkpoint.specs.declared.base.Checkpoint.{Checkpoint}
use Rattle.rg_restore.specs.declared.choosing.Saved.{Saved}
use Rattle.rg_restore.specs.Truthful.{IsTruthful}

-- the checkpoint of a slot, where it is complete
abbrev pub slot_in : Saved → ℕ → Option Checkpoint
slot_in saved zero = saved.first
slot_in saved (suc zero) = saved.second
slot_in saved (suc (suc n)) = None

-- each checkpoint of these queries is true of these events
abbrev pub AreTruthful : (Spot → Type 0) → List (List ℕ) → Tasks → List Event → (ℕ → Option Checkpoint) → Type 0
AreTruthful Spells queries plan events slots = (i : ℕ) (checkpoint : Checkpoint) → slots i ≡ Some checkpoint → checkpoint.queries ≡ queries → IsTruthful Spells plan events checkpoint

-- the other is of a lesser count, or of the same one and in a slot of a greater number
abbrev pub IsBehind : ℕ → Checkpoint → ℕ → Checkpoint → Type 0
IsBehind i checkpoint j other = (other.count < checkpoint.count) ⊎ ((other.count ≡ checkpoint.count) × (i ≤ j))

-- the slot's checkpoint is fit, and each other one that is fit is behind it
pub record IsBest (Fit : Checkpoint → Type 0) (slots : ℕ → Option Checkpoint) (i : ℕ) (checkpoint : Checkpoint) : Type 0 where
  pub there : slots i ≡ Some checkpoint
  pub fit : Fit checkpoint
  pub others : (j : ℕ) (other : Checkpoint) → slots j ≡ Some other → Fit other → IsBehind i checkpoint j other

-- no slot has one that is fit
abbrev pub NoneFits : (Checkpoint → Type 0) → (ℕ → Option Checkpoint) → Type 0
NoneFits Fit slots = (i : ℕ) (checkpoint : Checkpoint) → slots i ≡ Some checkpoint → Fit checkpoint → ⊥

-- from the greatest count of a fit checkpoint, that of the slot of the lower number where two have it; from 0 where none is fit
abbrev pub IsFrom : (Checkpoint → Type 0) → (ℕ → Option Checkpoint) → Option ℕ → ℕ → Type 0
IsFrom Fit slots None from = NoneFits Fit slots × (from ≡ 0)
IsFrom Fit slots (Some i) from = (checkpoint : Checkpoint) × IsBest Fit slots i checkpoint × (from ≡ checkpoint.count)

-- the edges stood at the start, or at the spots of the slot's checkpoint
abbrev pub HaveBegun : List ℕ → (ℕ → Option Checkpoint) → Option ℕ → List ℕ → Type 0
HaveBegun offsets slots None numbers = numbers ≡ map (λ _. 0) offsets
HaveBegun offsets slots (Some i) numbers = (checkpoint : Checkpoint) × (slots i ≡ Some checkpoint) × (numbers ≡ numbers_of checkpoint.spots)
