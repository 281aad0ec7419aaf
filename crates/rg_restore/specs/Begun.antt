-- The checkpoint that an engine goes on from.
use Rattle.std.specs.Prelude.{◌⊎◌, ℕ, List, length, Option}
use Rattle.rg_event.specs.declared.event.Event.{Event}
use Rattle.rg_past.specs.declared.past.Spot.{Spot}
use Rattle.rg_plan.specs.Plans.{Tasks}
use Rattle.rg_window.specs.Placed.{numbers_of}
use Rattle.rg_checkpoint.specs.declared.base.Checkpoint.{Checkpoint}
use Rattle.rg_restore.specs.Opening.{IsUsable}
use Rattle.rg_restore.specs.Since.{AreRowsIn}
use Rattle.rg_restore.specs.Slots.{AreTruthful, HaveBegun, IsBest, IsFrom}
use Rattle.rg_restore.specs.Truthful.{IsTruthful}

-- over a past of these events, then seen again, the slot's checkpoint is gone on from, or that of no events
module _ (is_sound is_told has_ended : Type 0) (Fit : Checkpoint → Type 0) (Spells Later : Spot → Type 0) (events then : List Event) (queries : List (List ℕ)) (plan : Tasks) (slots : ℕ → Option Checkpoint) where
  pub record IsBegun (slot : Option ℕ) (checkpoint : Checkpoint) : Type 0 where
    pub usable : IsUsable plan (length events) checkpoint
    pub is_from : is_told → IsFrom Fit slots slot checkpoint.count
    pub begun : HaveBegun plan.offsets slots slot (numbers_of checkpoint.spots)
    pub rows : AreRowsIn slots slot checkpoint.rows
    -- it is true where each of these queries is, and else the best of those that are fit
    pub truthful : is_sound → (has_ended → ⊥) → AreTruthful Spells queries plan events slots → IsTruthful Later plan then checkpoint
    pub origin : is_sound → (has_ended → ⊥) → IsTruthful Later plan then checkpoint ⊎ ((i : ℕ) × IsBest Fit slots i checkpoint)
