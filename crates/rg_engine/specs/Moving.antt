-- What a move of the edges of a plan to a time does, by its answer.
use Rattle.std.specs.Prelude.{◌≡◌, ℕ, ◌+◌, ◌<◌, List, ◌++◌, length, Some, slice_get, All, Result, OnOk, IsErrOf}
use Rattle.rg_bytes.specs.Counts.{Rose}
use Rattle.rg_event.specs.Rising.{last_time}
use Rattle.rg_event.specs.declared.event.Event.{Event}
use Rattle.rg_past.specs.Keeping.{Kept, HasCause}
use Rattle.rg_past.specs.declared.past.PastFault.{PastFault}
use Rattle.rg_past.specs.declared.past.PastFault.TheVariants as past
use Rattle.rg_past.specs.declared.past.Spot.{Spot}
use Rattle.rg_plan.specs.Plans.{Tasks}
use Rattle.rg_plan.specs.Whole.{IsWhole}
use Rattle.rg_state.specs.Changes.{Marks}
use Rattle.rg_state.specs.Keeping.{TableKept}
use Rattle.rg_state.specs.Rows.{Cells}
use Rattle.rg_window.specs.Placed.{Placed, AreWithin, IsSpelledAt, numbers_of}
use Rattle.rg_engine.specs.Carrying.{CarriesOn, EdgesMove}
use Rattle.rg_engine.specs.Parts.{ArePartsOf}
use Rattle.rg_engine.specs.Since.{KeepsSince}
use Rattle.rg_engine.specs.Standing.{IsAtPosition, NodeStands, come}
use Rattle.rg_engine.specs.declared.fault.EngineFault.{EngineFault}
use Rattle.rg_engine.specs.declared.fault.EngineFault.TheVariants as fault
use Rattle.rg_engine.specs.declared.part.FilterPart.{FilterPart}

-- the edges are those of the plan's offsets and stand within the events, and the tree has the plan's nodes
pub record IsMovable (plan : Tasks) (edges : Placed) (parts : List FilterPart) (events : List Event) : Type 0 where
  pub whole : IsWhole plan
  pub offsets : edges.offsets ≡ plan.offsets
  pub same : length edges.spots ≡ length edges.offsets
  pub tree : ArePartsOf plan parts
  pub within : AreWithin edges.spots (length events)

-- Each node by itself goes on to stand for all events, or it isn't to blame; each edge is at its position; and the steps are how far the edges of each
-- filter node's window came.
pub record RowsMove (plan : Tasks) (t : ℕ) (is_sound : Type 0) (Spells : Spot → Type 0) (is_told : Type 0) (events : List Event) (cells cells' : Cells) (spots spots' : List Spot) (steps steps' : ℕ) (result : Result Unit EngineFault) : Type 0 where
  pub stands : (n : ℕ) (first : List Event) → last_time events ≡ t → CarriesOn plan n is_sound Spells is_told events events first cells spots → OnOk result (NodeStands plan n events cells' (numbers_of spots'))
  pub bad : (n : ℕ) (first : List Event) → IsErrOf result (fault.BadState n) → CarriesOn plan n is_sound Spells is_told events events first cells spots → ⊥
  pub places : (edge offset : ℕ) (front more : List Event) → is_sound → IsSpelledAt Spells spots edge → events ≡ front ++ more → last_time events ≡ t → slice_get plan.offsets edge ≡ Some offset →
      IsAtPosition front (numbers_of spots) edge offset → OnOk result (IsAtPosition events (numbers_of spots') edge offset)
  pub ticks : OnOk result (steps' + come plan (numbers_of spots) ≡ steps + come plan (numbers_of spots'))

-- A past that had ended refuses the first look. So is a move refused where an edge stands at a spot whose look asks for an illegal place. A fault of the
-- past has its cause, and is no damage where the past spells all spots; one of the table is counted.
pub record MoveRefuses (plan : Tasks) (is_sound : Type 0) (Spells AsksIllegal : Spot → Type 0) (IsIllegal : ℕ → Type 0) (had_ended : Type 0) (before after table_before table_after : ℕ) (spots : List Spot) (result : Result Unit EngineFault) : Type 0 where
  pub stops : had_ended → 0 < length plan.offsets → IsErrOf result (fault.Past past.Ended)
  pub legal : (edge : ℕ) (spot : Spot) → slice_get spots edge ≡ Some spot → AsksIllegal spot → OnOk result ⊥
  pub cause : (cause : PastFault) → IsErrOf result (fault.Past cause) → HasCause IsIllegal ⊥ had_ended before after cause
  pub never_damaged : (place : ℕ) → is_sound → All Spells spots → IsErrOf result (fault.Past (past.Damaged place)) → ⊥
  pub table : IsErrOf result fault.Table → Rose table_before table_after
  pub not_ended : IsErrOf result fault.Ended → ⊥

-- What stays of a past whatever the answer: its events, its room, and what each call keeps.
pub record PastStays {P : Type 0} (Goes : P → P → Type 0) (IsSound HasEnded HasRoom : P → Type 0) (events_of : P → List Event) (faults : P → ℕ) (old new : P) : Type 0 where
  pub events : events_of new ≡ events_of old
  pub room : HasRoom old → HasRoom new
  pub past : Kept Goes IsSound HasEnded faults old new

-- What stays of a table whatever the answer: whether it tells its rows, and what is known of them since its mark.
pub record RowsStay {T : Type 0} (Tells : T → Type 0) (named there : T → Marks) (cells : T → Cells) (faults : T → ℕ) (old new : T) : Type 0 where
  pub rows : TableKept Tells faults old new
  pub since : KeepsSince Tells named there cells old new

-- What stays of the edges, none of which goes back, and of the tree.
pub record EdgesStay (is_sound : Type 0) (Spells Later : Spot → Type 0) (events : List Event) (old new : Placed) (tree tree' : List FilterPart) : Type 0 where
  pub offsets : new.offsets ≡ old.offsets
  pub same : length new.spots ≡ length old.spots
  pub moved : EdgesMove is_sound Spells Later (length events) old.spots new.spots
  pub parts : tree' ≡ tree
