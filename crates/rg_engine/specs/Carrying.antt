-- From where an engine goes on, and what it keeps.
use Rattle.std.specs.Prelude.{◌≡◌, ◌⊎◌, ℕ, ◌≤◌, Bool, true, false, List, [], ◌∷◌, ◌++◌, Result, Ok, Err, slice_index_or}
use Rattle.rg_event.specs.declared.event.Event.{Event}
use Rattle.rg_past.specs.declared.past.Spot.{Spot}
use Rattle.rg_past.specs.declared.past.PastFault.TheVariants as past
use Rattle.rg_plan.specs.Plans.{Tasks}
use Rattle.rg_state.specs.Rows.{Cells}
use Rattle.rg_window.specs.Placed.{AreWithin, IsSpelledAt, numbers_of}
use Rattle.rg_engine.specs.declared.fault.EngineFault.{EngineFault}
use Rattle.rg_engine.specs.declared.fault.EngineFault.TheVariants as fault
use Rattle.rg_engine.specs.Feeding.{IsFed}
use Rattle.rg_engine.specs.Standing.{IsTold, NodeStands}

-- One node by itself can be carried on: the past is sound and spells the spots of the node's edges, the table tells its rows, all events that are to
-- come to an edge are of columns that serve the plan, and the node stood for the first ones of the events so far.
pub record CarriesOn (plan : Tasks) (n : ℕ) (is_sound : Type 0) (Spells : Spot → Type 0) (is_told : Type 0) (events all first : List Event) (cells : Cells) (spots : List Spot) : Type 0 where
  pub sound : is_sound
  pub spelled : IsTold plan n Spells spots
  pub tells : is_told
  pub fed : IsFed plan all
  pub more : List Event
  pub begins : events ≡ first ++ more
  pub stood : NodeStands plan n first cells (numbers_of spots)

-- Edges that moved: none went back, none is behind the end of the past, and over a sound past each spot that was spelled is spelled.
pub record EdgesMove (is_sound : Type 0) (Spells Later : Spot → Type 0) (count : ℕ) (old new : List Spot) : Type 0 where
  pub rises : (edge : ℕ) → slice_index_or (numbers_of old) edge 0 ≤ slice_index_or (numbers_of new) edge 0
  pub within : AreWithin new count
  pub spells : is_sound → (edge : ℕ) → IsSpelledAt Spells old edge → IsSpelledAt Later new edge

-- the event was appended; a refusal may come before that or behind it
abbrev pub Appends : {A : Type 0} → List Event → Event → List Event → Result A EngineFault → Type 0
Appends old event new (Ok _) = new ≡ old ++ event ∷ []
Appends old event new (Err _) = (new ≡ old) ⊎ (new ≡ old ++ event ∷ [])

-- whether a refusal ends the engine: each does, but that of a full past
abbrev pub is_ending : EngineFault → Bool
is_ending (fault.Past past.Full) = false
is_ending cause = true

-- whether an answer ends it
abbrev pub ends_by : {A : Type 0} → Result A EngineFault → Bool
ends_by (Ok _) = false
ends_by (Err cause) = is_ending cause
