-- What is told of an engine that went on from rows and spots to the end of a past.
use Rattle.std.specs.Prelude.{◌≡◌, ℕ, ◌+◌, List, ◌++◌, length, All}
use Rattle.rg_event.specs.Rising.{last_time}
use Rattle.rg_event.specs.declared.event.Event.{Event}
use Rattle.rg_past.specs.declared.past.Spot.{Spot}
use Rattle.rg_plan.specs.Plans.{Tasks}
use Rattle.rg_state.specs.Changes.{Marks}
use Rattle.rg_state.specs.Keeping.{TableKept}
use Rattle.rg_state.specs.Rows.{Cells}
use Rattle.rg_window.specs.Placed.{numbers_of}
use Rattle.rg_engine.specs.Passed.{passed_count}
use Rattle.rg_engine.specs.Seen.{Seen}
use Rattle.rg_engine.specs.Since.{KeepsSince}
use Rattle.rg_engine.specs.Standing.{IsTold, NodeStands, come}
use Rattle.rg_restore.specs.Opening.{CanStand, IsGoing}
use Rattle.rg_restore.specs.Truthful.{StandsFor, SpotsAt, EngineStands}

module _ {T : Type 0} (Tells : T → Type 0) (faults : T → ℕ) (named there : T → Marks) (cells : T → Cells) (is_sound : Type 0) (Spells Later : Spot → Type 0) (events then : List Event) (plan : Tasks) (spots : List Spot) (last : ℕ) (table : T) where
  -- a node's rows and the edges of its window stand for the first of the events
  pub record NodeStood (n : ℕ) : Type 0 where
    pub can : CanStand is_sound (Tells table) plan events
    pub front : List Event
    pub more : List Event
    pub is : events ≡ front ++ more
    pub told : IsTold plan n Spells spots
    pub stands : NodeStands plan n front (cells table) (numbers_of spots)

  -- The engine was made of this table and these spots, and its edges moved on to the last of the events.
  pub record HasGoneOn (before after : ℕ) (engine : Seen T) : Type 0 where
    pub stands : (front more : List Event) → CanStand is_sound (Tells table) plan events → last_time events ≡ last → events ≡ front ++ more → StandsFor plan front (cells table) → SpotsAt Spells plan.offsets front spots → EngineStands Later plan then (cells engine.table) engine.spots
    pub node : (n : ℕ) → last_time events ≡ last → NodeStood n → NodeStands plan n then (cells engine.table) (numbers_of engine.spots)
    pub told : (n : ℕ) → is_sound → IsTold plan n Spells spots → IsTold plan n Later engine.spots
    pub spelled : is_sound → All Spells spots → All Later engine.spots
    pub ticks : after + come plan (numbers_of spots) ≡ before + come plan (numbers_of engine.spots)
    pub passed : (front more : List Event) → is_sound → last_time events ≡ last → events ≡ front ++ more → SpotsAt Spells plan.offsets front spots → after ≡ before + passed_count plan front then
    pub engine_goes : IsGoing plan (length then) engine
    pub since : KeepsSince Tells named there cells table engine.table
    pub table_kept : TableKept Tells faults table engine.table
