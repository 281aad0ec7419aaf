-- When rows, and a checkpoint, are true of the first of some events.
use Rattle.std.specs.Prelude.{◌≡◌, ℕ, ◌≤◌, List, ◌++◌, length, take, map, All}
use Rattle.rg_event.specs.Rising.{last_time}
use Rattle.rg_event.specs.declared.event.Event.{Event}
use Rattle.rg_past.specs.declared.past.Spot.{Spot}
use Rattle.rg_plan.specs.Named.{node_at}
use Rattle.rg_plan.specs.Plans.{Tasks}
use Rattle.rg_state.specs.Rows.{Cells, Entry, Lists}
use Rattle.rg_window.specs.Placed.{numbers_of}
use Rattle.rg_engine.specs.Standing.{RowIs, IsTold, NodeStands}
use Rattle.rg_engine.specs.Windows.{position}
use Rattle.rg_checkpoint.specs.declared.base.Checkpoint.{Checkpoint}

-- a table's rows stand for these events: a node of the plan has a row for a key exactly where it has values for the key, and that row is of the node's
-- function and stands for them; there are no other rows, of other nodes either
abbrev pub StandsFor : Tasks → List Event → Cells → Type 0
StandsFor plan events cells = (n : ℕ) (key : List ℕ) → RowIs (node_at plan n) key (last_time events) events (cells n key)

-- rows in a list, which rise by node and key, stand for these events
pub record AreRowsFor (rows : List Entry) (plan : Tasks) (events : List Event) : Type 0 where
  pub cells : Cells
  pub lists : Lists cells rows
  pub stand : StandsFor plan events cells

-- one node by itself: its rows in a list stand for these events, and the edges of its window are at their positions
pub record IsNodeFor (rows : List Entry) (plan : Tasks) (n : ℕ) (events : List Event) (numbers : List ℕ) : Type 0 where
  pub cells : Cells
  pub lists : Lists cells rows
  pub stands : NodeStands plan n events cells numbers

-- how many of these events an edge of that offset has come to
abbrev pub position_in : List Event → ℕ → ℕ
position_in events offset = position events (last_time events) offset

-- there is a spot for each offset, each is spelled, and each is at the position of its offset in these events
pub record SpotsAt (Spells : Spot → Type 0) (offsets : List ℕ) (events : List Event) (spots : List Spot) : Type 0 where
  pub numbers : numbers_of spots ≡ map (position_in events) offsets
  pub spelled : All Spells spots

-- a checkpoint is true of these events: it is of so many of the first ones, its spots are at their positions in those, and its rows stand for those
pub record IsTruthful (Spells : Spot → Type 0) (plan : Tasks) (events : List Event) (checkpoint : Checkpoint) : Type 0 where
  pub within : checkpoint.count ≤ length events
  pub spots : SpotsAt Spells plan.offsets (take checkpoint.count events) checkpoint.spots
  pub rows : AreRowsFor checkpoint.rows plan (take checkpoint.count events)

-- an engine stands for these events: its rows do, and its edges are at their positions, at spots that are spelled
pub record EngineStands (Spells : Spot → Type 0) (plan : Tasks) (events : List Event) (cells : Cells) (at : List Spot) : Type 0 where
  pub rows : StandsFor plan events cells
  pub spots : SpotsAt Spells plan.offsets events at

-- one node of an engine stands for these events: its rows do, and the edges of its window are at their positions, at spots that are spelled
pub record NodeGoes (Spells : Spot → Type 0) (plan : Tasks) (n : ℕ) (events : List Event) (cells : Cells) (at : List Spot) : Type 0 where
  pub told : IsTold plan n Spells at
  pub stands : NodeStands plan n events cells (numbers_of at)

-- one node of a checkpoint is true of these events: the spots of its window's edges are spelled, and they and its rows stand for some of the first ones
pub record NodeIsTrue (Spells : Spot → Type 0) (plan : Tasks) (n : ℕ) (events : List Event) (checkpoint : Checkpoint) : Type 0 where
  pub front : List Event
  pub more : List Event
  pub is : events ≡ front ++ more
  pub told : IsTold plan n Spells checkpoint.spots
  pub stands : IsNodeFor checkpoint.rows plan n front (numbers_of checkpoint.spots)
