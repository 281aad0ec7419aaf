-- When the rows of a checkpoint stand for events, node by node.
use Rattle.std.specs.Prelude.{ℕ, ◌<◌, ◌≤◌, ◌==◌, ◌&&◌, ◌^◌, bytes_eq, List, [], ◌∷◌, length, Option, Some, None, if◌then◌else◌}
use Rattle.rg_event.specs.Rising.{last_time}
use Rattle.rg_event.specs.declared.event.Event.{Event}
use Rattle.rg_agg.specs.Held.{Held}
use Rattle.rg_plan.specs.Named.{node_at}
use Rattle.rg_plan.specs.Plans.{Tasks}
use Rattle.rg_state.specs.Rows.{Entry}
use Rattle.rg_engine.specs.Feeding.{IsFed}
use Rattle.rg_engine.specs.Standing.{RowIs}

-- the row of a node and a key in a list of rows
abbrev pub row_in : List Entry → ℕ → List ℕ → Option Held
row_in [] n key = None
row_in (row ∷ rows) n key = if row.node == n && bytes_eq row.key key then Some row.held else row_in rows n key

-- The rows of a node stand for these events: for each key there is one exactly where the node has values for the key, at the
-- time of the last event, and it is of the node's function and stands for them. Of a node that the plan hasn't there is none.
abbrev pub AreRight : List Entry → Tasks → List Event → ℕ → Type 0
AreRight rows plan events n = (key : List ℕ) → RowIs (node_at plan n) key (last_time events) events (row_in rows n key)

-- the rows of each node do
abbrev pub AreAllRight : List Entry → Tasks → List Event → Type 0
AreAllRight rows plan events = (n : ℕ) → AreRight rows plan events n

-- this is the least node of which they don't
pub record IsLeastWrong (rows : List Entry) (plan : Tasks) (events : List Event) (n : ℕ) : Type 0 where
  pub wrong : AreRight rows plan events n → ⊥
  pub below : (m : ℕ) → m < n → AreRight rows plan events m

-- the events are of one schema, whose columns serve the plan, and few enough for a log
pub record AreServed (plan : Tasks) (events : List Event) : Type 0 where
  pub fed : IsFed plan events
  pub few : length events ≤ 2 ^ 40
