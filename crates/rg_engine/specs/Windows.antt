-- The values that a node's aggregator has for a key at a time, from scratch.
use Rattle.std.specs.Prelude.{ℕ, ◌&&◌, Bool, List, length, bytes_eq}
use Rattle.std.specs.List.{filter}
use Rattle.rg_event.specs.declared.event.Event.{Event}
use Rattle.rg_event.specs.declared.value.Value.{Value}
use Rattle.rg_metric.specs.Conditions.{passes}
use Rattle.rg_metric.specs.Replies.{in_window, key_of, values_in}
use Rattle.rg_group.specs.Keys.{key_bytes}
use Rattle.rg_plan.specs.Named.{Node}
use Rattle.rg_window.specs.Passing.{has_come}

-- x meets the node's condition and has this key
abbrev pub passes_at : Node → List ℕ → Event → Bool
passes_at node key x = passes node.condition x && bytes_eq (key_bytes (key_of node.columns x)) key

-- x meets the node's condition, has this key, and is in the node's window at time t
abbrev pub counts_at : Node → List ℕ → ℕ → Event → Bool
counts_at node key t x = in_window node.window x t && passes_at node key x

-- the values of these events for a node and a key at time t
abbrev pub node_values : Node → List ℕ → ℕ → List Event → List Value
node_values node key t events = values_in node.agg.field (filter (counts_at node key t) events)

-- how many of these events an edge of that offset has come to at time t
abbrev pub position : List Event → ℕ → ℕ → ℕ
position events t offset = length (filter (has_come offset t) events)
