-- What the rows and edges of an engine stand for.
use Rattle.std.specs.Prelude.{◌≡◌, ℕ, ◌+◌, ◌==◌, ◌||◌, Bool, true, false, List, [], ◌∷◌, Option, Some, None, slice_get, slice_index_or, sum_by, if◌then◌else◌}
use Rattle.rg_event.specs.declared.event.Event.{Event}
use Rattle.rg_metric.specs.declared.query.Window.{Window}
use Rattle.rg_past.specs.declared.past.Spot.{Spot}
use Rattle.rg_event.specs.Rising.{last_time}
use Rattle.rg_agg.specs.Held.{Held}
use Rattle.rg_plan.specs.Named.{Node, node_at}
use Rattle.rg_plan.specs.Nodes.{Filtered}
use Rattle.rg_plan.specs.Plans.{Tasks}
use Rattle.rg_state.specs.Rows.{Cells, RowStands}
use Rattle.rg_window.specs.Placed.{IsSpelledAt}
use Rattle.rg_engine.specs.Windows.{node_values, position}

-- the row of a node and a key: of no node there is none
abbrev pub RowIs : Option Node → List ℕ → ℕ → List Event → Option Held → Type 0
RowIs None key t events row = row ≡ None
RowIs (Some node) key t events row = RowStands node.agg.func row (node_values node key t events)

-- events leave the window at this offset
abbrev pub leaves_at : Window → Option ℕ → ℕ → Bool
leaves_at window None offset = false
leaves_at window (Some length) offset = window.delay + length == offset

-- events enter or leave the window at this offset
abbrev pub has_edge : Window → ℕ → Bool
has_edge window offset = (window.delay == offset) || leaves_at window window.length offset

-- events enter or leave the node's window at this offset
abbrev pub HasEdge : Option Node → ℕ → Type 0
HasEdge None offset = ⊥
HasEdge (Some node) offset = has_edge node.window offset ≡ true

-- each edge of the node's window stands at a spot that is spelled
abbrev pub IsTold : Tasks → ℕ → (Spot → Type 0) → List Spot → Type 0
IsTold plan n Spells spots = (edge offset : ℕ) → slice_get plan.offsets edge ≡ Some offset → HasEdge (node_at plan n) offset → IsSpelledAt Spells spots edge

-- the edge of that index is where one of that offset stands at the time of the last event
abbrev pub IsAtPosition : List Event → List ℕ → ℕ → ℕ → Type 0
IsAtPosition events numbers edge offset = slice_index_or numbers edge 0 ≡ position events (last_time events) offset

-- one node by itself: its rows, by key, stand for these events, and each edge of its window is at its position
pub record NodeStands (plan : Tasks) (n : ℕ) (events : List Event) (cells : Cells) (numbers : List ℕ) : Type 0 where
  pub rows : (key : List ℕ) → RowIs (node_at plan n) key (last_time events) events (cells n key)
  pub places : (edge offset : ℕ) → slice_get plan.offsets edge ≡ Some offset → HasEdge (node_at plan n) offset → IsAtPosition events numbers edge offset

-- how far the edges of offsets that are a window's have come, in all
abbrev pub edges_come : Window → List ℕ → List ℕ → ℕ
edges_come window [] numbers = 0
edges_come window (offset ∷ offsets) [] = 0
edges_come window (offset ∷ offsets) (number ∷ numbers) = (if has_edge window offset then number else 0) + edges_come window offsets numbers

abbrev pub window_come : Option Window → List ℕ → List ℕ → ℕ
window_come None offsets numbers = 0
window_come (Some window) offsets numbers = edges_come window offsets numbers

-- how far the edges of each filter node's window have come, in all
abbrev pub come : Tasks → List ℕ → ℕ
come plan numbers = sum_by (λ (filter : Filtered). window_come (slice_get plan.windows filter.window) plan.offsets numbers) plan.filters
