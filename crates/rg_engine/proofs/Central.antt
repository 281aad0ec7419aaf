-- From the values of a node at one time to those at a later one.
use Rattle.std.proofs.Common.{◌≡◌, ℕ, ◌≤◌, ◌<◌, List, ◌∷◌, ◌++◌, length}
use Rattle.rg_event.specs.declared.event.Event.{Event}
use Rattle.rg_event.specs.declared.value.Value.{Value}
use Rattle.rg_event.specs.Rising.{last_time}
use Rattle.rg_plan.specs.Named.{Node}
use Rattle.rg_window.specs.Passing.{at_edge, edge_by_edge}
use Rattle.rg_engine.specs.Windows.{node_values}
use Rattle.rg_engine.specs.Deeds.{edge_deed, Leads}
use Rattle.rg_engine.specs.Edges.{Starts, VisitsBefore, VisitsInto}
use Rattle.rg_engine.proofs.Onward.{leads_later, leads_halfway}

-- visits of all the edges lead from the values at the last time to those at time t
pub node_leads : (node : Node) (key : List ℕ) (front more : List Event) (t : ℕ) (offsets numbers : List ℕ) (passes : List (List Event)) →
    Starts node front more offsets numbers → last_time front ≤ t → length passes ≡ length offsets → VisitsBefore node (front ++ more) t offsets numbers passes (length offsets) →
    Leads (edge_deed node key offsets) (edge_by_edge 0 passes) (node_values node key t (front ++ more)) (node_values node key (last_time front) front)
node_leads node key front more t offsets numbers passes starts later same known = leads_later node front more t offsets numbers starts key passes same known later

-- visits of some of the edges are the beginning of visits that lead on, at any time
pub node_halfway : (node : Node) (key : List ℕ) (front more : List Event) (t : ℕ) (offsets numbers : List ℕ) (passes : List (List Event)) (end : ℕ) (some : List Event) (last : Event) →
    Starts node front more offsets numbers → length passes ≡ end → end < length offsets → VisitsBefore node (front ++ more) t offsets numbers passes end → VisitsInto node (front ++ more) t offsets numbers end some last →
    (rest : List (ℕ × Event)) × (after : List Value) × Leads (edge_deed node key offsets) ((edge_by_edge 0 passes ++ at_edge end some) ++ (end, last) ∷ rest) after (node_values node key (last_time front) front)
node_halfway node key front more t offsets numbers passes end some last starts same within known into = leads_halfway node front more t offsets numbers starts key passes end some last same within known into
