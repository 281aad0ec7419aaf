-- The events that edges pass.
use Rattle.std.specs.Prelude.{◌≡◌, ℕ, ◌+◌, nat_le, Bool, cond, List, [], ◌∷◌, ◌++◌, length, drop, slice_index_or}
use Rattle.rg_event.specs.declared.event.Event.{Event}

-- at time t an edge of that offset has come to the event
abbrev pub has_come : ℕ → ℕ → Event → Bool
has_come offset t event = nat_le (event.time + offset) t

-- the events from the front on that it has come to
abbrev pub passing : ℕ → ℕ → List Event → List Event
passing offset t [] = []
passing offset t (event ∷ events) = cond (has_come offset t event) (event ∷ passing offset t events) []

-- the events that an edge passes which stands at that number
abbrev pub passed : List Event → ℕ → ℕ → ℕ → List Event
passed events t offset number = passing offset t (drop number events)

-- where it then stands: at the first event from there on that it hasn't come to, or at the end
abbrev pub reach : List Event → ℕ → ℕ → ℕ → ℕ
reach events t offset number = number + length (passed events t offset number)

-- an edge's visits to these events
abbrev pub at_edge : ℕ → List Event → List (ℕ × Event)
at_edge edge [] = []
at_edge edge (event ∷ events) = (edge, event) ∷ at_edge edge events

-- the visits of some edges, the first of which has this index: edge by edge, to the events of each
abbrev pub edge_by_edge : ℕ → List (List Event) → List (ℕ × Event)
edge_by_edge edge [] = []
edge_by_edge edge (events ∷ passes) = at_edge edge events ++ edge_by_edge (edge + 1) passes

-- the edge of that index went from its old number to where it stands at time t
abbrev pub Reaches : List Event → ℕ → List ℕ → List ℕ → List ℕ → ℕ → Type 0
Reaches events t offsets old new edge = slice_index_or new edge 0 ≡ reach events t (slice_index_or offsets edge 0) (slice_index_or old edge 0)
