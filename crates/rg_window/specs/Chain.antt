-- Chains of visits. A step leads from a visitor before a call, by the edge, the event and the answer, to the visitor after it.
use Rattle.std.specs.Prelude.{◌≡◌, ℕ, ◌+◌, ◌<◌, List, [], ◌∷◌, ◌++◌, length, get_or, Result, Ok, Err, slice_index_or}
use Rattle.rg_event.specs.declared.event.Event.{Event}
use Rattle.rg_window.specs.Passing.{at_edge, edge_by_edge, passed}

-- these visits, each of them a step that was Ok, lead from one visitor to another
abbrev pub Visited : {V F : Type 0} → (V → ℕ → Event → Result Unit F → V → Type 0) → V → List (ℕ × Event) → V → Type 0
Visited step before [] after = before ≡ after
Visited {V} step before (visit ∷ visits) after = (between : V) × step before visit.0 visit.1 (Ok tt) between × Visited step between visits after

-- the events that one of these edges visited
abbrev pub visited_at : List (List Event) → ℕ → List Event
visited_at passes edge = get_or passes edge []

-- the events that an edge of these offsets passes which stand at these numbers
abbrev pub passed_at : List Event → ℕ → List ℕ → List ℕ → ℕ → List Event
passed_at events t offsets numbers edge = passed events t (slice_index_or offsets edge 0) (slice_index_or numbers edge 0)

-- one edge visited some events and went on by one for each; where they are told, they are the front of all, and the rest is still to come
pub record Went {V F : Type 0} (step : V → ℕ → Event → Result Unit F → V → Type 0) (edge : ℕ) (before after : V) (old new : ℕ) (told : Type 0) (all rest : List Event) : Type 0 where
  pub events : List Event
  pub chain : Visited step before (at_edge edge events) after
  pub number : new ≡ old + length events
  pub known : told → all ≡ events ++ rest

-- an edge passed these events in order, then the visit to one event more was refused, and the edge stands there
pub record Refused {V F : Type 0} (step : V → ℕ → Event → Result Unit F → V → Type 0) (edge : ℕ) (before after : V) (old new : ℕ) (told : Type 0) (all : List Event) (fault : F) : Type 0 where
  pub events : List Event
  pub last : Event
  pub between : V
  pub chain : Visited step before (at_edge edge events) between
  pub refused : step between edge last (Err fault) after
  pub number : new ≡ old + length events
  pub known : told → (rest : List Event) × (all ≡ events ++ last ∷ rest)

-- Edges of these offsets went from their old numbers to the new ones, edge by edge, each by one for each event that it visited, and the edges from
-- `end` on didn't move. Of each edge by itself: where what it passes is told, an edge before `end` visited just that.
pub record Moved {V F : Type 0} (step : V → ℕ → Event → Result Unit F → V → Type 0) (before after : V) (offsets : List ℕ) (t : ℕ) (old new : List ℕ) (told : ℕ → Type 0) (events : List Event) (end : ℕ) : Type 0 where
  -- what each edge before `end` visited
  pub passes : List (List Event)
  pub same : length passes ≡ end
  pub chain : Visited step before (edge_by_edge 0 passes) after
  pub counts : (edge : ℕ) → slice_index_or new edge 0 ≡ slice_index_or old edge 0 + length (visited_at passes edge)
  pub known : (edge : ℕ) → edge < end → told edge → visited_at passes edge ≡ passed_at events t offsets old edge

-- The edges before `end` passed what they should, `end` visited some events and stopped, and those behind it didn't
-- move; where what `end` passes is told, the events
-- visited are the front of that, and the rest is still to come.
pub record Halfway {V F : Type 0} (step : V → ℕ → Event → Result Unit F → V → Type 0) (before after : V) (offsets : List ℕ) (t : ℕ) (old new : List ℕ) (told : ℕ → Type 0) (events : List Event) (end : ℕ) : Type 0 where
  pub passes : List (List Event)
  pub same : length passes ≡ end
  pub some : List Event
  pub chain : Visited step before (edge_by_edge 0 passes ++ at_edge end some) after
  pub counts : (edge : ℕ) → slice_index_or new edge 0 ≡ slice_index_or old edge 0 + length (visited_at (passes ++ some ∷ []) edge)
  pub known : (edge : ℕ) → edge < end → told edge → visited_at passes edge ≡ passed_at events t offsets old edge
  pub front : told end → (rest : List Event) × (passed_at events t offsets old end ≡ some ++ rest)

-- The edges before `end` passed what they should, the visit of the edge `end` to one event more was refused, it stands
-- there, and those behind it didn't move.
pub record Halted {V F : Type 0} (step : V → ℕ → Event → Result Unit F → V → Type 0) (before after : V) (offsets : List ℕ) (t : ℕ) (old new : List ℕ) (told : ℕ → Type 0) (events : List Event) (end : ℕ) (fault : F) : Type 0 where
  pub passes : List (List Event)
  pub same : length passes ≡ end
  pub some : List Event
  pub last : Event
  pub between : V
  pub chain : Visited step before (edge_by_edge 0 passes ++ at_edge end some) between
  pub refused : step between end last (Err fault) after
  pub counts : (edge : ℕ) → slice_index_or new edge 0 ≡ slice_index_or old edge 0 + length (visited_at (passes ++ some ∷ []) edge)
  pub known : (edge : ℕ) → edge < end → told edge → visited_at passes edge ≡ passed_at events t offsets old edge
  pub front : told end → (rest : List Event) × (passed_at events t offsets old end ≡ some ++ last ∷ rest)
