-- How many events the edges of a plan pass from a front of the events to all of them.
use Rattle.std.specs.Prelude.{◌≡◌, ℕ, ◌-◌, List, Option, Some, None, slice_get, sum_by, if◌then◌else◌}
use Rattle.rg_event.specs.declared.event.Event.{Event}
use Rattle.rg_metric.specs.declared.query.Window.{Window}
use Rattle.rg_event.specs.Rising.{last_time}
use Rattle.rg_plan.specs.Nodes.{Filtered}
use Rattle.rg_plan.specs.Plans.{Tasks}
use Rattle.rg_engine.specs.Windows.{position}
use Rattle.rg_engine.specs.Standing.{has_edge, IsAtPosition}

-- each edge of the plan is at its position in these events
abbrev pub AreAtPositions : Tasks → List Event → List ℕ → Type 0
AreAtPositions plan events numbers = (edge offset : ℕ) → slice_get plan.offsets edge ≡ Some offset → IsAtPosition events numbers edge offset

-- by the edge of an offset, each time at the time of the last event
abbrev pub edge_passed : List Event → List Event → ℕ → ℕ
edge_passed front events offset = position events (last_time events) offset - position front (last_time front) offset

-- by the edges of a window, one at each of its offsets
abbrev pub window_passed : Option Window → List ℕ → List Event → List Event → ℕ
window_passed None offsets front events = 0
window_passed (Some window) offsets front events = sum_by (λ offset. if has_edge window offset then edge_passed front events offset else 0) offsets

-- for each filter node by the edges of its window, in all
abbrev pub passed_count : Tasks → List Event → List Event → ℕ
passed_count plan front events = sum_by (λ (filter : Filtered). window_passed (slice_get plan.windows filter.window) plan.offsets front events) plan.filters
