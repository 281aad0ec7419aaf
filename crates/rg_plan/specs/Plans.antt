-- The plan of some queries: what they share where they begin alike.
use Rattle.std.specs.Prelude.{ℕ, ◌+◌, ◌||◌, Bool, nat_lt, nat_le, List, [], ◌∷◌, length, map, flat_map, slice_get, Option, Some, None, if◌then◌else◌}
use Rattle.rg_metric.specs.declared.query.Window.{Window}
use Rattle.rg_metric.specs.declared.query.Agg.{Agg}
use Rattle.rg_metric.specs.Queries.{Asked}
use Rattle.rg_plan.specs.declared.node.GroupNode.{GroupNode}
use Rattle.rg_plan.specs.declared.node.AggNode.{AggNode}
use Rattle.rg_plan.specs.declared.fault.PlanFault.{PlanFault}
use Rattle.rg_plan.specs.declared.fault.PlanFault.TheVariants.{TooMany, Memory}
use Rattle.rg_plan.specs.Nodes.{Filtered, same_window, same_filter, same_group, same_agg, distinct, number_in}
use Rattle.rg_plan.specs.Offsets.{offsets_of, rising}

-- the node of a query at each level, its number above being that among these nodes
abbrev pub filter_under : List Window → Asked → Filtered
filter_under windows q = record { window = number_in same_window windows q.window; condition = q.filter }

abbrev pub group_under : List Window → List Filtered → Asked → GroupNode
group_under windows filters q = record { filter = number_in same_filter filters (filter_under windows q); columns = q.group }

abbrev pub group_number : List Window → List Filtered → List GroupNode → Asked → ℕ
group_number windows filters groups q = number_in same_group groups (group_under windows filters q)

abbrev pub agg_under : ℕ → Agg → AggNode
agg_under group agg = record { group = group; agg = agg }

abbrev pub aggs_under : ℕ → List Agg → List AggNode
aggs_under group aggs = map (agg_under group) aggs

abbrev pub aggs_in : List Window → List Filtered → List GroupNode → Asked → List AggNode
aggs_in windows filters groups q = aggs_under (group_number windows filters groups q) q.aggs

-- the numbers of these aggregators' nodes
abbrev pub path_among : List AggNode → List AggNode → List ℕ
path_among aggs uses = map (number_in same_agg aggs) uses

abbrev pub path_in : List Window → List Filtered → List GroupNode → List AggNode → Asked → List ℕ
path_in windows filters groups aggs q = path_among aggs (aggs_in windows filters groups q)

-- the nodes of some queries, each once, in order of first use
abbrev pub windows_of : List Asked → List Window
windows_of qs = distinct same_window (map (λ (q : Asked). q.window) qs)

abbrev pub filters_of : List Asked → List Filtered
filters_of qs = distinct same_filter (map (filter_under (windows_of qs)) qs)

abbrev pub groups_of : List Asked → List GroupNode
groups_of qs = distinct same_group (map (group_under (windows_of qs) (filters_of qs)) qs)

abbrev pub aggs_of : List Asked → List AggNode
aggs_of qs = distinct same_agg (flat_map (aggs_in (windows_of qs) (filters_of qs) (groups_of qs)) qs)

abbrev pub paths_of : List Asked → List (List ℕ)
paths_of qs = map (path_in (windows_of qs) (filters_of qs) (groups_of qs) (aggs_of qs)) qs

-- the node of an aggregator of a query, where there is such an aggregator
abbrev pub node_in : Option (List ℕ) → ℕ → Option ℕ
node_in None agg = None
node_in (Some path) agg = slice_get path agg

abbrev pub path_at : List (List ℕ) → ℕ → ℕ → Option ℕ
path_at paths query agg = node_in (slice_get paths query) agg

abbrev pub all_offsets : List Asked → List ℕ
all_offsets qs = rising (flat_map offsets_of (windows_of qs))

-- a query has too many parts, or too many stand before it
abbrev pub is_too_many : ℕ → Asked → Bool
is_too_many index q = nat_le 64 index || (nat_lt 16 (length q.aggs) || nat_lt 8 (length q.group))

-- the number of the first such query, these being counted on from a number
abbrev pub excess_from : ℕ → List Asked → Option ℕ
excess_from index [] = None
excess_from index (q ∷ qs) = if is_too_many index q then Some index else excess_from (index + 1) qs

abbrev pub excess : List Asked → Option ℕ
excess qs = excess_from 0 qs

-- why the queries are refused
abbrev pub fault_of : Option ℕ → PlanFault
fault_of None = Memory
fault_of (Some query) = TooMany query

-- a plan as plain data
pub record Tasks : Type 0 where
  pub offsets : List ℕ
  pub windows : List Window
  pub filters : List Filtered
  pub groups : List GroupNode
  pub aggs : List AggNode
  pub paths : List (List ℕ)

-- the plan of some queries
abbrev pub plan_for : List Asked → Tasks
plan_for qs = record {
  offsets = all_offsets qs;
  windows = windows_of qs;
  filters = filters_of qs;
  groups = groups_of qs;
  aggs = aggs_of qs;
  paths = paths_of qs;
}
