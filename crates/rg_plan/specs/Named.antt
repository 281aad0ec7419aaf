-- What a node of a plan stands for: an aggregator with all that is above it.
use Rattle.std.specs.Prelude.{◌≡◌, ℕ, ◌<◌, length, List, [], ◌∷◌, map, option_map, option_and_then, slice_get, Option, Some, None, All}
use Rattle.rg_metric.specs.declared.query.Window.{Window}
use Rattle.rg_metric.specs.declared.query.Agg.{Agg}
use Rattle.rg_metric.specs.Conditions.{Test}
use Rattle.rg_metric.specs.Queries.{Asked}
use Rattle.rg_plan.specs.declared.node.GroupNode.{GroupNode}
use Rattle.rg_plan.specs.declared.node.AggNode.{AggNode}
use Rattle.rg_plan.specs.Nodes.{Filtered}
use Rattle.rg_plan.specs.Offsets.{IsMeasured}
use Rattle.rg_plan.specs.Plans.{Tasks, plan_for, excess}

-- an aggregator over the events of a window that meet a condition and share the values of some columns
pub record Node : Type 0 where
  pub window : Window
  pub condition : Option Test
  pub columns : List ℕ
  pub agg : Agg

abbrev pub under_filter : Tasks → GroupNode → Agg → Filtered → Option Node
under_filter plan group agg filter = option_map (λ window. record { window = window; condition = filter.condition; columns = group.columns; agg = agg }) (slice_get plan.windows filter.window)

abbrev pub under_group : Tasks → Agg → GroupNode → Option Node
under_group plan agg group = option_and_then (under_filter plan group agg) (slice_get plan.filters group.filter)

abbrev pub under_agg : Tasks → AggNode → Option Node
under_agg plan node = option_and_then (under_group plan node.agg) (slice_get plan.groups node.group)

-- the aggregator of that number, with all that is above it, where there is one
abbrev pub node_at : Tasks → ℕ → Option Node
node_at plan number = option_and_then (under_agg plan) (slice_get plan.aggs number)

-- the aggregators of a query, in order
abbrev pub node_of : Asked → Agg → Node
node_of q agg = record { window = q.window; condition = q.filter; columns = q.group; agg = agg }

abbrev pub nodes_of : Asked → List (Option Node)
nodes_of q = map (λ agg. Some (node_of q agg)) q.aggs

-- the aggregator of that number of the query of that number, both counted from 0, where there is one
abbrev pub asked_agg : List Asked → ℕ → ℕ → Option Agg
asked_agg queries query agg = option_and_then (λ (q : Asked). slice_get q.aggs agg) (slice_get queries query)

-- the node of that aggregator, with the window, condition and columns above it
abbrev pub asked_node : List Asked → ℕ → ℕ → Option (Option Node)
asked_node queries query agg = option_and_then (λ (q : Asked). slice_get (nodes_of q) agg) (slice_get queries query)

-- the plan of some queries, few enough and with windows of at most 10^15 milliseconds
pub record IsMade (plan : Tasks) : Type 0 where
  pub queries : List Asked
  pub measured : All (λ (q : Asked). IsMeasured q.window) queries
  pub within : excess queries ≡ None
  pub is : plan ≡ plan_for queries

-- The queries of a plan, read back from its paths. A query without aggregators leaves no trace there: it is read back as one that asks nothing.

abbrev pub aggs_named : List (Option Node) → List Agg
aggs_named [] = []
aggs_named (None ∷ nodes) = aggs_named nodes
aggs_named (Some node ∷ nodes) = node.agg ∷ aggs_named nodes

abbrev pub nothing_asked : Asked
nothing_asked = record { aggs = []; filter = None; group = []; window = record { delay = 0; length = None } }

abbrev pub asked_from : List (Option Node) → Asked
asked_from [] = nothing_asked
asked_from (None ∷ nodes) = nothing_asked
asked_from (Some node ∷ nodes) = record { aggs = node.agg ∷ aggs_named nodes; filter = node.condition; group = node.columns; window = node.window }

abbrev pub asked_by : Tasks → List Asked
asked_by plan = map (λ path. asked_from (map (node_at plan) path)) plan.paths

-- each query has an aggregator
abbrev pub HasAgg : Asked → Type 0
HasAgg q = 0 < length q.aggs
