-- The nodes of a plan as a tree: windows with conditions, below them columns, and below these aggregators with their nodes' numbers.
use Rattle.std.specs.Prelude.{◌≡◌, ℕ, ◌==◌, cond, Bool, true, false, List, [], ◌∷◌, map, flat_map, sum_by, slice_get, Option, Some, None}
use Rattle.rg_metric.specs.declared.query.Window.{Window}
use Rattle.rg_metric.specs.declared.query.Agg.{Agg}
use Rattle.rg_metric.specs.Conditions.{Test}
use Rattle.rg_plan.specs.declared.node.GroupNode.{GroupNode}
use Rattle.rg_plan.specs.declared.node.AggNode.{AggNode}
use Rattle.rg_plan.specs.Named.{Node, node_at}
use Rattle.rg_plan.specs.Nodes.{Filtered}
use Rattle.rg_plan.specs.Plans.{Tasks}
use Rattle.rg_engine.specs.declared.part.FilterPart.{FilterPart}
use Rattle.rg_engine.specs.declared.part.GroupPart.{GroupPart}
use Rattle.rg_engine.specs.declared.part.AggPart.{AggPart}
use Rattle.rg_engine.specs.Standing.{has_edge}

abbrev pub node_under : Window → Option Test → List ℕ → AggPart → Node
node_under window condition columns part = record { window = window; condition = condition; columns = columns; agg = part.agg }

abbrev pub node_if : Bool → Node → List Node
node_if true node = node ∷ []
node_if false node = []

-- the nodes of this number among some aggregators
abbrev pub agg_nodes : Window → Option Test → List ℕ → ℕ → List AggPart → List Node
agg_nodes window condition columns n aggs = flat_map (λ (part : AggPart). node_if (part.node == n) (node_under window condition columns part)) aggs

-- the nodes of this number among the aggregators of some lists of columns
abbrev pub group_nodes : Window → Option Test → ℕ → List GroupPart → List Node
group_nodes window condition n groups = flat_map (λ (part : GroupPart). agg_nodes window condition part.columns n part.aggs.items) groups

-- the nodes of this number in a tree
abbrev pub nodes_numbered : ℕ → List FilterPart → List Node
nodes_numbered n filters = flat_map (λ (part : FilterPart). group_nodes part.window part.filter n part.groups.items) filters

abbrev pub one_or_none : Option Node → List Node
one_or_none None = []
one_or_none (Some node) = node ∷ []

-- the window of each filter node, where it is there
abbrev pub windows_seen : Tasks → List (Option Window)
windows_seen plan = map (λ (filter : Filtered). slice_get plan.windows filter.window) plan.filters

-- the tree has each node of the plan once, under its number, and no other; and its windows are those of the filter nodes, in order
pub record ArePartsOf (plan : Tasks) (filters : List FilterPart) : Type 0 where
  pub nodes : (n : ℕ) → nodes_numbered n filters ≡ one_or_none (node_at plan n)
  pub windows : map (λ (part : FilterPart). Some part.window) filters ≡ windows_seen plan

-- how many of these windows have an edge at this offset
abbrev pub ticks_at : ℕ → List FilterPart → ℕ
ticks_at offset filters = sum_by (λ (part : FilterPart). cond (has_edge part.window offset) 1 0) filters

-- what is made of an element, where there is one
abbrev pub made_of : {A : Type 0} → (A → List Node) → Option A → List Node
made_of make None = []
made_of make (Some x) = make x

-- the node of an aggregator, where it is under this group node
abbrev pub agg_if : Window → Option Test → List ℕ → ℕ → AggNode → List Node
agg_if window condition columns number agg = node_if (agg.group == number) (record { window = window; condition = condition; columns = columns; agg = agg.agg })

-- the node of an aggregator in a group node, where that is under this filter node
abbrev pub group_if : Window → Option Test → ℕ → Agg → GroupNode → List Node
group_if window condition number agg group = node_if (group.filter == number) (record { window = window; condition = condition; columns = group.columns; agg = agg })

-- the node of that aggregator among such windows, filter nodes and group nodes
abbrev pub node_in_filter : List Window → List ℕ → Agg → Filtered → List Node
node_in_filter windows columns agg filter = made_of (λ (window : Window). record { window = window; condition = filter.condition; columns = columns; agg = agg } ∷ []) (slice_get windows filter.window)

abbrev pub node_in_group : List Window → List Filtered → Agg → GroupNode → List Node
node_in_group windows filters agg group = made_of (node_in_filter windows group.columns agg) (slice_get filters group.filter)

abbrev pub node_in_agg : List Window → List Filtered → List GroupNode → AggNode → List Node
node_in_agg windows filters groups agg = made_of (node_in_group windows filters agg.agg) (slice_get groups agg.group)
