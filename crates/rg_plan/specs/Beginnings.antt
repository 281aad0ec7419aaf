-- How queries begin: the window, then the condition, the columns of the key and an aggregator.
use Rattle.std.specs.Prelude.{◌≡◌, ℕ, ◌&&◌, Bool, bytes_eq, List, map, flat_map, Option}
use Rattle.rg_metric.specs.declared.query.Window.{Window}
use Rattle.rg_metric.specs.declared.query.Agg.{Agg}
use Rattle.rg_metric.specs.contracts.query.AggPartialEq.TheImpl.{ghosts as agg_ghosts}
use Rattle.rg_metric.specs.Conditions.{Test}
use Rattle.rg_metric.specs.Queries.{Asked}
use Rattle.rg_plan.specs.declared.node.GroupNode.{GroupNode}
use Rattle.rg_plan.specs.declared.node.AggNode.{AggNode}
use Rattle.rg_plan.specs.Same.{same_condition}
use Rattle.rg_plan.specs.Nodes.{Filtered, same_window, distinct, number_in}
use Rattle.rg_plan.specs.Plans.{Tasks}

pub record ToFilter : Type 0 where
  pub window : Window
  pub condition : Option Test

pub record ToGroup : Type 0 where
  pub filter : ToFilter
  pub columns : List ℕ

pub record ToAgg : Type 0 where
  pub group : ToGroup
  pub agg : Agg

abbrev pub same_to_filter : ToFilter → ToFilter → Bool
same_to_filter a b = same_window a.window b.window && same_condition a.condition b.condition

abbrev pub same_to_group : ToGroup → ToGroup → Bool
same_to_group a b = same_to_filter a.filter b.filter && bytes_eq a.columns b.columns

abbrev pub same_to_agg : ToAgg → ToAgg → Bool
same_to_agg a b = same_to_group a.group b.group && agg_ghosts.eq a.agg b.agg

abbrev pub to_filter : Asked → ToFilter
to_filter q = record { window = q.window; condition = q.filter }

abbrev pub to_group : Asked → ToGroup
to_group q = record { filter = to_filter q; columns = q.group }

abbrev pub to_agg : ToGroup → Agg → ToAgg
to_agg group agg = record { group = group; agg = agg }

abbrev pub to_aggs : Asked → List ToAgg
to_aggs q = map (to_agg (to_group q)) q.aggs

-- the distinct beginnings of some queries
abbrev pub filters_begun : List Asked → List ToFilter
filters_begun qs = distinct same_to_filter (map to_filter qs)

abbrev pub groups_begun : List Asked → List ToGroup
groups_begun qs = distinct same_to_group (map to_group qs)

abbrev pub aggs_begun : List Asked → List ToAgg
aggs_begun qs = distinct same_to_agg (flat_map to_aggs qs)

-- the node that a beginning ends at, under the number of the one before it
abbrev pub filter_at : List Window → ToFilter → Filtered
filter_at windows p = record { window = number_in same_window windows p.window; condition = p.condition }

abbrev pub group_at : List ToFilter → ToGroup → GroupNode
group_at filters p = record { filter = number_in same_to_filter filters p.filter; columns = p.columns }

abbrev pub agg_at : List ToGroup → ToAgg → AggNode
agg_at groups p = record { group = number_in same_to_group groups p.group; agg = p.agg }

-- the nodes of a plan are the distinct beginnings of some queries, in order of first use, each under the number of the one before it
pub record AreBegun (queries : List Asked) (plan : Tasks) : Type 0 where
  pub windows : plan.windows ≡ distinct same_window (map (λ (q : Asked). q.window) queries)
  pub filters : plan.filters ≡ map (filter_at plan.windows) (filters_begun queries)
  pub groups : plan.groups ≡ map (group_at (filters_begun queries)) (groups_begun queries)
  pub aggs : plan.aggs ≡ map (agg_at (groups_begun queries)) (aggs_begun queries)
