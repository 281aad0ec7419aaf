-- The nodes of a plan, and how they are numbered.
use Rattle.std.specs.Prelude.{ℕ, ◌&&◌, Bool, nat_eq, bytes_eq, List, [], ◌∷◌, ◌++◌, fold, Option, if◌then◌else◌}
use Rattle.std.specs.List.{list_any, position_or_len}
use Rattle.rg_metric.specs.declared.query.Window.{Window}
use Rattle.rg_metric.specs.contracts.query.WindowPartialEq.TheImpl.{ghosts as window_ghosts}
use Rattle.rg_metric.specs.contracts.query.AggPartialEq.TheImpl.{ghosts as agg_ghosts}
use Rattle.rg_metric.specs.Conditions.{Test}
use Rattle.rg_metric.specs.Queries.{filter_test}
use Rattle.rg_plan.specs.Same.{same_condition}
use Rattle.rg_plan.specs.declared.node.FilterNode.{FilterNode}
use Rattle.rg_plan.specs.declared.node.GroupNode.{GroupNode}
use Rattle.rg_plan.specs.declared.node.AggNode.{AggNode}

-- a filter node with its condition as a tree
pub record Filtered : Type 0 where
  pub window : ℕ
  pub condition : Option Test

abbrev pub filtered : FilterNode → Filtered
filtered node = record { window = node.window; condition = filter_test node.condition }

abbrev pub same_window : Window → Window → Bool
same_window = window_ghosts.eq

abbrev pub same_filter : Filtered → Filtered → Bool
same_filter a b = nat_eq a.window b.window && same_condition a.condition b.condition

abbrev pub same_group : GroupNode → GroupNode → Bool
same_group a b = nat_eq a.filter b.filter && bytes_eq a.columns b.columns

abbrev pub same_agg : AggNode → AggNode → Bool
same_agg a b = nat_eq a.group b.group && agg_ghosts.eq a.agg b.agg

module _ {K : Type 0} (same : K → K → Bool) where
  -- with one more use: an equal member stays, and a new one goes last
  abbrev pub with_use : List K → K → List K
  with_use members item = if list_any (λ member. same member item) members then members else members ++ item ∷ []

  -- each member once, in order of first use
  abbrev pub distinct : List K → List K
  distinct uses = fold with_use [] uses

  -- the number of the member that is equal, counted from 0
  abbrev pub number_in : List K → K → ℕ
  number_in members item = position_or_len (λ member. same member item) members
