-- What holds of every plan that is made.
use Rattle.std.specs.Prelude.{◌≡◌, ℕ, ◌+◌, ◌<◌, ◌≤◌, ◌^◌, List, length, slice_get, Some, All}
use Rattle.rg_metric.specs.declared.query.Window.{Window}
use Rattle.rg_plan.specs.declared.node.GroupNode.{GroupNode}
use Rattle.rg_plan.specs.declared.node.AggNode.{AggNode}
use Rattle.rg_plan.specs.Nodes.{Filtered}
use Rattle.rg_plan.specs.Offsets.{offsets_of, AreRising, IsMeasured}
use Rattle.rg_plan.specs.Plans.{Tasks}
use Rattle.rg_plan.specs.Named.{Node, node_at}

-- no member stands at two places
abbrev pub StandsOnce : {A : Type 0} → List A → Type 0
StandsOnce {A} members = (i j : ℕ) (member : A) → slice_get members i ≡ Some member → slice_get members j ≡ Some member → i ≡ j

-- one of the offsets is this one
abbrev pub HasOffset : List ℕ → ℕ → Type 0
HasOffset offsets offset = (edge : ℕ) × (slice_get offsets edge ≡ Some offset)

-- one of these windows has this offset
pub record IsOffsetOf (windows : List Window) (offset : ℕ) : Type 0 where
  pub number : ℕ
  pub window : Window
  pub there : slice_get windows number ≡ Some window
  pub has : HasOffset (offsets_of window) offset

pub record IsWhole (plan : Tasks) : Type 0 where
  -- each node is there once
  pub windows_once : StandsOnce plan.windows
  pub filters_once : StandsOnce plan.filters
  pub groups_once : StandsOnce plan.groups
  pub aggs_once : StandsOnce plan.aggs
  -- the offsets rise, those of each window are among them, and there are no others
  pub rising : AreRising plan.offsets
  pub windows_in : (number : ℕ) (window : Window) → slice_get plan.windows number ≡ Some window
      → HasOffset plan.offsets window.delay × ((length : ℕ) → window.length ≡ Some length → HasOffset plan.offsets (window.delay + length))
  pub only : (edge offset : ℕ) → slice_get plan.offsets edge ≡ Some offset → IsOffsetOf plan.windows offset
  -- each node's window is one of those, so its offsets are there too
  pub enters : (number : ℕ) (node : Node) → node_at plan number ≡ Some node → HasOffset plan.offsets node.window.delay
  pub leaves : (number : ℕ) (node : Node) (length : ℕ) → node_at plan number ≡ Some node → node.window.length ≡ Some length → HasOffset plan.offsets (node.window.delay + length)
  -- there are few enough of each that a number of 32 bits counts them, and windows are measured
  pub few_offsets : length plan.offsets < 2 ^ 32
  pub few_windows : length plan.windows < 2 ^ 32
  pub few_filters : length plan.filters < 2 ^ 32
  pub few_groups : length plan.groups < 2 ^ 32
  pub few_aggs : length plan.aggs < 2 ^ 32
  pub few_queries : length plan.paths ≤ 64
  pub measured : All IsMeasured plan.windows
  -- each number is that of a node
  pub filters : All (λ (filter : Filtered). filter.window < length plan.windows) plan.filters
  pub groups : All (λ (group : GroupNode). group.filter < length plan.filters) plan.groups
  pub aggs : All (λ (agg : AggNode). agg.group < length plan.groups) plan.aggs
  pub paths : All (All (λ number. number < length plan.aggs)) plan.paths
  pub nodes : (number : ℕ) → number < length plan.aggs → (node : Node) × (node_at plan number ≡ Some node)
