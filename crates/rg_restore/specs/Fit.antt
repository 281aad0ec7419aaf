-- Which checkpoints can be used for a plan.
use Rattle.std.specs.Prelude.{◌≡◌, ℕ, zero, suc, ◌≤◌, List, length, slice_get, Option, Some, None, All}
use Rattle.std.specs.Option.{option_map}
use Rattle.rg_event.specs.declared.schema.Field.{Field}
use Rattle.rg_event.specs.declared.value.Kind.{Kind}
use Rattle.rg_past.specs.declared.past.Spot.{Spot}
use Rattle.rg_plan.specs.Named.{Node, node_at}
use Rattle.rg_plan.specs.Plans.{Tasks}
use Rattle.rg_plan.specs.declared.node.AggNode.{AggNode}
use Rattle.rg_state.specs.Rows.{Entry}
use Rattle.rg_state.specs.States.{IsFor}
use Rattle.rg_checkpoint.specs.declared.base.Checkpoint.{Checkpoint}

-- the kind of the values in a column, counted from 1; column 0 has none
abbrev pub kind_at : List Field → ℕ → Option Kind
kind_at fields zero = None
kind_at fields (suc n) = option_map (λ (field : Field). field.kind) (slice_get fields n)

-- the row's node is one of the plan's, and its state is of that node's function and of the kind of its column's values
pub record IsRowOf (fields : List Field) (plan : Tasks) (row : Entry) : Type 0 where
  pub node : Node
  pub there : node_at plan row.node ≡ Some node
  pub is : IsFor node.agg.func (kind_at fields node.agg.field) row.held

abbrev pub AreRowsOf : List Field → Tasks → List Entry → Type 0
AreRowsOf fields plan rows = All (IsRowOf fields plan) rows

-- the row is of an aggregator that was looked up
abbrev pub IsRowUnder : List Field → Option AggNode → Entry → Type 0
IsRowUnder fields None row = ⊥
IsRowUnder fields (Some node) row = IsFor node.agg.func (kind_at fields node.agg.field) row.held

-- a checkpoint is fit: it is of these queries, of at most so many events, has a spot for each offset, each of them spelled, and rows of the plan
pub record IsFit (Spells : Spot → Type 0) (queries : List (List ℕ)) (fields : List Field) (plan : Tasks) (count : ℕ) (checkpoint : Checkpoint) : Type 0 where
  pub queries_are : checkpoint.queries ≡ queries
  pub within : checkpoint.count ≤ count
  pub same : length checkpoint.spots ≡ length plan.offsets
  pub spelled : All Spells checkpoint.spots
  pub rows : AreRowsOf fields plan checkpoint.rows
