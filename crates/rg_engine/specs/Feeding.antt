-- Events that a plan can be fed with: all of one schema, over which its queries are legal.
use Rattle.std.specs.Prelude.{◌≡◌, ◌⊎◌, ◌<◌, ℕ, suc, List, Some, slice_get, All}
use Rattle.std.specs.Option.{ForSome}
use Rattle.rg_event.specs.Codec.{IsValueOf, IsEventOf}
use Rattle.rg_event.specs.declared.event.Event.{Event}
use Rattle.rg_event.specs.declared.schema.Field.{Field}
use Rattle.rg_event.specs.declared.value.Value.{Value}
use Rattle.rg_keywords.specs.declared.func.Func.TheVariants.{Count}
use Rattle.rg_metric.specs.declared.query.Agg.{Agg}
use Rattle.rg_metric.specs.declared.query.Window.{Window}
use Rattle.rg_plan.specs.Named.{Node, node_at}
use Rattle.rg_plan.specs.Plans.{Tasks}
use Rattle.rg_metric.specs.Admitted.{IsAdmitted}

-- the aggregator's column, counted from 1, is one of these, and each value of its kind is one that the function takes
pub record ColumnServes (fields : List Field) (agg : Agg) : Type 0 where
  pub column : ℕ
  pub is : agg.field ≡ suc column
  pub field : Field
  pub found : slice_get fields column ≡ Some field
  pub takes : (value : Value) → IsValueOf field.kind value → IsAdmitted agg.func value

-- it counts events, or a column serves it
abbrev pub IsServed : List Field → Agg → Type 0
IsServed fields agg = ((agg.field ≡ 0) × (agg.func ≡ Count)) ⊎ ColumnServes fields agg

-- a window that ends lasts
abbrev pub IsLasting : Window → Type 0
IsLasting window = ForSome window.length (λ length. 0 < length)

-- each aggregator of a plan is served by these columns, and each window that ends lasts
pub record Serves (fields : List Field) (plan : Tasks) : Type 0 where
  pub served : (n : ℕ) (node : Node) → node_at plan n ≡ Some node → IsServed fields node.agg
  pub lasting : (n : ℕ) (node : Node) → node_at plan n ≡ Some node → IsLasting node.window

-- the events are of one schema, whose columns serve the plan
pub record IsFed (plan : Tasks) (events : List Event) : Type 0 where
  pub fields : List Field
  pub serves : Serves fields plan
  pub are : All (IsEventOf fields) events
