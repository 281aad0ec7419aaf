-- What is gathered of a node's values, by key.
use Rattle.std.specs.Prelude.{◌≡◌, ℕ, ◌<◌, ◌≤◌, ◌^◌, ◌&&◌, Bool, false, List, [], length, Option, Some, None, All}
use Rattle.std.specs.BTreeMap.{BTreeMap, get}
use Rattle.std.specs.Cmp.Lexicographic.{slice_cmp}
use Rattle.std.specs.Ordering.{nat_cmp}
use Rattle.rg_event.specs.Tagged.{value_kind}
use Rattle.rg_event.specs.declared.event.Event.{Event}
use Rattle.rg_event.specs.declared.value.Kind.{Kind}
use Rattle.rg_event.specs.declared.value.Value.{Value}
use Rattle.rg_keywords.specs.declared.func.Func.{Func}
use Rattle.rg_metric.specs.Conditions.{passes}
use Rattle.rg_metric.specs.Queries.{filter_test}
use Rattle.rg_metric.specs.Replies.{in_window}
use Rattle.rg_agg.specs.Sharing.{kept_as}
use Rattle.rg_agg.specs.Standing.{Stands, func_of}
use Rattle.rg_plan.specs.Named.{Node}
use Rattle.rg_state.specs.States.{held_of}
use Rattle.rg_metric.specs.Admitted.{IsAdmitted}
use Rattle.rg_engine.specs.Windows.{node_values}
use Rattle.rg_row_audit.specs.declared.asking.Asking.{Asking}
use Rattle.rg_row_audit.specs.declared.gathered.Gathered.{Gathered}

abbrev pub node_of : Asking → Node
node_of a = record { window = a.window; condition = filter_test a.condition.now; columns = a.columns.now; agg = a.agg }

-- the event is in the node's window at that time and meets its condition, whatever its key is
abbrev pub is_counted : Node → ℕ → Event → Bool
is_counted node t x = in_window node.window x t && passes node.condition x

-- values that one state can stand for: of one kind, each of them one that the function is given, and at most 2^40
pub record Suits (func : Func) (values : List Value) : Type 0 where
  pub kind : Kind
  pub alike : All (λ v. value_kind v ≡ kind) values
  pub taken : All (IsAdmitted func) values
  pub few : length values ≤ 2 ^ 40

-- the state serves the function, and stands for these values where one that does can
pub record Holds (func : Func) (g : Gathered) (values : List Value) : Type 0 where
  pub own : func_of (held_of g.state) ≡ kept_as func
  pub stands : Suits func values → (g.spoilt ≡ false) × Stands (held_of g.state) values

-- what was gathered for a key holds its values: nothing exactly where there are none
abbrev pub IsGathered : Func → Option Gathered → List Value → Type 0
IsGathered func None values = values ≡ []
IsGathered func (Some g) values = (0 < length values) × Holds func g values

-- and for each key, of a node's values at that time
abbrev pub AreGathered : Node → ℕ → List Event → BTreeMap (List ℕ) Gathered → Type 0
AreGathered node t events map = (key : List ℕ) → IsGathered node.agg.func (get (slice_cmp nat_cmp) map key) (node_values node key t events)
