-- Rows and edges over the first columns of events to which values were added.
use Rattle.std.proofs.Common.{◌≡◌, ◌∙◌, inl, inr, ℕ, zero, suc, ◌≤◌, ◌&&◌, ◌||◌, not, cond, Bool, true, false, List, [], ◌∷◌, ◌++◌, length, map, take, slice_get, Option, Some, None, All, refl, sym, ap, subst, bytes_eq, arith}
use Rattle.std.specs.Prelude.{option_map, option_and_then, ⊤}
use Rattle.std.specs.List.{filter}
use Rattle.std.proofs.lemmas.List.Elements.{All-head, All-tail, All-take, All-map, All-weaker}
use Rattle.std.proofs.lemmas.Option.{slice_get_within, get_or_from_slice_get}
use Rattle.rg_event.specs.Codec.{AreValuesOf, IsEventOf}
use Rattle.rg_event.specs.Rising.{last_time}
use Rattle.rg_event.specs.Shapes.{Shape}
use Rattle.rg_event.specs.declared.event.Event.{Event}
use Rattle.rg_event.specs.declared.schema.Field.{Field}
use Rattle.rg_event.specs.declared.value.Value.{Value}
use Rattle.rg_event.specs.declared.value.Value.TheVariants.{Flag}
use Rattle.rg_metric.specs.Conditions.{Test, compared, not_of, and_of, or_of, value_in, some_compares, holds, passes}
use Rattle.rg_metric.specs.Queries.{Asked}
use Rattle.rg_metric.specs.Replies.{in_window, and_value, key_of, values_in}
use Rattle.rg_metric.specs.declared.query.Agg.{Agg}
use Rattle.rg_metric.specs.declared.query.Window.{Window}
use Rattle.rg_query.specs.Legal.{IsColumn, IsLegalTest, IsLegalFilter, IsLegalQuery}
use Rattle.rg_query.specs.Printing.{name_at}
use Rattle.rg_past.specs.declared.past.Spot.{Spot}
use Rattle.rg_group.specs.Keys.{key_bytes}
use Rattle.rg_plan.specs.Named.{Node, node_at, under_agg, under_group, under_filter}
use Rattle.rg_plan.specs.Nodes.{Filtered, same_filter, same_group}
use Rattle.rg_plan.specs.Plans.{Tasks, plan_for, windows_of, filters_of, filter_under, group_under}
use Rattle.rg_plan.specs.declared.node.AggNode.{AggNode}
use Rattle.rg_plan.specs.declared.node.GroupNode.{GroupNode}
use Rattle.rg_plan.proofs.Laws.{All-distinct}
use Rattle.rg_state.specs.Rows.{Cells, RowStands}
use Rattle.rg_window.specs.Passing.{has_come}
use Rattle.rg_chunk.specs.Extended.{extended, all_extended}
use Rattle.rg_engine.specs.Feeding.{IsServed}
use Rattle.rg_engine.specs.Standing.{RowIs}
use Rattle.rg_engine.specs.Windows.{counts_at, node_values, position}
use Rattle.rg_engine.proofs.Laws.{serves, none_some, same_some}
use Rattle.rg_log.proofs.Laws.{length-extended, time-extended}
use Rattle.rg_checkpoint.specs.declared.base.Checkpoint.{Checkpoint}
use Rattle.rg_restore.specs.Truthful.{StandsFor, AreRowsFor, position_in, SpotsAt, IsTruthful}
use Rattle.rg_restore.proofs.Laws.{same_past}
use Rattle.rg_open.proofs.GrownTexts.{column_within}

-- what is asked of the first n columns alone

abbrev IsTestWithin : ℕ → Test → Type 0
IsTestWithin n (compared column op literal) = column ≤ n
IsTestWithin n (not_of t) = IsTestWithin n t
IsTestWithin n (and_of s t) = IsTestWithin n s × IsTestWithin n t
IsTestWithin n (or_of s t) = IsTestWithin n s × IsTestWithin n t

abbrev IsFilterWithin : ℕ → Option Test → Type 0
IsFilterWithin n None = ⊤
IsFilterWithin n (Some t) = IsTestWithin n t

abbrev AreColumnsWithin : ℕ → List ℕ → Type 0
AreColumnsWithin n columns = All (λ (column : ℕ). column ≤ n) columns

record IsNodeWithin (n : ℕ) (node : Node) : Type 0 where
  agg : node.agg.field ≤ n
  condition : IsFilterWithin n node.condition
  columns : AreColumnsWithin n node.columns

abbrev HaveValues : ℕ → List Event → Type 0
HaveValues n events = All (λ (event : Event). length event.values ≡ n) events

-- events of a schema have a value for each column

values_many : (fields : List Field) (values : List Value) → AreValuesOf fields values → length values ≡ length fields
values_many [] [] is = refl
values_many [] (v ∷ values) is = absurd is
values_many (f ∷ fields) [] is = absurd is
values_many (f ∷ fields) (v ∷ values) is = ap (λ (n : ℕ). suc n) (values_many fields values is.1)

have_values : (fields : List Field) (events : List Event) → All (IsEventOf fields) events → HaveValues (length fields) events
have_values fields events are = All-weaker (IsEventOf fields) (λ (event : Event). length event.values ≡ length fields) (λ event is. values_many fields event.values is.values) events are

-- the nodes of legal queries ask for the columns of their schema alone

module _ (shape : Shape) where
  test_within : (t : Test) → IsLegalTest shape t → IsTestWithin (length shape.fields) t
  test_within (compared column op value) is = column_within shape (name_at column shape.fields) column is.kind is.found
  test_within (not_of t) is = test_within t is
  test_within (and_of s t) is = (test_within s is.0, test_within t is.1)
  test_within (or_of s t) is = (test_within s is.0, test_within t is.1)

  filter_within : (filter : Option Test) → IsLegalFilter shape filter → IsFilterWithin (length shape.fields) filter
  filter_within None is = tt
  filter_within (Some t) is = test_within t is

  columns_within : (columns : List ℕ) → All (IsColumn shape) columns → AreColumnsWithin (length shape.fields) columns
  columns_within columns are = All-weaker (IsColumn shape) (λ (column : ℕ). column ≤ length shape.fields) (λ column is. column_within shape (name_at column shape.fields) column is.kind is.found) columns are

at_place : {A : Type 0} (P : A → Type 0) (xs : List A) (n : ℕ) (x : A) → All P xs → slice_get xs n ≡ Some x → P x
at_place P xs n x all found = subst P (get_or_from_slice_get xs n x x found) (all n x (slice_get_within xs n x found))

abbrev FilterWithin : ℕ → Filtered → Type 0
FilterWithin n f = IsFilterWithin n f.condition

abbrev GroupWithin : ℕ → GroupNode → Type 0
GroupWithin n g = AreColumnsWithin n g.columns

record AreWithin (n : ℕ) (node : Node) : Type 0 where
  condition : IsFilterWithin n node.condition
  columns : AreColumnsWithin n node.columns

-- a node's condition and columns are those of members of its plan
module _ (n : ℕ) (plan : Tasks) (filters : All (FilterWithin n) plan.filters) (groups : All (GroupWithin n) plan.groups) (node : Node) where
  by_window : (group : GroupNode) (agg : Agg) (f : Filtered) (found : Option Window) → option_map (λ window. let m : Node = record { window = window; condition = f.condition; columns = group.columns; agg = agg } in m) found ≡ Some node
      → FilterWithin n f → GroupWithin n group → AreWithin n node
  by_window group agg f None is condition columns = absurd (none_some is)
  by_window group agg f (Some window) is condition columns =
      let k = same_some is in
      record { condition = subst (λ (m : Node). IsFilterWithin n m.condition) k condition; columns = subst (λ (m : Node). AreColumnsWithin n m.columns) k columns }

  by_filter : (group : GroupNode) (agg : Agg) (found : Option Filtered) → slice_get plan.filters group.filter ≡ found → option_and_then (under_filter plan group agg) found ≡ Some node → GroupWithin n group → AreWithin n node
  by_filter group agg None e is columns = absurd (none_some is)
  by_filter group agg (Some f) e is columns = by_window group agg f (slice_get plan.windows f.window) is (at_place (FilterWithin n) plan.filters group.filter f filters e) columns

  by_group : (agg : AggNode) (found : Option GroupNode) → slice_get plan.groups agg.group ≡ found → option_and_then (under_group plan agg.agg) found ≡ Some node → AreWithin n node
  by_group agg None e is = absurd (none_some is)
  by_group agg (Some group) e is = by_filter group agg.agg (slice_get plan.filters group.filter) refl is (at_place (GroupWithin n) plan.groups agg.group group groups e)

  by_agg : (found : Option AggNode) → option_and_then (under_agg plan) found ≡ Some node → AreWithin n node
  by_agg None is = absurd (none_some is)
  by_agg (Some agg) is = by_group agg (slice_get plan.groups agg.group) refl is

served_within : (fields : List Field) (agg : Agg) → IsServed fields agg → agg.field ≤ length fields
served_within fields agg (inl is) = omega (arith, is.0)
served_within fields agg (inr is) = omega (arith, is.is, slice_get_within fields is.column is.field is.found)

node_within : (shape : Shape) (qs : List Asked) → All (IsLegalQuery shape) qs → (number : ℕ) (node : Node) → node_at (plan_for qs) number ≡ Some node → IsNodeWithin (length shape.fields) node
node_within shape qs legal number node there = record { agg = served_within shape.fields node.agg ((serves shape qs legal).served number node there); condition = both.condition; columns = both.columns }
  where
    count : ℕ
    count = length shape.fields

    filters : All (FilterWithin count) (plan_for qs).filters
    filters =
        All-distinct same_filter (FilterWithin count) (map (filter_under (windows_of qs)) qs)
        (All-map (FilterWithin count) (filter_under (windows_of qs)) qs (All-weaker (IsLegalQuery shape) (λ (q : Asked). IsFilterWithin count q.filter) (λ q is. filter_within shape q.filter is.filter) qs legal))

    groups : All (GroupWithin count) (plan_for qs).groups
    groups =
        All-distinct same_group (GroupWithin count) (map (group_under (windows_of qs) (filters_of qs)) qs)
        (All-map (GroupWithin count) (group_under (windows_of qs) (filters_of qs)) qs (All-weaker (IsLegalQuery shape) (λ (q : Asked). AreColumnsWithin count q.group) (λ q is. columns_within shape q.group is.group) qs legal))

    both : AreWithin count node
    both = by_agg count (plan_for qs) filters groups node (slice_get (plan_for qs).aggs number) there

-- an event's values in its first columns

value_zero : (values : List Value) → value_in 0 values ≡ None
value_zero [] = refl
value_zero (v ∷ values) = refl

value_stays : (column : ℕ) (values more : List Value) → column ≤ length values → value_in column (values ++ more) ≡ value_in column values
value_stays zero values more le = value_zero (values ++ more) ∙ sym (value_zero values)
value_stays (suc n) [] more le = absurd (omega (arith, le))
value_stays (suc zero) (v ∷ values) more le = refl
value_stays (suc (suc n)) (v ∷ values) more le = value_stays (suc n) values more (omega (arith, le))

-- positions ask only for times

take-extended : (count : ℕ) (values : List Value) (events : List Event) → take count (all_extended values events) ≡ all_extended values (take count events)
take-extended zero values events = refl
take-extended (suc count) values [] = refl
take-extended (suc count) values (e ∷ events) = ap (λ (l : List Event). extended values e ∷ l) (take-extended count values events)

come_same : (offset t : ℕ) (values : List Value) (events : List Event) → length (filter (has_come offset t) (all_extended values events)) ≡ length (filter (has_come offset t) events)
come_same offset t values [] = refl
come_same offset t values (e ∷ events) = by (has_come offset t e) (come_same offset t values events)
  where
    by : (b : Bool) → length (filter (has_come offset t) (all_extended values events)) ≡ length (filter (has_come offset t) events)
        → length (cond b (extended values e ∷ filter (has_come offset t) (all_extended values events)) (filter (has_come offset t) (all_extended values events))) ≡ length (cond b (e ∷ filter (has_come offset t) events) (filter (has_come offset t) events))
    by true same = ap (λ (n : ℕ). suc n) same
    by false same = same

position_same : (offset : ℕ) (values : List Value) (events : List Event) → position_in (all_extended values events) offset ≡ position_in events offset
position_same offset values events = ap (λ (t : ℕ). position (all_extended values events) t offset) (time-extended values events) ∙ come_same offset (last_time events) values events

positions_same : (offsets : List ℕ) (values : List Value) (events : List Event) → map (position_in (all_extended values events)) offsets ≡ map (position_in events) offsets
positions_same [] values events = refl
positions_same (offset ∷ offsets) values events =
    ap (λ (p : ℕ). p ∷ map (position_in (all_extended values events)) offsets) (position_same offset values events) ∙ ap (λ (l : List ℕ). position_in events offset ∷ l) (positions_same offsets values events)

-- conditions, keys and values see the first columns

module _ (n : ℕ) (more : List Value) where
  value_same : (column : ℕ) (x : Event) → column ≤ n → length x.values ≡ n → value_in column (x.values ++ more) ≡ value_in column x.values
  value_same column x le long = value_stays column x.values more (omega (arith, le, long))

  holds_same : (t : Test) (x : Event) → IsTestWithin n t → length x.values ≡ n → holds t (extended more x) ≡ holds t x
  holds_same (compared column op literal) x within long = ap (λ (v : Option Value). some_compares op v literal) (value_same column x within long)
  holds_same (not_of t) x within long = ap not (holds_same t x within long)
  holds_same (and_of s t) x within long = ap (λ (b : Bool). b && holds t (extended more x)) (holds_same s x within.0 long) ∙ ap (λ (b : Bool). holds s x && b) (holds_same t x within.1 long)
  holds_same (or_of s t) x within long = ap (λ (b : Bool). b || holds t (extended more x)) (holds_same s x within.0 long) ∙ ap (λ (b : Bool). holds s x || b) (holds_same t x within.1 long)

  passes_same : (condition : Option Test) (x : Event) → IsFilterWithin n condition → length x.values ≡ n → passes condition (extended more x) ≡ passes condition x
  passes_same None x within long = refl
  passes_same (Some t) x within long = holds_same t x within long

  key_same : (columns : List ℕ) (x : Event) → AreColumnsWithin n columns → length x.values ≡ n → key_of columns (extended more x) ≡ key_of columns x
  key_same [] x within long = refl
  key_same (column ∷ columns) x within long =
      ap (λ (v : Option Value). and_value v (key_of columns (extended more x))) (value_same column x (All-head (λ (c : ℕ). c ≤ n) column columns within) long)
      ∙ ap (λ (l : List Value). and_value (value_in column x.values) l) (key_same columns x (All-tail (λ (c : ℕ). c ≤ n) column columns within) long)

  taken : (b : Bool) (column : ℕ) (x : Event) (xs ys : List Event) → column ≤ n → length x.values ≡ n → values_in column ys ≡ values_in column xs → values_in column (cond b (extended more x ∷ ys) ys) ≡ values_in column (cond b (x ∷ xs) xs)
  taken false column x xs ys le long same = same
  taken true zero x xs ys le long same = ap (λ (l : List Value). Flag true ∷ l) same
  taken true (suc c) x xs ys le long same =
      ap (λ (v : Option Value). and_value v (values_in (suc c) ys)) (value_same (suc c) x le long) ∙ ap (λ (l : List Value). and_value (value_in (suc c) x.values) l) same

  module _ (node : Node) (within : IsNodeWithin n node) (key : List ℕ) (t : ℕ) where
    counts_same : (x : Event) → length x.values ≡ n → counts_at node key t (extended more x) ≡ counts_at node key t x
    counts_same x long =
        ap (λ (b : Bool). in_window node.window x t && (b && bytes_eq (key_bytes (key_of node.columns (extended more x))) key)) (passes_same node.condition x within.condition long)
        ∙ ap (λ (l : List Value). in_window node.window x t && (passes node.condition x && bytes_eq (key_bytes l) key)) (key_same node.columns x within.columns long)

    values_same : (column : ℕ) (events : List Event) → column ≤ n → HaveValues n events → values_in column (filter (counts_at node key t) (all_extended more events)) ≡ values_in column (filter (counts_at node key t) events)
    values_same column [] le long = refl
    values_same column (x ∷ events) le long =
        let here = All-head (λ (event : Event). length event.values ≡ n) x events long in
        let rest = filter (counts_at node key t) (all_extended more events) in
        ap (λ (b : Bool). values_in column (cond b (extended more x ∷ rest) rest)) (counts_same x here)
        ∙ taken (counts_at node key t x) column x (filter (counts_at node key t) events) rest le here (values_same column events le (All-tail (λ (event : Event). length event.values ≡ n) x events long))

    node_same : (events : List Event) → HaveValues n events → node_values node key t (all_extended more events) ≡ node_values node key t events
    node_same events long = values_same node.agg.field events within.agg long

  rows_by : (events : List Event) → HaveValues n events → (found : Option Node) → ((node : Node) → found ≡ Some node → IsNodeWithin n node) → (cells : Cells) (number : ℕ) (key : List ℕ)
      → RowIs found key (last_time events) events (cells number key) → RowIs found key (last_time (all_extended more events)) (all_extended more events) (cells number key)
  rows_by events long None within cells number key is = is
  rows_by events long (Some node) within cells number key is =
      subst (λ (l : List Value). RowStands node.agg.func (cells number key) l)
      (sym (ap (λ (t : ℕ). node_values node key t (all_extended more events)) (time-extended more events) ∙ node_same node (within node refl) key (last_time events) events long)) is

-- rows that stand for events stand for them with values behind
rows_stand : (shape : Shape) (qs : List Asked) (values : List Value) (events : List Event) (cells : Cells) → All (IsLegalQuery shape) qs → HaveValues (length shape.fields) events → StandsFor (plan_for qs) events cells → StandsFor (plan_for qs) (all_extended values events) cells
rows_stand shape qs values events cells legal long stands =
    λ number key. rows_by (length shape.fields) values events long (node_at (plan_for qs) number) (λ node there. node_within shape qs legal number node there) cells number key (stands number key)

-- a checkpoint of legal queries that is true of some events is true of them with values behind
pub checkpoint_stays : (Spells Later : Spot → Type 0) (shape : Shape) (qs : List Asked) (values : List Value) (events : List Event) (checkpoint : Checkpoint) → ((spot : Spot) → Spells spot → Later spot) → All (IsLegalQuery shape) qs
    → All (IsEventOf shape.fields) events → IsTruthful Spells (plan_for qs) events checkpoint → IsTruthful Later (plan_for qs) (all_extended values events) checkpoint
checkpoint_stays Spells Later shape qs values events checkpoint goes legal are was =
    let is = same_past Spells Later (plan_for qs) events events checkpoint goes refl was in
    let front = take checkpoint.count events in
    let same = take-extended checkpoint.count values events in
    let long : HaveValues (length shape.fields) front = All-take (λ (event : Event). length event.values ≡ length shape.fields) checkpoint.count events (have_values shape.fields events are) in
    record {
      within = omega (arith, is.within, length-extended values events);
      spots = subst (λ (l : List Event). SpotsAt Later (plan_for qs).offsets l checkpoint.spots) (sym same) (record { numbers = is.spots.numbers ∙ sym (positions_same (plan_for qs).offsets values front); spelled = is.spots.spelled });
      rows = subst (λ (l : List Event). AreRowsFor checkpoint.rows (plan_for qs) l) (sym same) (record { cells = is.rows.cells; lists = is.rows.lists; stand = rows_stand shape qs values front is.rows.cells legal long is.rows.stand });
    }
