-- Of queries that are legal over a schema, and of its events, each sum of squares is below 2^127.
use Rattle.std.proofs.Common.{◌≡◌, ℕ, zero, suc, ◌+◌, ◌*◌, ◌^◌, ◌≤◌, ℤ, pos, negsuc, ◌+ℤ◌, ◌*ℤ◌, Bool, true, false, List, [], ◌∷◌, length, option_map, option_and_then, slice_get, Option, Some, None, refl, ap, sym, ◌∙◌, subst, arith}
use Rattle.std.specs.Prelude.{All, flat_map, bytes_eq, unsigned_abs, if◌then◌else◌}
use Rattle.std.specs.Int.{w128, int_wrap}
use Rattle.std.specs.List.{filter}
use Rattle.std.proofs.lemmas.Int.{int_wrap_fits}
use Rattle.std.proofs.lemmas.Nat.{mul-le}
use Rattle.std.proofs.lemmas.List.Elements.{All-nil, All-cons, All-head, All-tail, All-append, All-map, All-filter}
use Rattle.rg_event.specs.Codec.{IsValueOf, AreValuesOf, IsEventOf}
use Rattle.rg_event.specs.Shapes.{Shape}
use Rattle.rg_event.specs.declared.event.Event.{Event}
use Rattle.rg_event.specs.declared.schema.Field.{Field}
use Rattle.rg_event.specs.declared.value.Kind.{Kind}
use Rattle.rg_event.specs.declared.value.Kind.TheVariants as kind
use Rattle.rg_event.specs.declared.value.Value.{Value}
use Rattle.rg_event.specs.declared.value.Value.TheVariants.{Int, Id, Text, Flag}
use Rattle.rg_keywords.specs.declared.func.Func.TheVariants.{SumSq}
use Rattle.rg_metric.specs.Answers.{number_of, numbers, total_of_squares}
use Rattle.rg_metric.specs.Conditions.{value_in}
use Rattle.rg_metric.specs.Queries.{Asked}
use Rattle.rg_metric.specs.Replies.{and_value, counts_for, values_in}
use Rattle.rg_metric.specs.declared.query.Agg.{Agg}
use Rattle.rg_metric.specs.declared.query.Window.{Window}
use Rattle.rg_plan.specs.declared.node.AggNode.{AggNode}
use Rattle.rg_plan.specs.Named.{Node, node_at, under_agg, under_group, under_filter}
use Rattle.rg_plan.specs.declared.node.GroupNode.{GroupNode}
use Rattle.rg_plan.specs.Nodes.{Filtered, same_agg}
use Rattle.rg_plan.specs.Plans.{Tasks, plan_for, windows_of, filters_of, groups_of, aggs_of, aggs_in, agg_under, group_number}
use Rattle.rg_plan.proofs.Laws.{All-distinct}
use Rattle.rg_query.specs.Legal.{IsOperand, IsLegalAgg, AreLegalAggs, IsLegalQuery}
use Rattle.rg_query.specs.Printing.{name_at}
use Rattle.rg_metric.specs.Admitted.{takes}
use Rattle.rg_query.specs.Resolving.{column_from}
use Rattle.rg_scratch.specs.Nodes.{AreExact, IsExactAt, query_at}

-- ints of at most 10^12, and the sum of the squares of so many
abbrev pub IsSmall : Value → Type 0
IsSmall value = unsigned_abs (number_of value) ≤ 1000000000000

abbrev Adds : List Value → Type 0
Adds values = (m : ℕ) × (total_of_squares (numbers values) ≡ pos m) × (m ≤ length values * 1000000000000000000000000)

square_is : (n : ℤ) → unsigned_abs n ≤ 1000000000000 → (m : ℕ) × (n *ℤ n ≡ pos m) × (m ≤ 1000000000000000000000000)
square_is (pos a) small = (a * a, refl, mul-le a a 1000000000000 1000000000000 small small)
square_is (negsuc a) small = (suc a * suc a, refl, mul-le (suc a) (suc a) 1000000000000 1000000000000 small small)

adds : (values : List Value) → All IsSmall values → Adds values
adds [] are = (0, refl, omega arith)
adds (v ∷ vs) are =
    let rest = adds vs (All-tail IsSmall v vs are) in
    let first = square_is (number_of v) (All-head IsSmall v vs are) in
    (first.0 + rest.0, (λ i. first.1 i +ℤ rest.1 i), (let a = first.2 in let b = rest.2 in omega (arith, a, b)))

-- so few of them don't wrap round
fits : (values : List Value) → All IsSmall values → length values ≤ 2 ^ 40 → int_wrap w128 (total_of_squares (numbers values)) ≡ total_of_squares (numbers values)
fits values are few =
    let sum = adds values are in
    int_wrap_fits w128 (total_of_squares (numbers values)) (rw (sum.1) (let within = sum.2 in omega (arith, within, few)))

-- a column that is found by its name is one of the columns, with its kind
record IsThere (k : ℕ) (fields : List Field) (n : ℕ) (kind : Kind) : Type 0 where
  ahead : ℕ
  counted : n ≡ k + ahead
  field : Field
  there : slice_get fields ahead ≡ Some field
  same : field.kind ≡ kind

found_there : (k : ℕ) (fields : List Field) (name : List ℕ) (n : ℕ) (kind : Kind) → column_from k fields name ≡ Some (n, kind) → IsThere k fields n kind
found_there k [] name n kind e = absurd (cc)
found_there k (field ∷ fields) name n kind e = by_test (bytes_eq field.name name) e (λ f. found_there (k + 1) fields name n kind f)
  where
    by_test : (same : Bool) → (if same then Some (k, field.kind) else column_from (k + 1) fields name) ≡ Some (n, kind)
        → (column_from (k + 1) fields name ≡ Some (n, kind) → IsThere (k + 1) fields n kind) → IsThere k (field ∷ fields) n kind
    by_test true f next =
        let both : ◌≡◌ {A = ℕ × Kind} (k, field.kind) (n, kind) = cc in
        let here : k ≡ n = ap (λ (x : ℕ × Kind). x.0) both in
        record { ahead = 0; counted = omega (arith, here); field = field; there = refl; same = ap (λ (x : ℕ × Kind). x.1) both }
    by_test false f next =
        let r : IsThere (k + 1) fields n kind = next f in
        record { ahead = suc r.ahead; counted = omega (arith, r.counted); field = r.field; there = r.there; same = r.same }

-- a column that there is has a value of its kind
small_there : (fields : List Field) (values : List Value) (n : ℕ) (field : Field) → field.kind ≡ kind.Int → AreValuesOf fields values → slice_get fields n ≡ Some field
    → (value : Value) × (value_in (suc n) values ≡ Some value) × IsSmall value
small_there [] values n field is are found = absurd (cc)
small_there (f ∷ fields) [] n field is are found = absurd are
small_there (f ∷ fields) (v ∷ values) zero field is are found =
    let same : f ≡ field = cc in
    (v, refl, int_small v (subst (λ k. IsValueOf k v) (ap (λ (g : Field). g.kind) same ∙ is) are.0))
  where
    int_small : (v : Value) → IsValueOf kind.Int v → IsSmall v
    int_small (Int n) h = h
    int_small (Id n) h = absurd h
    int_small (Text t) h = absurd h
    int_small (Flag b) h = absurd h
small_there (f ∷ fields) (v ∷ values) (suc n) field is are found = small_there fields values n field is are.1 found

-- only ints are squared
squared_int : (k : Kind) → takes SumSq k ≡ true → k ≡ kind.Int
squared_int kind.Int e = refl
squared_int kind.Id e = absurd (cc)
squared_int kind.Text e = absurd (cc)
squared_int kind.Flag e = absurd (cc)

-- the values of such a column are small ints
record IsIntColumn (fields : List Field) (column : ℕ) : Type 0 where
  n : ℕ
  column_is : column ≡ suc n
  field : Field
  found : slice_get fields n ≡ Some field
  int : field.kind ≡ kind.Int

int_column : (shape : Shape) (column : ℕ) → IsOperand shape SumSq column → IsIntColumn shape.fields column
int_column shape zero operand = absurd (cc)
int_column shape (suc n) operand =
    let r : IsThere 1 shape.fields (suc n) operand.kind = found_there 1 shape.fields (name_at (suc n) shape.fields) (suc n) operand.kind operand.found in
    let here : suc n ≡ suc r.ahead = omega (arith, r.counted) in
    record { n = r.ahead; column_is = here; field = r.field; found = r.there; int = r.same ∙ squared_int operand.kind operand.taken }

small_values : (fields : List Field) (column : ℕ) → IsIntColumn fields column → (events : List Event) → All (IsEventOf fields) events → All IsSmall (values_in column events)
small_values fields column is events are = subst (λ c. All IsSmall (values_in c events)) (sym is.column_is) (each events are)
  where
    each : (xs : List Event) → All (IsEventOf fields) xs → All IsSmall (values_in (suc is.n) xs)
    each [] h = All-nil IsSmall
    each (x ∷ xs) h =
        let there = small_there fields x.values is.n is.field is.int (All-head (IsEventOf fields) x xs h).values is.found in
        subst (λ value. All IsSmall (and_value value (values_in (suc is.n) xs))) (sym there.1)
        (All-cons IsSmall there.0 (values_in (suc is.n) xs) there.2 (each xs (All-tail (IsEventOf fields) x xs h)))

-- each aggregator of the plan is legal
module _ (shape : Shape) (qs : List Asked) (legal : All (IsLegalQuery shape) qs) where
  abbrev IsLegalNode : AggNode → Type 0
  IsLegalNode node = IsLegalAgg shape node.agg

  aggs_legal : (aggs : List Agg) → AreLegalAggs shape aggs → All (IsLegalAgg shape) aggs
  aggs_legal [] h = absurd h
  aggs_legal (agg ∷ aggs) h = h

  uses_legal : (xs : List Asked) → All (IsLegalQuery shape) xs → All IsLegalNode (flat_map (aggs_in (windows_of qs) (filters_of qs) (groups_of qs)) xs)
  uses_legal [] h = All-nil IsLegalNode
  uses_legal (x ∷ xs) h =
      All-append IsLegalNode (aggs_in (windows_of qs) (filters_of qs) (groups_of qs) x) (flat_map (aggs_in (windows_of qs) (filters_of qs) (groups_of qs)) xs)
      (All-map IsLegalNode (agg_under (group_number (windows_of qs) (filters_of qs) (groups_of qs) x)) x.aggs (aggs_legal x.aggs (All-head (IsLegalQuery shape) x xs h).aggs))
      (uses_legal xs (All-tail (IsLegalQuery shape) x xs h))

  pub plan_legal : All IsLegalNode (aggs_of qs)
  plan_legal = All-distinct same_agg IsLegalNode (flat_map (aggs_in (windows_of qs) (filters_of qs) (groups_of qs)) qs) (uses_legal qs legal)

-- the aggregator of a node is one of the plan's
agg_of_filter : (plan : Tasks) (group : GroupNode) (agg : Agg) (filter : Filtered) (node : Node) → under_filter plan group agg filter ≡ Some node → node.agg ≡ agg
agg_of_filter plan group agg filter node e = by_window (slice_get plan.windows filter.window) e
  where
    by_window : (window : Option Window) → option_map (λ w. record { window = w; condition = filter.condition; columns = group.columns; agg = agg }) window ≡ Some node → node.agg ≡ agg
    by_window None f = absurd cc
    by_window (Some w) f = let same : ◌≡◌ {A = Node} (record { window = w; condition = filter.condition; columns = group.columns; agg = agg }) node = cc in sym (ap (λ (n : Node). n.agg) same)

agg_of_group : (plan : Tasks) (agg : Agg) (group : GroupNode) (node : Node) → under_group plan agg group ≡ Some node → node.agg ≡ agg
agg_of_group plan agg group node e = by_filter (slice_get plan.filters group.filter) e
  where
    by_filter : (filter : Option Filtered) → option_and_then (under_filter plan group agg) filter ≡ Some node → node.agg ≡ agg
    by_filter None f = absurd cc
    by_filter (Some filter) f = agg_of_filter plan group agg filter node f

agg_of_agg : (plan : Tasks) (agg : AggNode) (node : Node) → under_agg plan agg ≡ Some node → node.agg ≡ agg.agg
agg_of_agg plan agg node e = by_group (slice_get plan.groups agg.group) e
  where
    by_group : (group : Option GroupNode) → option_and_then (under_group plan agg.agg) group ≡ Some node → node.agg ≡ agg.agg
    by_group None f = absurd cc
    by_group (Some group) f = agg_of_group plan agg.agg group node f

some_of : (P : AggNode → Type 0) (aggs : List AggNode) (n : ℕ) (agg : AggNode) → All P aggs → slice_get aggs n ≡ Some agg → P agg
some_of P [] n agg are e = absurd cc
some_of P (a ∷ aggs) zero agg are e = let same : a ≡ agg = cc in subst P same (All-head P a aggs are)
some_of P (a ∷ aggs) (suc n) agg are e = some_of P aggs n agg (All-tail P a aggs are) e

node_legal : (shape : Shape) (plan : Tasks) (n : ℕ) (node : Node) → All (λ (agg : AggNode). IsLegalAgg shape agg.agg) plan.aggs → node_at plan n ≡ Some node → IsLegalAgg shape node.agg
node_legal shape plan n node are e = by_agg (slice_get plan.aggs n) refl e
  where
    by_agg : (agg : Option AggNode) → slice_get plan.aggs n ≡ agg → option_and_then (under_agg plan) agg ≡ Some node → IsLegalAgg shape node.agg
    by_agg None is f = absurd cc
    by_agg (Some agg) is f = subst (IsLegalAgg shape) (sym (agg_of_agg plan agg node f)) (some_of (λ (a : AggNode). IsLegalAgg shape a.agg) plan.aggs n agg are is)

-- there are at most as many values as events
values_few : (column : ℕ) (events : List Event) → length (values_in column events) ≤ length events
values_few zero [] = omega arith
values_few (suc n) [] = omega arith
values_few zero (x ∷ xs) = let h = values_few zero xs in omega (arith, h)
values_few (suc n) (x ∷ xs) = by_value (value_in (suc n) x.values) (values_few (suc n) xs)
  where
    by_value : (value : Option Value) → length (values_in (suc n) xs) ≤ length xs → length (and_value value (values_in (suc n) xs)) ≤ suc (length xs)
    by_value None h = omega (arith, h)
    by_value (Some v) h = omega (arith, h)

filter_few : (test : Event → Bool) (events : List Event) → length (filter test events) ≤ length events
filter_few test [] = omega arith
filter_few test (x ∷ xs) = by_test (test x) (filter_few test xs)
  where
    by_test : (b : Bool) → length (filter test xs) ≤ length xs → length (if b then x ∷ filter test xs else filter test xs) ≤ suc (length xs)
    by_test true h = omega (arith, h)
    by_test false h = omega (arith, h)

exact_at : (shape : Shape) (events : List Event) (e : Event) (node : Node) → IsLegalAgg shape node.agg → All (IsEventOf shape.fields) events → length events ≤ 2 ^ 40 → IsExactAt events e (Some node)
exact_at shape events e node legal are few squared =
    let test : Event → Bool = counts_for (query_at node) e in
    let column = int_column shape node.agg.field (subst (λ func. IsOperand shape func node.agg.field) squared legal) in
    fits (values_in node.agg.field (filter test events))
    (small_values shape.fields node.agg.field column (filter test events) (All-filter test (IsEventOf shape.fields) events are))
    (let a = values_few node.agg.field (filter test events) in let b = filter_few test events in omega (arith, a, b, few))

pub all_exact : (shape : Shape) (qs : List Asked) (plan : Tasks) (events : List Event) (e : Event) → plan ≡ plan_for qs → All (IsLegalQuery shape) qs → All (IsEventOf shape.fields) events
    → length events ≤ 2 ^ 40 → AreExact plan events e
all_exact shape qs plan events e is legal are few n = by_node (node_at plan n) refl
  where
    by_node : (node : Option Node) → node_at plan n ≡ node → IsExactAt events e node
    by_node None found = tt
    by_node (Some node) found =
        exact_at shape events e node (node_legal shape plan n node (subst (λ (p : Tasks). All (λ (agg : AggNode). IsLegalAgg shape agg.agg) p.aggs) (sym is) (plan_legal shape qs legal)) found) are few
