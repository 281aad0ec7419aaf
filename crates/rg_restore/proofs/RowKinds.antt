-- Rows that stand for events are of the plan.
use Rattle.std.proofs.Common.{◌≡◌, ℕ, zero, suc, ◌<◌, ◌+◌, Bool, true, false, cond, List, [], ◌∷◌, length, take, get_or, Option, Some, None, All, refl, inl, inr, ap, sym, subst, ◌∙◌, arith}
use Rattle.std.specs.Prelude.{slice_get, if◌then◌else◌}
use Rattle.std.specs.Option.{option_map}
use Rattle.std.specs.List.{list_any}
use Rattle.std.proofs.lemmas.List.Elements.{All-nil, All-cons, All-head, All-tail, All-weaker, All-take}
use Rattle.std.proofs.lemmas.List.Sums.{sum_by-cons}
use Rattle.rg_event.specs.Codec.{IsEventOf, IsValueOf, AreValuesOf}
use Rattle.rg_event.specs.Tagged.{value_kind}
use Rattle.rg_event.specs.declared.event.Event.{Event}
use Rattle.rg_event.specs.declared.schema.Field.{Field}
use Rattle.rg_event.specs.declared.value.Kind.{Kind}
use Rattle.rg_event.specs.declared.value.Kind.TheVariants.{Int as IntKind, Id as IdKind, Text as TextKind, Flag as FlagKind}
use Rattle.rg_event.specs.declared.value.Value.{Value}
use Rattle.rg_event.specs.declared.value.Value.TheVariants.{Int, Id, Text, Flag}
use Rattle.rg_keywords.specs.declared.func.Func.TheVariants.{Count}
use Rattle.rg_metric.specs.Same.{same_value}
use Rattle.rg_metric.specs.declared.query.Agg.{Agg}
use Rattle.rg_metric.proofs.Laws.{same_value-same}
use Rattle.rg_agg.specs.Held.{Held, counted, summed, averaged, squared, queued, ended, lowest, highest, varied, ranked}
use Rattle.rg_agg.specs.Stands.{AreInts, last_behind, last_value}
use Rattle.rg_agg.specs.Sharing.{kept_as}
use Rattle.rg_agg.specs.Standing.{Stands, func_of, count_in, places, AreThere, AreCounts}
use Rattle.rg_agg.specs.Unbeaten.{unbeaten, joined_to, is_less, is_greater}
use Rattle.rg_event.specs.Rising.{last_time}
use Rattle.rg_past.specs.declared.past.Spot.{Spot}
use Rattle.rg_plan.specs.Named.{Node, node_at}
use Rattle.rg_plan.specs.Plans.{Tasks}
use Rattle.rg_state.specs.Rows.{Entry}
use Rattle.rg_state.specs.States.{IsOfKind, HasKind}
use Rattle.rg_engine.specs.Feeding.{IsServed, ColumnServes, Serves}
use Rattle.rg_engine.specs.Standing.{RowIs}
use Rattle.rg_engine.specs.Windows.{counts_at, node_values}
use Rattle.rg_engine.proofs.Laws.{none_some, same_some, AreOf, vals-kind}
use Rattle.rg_engine.specs.Edges.{HandsOf}
use Rattle.rg_metric.specs.Conditions.{value_in}
use Rattle.rg_checkpoint.specs.declared.base.Checkpoint.{Checkpoint}
use Rattle.rg_restore.specs.Fit.{kind_at, IsFit, IsRowOf, AreRowsOf}
use Rattle.rg_restore.specs.Truthful.{AreRowsFor, IsTruthful}
use Rattle.rg_restore.proofs.Placing.{as_many}

-- values that are the same are of one kind
same_kind : (v w : Value) → same_value v w ≡ true → value_kind v ≡ value_kind w
same_kind (Int x) (Int y) e = refl
same_kind (Int x) (Id y) e = cc
same_kind (Int x) (Text y) e = cc
same_kind (Int x) (Flag y) e = cc
same_kind (Id x) (Int y) e = cc
same_kind (Id x) (Id y) e = refl
same_kind (Id x) (Text y) e = cc
same_kind (Id x) (Flag y) e = cc
same_kind (Text x) (Int y) e = cc
same_kind (Text x) (Id y) e = cc
same_kind (Text x) (Text y) e = refl
same_kind (Text x) (Flag y) e = cc
same_kind (Flag x) (Int y) e = cc
same_kind (Flag x) (Id y) e = cc
same_kind (Flag x) (Text y) e = cc
same_kind (Flag x) (Flag y) e = refl

kind_is : (kind : Kind) (value : Value) → IsValueOf kind value → value_kind value ≡ kind
kind_is IntKind (Int n) h = refl
kind_is IntKind (Id n) h = absurd h
kind_is IntKind (Text t) h = absurd h
kind_is IntKind (Flag b) h = absurd h
kind_is IdKind (Int n) h = absurd h
kind_is IdKind (Id n) h = refl
kind_is IdKind (Text t) h = absurd h
kind_is IdKind (Flag b) h = absurd h
kind_is TextKind (Int n) h = absurd h
kind_is TextKind (Id n) h = absurd h
kind_is TextKind (Text t) h = refl
kind_is TextKind (Flag b) h = absurd h
kind_is FlagKind (Int n) h = absurd h
kind_is FlagKind (Id n) h = absurd h
kind_is FlagKind (Text t) h = absurd h
kind_is FlagKind (Flag b) h = refl

-- a column that there is has a value of its kind
value_there : (fields : List Field) (values : List Value) (n : ℕ) (field : Field) → AreValuesOf fields values → slice_get fields n ≡ Some field → (value : Value) × (value_in (suc n) values ≡ Some value) × IsValueOf field.kind value
value_there [] values n field are found = absurd (none_some found)
value_there (f ∷ fields) [] n field are found = absurd are
value_there (f ∷ fields) (v ∷ values) zero field are found = (v, refl, subst (λ g. IsValueOf g.kind v) (same_some found) are.0)
value_there (f ∷ fields) (v ∷ values) (suc n) field are found = value_there fields values n field are.1 found

-- what a column hands is of its kind
column_hands : (fields : List Field) (column : ℕ) (field : Field) (x : Event) → slice_get fields column ≡ Some field → IsEventOf fields x → HandsOf field.kind (suc column) x
column_hands fields column field x found is = λ value there.
    let k = value_there fields x.values column field is.values found in
    kind_is field.kind value (subst (IsValueOf field.kind) (same_some (sym k.1 ∙ there)) k.2)

not_both : true ≡ false → ⊥
not_both e = cc

here : (entries : List Entry) (k : ℕ) (d : Entry) → k < length entries → get_or entries k (get_or entries k d) ≡ get_or entries k d
here [] k d h = absurd (omega arith)
here (e ∷ entries) zero d h = refl
here (e ∷ entries) (suc k) d h = here entries k d (omega arith)

module _ (kind : Kind) where
  first_int : (values : List Value) → 0 < length values → AreInts values → AreOf kind values → Some kind ≡ Some IntKind
  first_int [] some ints are = absurd (omega (arith, some))
  first_int (Int n ∷ values) some ints are = ap Some (sym (All-head (λ value. value_kind value ≡ kind) (Int n) values are))
  first_int (Id n ∷ values) some ints are = absurd ints.0
  first_int (Text t ∷ values) some ints are = absurd ints.0
  first_int (Flag b ∷ values) some ints are = absurd ints.0

  last_kind : (first : Value) (values : List Value) → value_kind first ≡ kind → AreOf kind values → value_kind (last_behind first values) ≡ kind
  last_kind first [] is are = is
  last_kind first (value ∷ values) is are = last_kind value values (All-head (λ v. value_kind v ≡ kind) value values are) (All-tail (λ v. value_kind v ≡ kind) value values are)

  end_kind : (last : Option Value) (values : List Value) → last ≡ last_value values → 0 < length values → AreOf kind values → (value : Value) → last ≡ Some value → HasKind (Some kind) value
  end_kind last [] is some are value e = absurd (omega (arith, some))
  end_kind last (first ∷ values) is some are value e =
      let same : last_behind first values ≡ value = cc in
      ap Some (subst (λ v. value_kind v ≡ kind) same (last_kind first values (All-head (λ v. value_kind v ≡ kind) first values are) (All-tail (λ v. value_kind v ≡ kind) first values are)))

  -- a value that has places is of the kind
  placed_by : (value v : Value) (n : ℕ) (b : Bool) → same_value value v ≡ b → value_kind v ≡ kind → (0 < n → value_kind value ≡ kind) → 0 < cond b 1 0 + n → value_kind value ≡ kind
  placed_by value v n true e is rest some = same_kind value v e ∙ is
  placed_by value v n false e is rest some = rest (omega (arith, some))

  placed_kind : (value : Value) (values : List Value) → AreOf kind values → 0 < places value values → value_kind value ≡ kind
  placed_kind value [] are some = absurd (omega (arith, some))
  placed_kind value (v ∷ values) are some =
      placed_by value v (places value values) (same_value value v) refl (All-head (λ w. value_kind w ≡ kind) v values are) (placed_kind value values (All-tail (λ w. value_kind w ≡ kind) v values are))
      (subst (λ n. 0 < n) (sum_by-cons (λ w. cond (same_value value w) 1 0) v values) some)

  -- the value of each pair is there
  count_by_key : (value key : Value) (n m : ℕ) (b : Bool) → same_value value key ≡ b → 0 < n → (b ≡ false → 0 < m) → 0 < (if b then n else m)
  count_by_key value key n m true e some rest = some
  count_by_key value key n m false e some rest = rest refl

  count_there : (value : Value) (pairs : List (Value × ℕ)) → AreThere pairs → (k : ℕ) (d : Value × ℕ) → k < length pairs → (get_or pairs k d).0 ≡ value → 0 < count_in value pairs
  count_there value [] there k d h is = absurd (omega arith)
  count_there value (pair ∷ pairs) there zero d h is =
      count_by_key value pair.0 pair.1 (count_in value pairs) (same_value value pair.0) refl there.0 (λ e. absurd (not_both (sym (subst (λ v. same_value v v ≡ true) is (same_value-same pair.0)) ∙ ap (same_value value) (sym is) ∙ e)))
  count_there value (pair ∷ pairs) there (suc k) d h is =
      count_by_key value pair.0 pair.1 (count_in value pairs) (same_value value pair.0) refl there.0 (λ e. count_there value pairs there.1 k d (omega arith) is)

  pairs_kind : (pairs : List (Value × ℕ)) (values : List Value) → AreCounts pairs values → AreOf kind values → All (λ (pair : Value × ℕ). HasKind (Some kind) pair.0) pairs
  pairs_kind pairs values counts are k d h =
      let value = (get_or pairs k d).0 in
      let some : 0 < places value values = subst (λ n. 0 < n) (counts.1 value) (count_there value pairs counts.2 k d h refl) in
      ap Some (placed_kind value values are some)

  -- those that no later value beats are among them
  abbrev PairIs : Value × ℕ → Type 0
  PairIs pair = HasKind (Some kind) pair.0

  joined_by : (value : Value) (pair : Value × ℕ) (pairs : List (Value × ℕ)) (b : Bool) → HasKind (Some kind) value → All PairIs (pair ∷ pairs) → All PairIs (if b then (pair.0, pair.1 + 1) ∷ pairs else (value, 1) ∷ (pair ∷ pairs))
  joined_by value pair pairs true is all = All-cons PairIs (pair.0, pair.1 + 1) pairs (All-head PairIs pair pairs all) (All-tail PairIs pair pairs all)
  joined_by value pair pairs false is all = All-cons PairIs (value, 1) (pair ∷ pairs) is all

  joined_kind : (value : Value) (pairs : List (Value × ℕ)) → HasKind (Some kind) value → All PairIs pairs → All PairIs (joined_to value pairs)
  joined_kind value [] is all = All-cons PairIs (value, 1) [] is all
  joined_kind value (pair ∷ pairs) is all = joined_by value pair pairs (same_value value pair.0) is all

  unbeaten_by : (value : Value) (pairs : List (Value × ℕ)) (b : Bool) → HasKind (Some kind) value → All PairIs pairs → All PairIs (if b then pairs else joined_to value pairs)
  unbeaten_by value pairs true is all = all
  unbeaten_by value pairs false is all = joined_kind value pairs is all

  unbeaten_kind : (beats : Value → Value → Bool) (values : List Value) → AreOf kind values → All PairIs (unbeaten beats values)
  unbeaten_kind beats [] are = All-nil PairIs
  unbeaten_kind beats (value ∷ values) are =
      unbeaten_by value (unbeaten beats values) (list_any (λ later. beats later value) values) (ap Some (All-head (λ v. value_kind v ≡ kind) value values are)) (unbeaten_kind beats values (All-tail (λ v. value_kind v ≡ kind) value values are))

  -- a state of such values keeps values of their kind
  pub kept_kind : (held : Held) (values : List Value) → Stands held values → 0 < length values → AreOf kind values → IsOfKind (Some kind) held
  kept_kind (counted n) values stands some are = tt
  kept_kind (summed n sum) values stands some are = first_int values some stands.ints are
  kept_kind (averaged n sum) values stands some are = first_int values some stands.ints are
  kept_kind (squared n sum) values stands some are = first_int values some stands.ints are
  kept_kind (queued kept) values stands some are = subst (All (HasKind (Some kind))) (sym stands) (All-weaker (λ value. value_kind value ≡ kind) (HasKind (Some kind)) (λ value is. ap Some is) values are)
  kept_kind (ended n None) values stands some are = tt
  kept_kind (ended n (Some value)) values stands some are = end_kind (Some value) values stands.ends some are value refl
  kept_kind (lowest n pairs) values stands some are = subst (All (λ (pair : Value × ℕ). HasKind (Some kind) pair.0)) (sym stands.kept) (unbeaten_kind is_less values are)
  kept_kind (highest n pairs) values stands some are = subst (All (λ (pair : Value × ℕ). HasKind (Some kind) pair.0)) (sym stands.kept) (unbeaten_kind is_greater values are)
  kept_kind (varied pairs) values stands some are = pairs_kind pairs values stands are
  kept_kind (ranked pairs) values stands some are = pairs_kind pairs values stands are

-- a count keeps no value
count_kind : (kind : Option Kind) (held : Held) → func_of held ≡ Count → IsOfKind kind held
count_kind kind (counted n) e = tt
count_kind kind (summed n sum) e = cc
count_kind kind (averaged n sum) e = cc
count_kind kind (squared n sum) e = cc
count_kind kind (queued kept) e = cc
count_kind kind (ended n last) e = cc
count_kind kind (lowest n pairs) e = cc
count_kind kind (highest n pairs) e = cc
count_kind kind (varied pairs) e = cc
count_kind kind (ranked pairs) e = cc

column_kind : (fields : List Field) (agg : Agg) (serves : ColumnServes fields agg) → kind_at fields agg.field ≡ Some serves.field.kind
column_kind fields agg serves = ap (kind_at fields) serves.is ∙ ap (option_map (λ (field : Field). field.kind)) serves.found

module _ (fields : List Field) (events : List Event) (are : All (IsEventOf fields) events) where
  row_kind : (node : Node) (key : List ℕ) (t : ℕ) (held : Held) → IsServed fields node.agg → func_of held ≡ kept_as node.agg.func → Stands held (node_values node key t events) → 0 < length (node_values node key t events) →
      IsOfKind (kind_at fields node.agg.field) held
  row_kind node key t held (inl counts) func stands some = count_kind (kind_at fields node.agg.field) held (func ∙ ap kept_as counts.1)
  row_kind node key t held (inr serves) func stands some =
      let kind = serves.field.kind in
      let hands : All (HandsOf kind node.agg.field) events = subst (λ n. All (HandsOf kind n) events) (sym serves.is)
      (All-weaker (IsEventOf fields) (HandsOf kind (suc serves.column)) (λ x. column_hands fields serves.column serves.field x serves.found) events are) in
      subst (λ k. IsOfKind k held) (sym (column_kind fields node.agg serves))
      (kept_kind kind held (node_values node key t events) stands some (vals-kind kind node.agg.field (counts_at node key t) events hands))

  row_of : (plan : Tasks) → Serves fields plan → (entry : Entry) (node : Option Node) → node_at plan entry.node ≡ node → RowIs node entry.key (last_time events) events (Some entry.held) → IsRowOf fields plan entry
  row_of plan serves entry None there is = cc
  row_of plan serves entry (Some node) there is = record {
    node = node;
    there = there;
    is = (is.0, row_kind node entry.key (last_time events) entry.held (serves.served entry.node node there) is.0 is.1 is.2);
  }

  -- rows that stand for events of the schema are of the plan that it serves
  pub rows_fit : (plan : Tasks) (entries : List Entry) → Serves fields plan → AreRowsFor entries plan events → AreRowsOf fields plan entries
  rows_fit plan entries serves stands k d h =
      let e = get_or entries k d in
      let found : stands.cells e.node e.key ≡ Some e.held = (stands.lists.rows e.node e.key e.held).1 (k, h, here entries k d h) in
      row_of plan serves e (node_at plan e.node) refl (subst (RowIs (node_at plan e.node) e.key (last_time events) events) found (stands.stand e.node e.key))

-- a checkpoint that is true of events of the schema is fit for the plan that it serves
pub truthful_fits : (Spells : Spot → Type 0) (queries : List (List ℕ)) (fields : List Field) (plan : Tasks) (events : List Event) (checkpoint : Checkpoint) → Serves fields plan → All (IsEventOf fields) events → checkpoint.queries ≡ queries →
    IsTruthful Spells plan events checkpoint → IsFit Spells queries fields plan (length events) checkpoint
truthful_fits Spells queries fields plan events checkpoint serves are same is = record {
  queries_are = same;
  within = is.within;
  same = as_many Spells plan (take checkpoint.count events) checkpoint.spots is.spots;
  spelled = is.spots.spelled;
  rows = rows_fit fields (take checkpoint.count events) (All-take (IsEventOf fields) checkpoint.count events are) plan checkpoint.rows serves is.rows;
}
