-- The columns of a schema serve the plan of queries that are legal over it.
use Rattle.std.proofs.Common.{◌≡◌, ◌⊎◌, inl, inr, ℕ, zero, suc, ◌<◌, ◌+◌, Bool, true, false, List, [], ◌∷◌, map, slice_get, Option, Some, None, refl, ap, sym, ◌∙◌, subst, arith}
use Rattle.std.specs.Option.{ForSome}
use Rattle.std.specs.Prelude.{All, flat_map, bytes_eq, if◌then◌else◌}
use Rattle.std.proofs.lemmas.List.Elements.{All-nil, All-head, All-tail, All-append, All-map, All-weaker}
use Rattle.rg_event.specs.Codec.{IsValueOf, IsEventOf}
use Rattle.rg_event.specs.Shapes.{Shape}
use Rattle.rg_event.specs.Tagged.{IsLegal as IsLegalValue, value_kind}
use Rattle.rg_event.specs.declared.event.Event.{Event}
use Rattle.rg_event.specs.declared.schema.Field.{Field}
use Rattle.rg_event.specs.declared.value.Kind.{Kind}
use Rattle.rg_event.specs.declared.value.Kind.TheVariants as kind
use Rattle.rg_event.specs.declared.value.Value.{Value}
use Rattle.rg_event.specs.declared.value.Value.TheVariants.{Int, Id, Text, Flag}
use Rattle.rg_keywords.specs.declared.func.Func.{Func}
use Rattle.rg_keywords.specs.declared.func.Func.TheVariants.{Count, Sum, Avg, SumSq, Min, Max, CountDistinct, First, Last, Median, Pct}
use Rattle.rg_metric.specs.Queries.{Asked}
use Rattle.rg_metric.specs.declared.query.Agg.{Agg}
use Rattle.rg_plan.specs.declared.node.AggNode.{AggNode}
use Rattle.rg_plan.specs.Nodes.{same_window, same_agg}
use Rattle.rg_plan.specs.Plans.{plan_for, windows_of, filters_of, groups_of, aggs_of, aggs_in, agg_under, group_number}
use Rattle.rg_plan.proofs.Laws.{All-distinct}
use Rattle.rg_query.specs.Legal.{IsOperand, IsLegalAgg, AreLegalAggs, IsLegalLength, IsLegalQuery}
use Rattle.rg_query.specs.Printing.{name_at}
use Rattle.rg_query.specs.Resolving.{column_from}
use Rattle.rg_metric.specs.Admitted.{IsAdmitted, takes}
use Rattle.rg_engine.specs.Feeding.{IsServed, IsLasting, Serves, IsFed}
use Rattle.rg_engine.proofs.Serving.{serves_from}

-- each value of a kind that a function takes is one that it is given

kind_is : (k : Kind) (value : Value) → IsValueOf k value → k ≡ value_kind value
kind_is kind.Int (Int number) h = refl
kind_is kind.Id (Id number) h = refl
kind_is kind.Text (Text text) h = refl
kind_is kind.Flag (Flag flag) h = refl
kind_is k value h = absurd h

legal_is : (k : Kind) (value : Value) → IsValueOf k value → IsLegalValue value
legal_is k value h = subst (λ j. IsValueOf j value) (kind_is k value h) h

all_admitted : (func : Func) (k : Kind) (value : Value) → takes func k ≡ true → IsValueOf k value → IsAdmitted func value
all_admitted Count k value t h = tt
all_admitted Sum k value t h = (subst (λ j. takes Sum j ≡ true) (kind_is k value h) t, legal_is k value h)
all_admitted Avg k value t h = (subst (λ j. takes Avg j ≡ true) (kind_is k value h) t, legal_is k value h)
all_admitted SumSq k value t h = (subst (λ j. takes SumSq j ≡ true) (kind_is k value h) t, legal_is k value h)
all_admitted Min k value t h = (subst (λ j. takes Min j ≡ true) (kind_is k value h) t, legal_is k value h)
all_admitted Max k value t h = (subst (λ j. takes Max j ≡ true) (kind_is k value h) t, legal_is k value h)
all_admitted CountDistinct k value t h = (subst (λ j. takes CountDistinct j ≡ true) (kind_is k value h) t, legal_is k value h)
all_admitted First k value t h = (subst (λ j. takes First j ≡ true) (kind_is k value h) t, legal_is k value h)
all_admitted Last k value t h = (subst (λ j. takes Last j ≡ true) (kind_is k value h) t, legal_is k value h)
all_admitted Median k value t h = (subst (λ j. takes Median j ≡ true) (kind_is k value h) t, legal_is k value h)
all_admitted (Pct percent) k value t h = (subst (λ j. takes (Pct percent) j ≡ true) (kind_is k value h) t, legal_is k value h)

-- a column that is found by its name is one of the columns, with its kind
record IsThere (k : ℕ) (fields : List Field) (n : ℕ) (kind : Kind) : Type 0 where
  ahead : ℕ
  counted : n ≡ k + ahead
  field : Field
  there : slice_get fields ahead ≡ Some field
  same : field.kind ≡ kind

found_there : (k : ℕ) (fields : List Field) (name : List ℕ) (n : ℕ) (kind : Kind) → column_from k fields name ≡ Some (n, kind) → IsThere k fields n kind
found_there k [] name n kind e = absurd (cc)
found_there k (field ∷ fields) name n kind e = by_test (bytes_eq field.name name) e (λ f. found_there (k + 1) fields name n kind f)
  where
    by_test : (same : Bool) → (if same then Some (k, field.kind) else column_from (k + 1) fields name) ≡ Some (n, kind)
        → (column_from (k + 1) fields name ≡ Some (n, kind) → IsThere (k + 1) fields n kind) → IsThere k (field ∷ fields) n kind
    by_test true f next =
        let both : ◌≡◌ {A = ℕ × Kind} (k, field.kind) (n, kind) = cc in
        let here : k ≡ n = ap (λ (x : ℕ × Kind). x.0) both in
        record { ahead = 0; counted = omega (arith, here); field = field; there = refl; same = ap (λ (x : ℕ × Kind). x.1) both }
    by_test false f next =
        let r : IsThere (k + 1) fields n kind = next f in
        record { ahead = suc r.ahead; counted = omega (arith, r.counted); field = r.field; there = r.there; same = r.same }

column_serves : (shape : Shape) (agg : Agg) (field : ℕ) → agg.field ≡ field → IsOperand shape agg.func field → IsServed shape.fields agg
column_serves shape agg zero is operand = inl (is, operand)
column_serves shape agg (suc n) is operand =
    let r : IsThere 1 shape.fields (suc n) operand.kind = found_there 1 shape.fields (name_at (suc n) shape.fields) (suc n) operand.kind operand.found in
    let here : suc n ≡ suc r.ahead = omega (arith, r.counted) in
    inr (record {
      column = r.ahead;
      is = is ∙ here;
      field = r.field;
      found = r.there;
      takes = λ value fits. all_admitted agg.func operand.kind value operand.taken (subst (λ k. IsValueOf k value) r.same fits);
    })

all_served : (shape : Shape) (aggs : List Agg) → AreLegalAggs shape aggs → All (IsServed shape.fields) aggs
all_served shape [] legal = absurd legal
all_served shape (agg ∷ aggs) legal = All-weaker (IsLegalAgg shape) (IsServed shape.fields) (λ a operand. column_serves shape a a.field refl operand) (agg ∷ aggs) legal

-- a window that ends lasts
lasts : (length : Option ℕ) → IsLegalLength length → ForSome length (λ n. 0 < n)
lasts None legal n is = absurd (cc)
lasts (Some m) legal n is = let same : m ≡ n = cc in omega (arith, legal.0, same)

module _ (shape : Shape) (qs : List Asked) (legal : All (IsLegalQuery shape) qs) where
  abbrev Served : AggNode → Type 0
  Served node = IsServed shape.fields node.agg

  uses_served : (xs : List Asked) → All (IsLegalQuery shape) xs → All Served (flat_map (aggs_in (windows_of qs) (filters_of qs) (groups_of qs)) xs)
  uses_served [] h = All-nil Served
  uses_served (x ∷ xs) h =
      All-append Served (aggs_in (windows_of qs) (filters_of qs) (groups_of qs) x) (flat_map (aggs_in (windows_of qs) (filters_of qs) (groups_of qs)) xs)
      (All-map Served (agg_under (group_number (windows_of qs) (filters_of qs) (groups_of qs) x)) x.aggs (all_served shape x.aggs (All-head (IsLegalQuery shape) x xs h).aggs))
      (uses_served xs (All-tail (IsLegalQuery shape) x xs h))

  aggs_served : All Served (aggs_of qs)
  aggs_served = All-distinct same_agg Served (flat_map (aggs_in (windows_of qs) (filters_of qs) (groups_of qs)) qs) (uses_served qs legal)

  windows_last : All IsLasting (windows_of qs)
  windows_last =
      All-distinct same_window IsLasting (map (λ (q : Asked). q.window) qs)
      (All-map IsLasting (λ (q : Asked). q.window) qs (All-weaker (IsLegalQuery shape) (λ (q : Asked). IsLasting q.window) (λ q h. lasts q.window.length h.length) qs legal))

pub serves : (shape : Shape) (qs : List Asked) → All (IsLegalQuery shape) qs → Serves shape.fields (plan_for qs)
serves shape qs legal = serves_from shape.fields (plan_for qs) (aggs_served shape qs legal) (windows_last shape qs legal)

pub are_fed : (shape : Shape) (qs : List Asked) (events : List Event) → All (IsLegalQuery shape) qs → All (IsEventOf shape.fields) events → IsFed (plan_for qs) events
are_fed shape qs events legal are = record { fields = shape.fields; serves = serves shape qs legal; are = are }
