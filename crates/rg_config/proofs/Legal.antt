-- What follows of queries that are legal and within their bounds.
use Rattle.std.proofs.Common.{◌≡◌, ◌∙◌, refl, ap, sym, subst, ℕ, suc, ◌+◌, ◌≤◌, ◌<◌, ◌^◌, Bool, true, false, nat_le, nat_lt, if◌then◌else◌, List, [], ◌∷◌, ◌++◌, length, map, Option, Some, None, Result, Ok, Err, All, arith}
use Rattle.std.specs.Option.{ForSome}
use Rattle.std.proofs.lemmas.List.Elements.{All-push, All-weaker}
use Rattle.rg_event.specs.Shapes.{Shape}
use Rattle.rg_metric.specs.Queries.{Asked, asked}
use Rattle.rg_metric.specs.declared.query.Agg.{Agg}
use Rattle.rg_metric.specs.declared.query.Query.{Query as Read}
use Rattle.rg_plan.specs.Named.{HasAgg, asked_by}
use Rattle.rg_plan.specs.Offsets.{IsMeasured}
use Rattle.rg_plan.specs.Plans.{Tasks as TaskPlanned, is_too_many, excess_from, excess, plan_for}
use Rattle.rg_plan.proofs.Laws.{asked_back}
use Rattle.rg_query.specs.Legal.{IsLegalQuery, IsLegalLength, AreLegalAggs}
use Rattle.rg_query.specs.declared.fault.QueryFault.{QueryFault}
use Rattle.rg_config.specs.Plans.{AllTaken, judged, excess_in, unless}
use Rattle.rg_config.specs.declared.fault.QueryRefusal.{QueryRefusal}
use Rattle.rg_config.specs.declared.fault.QueryRefusal.TheVariants.{TooManyAggs, TooManyColumns}
use Rattle.rg_config.proofs.Taken.{one_at_the_end}

-- their windows are at most 10^15 milliseconds

measured_length : (length : Option ℕ) → IsLegalLength length → ForSome length (λ n. n ≤ 10 ^ 15)
measured_length None h m is = absurd (cc)
measured_length (Some n) h m is = let same : n ≡ m = cc in omega (arith, h.1, same)

measured_window : (shape : Shape) (q : Asked) → IsLegalQuery shape q → IsMeasured q.window
measured_window shape q h = record { delay = omega (arith, h.delay); length = measured_length q.window.length h.length }

pub measured : (shape : Shape) (qs : List Asked) → All (IsLegalQuery shape) qs → All (λ (q : Asked). IsMeasured q.window) qs
measured shape qs h = All-weaker (IsLegalQuery shape) (λ (q : Asked). IsMeasured q.window) (measured_window shape) qs h

-- each has an aggregator

some_agg : (shape : Shape) (aggs : List Agg) → AreLegalAggs shape aggs → 0 < length aggs
some_agg shape [] h = absurd h
some_agg shape (agg ∷ aggs) h = omega arith

pub some_aggs : (shape : Shape) (qs : List Asked) → All (IsLegalQuery shape) qs → All HasAgg qs
some_aggs shape qs h = All-weaker (IsLegalQuery shape) HasAgg (λ q legal. some_agg shape q.aggs legal.aggs) qs h

-- those that are taken are few enough, and small enough

not_enough : (n : ℕ) → n < 64 → nat_le 64 n ≡ false
not_enough n h = grind (arith, h)

by_aggs : (many wide : Bool) → (if many then Some TooManyAggs else if wide then Some TooManyColumns else None) ≡ None → many ≡ false
by_aggs true wide is = absurd (cc is)
by_aggs false wide is = refl

by_columns : (many wide : Bool) → (if many then Some TooManyAggs else if wide then Some TooManyColumns else None) ≡ None → wide ≡ false
by_columns true wide is = absurd (cc is)
by_columns false true is = absurd (cc is)
by_columns false false is = refl

-- a query without an excess has few enough parts
no_excess : (q : Asked) → excess_in q ≡ None → (nat_lt 16 (length q.aggs) ≡ false) × (nat_lt 8 (length q.group) ≡ false)
no_excess q none = (by_aggs (nat_lt 16 (length q.aggs)) (nat_lt 8 (length q.group)) none, by_columns (nat_lt 16 (length q.aggs)) (nat_lt 8 (length q.group)) none)

kept : (q r : Asked) (excess : Option QueryRefusal) → unless q excess ≡ Ok r → (q ≡ r) × (excess ≡ None)
kept q r None is = (cc is, refl)
kept q r (Some refusal) is = absurd (cc is)

judged_well : (read : Result Asked QueryFault) (q : Asked) → judged read ≡ Ok q → excess_in q ≡ None
judged_well (Ok asked) q is = let both = kept asked q (excess_in asked) is in ap excess_in (sym both.0) ∙ both.1
judged_well (Err fault) q is = absurd (cc is)

few_parts : (number : ℕ) (q : Asked) → number < 64 → excess_in q ≡ None → is_too_many number q ≡ false
few_parts number q few none =
    let parts = no_excess q none in
    rw (not_enough number few, parts.0, parts.1) refl

none_large : (number : ℕ) (shape : Shape) (texts : List (List ℕ)) (qs : List Asked) → AllTaken number shape texts qs → excess_from number qs ≡ None
none_large number shape [] [] all = refl
none_large number shape [] (q ∷ qs) all = absurd all
none_large number shape (text ∷ texts) [] all = absurd all
none_large number shape (text ∷ texts) (q ∷ qs) all =
    let next : suc number ≡ number + 1 = omega arith in
    rw (few_parts number q all.0.few (judged_well all.0.read q all.0.is)) (subst (λ n. excess_from n qs ≡ None) next (none_large (suc number) shape texts qs all.1))

pub none_excess : (shape : Shape) (texts : List (List ℕ)) (qs : List Asked) → AllTaken 0 shape texts qs → excess qs ≡ None
none_excess shape texts qs all = none_large 0 shape texts qs all

-- one more legal query
pub legal_pushed :
    (shape : Shape) (old new : List Read) (query : Read) → new ≡ old ++ query ∷ [] → All (IsLegalQuery shape) (map asked old) → IsLegalQuery shape (asked query)
    → All (IsLegalQuery shape) (map asked new)
legal_pushed shape old new query is all legal =
    subst (All (IsLegalQuery shape)) (sym (ap (map asked) is ∙ one_at_the_end asked old query)) (All-push (IsLegalQuery shape) (map asked old) (asked query) all legal)

-- they are read back from their plan
pub asked_again : (task : TaskPlanned) (qs : List Asked) → task ≡ plan_for qs → All HasAgg qs → asked_by task ≡ qs
asked_again task qs is some = ap asked_by is ∙ asked_back qs some
