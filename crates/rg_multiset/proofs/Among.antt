-- What the entries of a map say of the values that are there.
use Rattle.std.proofs.Common.{◌≡◌, ℕ, ◌<◌, ◌≤◌, ◌^◌, Bool, true, false, List, [], ◌∷◌, Some, refl, ap, sym, subst, arith}
use Rattle.std.specs.Prelude.{slice_get}
use Rattle.std.specs.List.{All}
use Rattle.std.specs.List.Sorted.{IsStrictlySortedBy}
use Rattle.std.specs.Map.{keys_of}
use Rattle.std.specs.declared.cmp.Ordering.{Ordering}
use Rattle.std.proofs.lemmas.List.Elements.{All-head, All-tail}
use Rattle.rg_agg.specs.Standing.{AreCounts, IsLike, counts_sum, count_in, pairs_kind, places}
use Rattle.rg_event.specs.Tagged.{value_kind}
use Rattle.rg_event.specs.declared.value.Kind.{Kind}
use Rattle.rg_event.specs.declared.value.Kind.TheVariants.{Int}
use Rattle.rg_event.specs.declared.value.Value.{Value}
use Rattle.rg_metric.specs.Same.{same_value}
use Rattle.rg_metric.proofs.Laws.{same_value-true, same_value-same}
use Rattle.rg_multiset.specs.Pairs.{pairs_by, once, AreOf, AreAlike, IsTally}
use Rattle.rg_multiset.proofs.Counting.{some_same}
use Rattle.rg_multiset.proofs.Kept.{some_kind, alike_with, alike_of}
use Rattle.rg_multiset.proofs.Order.{Orders, rising}
use Rattle.rg_multiset.proofs.Places.{places_first}

-- the pairs of a map are a tally
pub sound_of : {K : Type 0} (cmp : K → K → Ordering) (f : K → Value) (legal : Value → Type 0) (below : Value → Value → Bool) → Orders cmp f legal below → (es : List (K × ℕ)) → IsStrictlySortedBy cmp (keys_of es) → AreAlike legal (pairs_by f es) → counts_sum (pairs_by f es) ≤ 2 ^ 40 → IsTally legal below (pairs_by f es)
sound_of cmp f legal below orders es sorted alike few =
    let kind = some_kind legal (pairs_by f es) Int alike in
    record { few = few; alike = alike; rising = rising cmp f legal below kind.0 orders es sorted kind.1 }

pub alike_added : (legal : Value → Type 0) (value : Value) (old new : List (Value × ℕ)) → AreAlike legal old → IsLike (pairs_kind old) value → (AreOf legal (value_kind value) old → AreOf legal (value_kind value) new) → AreAlike legal new
alike_added legal value old new alike like kept = alike_of legal (value_kind value) new (kept (alike_with legal value old alike like))

pub alike_kept : (legal : Value → Type 0) (old new : List (Value × ℕ)) → AreAlike legal old → ((kind : Kind) → AreOf legal kind old → AreOf legal kind new) → AreAlike legal new
alike_kept legal old new alike kept = let kind = some_kind legal old Int alike in alike_of legal kind.0 new (kept kind.0 kind.1)

-- the first entry
pub first_there : {K : Type 0} (f : K → Value) (legal : Value → Type 0) (es : List (K × ℕ)) (k : K) (n : ℕ) → AreAlike legal (pairs_by f es) → slice_get es 0 ≡ Some (k, n) → legal (f k) × (0 < count_in (f k) (pairs_by f es))
first_there f legal [] k n alike is = cc
first_there {K} f legal (e ∷ es) k n alike is =
    let are = alike (value_kind (f e.0)) refl in
    let same : e ≡ (k, n) = some_same is in
    let one : f e.0 ≡ f k = ap (λ (p : K × ℕ). f p.0) same in
    let P : Value → Type 0 = λ v. legal v × (0 < count_in v (pairs_by f (e ∷ es))) in
    subst P one (are.0, rw (same_value-same (f e.0)) are.2)

pub first_kind_is : {K : Type 0} (f : K → Value) (es : List (K × ℕ)) (k : K) (n : ℕ) → slice_get es 0 ≡ Some (k, n) → pairs_kind (pairs_by f es) ≡ Some (value_kind (f k))
first_kind_is f [] k n is = cc
first_kind_is {K} f (e ∷ es) k n is = ap (λ (p : K × ℕ). Some (value_kind (f p.0))) (some_same is)

-- what holds of each value of a list holds of one that has a place in it
pub place_holds : (P : Value → Type 0) (v : Value) (values : List Value) → All P values → 0 < places v values → P v
place_holds P v [] all some = absurd (omega (arith, some))
place_holds P v (w ∷ ws) all some = by (same_value v w) refl (λ h. place_holds P v ws (All-tail P w ws all) h)
  where
    by : (b : Bool) → same_value v w ≡ b → (0 < places v ws → P v) → P v
    by true same rest = subst P (sym (same_value-true v w same)) (All-head P w ws all)
    by false same rest =
        let no : once v w ≡ 0 = rw same refl in
        rest (omega (arith, some, no, places_first v w ws))

-- a kind that all values of a list have is that of the pairs
pub kind_of_all : {K : Type 0} (f : K → Value) (legal : Value → Type 0) (es : List (K × ℕ)) (k : K) (n : ℕ) (values : List Value) (value : Value) → AreAlike legal (pairs_by f es) → slice_get es 0 ≡ Some (k, n) → AreCounts (pairs_by f es) values → All (λ v. value_kind v ≡ value_kind value) values → value_kind value ≡ value_kind (f k)
kind_of_all f legal es k n values value alike is counts all =
    let there = (first_there f legal es k n alike is).1 in
    sym (place_holds (λ v. value_kind v ≡ value_kind value) (f k) values all (omega (arith, there, counts.1 (f k))))
