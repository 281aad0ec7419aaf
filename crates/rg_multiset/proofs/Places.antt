-- The lists of values that pairs stand for, with one value more at the back and one less at the front.
use Rattle.std.proofs.Common.{◌≡◌, ℕ, ◌+◌, ◌<◌, List, [], ◌∷◌, ◌++◌, if◌then◌else◌, refl, ap, sym, ◌∙◌, arith, length-append, Bool, true, false, subst}
use Rattle.std.proofs.lemmas.Bool.{true≢false}
use Rattle.std.proofs.lemmas.List.Sums.{sum_by-append, sum_by-cons}
use Rattle.rg_agg.specs.Standing.{AreCounts, AreThere, count_in, places}
use Rattle.rg_event.specs.Tagged.{value_kind}
use Rattle.rg_event.specs.declared.value.Kind.{Kind}
use Rattle.rg_event.specs.declared.value.Value.{Value}
use Rattle.rg_metric.specs.Same.{same_value}
use Rattle.rg_metric.proofs.Laws.{same_value-true, same_value-same}
use Rattle.rg_multiset.specs.Pairs.{once, AreAlike, AreOf, IsTally, OneMore}

-- a test that fails one way fails the other way
pub other_way : (v w : Value) → same_value v w ≡ false → same_value w v ≡ false
other_way v w fails = by (same_value w v) refl
  where
    by : (b : Bool) → same_value w v ≡ b → same_value w v ≡ false
    by true is = let holds : same_value v w ≡ true = rw (same_value-true w v is) (same_value-same v) in absurd (true≢false (sym holds ∙ fails))
    by false is = is

pub places_first : (v w : Value) (values : List Value) → places v (w ∷ values) ≡ once v w + places v values
places_first v w values = sum_by-cons (λ x. if same_value v x then 1 else 0) w values

pub first_place : (v : Value) (values : List Value) → 0 < places v (v ∷ values)
first_place v values =
    let one : once v v ≡ 1 = rw (same_value-same v) refl in
    omega (arith, one, places_first v v values)

places_more : (v : Value) (values : List Value) (value : Value) → places v (values ++ value ∷ []) ≡ places v values + once v value
places_more v values value = sum_by-append (λ x. if same_value v x then 1 else 0) values (value ∷ []) ∙ omega arith

of_there : (legal : Value → Type 0) (kind : Kind) (pairs : List (Value × ℕ)) → AreOf legal kind pairs → AreThere pairs
of_there legal kind [] are = tt
of_there legal kind (pair ∷ pairs) are = (are.2, of_there legal kind pairs are.3)

-- each value of a tally is there at least once
pub all_there : (legal : Value → Type 0) (pairs : List (Value × ℕ)) → AreAlike legal pairs → AreThere pairs
all_there legal [] alike = tt
all_there legal (pair ∷ pairs) alike = of_there legal (value_kind pair.0) (pair ∷ pairs) (alike (value_kind pair.0) refl)

pub counts_more : (legal : Value → Type 0) (below : Value → Value → Bool) (value : Value) (fewer more : List (Value × ℕ)) (values : List Value) → OneMore value fewer more → IsTally legal below more → AreCounts fewer values → AreCounts more (values ++ value ∷ [])
counts_more legal below value fewer more values one sound are = (
  omega (arith, one.size, are.0, length-append values (value ∷ [])),
  λ v. one.counts v ∙ ap (λ n. n + once v value) (are.1 v) ∙ sym (places_more v values value),
  all_there legal more sound.alike,
)

pub counts_less : (legal : Value → Type 0) (below : Value → Value → Bool) (value : Value) (fewer more : List (Value × ℕ)) (values : List Value) → OneMore value fewer more → IsTally legal below fewer → AreCounts more (value ∷ values) → AreCounts fewer values
counts_less legal below value fewer more values one sound are = (
  omega (arith, one.size, are.0),
  λ v. omega (arith, one.counts v, are.1 v, places_first v value values),
  all_there legal fewer sound.alike,
)

-- a value that isn't there is the first one of no list
pub none_first : (value : Value) (pairs : List (Value × ℕ)) (values : List Value) → count_in value pairs ≡ 0 → AreCounts pairs (value ∷ values) → ⊥
none_first value pairs values none are =
    let one : once value value ≡ 1 = rw (same_value-same value) refl in
    omega (arith, none, one, are.1 value, places_first value value values)

legal_of : (legal : Value → Type 0) (kind : Kind) (pairs : List (Value × ℕ)) (v : Value) → AreOf legal kind pairs → 0 < count_in v pairs → legal v
legal_of legal kind [] v are some = absurd (omega (arith, some))
legal_of legal kind (pair ∷ pairs) v are some = by (same_value v pair.0) refl (λ h. legal_of legal kind pairs v are.3 h)
  where
    by : (b : Bool) → same_value v pair.0 ≡ b → (0 < count_in v pairs → legal v) → legal v
    by true is rest = subst legal (sym (same_value-true v pair.0 is)) are.0
    by false is rest = rest (rw is at some)

-- a value that is there is one that may be kept
pub legal_there : (legal : Value → Type 0) (pairs : List (Value × ℕ)) (v : Value) → AreAlike legal pairs → 0 < count_in v pairs → legal v
legal_there legal [] v alike some = absurd (omega (arith, some))
legal_there legal (pair ∷ pairs) v alike some = legal_of legal (value_kind pair.0) (pair ∷ pairs) v (alike (value_kind pair.0) refl) some

-- and so is the first one of a list that is counted
pub legal_first : (legal : Value → Type 0) (pairs : List (Value × ℕ)) (v : Value) (values : List Value) → AreAlike legal pairs → AreCounts pairs (v ∷ values) → legal v
legal_first legal pairs v values alike counts =
    let one : once v v ≡ 1 = rw (same_value-same v) refl in
    legal_there legal pairs v alike (omega (arith, one, counts.1 v, places_first v v values))
