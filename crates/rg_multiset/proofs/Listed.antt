-- A list of values for pairs: each value as often as its count says.
use Rattle.std.proofs.Common.{◌≡◌, ℕ, zero, suc, ◌+◌, ◌<◌, Bool, true, false, List, [], ◌∷◌, ◌++◌, length, if◌then◌else◌, refl, ap, sym, ◌∙◌, subst, arith, length-append}
use Rattle.std.specs.Ordering.{is_lt, nat_cmp, ordering_reverse}
use Rattle.std.specs.Cmp.Lexicographic.{slice_cmp}
use Rattle.std.specs.declared.cmp.Ordering.{Ordering}
use Rattle.std.specs.declared.cmp.Ordering.TheVariants.{Less, Equal, Greater}
use Rattle.std.proofs.Math.ListN.{replicate}
use Rattle.std.proofs.lemmas.Bool.{true≢false}
use Rattle.std.proofs.lemmas.Cmp.{nat_list_cmp_total}
use Rattle.std.proofs.lemmas.List.{length-replicate}
use Rattle.rg_agg.specs.Standing.{AreCounts, count_in, counts_sum, places}
use Rattle.rg_event.specs.Tagged.{tagged_bytes}
use Rattle.rg_event.specs.declared.value.Value.{Value}
use Rattle.rg_metric.specs.Same.{same_value}
use Rattle.rg_metric.proofs.Laws.{same_value-true}
use Rattle.rg_multiset.specs.Pairs.{AreRising, IsTally, OneMore, once}
use Rattle.rg_multiset.specs.Reading.{is_before}
use Rattle.rg_multiset.proofs.Places.{all_there, places_first}

abbrev pub listed : List (Value × ℕ) → List Value
listed [] = []
listed (pair ∷ pairs) = replicate pair.1 pair.0 ++ listed pairs

pub listed_length : (pairs : List (Value × ℕ)) → length (listed pairs) ≡ counts_sum pairs
listed_length [] = refl
listed_length (p ∷ ps) = omega (arith, length-append (replicate p.1 p.0) (listed ps), length-replicate p.1 p.0, listed_length ps)

-- where the values rise by their bytes, each is counted by its own pair alone

repeated_places : (v w : Value) (n : ℕ) (values : List Value) → places v (replicate n w ++ values) ≡ (if same_value v w then n else 0) + places v values
repeated_places v w zero values = by (same_value v w) refl
  where
    by : (b : Bool) → same_value v w ≡ b → places v values ≡ (if same_value v w then 0 else 0) + places v values
    by true at = rw at (omega arith)
    by false at = rw at (omega arith)
repeated_places v w (suc n) values = by (same_value v w) refl (places_first v w (replicate n w ++ values)) (repeated_places v w n values)
  where
    by : (b : Bool) → same_value v w ≡ b → places v (w ∷ (replicate n w ++ values)) ≡ once v w + places v (replicate n w ++ values) → places v (replicate n w ++ values) ≡ (if same_value v w then n else 0) + places v values
        → places v (w ∷ (replicate n w ++ values)) ≡ (if same_value v w then suc n else 0) + places v values
    by true at first rest =
        let one : once v w ≡ 1 = rw at refl in
        let more : places v (replicate n w ++ values) ≡ n + places v values = rw at at rest in
        rw at (omega (arith, first, one, more))
    by false at first rest =
        let none : once v w ≡ 0 = rw at refl in
        let more : places v (replicate n w ++ values) ≡ 0 + places v values = rw at at rest in
        rw at (omega (arith, first, none, more))

less : (o : Ordering) → is_lt o ≡ true → o ≡ Less
less Less is = refl
less Equal is = cc
less Greater is = cc

before_through : (a b c : Value) → is_before a b ≡ true → is_before b c ≡ true → is_before a c ≡ true
before_through a b c one two = ap is_lt (nat_list_cmp_total.trans (tagged_bytes a) (tagged_bytes b) (tagged_bytes c) (less _ one) (less _ two))

not_itself : (o : Ordering) → o ≡ Less → o ≡ ordering_reverse o → ⊥
not_itself Less is turned = cc
not_itself o is turned = cc

never_before : (a : Value) → is_before a a ≡ true → ⊥
never_before a is = not_itself (slice_cmp nat_cmp (tagged_bytes a) (tagged_bytes a)) (less _ is) (nat_list_cmp_total.antisymm (tagged_bytes a) (tagged_bytes a))

none_behind : (v : Value) (p : Value × ℕ) (ps : List (Value × ℕ)) → is_before v p.0 ≡ true → AreRising is_before (p ∷ ps) → count_in v (p ∷ ps) ≡ 0
none_behind v p [] before rise = by (same_value v p.0) refl
  where
    by : (b : Bool) → same_value v p.0 ≡ b → count_in v (p ∷ []) ≡ 0
    by true at = absurd (never_before v (subst (λ x. is_before v x ≡ true) (sym (same_value-true v p.0 at)) before))
    by false at = rw at refl
none_behind v p (q ∷ qs) before rise = by (same_value v p.0) refl (none_behind v q qs (before_through v p.0 q.0 before rise.0) rise.1)
  where
    by : (b : Bool) → same_value v p.0 ≡ b → count_in v (q ∷ qs) ≡ 0 → count_in v (p ∷ (q ∷ qs)) ≡ 0
    by true at rest = absurd (never_before v (subst (λ x. is_before v x ≡ true) (sym (same_value-true v p.0 at)) before))
    by false at rest = rw at rest

once_there : (p : Value × ℕ) (ps : List (Value × ℕ)) → AreRising is_before (p ∷ ps) → count_in p.0 ps ≡ 0
once_there p [] rise = refl
once_there p (q ∷ qs) rise = none_behind p.0 q qs rise.0 rise.1

rising_rest : (p : Value × ℕ) (ps : List (Value × ℕ)) → AreRising is_before (p ∷ ps) → AreRising is_before ps
rising_rest p [] rise = tt
rising_rest p (q ∷ qs) rise = rise.1

listed_places : (v : Value) (pairs : List (Value × ℕ)) → AreRising is_before pairs → count_in v pairs ≡ places v (listed pairs)
listed_places v [] rise = refl
listed_places v (p ∷ ps) rise = by (same_value v p.0) refl (repeated_places v p.0 p.1 (listed ps)) (listed_places v ps (rising_rest p ps rise))
  where
    by : (b : Bool) → same_value v p.0 ≡ b → places v (replicate p.1 p.0 ++ listed ps) ≡ (if same_value v p.0 then p.1 else 0) + places v (listed ps) → count_in v ps ≡ places v (listed ps)
        → count_in v (p ∷ ps) ≡ places v (replicate p.1 p.0 ++ listed ps)
    by true at here rest =
        let all : places v (replicate p.1 p.0 ++ listed ps) ≡ p.1 + places v (listed ps) = rw at at here in
        let none : count_in v ps ≡ 0 = subst (λ x. count_in x ps ≡ 0) (sym (same_value-true v p.0 at)) (once_there p ps rise) in
        rw at (omega (arith, all, none, rest))
    by false at here rest =
        let all : places v (replicate p.1 p.0 ++ listed ps) ≡ 0 + places v (listed ps) = rw at at here in
        rw at (omega (arith, all, rest))

-- pairs with one value more are those of a list that begins with it
pub counts_first : (legal : Value → Type 0) (value : Value) (fewer more : List (Value × ℕ)) → OneMore value fewer more → IsTally legal is_before fewer → IsTally legal is_before more → (values : List Value) × AreCounts more (value ∷ values)
counts_first legal value fewer more one sound whole = (
  listed fewer,
  (
    omega (arith, one.size, listed_length fewer),
    λ v. omega (arith, one.counts v, listed_places v fewer sound.rising, places_first v value (listed fewer)),
    all_there legal more whole.alike,
  ),
)
