-- Rising numbers of one kind as values with how often each is there.
use Rattle.std.proofs.Common.{◌≡◌, ℕ, zero, suc, ◌+◌, ◌<◌, ◌^◌, ◌==◌, Bool, true, false, List, [], ◌∷◌, ◌++◌, Option, Some, None, if◌then◌else◌, refl, ap, sym, ◌∙◌, subst, arith}
use Rattle.std.specs.Prelude.{⊤}
use Rattle.std.proofs.lemmas.Bool.{true≢false, eqb-true, eqb-false}
use Rattle.std.proofs.Math.ListN.{replicate}
use Rattle.rg_agg.specs.Standing.{AreCounts, IsLike, count_in, counts_sum, pairs_kind, places}
use Rattle.rg_agg.specs.Stands.{IsNumber}
use Rattle.rg_agg.specs.Unbeaten.{is_less}
use Rattle.rg_event.specs.Tagged.{value_kind}
use Rattle.rg_event.specs.declared.value.Kind.{Kind}
use Rattle.rg_event.specs.declared.value.Value.{Value}
use Rattle.rg_event.specs.declared.value.Value.TheVariants.{Int, Id}
use Rattle.rg_metric.specs.Answers.{number_of}
use Rattle.rg_metric.specs.Same.{same_value}
use Rattle.rg_metric.proofs.Laws.{same_value-true}
use Rattle.rg_multiset.specs.Pairs.{AreAlike, AreOf, AreRising, IsTally, OneMore, once}
use Rattle.rg_multiset.proofs.Laws.{alike_of, alike_with, listed, listed_length, all_there, places_first}
use Rattle.rg_rank.specs.Ranking.{AreAbove, IsRanking, Rise, is_there, lowered, put_first, with_one, without_one}
use Rattle.rg_rank.proofs.Changes.{above_through, less, less_sum, more, more_sum}
use Rattle.rg_rank.proofs.Order.{less_not_back, same_number}

-- the two ways to say that numbers rise

rising_of : (pairs : List (Value × ℕ)) → Rise pairs → AreRising is_less pairs
rising_of [] rise = tt
rising_of (p ∷ []) rise = tt
rising_of (p ∷ (q ∷ qs)) rise = (rise.0.0, rising_of (q ∷ qs) rise.1)

rise_of : (pairs : List (Value × ℕ)) → AreRising is_less pairs → Rise pairs
rise_of [] rising = tt
rise_of (p ∷ []) rising = (tt, tt)
rise_of (p ∷ (q ∷ qs)) rising =
    let rest = rise_of (q ∷ qs) rising.1 in
    ((rising.0, above_through p.0 q.0 qs rising.0 rest.0), rest)

pub ranking_of : (pairs : List (Value × ℕ)) → IsTally IsNumber is_less pairs → IsRanking pairs
ranking_of pairs is = record { few = is.few; there = all_there IsNumber pairs is.alike; rise = rise_of pairs is.rising }

pub tally_of : (pairs : List (Value × ℕ)) → IsRanking pairs → AreAlike IsNumber pairs → IsTally IsNumber is_less pairs
tally_of pairs is alike = record { few = is.few; alike = alike; rising = rising_of pairs is.rise }

-- values of one kind that are the same number are the same

pub same_of : (v w : Value) → value_kind v ≡ value_kind w → IsNumber v → IsNumber w → number_of v ≡ number_of w → v ≡ w
same_of (Int a) (Int b) like one two same = ap (λ n. Int n) same
same_of (Id a) (Id b) like one two same = let level : a ≡ b = cc in ap (λ n. Id n) level
same_of v w like one two same = cc

apart : (v w : Value) → is_less v w ≡ true → same_value v w ≡ false
apart v w is = by (same_value v w) refl
  where
    by : (b : Bool) → same_value v w ≡ b → same_value v w ≡ false
    by true same =
        let it : v ≡ w = same_value-true v w same in
        let turned : is_less w v ≡ true = subst (λ x. is_less x v ≡ true) it (subst (λ x. is_less v x ≡ true) (sym it) is) in
        absurd (true≢false (sym turned ∙ less_not_back v w is))
    by false same = same

apart_back : (v w : Value) → is_less w v ≡ true → same_value v w ≡ false
apart_back v w is = by (same_value v w) refl
  where
    by : (b : Bool) → same_value v w ≡ b → same_value v w ≡ false
    by true same =
        let it : v ≡ w = same_value-true v w same in
        let turned : is_less v w ≡ true = subst (λ x. is_less v x ≡ true) it (subst (λ x. is_less x v ≡ true) (sym it) is) in
        absurd (true≢false (sym turned ∙ less_not_back w v is))
    by false same = same

-- how often a value is there

pub none_above : (v : Value) (pairs : List (Value × ℕ)) → AreAbove v pairs → count_in v pairs ≡ 0
none_above v [] above = refl
none_above v (x ∷ xs) above = rw (apart v x.0 above.0) (none_above v xs above.1)

once_same : (u v w : Value) → v ≡ w → once u v ≡ once u w
once_same u v w same = ap (once u) same

pub more_counts : (kind : Kind) (v u : Value) (pairs : List (Value × ℕ)) → IsNumber v → value_kind v ≡ kind → AreOf IsNumber kind pairs → Rise pairs → count_in u (with_one v pairs) ≡ count_in u pairs + once u v
more_counts kind v u [] is like are rise = omega arith
more_counts kind v u (x ∷ xs) is like are rise = by (is_less v x.0) (is_less x.0 v) refl refl (more_counts kind v u xs is like are.3 rise.1)
  where
    front : (b : Bool) → same_value u v ≡ b → is_less v x.0 ≡ true → count_in u ((v, 1) ∷ (x ∷ xs)) ≡ count_in u (x ∷ xs) + once u v
    front true at one =
        let gone : count_in u (x ∷ xs) ≡ 0 = subst (λ w. count_in w (x ∷ xs) ≡ 0) (sym (same_value-true u v at)) (none_above v (x ∷ xs) (one, above_through v x.0 xs one rise.0)) in
        let here : once u v ≡ 1 = rw at refl in
        let new : count_in u ((v, 1) ∷ (x ∷ xs)) ≡ 1 = rw at refl in
        omega (arith, gone, here, new)
    front false at one =
        let here : once u v ≡ 0 = rw at refl in
        let new : count_in u ((v, 1) ∷ (x ∷ xs)) ≡ count_in u (x ∷ xs) = rw at refl in
        omega (arith, here, new)

    behind : (b : Bool) → same_value u x.0 ≡ b → is_less x.0 v ≡ true → count_in u (with_one v xs) ≡ count_in u xs + once u v → count_in u (x ∷ with_one v xs) ≡ count_in u (x ∷ xs) + once u v
    behind true at two rest =
        let here : once u v ≡ 0 = subst (λ w. once w v ≡ 0) (sym (same_value-true u x.0 at)) (rw (apart x.0 v two) refl) in
        rw at (omega (arith, here))
    behind false at two rest = rw at rest

    here : (b : Bool) → same_value u x.0 ≡ b → v ≡ x.0 → count_in u ((x.0, x.1 + 1) ∷ xs) ≡ count_in u (x ∷ xs) + once u v
    here true at same =
        let one : once u v ≡ 1 = once_same u v x.0 same ∙ rw at refl in
        rw at (omega (arith, one))
    here false at same =
        let none : once u v ≡ 0 = once_same u v x.0 same ∙ rw at refl in
        rw at (omega (arith, none))

    by : (b c : Bool) → is_less v x.0 ≡ b → is_less x.0 v ≡ c → count_in u (with_one v xs) ≡ count_in u xs + once u v → count_in u (with_one v (x ∷ xs)) ≡ count_in u (x ∷ xs) + once u v
    by true c one two rest = rw one (front (same_value u v) refl one)
    by false true one two rest = rw (one, two) (behind (same_value u x.0) refl two rest)
    by false false one two rest = rw (one, two) (here (same_value u x.0) refl (same_of v x.0 (like ∙ sym are.1) is are.0 (same_number v x.0 one two)))

pub less_counts : (kind : Kind) (v u : Value) (pairs : List (Value × ℕ)) → IsNumber v → value_kind v ≡ kind → AreOf IsNumber kind pairs → Rise pairs → is_there v pairs ≡ true → count_in u pairs ≡ count_in u (without_one v pairs) + once u v
less_counts kind v u [] is like are rise there = absurd (true≢false (sym there))
less_counts kind v u (x ∷ xs) is like are rise there = by (is_less v x.0) (is_less x.0 v) refl refl (less_counts kind v u xs is like are.3 rise.1)
  where
    behind : (b : Bool) → same_value u x.0 ≡ b → is_less x.0 v ≡ true → count_in u xs ≡ count_in u (without_one v xs) + once u v → count_in u (x ∷ xs) ≡ count_in u (x ∷ without_one v xs) + once u v
    behind true at two rest =
        let none : once u v ≡ 0 = subst (λ w. once w v ≡ 0) (sym (same_value-true u x.0 at)) (rw (apart x.0 v two) refl) in
        rw at (omega (arith, none))
    behind false at two rest = rw at rest

    lower : (b c : Bool) → same_value u x.0 ≡ b → (x.1 == 1) ≡ c → v ≡ x.0 → count_in u (x ∷ xs) ≡ count_in u (put_first x.0 (lowered x.1) xs) + once u v
    lower true true at last same =
        let one : once u v ≡ 1 = once_same u v x.0 same ∙ rw at refl in
        let gone : count_in u xs ≡ 0 = subst (λ w. count_in w xs ≡ 0) (sym (same_value-true u x.0 at)) (none_above x.0 xs rise.0) in
        rw (last, at) (omega (arith, one, gone, eqb-true _ _ last))
    lower true false at last same =
        let one : once u v ≡ 1 = once_same u v x.0 same ∙ rw at refl in
        rw (last, at) (omega (arith, one, are.2))
    lower false true at last same =
        let none : once u v ≡ 0 = once_same u v x.0 same ∙ rw at refl in
        rw (last, at) (omega (arith, none))
    lower false false at last same =
        let none : once u v ≡ 0 = once_same u v x.0 same ∙ rw at refl in
        rw (last, at) (omega (arith, none))

    by : (b c : Bool) → is_less v x.0 ≡ b → is_less x.0 v ≡ c → (is_there v xs ≡ true → count_in u xs ≡ count_in u (without_one v xs) + once u v) → count_in u (x ∷ xs) ≡ count_in u (without_one v (x ∷ xs)) + once u v
    by true c one two rest = absurd (true≢false (sym (rw one at there)))
    by false true one two rest = rw (one, two) (behind (same_value u x.0) refl two (rest (rw (one, two) at there)))
    by false false one two rest = rw (one, two) (lower (same_value u x.0) (x.1 == 1) refl refl (same_of v x.0 (like ∙ sym are.1) is are.0 (same_number v x.0 one two)))

pub absent_counts : (v : Value) (pairs : List (Value × ℕ)) → Rise pairs → is_there v pairs ≡ false → count_in v pairs ≡ 0
absent_counts v [] rise absent = refl
absent_counts v (x ∷ xs) rise absent = by (is_less v x.0) (is_less x.0 v) refl refl (absent_counts v xs rise.1)
  where
    by : (b c : Bool) → is_less v x.0 ≡ b → is_less x.0 v ≡ c → (is_there v xs ≡ false → count_in v xs ≡ 0) → count_in v (x ∷ xs) ≡ 0
    by true c one two rest = none_above v (x ∷ xs) (one, above_through v x.0 xs one rise.0)
    by false true one two rest = rw (apart_back v x.0 two) (rest (rw (one, two) at absent))
    by false false one two rest = absurd (true≢false (rw (one, two) at absent))

pub absent_same : (v : Value) (pairs : List (Value × ℕ)) → is_there v pairs ≡ false → without_one v pairs ≡ pairs
absent_same v [] absent = refl
absent_same v (x ∷ xs) absent = by (is_less v x.0) (is_less x.0 v) refl refl (absent_same v xs)
  where
    by : (b c : Bool) → is_less v x.0 ≡ b → is_less x.0 v ≡ c → (is_there v xs ≡ false → without_one v xs ≡ xs) → without_one v (x ∷ xs) ≡ x ∷ xs
    by true c one two rest = rw one refl
    by false true one two rest = rw (one, two) (ap (λ rest. x ∷ rest) (rest (rw (one, two) at absent)))
    by false false one two rest = absurd (true≢false (rw (one, two) at absent))

pub other_kind : (kind : Kind) (v : Value) (pairs : List (Value × ℕ)) → AreOf IsNumber kind pairs → (value_kind v ≡ kind → ⊥) → count_in v pairs ≡ 0
other_kind kind v [] are other = refl
other_kind kind v (x ∷ xs) are other = by (same_value v x.0) refl (other_kind kind v xs are.3 other)
  where
    by : (b : Bool) → same_value v x.0 ≡ b → count_in v xs ≡ 0 → count_in v (x ∷ xs) ≡ 0
    by true at rest = absurd (other (ap value_kind (same_value-true v x.0 at) ∙ are.1))
    by false at rest = rw at rest

-- all are of one kind

Counted : Option ℕ → Type 0
Counted None = ⊤
Counted (Some n) = 0 < n

are_put : (kind : Kind) (v : Value) (n : Option ℕ) (pairs : List (Value × ℕ)) → IsNumber v → value_kind v ≡ kind → Counted n → AreOf IsNumber kind pairs → AreOf IsNumber kind (put_first v n pairs)
unfolding Counted
are_put kind v None pairs is like some are = are
are_put kind v (Some n) pairs is like some are = (is, like, some, are)

pub more_are : (kind : Kind) (v : Value) (pairs : List (Value × ℕ)) → IsNumber v → value_kind v ≡ kind → AreOf IsNumber kind pairs → AreOf IsNumber kind (with_one v pairs)
more_are kind v [] is like are = (is, like, omega arith, tt)
more_are kind v (x ∷ xs) is like are = by (is_less v x.0) (is_less x.0 v) refl refl (more_are kind v xs is like are.3)
  where
    by : (b c : Bool) → is_less v x.0 ≡ b → is_less x.0 v ≡ c → AreOf IsNumber kind (with_one v xs) → AreOf IsNumber kind (with_one v (x ∷ xs))
    by true c one two rest = rw one (is, like, omega arith, are)
    by false true one two rest = rw (one, two) (are.0, are.1, are.2, rest)
    by false false one two rest = rw (one, two) (are.0, are.1, omega arith, are.3)

lowered_counted : (n : ℕ) → 0 < n → Counted (lowered n)
unfolding Counted
lowered_counted n some = by (n == 1) refl
  where
    by : (b : Bool) → (n == 1) ≡ b → Counted (lowered n)
    by true at = rw at tt
    by false at = rw at (omega (arith, some, eqb-false _ _ at))

pub less_are : (kind : Kind) (v : Value) (pairs : List (Value × ℕ)) → AreOf IsNumber kind pairs → AreOf IsNumber kind (without_one v pairs)
less_are kind v [] are = are
less_are kind v (x ∷ xs) are = by (is_less v x.0) (is_less x.0 v) refl refl (less_are kind v xs are.3)
  where
    by : (b c : Bool) → is_less v x.0 ≡ b → is_less x.0 v ≡ c → AreOf IsNumber kind (without_one v xs) → AreOf IsNumber kind (without_one v (x ∷ xs))
    by true c one two rest = rw one are
    by false true one two rest = rw (one, two) (are.0, are.1, are.2, rest)
    by false false one two rest = rw (one, two) (are_put kind x.0 (lowered x.1) xs are.0 are.1 (lowered_counted x.1 are.2) are.3)

-- tallies

pub tally_more : (v : Value) (pairs : List (Value × ℕ)) → IsNumber v → IsLike (pairs_kind pairs) v → counts_sum pairs < 2 ^ 40 → IsTally IsNumber is_less pairs → IsTally IsNumber is_less (with_one v pairs)
tally_more v pairs is like room tally =
    tally_of (with_one v pairs) (more v pairs room (ranking_of pairs tally)) (alike_of IsNumber (value_kind v) (with_one v pairs) (more_are (value_kind v) v pairs is refl (alike_with IsNumber v pairs tally.alike like)))

pub one_more : (v : Value) (pairs : List (Value × ℕ)) → IsNumber v → IsLike (pairs_kind pairs) v → IsTally IsNumber is_less pairs → OneMore v pairs (with_one v pairs)
one_more v pairs is like tally = record {
  size = more_sum v pairs;
  counts = λ u. more_counts (value_kind v) v u pairs is refl (alike_with IsNumber v pairs tally.alike like) (ranking_of pairs tally).rise;
}

less_alike : (v : Value) (pairs : List (Value × ℕ)) → AreAlike IsNumber pairs → AreAlike IsNumber (without_one v pairs)
less_alike v [] alike = alike
less_alike v (x ∷ xs) alike = alike_of IsNumber (value_kind x.0) (without_one v (x ∷ xs)) (less_are (value_kind x.0) v (x ∷ xs) (alike (value_kind x.0) refl))

pub tally_less : (v : Value) (pairs : List (Value × ℕ)) → IsTally IsNumber is_less pairs → IsTally IsNumber is_less (without_one v pairs)
tally_less v pairs tally = tally_of (without_one v pairs) (less v pairs (ranking_of pairs tally)) (less_alike v pairs tally.alike)

pub one_less : (v : Value) (pairs : List (Value × ℕ)) → IsNumber v → IsLike (pairs_kind pairs) v → IsTally IsNumber is_less pairs → is_there v pairs ≡ true → OneMore v (without_one v pairs) pairs
one_less v pairs is like tally there =
    let ranking = ranking_of pairs tally in
    let sum : counts_sum (without_one v pairs) + (if is_there v pairs then 1 else 0) ≡ counts_sum pairs = less_sum v pairs ranking.there in
    let here : ℕ = if is_there v pairs then 1 else 0 in
    let once : here ≡ 1 = ap (λ (b : Bool). let n : ℕ = if b then 1 else 0 in n) there in
    record {
      size = omega (arith, sum, once);
      counts = λ u. less_counts (value_kind v) v u pairs is refl (alike_with IsNumber v pairs tally.alike like) ranking.rise there;
    }

-- a list of values for pairs

repeated : (v w : Value) (n : ℕ) (values : List Value) → places v (replicate n w ++ values) ≡ (if same_value v w then n else 0) + places v values
repeated v w zero values = by (same_value v w) refl
  where
    by : (b : Bool) → same_value v w ≡ b → places v values ≡ (if same_value v w then 0 else 0) + places v values
    by true at = rw at (omega arith)
    by false at = rw at (omega arith)
repeated v w (suc n) values = by (same_value v w) refl (places_first v w (replicate n w ++ values)) (repeated v w n values)
  where
    by : (b : Bool) → same_value v w ≡ b → places v (w ∷ (replicate n w ++ values)) ≡ once v w + places v (replicate n w ++ values) → places v (replicate n w ++ values) ≡ (if same_value v w then n else 0) + places v values
        → places v (w ∷ (replicate n w ++ values)) ≡ (if same_value v w then suc n else 0) + places v values
    by true at first rest =
        let one : once v w ≡ 1 = rw at refl in
        let more : places v (replicate n w ++ values) ≡ n + places v values = rw at at rest in
        rw at (omega (arith, first, one, more))
    by false at first rest =
        let none : once v w ≡ 0 = rw at refl in
        let more : places v (replicate n w ++ values) ≡ 0 + places v values = rw at at rest in
        rw at (omega (arith, first, none, more))

listed_places : (v : Value) (pairs : List (Value × ℕ)) → Rise pairs → count_in v pairs ≡ places v (listed pairs)
listed_places v [] rise = refl
listed_places v (p ∷ ps) rise = by (same_value v p.0) refl (repeated v p.0 p.1 (listed ps)) (listed_places v ps rise.1)
  where
    by : (b : Bool) → same_value v p.0 ≡ b → places v (replicate p.1 p.0 ++ listed ps) ≡ (if same_value v p.0 then p.1 else 0) + places v (listed ps) → count_in v ps ≡ places v (listed ps)
        → count_in v (p ∷ ps) ≡ places v (replicate p.1 p.0 ++ listed ps)
    by true at here rest =
        let all : places v (replicate p.1 p.0 ++ listed ps) ≡ p.1 + places v (listed ps) = rw at at here in
        let none : count_in v ps ≡ 0 = subst (λ x. count_in x ps ≡ 0) (sym (same_value-true v p.0 at)) (none_above p.0 ps rise.0) in
        rw at (omega (arith, all, none, rest))
    by false at here rest =
        let all : places v (replicate p.1 p.0 ++ listed ps) ≡ 0 + places v (listed ps) = rw at at here in
        rw at (omega (arith, all, rest))

pub counts_first : (value : Value) (fewer more : List (Value × ℕ)) → OneMore value fewer more → IsTally IsNumber is_less fewer → IsTally IsNumber is_less more → (values : List Value) × AreCounts more (value ∷ values)
counts_first value fewer more one sound whole = (
  listed fewer,
  (
    omega (arith, one.size, listed_length fewer),
    λ v. omega (arith, one.counts v, listed_places v fewer (ranking_of fewer sound).rise, places_first v value (listed fewer)),
    all_there IsNumber more whole.alike,
  ),
)
