-- The numbers of pairs in rising order, and the one at a place.
use Rattle.std.proofs.Common.{◌≡◌, ℕ, zero, suc, ◌+◌, ◌-◌, ◌*◌, ◌/◌, ◌<◌, ◌≤◌, ◌==◌, ℤ, Bool, true, false, List, [], ◌∷◌, ◌++◌, length, Some, if◌then◌else◌, refl, ap, sym, ◌∙◌, arith}
use Rattle.std.specs.Prelude.{int_lt, nat_le, nat_lt, ◌&&◌}
use Rattle.std.proofs.Math.ListN.{replicate}
use Rattle.std.proofs.lemmas.Bool.{true≢false, and_from, eqb-true, ltb-true, ltb-false, le-leb}
use Rattle.std.proofs.lemmas.Grind.{common_steps}
use Rattle.rg_agg.specs.Standing.{AreCounts, AreThere, IsLike, count_in, counts_sum, pairs_kind}
use Rattle.rg_agg.specs.Stands.{IsNumber}
use Rattle.rg_agg.specs.Unbeaten.{is_less}
use Rattle.rg_event.specs.Tagged.{value_kind}
use Rattle.rg_event.specs.declared.value.Kind.{Kind}
use Rattle.rg_event.specs.declared.value.Value.{Value}
use Rattle.rg_metric.specs.Answers.{in_order, number_at, number_of, numbers, percentile, put_in}
use Rattle.rg_metric.specs.declared.answer.Answer.TheVariants.{Number, Dash}
use Rattle.rg_multiset.specs.Pairs.{AreOf, IsTally}
use Rattle.rg_metric.specs.Same.{same_value}
use Rattle.rg_metric.proofs.Laws.{same_value-true}
use Rattle.rg_multiset.proofs.Laws.{counts_less, first_place, legal_first, none_first}
use Rattle.rg_rank.specs.Ranking.{AreAbove, Rise, is_there, lowered, put_first, value_at, without_one}
use Rattle.rg_rank.proofs.Order.{same_number}
use Rattle.rg_rank.proofs.Tallies.{absent_counts, one_less, ranking_of, tally_less}

-- each number as often as it is there
abbrev pub spread : List (Value × ℕ) → List ℤ
spread [] = []
spread (p ∷ ps) = replicate p.1 (number_of p.0) ++ spread ps

never : (n : ℤ) → int_lt n n ≡ false
never n = grind (arith, common_steps)

not_back : (n m : ℤ) → int_lt n m ≡ true → int_lt m n ≡ false
not_back n m is = grind (arith, common_steps)

-- a number put in behind lesser ones, in front of greater ones, or among its equals

put_behind : (n m : ℤ) (c : ℕ) (rest : List ℤ) → int_lt m n ≡ true → put_in n (replicate c m ++ rest) ≡ replicate c m ++ put_in n rest
put_behind n m zero rest is = refl
put_behind n m (suc c) rest is = rw is (ap (λ ns. m ∷ ns) (put_behind n m c rest is))

put_over : (n m : ℤ) (c : ℕ) (rest : List ℤ) → int_lt n m ≡ true → put_in n rest ≡ n ∷ rest → put_in n (replicate c m ++ rest) ≡ n ∷ (replicate c m ++ rest)
put_over n m zero rest is first = first
put_over n m (suc c) rest is first = rw (not_back n m is) refl

put_same : (n : ℤ) (c : ℕ) (rest : List ℤ) → put_in n rest ≡ n ∷ rest → put_in n (replicate c n ++ rest) ≡ n ∷ (replicate c n ++ rest)
put_same n zero rest first = first
put_same n (suc c) rest first = rw (never n) refl

put_front : (v : Value) (pairs : List (Value × ℕ)) → AreAbove v pairs → put_in (number_of v) (spread pairs) ≡ number_of v ∷ spread pairs
put_front v [] above = refl
put_front v (x ∷ xs) above = put_over (number_of v) (number_of x.0) x.1 (spread xs) above.0 (put_front v xs above.1)

one_more_of : (n : ℤ) (c : ℕ) (rest : List ℤ) → 0 < c → n ∷ (replicate (c - 1) n ++ rest) ≡ replicate c n ++ rest
one_more_of n zero rest some = absurd (omega (arith, some))
one_more_of n (suc c) rest some = let same : suc c - 1 ≡ c = omega arith in ap (λ k. n ∷ (replicate k n ++ rest)) same

-- a number that is there once less, and put in again
spread_back : (v : Value) (pairs : List (Value × ℕ)) → AreThere pairs → Rise pairs → is_there v pairs ≡ true → put_in (number_of v) (spread (without_one v pairs)) ≡ spread pairs
spread_back v [] some rise there = absurd (true≢false (sym there))
spread_back v (x ∷ xs) some rise there = by (is_less v x.0) (is_less x.0 v) refl refl (spread_back v xs some.1 rise.1)
  where
    same_back : (n : ℤ) → n ≡ number_of x.0 → (b : Bool) → (x.1 == 1) ≡ b → put_in n (spread (put_first x.0 (lowered x.1) xs)) ≡ spread (x ∷ xs)
    same_back n same true last =
        let one : x.1 ≡ 1 = eqb-true _ _ last in
        rw (last, same) (put_front x.0 xs rise.0 ∙ ap (λ c. replicate c (number_of x.0) ++ spread xs) (sym one))
    same_back n same false last =
        rw (last, same)
        (put_same (number_of x.0) (x.1 - 1) (spread xs) (put_front x.0 xs rise.0) ∙ one_more_of (number_of x.0) x.1 (spread xs) some.0)

    by : (b c : Bool) → is_less v x.0 ≡ b → is_less x.0 v ≡ c → (is_there v xs ≡ true → put_in (number_of v) (spread (without_one v xs)) ≡ spread xs) → put_in (number_of v) (spread (without_one v (x ∷ xs))) ≡ spread (x ∷ xs)
    by true c one two rest = absurd (true≢false (sym (rw one at there)))
    by false true one two rest =
        rw (one, two)
        (put_behind (number_of v) (number_of x.0) x.1 (spread (without_one v xs)) two ∙ ap (λ ns. replicate x.1 (number_of x.0) ++ ns) (rest (rw (one, two) at there)))
    by false false one two rest = rw (one, two) (same_back (number_of v) (same_number v x.0 one two) (x.1 == 1) refl)

kind_first : (v : Value) (pairs : List (Value × ℕ)) (kind : Kind) → AreOf IsNumber kind pairs → 0 < count_in v pairs → value_kind v ≡ kind
kind_first v [] kind are some = absurd (omega (arith, some))
kind_first v (x ∷ xs) kind are some = by (same_value v x.0) refl (kind_first v xs kind are.3)
  where
    by : (b : Bool) → same_value v x.0 ≡ b → (0 < count_in v xs → value_kind v ≡ kind) → value_kind v ≡ kind
    by true at rest = ap value_kind (same_value-true v x.0 at) ∙ are.1
    by false at rest = rest (rw at at some)

-- the first value of a list that pairs count is there, and of their kind
pub first_like : (v : Value) (pairs : List (Value × ℕ)) (values : List Value) → IsTally IsNumber is_less pairs → AreCounts pairs (v ∷ values) → IsLike (pairs_kind pairs) v
first_like v [] values tally counts = tt
first_like v (x ∷ xs) values tally counts =
    let some : 0 < count_in v (x ∷ xs) = omega (arith, counts.1 v, first_place v values) in
    kind_first v (x ∷ xs) (value_kind x.0) (tally.alike (value_kind x.0) refl) some

pub first_there : (v : Value) (pairs : List (Value × ℕ)) (values : List Value) → IsTally IsNumber is_less pairs → AreCounts pairs (v ∷ values) → is_there v pairs ≡ true
first_there v pairs values tally counts = by (is_there v pairs) refl
  where
    by : (b : Bool) → is_there v pairs ≡ b → is_there v pairs ≡ true
    by true is = is
    by false is = absurd (none_first v pairs values (absent_counts v pairs (ranking_of pairs tally).rise is) counts)

none_counted : (pairs : List (Value × ℕ)) → AreThere pairs → counts_sum pairs ≡ 0 → spread pairs ≡ []
none_counted [] there sum = refl
none_counted (x ∷ xs) there sum = absurd (omega (arith, there.0, sum))

pub ordered : (values : List Value) (pairs : List (Value × ℕ)) → IsTally IsNumber is_less pairs → AreCounts pairs values → in_order (numbers values) ≡ spread pairs
ordered [] pairs tally counts = sym (none_counted pairs counts.2 counts.0)
ordered (v ∷ values) pairs tally counts =
    let there = first_there v pairs values tally counts in
    let legal = legal_first IsNumber pairs v values tally.alike counts in
    let like = first_like v pairs values tally counts in
    let fewer = without_one v pairs in
    let sound = tally_less v pairs tally in
    let ranking = ranking_of pairs tally in
    let rest = ordered values fewer sound (counts_less IsNumber is_less v fewer pairs values (one_less v pairs legal like tally there) sound counts) in
    ap (put_in (number_of v)) rest ∙ spread_back v pairs ranking.there ranking.rise there

-- the number at a place

number_next : (k : ℕ) (n : ℤ) (ns : List ℤ) → number_at (k + 2) (n ∷ ns) ≡ number_at (k + 1) ns
number_next k n ns = let later : nat_le (k + 2) 1 ≡ false = grind (arith, common_steps) in rw later (ap (λ j. number_at j ns) (omega arith))

at_first : (k c : ℕ) (n : ℤ) (rest : List ℤ) → k < c → number_at (k + 1) (replicate c n ++ rest) ≡ Number n
at_first k zero n rest below = absurd (omega (arith, below))
at_first zero (suc c) n rest below = refl
at_first (suc k) (suc c) n rest below =
    ap (λ j. number_at j (n ∷ (replicate c n ++ rest))) (omega arith) ∙ (number_next k n (replicate c n ++ rest) ∙ at_first k c n rest (omega (arith, below)))

at_later : (k c : ℕ) (n : ℤ) (rest : List ℤ) → number_at (k + c + 1) (replicate c n ++ rest) ≡ number_at (k + 1) rest
at_later k zero n rest = ap (λ j. number_at j rest) (omega arith)
at_later k (suc c) n rest =
    ap (λ j. number_at j (n ∷ (replicate c n ++ rest))) (omega arith) ∙ (number_next (k + c) n (replicate c n ++ rest) ∙ at_later k c n rest)

some_same : {A : Type 0} {a b : A} → Some a ≡ Some b → a ≡ b
some_same same = cc

pub number_there : (k : ℕ) (pairs : List (Value × ℕ)) (v : Value) → value_at k pairs ≡ Some v → number_at (k + 1) (spread pairs) ≡ Number (number_of v)
number_there k [] v is = cc
number_there k (x ∷ xs) v is = by (nat_lt k x.1) refl (number_there (k - x.1) xs v)
  where
    by : (b : Bool) → nat_lt k x.1 ≡ b → (value_at (k - x.1) xs ≡ Some v → number_at (k - x.1 + 1) (spread xs) ≡ Number (number_of v)) → number_at (k + 1) (spread (x ∷ xs)) ≡ Number (number_of v)
    by true at rest =
        let same : x.0 ≡ v = some_same (rw at at is) in
        at_first k x.1 (number_of x.0) (spread xs) (ltb-true k x.1 at) ∙ ap (λ w. Number (number_of w)) same
    by false at rest =
        let above : x.1 ≤ k = ltb-false k x.1 at in
        ap (λ j. number_at j (spread (x ∷ xs))) (omega (arith, above))
        ∙ (at_later (k - x.1) x.1 (number_of x.0) (spread xs) ∙ rest (rw at at is))

numbers_length : (values : List Value) → length (numbers values) ≡ length values
numbers_length [] = refl
numbers_length (v ∷ values) = ap (λ n. suc n) (numbers_length values)

-- the number at so many hundredths

pub percentile_within : (percent : ℕ) (ns : List ℤ) → 0 < percent → percent ≤ 100 → percentile percent ns ≡ number_at ((percent * length ns + 99) / 100) (in_order ns)
percentile_within percent ns some most =
    let within : (nat_le 1 percent && nat_le percent 100) ≡ true = and_from _ _ (le-leb 1 percent some) (le-leb percent 100 most) in
    ap (λ (b : Bool). if b then number_at ((percent * length ns + 99) / 100) (in_order ns) else Dash) within

pub percentile_is : (percent : ℕ) (pairs : List (Value × ℕ)) (v : Value) (values : List Value) → 0 < percent → percent ≤ 100 → IsTally IsNumber is_less pairs → AreCounts pairs values → 0 < (percent * counts_sum pairs + 99) / 100 → value_at ((percent * counts_sum pairs + 99) / 100 - 1) pairs ≡ Some v → Number (number_of v) ≡ percentile percent (numbers values)
percentile_is percent pairs v values low high tally counts some is =
    let place = (percent * counts_sum pairs + 99) / 100 in
    let size : counts_sum pairs ≡ length (numbers values) = counts.0 ∙ sym (numbers_length values) in
    let whole : place - 1 + 1 ≡ place = omega (arith, some) in
    sym (number_there (place - 1) pairs v is)
    ∙ (ap (λ j. number_at j (spread pairs)) whole
    ∙ (ap (number_at place) (sym (ordered values pairs tally counts))
    ∙ (ap (λ n. number_at ((percent * n + 99) / 100) (in_order (numbers values))) size
    ∙ sym (percentile_within percent (numbers values) low high))))

-- without a value there is none
pub percentile_none : (percent : ℕ) (pairs : List (Value × ℕ)) (values : List Value) → counts_sum pairs ≡ 0 → AreCounts pairs values → Dash ≡ percentile percent (numbers values)
percentile_none percent pairs [] none counts = by (nat_le 1 percent && nat_le percent 100)
  where
    by : (b : Bool) → Dash ≡ (if b then Dash else Dash)
    by true = refl
    by false = refl
percentile_none percent pairs (v ∷ values) none counts = absurd (omega (arith, none, counts.0))

-- nor at a percent that isn't from 1 to 100

pub percentile_low : (percent : ℕ) (values : List Value) → percent ≡ 0 → Dash ≡ percentile percent (numbers values)
percentile_low percent values none = rw none refl

pub percentile_high : (percent : ℕ) (values : List Value) → 100 < percent → Dash ≡ percentile percent (numbers values)
percentile_high percent values above =
    let ns = numbers values in
    let over : (nat_le 1 percent && nat_le percent 100) ≡ false = grind (arith, common_steps) in
    ap (λ (b : Bool). if b then number_at ((percent * length ns + 99) / 100) (in_order ns) else Dash) (sym over)
