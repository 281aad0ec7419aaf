-- Pairs of which each value beats the next one's, with one value more at the back and one fewer at the front.
use Rattle.std.proofs.Common.{◌≡◌, ℕ, suc, ◌+◌, ◌-◌, ◌<◌, ◌≤◌, ◌==◌, Bool, true, false, Some, List, [], ◌∷◌, ◌++◌, length, refl, ap, sym, ◌∙◌, subst, arith, length-append}
use Rattle.std.proofs.lemmas.Bool.{true≢false, and_parts, eqb-true, eqb-false}
use Rattle.rg_agg.specs.Standing.{counts_sum}
use Rattle.rg_agg.specs.Stands.{IsNumber}
use Rattle.rg_event.specs.Tagged.{value_kind}
use Rattle.rg_event.specs.declared.value.Kind.{Kind}
use Rattle.rg_event.specs.declared.value.Value.{Value}
use Rattle.rg_metric.specs.Same.{same_value}
use Rattle.rg_metric.proofs.Laws.{same_value-true, same_value-same}
use Rattle.rg_multiset.specs.Pairs.{AreOf, AreRising}
use Rattle.rg_multiset.specs.Reading.{last_kept, comes_behind, same_kind}
use Rattle.rg_multiset.proofs.Laws.{other_way, sum_append}
use Rattle.rg_extreme.specs.Deques.{with_value, without_first, is_beaten, is_same, raised, pushed, begun}
use Rattle.rg_extreme.proofs.Ranks.{AreRanked}

-- parts of rising pairs

pub rising_front : (beats : Value → Value → Bool) (front rest : List (Value × ℕ)) → AreRising beats (front ++ rest) → AreRising beats front
rising_front beats [] rest rise = tt
rising_front beats (p ∷ []) rest rise = tt
rising_front beats (p ∷ (q ∷ front)) rest rise = (rise.0, rising_front beats (q ∷ front) rest rise.1)

pub are_front : (kind : Kind) (front rest : List (Value × ℕ)) → AreOf IsNumber kind (front ++ rest) → AreOf IsNumber kind front
are_front kind [] rest are = tt
are_front kind (p ∷ front) rest are = (are.0, are.1, are.2, are_front kind front rest are.3)

pub rising_tail : (beats : Value → Value → Bool) (p : Value × ℕ) (ps : List (Value × ℕ)) → AreRising beats (p ∷ ps) → AreRising beats ps
rising_tail beats p [] rise = tt
rising_tail beats p (q ∷ qs) rise = rise.1

-- a last pair that is beaten makes no difference
pub with_popped : (beats : Value → Value → Bool) (v : Value) (front : List (Value × ℕ)) (last : Value × ℕ) → beats v last.0 ≡ true → with_value beats v (front ++ last ∷ []) ≡ with_value beats v front
with_popped beats v [] last less = rw less refl
with_popped beats v (p ∷ front) last less = by (beats v p.0) (same_value v p.0) refl refl (with_popped beats v front last less)
  where
    by : (b c : Bool) → beats v p.0 ≡ b → same_value v p.0 ≡ c → with_value beats v (front ++ last ∷ []) ≡ with_value beats v front → with_value beats v (p ∷ (front ++ last ∷ [])) ≡ with_value beats v (p ∷ front)
    by true c one two rest = rw one refl
    by false true one two rest = rw (one, two) refl
    by false false one two rest = rw (one, two) (ap (λ pairs. p ∷ pairs) rest)

-- a first value doesn't lose to one that the last doesn't lose to
first_stays : (beats : Value → Value → Bool) (weakest : Value → Value) → AreRanked beats weakest → (p : Value × ℕ) (ps : List (Value × ℕ)) (v : Value) → AreRising beats (p ∷ ps) → is_beaten beats (last_kept (p ∷ ps)) v ≡ false → beats v p.0 ≡ false
first_stays beats weakest ranked p [] v rise not = not
first_stays beats weakest ranked p (q ∷ qs) v rise not = by (beats v p.0) refl (first_stays beats weakest ranked q qs v rise.1 not)
  where
    by : (b : Bool) → beats v p.0 ≡ b → beats v q.0 ≡ false → beats v p.0 ≡ false
    by true at rest = absurd (true≢false (sym (ranked.through v p.0 q.0 at rise.0) ∙ rest))
    by false at rest = at

same_turned : (a b : Value) (c : Bool) → same_value a b ≡ c → same_value b a ≡ c
same_turned a b true is = let same : a ≡ b = same_value-true a b is in subst (λ x. same_value x a ≡ true) same (same_value-same a)
same_turned a b false is = other_way a b is

-- a value that the last one doesn't lose to is joined with it or comes behind it
pub with_pushed : (beats : Value → Value → Bool) (weakest : Value → Value) → AreRanked beats weakest → (pairs : List (Value × ℕ)) (v : Value) → AreRising beats pairs → is_beaten beats (last_kept pairs) v ≡ false → with_value beats v pairs ≡ pushed v pairs
with_pushed beats weakest ranked [] v rise not = refl
with_pushed beats weakest ranked (p ∷ []) v rise not = by (same_value p.0 v) refl
  where
    by : (b : Bool) → same_value p.0 v ≡ b → with_value beats v (p ∷ []) ≡ pushed v (p ∷ [])
    by true at = rw (not, same_turned p.0 v true at, at) refl
    by false at = rw (not, same_turned p.0 v false at, at) refl
with_pushed beats weakest ranked (p ∷ (q ∷ qs)) v rise not =
    by (same_value v p.0) (is_same (last_kept (q ∷ qs)) v) refl refl (first_stays beats weakest ranked p (q ∷ qs) v rise not) (first_stays beats weakest ranked q qs v rise.1 not) (with_pushed beats weakest ranked (q ∷ qs) v rise.1 not)
  where
    by : (b c : Bool) → same_value v p.0 ≡ b → is_same (last_kept (q ∷ qs)) v ≡ c → beats v p.0 ≡ false → beats v q.0 ≡ false → with_value beats v (q ∷ qs) ≡ pushed v (q ∷ qs) → with_value beats v (p ∷ (q ∷ qs)) ≡ pushed v (p ∷ (q ∷ qs))
    by true c one two first next rest =
        let same : v ≡ p.0 = same_value-true v p.0 one in
        absurd (true≢false (sym rise.0 ∙ (ap (λ x. beats x q.0) (sym same) ∙ next)))
    by false true one two first next rest = let whole : with_value beats v (q ∷ qs) ≡ raised (q ∷ qs) = rest ∙ rw two refl in rw (first, one, two) (ap (λ pairs. p ∷ pairs) whole)
    by false false one two first next rest = let whole : with_value beats v (q ∷ qs) ≡ (q ∷ qs) ++ (v, 1) ∷ [] = rest ∙ rw two refl in rw (first, one, two) (ap (λ pairs. p ∷ pairs) whole)

raised_length : (pairs : List (Value × ℕ)) → length (raised pairs) ≡ length pairs
raised_length [] = refl
raised_length (p ∷ []) = refl
raised_length (p ∷ (q ∷ qs)) = ap (λ n. suc n) (raised_length (q ∷ qs))

raised_sum : (p : Value × ℕ) (ps : List (Value × ℕ)) → counts_sum (raised (p ∷ ps)) ≡ counts_sum (p ∷ ps) + 1
raised_sum p [] = omega arith
raised_sum p (q ∷ qs) = omega (arith, raised_sum q qs)

raised_begun : (kind : Kind) (p : Value × ℕ) (ps : List (Value × ℕ)) → AreOf IsNumber kind (p ∷ ps) → begun (raised (p ∷ ps)) ≡ 0
raised_begun kind p [] are = by (p.1 + 1 == 1) refl
  where
    by : (b : Bool) → (p.1 + 1 == 1) ≡ b → begun (raised (p ∷ [])) ≡ 0
    by true at = absurd (omega (arith, are.2, eqb-true _ _ at))
    by false at = rw at refl
raised_begun kind p (q ∷ []) are = raised_begun kind q [] are.3
raised_begun kind p (q ∷ (r ∷ rs)) are = raised_begun kind q (r ∷ rs) are.3

appended_begun : (pairs : List (Value × ℕ)) (v : Value) → begun (pairs ++ (v, 1) ∷ []) ≡ 1
appended_begun [] v = refl
appended_begun (p ∷ []) v = refl
appended_begun (p ∷ (q ∷ qs)) v = appended_begun (q ∷ qs) v

-- a pair more is one that is there once
pub pushed_length : (kind : Kind) (pairs : List (Value × ℕ)) (v : Value) → AreOf IsNumber kind pairs → length (pushed v pairs) ≡ length pairs + begun (pushed v pairs)
pushed_length kind [] v are = refl
pushed_length kind (p ∷ ps) v are = by (is_same (last_kept (p ∷ ps)) v) refl
  where
    by : (b : Bool) → is_same (last_kept (p ∷ ps)) v ≡ b → length (pushed v (p ∷ ps)) ≡ length (p ∷ ps) + begun (pushed v (p ∷ ps))
    by true at = rw at (omega (arith, raised_length (p ∷ ps), raised_begun kind p ps are))
    by false at = rw at (omega (arith, length-append (p ∷ ps) ((v, 1) ∷ []), appended_begun (p ∷ ps) v))

pub pushed_sum : (pairs : List (Value × ℕ)) (v : Value) → counts_sum (pushed v pairs) ≡ counts_sum pairs + 1
pushed_sum [] v = refl
pushed_sum (p ∷ ps) v = by (is_same (last_kept (p ∷ ps)) v) refl
  where
    by : (b : Bool) → is_same (last_kept (p ∷ ps)) v ≡ b → counts_sum (pushed v (p ∷ ps)) ≡ counts_sum (p ∷ ps) + 1
    by true at = rw at (raised_sum p ps)
    by false at = rw at (sum_append (p ∷ ps) v 1)

pub some_pushed : (pairs : List (Value × ℕ)) (v : Value) → 0 < length (pushed v pairs)
some_pushed [] v = omega arith
some_pushed (p ∷ ps) v = by (is_same (last_kept (p ∷ ps)) v) refl
  where
    by : (b : Bool) → is_same (last_kept (p ∷ ps)) v ≡ b → 0 < length (pushed v (p ∷ ps))
    by true at = rw at (omega (arith, raised_length (p ∷ ps)))
    by false at = rw at (omega arith)

-- what holds of the pairs stays

pub with_are : (beats : Value → Value → Bool) (kind : Kind) (v : Value) (pairs : List (Value × ℕ)) → IsNumber v → value_kind v ≡ kind → AreOf IsNumber kind pairs → AreOf IsNumber kind (with_value beats v pairs)
with_are beats kind v [] is like are = (is, like, omega arith, tt)
with_are beats kind v (p ∷ ps) is like are = by (beats v p.0) (same_value v p.0) refl refl (with_are beats kind v ps is like are.3)
  where
    by : (b c : Bool) → beats v p.0 ≡ b → same_value v p.0 ≡ c → AreOf IsNumber kind (with_value beats v ps) → AreOf IsNumber kind (with_value beats v (p ∷ ps))
    by true c one two rest = rw one (is, like, omega arith, tt)
    by false true one two rest = rw (one, two) (are.0, are.1, omega arith, tt)
    by false false one two rest = rw (one, two) (are.0, are.1, are.2, rest)

pub with_rising : (beats : Value → Value → Bool) (weakest : Value → Value) → AreRanked beats weakest → (kind : Kind) (v : Value) (pairs : List (Value × ℕ)) → IsNumber v → value_kind v ≡ kind → AreOf IsNumber kind pairs → AreRising beats pairs → AreRising beats (with_value beats v pairs)
with_rising beats weakest ranked kind v [] is like are rise = tt
with_rising beats weakest ranked kind v (p ∷ []) is like are rise = by (beats v p.0) (same_value v p.0) refl refl
  where
    by : (b c : Bool) → beats v p.0 ≡ b → same_value v p.0 ≡ c → AreRising beats (with_value beats v (p ∷ []))
    by true c one two = rw one tt
    by false true one two = rw (one, two) tt
    by false false one two = rw (one, two) (ranked.rises p.0 v are.0 is (are.1 ∙ sym like) (other_way v p.0 two) one, tt)
with_rising beats weakest ranked kind v (p ∷ (q ∷ qs)) is like are rise = by (beats v p.0) (same_value v p.0) refl refl (with_rising beats weakest ranked kind v (q ∷ qs) is like are.3 rise.1)
  where
    first : (b c d : Bool) → beats v q.0 ≡ b → same_value v q.0 ≡ c → beats p.0 v ≡ true → AreRising beats (with_value beats v (q ∷ qs)) → AreRising beats (p ∷ with_value beats v (q ∷ qs))
    first true c d one two less rest = rw one (less, tt)
    first false true d one two less rest = rw (one, two) (rise.0, tt)
    first false false d one two less rest = let it = rw (one, two) at rest in rw (one, two) (rise.0, it)

    by : (b c : Bool) → beats v p.0 ≡ b → same_value v p.0 ≡ c → AreRising beats (with_value beats v (q ∷ qs)) → AreRising beats (with_value beats v (p ∷ (q ∷ qs)))
    by true c one two rest = rw one tt
    by false true one two rest = rw (one, two) tt
    by false false one two rest = rw (one, two) (first (beats v q.0) (same_value v q.0) true refl refl (ranked.rises p.0 v are.0 is (are.1 ∙ sym like) (other_way v p.0 two) one) rest)

pub pushed_rising : (beats : Value → Value → Bool) (pairs : List (Value × ℕ)) (v : Value) (n : ℕ) → AreRising beats pairs → comes_behind beats (last_kept pairs) v ≡ true → AreRising beats (pairs ++ (v, n) ∷ [])
pushed_rising beats [] v n rise behind = tt
pushed_rising beats (p ∷ []) v n rise behind = ((and_parts (same_kind p.0 v) (beats p.0 v) behind).1, tt)
pushed_rising beats (p ∷ (q ∷ qs)) v n rise behind = (rise.0, pushed_rising beats (q ∷ qs) v n rise.1 behind)

pub fewer_are : (kind : Kind) (p : Value × ℕ) (ps : List (Value × ℕ)) → AreOf IsNumber kind (p ∷ ps) → AreOf IsNumber kind (without_first (p ∷ ps))
fewer_are kind p ps are = by (p.1 == 1) refl
  where
    by : (b : Bool) → (p.1 == 1) ≡ b → AreOf IsNumber kind (without_first (p ∷ ps))
    by true at = rw at are.3
    by false at = rw at (are.0, are.1, omega (arith, are.2, eqb-false _ _ at), are.3)

pub fewer_rising : (beats : Value → Value → Bool) (p : Value × ℕ) (ps : List (Value × ℕ)) → AreRising beats (p ∷ ps) → AreRising beats (without_first (p ∷ ps))
fewer_rising beats p ps rise = by (p.1 == 1) refl
  where
    lower : (qs : List (Value × ℕ)) (n : ℕ) → AreRising beats (p ∷ qs) → AreRising beats ((p.0, n) ∷ qs)
    lower [] n rise = tt
    lower (q ∷ qs) n rise = rise

    by : (b : Bool) → (p.1 == 1) ≡ b → AreRising beats (without_first (p ∷ ps))
    by true at = rw at (rising_tail beats p ps rise)
    by false at = rw at (lower ps (p.1 - 1) rise)

pub fewer_sum : (p : Value × ℕ) (ps : List (Value × ℕ)) → 0 < p.1 → counts_sum (without_first (p ∷ ps)) + 1 ≡ counts_sum (p ∷ ps)
fewer_sum p ps some = by (p.1 == 1) refl
  where
    by : (b : Bool) → (p.1 == 1) ≡ b → counts_sum (without_first (p ∷ ps)) + 1 ≡ counts_sum (p ∷ ps)
    by true at = rw at (omega (arith, eqb-true _ _ at))
    by false at = rw at (omega (arith, some, eqb-false _ _ at))

pub fewer_length : (p : Value × ℕ) (ps : List (Value × ℕ)) → length (without_first (p ∷ ps)) ≤ length (p ∷ ps)
fewer_length p ps = by (p.1 == 1) refl
  where
    by : (b : Bool) → (p.1 == 1) ≡ b → length (without_first (p ∷ ps)) ≤ length (p ∷ ps)
    by true at = rw at (omega arith)
    by false at = rw at (omega arith)

pub last_kept_is : (front : List (Value × ℕ)) (last : Value × ℕ) → last_kept (front ++ last ∷ []) ≡ Some last.0
last_kept_is [] last = refl
last_kept_is (p ∷ []) last = refl
last_kept_is (p ∷ (q ∷ front)) last = last_kept_is (q ∷ front) last
