-- A tally with one value more.
use Rattle.std.proofs.Common.{◌≡◌, ℕ, ◌+◌, ℤ, ◌+ℤ◌, ◌*ℤ◌, List, [], ◌∷◌, ◌++◌, Option, Some, None, refl, ap, sym, ◌∙◌, arith, rules, length-append}
use Rattle.std.specs.Int.{w128, int_wrap}
use Rattle.std.specs.Prelude.{int_lt, if◌then◌else◌}
use Rattle.std.proofs.lemmas.Int.{ints, wraps}
use Rattle.rg_event.specs.declared.value.Value.{Value}
use Rattle.rg_metric.specs.Answers.{number_of, numbers, total, total_of_squares, least, greatest, last_of}
use Rattle.rg_scratch.specs.declared.tally.Ends.{Ends}
use Rattle.rg_scratch.specs.Tallies.{HasEnds, IsTally, ends_with}

pub total_more : (values : List Value) (v : Value) → total (numbers (values ++ v ∷ [])) ≡ total (numbers values) +ℤ number_of v
total_more [] v = omega (arith, ints)
total_more (w ∷ ws) v = let more = total_more ws v in omega (arith, ints)

pub squares_more : (values : List Value) (v : Value) → total_of_squares (numbers (values ++ v ∷ [])) ≡ total_of_squares (numbers values) +ℤ (number_of v *ℤ number_of v)
squares_more [] v = omega (arith, ints)
squares_more (w ∷ ws) v = let more = squares_more ws v in omega (arith, ints)

least_more : (n m : ℤ) (ns : List ℤ) → least n (ns ++ m ∷ []) ≡ (if int_lt m (least n ns) then m else least n ns)
least_more n m [] = refl
least_more n m (k ∷ ns) = least_more (if int_lt k n then k else n) m ns

greatest_more : (n m : ℤ) (ns : List ℤ) → greatest n (ns ++ m ∷ []) ≡ (if int_lt (greatest n ns) m then m else greatest n ns)
greatest_more n m [] = refl
greatest_more n m (k ∷ ns) = greatest_more (if int_lt n k then k else n) m ns

last_more : (n m : ℤ) (ns : List ℤ) → last_of n (ns ++ m ∷ []) ≡ m
last_more n m [] = refl
last_more n m (k ∷ ns) = last_more k m ns

ends_more : (ends : Option Ends) (m : ℤ) (ns : List ℤ) → HasEnds ends ns → HasEnds (Some (ends_with ends m)) (ns ++ m ∷ [])
ends_more None m [] has = record { least_is = refl; greatest_is = refl; first_is = refl; last_is = refl }
ends_more None m (n ∷ ns) has = absurd has
ends_more (Some e) m [] has = absurd has
ends_more (Some e) m (n ∷ ns) has = record {
  least_is = ap (λ l. if int_lt m l then m else l) has.least_is ∙ sym (least_more n m ns);
  greatest_is = ap (λ g. if int_lt g m then m else g) has.greatest_is ∙ sym (greatest_more n m ns);
  first_is = has.first_is;
  last_is = sym (last_more n m ns);
}

numbers_more : (values : List Value) (v : Value) → numbers (values ++ v ∷ []) ≡ numbers values ++ number_of v ∷ []
numbers_more [] v = refl
numbers_more (w ∷ ws) v = ap (λ ns. number_of w ∷ ns) (numbers_more ws v)

-- the squares that wrapped round, with one more
squares_wrap : (squares number : ℤ) (values : List Value) (v : Value) → number ≡ number_of v → squares ≡ int_wrap w128 (total_of_squares (numbers values))
    → int_wrap w128 (squares +ℤ number *ℤ number) ≡ int_wrap w128 (total_of_squares (numbers (values ++ v ∷ [])))
squares_wrap squares number values v is was =
    rw (is, was, squares_more values v) (search (rules, wraps))

pub tally_more : (count : ℕ) (sum squares number sum' squares' : ℤ) (ends : Option Ends) (ends' : Ends) (values : List Value) (v : Value) → number ≡ number_of v
    → sum' ≡ sum +ℤ number → squares' ≡ int_wrap w128 (squares +ℤ number *ℤ number) → ends' ≡ ends_with ends number
    → IsTally count sum squares ends values → IsTally (count + 1) sum' squares' (Some ends') (values ++ v ∷ [])
tally_more count sum squares number sum' squares' ends ends' values v is sum_is squares_is ends_is t = record {
  counted = let more = length-append values (v ∷ []) in omega (arith, t.counted, more);
  summed = let more = total_more values v in omega (arith, ints, t.summed, is, more, sum_is);
  squared = squares_is ∙ squares_wrap squares number values v is t.squared;
  ended = rw (ends_is, numbers_more values v, is) (ends_more ends (number_of v) (numbers values) t.ended);
}
