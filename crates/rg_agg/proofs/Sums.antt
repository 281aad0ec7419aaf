-- Sums of values, with one more at the back and one less at the front.
use Rattle.std.proofs.Common.{to_z, of_z, ◌≡◌, ℕ, ◌+◌, ◌*◌, ◌-◌, ◌^◌, ◌≤◌, ◌<◌, ℤ, pos, negsuc, ◌+ℤ◌, ◌-ℤ◌, ◌*ℤ◌, ◌≤ℤ◌, Bool, true, false, nat_le, List, [], ◌∷◌, ◌++◌, length, refl, ap, sym, ◌∙◌, arith, length-append}
use Rattle.std.specs.Int.{w128}
use Rattle.std.specs.Prelude.{int_le, unsigned_abs}
use Rattle.std.proofs.lemmas.Bool.{leb-true, and_parts}
use Rattle.std.proofs.lemmas.Grind.{common_steps}
use Rattle.std.proofs.lemmas.Int.{ints, unsigned_abs-mul}
use Rattle.rg_event.specs.declared.value.Value.{Value}
use Rattle.rg_event.specs.declared.value.Value.TheVariants.{Int, Id, Text, Flag}
use Rattle.rg_metric.specs.Answers.{number_of, numbers, total, total_of_squares}
use Rattle.rg_agg.specs.Held.{is_sum, is_square_sum}
use Rattle.rg_agg.specs.Stands.{IsInt, AreInts, IsTotal, IsSquareTotal}

pub total_more : (values : List Value) (v : Value) → total (numbers (values ++ v ∷ [])) ≡ total (numbers values) +ℤ number_of v
total_more [] v = omega (arith, ints)
total_more (w ∷ ws) v = let more = total_more ws v in omega (arith, ints)

pub squares_more : (values : List Value) (v : Value) → total_of_squares (numbers (values ++ v ∷ [])) ≡ total_of_squares (numbers values) +ℤ (number_of v *ℤ number_of v)
squares_more [] v = omega (arith, ints)
squares_more (w ∷ ws) v = let more = squares_more ws v in omega (arith, ints)

pub ints_more : (values : List Value) (v : Value) → AreInts values → IsInt v → AreInts (values ++ v ∷ [])
ints_more [] v are is = (is, tt)
ints_more (w ∷ ws) v are is = (are.0, ints_more ws v are.1 is)

abs_add : (a b : ℤ) → unsigned_abs (a +ℤ b) ≤ unsigned_abs a + unsigned_abs b
abs_add (pos a) (pos b) = omega (arith, ints)
abs_add (pos a) (negsuc b) = omega (arith, ints)
abs_add (negsuc a) (pos b) = omega (arith, ints)
abs_add (negsuc a) (negsuc b) = omega (arith, ints)

int_small : (v : Value) → IsInt v → unsigned_abs (number_of v) ≤ 1000000000000
int_small (Int n) is = is
int_small (Id n) is = absurd is
int_small (Text t) is = absurd is
int_small (Flag f) is = absurd is

pub total_bound : (values : List Value) → AreInts values → unsigned_abs (total (numbers values)) ≤ length values * 1000000000000
total_bound [] are = omega arith
total_bound (v ∷ vs) are =
    let rest = total_bound vs are.1 in
    let first = int_small v are.0 in
    omega (arith, abs_add (number_of v) (total (numbers vs)))

pub is_total_more : (n : ℕ) (sum number : ℤ) (values : List Value) (v : Value) → number ≡ number_of v → IsInt v → IsTotal n sum values → IsTotal (n + 1) (sum +ℤ number) (values ++ v ∷ [])
is_total_more n sum number values v is int stands = record {
  count = omega (arith, stands.count, length-append values (v ∷ []));
  adds_up = (λ i. stands.adds_up i +ℤ is i) ∙ sym (total_more values v);
  ints = ints_more values v stands.ints int;
}

pub is_total_less : (n : ℕ) (sum number : ℤ) (values : List Value) (v : Value) → number ≡ number_of v → IsTotal n sum (v ∷ values) → IsTotal (n - 1) (sum -ℤ number) values
is_total_less n sum number values v is stands = record {
  count = omega (arith, stands.count);
  adds_up = omega (arith, ints, stands.adds_up, is);
  ints = stands.ints.1;
}

pub is_total_within : (n : ℕ) (sum : ℤ) (values : List Value) → IsTotal n sum values → is_sum n sum ≡ true
is_total_within n sum values stands = grind (arith, total_bound values stands.ints, stands.adds_up, stands.count)

contrary : (a b : Bool) → a ≡ true → b ≡ false → a ≡ b → ⊥
contrary a b holds fails same = cc

-- where what is left is no sum of what is left, there was no such list
pub no_total : (n : ℕ) (sum number new : ℤ) (values : List Value) (v : Value) (within : Bool) → number ≡ number_of v → new ≡ sum -ℤ number → within ≡ is_sum (n - 1) new → within ≡ false → IsTotal n sum (v ∷ values) → ⊥
no_total n sum number new values v within is new_is within_is fails stands =
    contrary (is_sum (n - 1) (sum -ℤ number)) within (is_total_within (n - 1) (sum -ℤ number) values (is_total_less n sum number values v is stands)) fails (ap (λ left. is_sum (n - 1) left) (sym new_is) ∙ sym within_is)

within_wide : (z : ℤ) → unsigned_abs z < 2 ^ 127 → to_z w128 (of_z w128 z) ≡ z
within_wide (pos n) small = omega (arith, ints)
within_wide (negsuc n) small = omega (arith, ints)

abs_less : (a b : ℤ) → unsigned_abs (a -ℤ b) ≤ unsigned_abs a + unsigned_abs b
abs_less (pos a) (pos b) = omega (arith, ints)
abs_less (pos a) (negsuc b) = omega (arith, ints)
abs_less (negsuc a) (pos b) = omega (arith, ints)
abs_less (negsuc a) (negsuc b) = omega (arith, ints)

-- sums of 128 bits that stay within them

pub wide_more : (sum number : ℤ) → unsigned_abs sum ≤ 1099511627776000000000000000000000000 → unsigned_abs number ≤ 1000000000000000000000000 → to_z w128 (of_z w128 (to_z w128 (of_z w128 sum) +ℤ to_z w128 (of_z w128 number))) ≡ sum +ℤ number
wide_more sum number one two =
    rw (within_wide sum (omega arith), within_wide number (omega arith)) (within_wide (sum +ℤ number) (omega (arith, abs_add sum number)))

pub wide_less : (sum number : ℤ) → unsigned_abs sum ≤ 1099511627776000000000000000000000000 → unsigned_abs number ≤ 1000000000000000000000000 → to_z w128 (of_z w128 (to_z w128 (of_z w128 sum) -ℤ to_z w128 (of_z w128 number))) ≡ sum -ℤ number
wide_less sum number one two =
    rw (within_wide sum (omega arith), within_wide number (omega arith)) (within_wide (sum -ℤ number) (omega (arith, abs_less sum number)))

pub sum_small : (n : ℕ) (sum : ℤ) → n ≤ 2 ^ 40 → is_sum n sum ≡ true → unsigned_abs sum ≤ 1099511627776000000000000000000000000
sum_small n sum few is = let small = leb-true (unsigned_abs sum) (n * 1000000000000) is in omega (arith, small)

-- one int more, added within 128 bits to a sum that is within its bound
pub is_total_added : (n : ℕ) (sum number : ℤ) (values : List Value) (v : Value) → n ≤ 2 ^ 40 → is_sum n sum ≡ true → unsigned_abs number ≤ 1000000000000 → number ≡ number_of v → IsInt v → IsTotal n sum values
    → IsTotal (n + 1) (to_z w128 (of_z w128 (to_z w128 (of_z w128 sum) +ℤ to_z w128 (of_z w128 number)))) (values ++ v ∷ [])
is_total_added n sum number values v few bound small is int stands =
    rw (wide_more sum number (sum_small n sum few bound) (omega (arith, small))) (is_total_more n sum number values v is int stands)

pub square_sum_small : (n : ℕ) (sum : ℤ) → n ≤ 2 ^ 40 → is_square_sum n sum ≡ true → unsigned_abs sum ≤ 1099511627776000000000000000000000000
square_sum_small n sum few is = let small = leb-true (unsigned_abs sum) (n * 1000000000000000000000000) (and_parts (int_le (pos 0) sum) (nat_le (unsigned_abs sum) (n * 1000000000000000000000000)) is).1 in omega (arith, small)

-- squares

square_natural : (a : ℤ) → pos 0 ≤ℤ (a *ℤ a)
square_natural (pos n) = omega (arith, ints)
square_natural (negsuc n) = omega (arith, ints)

product_small : (a b : ℕ) → a ≤ 1000000000000 → b ≤ 1000000000000 → a * b ≤ 1000000000000000000000000
product_small a b one two = grind (arith, common_steps)

pub square_small : (number square : ℤ) → square ≡ number *ℤ number → unsigned_abs number ≤ 1000000000000 → unsigned_abs square ≤ 1000000000000000000000000
square_small number square is small = rw (is, unsigned_abs-mul number number) (product_small (unsigned_abs number) (unsigned_abs number) small small)

squares_natural : (values : List Value) → pos 0 ≤ℤ total_of_squares (numbers values)
squares_natural [] = omega (arith, ints)
squares_natural (v ∷ vs) = let rest = squares_natural vs in omega (arith, ints, square_natural (number_of v))

squares_bound : (values : List Value) → AreInts values → unsigned_abs (total_of_squares (numbers values)) ≤ length values * 1000000000000000000000000
squares_bound [] are = omega arith
squares_bound (v ∷ vs) are =
    let rest = squares_bound vs are.1 in
    let first = square_small (number_of v) (number_of v *ℤ number_of v) refl (int_small v are.0) in
    omega (arith, abs_add (number_of v *ℤ number_of v) (total_of_squares (numbers vs)))

pub is_squares_more : (n : ℕ) (sum square : ℤ) (values : List Value) (v : Value) → square ≡ number_of v *ℤ number_of v → IsInt v → IsSquareTotal n sum values → IsSquareTotal (n + 1) (sum +ℤ square) (values ++ v ∷ [])
is_squares_more n sum square values v is int stands = record {
  count = omega (arith, stands.count, length-append values (v ∷ []));
  adds_up = (λ i. stands.adds_up i +ℤ is i) ∙ sym (squares_more values v);
  ints = ints_more values v stands.ints int;
}

pub is_squares_less : (n : ℕ) (sum square : ℤ) (values : List Value) (v : Value) → square ≡ number_of v *ℤ number_of v → IsSquareTotal n sum (v ∷ values) → IsSquareTotal (n - 1) (sum -ℤ square) values
is_squares_less n sum square values v is stands = record {
  count = omega (arith, stands.count);
  adds_up = omega (arith, ints, stands.adds_up, is);
  ints = stands.ints.1;
}

pub is_squares_within : (n : ℕ) (sum : ℤ) (values : List Value) → IsSquareTotal n sum values → is_square_sum n sum ≡ true
is_squares_within n sum values stands = grind (arith, squares_bound values stands.ints, squares_natural values, stands.adds_up, stands.count)

pub no_squares : (n : ℕ) (sum square new : ℤ) (values : List Value) (v : Value) (within : Bool) → square ≡ number_of v *ℤ number_of v → new ≡ sum -ℤ square → within ≡ is_square_sum (n - 1) new → within ≡ false → IsSquareTotal n sum (v ∷ values) → ⊥
no_squares n sum square new values v within is new_is within_is fails stands =
    contrary (is_square_sum (n - 1) (sum -ℤ square)) within (is_squares_within (n - 1) (sum -ℤ square) values (is_squares_less n sum square values v is stands)) fails (ap (λ left. is_square_sum (n - 1) left) (sym new_is) ∙ sym within_is)
