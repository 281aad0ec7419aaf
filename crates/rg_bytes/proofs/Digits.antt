-- Numbers in decimal digits, one digit more at a time.
use Rattle.std.proofs.Common.{◌≡◌, ℕ, ◌+◌, ◌-◌, ◌*◌, ◌^◌, ◌<◌, ◌≤◌, ◌&&◌, Bool, nat_le, if◌then◌else◌, Some, None, true, false, List, [], ◌∷◌, ◌++◌, length, get_or, take, refl, mul_assoc, arith, rules}
use Rattle.std.proofs.lemmas.Grind.{pow_more, common_steps}
use Rattle.std.proofs.lemmas.List.{take_more, length_push}
use Rattle.std.proofs.lemmas.List.Recursion.{and_push, and_fails_at}
use Rattle.std.proofs.lemmas.Str.Parse.{IsNumeralModel, numerals_by_weight, tells_all_ascii_digits, digits_value_short}
use Rattle.std.specs.Char.{is_ascii_digit}
use Rattle.std.specs.Str.{all_ascii_digits}
use Rattle.rg_bytes.specs.Numbers.{value_of, number_of}

-- `all_ascii_digits` and `value_of` are the digits and the number that std's lemmas speak of
pub decimal_digits : IsNumeralModel (λ ds. all_ascii_digits ds ≡ true) value_of
decimal_digits = numerals_by_weight _ tells_all_ascii_digits value_of (search rules)

tenfold : (digit weight value last : ℕ) → digit * (weight * 10) + (value * 10 + last) ≡ (digit * weight + value) * 10 + last
tenfold digit weight value last = omega (arith, mul_assoc digit weight 10)

pub value_of-push : (ds : List ℕ) (d : ℕ) → value_of (ds ++ d ∷ []) ≡ value_of ds * 10 + (d - 48)
value_of-push [] d = omega arith
value_of-push (c ∷ ds) d = rw (length_push ds d, value_of-push ds d, pow_more 10 (length ds)) (tenfold (c - 48) (10 ^ length ds) (value_of ds) (d - 48))

pub all_ascii_digits-push : (ds : List ℕ) (d : ℕ) → all_ascii_digits (ds ++ d ∷ []) ≡ (all_ascii_digits ds && is_ascii_digit d)
all_ascii_digits-push = and_push all_ascii_digits is_ascii_digit refl (λ _ _. refl)

pub value_of_more : (ds : List ℕ) (i : ℕ) → i < length ds → value_of (take (i + 1) ds) ≡ value_of (take i ds) * 10 + (get_or ds i 0 - 48)
value_of_more ds i below = rw (take_more ds i 0 below) (value_of-push (take i ds) (get_or ds i 0))

pub all_ascii_digits_more : (ds : List ℕ) (i : ℕ) → i < length ds → all_ascii_digits (take i ds) ≡ true → is_ascii_digit (get_or ds i 0) ≡ true → all_ascii_digits (take (i + 1) ds) ≡ true
all_ascii_digits_more ds i below front here = rw (take_more ds i 0 below, all_ascii_digits-push (take i ds) (get_or ds i 0), front, here) refl

pub not_all_ascii_digits : (ds : List ℕ) (i : ℕ) → i < length ds → is_ascii_digit (get_or ds i 0) ≡ false → all_ascii_digits ds ≡ false
not_all_ascii_digits ds i below here = and_fails_at all_ascii_digits is_ascii_digit refl (λ _ _. refl) ds i 0 below here

-- one digit more stays below 2^64
pub value_of_small : (ds : List ℕ) → all_ascii_digits ds ≡ true → length ds ≤ 18 → value_of ds < 10 ^ 18
value_of_small ds digits short = digits_value_short decimal_digits ds 18 digits short

-- what is read where a digit follows some others, at each way out of the code

number_of_not_all : (most : ℕ) (text : List ℕ) → all_ascii_digits text ≡ false → number_of most text ≡ None
number_of_not_all most text none = by_digits (nat_le 1 (length text) && nat_le (length text) 20) (all_ascii_digits text) (nat_le (value_of text) most) (value_of text) none
  where
    by_digits : (counted digits fits : Bool) (n : ℕ) → digits ≡ false → (if (counted && digits) && fits then Some n else None) ≡ None
    by_digits true digits fits n e = rw e refl
    by_digits false digits fits n e = refl

pub number_of_long : (most : ℕ) (front : List ℕ) (last : ℕ) → 19 < length front → number_of most (front ++ last ∷ []) ≡ None
number_of_long most front last long = grind (arith, common_steps, length_push front last)

pub number_of_no_last : (most : ℕ) (front : List ℕ) (last : ℕ) → is_ascii_digit last ≡ false → number_of most (front ++ last ∷ []) ≡ None
number_of_no_last most front last none = number_of_not_all most (front ++ last ∷ []) (grind (arith, all_ascii_digits-push front last))

pub number_of_no_front : (most : ℕ) (front : List ℕ) (last : ℕ) → all_ascii_digits front ≡ false → number_of most (front ++ last ∷ []) ≡ None
number_of_no_front most front last none = number_of_not_all most (front ++ last ∷ []) (grind (arith, all_ascii_digits-push front last))

pub number_of_great : (most : ℕ) (front : List ℕ) (last : ℕ) → most < value_of front * 10 + (last - 48) → number_of most (front ++ last ∷ []) ≡ None
number_of_great most front last great = grind (arith, common_steps, value_of-push front last)

pub number_of_read : (most : ℕ) (front : List ℕ) (last : ℕ) → length front ≤ 19 → all_ascii_digits front ≡ true → is_ascii_digit last ≡ true → value_of front * 10 + (last - 48) ≤ most → number_of most (front ++ last ∷ []) ≡ Some (value_of front * 10 + (last - 48))
number_of_read most front last short digits digit fits = grind (arith, common_steps, value_of-push front last, all_ascii_digits-push front last, length_push front last)
