-- What is written in decimal digits is read back.
use Rattle.std.proofs.Common.{◌≡◌, ℕ, ◌^◌, ◌<◌, ◌≤◌, suc, true, Some, List, [], ◌∷◌, ℤ, pos, negsuc, refl, ap, ◌∙◌, arith}
use Rattle.std.proofs.lemmas.Fmt.{decimal_nonempty, length-decimal-le, digits_decimal, digits_value-decimal}
use Rattle.std.proofs.lemmas.Grind.{common_steps}
use Rattle.std.specs.Fmt.{decimal, signed_decimal}
use Rattle.std.specs.Int.RustNames.{unsigned_abs}
use Rattle.std.specs.Str.{all_ascii_digits}
use Rattle.rg_bytes.specs.Numbers.{number_of, whole_of, signed_of, with_sign, negative}
use Rattle.rg_bytes.proofs.Digits.{decimal_digits}

pub number_of-decimal : (most n : ℕ) → n ≤ most → n < 2 ^ 64 → number_of most (decimal n) ≡ Some n
number_of-decimal most n fits below =
    grind (arith, common_steps, decimal_nonempty n below, length-decimal-le 20 n (omega arith) (omega arith) below, digits_decimal decimal_digits n below, digits_value-decimal decimal_digits n below)

pub whole_of-decimal : (n : ℕ) → n < 2 ^ 64 → whole_of (decimal n) ≡ Some n
whole_of-decimal n below = number_of-decimal 18446744073709551615 n (omega arith) below

-- digits begin with no sign
signed_of_digits : (text : List ℕ) → all_ascii_digits text ≡ true → signed_of text ≡ with_sign pos (number_of 9223372036854775807 text)
signed_of_digits [] digits = refl
signed_of_digits (byte ∷ text) digits = grind (arith, common_steps)

pub signed_of-signed_decimal : (z : ℤ) → unsigned_abs z < 2 ^ 63 → signed_of (signed_decimal z) ≡ Some z
signed_of-signed_decimal (pos n) below =
    signed_of_digits (decimal n) (digits_decimal decimal_digits n (omega arith)) ∙ ap (with_sign pos) (number_of-decimal 9223372036854775807 n (omega arith) (omega arith))
signed_of-signed_decimal (negsuc n) below =
    ap (with_sign negative) (number_of-decimal 9223372036854775807 (suc n) (omega arith) (omega arith))
