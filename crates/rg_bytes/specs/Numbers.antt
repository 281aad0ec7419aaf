-- Numbers in decimal digits.
use Rattle.std.specs.Prelude.{ℕ, ◌+◌, ◌-◌, ◌*◌, ◌^◌, ◌==◌, nat_le, ◌&&◌, Bool, List, [], ◌∷◌, length, Option, Some, None, ℤ, pos, negsuc, zero, suc, if◌then◌else◌}
use Rattle.std.specs.Str.{all_ascii_digits}

-- what digits say: each counts ten times as much as the one behind it
abbrev pub value_of : List ℕ → ℕ
value_of [] = 0
value_of (digit ∷ digits) = (digit - 48) * 10 ^ length digits + value_of digits

-- 1 to 20 ASCII digits
abbrev pub is_number : List ℕ → Bool
is_number text = nat_le 1 (length text) && nat_le (length text) 20 && all_ascii_digits text

-- the number that is at most this, of 1 to 20 digits
abbrev pub number_of : ℕ → List ℕ → Option ℕ
number_of most text = if is_number text && nat_le (value_of text) most then Some (value_of text) else None

-- the number below 2^64 that a text says
abbrev pub whole_of : List ℕ → Option ℕ
whole_of text = number_of 18446744073709551615 text

abbrev pub negative : ℕ → ℤ
negative zero = pos 0
negative (suc n) = negsuc n

abbrev pub with_sign : (ℕ → ℤ) → Option ℕ → Option ℤ
with_sign sign (Some n) = Some (sign n)
with_sign sign None = None

-- the number from -(2^63 - 1) to 2^63 - 1 that a text says: a sign or none, and digits
abbrev pub signed_of : List ℕ → Option ℤ
signed_of [] = None
signed_of (byte ∷ text) =
    if byte == 45 then with_sign negative (number_of 9223372036854775807 text)
    else if byte == 43 then with_sign pos (number_of 9223372036854775807 text)
    else with_sign pos (number_of 9223372036854775807 (byte ∷ text))
