-- Whether bytes are UTF-8, as a test.
use Rattle.std.proofs.Common.{◌≡◌, nat_lt, ℕ, Bool, true, false, List, [], ◌∷◌, zero, suc, refl, arith}
use Rattle.std.specs.List.{list_all}
use Rattle.std.specs.Str.{IsAscii, IsUtf8, is_utf8}
use Rattle.std.proofs.lemmas.Str.{IsUtf8-from_is_utf8, is_utf8-from_IsUtf8, IsUtf8-from_ascii}

false_at : (text : List ℕ) (test : Bool) → is_utf8 text ≡ test → ¬ (IsUtf8 text) → test ≡ false
false_at text true is invalid = absurd (invalid (IsUtf8-from_is_utf8 text is))
false_at text false is invalid = refl

pub true_where_valid : (text : List ℕ) → IsUtf8 text → is_utf8 text ≡ true
true_where_valid text valid = is_utf8-from_IsUtf8 text valid

pub false_where_invalid : (text : List ℕ) → ¬ (IsUtf8 text) → is_utf8 text ≡ false
false_where_invalid text invalid = false_at text (is_utf8 text) refl invalid

ascii_at : (text : List ℕ) → list_all (λ byte. nat_lt byte 128) text ≡ true → IsAscii text
ascii_at [] all i = omega arith
ascii_at (byte ∷ bytes) all zero = grind (arith, all)
ascii_at (byte ∷ bytes) all (suc i) = ascii_at bytes (grind (arith, all)) i

-- bytes below 128 are UTF-8
pub true_where_ascii : (text : List ℕ) → list_all (λ byte. nat_lt byte 128) text ≡ true → is_utf8 text ≡ true
true_where_ascii text all = is_utf8-from_IsUtf8 text (IsUtf8-from_ascii text (ascii_at text all))
