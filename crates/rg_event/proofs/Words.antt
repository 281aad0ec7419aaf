-- Texts of values: UTF-8 of at most 255 bytes.
use Rattle.std.proofs.Common.{◌≡◌, ◌≤◌, ◌&&◌, ℕ, Bool, true, false, nat_le, List, length, IsTrue, refl, arith}
use Rattle.std.proofs.lemmas.Grind.{common_steps}
use Rattle.std.specs.Str.{is_utf8}
use Rattle.rg_event.specs.Words.{is_word}

pub text_of_word : (text : List ℕ) → is_word text ≡ true → is_utf8 text ≡ true
text_of_word text word = by_test (is_utf8 text) (nat_le (length text) 255) word
  where
    by_test : (valid short : Bool) → (valid && short) ≡ true → valid ≡ true
    by_test true short both = refl
    by_test false short both = both

pub no_text : (text : List ℕ) → is_word text ≡ false → length text ≤ 255 → is_utf8 text ≡ false
no_text text none short = grind (arith, common_steps)

pub short_text : (text : List ℕ) → IsTrue (is_word text) → length text ≤ 255
short_text text word = grind (arith, common_steps)
