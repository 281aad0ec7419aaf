-- The number that a text ends with.
use Rattle.std.proofs.Common.{◌≡◌, ℕ, zero, suc, ◌+◌, ◌<◌, ◌≤◌, ◌^◌, ◌==◌, ◌&&◌, Bool, true, false, List, [], ◌∷◌, ◌++◌, length, take, drop, get_or, Option, Some, refl, ap, sym, ◌∙◌, subst, arith, append_assoc}
use Rattle.std.specs.Prelude.{decimal, if◌then◌else◌}
use Rattle.std.specs.Str.{all_ascii_digits}
use Rattle.std.specs.List.{sum}
use Rattle.std.proofs.lemmas.Fmt.{digits_decimal}
use Rattle.std.proofs.lemmas.Grind.{common_steps}
use Rattle.rg_bytes.proofs.Laws.{whole_of-decimal, decimal_digits}
use Rattle.rg_bytes.specs.Numbers.{whole_of}
use Rattle.rg_selftest.specs.Words.{last_word}

-- digits have no space
digits_stay : (digits word : List ℕ) → all_ascii_digits digits ≡ true → last_word word digits ≡ word
digits_stay [] word h = refl
digits_stay (d ∷ digits) word h = by_space (d == 32) refl (digits_stay digits word)
  where
    by_space : (b : Bool) → (d == 32) ≡ b → (all_ascii_digits digits ≡ true → last_word word digits ≡ word) → (if b then last_word digits digits else last_word word digits) ≡ word
    by_space true is next = absurd (grind (arith, common_steps))
    by_space false is next = next (grind (arith, common_steps))

pub word_is : (front digits word : List ℕ) → all_ascii_digits digits ≡ true → last_word word (front ++ 32 ∷ digits) ≡ digits
word_is [] digits word h = digits_stay digits digits h
word_is (b ∷ front) digits word h = by_space (b == 32) (λ w. word_is front digits w h)
  where
    by_space : (t : Bool) → ((w : List ℕ) → last_word w (front ++ 32 ∷ digits) ≡ digits) → (if t then last_word (front ++ 32 ∷ digits) (front ++ 32 ∷ digits) else last_word word (front ++ 32 ∷ digits)) ≡ digits
    by_space true next = next (front ++ 32 ∷ digits)
    by_space false next = next word

pub snoc_front : (xs ys : List ℕ) (x y : ℕ) → xs ++ x ∷ [] ≡ ys ++ y ∷ [] → xs ≡ ys
snoc_front [] [] x y e = refl
snoc_front [] (b ∷ []) x y e = absurd cc
snoc_front [] (b ∷ (c ∷ ys)) x y e = absurd cc
snoc_front (a ∷ []) [] x y e = absurd cc
snoc_front (a ∷ (c ∷ xs)) [] x y e = absurd cc
snoc_front (a ∷ xs) (b ∷ ys) x y e =
    let heads : a ≡ b = cc in
    let tails : xs ++ x ∷ [] ≡ ys ++ y ∷ [] = cc in
    ap (λ h. h ∷ xs) heads ∙ ap (λ t. b ∷ t) (snoc_front xs ys x y tails)

pub number_is : (front line : List ℕ) (n : ℕ) → n < 2 ^ 64 → line ≡ front ++ 32 ∷ decimal n → whole_of (last_word line line) ≡ Some n
number_is front line n below is =
    ap (λ l. whole_of (last_word l l)) is ∙ ap whole_of (word_is front (decimal n) (front ++ 32 ∷ decimal n) (digits_decimal decimal_digits n below)) ∙ whole_of-decimal n below
