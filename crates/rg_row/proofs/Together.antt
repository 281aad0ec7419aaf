-- Bytes that are looked at together, through the mask of those that end a plain text.
use Rattle.std.proofs.Common.{◌≡◌, ◌==◌, ◌||◌, ℕ, ◌+◌, ◌*◌, ◌<◌, ◌≤◌, Bool, true, false, not, cond, List, [], ◌∷◌, map, length, drop, refl, ap, ap₂, sym, ◌∙◌, arith, inl, inr}
use Rattle.std.proofs.lemmas.Bool.{cases_Bool, eq-eqb, ne_eqb}
use Rattle.std.proofs.lemmas.List.Folds.{prefix_len-append}
use Rattle.std.proofs.lemmas.List.Sums.{prefix_len-le-length}
use Rattle.std.proofs.lemmas.Simd.{chunk-drop, length-chunk, leading_from_mask_l, trailing_mask_l}
use Rattle.std.specs.List.{prefix_len}
use lib.Bits.{bit_or}
use lib.Count.{count_trailing_zeros}
use lib.Lanes.{chunk, mask_l, top}
use Rattle.rg_row.specs.Plain.{is_end, plain_len}

-- the lane of a byte that is this one
abbrev pub hit : ℕ → ℕ → ℕ
hit a b = cond (a == b) 255 0

abbrev pub hit_any : ℕ → ℕ
hit_any byte = bit_or (bit_or (hit byte 44) (hit byte 34)) (hit byte 13)

top_any : (a b c : Bool) → top 7 (bit_or (bit_or (cond a 255 0) (cond b 255 0)) (cond c 255 0)) ≡ a || (b || c)
top_any true true true = refl
top_any true true false = refl
top_any true false true = refl
top_any true false false = refl
top_any false true true = refl
top_any false true false = refl
top_any false false true = refl
top_any false false false = refl

pub tops : (xs : List ℕ) → map (top 7) (map hit_any xs) ≡ map is_end xs
tops [] = refl
tops (x ∷ xs) = ap₂ (λ b bs. b ∷ bs) (top_any (x == 44) (x == 34) (x == 13)) (tops xs)

abbrev goes_on : ℕ → Bool
goes_on byte = not (is_end byte)

as_prefix : (xs : List ℕ) → plain_len xs ≡ prefix_len goes_on xs
unfolding plain_len
as_prefix [] = refl
as_prefix (x ∷ xs) = elim (cases_Bool (is_end x)) [
  | inl ends ↦ rw ends refl
  | inr more ↦ rw more (omega (arith, as_prefix xs))
]

one_set : (b : Bool) (n l m : ℕ) → n ≤ l → cond (not b) (1 + n) 0 ≡ 1 + l → (n ≡ l → m ≡ 0) → cond b 1 0 + 2 * m ≡ 0
one_set true n l m le e later = let never : ⊥ = omega arith in absurd never
one_set false n l m le e later = let none = later (omega arith) in omega arith

-- where no byte ends a plain text, no bit is set
none_set : (xs : List ℕ) → prefix_len goes_on xs ≡ length xs → mask_l (map is_end xs) ≡ 0
none_set [] e = refl
none_set (x ∷ xs) e = one_set (is_end x) _ (length xs) _ (prefix_len-le-length goes_on xs) (omega arith) (none_set xs)

in_parts : (xs : List ℕ) (i n : ℕ)
    → prefix_len goes_on (drop i xs) ≡ cond (prefix_len goes_on (chunk i n xs) == length (chunk i n xs)) (length (chunk i n xs) + prefix_len goes_on (drop (i + n) xs)) (prefix_len goes_on (chunk i n xs))
in_parts xs i n = ap (prefix_len goes_on) (chunk-drop i n xs) ∙ prefix_len-append goes_on (chunk i n xs) (drop (i + n) xs)

-- no bit is set: these bytes are plain
pub plain_through : (xs : List ℕ) (i n : ℕ) → i + n ≤ length xs → mask_l (map is_end (chunk i n xs)) ≡ 0 → plain_len (drop i xs) ≡ n + plain_len (drop (i + n) xs)
plain_through xs i n room none =
    let part = chunk i n xs in
    as_prefix (drop i xs) ∙ in_parts xs i n
    ∙ ap (λ b. cond b (length part + prefix_len goes_on (drop (i + n) xs)) (prefix_len goes_on part)) (eq-eqb _ _ (leading_from_mask_l is_end part none))
    ∙ ap₂ (λ k m. k + m) (length-chunk i n xs room) (sym (as_prefix (drop (i + n) xs)))

-- a bit is set: the lowest tells how many are
pub plain_stops : (xs : List ℕ) (i n : ℕ) → i + n ≤ length xs → n ≤ 64 → 0 < mask_l (map is_end (chunk i n xs)) → plain_len (drop i xs) ≡ count_trailing_zeros 64 (mask_l (map is_end (chunk i n xs)))
plain_stops xs i n room short some =
    let part = chunk i n xs in
    as_prefix (drop i xs) ∙ in_parts xs i n
    ∙ ap (λ b. cond b (length part + prefix_len goes_on (drop (i + n) xs)) (prefix_len goes_on part)) (ne_eqb _ _ (λ (e : prefix_len goes_on part ≡ length part). omega (arith, none_set part e)))
    ∙ sym (trailing_mask_l is_end 64 part (omega (arith, length-chunk i n xs room)) some)

-- no more bytes are plain than there are
pub plain_within : (xs : List ℕ) → plain_len xs ≤ length xs
plain_within xs = omega (arith, as_prefix xs, prefix_len-le-length goes_on xs)
