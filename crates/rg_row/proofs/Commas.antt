-- The texts between the commas of a line.
use Rattle.std.proofs.Common.{◌≡◌, ℕ, zero, suc, ◌<◌, ◌+◌, Bool, true, false, List, [], ◌∷◌, ◌++◌, length, take, drop, get_or, ap, sym, ◌∙◌, arith}
use Rattle.std.specs.List.{slice_split, All}
use Rattle.std.proofs.lemmas.Bool.{false_from_ne_true}
use Rattle.std.proofs.lemmas.List.{take-append-drop, drop_more, take_all}
use Rattle.std.proofs.lemmas.List.Elements.{All-nil, All-cons}
use Rattle.std.proofs.lemmas.List.Splits.{slice_split_none, slice_split_at}

-- the test fails at the first n elements
abbrev pub FailsBelow : (ℕ → Bool) → List ℕ → ℕ → Type 0
FailsBelow test xs n = (k : ℕ) → k < n → test (get_or xs k 0) ≡ true → ⊥

all_fail : (test : ℕ → Bool) (xs : List ℕ) (n : ℕ) → FailsBelow test xs n → All (λ x. test x ≡ false) (take n xs)
all_fail test xs zero fails = All-nil (λ x. test x ≡ false)
all_fail test [] (suc n) fails = All-nil (λ x. test x ≡ false)
all_fail test (x ∷ xs) (suc n) fails =
    All-cons (λ x. test x ≡ false) x (take n xs) (false_from_ne_true _ (fails 0 (omega arith))) (all_fail test xs n (λ k below. fails (suc k) (omega arith)))

parts : (xs : List ℕ) (i : ℕ) → i < length xs → xs ≡ take i xs ++ get_or xs i 0 ∷ drop (i + 1) xs
parts xs i h = sym (take-append-drop i xs) ∙ ap (λ v. take i xs ++ v) (drop_more xs i 0 h)

-- the first text ends at the first place that passes
pub first_part : (test : ℕ → Bool) (xs : List ℕ) (i : ℕ) → i < length xs → FailsBelow test xs i → test (get_or xs i 0) ≡ true
    → slice_split test xs ≡ take i xs ∷ slice_split test (drop (i + 1) xs)
first_part test xs i h fails here =
    ap (slice_split test) (parts xs i h) ∙ slice_split_at test (take i xs) (get_or xs i 0) (drop (i + 1) xs) (all_fail test xs i fails) here

-- where none passes, there is one text
pub one_part : (test : ℕ → Bool) (xs : List ℕ) → FailsBelow test xs (length xs) → slice_split test xs ≡ xs ∷ []
one_part test xs fails = slice_split_none test xs (rw (sym (take_all (length xs) xs (omega arith))) (all_fail test xs (length xs) fails))
