-- The first events of a list.
use Rattle.std.proofs.Common.{◌≡◌, ◌<◌, ℕ, zero, suc, List, [], ◌∷◌, ◌++◌, refl, ap, arith}
use Rattle.std.specs.Prelude.{take, slice_get, Some}
use Rattle.std.proofs.lemmas.Option.{slice_get_within, get_or_from_slice_get}

-- among the first ones each stands where it stood
pub take_get : {A : Type 0} (xs : List A) (n i : ℕ) → i < n → slice_get (take n xs) i ≡ slice_get xs i
take_get [] zero i below = refl
take_get [] (suc n) i below = refl
take_get (x ∷ xs) zero i below = absurd (omega (arith, below))
take_get (x ∷ xs) (suc n) zero below = refl
take_get (x ∷ xs) (suc n) (suc i) below = take_get xs n i (omega (arith, below))

-- one more is shown
pub take_one : {A : Type 0} (xs : List A) (n : ℕ) (x : A) → slice_get xs n ≡ Some x → take (suc n) xs ≡ take n xs ++ x ∷ []
take_one [] zero x there = absurd (omega (arith, slice_get_within [] zero x there))
take_one [] (suc n) x there = absurd (omega (arith, slice_get_within [] (suc n) x there))
take_one (y ∷ xs) zero x there = ap (λ e. e ∷ []) (get_or_from_slice_get (y ∷ xs) zero x y there)
take_one (y ∷ xs) (suc n) x there = ap (λ rest. y ∷ rest) (take_one xs n x there)
