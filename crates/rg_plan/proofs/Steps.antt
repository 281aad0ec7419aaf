-- One more step of a loop over a list.
use Rattle.std.proofs.Common.{ℕ, ◌+◌, ◌<◌, List, [], ◌∷◌, ◌++◌, length, map, take, get_or, ◌≡◌, sym, ap, ◌∙◌}
use Rattle.std.proofs.lemmas.List.{take_more, map-append}

module _ {A B : Type 0} (f : A → B) (xs : List A) (i : ℕ) where
  pub once_more_or : (d : A) → i < length xs → map f (take (i + 1) xs) ≡ map f (take i xs) ++ f (get_or xs i d) ∷ []
  once_more_or d l = ap (map f) (take_more xs i d l) ∙ map-append f (take i xs) (get_or xs i d ∷ [])

  pub once_more : (x : A) → i < length xs → x ≡ get_or xs i x → map f (take (i + 1) xs) ≡ map f (take i xs) ++ f x ∷ []
  once_more x l e = once_more_or x l ∙ ap (λ y. map f (take i xs) ++ f y ∷ []) (sym e)
