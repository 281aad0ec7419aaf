-- Members that are kept with each use stand once.
use Rattle.std.proofs.Common.{ℕ, zero, suc, ◌≡◌, Bool, true, false, List, [], ◌∷◌, ◌++◌, Some, slice_get, refl, sym, ap, ◌∙◌, subst, inl, inr}
use Rattle.std.specs.Prelude.{fold, ◌||◌, ⊤}
use Rattle.std.specs.List.{list_any}
use Rattle.std.specs.Cmp.{IsEquivalence}
use Rattle.std.proofs.lemmas.Bool.{cases_Bool, or_left, or_right}
use Rattle.std.proofs.lemmas.List.Folds.{list_any-append}
use Rattle.std.proofs.lemmas.Option.{same_Some}
use Rattle.rg_plan.specs.Nodes.{with_use, distinct}
use Rattle.rg_plan.specs.Whole.{StandsOnce}

neither : (a b : Bool) → (a || b) ≡ false → (a ≡ false) × (b ≡ false)
neither true b e = absurd cc
neither false b e = (refl, e)

module _ {K : Type 0} (same : K → K → Bool) where
  -- no member is the same as one behind it
  abbrev AreApart : List K → Type 0
  AreApart [] = ⊤
  AreApart (m ∷ ms) = (list_any (λ x. same m x) ms ≡ false) × AreApart ms

  apart-push : (members : List K) (x : K) → AreApart members → list_any (λ m. same m x) members ≡ false → AreApart (members ++ x ∷ [])
  apart-push [] x h new = (refl, tt)
  apart-push (m ∷ ms) x h new =
      let (first, later) = neither (same m x) (list_any (λ m. same m x) ms) new in
      (list_any-append (λ y. same m y) ms (x ∷ []) ∙ (λ i. h.0 i || (first i || false)), apart-push ms x h.1 later)

  apart-with_use : (members : List K) (x : K) → AreApart members → AreApart (with_use same members x)
  apart-with_use members x h = elim (cases_Bool (list_any (λ m. same m x) members)) [
    | inl old ↦ rw old h
    | inr new ↦ rw new (apart-push members x h new)
  ]

  apart-fold : (members uses : List K) → AreApart members → AreApart (fold (with_use same) members uses)
  apart-fold members [] h = h
  apart-fold members (x ∷ uses) h = apart-fold (with_use same members x) uses (apart-with_use members x h)

  module _ (e : IsEquivalence same) where
    seen : (x : K) (ms : List K) (i : ℕ) → slice_get ms i ≡ Some x → list_any (λ y. same x y) ms ≡ true
    seen x [] i h = absurd cc
    seen x (m ∷ ms) zero h = or_left _ _ (ap (λ y. same x y) (same_Some m x h) ∙ e.refl x)
    seen x (m ∷ ms) (suc i) h = or_right _ _ (seen x ms i h)

    not_behind : (x m : K) (ms : List K) (i : ℕ) → m ≡ x → list_any (λ y. same m y) ms ≡ false → slice_get ms i ≡ Some x → ⊥
    not_behind x m ms i is none h =
        let there : list_any (λ y. same m y) ms ≡ true = subst (λ y. list_any (λ z. same y z) ms ≡ true) (sym is) (seen x ms i h) in
        cc

    places : (ms : List K) → AreApart ms → StandsOnce ms
    places [] apart i j x h k = absurd cc
    places (m ∷ ms) apart zero zero x h k = refl
    places (m ∷ ms) apart zero (suc j) x h k = absurd (not_behind x m ms j (same_Some m x h) apart.0 k)
    places (m ∷ ms) apart (suc i) zero x h k = absurd (not_behind x m ms i (same_Some m x k) apart.0 h)
    places (m ∷ ms) apart (suc i) (suc j) x h k = ap suc (places ms apart.1 i j x h k)

    -- each distinct member stands at one place
    pub once : (uses : List K) → StandsOnce (distinct same uses)
    once uses = places (distinct same uses) (apart-fold [] uses tt)
