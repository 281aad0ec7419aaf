-- Numbers of members tell uses apart as the test does.
use Rattle.std.proofs.Common.{◌+◌, Bool, true, cond, List, [], ◌∷◌, ◌++◌, map, ◌≡◌, refl, sym, ap, ◌∙◌, arith, inl, inr, eqb-true, eq-eqb}
use Rattle.std.specs.Prelude.{fold, not, ◌||◌, nat_eq, ⊤}
use Rattle.std.specs.List.{list_any}
use Rattle.std.specs.Cmp.{IsEquivalence, both_ways}
use Rattle.std.proofs.lemmas.Bool.{cases_Bool, or_left, or_right}
use Rattle.std.proofs.lemmas.List.{map-append}
use Rattle.std.proofs.lemmas.List.Folds.{list_any-append}
use Rattle.rg_plan.specs.Nodes.{with_use, distinct, number_in}

-- P holds of each element
abbrev pub Each : {K : Type 0} → (K → Type 0) → List K → Type 0
Each P [] = ⊤
Each P (x ∷ xs) = P x × Each P xs

-- one of the members is the same
abbrev pub IsAmong : {K : Type 0} → (K → K → Bool) → List K → K → Type 0
IsAmong same members x = list_any (λ m. same m x) members ≡ true

module _ {K : Type 0} (same : K → K → Bool) (e : IsEquivalence same) where
  alike : (members : List K) (x y : K) → same x y ≡ true → number_in same members x ≡ number_in same members y
  alike [] x y h = refl
  alike (m ∷ ms) x y h =
      let right : same m x ≡ same m y = e.symm m x ∙ e.congr x y m h ∙ e.symm y m in
      λ i. cond (not (right i)) (1 + alike ms x y h i) 0

  told : (members : List K) (x y : K) → IsAmong same members x → IsAmong same members y → number_in same members x ≡ number_in same members y → same x y ≡ true
  told [] x y p q h = cc
  told (m ∷ ms) x y p q h = elim (cases_Bool (same m x)) [
    | inl a ↦ elim (cases_Bool (same m y)) [
      | inl b ↦ sym (e.congr m x y a) ∙ b
      | inr b ↦ absurd (omega (arith, rw (a, b) at h))
    ]
    | inr a ↦ elim (cases_Bool (same m y)) [
      | inl b ↦ absurd (omega (arith, rw (a, b) at h))
      | inr b ↦ told ms x y (rw a at p) (rw b at q) (omega (arith, rw (a, b) at h))
    ]
  ]

  -- equal numbers are of equal uses, and of no others
  pub exact : (members : List K) (x y : K) → IsAmong same members x → IsAmong same members y → nat_eq (number_in same members x) (number_in same members y) ≡ same x y
  exact members x y p q = both_ways _ _ (λ h. told members x y p q (eqb-true _ _ h)) (λ h. eq-eqb _ _ (alike members x y h))

  pub kept-by : (members : List K) (u x : K) → IsAmong same members x → IsAmong same (with_use same members u) x
  kept-by members u x h = elim (cases_Bool (list_any (λ m. same m u) members)) [
    | inl old ↦ rw old h
    | inr new ↦ rw new (list_any-append (λ m. same m x) members (u ∷ []) ∙ or_left _ _ h)
  ]

  has : (members : List K) (x : K) → IsAmong same (with_use same members x) x
  has members x = elim (cases_Bool (list_any (λ m. same m x) members)) [
    | inl old ↦ rw old old
    | inr new ↦ rw new (list_any-append (λ m. same m x) members (x ∷ []) ∙ or_right _ _ (or_left _ _ (e.refl x)))
  ]

  kept : (members uses : List K) (x : K) → IsAmong same members x → IsAmong same (fold (with_use same) members uses) x
  kept members [] x h = h
  kept members (u ∷ uses) x h = kept (with_use same members u) uses x (kept-by members u x h)

  pub there : (members uses : List K) → Each (IsAmong same (fold (with_use same) members uses)) uses
  there members [] = tt
  there members (u ∷ uses) = (kept (with_use same members u) uses u (has members u), there (with_use same members u) uses)

  -- each use is among the distinct ones
  pub all_there : (uses : List K) → Each (IsAmong same (distinct same uses)) uses
  all_there uses = there [] uses

-- a test that answers as another one does, through f, of what has P
module _ {A B : Type 0} (f : A → B) (sa : A → A → Bool) (sb : B → B → Bool) (P : A → Type 0) (agree : (a b : A) → P a → P b → sb (f a) (f b) ≡ sa a b) where
  any-along : (ms : List A) (x : A) → Each P ms → P x → list_any (λ m. sb m (f x)) (map f ms) ≡ list_any (λ m. sa m x) ms
  any-along [] x h p = refl
  any-along (m ∷ ms) x h p = λ i. agree m x h.0 p i || any-along ms x h.1 p i

  pub number-along : (ms : List A) (x : A) → Each P ms → P x → number_in sb (map f ms) (f x) ≡ number_in sa ms x
  number-along [] x h p = refl
  number-along (m ∷ ms) x h p = λ i. cond (not (agree m x h.0 p i)) (1 + number-along ms x h.1 p i) 0

  each-push : (ms : List A) (x : A) → Each P ms → P x → Each P (ms ++ x ∷ [])
  each-push [] x h p = (p, tt)
  each-push (m ∷ ms) x h p = (h.0, each-push ms x h.1 p)

  each-with_use : (ms : List A) (x : A) → Each P ms → P x → Each P (with_use sa ms x)
  each-with_use ms x h p = elim (cases_Bool (list_any (λ m. sa m x) ms)) [
    | inl old ↦ rw old h
    | inr new ↦ rw new (each-push ms x h p)
  ]

  each-fold : (ms uses : List A) → Each P ms → Each P uses → Each P (fold (with_use sa) ms uses)
  each-fold ms [] h k = h
  each-fold ms (u ∷ uses) h k = each-fold (with_use sa ms u) uses (each-with_use ms u h k.0) k.1

  pub each-distinct : (uses : List A) → Each P uses → Each P (distinct sa uses)
  each-distinct uses h = each-fold [] uses tt h

  with_use-along : (ms : List A) (x : A) → Each P ms → P x → map f (with_use sa ms x) ≡ with_use sb (map f ms) (f x)
  with_use-along ms x h p = elim (cases_Bool (list_any (λ m. sa m x) ms)) [
    | inl old ↦ rw (old, any-along ms x h p ∙ old) refl
    | inr new ↦ rw (new, any-along ms x h p ∙ new) (map-append f ms (x ∷ []))
  ]

  fold-along : (ms uses : List A) → Each P ms → Each P uses → map f (fold (with_use sa) ms uses) ≡ fold (with_use sb) (map f ms) (map f uses)
  fold-along ms [] h k = refl
  fold-along ms (u ∷ uses) h k =
      fold-along (with_use sa ms u) uses (each-with_use ms u h k.0) k.1 ∙ ap (λ ys. fold (with_use sb) ys (map f uses)) (with_use-along ms u h k.0)

  pub distinct-along : (uses : List A) → Each P uses → map f (distinct sa uses) ≡ distinct sb (map f uses)
  distinct-along uses h = fold-along [] uses tt h
