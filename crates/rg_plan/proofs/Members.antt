-- Lists of members, each once.
use Rattle.std.proofs.Common.{◌+◌, ◌≤◌, Bool, cond, List, [], ◌∷◌, ◌++◌, length, map, ◌≡◌, refl, sym, ◌∙◌, arith, length-append}
use Rattle.std.specs.Prelude.{fold, not, ◌||◌, All}
use Rattle.std.proofs.lemmas.List.Elements.{All-nil, All-head, All-tail, All-push}
use Rattle.std.specs.List.{list_any}
use Rattle.std.proofs.lemmas.List.{map-append}
use Rattle.std.proofs.lemmas.List.Sums.{fold-append}
use Rattle.std.proofs.lemmas.Bool.{cases_Bool}
use Rattle.std.proofs.Common.{inl, inr}
use Rattle.rg_plan.specs.Nodes.{with_use, distinct, number_in}

-- one more use
pub distinct-push : {K : Type 0} (same : K → K → Bool) (uses : List K) (x : K) → distinct same (uses ++ x ∷ []) ≡ with_use same (distinct same uses) x
distinct-push same uses x = fold-append (with_use same) [] uses (x ∷ [])

-- the members as seen through f
module _ {K X : Type 0} (f : K → X) (same : X → X → Bool) where
  list_any-seen : (x : K) (members : List K) → list_any (λ m. same (f m) (f x)) members ≡ list_any (λ m. same m (f x)) (map f members)
  list_any-seen x [] = refl
  list_any-seen x (m ∷ members) = λ i. same (f m) (f x) || list_any-seen x members i

  pub with_use-seen : (members : List K) (x : K) → map f (with_use (λ a b. same (f a) (f b)) members x) ≡ with_use same (map f members) (f x)
  with_use-seen members x = elim (cases_Bool (list_any (λ m. same (f m) (f x)) members)) [
    | inl old ↦ rw (old, sym (list_any-seen x members) ∙ old) refl
    | inr new ↦ rw (new, sym (list_any-seen x members) ∙ new) (map-append f members (x ∷ []))
  ]

  pub number-seen : (x : K) (members : List K) → number_in (λ a b. same (f a) (f b)) members x ≡ number_in same (map f members) (f x)
  number-seen x [] = refl
  number-seen x (m ∷ members) = λ i. cond (not (same (f m) (f x))) (1 + number-seen x members i) 0

-- how many members there are
module _ {K : Type 0} (same : K → K → Bool) where
  pub with_use-length : (members : List K) (x : K) → length (with_use same members x) ≤ length members + 1
  with_use-length members x = elim (cases_Bool (list_any (λ m. same m x) members)) [
    | inl old ↦ rw old (omega arith)
    | inr new ↦ rw new (omega (arith, length-append members (x ∷ [])))
  ]

  fold-length : (members uses : List K) → length (fold (with_use same) members uses) ≤ length members + length uses
  fold-length members [] = omega arith
  fold-length members (x ∷ uses) = omega (arith, with_use-length members x, fold-length (with_use same members x) uses)

  pub distinct-length : (uses : List K) → length (distinct same uses) ≤ length uses
  distinct-length uses = omega (arith, fold-length [] uses)

-- what holds of each use holds of each member
module _ {K : Type 0} (same : K → K → Bool) (P : K → Type 0) where
  All-with_use : (members : List K) (x : K) → All P members → P x → All P (with_use same members x)
  All-with_use members x h p = elim (cases_Bool (list_any (λ m. same m x) members)) [
    | inl old ↦ rw old h
    | inr new ↦ rw new (All-push P members x h p)
  ]

  All-fold : (members uses : List K) → All P members → All P uses → All P (fold (with_use same) members uses)
  All-fold members [] h k = h
  All-fold members (x ∷ uses) h k = All-fold (with_use same members x) uses (All-with_use members x h (All-head P x uses k)) (All-tail P x uses k)

  pub All-distinct : (uses : List K) → All P uses → All P (distinct same uses)
  All-distinct uses h = All-fold [] uses (All-nil P) h
