-- The number of a member stays when others come.
use Rattle.std.proofs.Common.{ℕ, ◌+◌, Bool, List, [], ◌∷◌, ◌++◌, map, ◌≡◌, refl, sym, ap, ◌∙◌, inl, inr}
use Rattle.std.specs.Prelude.{fold}
use Rattle.std.specs.Cmp.{IsEquivalence}
use Rattle.std.specs.List.{list_any}
use Rattle.std.proofs.lemmas.Bool.{cases_Bool}
use Rattle.std.proofs.lemmas.List.{map-append}
use Rattle.rg_plan.specs.Nodes.{with_use, number_in}
use Rattle.rg_plan.proofs.Numbered.{Each, IsAmong, kept-by, there}

module _ {K : Type 0} (same : K → K → Bool) where
  stays_pushed : (members more : List K) (x : K) → IsAmong same members x → number_in same (members ++ more) x ≡ number_in same members x
  stays_pushed [] more x h = absurd cc
  stays_pushed (m ∷ members) more x h = elim (cases_Bool (same m x)) [
    | inl hit ↦ rw hit refl
    | inr miss ↦ rw miss (ap (λ n. 1 + n) (stays_pushed members more x (rw miss at h)))
  ]

  pub stays_once : (members : List K) (u x : K) → IsAmong same members x → number_in same (with_use same members u) x ≡ number_in same members x
  stays_once members u x h = elim (cases_Bool (list_any (λ m. same m u) members)) [
    | inl old ↦ rw old refl
    | inr new ↦ rw new (stays_pushed members (u ∷ []) x h)
  ]

  all_stay : (members : List K) (u : K) (xs : List K) → Each (IsAmong same members) xs → map (number_in same (with_use same members u)) xs ≡ map (number_in same members) xs
  all_stay members u [] h = refl
  all_stay members u (x ∷ xs) h = λ i. stays_once members u x h.0 i ∷ all_stay members u xs h.1 i

  module _ (e : IsEquivalence same) where
    pub stays : (members uses : List K) (x : K) → IsAmong same members x → number_in same (fold (with_use same) members uses) x ≡ number_in same members x
    stays members [] x h = refl
    stays members (u ∷ uses) x h = stays (with_use same members u) uses x (kept-by same e members u x h) ∙ stays_once members u x h

    -- one more number behind those of some uses
    pub numbered_more : (first members after uses : List K) (u : K) (numbers : List ℕ) (n : ℕ) → members ≡ fold (with_use same) first uses → numbers ≡ map (number_in same members) uses
        → after ≡ with_use same members u → n ≡ number_in same after u → numbers ++ n ∷ [] ≡ map (number_in same after) (uses ++ u ∷ [])
    numbered_more first members after uses u numbers n m f a g =
        let among : Each (IsAmong same members) uses = rw m (there same e first uses) in
        (λ i. f i ++ g i ∷ [])
        ∙ ap (λ ns. ns ++ number_in same after u ∷ []) (sym (all_stay members u uses among) ∙ ap (λ ms. map (number_in same ms) uses) (sym a))
        ∙ sym (map-append (number_in same after) uses (u ∷ []))
