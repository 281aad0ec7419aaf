-- Spots that a past spells, each by its edge.
use Rattle.std.proofs.Common.{◌≡◌, ℕ, ◌<◌, List, length, get_or, set, Some, inl, inr, ap, sym, subst, ◌∙◌, arith}
use Rattle.std.proofs.lemmas.List.{get_or-set_same, get_or-set_other, length-set}
use Rattle.std.proofs.lemmas.Option.{slice_get_within, slice_get-get_or}
use Rattle.rg_past.specs.declared.past.Spot.{Spot}
use Rattle.rg_window.specs.Placed.{IsSpelledAt}
use Rattle.rg_window.proofs.Passes.{which}
use Rattle.rg_window.proofs.Runs.{no_spot}

same_some : {A : Type 0} {x y : A} → Some x ≡ Some y → x ≡ y
same_some e = cc

-- a spelled edge is one of the edges
pub spelled_within : (S : Spot → Type 0) (spots : List Spot) (edge : ℕ) → IsSpelledAt S spots edge → edge < length spots
spelled_within S spots edge h = slice_get_within spots edge h.0 h.1

-- its spot, by its index
pub spelled_spot : (S : Spot → Type 0) (spots : List Spot) (edge : ℕ) (d : Spot) → IsSpelledAt S spots edge → S (get_or spots edge d)
spelled_spot S spots edge d h =
    subst S (same_some (sym h.1 ∙ slice_get-get_or spots edge d (slice_get_within spots edge h.0 h.1))) h.2

-- the same, where it is known
pub spelled_of : (S : Spot → Type 0) (spots : List Spot) (edge : ℕ) (spot : Spot) → spot ≡ get_or spots edge spot → IsSpelledAt S spots edge → S spot
spelled_of S spots edge spot is h = subst S (sym is) (spelled_spot S spots edge spot h)

-- the spot of an index is spelled
pub spelled_here : (S : Spot → Type 0) (spots : List Spot) (edge : ℕ) (d : Spot) → edge < length spots → S (get_or spots edge d) → IsSpelledAt S spots edge
spelled_here S spots edge d l h = (get_or spots edge d, slice_get-get_or spots edge d l, h)

-- one edge's spot is written, and the others' stay spelled
pub spelled_set : (S T : Spot → Type 0) (spots : List Spot) (edge i : ℕ) (new : Spot) → edge < length spots → ((spot : Spot) → S spot → T spot) → (i ≡ edge → T new) → IsSpelledAt S spots i → IsSpelledAt T (set spots edge new) i
spelled_set S T spots edge i new l keeps here h =
    let within : i < length (set spots edge new) = omega (arith, length-set spots edge new, spelled_within S spots i h) in
    spelled_here T (set spots edge new) i no_spot within (elim (which i edge) [
      | inl before ↦ subst T (sym (get_or-set_other spots edge i new no_spot (λ s. absurd (omega arith)))) (keeps (get_or spots i no_spot) (spelled_spot S spots i no_spot h))
      | inr (inl same) ↦ subst T (sym (ap (λ k. get_or (set spots edge new) k no_spot) same ∙ get_or-set_same spots edge new no_spot l)) (here same)
      | inr (inr after) ↦ subst T (sym (get_or-set_other spots edge i new no_spot (λ s. absurd (omega arith)))) (keeps (get_or spots i no_spot) (spelled_spot S spots i no_spot h))
    ])
