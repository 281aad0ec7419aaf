-- Lists that begin others.
use Rattle.std.proofs.Common.{◌≡◌, ◌⊎◌, inl, inr, List, [], ◌∷◌, ◌++◌, refl, ap, sym, ◌∙◌, append_assoc}
use Rattle.rg_run_spec.specs.Laws.{IsPrefixOf}

-- of two lists that begin one list, one begins the other
pub prefixes : {A : Type 0} (a b rest more : List A) → a ++ rest ≡ b ++ more → ((c : List A) × (a ++ c ≡ b)) ⊎ ((x : A) × (c : List A) × (a ≡ b ++ x ∷ c))
prefixes [] b rest more is = inl (b, refl)
prefixes (x ∷ a) [] rest more is = inr (x, a, refl)
prefixes (x ∷ a) (y ∷ b) rest more is = elim (prefixes a b rest more (cc)) [
  | inl h ↦ inl (h.0, let same : x ≡ y = cc in let k : a ++ h.0 ≡ b = h.1 in cc)
  | inr h ↦ inr (h.0, h.1, let same : x ≡ y = cc in let k : a ≡ b ++ h.0 ∷ h.1 = h.2 in cc)
]

pub prefix_then : {A : Type 0} (a b c : List A) → IsPrefixOf a b → IsPrefixOf b c → IsPrefixOf a c
prefix_then a b c one two = (one.0 ++ two.0, sym (append_assoc a one.0 two.0) ∙ ap (λ l. l ++ two.0) one.1 ∙ two.1)

pub prefix_more : {A : Type 0} (a b more : List A) → IsPrefixOf a b → IsPrefixOf a (b ++ more)
prefix_more a b more front = (front.0 ++ more, sym (append_assoc a front.0 more) ∙ ap (λ l. l ++ more) front.1)
