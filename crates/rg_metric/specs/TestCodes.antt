-- How the logic tells conditions apart: by their nodes in a list, each behind its parts.
use Rattle.std.specs.Prelude.{◌≡◌, ℕ, zero, suc, false, List, [], ◌∷◌, ◌⊎◌, refl}
use Rattle.std.proofs.Common.{◌∙◌, inl, inr}
use Rattle.std.specs.Coded.{Coded, code_by, coded×, coded⊎, coded_ℕ, coded_list}
use Rattle.rg_keywords.specs.declared.op.Op.{Op}
use Rattle.rg_keywords.specs.declared.op.Op.TheVariants.{Eq}
use Rattle.rg_keywords.specs.contracts.op.Op.{the_row as op_row}
use Rattle.rg_event.specs.declared.value.Value.{Value}
use Rattle.rg_event.specs.declared.value.Value.TheVariants.{Flag}
use Rattle.rg_event.specs.contracts.value.Value.{the_row as value_row}
use Rattle.rg_metric.specs.Conditions.{Test, compared, not_of, and_of, or_of}

-- a comparison, or 0 for NOT, 1 for AND, 2 for OR
abbrev Node : Type 0
Node = (ℕ × (Op × Value)) ⊎ ℕ

-- the nodes of a condition, and then these
abbrev nodes : Test → List Node → List Node
nodes (compared column op literal) after = inl (column, (op, literal)) ∷ after
nodes (not_of t) after = nodes t (inr 0 ∷ after)
nodes (and_of s t) after = nodes s (nodes t (inr 1 ∷ after))
nodes (or_of s t) after = nodes s (nodes t (inr 2 ∷ after))

-- the last conditions under NOT, AND or OR
abbrev joined : ℕ → List Test → List Test
joined zero (t ∷ ts) = not_of t ∷ ts
joined (suc zero) (t ∷ (s ∷ ts)) = and_of s t ∷ ts
joined (suc (suc n)) (t ∷ (s ∷ ts)) = or_of s t ∷ ts
joined n ts = ts

-- the conditions that nodes make, behind these; the last one first
abbrev built : List Node → List Test → List Test
built [] ts = ts
built (inl c ∷ after) ts = built after (compared c.0 c.1.0 c.1.1 ∷ ts)
built (inr n ∷ after) ts = built after (joined n ts)

abbrev first : List Test → Test
first [] = compared 0 Eq (Flag false)
first (t ∷ ts) = t

pub built-nodes : (t : Test) (after : List Node) (ts : List Test) → built (nodes t after) ts ≡ built after (t ∷ ts)
built-nodes (compared column op literal) after ts = refl
built-nodes (not_of t) after ts = built-nodes t (inr 0 ∷ after) ts
built-nodes (and_of s t) after ts = built-nodes s (nodes t (inr 1 ∷ after)) ts ∙ built-nodes t (inr 1 ∷ after) (s ∷ ts)
built-nodes (or_of s t) after ts = built-nodes s (nodes t (inr 2 ∷ after)) ts ∙ built-nodes t (inr 2 ∷ after) (s ∷ ts)

pub first-nodes : (t : Test) → first (built (nodes t []) []) ≡ t
first-nodes t = rw (built-nodes t [] []) refl

abbrev pub test_code : Coded Test
test_code =
    code_by (List Node) (coded_list (coded⊎ (coded× coded_ℕ (coded× op_row.coded value_row.coded)) coded_ℕ)) (λ t. nodes t []) (λ ns. first (built ns [])) first-nodes
