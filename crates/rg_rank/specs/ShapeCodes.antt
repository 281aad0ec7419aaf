-- How the logic tells shapes apart: by their nodes in a list, each behind its sides.
use Rattle.std.specs.Prelude.{◌≡◌, ℕ, List, [], ◌∷◌, Option, Some, None, refl}
use Rattle.std.proofs.Common.{◌∙◌}
use Rattle.std.specs.Coded.{Coded, code_by, coded×, coded_ℕ, coded_list, coded_option}
use Rattle.rg_event.specs.declared.value.Value.{Value}
use Rattle.rg_event.specs.contracts.value.Value.{the_row as value_row}
use Rattle.rg_rank.specs.Shapes.{Shape, Leaf, Fork}

-- the nodes of a shape, and then these: a pair, or none for no pairs
abbrev nodes : Shape → List (Option (Value × ℕ)) → List (Option (Value × ℕ))
nodes Leaf after = None ∷ after
nodes (Fork left pair right) after = nodes left (nodes right (Some pair ∷ after))

-- the last two shapes as the sides of a pair
abbrev joined : Value × ℕ → List Shape → List Shape
joined pair (right ∷ (left ∷ shapes)) = Fork left pair right ∷ shapes
joined pair shapes = shapes

-- the shapes that nodes make, behind these; the last one first
abbrev built : List (Option (Value × ℕ)) → List Shape → List Shape
built [] shapes = shapes
built (None ∷ after) shapes = built after (Leaf ∷ shapes)
built (Some pair ∷ after) shapes = built after (joined pair shapes)

abbrev first : List Shape → Shape
first [] = Leaf
first (shape ∷ shapes) = shape

pub built-nodes : (shape : Shape) (after : List (Option (Value × ℕ))) (shapes : List Shape) → built (nodes shape after) shapes ≡ built after (shape ∷ shapes)
built-nodes Leaf after shapes = refl
built-nodes (Fork left pair right) after shapes = built-nodes left (nodes right (Some pair ∷ after)) shapes ∙ built-nodes right (Some pair ∷ after) (left ∷ shapes)

pub first-nodes : (shape : Shape) → first (built (nodes shape []) []) ≡ shape
first-nodes shape = rw (built-nodes shape [] []) refl

abbrev pub shape_code : Coded Shape
shape_code = code_by (List (Option (Value × ℕ))) (coded_list (coded_option (coded× value_row.coded coded_ℕ))) (λ shape. nodes shape []) (λ list. first (built list [])) first-nodes
