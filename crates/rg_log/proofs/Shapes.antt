-- The payload of a schema is of no other one.
use Rattle.std.proofs.Common.{◌≡◌, ℕ, List, ◌∷◌, Option, Some, refl}
use Rattle.rg_event.specs.Reading.{shape_of}
use Rattle.rg_event.specs.Shapes.{Shape, IsSchema, schema_text}
use Rattle.rg_event.proofs.Laws.{read_back}
use Rattle.rg_log.specs.Payloads.{schema_payload}

pub same_some : {A : Type 0} → (o : Option A) (a b : A) → o ≡ Some a → o ≡ Some b → a ≡ b
same_some o a b is also = cc

pub head_same : (a b : List ℕ) (x y : List (List ℕ)) → a ∷ x ≡ b ∷ y → a ≡ b
head_same a b x y e = cc

pub rest_same : (a b : List ℕ) (x y : List (List ℕ)) → a ∷ x ≡ b ∷ y → x ≡ y
rest_same a b x y e = cc

text_same : (a b : List ℕ) → 83 ∷ a ≡ 83 ∷ b → a ≡ b
text_same a b e = cc

pub one_shape : (s t : Shape) → IsSchema s → IsSchema t → schema_payload s ≡ schema_payload t → s ≡ t
one_shape s t is also same =
    same_some (shape_of (schema_text s)) s t (read_back (schema_text s) s is refl) (read_back (schema_text s) t also (text_same (schema_text s) (schema_text t) same))
