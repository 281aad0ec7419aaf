-- The fields of a record from a place on.
use Rattle.std.proofs.Common.{◌≡◌, ℕ, zero, suc, ◌+◌, List, [], ◌∷◌, Some, None, drop, refl, arith}
use Rattle.csv.specs.Records.{field_at}

pub field_first : (fields : List (List ℕ)) (from : ℕ) (text : List ℕ) → Some text ≡ field_at fields from → drop from fields ≡ text ∷ drop (from + 1) fields
unfolding field_at
field_first [] from text is = cc is
field_first (field ∷ fields) zero text is = let same : text ≡ field = cc in rw same refl
field_first (field ∷ fields) (suc from) text is = let step : suc from + 1 ≡ suc (from + 1) = omega arith in rw step (field_first fields from text is)

pub no_field : (fields : List (List ℕ)) (from : ℕ) → None ≡ field_at fields from → drop from fields ≡ []
unfolding field_at
no_field [] zero is = refl
no_field [] (suc from) is = refl
no_field (field ∷ fields) zero is = absurd (cc is)
no_field (field ∷ fields) (suc from) is = no_field fields from is
