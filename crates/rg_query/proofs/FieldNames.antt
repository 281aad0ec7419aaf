-- Names by number, as the code finds them.
use Rattle.std.proofs.Common.{◌≡◌, ℕ, zero, suc, ◌<◌, ◌≤◌, List, [], ◌∷◌, length, get_or, refl, arith}
use Rattle.rg_event.specs.declared.schema.Field.{Field}
use Rattle.rg_query.specs.Printing.{name_at}

pub no_column : (fields : List Field) → name_at 0 fields ≡ []
no_column [] = refl
no_column (field ∷ fields) = refl

pub name_there : (n : ℕ) (fields : List Field) (other : Field) → n < length fields → name_at (suc n) fields ≡ (get_or fields n other).name
name_there n [] other below = absurd (omega arith)
name_there zero (field ∷ fields) other below = refl
name_there (suc n) (field ∷ fields) other below = name_there n fields other (omega arith)

pub name_behind : (n : ℕ) (fields : List Field) → length fields ≤ n → name_at (suc n) fields ≡ []
name_behind n [] above = refl
name_behind zero (field ∷ fields) above = absurd (omega arith)
name_behind (suc n) (field ∷ fields) above = name_behind n fields (omega arith)
