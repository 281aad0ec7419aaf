-- The values of a list that no later one beats.
use Rattle.std.specs.Prelude.{◌≡◌, ℕ, ◌+◌, int_lt, Bool, true, List, [], ◌∷◌, length, if◌then◌else◌}
use Rattle.std.specs.List.{list_any}
use Rattle.rg_event.specs.declared.value.Value.{Value}
use Rattle.rg_metric.specs.Answers.{number_of}
use Rattle.rg_metric.specs.Same.{same_value}
use Rattle.rg_agg.specs.Stands.{are_alike}

-- the first value is the less number
abbrev pub is_less : Value → Value → Bool
is_less value other = int_lt (number_of value) (number_of other)

-- the first value is the greater number
abbrev pub is_greater : Value → Value → Bool
is_greater value other = int_lt (number_of other) (number_of value)

-- a value in front of values with their numbers: joined with the first of them where it is the same
abbrev pub joined_to : Value → List (Value × ℕ) → List (Value × ℕ)
joined_to value [] = (value, 1) ∷ []
joined_to value (pair ∷ pairs) = if same_value value pair.0 then (pair.0, pair.1 + 1) ∷ pairs else (value, 1) ∷ (pair ∷ pairs)

-- in order, the values at those places of a list after which none stands that beats them, equal neighbours joined with their number
abbrev pub unbeaten : (Value → Value → Bool) → List Value → List (Value × ℕ)
unbeaten beats [] = []
unbeaten beats (value ∷ values) = if list_any (λ later. beats later value) values then unbeaten beats values else joined_to value (unbeaten beats values)

-- so many ints, or so many ids, of which these are the unbeaten ones
pub record IsExtreme (beats : Value → Value → Bool) (n : ℕ) (pairs : List (Value × ℕ)) (values : List Value) : Type 0 where
  pub count : n ≡ length values
  pub kept : pairs ≡ unbeaten beats values
  pub alike : are_alike values ≡ true
