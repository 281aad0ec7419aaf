-- The pairs of a state of an extreme: values that no later one beats, each with its number.
use Rattle.std.specs.Prelude.{◌≡◌, ℕ, ◌+◌, ◌-◌, ◌<◌, ◌≤◌, ◌^◌, ◌==◌, Bool, false, List, [], ◌∷◌, ◌++◌, length, Option, Some, None, if◌then◌else◌}
use Rattle.std.proofs.Props.{props}
use Rattle.rg_agg.specs.Held.{Held, lowest, highest}
use Rattle.rg_agg.specs.Standing.{counts_sum}
use Rattle.rg_agg.specs.Stands.{IsNumber}
use Rattle.rg_event.specs.declared.value.Value.{Value}
use Rattle.rg_metric.specs.Same.{same_value}
use Rattle.rg_multiset.specs.Pairs.{IsTally}
use Rattle.rg_multiset.specs.Reading.{last_kept}
use Rattle.rg_multiset.specs.Props.{IsTally-prop}

-- the pairs with a value more at the back: those that it beats are gone, and it is joined with the last one left or comes behind it
abbrev pub with_value : (Value → Value → Bool) → Value → List (Value × ℕ) → List (Value × ℕ)
with_value beats value [] = (value, 1) ∷ []
with_value beats value (pair ∷ pairs) =
    if beats value pair.0 then (value, 1) ∷ []
    else if same_value value pair.0 then (pair.0, pair.1 + 1) ∷ []
    else pair ∷ with_value beats value pairs

-- the pairs with the last one's number raised
abbrev pub raised : List (Value × ℕ) → List (Value × ℕ)
raised [] = []
raised (pair ∷ []) = (pair.0, pair.1 + 1) ∷ []
raised (pair ∷ (next ∷ pairs)) = pair ∷ raised (next ∷ pairs)

-- the last value, if there is one, is this one
abbrev pub is_same : Option Value → Value → Bool
is_same None value = false
is_same (Some last) value = same_value last value

-- a value joined with the last pair, or put behind it
abbrev pub pushed : Value → List (Value × ℕ) → List (Value × ℕ)
pushed value pairs = if is_same (last_kept pairs) value then raised pairs else pairs ++ (value, 1) ∷ []

-- the pairs with one value fewer in the first of them
abbrev pub without_first : List (Value × ℕ) → List (Value × ℕ)
without_first [] = []
without_first (pair ∷ pairs) = if pair.1 == 1 then pairs else (pair.0, pair.1 - 1) ∷ pairs

-- the value of the first pair, if there is one
abbrev pub first_value : List (Value × ℕ) → Option Value
first_value [] = None
first_value (pair ∷ pairs) = Some pair.0

-- the last value, if there is one, is beaten by this one
abbrev pub is_beaten : (Value → Value → Bool) → Option Value → Value → Bool
is_beaten beats None value = false
is_beaten beats (Some last) value = beats value last

-- the number of the last pair
abbrev pub last_count : List (Value × ℕ) → ℕ
last_count [] = 0
last_count (pair ∷ []) = pair.1
last_count (pair ∷ (next ∷ pairs)) = last_count (next ∷ pairs)

-- one where the last pair's number is 1, none where it is above
abbrev pub begun : List (Value × ℕ) → ℕ
begun pairs = if last_count pairs == 1 then 1 else 0

-- so many values, of which so many are in these pairs; each pair's value beats the next one's
pub record IsDeque (beats : Value → Value → Bool) (n kept : ℕ) (pairs : List (Value × ℕ)) : Type 0 where
  pub few : n ≤ 2 ^ 40
  pub sum : kept ≡ counts_sum pairs
  pub most : kept ≤ n
  pub some : 0 < n → 0 < length pairs
  pub tally : IsTally IsNumber beats pairs

IsNumber-prop : (value : Value) → IsProp (IsNumber value)
IsNumber-prop value = Prim.hlevel props

-- such facts have at most one proof
pub IsDeque-prop : (beats : Value → Value → Bool) (n kept : ℕ) (pairs : List (Value × ℕ)) → IsProp (IsDeque beats n kept pairs)
IsDeque-prop beats n kept pairs = let tally = IsTally-prop IsNumber IsNumber-prop beats pairs in Prim.hlevel props

-- the pairs that a state of an extreme keeps
abbrev pub pairs_of : Held → List (Value × ℕ)
pairs_of (lowest n pairs) = pairs
pairs_of (highest n pairs) = pairs
pairs_of held = []
