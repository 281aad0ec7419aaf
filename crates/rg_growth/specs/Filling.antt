-- The growth that defaults make: each column that a schema lacks is given its default.
use Rattle.std.specs.Prelude.{◌≡◌, List, [], ◌∷◌, length, drop, Option, Some, None, option_map, option_and_then}
use Rattle.rg_event.specs.Shapes.{Shape}
use Rattle.rg_event.specs.declared.value.Value.{Value}
use Rattle.rg_growth.specs.Payloads.{IsGrowthOf, if_grows}
use Rattle.rg_growth.specs.declared.growth.Growth.{Growth}

-- for each column past the time its default, if it has one
abbrev pub Given : Type 0
Given = List (Option Value)

-- all of these, where each is there
abbrev pub all_given : Given → Option (List Value)
all_given [] = Some []
all_given (None ∷ defaults) = None
all_given (Some value ∷ defaults) = option_map (λ (values : List Value). value ∷ values) (all_given defaults)

-- the defaults of the columns that the first schema lacks; none where it doesn't grow to the other one, or one of them has none
abbrev pub filled : Shape → Shape → Given → Option (List Value)
filled from to defaults = option_and_then (λ (shape : Shape). all_given (drop (length from.fields) defaults)) (if_grows from to)

abbrev pub growth_to : Shape → List Value → Growth
growth_to to values = record { to = to; values = values }

-- the schema grows to the other one by these values, the defaults of the columns that it lacks
pub record IsFilled (from to : Shape) (defaults : Given) (values : List Value) : Type 0 where
  pub filled_is : filled from to defaults ≡ Some values
  pub of : IsGrowthOf from (growth_to to values)
