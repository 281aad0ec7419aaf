-- Which of two values beats the other.
use Rattle.std.specs.Prelude.{Bool, false, Option, Some, None, pos, negsuc}
use Rattle.rg_agg.specs.Unbeaten.{is_less, is_greater}
use Rattle.rg_event.specs.declared.value.Value.{Value}
use Rattle.rg_event.specs.declared.value.Value.TheVariants.{Int, Id}
use Rattle.rg_extreme.specs.declared.side.Side.{Side}
use Rattle.rg_extreme.specs.declared.side.Side.TheVariants.{Least, Greatest}

-- the less number beats the greater one where the least is asked, and the other way round
abbrev pub beats : Side → Value → Value → Bool
beats Least = is_less
beats Greatest = is_greater

-- the int or the id that each other one beats
abbrev pub weakest : Side → Value → Value
weakest Least (Int number) = Int (pos 1000000000000)
weakest Least (Id number) = Id 18446744073709551615
weakest Greatest (Int number) = Int (negsuc 999999999999)
weakest Greatest (Id number) = Id 0
weakest side value = value

-- there is a value that this one beats
abbrev pub can_beat : Side → Value → Bool
can_beat side value = beats side value (weakest side value)

-- there is a value, and one that it beats
abbrev pub some_can_beat : Side → Option Value → Bool
some_can_beat side None = false
some_can_beat side (Some value) = can_beat side value
