-- When values, and keys, are the same.
use Rattle.std.specs.Prelude.{◌&&◌, Bool, true, false, not, List, [], ◌∷◌, bytes_eq, nat_eq}
use Rattle.std.specs.Ordering.{int_eq}
use Rattle.rg_event.specs.declared.value.Value.{Value}
use Rattle.rg_event.specs.declared.value.Value.TheVariants.{Int, Id, Text, Flag}

abbrev pub same_flag : Bool → Bool → Bool
same_flag true y = y
same_flag false y = not y

-- two values are of one kind and the same
abbrev pub same_value : Value → Value → Bool
same_value (Int x) (Int y) = int_eq x y
same_value (Id x) (Id y) = nat_eq x y
same_value (Text x) (Text y) = bytes_eq x y
same_value (Flag x) (Flag y) = same_flag x y
same_value x y = false

-- two lists of values are the same, value by value
abbrev pub same_values : List Value → List Value → Bool
same_values [] [] = true
same_values [] (y ∷ ys) = false
same_values (x ∷ xs) [] = false
same_values (x ∷ xs) (y ∷ ys) = same_value x y && same_values xs ys
