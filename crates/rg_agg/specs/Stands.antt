-- The lists of values that states stand for.
use Rattle.std.specs.Prelude.{◌≡◌, ℕ, ◌≤◌, nat_le, nat_lt, ◌&&◌, Bool, true, false, IsTrue, ℤ, unsigned_abs, List, [], ◌∷◌, length, ⊤, Option, Some, None}
use Rattle.rg_agg.specs.Held.{is_like}
use Rattle.rg_event.specs.declared.value.Value.{Value}
use Rattle.rg_event.specs.declared.value.Value.TheVariants.{Int, Id}
use Rattle.rg_metric.specs.Same.{same_value}
use Rattle.rg_metric.specs.Answers.{numbers, total, total_of_squares}

-- an int from -10^12 to 10^12
abbrev pub IsInt : Value → Type 0
IsInt (Int number) = unsigned_abs number ≤ 1000000000000
IsInt value = ⊥

abbrev pub AreInts : List Value → Type 0
AreInts [] = ⊤
AreInts (value ∷ values) = IsInt value × AreInts values

-- such an int, or an id
abbrev pub is_int_or_id : Value → Bool
is_int_or_id (Int number) = nat_le (unsigned_abs number) 1000000000000
is_int_or_id (Id number) = nat_lt number 18446744073709551616
is_int_or_id value = false

abbrev pub IsNumber : Value → Type 0
IsNumber value = IsTrue (is_int_or_id value)

-- so many ints, of this sum
pub record IsTotal (n : ℕ) (sum : ℤ) (values : List Value) : Type 0 where
  pub count : n ≡ length values
  pub adds_up : sum ≡ total (numbers values)
  pub ints : AreInts values

-- so many ints, whose squares have this sum
pub record IsSquareTotal (n : ℕ) (sum : ℤ) (values : List Value) : Type 0 where
  pub count : n ≡ length values
  pub adds_up : sum ≡ total_of_squares (numbers values)
  pub ints : AreInts values

-- the last one behind a first one
abbrev pub last_behind : Value → List Value → Value
last_behind first [] = first
last_behind first (value ∷ values) = last_behind value values

-- the last one, if there is one
abbrev pub last_value : List Value → Option Value
last_value [] = None
last_value (value ∷ values) = Some (last_behind value values)

-- ints or ids in their range, each of the kind of this first one
abbrev pub all_like : Value → List Value → Bool
all_like first [] = true
all_like first (value ∷ values) = is_int_or_id value && (is_like first value && all_like first values)

-- ints in their range, or ids in theirs
abbrev pub are_alike : List Value → Bool
are_alike [] = true
are_alike (value ∷ values) = is_int_or_id value && all_like value values

-- so many ints, or so many ids, of which this is the last one
pub record IsEnd (n : ℕ) (last : Option Value) (values : List Value) : Type 0 where
  pub count : n ≡ length values
  pub ends : last ≡ last_value values
  pub alike : are_alike values ≡ true

-- the list begins with this value
abbrev pub begins_with : Value → List Value → Bool
begins_with value [] = false
begins_with value (first ∷ values) = same_value first value
