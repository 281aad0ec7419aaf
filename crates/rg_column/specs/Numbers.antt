-- Columns of numbers: a base, a width, and for each number its difference to the base.
use Rattle.std.specs.Prelude.{ℕ, ◌≤◌, All, ◌+◌, ◌-◌, nat_le, ◌==◌, ◌&&◌, Bool, ℤ, List, [], ◌∷◌, ◌++◌, map, get_or, min, max, Option, Some, None, Ok, Err, if◌then◌else◌}
use Rattle.std.specs.Int.{w64, to_be_bytes, cast_signed, cast_unsigned}
use Rattle.rg_bytes.specs.Reading.{and_then, tested, u8_at, u64_at, more_at, list_bytes}
use Rattle.rg_event.specs.declared.event.Event.{Event}
use Rattle.rg_event.specs.declared.value.Value.{Value}
use Rattle.rg_event.specs.declared.value.Value.TheVariants.{Int as IntValue, Id as IdValue, Text as TextValue, Flag as FlagValue}
use Rattle.rg_column.specs.Widths.{Reading, least_width, width_byte, width_said, difference_bytes, difference_at}
use Rattle.rg_column.specs.declared.fault.ColumnFault.TheVariants.{Short, BadColumn}
use Rattle.rg_column.specs.declared.series.Series.{Series}
use Rattle.rg_column.specs.declared.series.Series.TheVariants.{Offset, Time, Int, Id}
use Rattle.rg_column.specs.declared.width.Width.{Width}

-- the number of 64 bits whose highest bit is the other one
abbrev pub turned : ℕ → ℕ
turned number = if nat_le number 9223372036854775807 then number + 9223372036854775808 else number - 9223372036854775808

-- the place of an int among all of 64 bits, the least of which has the place 0
abbrev pub int_place : ℤ → ℕ
int_place number = turned (cast_unsigned w64 number)

-- the int that has this place
abbrev pub int_of : ℕ → ℤ
int_of place = cast_signed w64 (turned place)

-- the number that stands for a value in a column of numbers: an int's place, or an id
abbrev pub value_number : Value → ℕ
value_number (IntValue number) = int_place number
value_number (IdValue number) = number
value_number (TextValue text) = 0
value_number (FlagValue flag) = 0

-- the value at this index; a legal event has one
abbrev pub value_of : ℕ → Event → Value
value_of index event = get_or event.values index (IdValue 0)

-- the number of an event in a column
abbrev pub number_of : Series → Event → ℕ
number_of Offset event = event.offset
number_of Time event = event.time
number_of (Int index) event = value_number (value_of index event)
number_of (Id index) event = value_number (value_of index event)

-- what the bytes of a base say as a number: two's complement for ints
abbrev pub base_bits : Series → ℕ → ℕ
base_bits Offset base = base
base_bits Time base = base
base_bits (Int index) base = turned base
base_bits (Id index) base = base

-- the least number that a column may have: an int is at least -10^12
abbrev pub lowest : Series → ℕ
lowest Offset = 0
lowest Time = 0
lowest (Int index) = 9223371036854775808
lowest (Id index) = 0

-- the greatest number that a column may have: an int is at most 10^12
abbrev pub highest : Series → ℕ
highest Offset = 4611686018427387903
highest Time = 1000000000000000
highest (Int index) = 9223373036854775808
highest (Id index) = 18446744073709551615

-- what a fault calls a column
abbrev pub field_of : Series → ℕ
field_of Offset = 0
field_of Time = 0
field_of (Int index) = index + 1
field_of (Id index) = index + 1

-- the least of these numbers of 64 bits, and the greatest of all where there is none
abbrev pub least : List ℕ → ℕ
least [] = 18446744073709551615
least (number ∷ numbers) = min number (least numbers)

-- the greatest of these numbers, and 0 where there is none
abbrev pub greatest : List ℕ → ℕ
greatest [] = 0
greatest (number ∷ numbers) = max number (greatest numbers)

-- the least width that holds the greatest difference of these numbers to the least
abbrev pub width_of : List ℕ → Width
width_of numbers = least_width (greatest numbers - least numbers)

-- how far each of these numbers is above a base, in this width
abbrev pub differences_bytes : Width → ℕ → List ℕ → List ℕ
differences_bytes width base numbers = list_bytes (λ number. difference_bytes width (number - base)) numbers

-- the least number in 8 bytes, the width in one, and the differences
abbrev pub numbers_bytes : Series → List ℕ → List ℕ
numbers_bytes series numbers = to_be_bytes w64 (base_bits series (least numbers)) ++ width_byte (width_of numbers) ∷ differences_bytes (width_of numbers) (least numbers) numbers

-- each of these differences above a base
abbrev pub raised : ℕ → List ℕ → List ℕ
raised base differences = map (λ difference. difference + base) differences

-- the base is the least number, the width is the least one, and all numbers are of the column
abbrev pub is_packed : Series → ℕ → Width → List ℕ → Bool
is_packed series base width differences =
    (least differences == 0) && ((width_byte width == width_byte (least_width (greatest differences)))
    && (nat_le (lowest series) base && nat_le (base + greatest differences) (highest series)))

-- so many differences of this width
abbrev pub differences_at : Width → ℕ → List ℕ → Reading (List ℕ)
differences_at width count bytes = more_at (λ _. difference_at width) [] count bytes

-- the differences of a width that was said, if one was, above this base
unfoldable pub packed_at : Series → ℕ → Option Width → ℕ → List ℕ → Reading (List ℕ)
packed_at series base None count bytes = Err (BadColumn (field_of series))
packed_at series base (Some width) count bytes =
    and_then (differences_at width count bytes) (λ differences left. tested (BadColumn (field_of series)) (is_packed series base width differences) (raised base differences) left)

-- a column of so many numbers
unfoldable pub numbers_at : Series → ℕ → List ℕ → Reading (List ℕ)
numbers_at series count bytes =
    and_then (u64_at Short bytes) (λ base one.
    and_then (u8_at Short one) (λ byte two.
    packed_at series (base_bits series base) (width_said byte) count two))

-- numbers that a column may have
abbrev pub AreOf : Series → List ℕ → Type 0
AreOf series numbers = All (λ number. (lowest series ≤ number) × (number ≤ highest series)) numbers
