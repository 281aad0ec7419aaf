-- What states hold, and their bytes.
use Rattle.std.specs.Prelude.{ℕ, length, ◌*◌, ◌==◌, nat_le, ◌&&◌, ℤ, pos, int_le, unsigned_abs, Bool, true, false, List, [], ◌∷◌, ◌++◌, Option, Some, None, Result, Ok, Err}
use Rattle.std.specs.Int.{w64, w128, to_be_bytes, cast_unsigned}
use Rattle.rg_agg.specs.declared.fault.StateFault.{StateFault}
use Rattle.rg_agg.specs.declared.fault.StateFault.TheVariants.{Short, Unfit, Memory}
use Rattle.rg_bytes.specs.Reading.{Reading, Agrees as AgreesWith, Returns as ReturnsWith, and_then, tested, u8_at, u64_at, i128_at, more_at, list_bytes}
use Rattle.rg_event.specs.Tagged.{tagged_bytes, tagged_at}
use Rattle.rg_event.specs.declared.codec.EventFault.{EventFault}
use Rattle.rg_event.specs.declared.codec.EventFault.TheVariants.{Short as EventShort, BadValue, Memory as EventMemory}
use Rattle.rg_event.specs.declared.value.Value.{Value}
use Rattle.rg_event.specs.declared.value.Value.TheVariants.{Int, Id, Text, Flag}

-- what a state keeps of its values: how many, how many and their sum (for a mean, or of squares), all of them, how many and the last one,
-- how many and those that may still become the least or the greatest, each with its number, or each value once with how often it is there
-- (in the order of their bytes, or of their numbers)
pub data Held : Type 0 where
  counted : ℕ → Held
  summed : ℕ → ℤ → Held
  averaged : ℕ → ℤ → Held
  squared : ℕ → ℤ → Held
  queued : List Value → Held
  ended : ℕ → Option Value → Held
  lowest : ℕ → List (Value × ℕ) → Held
  highest : ℕ → List (Value × ℕ) → Held
  varied : List (Value × ℕ) → Held
  ranked : List (Value × ℕ) → Held

-- 16 bytes of two's complement
abbrev pub sum_bytes : ℤ → List ℕ
sum_bytes sum = to_be_bytes w128 (cast_unsigned w128 sum)

abbrev pub last_bytes : Option Value → List ℕ
last_bytes (Some value) = tagged_bytes value
last_bytes None = []

-- the values one after another, each with its kind's tag
abbrev pub tagged_list : List Value → List ℕ
tagged_list values = list_bytes tagged_bytes values

-- each value with its kind's tag, and in 8 bytes how often it is there
abbrev pub pairs_bytes : List (Value × ℕ) → List ℕ
pairs_bytes [] = []
pairs_bytes (pair ∷ pairs) = tagged_bytes pair.0 ++ (to_be_bytes w64 pair.1 ++ pairs_bytes pairs)

-- a tag, the number of pairs in 8 bytes, and the pairs
abbrev pub counts_bytes : ℕ → List (Value × ℕ) → List ℕ
counts_bytes tag pairs = tag ∷ (to_be_bytes w64 (length pairs) ++ pairs_bytes pairs)

-- a tag, the number of values and that of pairs in 8 bytes each, and the pairs
abbrev pub extreme_bytes : ℕ → ℕ → List (Value × ℕ) → List ℕ
extreme_bytes tag n pairs = tag ∷ (to_be_bytes w64 n ++ (to_be_bytes w64 (length pairs) ++ pairs_bytes pairs))

-- a tag, the number of values in 8 bytes, and what else is kept; the tags of a least and of a greatest value and of a rank are 15 to 17 in hexadecimal
abbrev pub held_bytes : Held → List ℕ
held_bytes (counted n) = 1 ∷ to_be_bytes w64 n
held_bytes (summed n sum) = 2 ∷ (to_be_bytes w64 n ++ sum_bytes sum)
held_bytes (averaged n sum) = 3 ∷ (to_be_bytes w64 n ++ sum_bytes sum)
held_bytes (squared n sum) = 4 ∷ (to_be_bytes w64 n ++ sum_bytes sum)
held_bytes (queued values) = 8 ∷ (to_be_bytes w64 (length values) ++ tagged_list values)
held_bytes (ended n last) = 9 ∷ (to_be_bytes w64 n ++ last_bytes last)
held_bytes (lowest n pairs) = extreme_bytes 21 n pairs
held_bytes (highest n pairs) = extreme_bytes 22 n pairs
held_bytes (varied pairs) = counts_bytes 7 pairs
held_bytes (ranked pairs) = counts_bytes 23 pairs

-- what some bytes begin with, and the bytes behind it; or why they begin with none
abbrev pub Begins : Type 0 → Type 0
Begins A = Reading StateFault A

-- why bytes begin with no part that events have too: a bad one is unfit
abbrev pub part_fault : EventFault → StateFault
part_fault EventShort = Short
part_fault (BadValue field) = Unfit
part_fault EventMemory = Memory

-- the reading of a part that events have too
abbrev pub as_part : {A : Type 0} → Reading EventFault A → Begins A
as_part (Ok read) = Ok read
as_part (Err fault) = Err (part_fault fault)

-- from 1 to 2^40
abbrev pub is_size : ℕ → Bool
is_size n = nat_le 1 n && nat_le n 1099511627776

-- a sum of so many ints from -10^12 to 10^12
abbrev pub is_sum : ℕ → ℤ → Bool
is_sum n sum = nat_le (unsigned_abs sum) (n * 1000000000000)

-- a sum of the squares of so many
abbrev pub is_square_sum : ℕ → ℤ → Bool
is_square_sum n sum = int_le (pos 0) sum && nat_le (unsigned_abs sum) (n * 1000000000000000000000000)

-- a value that is an int or an id
abbrev pub is_number : Value → Bool
is_number (Int number) = true
is_number (Id number) = true
is_number (Text text) = false
is_number (Flag flag) = false

-- two values are both ints or both ids
abbrev pub is_like : Value → Value → Bool
is_like (Int first) (Int second) = true
is_like (Id first) (Id second) = true
is_like first second = false

-- a value is of the kind of the first one of these, if there is one
abbrev pub is_like_first : Value → List Value → Bool
is_like_first value [] = true
is_like_first value (first ∷ values) = is_like first value

-- the number of values, in 8 bytes
unfoldable pub size_at : List ℕ → Begins ℕ
size_at bytes = and_then (u64_at Short bytes) (λ n left. tested Unfit (is_size n) n left)

-- this byte
unfoldable pub tag_at : ℕ → List ℕ → Begins ℕ
tag_at tag bytes = and_then (u8_at Short bytes) (λ byte left. tested Unfit (byte == tag) byte left)

-- this tag, and the number of values
unfoldable pub size_behind_at : ℕ → List ℕ → Begins ℕ
size_behind_at tag bytes = and_then (tag_at tag bytes) (λ byte behind. size_at behind)

-- a tag, the number of values, and a sum that passes its test
unfoldable pub total_at : (ℕ → ℤ → Bool) → ℕ → List ℕ → Begins (ℕ × ℤ)
total_at test tag bytes =
    and_then (size_behind_at tag bytes) (λ n behind.
    and_then (i128_at Short behind) (λ sum left. tested Unfit (test n sum) (n, sum) left))

-- a value that is an int or an id, with its kind's tag
unfoldable pub number_value_at : List ℕ → Begins Value
number_value_at bytes = and_then (as_part (tagged_at bytes)) (λ value left. tested Unfit (is_number value) value left)

-- one value more, of the kind of those so far
unfoldable pub next_at : List Value → List ℕ → Begins Value
next_at so_far bytes = and_then (number_value_at bytes) (λ value left. tested Unfit (is_like_first value so_far) value left)

-- the states of each aggregator

abbrev pub counted_at : List ℕ → Begins Held
counted_at bytes = and_then (size_behind_at 1 bytes) (λ n left. Ok (counted n, left))

abbrev pub summed_at : List ℕ → Begins Held
summed_at bytes = and_then (total_at is_sum 2 bytes) (λ total left. Ok (summed total.0 total.1, left))

abbrev pub averaged_at : List ℕ → Begins Held
averaged_at bytes = and_then (total_at is_sum 3 bytes) (λ total left. Ok (averaged total.0 total.1, left))

abbrev pub squared_at : List ℕ → Begins Held
squared_at bytes = and_then (total_at is_square_sum 4 bytes) (λ total left. Ok (squared total.0 total.1, left))

abbrev pub queued_at : List ℕ → Begins Held
queued_at bytes = and_then (size_behind_at 8 bytes) (λ n behind. and_then (more_at next_at [] n behind) (λ values left. Ok (queued values, left)))

abbrev pub ended_at : List ℕ → Begins Held
ended_at bytes = and_then (size_behind_at 9 bytes) (λ n behind. and_then (number_value_at behind) (λ last left. Ok (ended n (Some last), left)))

-- what is answered, as it is seen, and what is left are those of the reading; or memory ran out
abbrev pub Agrees : {A B : Type 0} → (A → B) → Begins B → Result A StateFault → List ℕ → Type 0
Agrees view reading result left = AgreesWith Memory view reading result left

-- this is answered, as it is seen, and this is left; or memory ran out
abbrev pub Returns : {A B : Type 0} → (A → B) → B → List ℕ → Result A StateFault → List ℕ → Type 0
Returns view held rest result left = ReturnsWith Memory view held rest result left
