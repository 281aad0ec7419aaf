-- The bytes of an event: offset, time, and its values by column.
use Rattle.std.specs.Prelude.{ℕ, ◌+◌, ◌^◌, ◌<◌, ◌≤◌, ◌==◌, nat_le, List, [], ◌∷◌, ◌++◌, length, Result, Ok, Err, unsigned_abs, IsTrue, if◌then◌else◌}
use Rattle.std.specs.Int.{w64, to_be_bytes, cast_signed, cast_unsigned}
use Rattle.std.specs.List.{AllZip}
use Rattle.std.specs.Str.{is_utf8}
use Rattle.rg_bytes.specs.Reading.{Reading as ReadingWith, Agrees as AgreesWith, and_then, tested, bytes_at as bytes_or, u64_at, list_bytes}
use Rattle.rg_event.specs.Words.{is_word}
use Rattle.rg_event.specs.declared.codec.EventFault.{EventFault}
use Rattle.rg_event.specs.declared.codec.EventFault.TheVariants.{Short, BadValue, Memory}
use Rattle.rg_event.specs.declared.event.Event.{Event}
use Rattle.rg_event.specs.declared.schema.Field.{Field}
use Rattle.rg_event.specs.declared.value.Kind.{Kind}
use Rattle.rg_event.specs.declared.value.Kind.TheVariants.{Int, Id, Text, Flag}
use Rattle.rg_event.specs.declared.value.Value.{Value}
use Rattle.rg_event.specs.declared.value.Value.TheVariants.{Int as IntValue, Id as IdValue, Text as TextValue, Flag as FlagValue}

-- 8 bytes of two's complement, 8 bytes, a length in one byte and the bytes, or 00 or 01; the highest byte first
abbrev pub value_bytes : Value → List ℕ
value_bytes (IntValue number) = to_be_bytes w64 (cast_unsigned w64 number)
value_bytes (IdValue number) = to_be_bytes w64 number
value_bytes (TextValue text) = length text ∷ text
value_bytes (FlagValue flag) = (if flag then 1 else 0) ∷ []

-- the bytes of each value, one after another
abbrev pub values_bytes : List Value → List ℕ
values_bytes values = list_bytes value_bytes values

-- offset and time in 8 bytes each, the highest byte first, and the values
abbrev pub event_bytes : Event → List ℕ
event_bytes event = to_be_bytes w64 event.offset ++ (to_be_bytes w64 event.time ++ values_bytes event.values)

-- a value of a column of this kind
abbrev pub IsValueOf : Kind → Value → Type 0
IsValueOf Int (IntValue number) = unsigned_abs number ≤ 1000000000000
IsValueOf Id (IdValue number) = number < 2 ^ 64
IsValueOf Text (TextValue text) = IsTrue (is_word text)
IsValueOf Flag (FlagValue flag) = Unit {0}
IsValueOf kind value = ⊥

-- one value for each column, of its kind
abbrev pub AreValuesOf : List Field → List Value → Type 0
AreValuesOf fields values = AllZip (λ (field : Field) value. IsValueOf field.kind value) fields values

-- an event of a schema with these columns
pub record IsEventOf (fields : List Field) (event : Event) : Type 0 where
  pub offset : event.offset < 2 ^ 62
  pub time : event.time ≤ 1000000000000000
  pub values : AreValuesOf fields event.values

-- what some bytes begin with, and the bytes behind it; or why they begin with none
abbrev pub Reading : Type 0 → Type 0
Reading A = ReadingWith EventFault A

-- the first so many bytes
abbrev pub bytes_at : ℕ → List ℕ → Reading (List ℕ)
bytes_at count bytes = bytes_or Short count bytes

-- a number of 8 bytes
abbrev pub number_at : List ℕ → Reading ℕ
number_at bytes = u64_at Short bytes

-- a number of field 0, up to a greatest
unfoldable pub number_up_to_at : ℕ → List ℕ → Reading ℕ
number_up_to_at most bytes = and_then (number_at bytes) (λ number left. tested (BadValue 0) (nat_le number most) number left)

-- 8 bytes of two's complement that say a number from -10^12 to 10^12
unfoldable pub int_at : ℕ → List ℕ → Reading Value
int_at column bytes =
    and_then (number_at bytes) (λ number left. tested (BadValue column) (nat_le (unsigned_abs (cast_signed w64 number)) 1000000000000) (IntValue (cast_signed w64 number)) left)

-- 8 bytes that say a number
unfoldable pub id_at : List ℕ → Reading Value
id_at bytes = and_then (number_at bytes) (λ number left. Ok (IdValue number, left))

-- a length in one byte, and so many bytes of UTF-8
unfoldable pub text_at : ℕ → List ℕ → Reading Value
text_at column [] = Err Short
text_at column (count ∷ bytes) = and_then (bytes_at count bytes) (λ text left. tested (BadValue column) (is_utf8 text) (TextValue text) left)

-- 00 or 01
unfoldable pub flag_at : ℕ → List ℕ → Reading Value
flag_at column [] = Err Short
flag_at column (byte ∷ bytes) = tested (BadValue column) (nat_le byte 1) (FlagValue (byte == 1)) bytes

-- a value of this kind, in the column of this number
abbrev pub value_at : Kind → ℕ → List ℕ → Reading Value
value_at Int column bytes = int_at column bytes
value_at Id column bytes = id_at bytes
value_at Text column bytes = text_at column bytes
value_at Flag column bytes = flag_at column bytes

-- a value for each column, of which the first has this number
abbrev pub values_at : List Field → ℕ → List ℕ → Reading (List Value)
values_at [] column bytes = Ok ([], bytes)
values_at (field ∷ fields) column bytes =
    and_then (value_at field.kind column bytes) (λ value left. and_then (values_at fields (column + 1) left) (λ values rest. Ok (value ∷ values, rest)))

-- an event of a schema with these columns
unfoldable pub event_at : List Field → List ℕ → Reading Event
event_at fields bytes =
    and_then (number_up_to_at 4611686018427387903 bytes) (λ offset behind.
    and_then (number_up_to_at 1000000000000000 behind) (λ time left.
    and_then (values_at fields 1 left) (λ values rest. Ok (record { offset = offset; time = time; values = values }, rest))))

-- what is answered, and what is left, are those of the reading; or memory ran out
abbrev pub Agrees : {A : Type 0} → Reading A → Result A EventFault → List ℕ → Type 0
Agrees reading result left = AgreesWith Memory (λ value. value) reading result left
