-- The columns of a schema: numbers, texts and flags.
use Rattle.std.specs.Prelude.{ℕ, ◌+◌, nat_le, ◌==◌, Bool, false, List, [], ◌∷◌, ◌++◌, length, map, get_or, Ok, Err, if◌then◌else◌}
use Rattle.std.specs.Str.{is_utf8}
use Rattle.rg_bytes.specs.Reading.{and_then, tested, bytes_at, more_at, list_bytes}
use Rattle.rg_event.specs.declared.value.Kind.{Kind}
use Rattle.rg_event.specs.declared.value.Kind.TheVariants.{Int, Id, Text, Flag}
use Rattle.rg_event.specs.declared.value.Value.{Value}
use Rattle.rg_event.specs.declared.value.Value.TheVariants.{Int as IntValue, Id as IdValue, Text as TextValue, Flag as FlagValue}
use Rattle.rg_column.specs.Widths.{Reading}
use Rattle.rg_column.specs.Numbers.{int_of, value_number, numbers_bytes, numbers_at}
use Rattle.rg_column.specs.declared.fault.ColumnFault.TheVariants.{Short, BadColumn}
use Rattle.rg_column.specs.declared.series.Series.TheVariants.{Int as Ints, Id as Ids}

-- the text of a value of that kind
abbrev pub text_in : Value → List ℕ
text_in (TextValue text) = text
text_in (IntValue number) = []
text_in (IdValue number) = []
text_in (FlagValue flag) = []

-- its length
abbrev pub text_length : Value → ℕ
text_length value = length (text_in value)

-- the flag of a value of that kind
abbrev pub flag_in : Value → Bool
flag_in (FlagValue flag) = flag
flag_in (IntValue number) = false
flag_in (IdValue number) = false
flag_in (TextValue text) = false

-- 00 or 01
abbrev pub flag_byte : Value → ℕ
flag_byte value = if flag_in value then 1 else 0

-- the column of these values, at this index: packed numbers, the length of each text and then the texts, or flags
abbrev pub column_bytes : Kind → ℕ → List Value → List ℕ
column_bytes Int index values = numbers_bytes (Ints index) (map value_number values)
column_bytes Id index values = numbers_bytes (Ids index) (map value_number values)
column_bytes Text index values = map text_length values ++ list_bytes text_in values
column_bytes Flag index values = map flag_byte values

-- the int that has this place
abbrev pub int_value : ℕ → Value
int_value place = IntValue (int_of place)

-- a column of so many ints
unfoldable pub ints_at : ℕ → ℕ → List ℕ → Reading (List Value)
ints_at index count bytes = and_then (numbers_at (Ints index) count bytes) (λ places left. Ok (map int_value places, left))

-- a column of so many ids
unfoldable pub ids_at : ℕ → ℕ → List ℕ → Reading (List Value)
ids_at index count bytes = and_then (numbers_at (Ids index) count bytes) (λ numbers left. Ok (map IdValue numbers, left))

-- a text of this length
unfoldable pub text_at : ℕ → ℕ → List ℕ → Reading Value
text_at index count bytes = and_then (bytes_at Short count bytes) (λ text left. tested (BadColumn (index + 1)) (is_utf8 text) (TextValue text) left)

-- the text behind those so far, of the length that comes next
abbrev pub next_text_at : ℕ → List ℕ → List Value → List ℕ → Reading Value
next_text_at index lengths so_far bytes = text_at index (get_or lengths (length so_far) 0) bytes

-- a text of each of these lengths
abbrev pub following_at : ℕ → List ℕ → List ℕ → Reading (List Value)
following_at index lengths bytes = more_at (next_text_at index lengths) [] (length lengths) bytes

-- a column of so many texts: the length of each, and then the texts
unfoldable pub texts_at : ℕ → ℕ → List ℕ → Reading (List Value)
texts_at index count bytes = and_then (bytes_at Short count bytes) (λ lengths left. following_at index lengths left)

-- a flag
unfoldable pub flag_at : ℕ → List ℕ → Reading Value
flag_at index [] = Err Short
flag_at index (byte ∷ bytes) = tested (BadColumn (index + 1)) (nat_le byte 1) (FlagValue (byte == 1)) bytes

-- a column of so many flags
abbrev pub flags_at : ℕ → ℕ → List ℕ → Reading (List Value)
flags_at index count bytes = more_at (λ _. flag_at index) [] count bytes

-- a column of so many values of this kind, at this index
abbrev pub column_at : Kind → ℕ → ℕ → List ℕ → Reading (List Value)
column_at Int index count bytes = ints_at index count bytes
column_at Id index count bytes = ids_at index count bytes
column_at Text index count bytes = texts_at index count bytes
column_at Flag index count bytes = flags_at index count bytes
