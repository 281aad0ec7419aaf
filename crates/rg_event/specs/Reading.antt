-- How a schema's text is read, front to back. Each reader gives what it read and the bytes behind it.
use Rattle.std.specs.Prelude.{◌≡◌, ◌⊎◌, ℕ, zero, suc, ◌&&◌, ◌==◌, not, Bool, true, false, List, [], ◌∷◌, ◌++◌, take, drop, codes, Option, Some, None, option_map, option_and_then, Result, Ok, Err, bytes_eq, if◌then◌else◌}
use Rattle.std.specs.Global.{Vec}
use Rattle.std.specs.List.{prefix_len, list_any}
use Rattle.rg_event.specs.Names.{is_word_byte, is_name}
use Rattle.rg_event.specs.Shapes.{Shape}
use Rattle.rg_event.specs.declared.schema.Field.{Field}
use Rattle.rg_event.specs.declared.schema.SchemaFault.{SchemaFault}
use Rattle.rg_event.specs.declared.schema.SchemaFault.TheVariants as fault
use Rattle.rg_event.specs.declared.schema.parse.Parts.{Parts}
use Rattle.rg_event.specs.declared.value.Kind.{Kind}
use Rattle.rg_event.specs.declared.value.Kind.TheVariants.{Int, Id, Text, Flag}

infixl 10 ◌>>=◌
abbrev pub ◌>>=◌ : {A B : Type 0} → Option A → (A → Option B) → Option B
o >>= f = option_and_then f o

-- what a call answers and leaves is what its reader says, or memory ran out
abbrev pub Reads : {A : Type 0} → Option (A × List ℕ) → Result A SchemaFault → List ℕ → Type 0
Reads read (Ok value) left = read ≡ Some (value, left)
Reads read (Err why) left = (read ≡ None) ⊎ (why ≡ fault.Memory)

-- the letters, digits and `_` in front, and what is behind them
abbrev pub word_of : List ℕ → List ℕ
word_of text = take (prefix_len is_word_byte text) text

abbrev pub behind_word : List ℕ → List ℕ
behind_word text = drop (prefix_len is_word_byte text) text

-- what is behind this byte
abbrev pub behind_byte : ℕ → List ℕ → Option (List ℕ)
behind_byte wanted [] = None
behind_byte wanted (byte ∷ bytes) = if byte == wanted then Some bytes else None

abbrev pub ReadsList : Option (List Field × List ℕ) → Result (Vec Field) SchemaFault → List ℕ → Type 0
ReadsList read (Ok fields) left = read ≡ Some (fields.items, left)
ReadsList read (Err why) left = (read ≡ None) ⊎ (why ≡ fault.Memory)

abbrev pub shape_made : Parts → Shape
shape_made parts = record { stream = parts.stream; time = parts.time; fields = parts.fields.items }

abbrev pub ReadsParts : Option (Shape × List ℕ) → Result Parts SchemaFault → List ℕ → Type 0
ReadsParts read (Ok parts) left = read ≡ Some (shape_made parts, left)
ReadsParts read (Err why) left = (read ≡ None) ⊎ (why ≡ fault.Memory)

abbrev pub Skips : Option (List ℕ) → Result (Unit {0}) SchemaFault → List ℕ → Type 0
Skips read (Ok _) left = read ≡ Some left
Skips read (Err why) left = (read ≡ None) ⊎ (why ≡ fault.Memory)

abbrev pub name_at : List ℕ → Option (List ℕ × List ℕ)
name_at text = if is_name (word_of text) then Some (word_of text, behind_word text) else None

abbrev pub kind_of : List ℕ → Option Kind
kind_of word =
    if bytes_eq word (codes "int") then Some Int
    else if bytes_eq word (codes "id") then Some Id
    else if bytes_eq word (codes "text") then Some Text
    else if bytes_eq word (codes "flag") then Some Flag
    else None

abbrev pub kind_at : List ℕ → Option (Kind × List ℕ)
kind_at text = option_map (λ kind. (kind, behind_word text)) (kind_of (word_of text))

-- `,NAME:KIND`
unfoldable pub field_at : List ℕ → Option (Field × List ℕ)
field_at text = do
  start ← behind_byte 44 text
  name ← name_at start
  colon ← behind_byte 58 name.1
  kind ← kind_at colon
  Some (record { name = name.0; kind = kind.0 }, kind.1)

abbrev pub is_empty : List ℕ → Bool
is_empty [] = true
is_empty (byte ∷ bytes) = false

abbrev pub is_at : ℕ → List ℕ → Bool
is_at wanted [] = false
is_at wanted (byte ∷ bytes) = byte == wanted

abbrev pub behind : List Field → Option (List Field × List ℕ) → Option (List Field × List ℕ)
behind read more = option_map (λ fields. (read ++ fields.0, fields.1)) more

abbrev pub with_first : Field → Option (List Field × List ℕ) → Option (List Field × List ℕ)
with_first field read = option_map (λ fields. (field ∷ fields.0, fields.1)) read

-- the columns up to where no comma stands, and no more than `most` of them
unfoldable pub fields_at : ℕ → List ℕ → Option (List Field × List ℕ)
fields_at zero text = Some ([], text)
fields_at (suc most) text =
    if is_at 44 text then field_at text >>= (λ field. with_first field.0 (fields_at most field.1)) else Some ([], text)

-- no two of these columns have one name
abbrev pub names_differ : List Field → Bool
names_differ [] = true
names_differ (field ∷ fields) = not (list_any (λ (other : Field). bytes_eq field.name other.name) fields) && names_differ fields

-- `STREAM(TIME,NAME:KIND,..)`
unfoldable pub shape_at : List ℕ → Option (Shape × List ℕ)
shape_at text = do
  stream ← name_at text
  start ← behind_byte 40 stream.1
  time ← name_at start
  fields ← fields_at 32 time.1
  left ← behind_byte 41 fields.1
  Some (record { stream = stream.0; time = time.0; fields = fields.0 }, left)

-- the time's name is no column's, and no two columns have one name
abbrev pub columns_differ : List ℕ → List Field → Bool
columns_differ time fields = not (list_any (λ (field : Field). bytes_eq time field.name) fields) && names_differ fields

-- nothing is left, and the columns differ
abbrev pub whole_shape : Shape × List ℕ → Option Shape
whole_shape read = if is_empty read.1 && columns_differ read.0.time read.0.fields then Some read.0 else None

-- the schema that a whole text says
unfoldable pub shape_of : List ℕ → Option Shape
shape_of text = shape_at text >>= whole_shape

abbrev pub Agrees : {A : Type 0} → Option A → Result A SchemaFault → Type 0
Agrees read (Ok value) = read ≡ Some value
Agrees read (Err why) = (read ≡ None) ⊎ (why ≡ fault.Memory)
