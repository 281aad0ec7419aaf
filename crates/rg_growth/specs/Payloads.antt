-- Growths, and their payloads.
use Rattle.std.specs.Prelude.{◌≡◌, ◌==◌, ℕ, List, [], ◌∷◌, ◌++◌, length, Option, Some, None, option_and_then, Result, Ok, Err, ⊤, if◌then◌else◌}
use Rattle.std.specs.Int.{w32, to_be_bytes}
use Rattle.rg_bytes.specs.Reading.{Reading as ReadingWith, and_then, tested, u8_at, u32_at, bytes_at, list_bytes, whole, Agrees as AgreesWith}
use Rattle.rg_event.specs.Codec.{Reading as EventReading, AreValuesOf}
use Rattle.rg_event.specs.Reading.{shape_of}
use Rattle.rg_event.specs.Shapes.{Shape, schema_text}
use Rattle.rg_event.specs.Tagged.{tagged_at, tagged_bytes, value_kind}
use Rattle.rg_event.specs.declared.codec.EventFault.{EventFault}
use Rattle.rg_event.specs.declared.codec.EventFault.TheVariants.{Short, BadValue, Memory}
use Rattle.rg_event.specs.declared.schema.Field.{Field}
use Rattle.rg_event.specs.declared.value.Kind.{Kind}
use Rattle.rg_event.specs.declared.value.Value.{Value}
use Rattle.rg_growth.specs.Growing.{GrowsBy, further, grows, is_kind}
use Rattle.rg_growth.specs.declared.fault.GrowthFault.{GrowthFault}
use Rattle.rg_growth.specs.declared.fault.GrowthFault.TheVariants.{BadGrowth, Memory as NoMemory}
use Rattle.rg_growth.specs.declared.growth.Growth.{Growth}

-- the byte 47 in hexadecimal, the length of a text in 4 bytes, and the text
abbrev pub text_bytes : List ℕ → List ℕ
text_bytes text = 71 ∷ (to_be_bytes w32 (length text) ++ text)

-- that of the text of the new schema, and each value with the tag of its kind
abbrev pub growth_bytes : Growth → List ℕ
growth_bytes growth = text_bytes (schema_text growth.to) ++ list_bytes tagged_bytes growth.values

-- the schema grows to the new one, and there is a value of its kind for each further column
pub record IsGrowthOf (from : Shape) (growth : Growth) : Type 0 where
  pub added : List Field
  pub grows : GrowsBy from growth.to added
  pub of : AreValuesOf added growth.values

-- the payload says a growth of that schema
pub record IsGrowth (from : Shape) (payload : List ℕ) (growth : Growth) : Type 0 where
  pub is : payload ≡ growth_bytes growth
  pub of : IsGrowthOf from growth

-- what some bytes begin with, and the bytes behind it; or that they begin with none
abbrev pub Reading : Type 0 → Type 0
Reading A = ReadingWith GrowthFault A

-- what a fault of a value is called in a growth
abbrev pub growth_fault : EventFault → GrowthFault
growth_fault Short = BadGrowth
growth_fault (BadValue field) = BadGrowth
growth_fault Memory = NoMemory

-- a reading of a value, in a growth
abbrev pub in_growth : EventReading Value → Reading Value
in_growth (Ok read) = Ok read
in_growth (Err fault) = Err (growth_fault fault)

-- the byte 47 in hexadecimal, a length in 4 bytes, and so many bytes
unfoldable pub text_at : List ℕ → Reading (List ℕ)
text_at bytes =
    and_then (u8_at BadGrowth bytes) (λ tag one.
    and_then (tested BadGrowth (tag == 71) tag one) (λ said two.
    and_then (u32_at BadGrowth two) (λ count three. bytes_at BadGrowth count three)))

-- a value of this kind, with the tag of its kind
unfoldable pub value_at : Kind → List ℕ → Reading Value
value_at kind bytes = and_then (in_growth (tagged_at bytes)) (λ value left. tested BadGrowth (is_kind (value_kind value) kind) value left)

-- a value for each column
abbrev pub values_at : List Field → List ℕ → Reading (List Value)
values_at [] bytes = Ok ([], bytes)
values_at (field ∷ fields) bytes = and_then (value_at field.kind bytes) (λ value left. and_then (values_at fields left) (λ values rest. Ok (value ∷ values, rest)))

-- the schema, where the other one grows to it
abbrev pub if_grows : Shape → Shape → Option Shape
if_grows from to = if grows from to then Some to else None

-- the schema that a text says, where this one grows to it
abbrev pub grown_to : Shape → List ℕ → Option Shape
grown_to from text = option_and_then (if_grows from) (shape_of text)

-- the growth to that schema, if there is one: a value for each further column
abbrev pub growth_to_at : Shape → Option Shape → List ℕ → Reading Growth
growth_to_at from None bytes = Err BadGrowth
growth_to_at from (Some to) bytes = and_then (values_at (further from to) bytes) (λ values rest. Ok (record { to = to; values = values }, rest))

-- a growth of that schema
unfoldable pub growth_at : Shape → List ℕ → Reading Growth
growth_at from bytes = and_then (text_at bytes) (λ text left. growth_to_at from (grown_to from text) left)

-- the growth of that schema that a payload says; none where it says none
abbrev pub growth_of : Shape → List ℕ → Option Growth
growth_of from payload = whole (growth_at from payload)

-- what is answered, and what is left, are those of the reading; or memory ran out
abbrev pub AgreesAt : {A : Type 0} → Reading A → Result A GrowthFault → List ℕ → Type 0
AgreesAt reading result left = AgreesWith NoMemory (λ value. value) reading result left

-- what is answered is what is said, or memory ran out
abbrev pub Agrees : {A : Type 0} → Option A → Result A GrowthFault → Type 0
Agrees said (Ok value) = said ≡ Some value
Agrees said (Err BadGrowth) = said ≡ None
Agrees said (Err NoMemory) = ⊤
