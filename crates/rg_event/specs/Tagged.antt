-- Values that say their kind.
use Rattle.std.specs.Prelude.{ℕ, ◌<◌, ◌≤◌, ◌^◌, ◌==◌, List, [], ◌∷◌, length, Option, Some, None, Err, if◌then◌else◌}
use Rattle.std.specs.Int.{w64}
use Rattle.std.specs.Int.RustNames.{FitsSigned}
use Rattle.rg_event.specs.Codec.{value_bytes, IsValueOf, Reading, value_at}
use Rattle.rg_event.specs.declared.codec.EventFault.TheVariants.{Short, BadValue}
use Rattle.rg_event.specs.declared.value.Kind.{Kind}
use Rattle.rg_event.specs.declared.value.Kind.TheVariants.{Int, Id, Text, Flag}
use Rattle.rg_event.specs.declared.value.Value.{Value}
use Rattle.rg_event.specs.declared.value.Value.TheVariants.{Int as IntValue, Id as IdValue, Text as TextValue, Flag as FlagValue}

abbrev pub value_kind : Value → Kind
value_kind (IntValue number) = Int
value_kind (IdValue number) = Id
value_kind (TextValue text) = Text
value_kind (FlagValue flag) = Flag

-- a value in the range of its kind
abbrev pub IsLegal : Value → Type 0
IsLegal value = IsValueOf (value_kind value) value

-- what every value of a program is: a signed or a plain number of 64 bits, a text whose length fits its byte, or a flag
abbrev pub IsStorable : Value → Type 0
IsStorable (IntValue number) = FitsSigned w64 number
IsStorable (IdValue number) = number < 2 ^ 64
IsStorable (TextValue text) = length text ≤ 255
IsStorable (FlagValue flag) = Unit {0}

-- the byte that says a kind
abbrev pub tag_of : Kind → ℕ
tag_of Int = 1
tag_of Id = 2
tag_of Text = 3
tag_of Flag = 4

-- the kind that a byte says
abbrev pub kind_of : ℕ → Option Kind
kind_of tag =
    if tag == 1 then Some Int
    else if tag == 2 then Some Id
    else if tag == 3 then Some Text
    else if tag == 4 then Some Flag
    else None

-- the tag, and then the value as an event has it
abbrev pub tagged_bytes : Value → List ℕ
tagged_bytes value = tag_of (value_kind value) ∷ value_bytes value

-- a value of the kind that was said, if one was
abbrev pub value_said_at : Option Kind → List ℕ → Reading Value
value_said_at (Some kind) bytes = value_at kind 0 bytes
value_said_at None bytes = Err (BadValue 0)

-- a tag, and a value of its kind
unfoldable pub tagged_at : List ℕ → Reading Value
tagged_at [] = Err Short
tagged_at (tag ∷ bytes) = value_said_at (kind_of tag) bytes
