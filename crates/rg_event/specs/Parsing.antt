-- What a text says as a value of a column.
use Rattle.std.specs.Prelude.{ℕ, nat_le, ◌||◌, Bool, true, false, List, Option, Some, None, ℤ, unsigned_abs, codes, if◌then◌else◌}
use Rattle.std.specs.Option.{option_map}
use Rattle.std.specs.Str.{bytes_eq}
use Rattle.rg_bytes.specs.Numbers.{whole_of, signed_of}
use Rattle.rg_event.specs.Words.{is_word}
use Rattle.rg_event.specs.declared.value.Kind.{Kind}
use Rattle.rg_event.specs.declared.value.Kind.TheVariants.{Int, Id, Text, Flag}
use Rattle.rg_event.specs.declared.value.Value.{Value}
use Rattle.rg_event.specs.declared.value.Value.TheVariants.{Int as IntValue, Id as IdValue, Text as TextValue, Flag as FlagValue}

-- a number from -10^12 to 10^12, and no other
abbrev pub in_range : Option ℤ → Option ℤ
in_range (Some n) = if nat_le (unsigned_abs n) 1000000000000 then Some n else None
in_range None = None

-- true and 1, false and 0
abbrev pub flag_of : List ℕ → Option Bool
flag_of text =
    if bytes_eq text (codes "true") || bytes_eq text (codes "1") then Some true
    else if bytes_eq text (codes "false") || bytes_eq text (codes "0") then Some false
    else None

-- the value of that kind that the text says, if it says one
abbrev pub value_of : Kind → List ℕ → Option Value
value_of Int text = option_map IntValue (in_range (signed_of text))
value_of Id text = option_map IdValue (whole_of text)
value_of Text text = if is_word text then Some (TextValue text) else None
value_of Flag text = option_map FlagValue (flag_of text)
