-- The row of an event.
use Rattle.std.specs.Prelude.{◌≡◌, ℕ, true, false, List, ◌∷◌, ◌++◌, map, codes, decimal, Vec}
use Rattle.std.specs.Fmt.{signed_decimal}
use Rattle.std.specs.declared.alloc.Global.{Global}
use Rattle.csv.specs.Writing.{default_writer, row_body, writer_setup, fields_written, has_written, writer_under, writer_pending}
use Rattle.csv.specs.declared.writer.Writer.{Writer}
use Rattle.rg_event.specs.declared.event.Event.{Event}
use Rattle.rg_event.specs.declared.value.Value.{Value}
use Rattle.rg_event.specs.declared.value.Value.TheVariants.{Int, Id, Text, Flag}

-- a number in decimal, a text as it is, a flag as true or false
abbrev pub value_text : Value → List ℕ
value_text (Int number) = signed_decimal number
value_text (Id number) = decimal number
value_text (Text text) = text
value_text (Flag true) = codes "true"
value_text (Flag false) = codes "false"

-- the offset, the time and the values
abbrev pub row_fields : Event → List (List ℕ)
row_fields event = decimal event.offset ∷ (decimal event.time ∷ map value_text event.values)

-- these as `csv` writes a record by the settings that it has by default, without the LF behind it
abbrev pub row_line : Event → List ℕ
row_line event = row_body default_writer (row_fields event)

-- a writer of rows between two of them, by the settings that `csv` has by default, which was given this text
pub record IsBetween (writer : Writer (Vec ℕ Global)) (text : List ℕ) : Type 0 where
  pub setup : writer_setup writer ≡ default_writer
  pub fields : fields_written writer ≡ 0
  pub wrote : has_written writer ≡ false
  pub is : (writer_under writer).items ++ writer_pending writer ≡ text
