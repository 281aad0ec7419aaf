-- The event of a line.
use Rattle.std.specs.Prelude.{◌≡◌, ◌⊎◌, ℕ, ◌+◌, ◌==◌, nat_le, List, [], ◌∷◌, length, Option, None, Some, Result, Ok, Err, if◌then◌else◌}
use Rattle.rg_bytes.specs.Numbers.{whole_of}
use Rattle.rg_event.specs.Parsing.{value_of}
use Rattle.rg_event.specs.declared.event.Event.{Event}
use Rattle.rg_event.specs.declared.schema.Field.{Field}
use Rattle.rg_event.specs.declared.value.Value.{Value}
use Rattle.rg_row.specs.Fields.{fields_of}
use Rattle.rg_row.specs.declared.fault.RowFault.{RowFault}
use Rattle.rg_row.specs.declared.fault.RowFault.TheVariants.{Row, Fields, Time, Value as BadValue, Memory}

-- a time of at most 10^15 milliseconds in digits
abbrev pub time_most : Option ℕ → Option ℕ
time_most (Some time) = if nat_le time 1000000000000000 then Some time else None
time_most None = None

abbrev pub onto : Value → Result (List Value) RowFault → Result (List Value) RowFault
onto value (Ok values) = Ok (value ∷ values)
onto value (Err fault) = Err fault

abbrev pub value_or : ℕ → Option Value → Result (List Value) RowFault → Result (List Value) RowFault
value_or column None values = Err (BadValue column)
value_or column (Some value) values = onto value values

-- the values of these texts, one for each column from this number on, or the first that is none of its kind
abbrev pub values_of : ℕ → List Field → List (List ℕ) → Result (List Value) RowFault
values_of column [] texts = Ok []
values_of column (field ∷ fields) [] = Ok []
values_of column (field ∷ fields) (text ∷ texts) = value_or column (value_of field.kind text) (values_of (column + 1) fields texts)

abbrev pub event_with : ℕ → ℕ → Result (List Value) RowFault → Result Event RowFault
event_with offset time (Ok values) = Ok (record { offset = offset; time = time; values = values })
event_with offset time (Err fault) = Err fault

-- the event of a time and the texts behind it
abbrev pub event_of : List Field → ℕ → Option ℕ → List (List ℕ) → Result Event RowFault
event_of fields offset None texts = Err Time
event_of fields offset (Some time) texts = event_with offset time (values_of 1 fields texts)

-- the event of the fields of a line: a time, and one text for each column
abbrev pub event_of_fields : List Field → ℕ → List (List ℕ) → Result Event RowFault
event_of_fields fields offset [] = Err Fields
event_of_fields fields offset (time ∷ texts) =
    if length texts == length fields then event_of fields offset (time_most (whole_of time)) texts else Err Fields

abbrev pub event_of_row : List Field → ℕ → Option (List (List ℕ)) → Result Event RowFault
event_of_row fields offset None = Err Row
event_of_row fields offset (Some texts) = event_of_fields fields offset texts

-- the event of a cleaned line with this offset, or its first fault
abbrev pub row_of : List Field → ℕ → List ℕ → Result Event RowFault
row_of fields offset line = event_of_row fields offset (fields_of line)

-- what is answered is what the definition gives, or memory ran out
abbrev pub Agrees : Result Event RowFault → Result Event RowFault → Type 0
Agrees given (Ok event) = given ≡ Ok event
Agrees given (Err fault) = (given ≡ Err fault) ⊎ (fault ≡ Memory)
