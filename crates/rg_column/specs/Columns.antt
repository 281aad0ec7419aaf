-- The columns of a list of events.
use Rattle.std.specs.Prelude.{ℕ, ◌+◌, ◌≤◌, ◌≡◌, List, [], ◌∷◌, ◌++◌, All, length, map, Ok}
use Rattle.rg_bytes.specs.Reading.{and_then}
use Rattle.rg_event.specs.Codec.{IsEventOf}
use Rattle.rg_event.specs.declared.event.Event.{Event}
use Rattle.rg_event.specs.declared.schema.Field.{Field}
use Rattle.rg_event.specs.declared.value.Value.{Value}
use Rattle.rg_column.specs.Widths.{Reading}
use Rattle.rg_column.specs.Numbers.{number_of, value_of, numbers_bytes, numbers_at}
use Rattle.rg_column.specs.Values.{column_bytes, column_at}
use Rattle.rg_column.specs.declared.series.Series.TheVariants.{Offset, Time}

-- the columns of these fields, of which the first has this index
abbrev pub fields_bytes : List Field → ℕ → List Event → List ℕ
fields_bytes [] index events = []
fields_bytes (field ∷ fields) index events = column_bytes field.kind index (map (value_of index) events) ++ fields_bytes fields (index + 1) events

-- the offsets, the times, and the columns of the fields
abbrev pub columns_bytes : List Field → List Event → List ℕ
columns_bytes fields events = numbers_bytes Offset (map (number_of Offset) events) ++ (numbers_bytes Time (map (number_of Time) events) ++ fields_bytes fields 0 events)

-- events of these offsets and times that have no value yet
abbrev pub started : List ℕ → List ℕ → List Event
started [] times = []
started (offset ∷ offsets) [] = []
started (offset ∷ offsets) (time ∷ times) = record { offset = offset; time = time; values = [] } ∷ started offsets times

-- the event with one value more
abbrev pub with_value : Event → Value → Event
with_value event value = record { offset = event.offset; time = event.time; values = event.values ++ value ∷ [] }

-- each event with one value more, as far as there are values
abbrev pub widened : List Event → List Value → List Event
widened [] values = []
widened (event ∷ events) [] = event ∷ events
widened (event ∷ events) (value ∷ values) = with_value event value ∷ widened events values

-- these events with the columns of these fields, of which the first has this index
abbrev pub fields_at : List Field → ℕ → ℕ → List Event → List ℕ → Reading (List Event)
fields_at [] index count events bytes = Ok (events, bytes)
fields_at (field ∷ fields) index count events bytes = and_then (column_at field.kind index count bytes) (λ values left. fields_at fields (index + 1) count (widened events values) left)

-- so many events of a schema with these columns
unfoldable pub columns_at : List Field → ℕ → List ℕ → Reading (List Event)
columns_at fields count bytes =
    and_then (numbers_at Offset count bytes) (λ offsets left.
    and_then (numbers_at Time count left) (λ times rest.
    fields_at fields 0 count (started offsets times) rest))

-- so many events of a schema with these columns, and at least one
pub record AreColumnsOf (fields : List Field) (count : ℕ) (events : List Event) : Type 0 where
  pub legal : All (IsEventOf fields) events
  pub counted : length events ≡ count
  pub some : 1 ≤ count

-- the columns of these fields were taken from a text, of which that is left, as values of these events
pub record AreTaken (fields : List Field) (begun events : List Event) (text left : List ℕ) : Type 0 where
  pub spelled : text ≡ fields_bytes fields 0 events ++ left
  pub legal : All (IsEventOf fields) events
  pub count : length events ≡ length begun
  pub offsets : map (number_of Offset) events ≡ map (number_of Offset) begun
  pub times : map (number_of Time) events ≡ map (number_of Time) begun
