-- The reading of a line without a quote in one pass.
use Rattle.std.specs.Prelude.{◌≡◌, ℕ, suc, ◌==◌, ◌||◌, Bool, List, [], ◌∷◌, ◌++◌, take, drop, Option, None, Some, if◌then◌else◌}
use Rattle.rg_bytes.specs.Numbers.{whole_of}
use Rattle.rg_event.specs.Parsing.{value_of}
use Rattle.rg_event.specs.declared.event.Event.{Event}
use Rattle.rg_event.specs.declared.schema.Field.{Field}
use Rattle.rg_event.specs.declared.value.Value.{Value}
use Rattle.rg_row.specs.Rows.{time_most}

-- a quote or a CR, which no plain text holds
abbrev pub is_odd : ℕ → Bool
is_odd byte = byte == 34 || byte == 13

-- a plain text ends before a comma, and the reading before a byte that it doesn't hold
abbrev pub is_end : ℕ → Bool
is_end byte = byte == 44 || is_odd byte

-- how many bytes stand before the first such one
unfoldable pub plain_len : List ℕ → ℕ
plain_len [] = 0
plain_len (byte ∷ bytes) = if is_end byte then 0 else suc (plain_len bytes)

-- a comma comes first, behind it this text, and then these bytes
pub record IsNext (rest text behind : List ℕ) : Type 0 where
  pub bytes : List ℕ
  pub comma : rest ≡ 44 ∷ bytes
  pub front : text ≡ take (plain_len bytes) bytes
  pub back : behind ≡ drop (plain_len bytes) bytes

-- the values with that of a text of this kind behind them
abbrev pub push_if : List Value → Option Value → Option (List Value)
push_if values None = None
push_if values (Some value) = Some (values ++ value ∷ [])

abbrev pub onto_if : Option Value → Option (List Value) → Option (List Value)
onto_if None values = None
onto_if (Some value) None = None
onto_if (Some value) (Some values) = Some (value ∷ values)

-- the values of the texts that stand each behind a comma, one for each column, if nothing else stands there
unfoldable pub plain_values : List Field → List ℕ → Option (List Value)
plain_values [] [] = Some []
plain_values [] (byte ∷ rest) = None
plain_values (field ∷ fields) [] = None
plain_values (field ∷ fields) (byte ∷ rest) =
    if byte == 44 then onto_if (value_of field.kind (take (plain_len rest) rest)) (plain_values fields (drop (plain_len rest) rest)) else None

abbrev pub event_if : ℕ → Option ℕ → Option (List Value) → Option Event
event_if offset None values = None
event_if offset (Some time) None = None
event_if offset (Some time) (Some values) = Some (record { offset = offset; time = time; values = values })

-- the event of a time and such values behind it
abbrev pub plain_event : List Field → ℕ → List ℕ → Option Event
plain_event fields offset line = event_if offset (time_most (whole_of (take (plain_len line) line))) (plain_values fields (drop (plain_len line) line))
