-- Schemas that grow: further columns come behind those that are there.
use Rattle.std.specs.Prelude.{◌≡◌, ◌≤◌, ◌&&◌, nat_lt, Bool, true, false, bytes_eq, List, [], ◌∷◌, ◌++◌, length, drop, map, Option, Some, None}
use Rattle.std.specs.List.{AllZip}
use Rattle.rg_event.specs.Codec.{IsValueOf}
use Rattle.rg_event.specs.Shapes.{Shape, IsSchema}
use Rattle.rg_event.specs.declared.schema.Field.{Field}
use Rattle.rg_event.specs.declared.value.Kind.{Kind}
use Rattle.rg_event.specs.declared.value.Kind.TheVariants.{Int, Id, Text, Flag}
use Rattle.rg_event.specs.declared.value.Value.{Value}

-- A schema grows to another one by these columns: stream and time have the same names, its own columns are the first ones
-- of the other, which has these behind them, and there is at least one.
pub record GrowsBy (from to : Shape) (added : List Field) : Type 0 where
  pub legal : IsSchema to
  pub stream : to.stream ≡ from.stream
  pub time : to.time ≡ from.time
  pub fields : to.fields ≡ from.fields ++ added
  pub some : 1 ≤ length added

-- a schema grows to another one
abbrev pub Grows : Shape → Shape → Type 0
Grows from to = (added : List Field) × GrowsBy from to added

-- the two kinds are one
abbrev pub is_kind : Kind → Kind → Bool
is_kind Int Int = true
is_kind Id Id = true
is_kind Text Text = true
is_kind Flag Flag = true
is_kind kind other = false

-- the two columns have the same name and kind
abbrev pub is_same : Field → Field → Bool
is_same field other = bytes_eq field.name other.name && is_kind field.kind other.kind

-- the columns are the first ones of the others
abbrev pub begins : List Field → List Field → Bool
begins [] all = true
begins (field ∷ own) [] = false
begins (field ∷ own) (other ∷ all) = is_same field other && begins own all

-- the schema grows to the other one, as a test
abbrev pub grows : Shape → Shape → Bool
grows from to = bytes_eq from.stream to.stream && (bytes_eq from.time to.time && (nat_lt (length from.fields) (length to.fields) && begins from.fields to.fields))

-- the columns of a schema past as many as this one has
abbrev pub further : Shape → Shape → List Field
further from to = drop (length from.fields) to.fields

-- a default that is there is a value of a column of this kind
abbrev pub IsDefaultOf : Kind → Option Value → Type 0
IsDefaultOf kind None = Unit {0}
IsDefaultOf kind (Some value) = IsValueOf kind value

-- one for each column, and each that is there is a value of its kind
abbrev pub AreDefaultsOf : List Field → List (Option Value) → Type 0
AreDefaultsOf fields defaults = AllZip (λ (field : Field) default. IsDefaultOf field.kind default) fields defaults

-- no default for any of these columns
abbrev pub no_defaults : List Field → List (Option Value)
no_defaults fields = map (λ (field : Field). None) fields
