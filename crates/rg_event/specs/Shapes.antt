-- Schemas, and the text of one.
use Rattle.std.specs.Prelude.{ℕ, ◌≤◌, List, [], ◌∷◌, ◌++◌, length, map, codes, IsTrue, All, bytes_eq}
use Rattle.std.specs.List.{IsDistinct}
use Rattle.rg_event.specs.Names.{is_name}
use Rattle.rg_event.specs.declared.schema.Field.{Field}
use Rattle.rg_event.specs.declared.value.Kind.{Kind}
use Rattle.rg_event.specs.declared.value.Kind.TheVariants.{Int, Id, Text, Flag}

-- what a schema declares
pub record Shape : Type 0 where
  pub stream : List ℕ
  pub time : List ℕ
  pub fields : List Field

-- the names of its columns, the time's first
abbrev pub column_names : Shape → List (List ℕ)
column_names shape = shape.time ∷ map (λ (field : Field). field.name) shape.fields

-- a schema has legal names, at most 32 columns after the time, and no column name twice
pub record IsSchema (shape : Shape) : Type 0 where
  pub stream : IsTrue (is_name shape.stream)
  pub columns : All (λ name. IsTrue (is_name name)) (column_names shape)
  pub few : length shape.fields ≤ 32
  pub distinct : IsDistinct bytes_eq (column_names shape)

abbrev pub kind_text : Kind → List ℕ
kind_text Int = codes "int"
kind_text Id = codes "id"
kind_text Text = codes "text"
kind_text Flag = codes "flag"

-- `,NAME:KIND`
abbrev pub field_text : Field → List ℕ
field_text field = codes "," ++ (field.name ++ (codes ":" ++ kind_text field.kind))

-- that for each column
abbrev pub fields_text : List Field → List ℕ
fields_text [] = []
fields_text (field ∷ fields) = field_text field ++ fields_text fields

-- `STREAM(TIME,NAME:KIND,NAME:KIND)`
abbrev pub schema_text : Shape → List ℕ
schema_text shape = shape.stream ++ (codes "(" ++ (shape.time ++ (fields_text shape.fields ++ codes ")")))
