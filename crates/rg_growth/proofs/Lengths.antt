-- The text of a schema is short.
use Rattle.std.proofs.Common.{◌≡◌, ◌*◌, ◌≤◌, ◌&&◌, not, ℕ, true, IsTrue, nat_le, List, [], ◌∷◌, ◌++◌, length, map, All, arith, length-append}
use Rattle.std.proofs.lemmas.Bool.{and_parts, leb-true}
use Rattle.std.proofs.lemmas.List.Elements.{All-head, All-tail}
use Rattle.std.specs.List.{list_all}
use Rattle.rg_event.specs.Names.{is_letter, is_word_byte, is_word, is_reserved, is_name}
use Rattle.rg_event.specs.Shapes.{Shape, IsSchema, kind_text, field_text, fields_text, schema_text}
use Rattle.rg_event.specs.declared.schema.Field.{Field}
use Rattle.rg_event.specs.declared.value.Kind.{Kind}
use Rattle.rg_event.specs.declared.value.Kind.TheVariants.{Int, Id, Text, Flag}

name_short : (name : List ℕ) → is_name name ≡ true → length name ≤ 64
name_short [] is = omega arith
name_short (byte ∷ bytes) is =
    let a = and_parts (is_word (byte ∷ bytes)) (not (is_reserved (byte ∷ bytes))) is in
    let b = and_parts (is_letter byte && list_all is_word_byte bytes) (nat_le (length bytes) 63) a.0 in
    omega (arith, leb-true (length bytes) 63 b.1)

kind_short : (kind : Kind) → length (kind_text kind) ≤ 4
kind_short Int = omega arith
kind_short Id = omega arith
kind_short Text = omega arith
kind_short Flag = omega arith

field_short : (field : Field) → is_name field.name ≡ true → length (field_text field) ≤ 70
field_short field is = omega (arith, length-append field.name (58 ∷ kind_text field.kind), kind_short field.kind, name_short field.name is)

abbrev names_of : List Field → List (List ℕ)
names_of fields = map (λ (field : Field). field.name) fields

fields_short : (fields : List Field) → All (λ name. IsTrue (is_name name)) (names_of fields) → length (fields_text fields) ≤ 70 * length fields
fields_short [] all = omega arith
fields_short (field ∷ fields) all =
    let here : is_name field.name ≡ true = All-head (λ name. IsTrue (is_name name)) field.name (names_of fields) all in
    omega (arith, length-append (field_text field) (fields_text fields), field_short field here, fields_short fields (All-tail (λ name. IsTrue (is_name name)) field.name (names_of fields) all))

pub text_short : (shape : Shape) → IsSchema shape → length (schema_text shape) ≤ 2370
text_short shape is =
    let time : is_name shape.time ≡ true = All-head (λ name. IsTrue (is_name name)) shape.time (names_of shape.fields) is.columns in
    let fields = fields_short shape.fields (All-tail (λ name. IsTrue (is_name name)) shape.time (names_of shape.fields) is.columns) in
    omega (
      arith,
      name_short shape.stream is.stream,
      name_short shape.time time,
      fields,
      is.few,
      length-append shape.stream (40 ∷ (shape.time ++ (fields_text shape.fields ++ (41 ∷ [])))),
      length-append shape.time (fields_text shape.fields ++ (41 ∷ [])),
      length-append (fields_text shape.fields) (41 ∷ []),
    )

pub written_short : (shape : Shape) (text : List ℕ) → IsSchema shape → text ≡ schema_text shape → length text ≤ 2370
written_short shape text is same = rw same (text_short shape is)
