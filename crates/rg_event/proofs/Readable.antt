-- A schema's text is read as that schema, and what is read as a schema is its text.
use Rattle.std.proofs.Common.{◌≡◌, ◌∙◌, refl, sym, ap, subst, ℕ, zero, suc, ◌≤◌, Bool, true, false, IsTrue, ◌&&◌, ◌==◌, ◌||◌, not, List, [], ◌∷◌, ◌++◌, length, take, drop, map, Option, Some, None, All, append_assoc, arith, bytes_eq, codes, if◌then◌else◌}
use Rattle.std.specs.List.{list_any, list_all, prefix_len, IsDistinct, AllByRecursion as ByRecursion}
use Rattle.std.specs.Option.{option_map}
use Rattle.std.proofs.lemmas.List.{take-append-drop}
use Rattle.std.proofs.Math.Seq.{take-append_seam, drop-append_seam}
use Rattle.std.proofs.lemmas.List.Elements.{All-from_recursion, All-tail}
use Rattle.std.proofs.lemmas.Slice.Eq.{bytes_eq-Decides}
use Rattle.rg_event.specs.Names.{is_word_byte, is_name}
use Rattle.rg_event.specs.Shapes.{Shape, IsSchema, column_names, kind_text, field_text, fields_text, schema_text}
use Rattle.rg_event.specs.Reading.{◌>>=◌, columns_differ, names_differ, word_of, behind_word, behind_byte, name_at, kind_of, kind_at, field_at, fields_at, shape_at, shape_of, is_at, is_empty, with_first}
use Rattle.rg_event.specs.declared.schema.Field.{Field}
use Rattle.rg_event.specs.declared.value.Kind.{Kind}
use Rattle.rg_event.specs.declared.value.Kind.TheVariants.{Int, Id, Text, Flag}

both_true : (a b : Bool) → (a && b) ≡ true → (a ≡ true) × (b ≡ true)
both_true true b holds = (refl, holds)
both_true false b holds = cc

neither : (a b : Bool) → (a || b) ≡ false → (a ≡ false) × (b ≡ false)
neither true b none = cc
neither false b none = (refl, none)

not_true : (a : Bool) → not a ≡ true → a ≡ false
not_true true is = cc
not_true false is = refl

-- no letter, digit or `_` is in front
abbrev is_end : List ℕ → Bool
is_end [] = true
is_end (byte ∷ bytes) = not (is_word_byte byte)

end_len : (left : List ℕ) → is_end left ≡ true → prefix_len is_word_byte left ≡ 0
end_len [] end = refl
end_len (byte ∷ bytes) end =
    let no : is_word_byte byte ≡ false = grind arith in
    rw no refl

word_len : (word left : List ℕ) → list_all is_word_byte word ≡ true → is_end left ≡ true → prefix_len is_word_byte (word ++ left) ≡ length word
word_len [] left all end = end_len left end
word_len (byte ∷ word) left all end =
    let first : is_word_byte byte ≡ true = grind arith in
    let others : list_all is_word_byte word ≡ true = grind arith in
    let more : prefix_len is_word_byte (word ++ left) ≡ length word = word_len word left others end in
    rw (first, more) (omega arith)

word_back : (word left : List ℕ) → list_all is_word_byte word ≡ true → is_end left ≡ true → word_of (word ++ left) ≡ word
word_back word left all end = ap (λ n. take n (word ++ left)) (word_len word left all end) ∙ take-append_seam word left

behind_back : (word left : List ℕ) → list_all is_word_byte word ≡ true → is_end left ≡ true → behind_word (word ++ left) ≡ left
behind_back word left all end = ap (λ n. drop n (word ++ left)) (word_len word left all end) ∙ drop-append_seam word left

-- a name is made of such bytes
name_bytes : (name : List ℕ) → is_name name ≡ true → list_all is_word_byte name ≡ true
name_bytes [] named = cc
name_bytes (byte ∷ bytes) named = grind arith

name_back : (name left : List ℕ) → is_name name ≡ true → is_end left ≡ true → name_at (name ++ left) ≡ Some (name, left)
name_back name left named end =
    rw (word_back name left (name_bytes name named) end, behind_back name left (name_bytes name named) end, named) refl

kind_bytes : (kind : Kind) → list_all is_word_byte (kind_text kind) ≡ true
kind_bytes Int = refl
kind_bytes Id = refl
kind_bytes Text = refl
kind_bytes Flag = refl

kind_said : (kind : Kind) → kind_of (kind_text kind) ≡ Some kind
kind_said Int = refl
kind_said Id = refl
kind_said Text = refl
kind_said Flag = refl

kind_back : (kind : Kind) (left : List ℕ) → is_end left ≡ true → kind_at (kind_text kind ++ left) ≡ Some (kind, left)
kind_back kind left end =
    rw (word_back (kind_text kind) left (kind_bytes kind) end, behind_back (kind_text kind) left (kind_bytes kind) end, kind_said kind) refl

byte_back : (byte : ℕ) (left : List ℕ) → behind_byte byte (byte ∷ left) ≡ Some left
byte_back byte left = grind arith

field_back :
    (field : Field) (left : List ℕ) → is_name field.name ≡ true → is_end left ≡ true
    → field_at (field_text field ++ left) ≡ Some (field, left)
unfolding field_at
field_back field left named end =
    rw (append_assoc field.name (58 ∷ kind_text field.kind) left, name_back field.name (58 ∷ (kind_text field.kind ++ left)) named refl, kind_back field.kind left end) refl

-- each column has a legal name
abbrev all_named : List Field → Bool
all_named fields = list_all (λ (field : Field). is_name field.name) fields

fields_end : (fields : List Field) (left : List ℕ) → is_end left ≡ true → is_end (fields_text fields ++ left) ≡ true
fields_end [] left end = end
fields_end (field ∷ fields) left end = refl

fields_back :
    (most : ℕ) (fields : List Field) (left : List ℕ) → length fields ≤ most → all_named fields ≡ true
    → fields_at most (fields_text fields ++ (41 ∷ left)) ≡ Some (fields, 41 ∷ left)
unfolding fields_at
fields_back zero [] left few named = refl
fields_back zero (field ∷ fields) left few named = absurd (omega arith)
fields_back (suc most) [] left few named = refl
fields_back (suc most) (field ∷ fields) left few named =
    let both = both_true (is_name field.name) (all_named fields) named in
    let more : fields_at most (fields_text fields ++ (41 ∷ left)) ≡ Some (fields, 41 ∷ left) =
    fields_back most fields left (omega arith) both.1 in
    let one : field_at (field_text field ++ (fields_text fields ++ (41 ∷ left))) ≡ Some (field, fields_text fields ++ (41 ∷ left)) =
    field_back field (fields_text fields ++ (41 ∷ left)) both.0 (fields_end fields (41 ∷ left) refl) in
    rw (append_assoc (field_text field) (fields_text fields) (41 ∷ left), one, more) refl

-- where a test or a chain gives something
if_some : {A : Type 0} → (test : Bool) (x y : A) → (if test then Some x else None) ≡ Some y → (test ≡ true) × (x ≡ y)
if_some true x y same = (refl, cc)
if_some false x y same = cc

chain_some :
    {A B : Type 0} → (o : Option A) (f : A → Option B) (y : B) → (o >>= f) ≡ Some y
    → (x : A) × ((o ≡ Some x) × (f x ≡ Some y))
chain_some None f y same = cc
chain_some (Some x) f y same = (x, (refl, same))

map_some :
    {A B : Type 0} → (o : Option A) (f : A → B) (y : B) → option_map f o ≡ Some y → (x : A) × ((o ≡ Some x) × (f x ≡ y))
map_some None f y same = cc
map_some (Some x) f y same = (x, (refl, cc))

byte_read : (byte : ℕ) (text left : List ℕ) → behind_byte byte text ≡ Some left → text ≡ byte ∷ left
byte_read byte [] left is = cc
byte_read byte (first ∷ bytes) left is =
    let both = if_some (first == byte) bytes left is in
    let same : first ≡ byte = grind (arith, both.0) in
    rw (same, both.1) refl

word_joined : (text : List ℕ) → text ≡ word_of text ++ behind_word text
word_joined text = sym (take-append-drop (prefix_len is_word_byte text) text)

record NameRead (text name left : List ℕ) : Type 0 where
  joined : text ≡ name ++ left
  named : is_name name ≡ true

name_read : (text : List ℕ) (read : List ℕ × List ℕ) → name_at text ≡ Some read → NameRead text read.0 read.1
name_read text read is =
    let both = if_some (is_name (word_of text)) (word_of text, behind_word text) read is in
    let P : List ℕ × List ℕ → Type 0 = λ r. NameRead text r.0 r.1 in
    subst P both.1 (record { joined = word_joined text; named = both.0 })

kind_word : (word : List ℕ) (kind : Kind) → kind_of word ≡ Some kind → word ≡ kind_text kind
kind_word word Int is = grind (arith, bytes_eq-Decides word (codes "int"))
kind_word word Id is = grind (arith, bytes_eq-Decides word (codes "id"))
kind_word word Text is = grind (arith, bytes_eq-Decides word (codes "text"))
kind_word word Flag is = grind (arith, bytes_eq-Decides word (codes "flag"))

kind_read : (text : List ℕ) (read : Kind × List ℕ) → kind_at text ≡ Some read → text ≡ kind_text read.0 ++ read.1
kind_read text read is =
    let found = map_some (kind_of (word_of text)) (λ kind. (kind, behind_word text)) read is in
    let P : Kind × List ℕ → Type 0 = λ r. text ≡ kind_text r.0 ++ r.1 in
    subst P found.1.1 (word_joined text ∙ ap (λ word. word ++ behind_word text) (kind_word (word_of text) found.0 found.1.0))

field_joined :
    (text start name rest colon kind left : List ℕ) → text ≡ 44 ∷ start → start ≡ name ++ rest → rest ≡ 58 ∷ colon
    → colon ≡ kind ++ left → text ≡ (44 ∷ (name ++ (58 ∷ kind))) ++ left
field_joined text start name rest colon kind left a b c d =
    a ∙ (ap (λ t. 44 ∷ t) (b ∙ ap (λ t. name ++ t) (c ∙ ap (λ t. 58 ∷ t) d))
    ∙ ap (λ t. 44 ∷ t) (sym (append_assoc name (58 ∷ kind) left)))

record FieldRead (text : List ℕ) (field : Field) (left : List ℕ) : Type 0 where
  joined : text ≡ field_text field ++ left
  named : is_name field.name ≡ true

field_read : (text : List ℕ) (read : Field × List ℕ) → field_at text ≡ Some read → FieldRead text read.0 read.1
unfolding field_at
field_read text read is =
    let a = chain_some (behind_byte 44 text) _ read is in
    let b = chain_some (name_at a.0) _ read a.1.1 in
    let c = chain_some (behind_byte 58 b.0.1) _ read b.1.1 in
    let d = chain_some (kind_at c.0) _ read c.1.1 in
    let name = name_read a.0 b.0 b.1.0 in
    let made : Field × List ℕ = (record { name = b.0.0; kind = d.0.0 }, d.0.1) in
    let whole : Some made ≡ Some read = d.1.1 in
    let same : made ≡ read = cc in
    let P : Field × List ℕ → Type 0 = λ r. FieldRead text r.0 r.1 in
    subst P same (record {
      joined = field_joined text a.0 b.0.0 b.0.1 c.0 (kind_text d.0.0) d.0.1
          (byte_read 44 text a.0 a.1.0) name.joined (byte_read 58 b.0.1 c.0 c.1.0) (kind_read c.0 d.0 d.1.0);
      named = name.named;
    })

record FieldsRead (most : ℕ) (text : List ℕ) (fields : List Field) (left : List ℕ) : Type 0 where
  joined : text ≡ fields_text fields ++ left
  named : all_named fields ≡ true
  few : length fields ≤ most

no_fields : (most : ℕ) (text : List ℕ) (read : List Field × List ℕ) → ([], text) ≡ read → FieldsRead most text read.0 read.1
no_fields most text read same =
    let P : List Field × List ℕ → Type 0 = λ r. FieldsRead most text r.0 r.1 in
    subst P same (record { joined = refl; named = refl; few = omega arith })

more_read :
    (most : ℕ) (text : List ℕ) (read : List Field × List ℕ) (comma : Bool)
    → ((text' : List ℕ) (read' : List Field × List ℕ) → fields_at most text' ≡ Some read' → FieldsRead most text' read'.0 read'.1)
    → (if comma then field_at text >>= (λ field. with_first field.0 (fields_at most field.1)) else Some ([], text)) ≡ Some read
    → FieldsRead (suc most) text read.0 read.1
more_read most text read false later is = no_fields (suc most) text read cc
more_read most text read true later is =
    let a = chain_some (field_at text) _ read is in
    let b = map_some (fields_at most a.0.1) _ read a.1.1 in
    let one = field_read text a.0 a.1.0 in
    let more = later a.0.1 b.0 b.1.0 in
    let P : List Field × List ℕ → Type 0 = λ r. FieldsRead (suc most) text r.0 r.1 in
    subst P b.1.1 (record {
      joined = one.joined ∙ (ap (λ t. field_text a.0.0 ++ t) more.joined ∙ sym (append_assoc (field_text a.0.0) (fields_text b.0.0) b.0.1));
      named = rw (one.named, more.named) refl;
      few = omega (arith, more.few);
    })

fields_read : (most : ℕ) (text : List ℕ) (read : List Field × List ℕ) → fields_at most text ≡ Some read → FieldsRead most text read.0 read.1
unfolding fields_at
fields_read zero text read is = no_fields zero text read cc
fields_read (suc most) text read is = more_read most text read (is_at 44 text) (λ t r e. fields_read most t r e) is

record ShapeRead (text : List ℕ) (shape : Shape) (left : List ℕ) : Type 0 where
  joined : text ≡ shape.stream ++ (40 ∷ (shape.time ++ (fields_text shape.fields ++ (41 ∷ left))))
  stream : is_name shape.stream ≡ true
  time : is_name shape.time ≡ true
  columns : all_named shape.fields ≡ true
  few : length shape.fields ≤ 32

shape_read : (text : List ℕ) (read : Shape × List ℕ) → shape_at text ≡ Some read → ShapeRead text read.0 read.1
unfolding shape_at
shape_read text read is =
    let a = chain_some (name_at text) _ read is in
    let b = chain_some (behind_byte 40 a.0.1) _ read a.1.1 in
    let c = chain_some (name_at b.0) _ read b.1.1 in
    let d = chain_some (fields_at 32 c.0.1) _ read c.1.1 in
    let e = chain_some (behind_byte 41 d.0.1) _ read d.1.1 in
    let stream = name_read text a.0 a.1.0 in
    let time = name_read b.0 c.0 c.1.0 in
    let fields = fields_read 32 c.0.1 d.0 d.1.0 in
    let made : Shape × List ℕ = (record { stream = a.0.0; time = c.0.0; fields = d.0.0 }, e.0) in
    let whole : Some made ≡ Some read = e.1.1 in
    let same : made ≡ read = cc in
    let P : Shape × List ℕ → Type 0 = λ r. ShapeRead text r.0 r.1 in
    subst P same (record {
      joined = stream.joined
          ∙ ap (λ t. a.0.0 ++ t) (byte_read 40 a.0.1 b.0 b.1.0
          ∙ ap (λ t. 40 ∷ t) (time.joined
          ∙ ap (λ t. c.0.0 ++ t) (fields.joined ∙ ap (λ t. fields_text d.0.0 ++ t) (byte_read 41 d.0.1 e.0 e.1.0))));
      stream = stream.named;
      time = time.named;
      columns = fields.named;
      few = fields.few;
    })

-- the tests of names and columns, and what a schema promises
abbrev names_of : List Field → List (List ℕ)
names_of fields = map (λ (field : Field). field.name) fields

all_legal : (fields : List Field) → all_named fields ≡ true → ByRecursion (λ name. IsTrue (is_name name)) (names_of fields)
all_legal [] named = tt
all_legal (field ∷ fields) named =
    let both = both_true (is_name field.name) (all_named fields) named in
    (both.0, all_legal fields both.1)

clear_made :
    (name : List ℕ) (fields : List Field) → list_any (λ (field : Field). bytes_eq name field.name) fields ≡ false
    → ByRecursion (λ other. bytes_eq name other ≡ false) (names_of fields)
clear_made name [] none = tt
clear_made name (field ∷ fields) none =
    let both = neither (bytes_eq name field.name) (list_any (λ (other : Field). bytes_eq name other.name) fields) none in
    (both.0, clear_made name fields both.1)

distinct_made : (fields : List Field) → names_differ fields ≡ true → IsDistinct bytes_eq (names_of fields)
unfolding IsDistinct
distinct_made [] differ = tt
distinct_made (field ∷ fields) differ =
    let both = both_true (not (list_any (λ (other : Field). bytes_eq field.name other.name) fields)) (names_differ fields) differ in
    (clear_made field.name fields (not_true _ both.0), distinct_made fields both.1)

pub is_schema :
    (text : List ℕ) (shape : Shape) (left : List ℕ) → shape_at text ≡ Some (shape, left)
    → columns_differ shape.time shape.fields ≡ true → IsSchema shape
unfolding IsDistinct
is_schema text shape left is differ =
    let read = shape_read text (shape, left) is in
    let both = both_true (not (list_any (λ (other : Field). bytes_eq shape.time other.name) shape.fields)) (names_differ shape.fields) differ in
    record {
      stream = read.stream;
      columns = All-from_recursion (λ name. IsTrue (is_name name)) (column_names shape)
          (read.time, all_legal shape.fields read.columns);
      few = read.few;
      distinct = (clear_made shape.time shape.fields (not_true _ both.0), distinct_made shape.fields both.1);
    }

no_more : (left : List ℕ) → is_empty left ≡ true → left ≡ []
no_more [] none = refl
no_more (byte ∷ bytes) none = cc

record WholeRead (text : List ℕ) (shape : Shape) : Type 0 where
  joined : text ≡ schema_text shape
  legal : IsSchema shape

whole_read : (text : List ℕ) (shape : Shape) → shape_of text ≡ Some shape → WholeRead text shape
unfolding shape_of
whole_read text shape is =
    let a = chain_some (shape_at text) _ shape is in
    let b = if_some (is_empty a.0.1 && columns_differ a.0.0.time a.0.0.fields) a.0.0 shape a.1.1 in
    let c = both_true (is_empty a.0.1) (columns_differ a.0.0.time a.0.0.fields) b.0 in
    let read = shape_read text a.0 a.1.0 in
    let P : Shape → Type 0 = λ s. WholeRead text s in
    subst P b.1 (record {
      joined = read.joined
          ∙ ap (λ t. a.0.0.stream ++ (40 ∷ (a.0.0.time ++ (fields_text a.0.0.fields ++ (41 ∷ t))))) (no_more a.0.1 c.0);
      legal = is_schema text a.0.0 a.0.1 a.1.0 c.1;
    })

-- what is read as a schema is a schema, and its text
pub joined_of : (text : List ℕ) (shape : Shape) → shape_of text ≡ Some shape → text ≡ schema_text shape
joined_of text shape is = (whole_read text shape is).joined

pub legal_of : (text : List ℕ) (shape : Shape) → shape_of text ≡ Some shape → IsSchema shape
legal_of text shape is = (whole_read text shape is).legal

-- and back
legal_all : (fields : List Field) → All (λ name. IsTrue (is_name name)) (names_of fields) → all_named fields ≡ true
legal_all [] legal = refl
legal_all (field ∷ fields) legal =
    let first : is_name field.name ≡ true = legal 0 field.name (omega arith) in
    rw (first, legal_all fields (All-tail (λ name. IsTrue (is_name name)) field.name (names_of fields) legal)) refl

made_clear :
    (name : List ℕ) (fields : List Field) → ByRecursion (λ other. bytes_eq name other ≡ false) (names_of fields)
    → list_any (λ (field : Field). bytes_eq name field.name) fields ≡ false
made_clear name [] none = refl
made_clear name (field ∷ fields) none = rw (none.0, made_clear name fields none.1) refl

made_distinct : (fields : List Field) → IsDistinct bytes_eq (names_of fields) → names_differ fields ≡ true
unfolding IsDistinct
made_distinct [] distinct = refl
made_distinct (field ∷ fields) distinct =
    rw (made_clear field.name fields distinct.0, made_distinct fields distinct.1) refl

made_differ : (shape : Shape) → IsDistinct bytes_eq (column_names shape) → columns_differ shape.time shape.fields ≡ true
unfolding IsDistinct
made_differ shape distinct =
    rw (made_clear shape.time shape.fields distinct.0, made_distinct shape.fields distinct.1) refl

shape_back : (shape : Shape) → IsSchema shape → shape_at (schema_text shape) ≡ Some (shape, [])
unfolding shape_at
shape_back shape legal =
    let stream : is_name shape.stream ≡ true = legal.stream in
    let time : is_name shape.time ≡ true = legal.columns 0 shape.time (omega arith) in
    let columns : all_named shape.fields ≡ true =
    legal_all shape.fields (All-tail (λ name. IsTrue (is_name name)) shape.time (names_of shape.fields) legal.columns) in
    rw (
      name_back shape.stream (40 ∷ (shape.time ++ (fields_text shape.fields ++ (41 ∷ [])))) stream refl,
      name_back shape.time (fields_text shape.fields ++ (41 ∷ [])) time (fields_end shape.fields (41 ∷ []) refl),
      fields_back 32 shape.fields [] legal.few columns,
    ) refl

pub read_back : (text : List ℕ) (shape : Shape) → IsSchema shape → text ≡ schema_text shape → shape_of text ≡ Some shape
unfolding shape_of
read_back text shape legal is = rw (is, shape_back shape legal, made_differ shape legal.distinct) refl
