-- A schema grows to another one exactly where the test says so.
use Rattle.std.proofs.Common.{◌≡◌, ◌∙◌, ◌+◌, ◌-◌, ◌<◌, ◌≤◌, ◌&&◌, ℕ, suc, Bool, true, false, IsTrue, bytes_eq, nat_lt, List, [], ◌∷◌, ◌++◌, length, get_or, take, drop, drop-cons, add-one, refl, sym, ap, subst, arith, length-append, length-drop}
use Rattle.std.specs.Prelude.{◌↔◌}
use Rattle.std.proofs.lemmas.Bool.{and_parts, and_from, ltb-true, lt-ltb}
use Rattle.std.proofs.lemmas.List.{drop_at, drop_all, take_rest}
use Rattle.std.proofs.lemmas.Slice.Eq.{bytes_eq-Decides}
use Rattle.rg_event.specs.Codec.{IsValueOf}
use Rattle.rg_event.specs.Shapes.{Shape, IsSchema}
use Rattle.rg_event.specs.Tagged.{value_kind, IsLegal}
use Rattle.rg_event.specs.declared.schema.Field.{Field}
use Rattle.rg_event.specs.declared.value.Kind.{Kind}
use Rattle.rg_event.specs.declared.value.Kind.TheVariants.{Int, Id, Text, Flag}
use Rattle.rg_event.specs.declared.value.Value.{Value}
use Rattle.rg_event.specs.declared.value.Value.TheVariants.{Int as IntValue, Id as IdValue, Text as TextValue, Flag as FlagValue}
use Rattle.rg_growth.specs.Growing.{GrowsBy, Grows, is_kind, is_same, begins, grows, further}

-- kinds

kind_is : (kind other : Kind) → is_kind kind other ≡ true → kind ≡ other
kind_is Int Int is = refl
kind_is Id Id is = refl
kind_is Text Text is = refl
kind_is Flag Flag is = refl
kind_is kind other is = absurd cc

kind_itself : (kind : Kind) → is_kind kind kind ≡ true
kind_itself Int = refl
kind_itself Id = refl
kind_itself Text = refl
kind_itself Flag = refl

-- a value of a kind, and a legal value of that kind

pub value_of_kind : (kind : Kind) (value : Value) → IsLegal value → is_kind (value_kind value) kind ≡ true → IsValueOf kind value
value_of_kind kind value legal is = subst (λ k. IsValueOf k value) (kind_is (value_kind value) kind is) legal

kind_of_value : (kind : Kind) (value : Value) → IsValueOf kind value → value_kind value ≡ kind
kind_of_value Int (IntValue number) is = refl
kind_of_value Id (IdValue number) is = refl
kind_of_value Text (TextValue text) is = refl
kind_of_value Flag (FlagValue flag) is = refl
kind_of_value kind value is = absurd is

pub legal_value : (kind : Kind) (value : Value) → IsValueOf kind value → IsLegal value
legal_value kind value is = subst (λ k. IsValueOf k value) (sym (kind_of_value kind value is)) is

pub kind_said : (kind : Kind) (value : Value) → IsValueOf kind value → is_kind (value_kind value) kind ≡ true
kind_said kind value is = ap (λ k. is_kind k kind) (kind_of_value kind value is) ∙ kind_itself kind

-- columns

same_is : (field other : Field) → is_same field other ≡ true → field ≡ other
same_is field other is =
    let parts = and_parts (bytes_eq field.name other.name) (is_kind field.kind other.kind) is in
    let name : field.name ≡ other.name = (bytes_eq-Decides field.name other.name).0 parts.0 in
    let kind : field.kind ≡ other.kind = kind_is field.kind other.kind parts.1 in
    λ i. record { name = name i; kind = kind i }

same_itself : (field : Field) → is_same field field ≡ true
same_itself field = and_from (bytes_eq field.name field.name) (is_kind field.kind field.kind) ((bytes_eq-Decides field.name field.name).1 refl) (kind_itself field.kind)

begins_is : (own all : List Field) → begins own all ≡ true → all ≡ own ++ drop (length own) all
begins_is [] all is = refl
begins_is (field ∷ own) [] is = absurd cc
begins_is (field ∷ own) (other ∷ all) is =
    let parts = and_parts (is_same field other) (begins own all) is in
    ap (λ (f : Field). f ∷ all) (sym (same_is field other parts.0)) ∙ ap (λ (l : List Field). field ∷ l) (begins_is own all parts.1)

begins_back : (own added : List Field) → begins own (own ++ added) ≡ true
begins_back [] added = refl
begins_back (field ∷ own) added = and_from (is_same field field) (begins own (own ++ added)) (same_itself field) (begins_back own added)

-- one turn of the test

parted : (fields : List Field) (i : ℕ) (field : Field) → i < length fields → field ≡ get_or fields i field → drop i fields ≡ field ∷ drop (i + 1) fields
parted fields i field within is = rw add-one (drop-cons fields i field within ∙ ap (λ f. f ∷ drop (suc i) fields) (sym is))

pub begins_more :
    (own all : List Field) (i : ℕ) (field other : Field) (same : Bool) → i < length own → field ≡ get_or own i field → i < length all → other ≡ get_or all i other → is_same field other ≡ same
    → begins (drop i own) (drop i all) ≡ (same && begins (drop (i + 1) own) (drop (i + 1) all))
begins_more own all i field other same within here also there is = rw (parted own i field within here, parted all i other also there, is) refl

pub begins_short : (own all : List Field) (i : ℕ) (field : Field) → i < length own → field ≡ get_or own i field → length all ≤ i → begins (drop i own) (drop i all) ≡ false
begins_short own all i field within here short = rw (parted own i field within here, drop_all i all short) refl

pub begins_end : (own all : List Field) (i : ℕ) → length own ≤ i → begins (drop i own) (drop i all) ≡ true
begins_end own all i end = rw (drop_all i own end) refl

-- schemas

pub grows_by : (from to : Shape) → IsSchema to → grows from to ≡ true → GrowsBy from to (further from to)
grows_by from to legal is =
    let a = and_parts (bytes_eq from.stream to.stream) (bytes_eq from.time to.time && (nat_lt (length from.fields) (length to.fields) && begins from.fields to.fields)) is in
    let b = and_parts (bytes_eq from.time to.time) (nat_lt (length from.fields) (length to.fields) && begins from.fields to.fields) a.1 in
    let c = and_parts (nat_lt (length from.fields) (length to.fields)) (begins from.fields to.fields) b.1 in
    let more : length from.fields < length to.fields = ltb-true (length from.fields) (length to.fields) c.0 in
    record {
      legal = legal;
      stream = sym ((bytes_eq-Decides from.stream to.stream).0 a.0);
      time = sym ((bytes_eq-Decides from.time to.time).0 b.0);
      fields = begins_is from.fields to.fields c.1;
      some = omega (arith, length-drop (length from.fields) to.fields, more);
    }

pub grown : (from to : Shape) (added : List Field) → GrowsBy from to added → grows from to ≡ true
grown from to added by =
    let more : length from.fields < length to.fields = omega (arith, by.some, ap length by.fields, length-append from.fields added) in
    and_from _ _ ((bytes_eq-Decides from.stream to.stream).1 (sym by.stream))
    (and_from _ _ ((bytes_eq-Decides from.time to.time).1 (sym by.time))
    (and_from _ _ (lt-ltb (length from.fields) (length to.fields) more)
    (ap (begins from.fields) by.fields ∙ begins_back from.fields added)))

pub added_is : (from to : Shape) (added : List Field) → GrowsBy from to added → further from to ≡ added
added_is from to added by = ap (drop (length from.fields)) by.fields ∙ drop_at from.fields added (length from.fields) refl

pub grows_exact : (from to : Shape) (test : Bool) → IsSchema to → test ≡ grows from to → IsTrue test ↔ Grows from to
grows_exact from to test legal is = (λ yes. (further from to, grows_by from to legal (sym is ∙ yes)), λ has. is ∙ grown from to has.0 has.1)

-- the columns behind so many of another one's
pub rest_is : (from to : Shape) (own all : List Field) → own ≡ from.fields → all ≡ to.fields → take (length all - length own) (drop (length own) all) ≡ further from to
rest_is from to own all first second =
    take_rest all (length own) ∙ (ap (λ (fields : List Field). drop (length fields) all) first ∙ ap (drop (length from.fields)) second)
