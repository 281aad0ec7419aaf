-- The values of the columns, one at a time.
use Rattle.std.proofs.Common.{◌≡◌, ◌+◌, ℕ, List, [], ◌∷◌, ◌++◌, length, get_or, take, ◌<◌, Ok, refl, append_assoc}
use Rattle.std.proofs.lemmas.List.{take_more}
use Rattle.rg_bytes.specs.Reading.{and_then}
use Rattle.rg_event.specs.Codec.{Reading, IsValueOf, AreValuesOf}
use Rattle.rg_event.specs.declared.schema.Field.{Field}
use Rattle.rg_event.specs.declared.value.Value.{Value}

-- what is read is put behind these values
abbrev pub behind : List Value → Reading (List Value) → Reading (List Value)
behind values reading = and_then reading (λ more rest. Ok (values ++ more, rest))

push_value : (fields : List Field) (values : List Value) (field : Field) (value : Value) → AreValuesOf fields values → IsValueOf field.kind value → AreValuesOf (fields ++ field ∷ []) (values ++ value ∷ [])
push_value [] [] field value are is = (is, tt)
push_value [] (other ∷ values) field value are is = absurd are
push_value (first ∷ fields) [] field value are is = absurd are
push_value (first ∷ fields) (other ∷ values) field value are is = (are.0, push_value fields values field value are.1 is)

pub one_value_more : (fields : List Field) (values : List Value) (i : ℕ) (field : Field) (value : Value) → i < length fields → field ≡ get_or fields i field → AreValuesOf (take i fields) values → IsValueOf field.kind value → AreValuesOf (take (i + 1) fields) (values ++ value ∷ [])
one_value_more fields values i field value below here are is = rw (take_more fields i field below, ← here) (push_value (take i fields) values field value are is)

-- three texts put one after another
pub three_more : (old first second third middle new : List ℕ) → middle ≡ old ++ first → new ≡ middle ++ second → new ++ third ≡ old ++ (first ++ (second ++ third))
three_more old first second third middle new one two = rw (two, one, append_assoc (old ++ first) second third, append_assoc old first (second ++ third)) refl
