-- Whole growths, as they are read and written.
use Rattle.std.proofs.Common.{◌≡◌, ◌∙◌, ◌⊎◌, inl, inr, ◌<◌, ℕ, Bool, true, List, [], ◌∷◌, ◌++◌, length, Option, Some, None, Result, Ok, Err, refl, sym, ap, arith, append-nil}
use Rattle.std.specs.Prelude.{if◌then◌else◌}
use Rattle.rg_bytes.specs.Reading.{list_bytes, whole}
use Rattle.rg_event.specs.Reading.{shape_of}
use Rattle.rg_event.specs.Shapes.{Shape, IsSchema, schema_text}
use Rattle.rg_event.specs.Tagged.{tagged_bytes}
use Rattle.rg_event.specs.declared.schema.SchemaFault.{SchemaFault}
use Rattle.rg_event.specs.declared.schema.SchemaFault.TheVariants as schema_fault
use Rattle.rg_event.specs.declared.schema.Field.{Field}
use Rattle.rg_event.specs.declared.value.Value.{Value}
use Rattle.rg_event.proofs.Laws.{joined_of, legal_of, read_back}
use Rattle.rg_growth.specs.Growing.{grows, further}
use Rattle.rg_growth.specs.Payloads.{Reading, Agrees, IsGrowth, IsGrowthOf, growth_at, growth_bytes, growth_of, grown_to, text_at, values_at}
use Rattle.rg_growth.specs.declared.fault.GrowthFault.{GrowthFault}
use Rattle.rg_growth.specs.declared.fault.GrowthFault.TheVariants.{BadGrowth, Memory}
use Rattle.rg_growth.specs.declared.growth.Growth.{Growth}
use Rattle.rg_growth.proofs.Grown.{grown, added_is}
use Rattle.rg_growth.proofs.Lengths.{text_short}
use Rattle.rg_growth.proofs.Read.{text_back, values_back}

-- the schema that a text says

by_shape : (text : List ℕ) (read : Option Shape) → shape_of text ≡ read → ((shape : Shape) → IsSchema shape → text ≡ schema_text shape → ⊥) → shape_of text ≡ None
by_shape text None is none = is
by_shape text (Some shape) is none = absurd (none shape (legal_of text shape is) (joined_of text shape is))

-- a text that is refused as bad says none
pub no_shape : (text : List ℕ) (result : Result Shape SchemaFault) → result ≡ Err schema_fault.Bad → ((shape : Shape) → IsSchema shape → text ≡ schema_text shape → (result ≡ Ok shape) ⊎ (result ≡ Err schema_fault.Memory)) → shape_of text ≡ None
no_shape text result refused back = by_shape text (shape_of text) refl (λ shape legal stood. elim (back shape legal stood) [
  | inl read ↦ cc
  | inr memory ↦ cc
])

pub not_grown : (from : Shape) (text : List ℕ) → shape_of text ≡ None → grown_to from text ≡ None
not_grown from text none = rw none refl

pub grown_tested : (from to : Shape) (text : List ℕ) (test : Bool) → IsSchema to → text ≡ schema_text to → grows from to ≡ test → grown_to from text ≡ (if test then Some to else None)
grown_tested from to text test legal stood is = rw (read_back text to legal stood, is) refl

-- a growth, by where its reading stops

pub growth_no_text : (from : Shape) (old : List ℕ) (fault : GrowthFault) → (text_at old ≡ Err fault) ⊎ (fault ≡ Memory) → (growth_at from old ≡ Err fault) ⊎ (fault ≡ Memory)
unfolding growth_at
growth_no_text from old fault (inl stops) = inl (rw stops refl)
growth_no_text from old fault (inr memory) = inr memory

pub growth_no_schema : (from : Shape) (old text left : List ℕ) (fault : GrowthFault) → text_at old ≡ Ok (text, left) → Agrees (grown_to from text) (Err fault) → (growth_at from old ≡ Err fault) ⊎ (fault ≡ Memory)
unfolding growth_at
growth_no_schema from old text left BadGrowth read none = inl (rw (read, none) refl)
growth_no_schema from old text left Memory read none = inr refl

pub growth_no_values :
    (from to : Shape) (fields : List Field) (old text left : List ℕ) (fault : GrowthFault) → fields ≡ further from to → text_at old ≡ Ok (text, left) → grown_to from text ≡ Some to
    → (values_at fields left ≡ Err fault) ⊎ (fault ≡ Memory) → (growth_at from old ≡ Err fault) ⊎ (fault ≡ Memory)
unfolding growth_at
growth_no_values from to fields old text left fault same read is (inl stops) =
    let stopped : values_at (further from to) left ≡ Err fault = ap (λ (columns : List Field). values_at columns left) (sym same) ∙ stops in
    inl (rw (read, is, stopped) refl)
growth_no_values from to fields old text left fault same read is (inr memory) = inr memory

pub growth_read :
    (from to : Shape) (fields : List Field) (old text left : List ℕ) (values : List Value) (rest : List ℕ) → fields ≡ further from to → text_at old ≡ Ok (text, left) → grown_to from text ≡ Some to
    → values_at fields left ≡ Ok (values, rest) → growth_at from old ≡ Ok (record { to = to; values = values }, rest)
unfolding growth_at
growth_read from to fields old text left values rest same read is more =
    let got : values_at (further from to) left ≡ Ok (values, rest) = ap (λ (columns : List Field). values_at columns left) (sym same) ∙ more in
    rw (read, is, got) refl

-- what is written is read back

growth_at_back : (from : Shape) (growth : Growth) → IsGrowthOf from growth → growth_at from (growth_bytes growth) ≡ Ok (growth, [])
growth_at_back from growth is =
    let to = growth.to in
    let short = text_short to is.grows.legal in
    let text : text_at (growth_bytes growth) ≡ Ok (schema_text to, list_bytes tagged_bytes growth.values) = text_back (schema_text to) (list_bytes tagged_bytes growth.values) (omega (arith, short)) in
    let schema : grown_to from (schema_text to) ≡ Some to = grown_tested from to (schema_text to) true is.grows.legal refl (grown from to is.added is.grows) in
    let values : values_at is.added (list_bytes tagged_bytes growth.values) ≡ Ok (growth.values, []) =
    ap (values_at is.added) (sym (append-nil (list_bytes tagged_bytes growth.values))) ∙ values_back is.added growth.values [] is.of in
    growth_read from to is.added (growth_bytes growth) (schema_text to) (list_bytes tagged_bytes growth.values) growth.values [] (sym (added_is from to is.added is.grows)) text schema values

pub growth_back : (from : Shape) (growth : Growth) → IsGrowthOf from growth → growth_of from (growth_bytes growth) ≡ Some growth
growth_back from growth is = ap (λ (reading : Reading Growth). whole reading) (growth_at_back from growth is)

-- what is answered

pub whole_more : (reading : Reading Growth) (growth : Growth) (left : List ℕ) → reading ≡ Ok (growth, left) → 0 < length left → whole reading ≡ None
whole_more reading growth [] is more = absurd (omega arith)
whole_more reading growth (byte ∷ left) is more = rw is refl

pub whole_all : (reading : Reading Growth) (growth : Growth) (left : List ℕ) → reading ≡ Ok (growth, left) → length left ≡ 0 → whole reading ≡ Some growth
whole_all reading growth [] is none = rw is refl
whole_all reading growth (byte ∷ left) is none = absurd (omega arith)

pub refused : (reading : Reading Growth) (fault : GrowthFault) → (reading ≡ Err fault) ⊎ (fault ≡ Memory) → Agrees (whole reading) (Err fault)
refused reading BadGrowth (inl is) = rw is refl
refused reading BadGrowth (inr memory) = absurd cc
refused reading Memory agrees = tt

pub nothing_left : (old bytes left : List ℕ) → old ≡ bytes ++ left → length left ≡ 0 → old ≡ bytes
nothing_left old bytes [] stood none = stood ∙ append-nil bytes
nothing_left old bytes (byte ∷ left) stood none = absurd (omega arith)

returns_growth : (said : Option Growth) (result : Result Growth GrowthFault) (growth : Growth) → Agrees said result → said ≡ Some growth → (result ≡ Ok growth) ⊎ (result ≡ Err Memory)
returns_growth said (Ok read) growth agrees is = let same : read ≡ growth = cc in inl (ap (λ (g : Growth). Ok g) same)
returns_growth said (Err BadGrowth) growth agrees is = absurd cc
returns_growth said (Err Memory) growth agrees is = inr refl

pub growth_reads_back : (from : Shape) (payload : List ℕ) (result : Result Growth GrowthFault) (growth : Growth) → Agrees (growth_of from payload) result → IsGrowth from payload growth → (result ≡ Ok growth) ⊎ (result ≡ Err Memory)
growth_reads_back from payload result growth agrees is = returns_growth (growth_of from payload) result growth agrees (ap (growth_of from) is.is ∙ growth_back from growth is.of)
