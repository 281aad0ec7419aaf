-- The parts of a growth, as they are read and written.
use Rattle.std.proofs.Common.{◌≡◌, ◌∙◌, ◌⊎◌, inl, inr, ◌+◌, ◌<◌, ◌≤◌, ◌^◌, ◌==◌, ℕ, suc, Bool, true, false, List, [], ◌∷◌, ◌++◌, length, get_or, drop, drop-cons, add-one, Result, Ok, Err, refl, sym, ap, append_assoc, append-nil}
use Rattle.std.proofs.lemmas.List.{drop_all}
use Rattle.std.specs.Int.{w32, to_be_bytes}
use Rattle.std.specs.Result.{IsErrAnd}
use Rattle.rg_bytes.specs.Reading.{and_then, tested, list_bytes, Agrees as AgreesWith}
use Rattle.rg_bytes.proofs.Laws.{u8_read, u8_short, u32_read, u32_short, bytes_read, bytes_short, agrees_stopped}
use Rattle.rg_event.specs.Codec.{AreValuesOf, IsValueOf}
use Rattle.rg_event.specs.Tagged.{tagged_at, tagged_bytes, value_kind}
use Rattle.rg_event.specs.declared.codec.EventFault.{EventFault}
use Rattle.rg_event.specs.declared.codec.EventFault.TheVariants.{Memory}
use Rattle.rg_event.specs.declared.schema.Field.{Field}
use Rattle.rg_event.specs.declared.value.Kind.{Kind}
use Rattle.rg_event.specs.declared.value.Value.{Value}
use Rattle.rg_event.proofs.Laws.{tagged_reads_back}
use Rattle.rg_growth.specs.Growing.{is_kind}
use Rattle.rg_growth.specs.Payloads.{Reading, growth_fault, text_at, text_bytes, value_at, values_at}
use Rattle.rg_growth.specs.declared.fault.GrowthFault.{GrowthFault}
use Rattle.rg_growth.specs.declared.fault.GrowthFault.TheVariants.{BadGrowth, Memory as NoMemory}
use Rattle.rg_growth.proofs.Grown.{legal_value, kind_said}

-- a call that hands on that bytes are too few
pub agrees_short : {A B : Type 0} (view : A → B) (reading : Reading B) (result : Result A GrowthFault) (left : List ℕ) → IsErrAnd result (λ fault. fault ≡ BadGrowth) → reading ≡ Err BadGrowth → AgreesWith NoMemory view reading result left
agrees_short view reading result left short is = agrees_stopped NoMemory view reading result left BadGrowth short (inl is)

-- the tag and a text

pub text_none : (old : List ℕ) → length old < 1 → text_at old ≡ Err BadGrowth
unfolding text_at
text_none old few = rw (u8_short BadGrowth old few) refl

pub text_other : (old : List ℕ) (tag : ℕ) (one : List ℕ) → old ≡ tag ∷ one → (tag == 71) ≡ false → text_at old ≡ Err BadGrowth
unfolding text_at
text_other old tag one stood other = rw (u8_read BadGrowth old tag one stood, other) refl

pub text_no_count : (old : List ℕ) (tag : ℕ) (one : List ℕ) → old ≡ tag ∷ one → (tag == 71) ≡ true → length one < 4 → text_at old ≡ Err BadGrowth
unfolding text_at
text_no_count old tag one stood is few = rw (u8_read BadGrowth old tag one stood, is, u32_short BadGrowth one few) refl

pub text_no_text :
    (old : List ℕ) (tag : ℕ) (one : List ℕ) (count : ℕ) (two : List ℕ) → old ≡ tag ∷ one → (tag == 71) ≡ true → one ≡ to_be_bytes w32 count ++ two → count < 2 ^ 32 → length two < count → text_at old ≡ Err BadGrowth
unfolding text_at
text_no_text old tag one count two stood is behind fits few = rw (u8_read BadGrowth old tag one stood, is, u32_read BadGrowth one count two behind fits) (bytes_short BadGrowth count two few)

pub text_read :
    (old : List ℕ) (tag : ℕ) (one : List ℕ) (count : ℕ) (two text rest : List ℕ) → old ≡ tag ∷ one → (tag == 71) ≡ true → one ≡ to_be_bytes w32 count ++ two → count < 2 ^ 32 → two ≡ text ++ rest → length text ≡ count
    → text_at old ≡ Ok (text, rest)
unfolding text_at
text_read old tag one count two text rest stood is behind fits parts counted = rw (u8_read BadGrowth old tag one stood, is, u32_read BadGrowth one count two behind fits) (bytes_read BadGrowth count two text rest parts counted)

pub text_taken :
    (old : List ℕ) (tag : ℕ) (one : List ℕ) (count : ℕ) (two text rest : List ℕ) → old ≡ tag ∷ one → tag ≡ 71 → one ≡ to_be_bytes w32 count ++ two → two ≡ text ++ rest → length text ≡ count
    → old ≡ text_bytes text ++ rest
text_taken old tag one count two text rest stood is behind parts counted =
    rw (stood, is, behind, parts, ← counted) (ap (λ (l : List ℕ). 71 ∷ l) (sym (append_assoc (to_be_bytes w32 (length text)) text rest)))

pub text_back : (text rest : List ℕ) → length text < 2 ^ 32 → text_at (text_bytes text ++ rest) ≡ Ok (text, rest)
text_back text rest fits =
    text_read (text_bytes text ++ rest) 71 (to_be_bytes w32 (length text) ++ (text ++ rest)) (length text) (text ++ rest) text rest
    (ap (λ (l : List ℕ). 71 ∷ l) (append_assoc (to_be_bytes w32 (length text)) text rest)) refl refl fits refl refl

-- a value

pub value_stops : (kind : Kind) (old : List ℕ) (fault : EventFault) → (tagged_at old ≡ Err fault) ⊎ (fault ≡ Memory) → (value_at kind old ≡ Err (growth_fault fault)) ⊎ (growth_fault fault ≡ NoMemory)
unfolding value_at
value_stops kind old fault (inl stops) = inl (rw stops refl)
value_stops kind old fault (inr memory) = inr (ap growth_fault memory)

pub value_tested : (kind : Kind) (old : List ℕ) (value : Value) (left : List ℕ) (same : Bool) → tagged_at old ≡ Ok (value, left) → is_kind (value_kind value) kind ≡ same → value_at kind old ≡ tested BadGrowth same value left
unfolding value_at
value_tested kind old value left same read is = rw (read, is) refl

value_back : (kind : Kind) (value : Value) (rest : List ℕ) → IsValueOf kind value → value_at kind (tagged_bytes value ++ rest) ≡ Ok (value, rest)
value_back kind value rest is = value_tested kind (tagged_bytes value ++ rest) value rest true (tagged_reads_back value rest (legal_value kind value is)) (kind_said kind value is)

-- values

-- what is read is put behind these values
abbrev pub behind : List Value → Reading (List Value) → Reading (List Value)
behind values reading = and_then reading (λ more rest. Ok (values ++ more, rest))

behind_first : (values : List Value) (value : Value) (reading : Reading (List Value)) → behind values (and_then reading (λ more rest. Ok (value ∷ more, rest))) ≡ behind (values ++ value ∷ []) reading
behind_first values value (Ok (more, rest)) = ap (λ (all : List Value). Ok (all, rest)) (sym (append_assoc values (value ∷ []) more))
behind_first values value (Err fault) = refl

pub behind_none : (reading : Reading (List Value)) → reading ≡ behind [] reading
behind_none (Ok (more, rest)) = refl
behind_none (Err fault) = refl

parted : (fields : List Field) (i : ℕ) (field : Field) → i < length fields → field ≡ get_or fields i field → drop i fields ≡ field ∷ drop (i + 1) fields
parted fields i field within is = rw add-one (drop-cons fields i field within ∙ ap (λ f. f ∷ drop (suc i) fields) (sym is))

pub values_more :
    (fields : List Field) (i : ℕ) (field : Field) (old new : List Value) (value : Value) (start from left : List ℕ) → new ≡ old ++ value ∷ [] → i < length fields → field ≡ get_or fields i field
    → values_at fields start ≡ behind old (values_at (drop i fields) from) → value_at field.kind from ≡ Ok (value, left) → values_at fields start ≡ behind new (values_at (drop (i + 1) fields) left)
values_more fields i field old new value start from left pushed within here so_far read =
    let step : values_at (drop i fields) from ≡ and_then (values_at (drop (i + 1) fields) left) (λ values rest. Ok (value ∷ values, rest)) = rw (parted fields i field within here, read) refl in
    so_far ∙ (ap (behind old) step ∙ (behind_first old value (values_at (drop (i + 1) fields) left) ∙ ap (λ (all : List Value). behind all (values_at (drop (i + 1) fields) left)) (sym pushed)))

pub values_stop :
    (fields : List Field) (i : ℕ) (field : Field) (values : List Value) (start from : List ℕ) (fault : GrowthFault) → i < length fields → field ≡ get_or fields i field
    → values_at fields start ≡ behind values (values_at (drop i fields) from) → (value_at field.kind from ≡ Err fault) ⊎ (fault ≡ NoMemory) → (values_at fields start ≡ Err fault) ⊎ (fault ≡ NoMemory)
values_stop fields i field values start from fault within here so_far (inl stops) =
    let step : values_at (drop i fields) from ≡ Err fault = rw (parted fields i field within here, stops) refl in
    inl (so_far ∙ ap (behind values) step)
values_stop fields i field values start from fault within here so_far (inr memory) = inr memory

pub values_end : (fields : List Field) (i : ℕ) (values : List Value) (start from : List ℕ) → length fields ≤ i → values_at fields start ≡ behind values (values_at (drop i fields) from) → values_at fields start ≡ Ok (values, from)
values_end fields i values start from end so_far =
    let step : values_at (drop i fields) from ≡ Ok ([], from) = rw (drop_all i fields end) refl in
    so_far ∙ (ap (behind values) step ∙ ap (λ (all : List Value). Ok (all, from)) (append-nil values))

pub values_back : (fields : List Field) (values : List Value) (rest : List ℕ) → AreValuesOf fields values → values_at fields (list_bytes tagged_bytes values ++ rest) ≡ Ok (values, rest)
values_back [] [] rest are = refl
values_back (field ∷ fields) (value ∷ values) rest are =
    rw (append_assoc (tagged_bytes value) (list_bytes tagged_bytes values) rest, value_back field.kind value (list_bytes tagged_bytes values ++ rest) are.0, values_back fields values rest are.1) refl
values_back fields values rest are = absurd are
