-- What is written is read back, whatever follows.
use Rattle.std.proofs.Common.{◌≡◌, ◌≤◌, ◌+◌, ◌++◌, ℕ, ℤ, pos, negsuc, true, false, List, [], ◌∷◌, length, ◌⊎◌, inl, inr, Result, Ok, Err, refl, ap, append_assoc, arith}
use Rattle.std.specs.Int.{w64, to_be_bytes}
use Rattle.std.specs.Int.RustNames.{FitsSigned, unsigned_abs}
use Rattle.rg_bytes.proofs.Laws.{both_answers, memory_only}
use Rattle.rg_event.specs.Codec.{Agrees, Reading, event_bytes, value_bytes, values_bytes, IsValueOf, AreValuesOf, IsEventOf, value_at, values_at, event_at}
use Rattle.rg_event.specs.declared.codec.EventFault.{EventFault}
use Rattle.rg_event.specs.declared.codec.EventFault.TheVariants.{Memory}
use Rattle.rg_event.specs.declared.event.Event.{Event}
use Rattle.rg_event.specs.declared.schema.Field.{Field}
use Rattle.rg_event.specs.declared.value.Kind.{Kind}
use Rattle.rg_event.specs.declared.value.Kind.TheVariants.{Int, Id, Text, Flag}
use Rattle.rg_event.specs.declared.value.Value.{Value}
use Rattle.rg_event.specs.declared.value.Value.TheVariants.{Int as IntValue, Id as IdValue, Text as TextValue, Flag as FlagValue}
use Rattle.rg_event.proofs.Words.{text_of_word}
use Rattle.rg_event.proofs.Decoding.{number_up_to_read, int_read, id_read, text_read, flag_false, flag_true, event_read}

fits : (number : ℤ) → unsigned_abs number ≤ 1000000000000 → FitsSigned w64 number
fits (pos n) small = record { sfits = omega arith }
fits (negsuc n) small = record { sfits = omega arith }

pub value_reads_back : (kind : Kind) (column : ℕ) (value : Value) (rest : List ℕ) → IsValueOf kind value → value_at kind column (value_bytes value ++ rest) ≡ Ok (value, rest)
value_reads_back Int column (IntValue number) rest is = int_read column _ number rest (fits number is) refl is
value_reads_back Id column (IdValue number) rest is = id_read _ number rest is refl
value_reads_back Text column (TextValue text) rest is = text_read column _ (length text) (text ++ rest) text rest refl refl refl (text_of_word text is)
value_reads_back Flag column (FlagValue false) rest is = flag_false column _ 0 rest refl refl
value_reads_back Flag column (FlagValue true) rest is = flag_true column _ 1 rest refl refl
value_reads_back kind column value rest is = absurd is

values_read_back : (fields : List Field) (column : ℕ) (values : List Value) (rest : List ℕ) → AreValuesOf fields values → values_at fields column (values_bytes values ++ rest) ≡ Ok (values, rest)
values_read_back [] column [] rest are = refl
values_read_back (field ∷ fields) column (value ∷ values) rest are =
    rw (append_assoc (value_bytes value) (values_bytes values) rest, value_reads_back field.kind column value (values_bytes values ++ rest) are.0, values_read_back fields (column + 1) values rest are.1) refl
values_read_back fields column values rest are = absurd are

pub event_reads_back : (fields : List Field) (event : Event) (old rest : List ℕ) → IsEventOf fields event → old ≡ event_bytes event ++ rest → event_at fields old ≡ Ok (event, rest)
event_reads_back fields event old rest is stood =
    let left : List ℕ = values_bytes event.values ++ rest in
    event_read fields old event.offset (to_be_bytes w64 event.time ++ left) event.time left event.values rest
    (number_up_to_read _ old event.offset _ (omega (arith, is.offset)) stood (omega (arith, is.offset)))
    (number_up_to_read _ _ event.time left (omega (arith, is.time)) refl is.time)
    (values_read_back fields 1 event.values rest is.values)

-- what agrees with a reading that gives something is that
pub agrees_with : {A : Type 0} (reading : Reading A) (result : Result A EventFault) (left : List ℕ) (given : A) (rest : List ℕ) → Agrees reading result left → reading ≡ Ok (given, rest)
    → ((result ≡ Ok given) × (left ≡ rest)) ⊎ (result ≡ Err Memory)
agrees_with {A} reading (Ok value) left given rest agrees is =
    let same = both_answers reading value given left rest agrees is in
    inl (ap (λ (answer : A). Ok answer) same.0, same.1)
agrees_with reading (Err fault) left given rest agrees is = inr (ap (λ (e : EventFault). Err e) (memory_only Memory reading fault (given, rest) agrees is))
