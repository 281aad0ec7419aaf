-- What is read where bytes begin with a field, are too few for it, or begin with a bad one.
use Rattle.std.proofs.Common.{◌≡◌, ◌<◌, ◌≤◌, ◌^◌, ◌==◌, ℕ, ℤ, pos, negsuc, List, [], ◌∷◌, ◌++◌, true, false, nat_le, length, ◌⊎◌, inl, inr, Result, Ok, Err, refl, ap, ◌∙◌, arith}
use Rattle.std.proofs.lemmas.Grind.{common_steps}
use Rattle.std.proofs.lemmas.Int.{to_z-of_z}
use Rattle.std.specs.Int.{w64, to_be_bytes, cast_unsigned}
use Rattle.std.specs.Int.RustNames.{FitsSigned, unsigned_abs}
use Rattle.std.specs.Result.{IsErrAnd}
use Rattle.std.specs.Str.{is_utf8}
use Rattle.rg_bytes.specs.Reading.{tested}
use Rattle.rg_bytes.proofs.Laws.{bytes_read as bytes_read_or, bytes_short as bytes_short_or, u64_read, u64_short, agrees_stopped}
use Rattle.rg_event.specs.Codec.{Agrees, Reading, bytes_at, number_at, number_up_to_at, int_at, id_at, text_at, flag_at, values_at, event_at}
use Rattle.rg_event.specs.declared.codec.EventFault.{EventFault}
use Rattle.rg_event.specs.declared.codec.EventFault.TheVariants.{Short, BadValue, Memory}
use Rattle.rg_event.specs.declared.schema.Field.{Field}
use Rattle.rg_event.specs.declared.value.Value.{Value}
use Rattle.rg_event.specs.declared.value.Value.TheVariants.{Int as IntValue, Id as IdValue, Text as TextValue, Flag as FlagValue}

-- fields with the fault of an event that ends too early

pub bytes_read : (count : ℕ) (front rest : List ℕ) → length front ≡ count → bytes_at count (front ++ rest) ≡ Ok (front, rest)
bytes_read count front rest counted = bytes_read_or Short count (front ++ rest) front rest refl counted

pub bytes_short : (count : ℕ) (bytes : List ℕ) → length bytes < count → bytes_at count bytes ≡ Err Short
bytes_short count bytes few = bytes_short_or Short count bytes few

pub number_read : (number : ℕ) (rest : List ℕ) → number < 2 ^ 64 → number_at (to_be_bytes w64 number ++ rest) ≡ Ok (number, rest)
number_read number rest fits = u64_read Short (to_be_bytes w64 number ++ rest) number rest refl fits

pub number_short : (bytes : List ℕ) → length bytes < 8 → number_at bytes ≡ Err Short
number_short bytes few = u64_short Short bytes few

pub unsigned_fits : (number : ℤ) → FitsSigned w64 number → cast_unsigned w64 number < 2 ^ 64
unsigned_fits (pos n) fits = omega (arith, fits.sfits)
unsigned_fits (negsuc n) fits = omega (arith, fits.sfits)

-- numbers of field 0

pub number_up_to_short : (most : ℕ) (old : List ℕ) → length old < 8 → number_up_to_at most old ≡ Err Short
unfolding number_up_to_at
number_up_to_short most old few = rw (number_short old few) refl

pub number_up_to_read : (most : ℕ) (old : List ℕ) (number : ℕ) (rest : List ℕ) → number < 2 ^ 64 → old ≡ to_be_bytes w64 number ++ rest → number ≤ most → number_up_to_at most old ≡ Ok (number, rest)
unfolding number_up_to_at
number_up_to_read most old number rest fits stood few = rw (stood, number_read number rest fits) (grind (arith, common_steps))

pub number_up_to_bad : (most : ℕ) (old : List ℕ) (number : ℕ) (rest : List ℕ) → number < 2 ^ 64 → old ≡ to_be_bytes w64 number ++ rest → most < number → number_up_to_at most old ≡ Err (BadValue 0)
unfolding number_up_to_at
number_up_to_bad most old number rest fits stood great = rw (stood, number_read number rest fits) (grind (arith, common_steps))

-- values of each kind

pub id_short : (old : List ℕ) → length old < 8 → id_at old ≡ Err Short
unfolding id_at
id_short old few = rw (number_short old few) refl

pub id_read : (old : List ℕ) (number : ℕ) (rest : List ℕ) → number < 2 ^ 64 → old ≡ to_be_bytes w64 number ++ rest → id_at old ≡ Ok (IdValue number, rest)
unfolding id_at
id_read old number rest fits stood = rw (stood, number_read number rest fits) refl

pub int_short : (column : ℕ) (old : List ℕ) → length old < 8 → int_at column old ≡ Err Short
unfolding int_at
int_short column old few = rw (number_short old few) refl

pub int_read : (column : ℕ) (old : List ℕ) (number : ℤ) (rest : List ℕ) → FitsSigned w64 number → old ≡ to_be_bytes w64 (cast_unsigned w64 number) ++ rest → unsigned_abs number ≤ 1000000000000 → int_at column old ≡ Ok (IntValue number, rest)
unfolding int_at
int_read column old number rest fits stood few =
    rw (stood, number_read (cast_unsigned w64 number) rest (unsigned_fits number fits), to_z-of_z w64 number fits) (grind (arith, common_steps))

pub int_bad : (column : ℕ) (old : List ℕ) (number : ℤ) (rest : List ℕ) → FitsSigned w64 number → old ≡ to_be_bytes w64 (cast_unsigned w64 number) ++ rest → 1000000000000 < unsigned_abs number → int_at column old ≡ Err (BadValue column)
unfolding int_at
int_bad column old number rest fits stood great =
    rw (stood, number_read (cast_unsigned w64 number) rest (unsigned_fits number fits), to_z-of_z w64 number fits) (grind (arith, common_steps))

pub text_empty : (column : ℕ) (old : List ℕ) → length old < 1 → text_at column old ≡ Err Short
unfolding text_at
text_empty column [] few = refl
text_empty column (byte ∷ old) few = absurd (omega arith)

pub text_short : (column : ℕ) (old : List ℕ) (count : ℕ) (rest : List ℕ) → old ≡ count ∷ rest → length rest < count → text_at column old ≡ Err Short
unfolding text_at
text_short column old count rest stood few = rw (stood, bytes_short count rest few) refl

text_tested : (column : ℕ) (old : List ℕ) (count : ℕ) (behind text rest : List ℕ) → old ≡ count ∷ behind → behind ≡ text ++ rest → length text ≡ count → text_at column old ≡ tested (BadValue column) (is_utf8 text) (TextValue text) rest
unfolding text_at
text_tested column old count behind text rest stood parts counted = rw (stood, parts, bytes_read count text rest counted) refl

pub text_read : (column : ℕ) (old : List ℕ) (count : ℕ) (behind text rest : List ℕ) → old ≡ count ∷ behind → behind ≡ text ++ rest → length text ≡ count → is_utf8 text ≡ true → text_at column old ≡ Ok (TextValue text, rest)
text_read column old count behind text rest stood parts counted valid =
    text_tested column old count behind text rest stood parts counted ∙ ap (λ test. tested (BadValue column) test (TextValue text) rest) valid

pub text_bad : (column : ℕ) (old : List ℕ) (count : ℕ) (behind text rest : List ℕ) → old ≡ count ∷ behind → behind ≡ text ++ rest → length text ≡ count → is_utf8 text ≡ false → text_at column old ≡ Err (BadValue column)
text_bad column old count behind text rest stood parts counted invalid =
    text_tested column old count behind text rest stood parts counted ∙ ap (λ test. tested (BadValue column) test (TextValue text) rest) invalid

pub flag_short : (column : ℕ) (old : List ℕ) → length old < 1 → flag_at column old ≡ Err Short
unfolding flag_at
flag_short column [] few = refl
flag_short column (byte ∷ old) few = absurd (omega arith)

flag_read : (column : ℕ) (old : List ℕ) (byte : ℕ) (rest : List ℕ) → old ≡ byte ∷ rest → flag_at column old ≡ tested (BadValue column) (nat_le byte 1) (FlagValue (byte == 1)) rest
unfolding flag_at
flag_read column old byte rest stood = rw stood refl

pub flag_false : (column : ℕ) (old : List ℕ) (byte : ℕ) (rest : List ℕ) → old ≡ byte ∷ rest → byte ≡ 0 → flag_at column old ≡ Ok (FlagValue false, rest)
flag_false column old byte rest stood zero = flag_read column old byte rest stood ∙ rw zero refl

pub flag_true : (column : ℕ) (old : List ℕ) (byte : ℕ) (rest : List ℕ) → old ≡ byte ∷ rest → byte ≡ 1 → flag_at column old ≡ Ok (FlagValue true, rest)
flag_true column old byte rest stood one = flag_read column old byte rest stood ∙ rw one refl

pub flag_bad : (column : ℕ) (old : List ℕ) (byte : ℕ) (rest : List ℕ) → old ≡ byte ∷ rest → ¬ (byte ≡ 0) → ¬ (byte ≡ 1) → flag_at column old ≡ Err (BadValue column)
flag_bad column old byte rest stood not_zero not_one = flag_read column old byte rest stood ∙ grind (arith, common_steps)

-- what is answered where a reading stops

pub agrees_short : {A : Type 0} (reading : Reading A) (result : Result A EventFault) (left : List ℕ) → IsErrAnd result (λ fault. fault ≡ Short) → reading ≡ Err Short → Agrees reading result left
agrees_short reading result left short is = agrees_stopped Memory (λ value. value) reading result left Short short (inl is)

-- a reading that stops stops what it begins

pub event_offset_stops : (fields : List Field) (old : List ℕ) (fault : EventFault) → (number_up_to_at 4611686018427387903 old ≡ Err fault) ⊎ (fault ≡ Memory) → (event_at fields old ≡ Err fault) ⊎ (fault ≡ Memory)
unfolding event_at
event_offset_stops fields old fault (inl is) = inl (rw is refl)
event_offset_stops fields old fault (inr memory) = inr memory

pub event_time_stops : (fields : List Field) (old : List ℕ) (offset : ℕ) (behind : List ℕ) (fault : EventFault) → number_up_to_at 4611686018427387903 old ≡ Ok (offset, behind)
    → (number_up_to_at 1000000000000000 behind ≡ Err fault) ⊎ (fault ≡ Memory) → (event_at fields old ≡ Err fault) ⊎ (fault ≡ Memory)
unfolding event_at
event_time_stops fields old offset behind fault first (inl is) = inl (rw (first, is) refl)
event_time_stops fields old offset behind fault first (inr memory) = inr memory

pub event_values_stop : (fields : List Field) (old : List ℕ) (offset : ℕ) (behind : List ℕ) (time : ℕ) (left : List ℕ) (fault : EventFault) → number_up_to_at 4611686018427387903 old ≡ Ok (offset, behind)
    → number_up_to_at 1000000000000000 behind ≡ Ok (time, left) → (values_at fields 1 left ≡ Err fault) ⊎ (fault ≡ Memory) → (event_at fields old ≡ Err fault) ⊎ (fault ≡ Memory)
unfolding event_at
event_values_stop fields old offset behind time left fault first second (inl is) = inl (rw (first, second, is) refl)
event_values_stop fields old offset behind time left fault first second (inr memory) = inr memory

pub event_read : (fields : List Field) (old : List ℕ) (offset : ℕ) (behind : List ℕ) (time : ℕ) (left : List ℕ) (values : List Value) (rest : List ℕ) → number_up_to_at 4611686018427387903 old ≡ Ok (offset, behind)
    → number_up_to_at 1000000000000000 behind ≡ Ok (time, left) → values_at fields 1 left ≡ Ok (values, rest) → event_at fields old ≡ Ok (record { offset = offset; time = time; values = values }, rest)
unfolding event_at
event_read fields old offset behind time left values rest first second third = rw (first, second, third) refl
