-- What is read where bytes begin with a field, or are too few for it; and what a call answers then.
use Rattle.std.proofs.Common.{◌≡◌, ◌⊎◌, inl, inr, ℕ, ℤ, pos, negsuc, ◌<◌, ◌^◌, List, [], ◌∷◌, ◌++◌, length, length-append, Result, Ok, Err, refl, ap, arith}
use Rattle.std.proofs.lemmas.Grind.{common_steps}
use Rattle.std.proofs.lemmas.Int.{to_z-of_z}
use Rattle.std.proofs.lemmas.List.{take_at, drop_at}
use Rattle.std.proofs.lemmas.Nat.{from_be_bytes-to_be_bytes_4, from_be_bytes-to_be_bytes_8}
use Rattle.std.proofs.lemmas.Result.{err_from_is_err_and}
use Rattle.std.specs.Int.{w32, w64, w128, to_be_bytes, cast_unsigned}
use Rattle.std.specs.Int.RustNames.{FitsSigned}
use Rattle.std.specs.Result.{IsErrAnd}
use Rattle.rg_bytes.specs.Reading.{Reading, bytes_at, u8_at, u32_at, u64_at, i128_at, Agrees, Returns}
use Rattle.rg_bytes.proofs.Bytes.{wide_128}

-- fields

pub bytes_read : {F : Type 0} (short : F) (count : ℕ) (old front rest : List ℕ) → old ≡ front ++ rest → length front ≡ count → bytes_at short count old ≡ Ok (front, rest)
unfolding bytes_at
bytes_read short count old front rest stood counted = rw stood (grind (arith, common_steps, length-append front rest, take_at front rest count counted, drop_at front rest count counted))

pub bytes_short : {F : Type 0} (short : F) (count : ℕ) (old : List ℕ) → length old < count → bytes_at short count old ≡ Err short
unfolding bytes_at
bytes_short short count old few = grind (arith, common_steps)

pub u8_read : {F : Type 0} (short : F) (old : List ℕ) (byte : ℕ) (rest : List ℕ) → old ≡ byte ∷ rest → u8_at short old ≡ Ok (byte, rest)
unfolding u8_at
u8_read short old byte rest stood = rw stood refl

pub u8_short : {F : Type 0} (short : F) (old : List ℕ) → length old < 1 → u8_at short old ≡ Err short
unfolding u8_at
u8_short short [] few = refl
u8_short short (byte ∷ old) few = absurd (omega arith)

pub u32_read : {F : Type 0} (short : F) (old : List ℕ) (number : ℕ) (rest : List ℕ) → old ≡ to_be_bytes w32 number ++ rest → number < 2 ^ 32 → u32_at short old ≡ Ok (number, rest)
unfolding u32_at
u32_read short old number rest stood fits = rw (bytes_read short 4 old (to_be_bytes w32 number) rest stood refl, from_be_bytes-to_be_bytes_4 number fits) refl

pub u32_short : {F : Type 0} (short : F) (old : List ℕ) → length old < 4 → u32_at short old ≡ Err short
unfolding u32_at
u32_short short old few = rw (bytes_short short 4 old few) refl

pub u64_read : {F : Type 0} (short : F) (old : List ℕ) (number : ℕ) (rest : List ℕ) → old ≡ to_be_bytes w64 number ++ rest → number < 2 ^ 64 → u64_at short old ≡ Ok (number, rest)
unfolding u64_at
u64_read short old number rest stood fits = rw (bytes_read short 8 old (to_be_bytes w64 number) rest stood refl, from_be_bytes-to_be_bytes_8 number fits) refl

pub u64_short : {F : Type 0} (short : F) (old : List ℕ) → length old < 8 → u64_at short old ≡ Err short
unfolding u64_at
u64_short short old few = rw (bytes_short short 8 old few) refl

wide_fits : (number : ℤ) → FitsSigned w128 number → cast_unsigned w128 number < 2 ^ 128
wide_fits (pos n) fits = omega (arith, fits.sfits)
wide_fits (negsuc n) fits = omega (arith, fits.sfits)

pub i128_read : {F : Type 0} (short : F) (old : List ℕ) (number : ℤ) (rest : List ℕ) → old ≡ to_be_bytes w128 (cast_unsigned w128 number) ++ rest → FitsSigned w128 number → i128_at short old ≡ Ok (number, rest)
unfolding i128_at
i128_read short old number rest stood fits =
    rw (bytes_read short 16 old (to_be_bytes w128 (cast_unsigned w128 number)) rest stood refl, wide_128.back (cast_unsigned w128 number) (wide_fits number fits), to_z-of_z w128 number fits) refl

pub i128_short : {F : Type 0} (short : F) (old : List ℕ) → length old < 16 → i128_at short old ≡ Err short
unfolding i128_at
i128_short short old few = rw (bytes_short short 16 old few) refl

-- answers

one_answer : {F A : Type 0} (reading : Reading F A) (first second : A × List ℕ) → reading ≡ Ok first → reading ≡ Ok second → first ≡ second
one_answer reading first second one two = cc

no_fault : {F A : Type 0} (reading : Reading F A) (fault : F) (read : A × List ℕ) → reading ≡ Err fault → reading ≡ Ok read → ⊥
no_fault reading fault read one two = cc

-- a reading has one value, and leaves one rest
pub both_answers : {F A : Type 0} (reading : Reading F A) (a b : A) (left rest : List ℕ) → reading ≡ Ok (a, left) → reading ≡ Ok (b, rest) → (a ≡ b) × (left ≡ rest)
both_answers {F} {A} reading a b left rest one two =
    let same = one_answer reading (a, left) (b, rest) one two in
    (ap (λ (read : A × List ℕ). read.0) same, ap (λ (read : A × List ℕ). read.1) same)

-- where a reading gives something, a refusal is for memory alone
pub memory_only : {F A : Type 0} (memory : F) (reading : Reading F A) (fault : F) (read : A × List ℕ) → (reading ≡ Err fault) ⊎ (fault ≡ memory) → reading ≡ Ok read → fault ≡ memory
memory_only memory reading fault read (inl refused) is = absurd (no_fault reading fault read refused is)
memory_only memory reading fault read (inr ran_out) is = ran_out

-- a call that hands a fault on agrees with a reading that stops with it
pub agrees_stopped : {F A B : Type 0} (memory : F) (view : A → B) (reading : Reading F B) (result : Result A F) (left : List ℕ) (fault : F) → IsErrAnd result (λ e. e ≡ fault) → (reading ≡ Err fault) ⊎ (fault ≡ memory)
    → Agrees memory view reading result left
agrees_stopped memory view reading result left fault stopped is = let stops = err_from_is_err_and result stopped in rw (stops.1, stops.2) is

-- what agrees with a reading that gives something is that
pub returns_it : {F A B : Type 0} (memory : F) (view : A → B) (reading : Reading F B) (result : Result A F) (left : List ℕ) (value : B) (rest : List ℕ) → Agrees memory view reading result left → reading ≡ Ok (value, rest)
    → Returns memory view value rest result left
returns_it memory view reading (Ok answer) left value rest agrees is = both_answers reading (view answer) value left rest agrees is
returns_it memory view reading (Err fault) left value rest agrees is = memory_only memory reading fault (value, rest) agrees is
