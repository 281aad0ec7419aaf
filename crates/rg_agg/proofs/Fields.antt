-- What is read where bytes begin with a field of a state, are too few for it, or begin with a bad one.
use Rattle.std.proofs.Common.{◌≡◌, ◌<◌, ◌≤◌, ◌^◌, ◌*◌, Option, ℕ, ℤ, pos, negsuc, List, [], ◌∷◌, ◌++◌, Bool, true, false, nat_le, length, ◌⊎◌, inl, inr, Some, None, Result, Ok, Err, refl, ap, ◌∙◌, arith, append_assoc}
use Rattle.std.proofs.lemmas.Bool.{and_parts, eqb-true, leb-true, ltb-true, le-leb, lt-ltb}
use Rattle.std.proofs.lemmas.Grind.{common_steps}
use Rattle.std.specs.Int.{w64, w128, to_be_bytes, cast_unsigned}
use Rattle.std.specs.Int.RustNames.{FitsSigned, unsigned_abs}
use Rattle.rg_agg.specs.Held.{counted, summed, averaged, squared, ended, summed_at, averaged_at, squared_at, held_bytes, counted_at, ended_at, Begins, is_sum, is_square_sum, is_number, sum_bytes, size_at, tag_at, size_behind_at, total_at, number_value_at, part_fault}
use Rattle.rg_agg.specs.declared.fault.StateFault.{StateFault}
use Rattle.rg_agg.specs.declared.fault.StateFault.TheVariants.{Short, Unfit, Memory}
use Rattle.rg_bytes.specs.Reading.{and_then, tested}
use Rattle.rg_bytes.proofs.Laws.{u8_read, u8_short, u64_read, u64_short, i128_read, i128_short}
use Rattle.rg_agg.specs.Numbers.{value_of, seen, is_kept}
use Rattle.rg_agg.specs.Stands.{IsNumber, is_int_or_id}
use Rattle.rg_agg.specs.declared.number.Number.{Number}
use Rattle.rg_agg.specs.declared.number.Number.TheVariants.{Int, Id}
use Rattle.rg_event.specs.Tagged.{IsLegal, tagged_bytes, tagged_at}
use Rattle.rg_event.specs.declared.codec.EventFault.{EventFault}
use Rattle.rg_event.specs.declared.codec.EventFault.TheVariants.{Memory as EventMemory}
use Rattle.rg_event.specs.declared.value.Value.{Value}
use Rattle.rg_event.specs.declared.value.Value.TheVariants.{Int as IntValue, Id as IdValue, Text as TextValue, Flag as FlagValue}
use Rattle.rg_event.proofs.Laws.{tagged_reads_back}

-- the number of values

pub size_short : (bytes : List ℕ) → length bytes < 8 → size_at bytes ≡ Err Short
unfolding size_at
size_short bytes few = rw (u64_short Short bytes few) refl

pub size_read : (bytes : List ℕ) (n : ℕ) (rest : List ℕ) → bytes ≡ to_be_bytes w64 n ++ rest → 0 < n → n ≤ 2 ^ 40 → size_at bytes ≡ Ok (n, rest)
unfolding size_at
size_read bytes n rest stood some few = rw (u64_read Short bytes n rest stood (omega (arith, few))) (grind (arith, common_steps))

pub size_bad : (bytes : List ℕ) (n : ℕ) (rest : List ℕ) → bytes ≡ to_be_bytes w64 n ++ rest → n < 2 ^ 64 → (n ≡ 0) ⊎ (2 ^ 40 < n) → size_at bytes ≡ Err Unfit
unfolding size_at
size_bad bytes n rest stood fits bad = rw (u64_read Short bytes n rest stood fits) (grind (arith, common_steps))

-- a tag

tag_short : (tag : ℕ) (old : List ℕ) → length old < 1 → tag_at tag old ≡ Err Short
unfolding tag_at
tag_short tag old few = rw (u8_short Short old few) refl

tag_other : (tag : ℕ) (old : List ℕ) (byte : ℕ) (bytes : List ℕ) → old ≡ byte ∷ bytes → ¬ (byte ≡ tag) → tag_at tag old ≡ Err Unfit
unfolding tag_at
tag_other tag old byte bytes stood other = rw (u8_read Short old byte bytes stood) (grind (arith, common_steps))

tag_read : (tag : ℕ) (old : List ℕ) (byte : ℕ) (bytes : List ℕ) → old ≡ byte ∷ bytes → byte ≡ tag → tag_at tag old ≡ Ok (byte, bytes)
unfolding tag_at
tag_read tag old byte bytes stood same = rw (u8_read Short old byte bytes stood) (grind (arith, common_steps))

-- and what is read behind it

pub behind_short : {A : Type 0} (tag : ℕ) (next : List ℕ → Begins A) (old : List ℕ) → length old < 1 → and_then (tag_at tag old) (λ byte behind. next behind) ≡ Err Short
behind_short tag next old few = rw (tag_short tag old few) refl

pub behind_other : {A : Type 0} (tag : ℕ) (next : List ℕ → Begins A) (old : List ℕ) (byte : ℕ) (bytes : List ℕ) → old ≡ byte ∷ bytes → ¬ (byte ≡ tag) → and_then (tag_at tag old) (λ byte behind. next behind) ≡ Err Unfit
behind_other tag next old byte bytes stood other = rw (tag_other tag old byte bytes stood other) refl

pub behind_read : {A : Type 0} (tag : ℕ) (next : List ℕ → Begins A) (old : List ℕ) (byte : ℕ) (bytes : List ℕ) → old ≡ byte ∷ bytes → byte ≡ tag → and_then (tag_at tag old) (λ byte behind. next behind) ≡ next bytes
behind_read tag next old byte bytes stood same = rw (tag_read tag old byte bytes stood same) refl

pub size_tag_short : (tag : ℕ) (old : List ℕ) → length old < 1 → size_behind_at tag old ≡ Err Short
unfolding size_behind_at
size_tag_short tag old few = behind_short tag size_at old few

pub size_tag_other : (tag : ℕ) (old : List ℕ) (byte : ℕ) (bytes : List ℕ) → old ≡ byte ∷ bytes → ¬ (byte ≡ tag) → size_behind_at tag old ≡ Err Unfit
unfolding size_behind_at
size_tag_other tag old byte bytes stood other = behind_other tag size_at old byte bytes stood other

pub size_tag_read : (tag : ℕ) (old : List ℕ) (byte : ℕ) (bytes : List ℕ) → old ≡ byte ∷ bytes → byte ≡ tag → size_behind_at tag old ≡ size_at bytes
unfolding size_behind_at
size_tag_read tag old byte bytes stood same = behind_read tag size_at old byte bytes stood same

pub size_behind_read : (tag : ℕ) (old : List ℕ) (n : ℕ) (rest : List ℕ) → old ≡ tag ∷ (to_be_bytes w64 n ++ rest) → 0 < n → n ≤ 2 ^ 40 → size_behind_at tag old ≡ Ok (n, rest)
size_behind_read tag old n rest stood some few = size_tag_read tag old tag (to_be_bytes w64 n ++ rest) stood refl ∙ size_read _ n rest refl some few

-- sums

pub total_size_stops : (test : ℕ → ℤ → Bool) (tag : ℕ) (old : List ℕ) (fault : StateFault) → (size_behind_at tag old ≡ Err fault) ⊎ (fault ≡ Memory) → (total_at test tag old ≡ Err fault) ⊎ (fault ≡ Memory)
unfolding total_at
total_size_stops test tag old fault (inl is) = inl (rw is refl)
total_size_stops test tag old fault (inr memory) = inr memory

pub total_sum_short : (test : ℕ → ℤ → Bool) (tag : ℕ) (old : List ℕ) (n : ℕ) (behind : List ℕ) → size_behind_at tag old ≡ Ok (n, behind) → length behind < 16 → total_at test tag old ≡ Err Short
unfolding total_at
total_sum_short test tag old n behind first few = rw (first, i128_short Short behind few) refl

total_tested : (test : ℕ → ℤ → Bool) (tag : ℕ) (old : List ℕ) (n : ℕ) (behind : List ℕ) (sum : ℤ) (rest : List ℕ) → size_behind_at tag old ≡ Ok (n, behind) → behind ≡ sum_bytes sum ++ rest → FitsSigned w128 sum
    → total_at test tag old ≡ tested Unfit (test n sum) (n, sum) rest
unfolding total_at
total_tested test tag old n behind sum rest first stood fits = rw (first, i128_read Short behind sum rest stood fits) refl

pub total_read : (test : ℕ → ℤ → Bool) (tag : ℕ) (old : List ℕ) (n : ℕ) (behind : List ℕ) (sum : ℤ) (rest : List ℕ) → size_behind_at tag old ≡ Ok (n, behind) → behind ≡ sum_bytes sum ++ rest → FitsSigned w128 sum → test n sum ≡ true
    → total_at test tag old ≡ Ok ((n, sum), rest)
total_read test tag old n behind sum rest first stood fits passes = total_tested test tag old n behind sum rest first stood fits ∙ ap (λ passed. tested Unfit passed (n, sum) rest) passes

pub total_bad : (test : ℕ → ℤ → Bool) (tag : ℕ) (old : List ℕ) (n : ℕ) (behind : List ℕ) (sum : ℤ) (rest : List ℕ) → size_behind_at tag old ≡ Ok (n, behind) → behind ≡ sum_bytes sum ++ rest → FitsSigned w128 sum → test n sum ≡ false
    → total_at test tag old ≡ Err Unfit
total_bad test tag old n behind sum rest first stood fits fails = total_tested test tag old n behind sum rest first stood fits ∙ ap (λ passed. tested Unfit passed (n, sum) rest) fails

pub total_reads_back : (test : ℕ → ℤ → Bool) (tag n : ℕ) (sum : ℤ) (rest : List ℕ) → 0 < n → n ≤ 2 ^ 40 → FitsSigned w128 sum → test n sum ≡ true
    → total_at test tag (tag ∷ (to_be_bytes w64 n ++ sum_bytes sum) ++ rest) ≡ Ok ((n, sum), rest)
total_reads_back test tag n sum rest some few fits passes =
    let stood : tag ∷ (to_be_bytes w64 n ++ sum_bytes sum) ++ rest ≡ tag ∷ (to_be_bytes w64 n ++ (sum_bytes sum ++ rest)) = ap (λ bytes. tag ∷ bytes) (append_assoc (to_be_bytes w64 n) (sum_bytes sum) rest) in
    total_read test tag _ n (sum_bytes sum ++ rest) sum rest (size_behind_read tag _ n (sum_bytes sum ++ rest) stood some few) refl fits passes

-- ints and ids with their kind's tag

pub is_value_of : (number : Number) → is_number (value_of number) ≡ true
is_value_of (Int n) = refl
is_value_of (Id n) = refl

pub legal_number : (value : Value) → IsNumber value → IsLegal value
legal_number (IntValue n) is = leb-true _ _ is
legal_number (IdValue n) is = ltb-true _ _ is
legal_number (TextValue t) is = cc
legal_number (FlagValue f) is = cc

pub number_legal : (value : Value) → IsLegal value → is_number value ≡ true → IsNumber value
number_legal (IntValue n) legal is = le-leb _ _ legal
number_legal (IdValue n) legal is = lt-ltb _ _ legal
number_legal (TextValue t) legal is = cc
number_legal (FlagValue f) legal is = cc

pub no_number : (value : Value) → IsLegal value → (IsNumber value → ⊥) → is_number value ≡ false
no_number (IntValue n) legal none = absurd (none (number_legal (IntValue n) legal refl))
no_number (IdValue n) legal none = absurd (none (number_legal (IdValue n) legal refl))
no_number (TextValue t) legal none = refl
no_number (FlagValue f) legal none = refl

some_number : (value : Value) → IsNumber value → is_number value ≡ true
some_number (IntValue n) is = refl
some_number (IdValue n) is = refl
some_number (TextValue t) is = is
some_number (FlagValue f) is = is

pub number_value_read : (old : List ℕ) (value : Value) (left : List ℕ) → tagged_at old ≡ Ok (value, left) → is_number value ≡ true → number_value_at old ≡ Ok (value, left)
unfolding number_value_at
number_value_read old value left is number = rw (is, number) refl

pub number_value_bad : (old : List ℕ) (value : Value) (left : List ℕ) → tagged_at old ≡ Ok (value, left) → is_number value ≡ false → number_value_at old ≡ Err Unfit
unfolding number_value_at
number_value_bad old value left is none = rw (is, none) refl

pub number_value_stops : (old : List ℕ) (event : EventFault) → (tagged_at old ≡ Err event) ⊎ (event ≡ EventMemory) → (number_value_at old ≡ Err (part_fault event)) ⊎ (part_fault event ≡ Memory)
unfolding number_value_at
number_value_stops old event (inl is) = inl (rw is refl)
number_value_stops old event (inr memory) = inr (ap part_fault memory)

pub number_value_reads_back : (value : Value) (rest : List ℕ) → IsNumber value → number_value_at (tagged_bytes value ++ rest) ≡ Ok (value, rest)
number_value_reads_back value rest is = number_value_read _ value rest (tagged_reads_back value rest (legal_number value is)) (some_number value is)

-- whole states

pub ended_read : (old : List ℕ) (n : ℕ) (behind : List ℕ) (value : Value) (left : List ℕ) → size_behind_at 9 old ≡ Ok (n, behind) → number_value_at behind ≡ Ok (value, left) → ended_at old ≡ Ok (ended n (Some value), left)
ended_read old n behind value left first second = rw (first, second) refl

pub ended_reads_back : (n : ℕ) (value : Value) (rest : List ℕ) → 0 < n → n ≤ 2 ^ 40 → IsNumber value → ended_at (held_bytes (ended n (Some value)) ++ rest) ≡ Ok (ended n (Some value), rest)
ended_reads_back n value rest some few is =
    let stood : held_bytes (ended n (Some value)) ++ rest ≡ 9 ∷ (to_be_bytes w64 n ++ (tagged_bytes value ++ rest)) = ap (λ (bytes : List ℕ). 9 ∷ bytes) (append_assoc (to_be_bytes w64 n) (tagged_bytes value) rest) in
    ended_read _ n (tagged_bytes value ++ rest) value rest (size_behind_read 9 _ n (tagged_bytes value ++ rest) stood some few) (number_value_reads_back value rest is)

pub counted_reads_back : (n : ℕ) (rest : List ℕ) → 0 < n → n ≤ 2 ^ 40 → counted_at (held_bytes (counted n) ++ rest) ≡ Ok (counted n, rest)
counted_reads_back n rest some few = rw (size_behind_read 1 (held_bytes (counted n) ++ rest) n rest refl some few) refl

pub end_reads_back : (n : ℕ) (last : Option Number) (old rest : List ℕ) → 0 < n → n ≤ 2 ^ 40 → is_kept n last ≡ true → old ≡ held_bytes (ended n (seen last)) ++ rest → ended_at old ≡ Ok (ended n (seen last), rest)
end_reads_back n (Some number) old rest some few kept stood = rw stood (ended_reads_back n (value_of number) rest some few (and_parts (nat_le 1 n) (is_int_or_id (value_of number)) kept).1)
end_reads_back n None old rest some few kept stood = absurd (omega (arith, eqb-true n 0 kept))

pub two_more : (old first second middle : List ℕ) → middle ≡ old ++ first → middle ++ second ≡ old ++ (first ++ second)
two_more old first second middle one = rw (one, append_assoc old first second) refl

sum_fits : (n : ℕ) (sum : ℤ) → n ≤ 2 ^ 40 → unsigned_abs sum ≤ n * 1000000000000000000000000 → FitsSigned w128 sum
sum_fits n (pos k) few small = record { sfits = omega arith }
sum_fits n (negsuc k) few small = record { sfits = omega arith }

pub is_sum_fits : (n : ℕ) (sum : ℤ) → n ≤ 2 ^ 40 → is_sum n sum ≡ true → FitsSigned w128 sum
is_sum_fits n sum few is = let small = leb-true _ _ is in sum_fits n sum few (omega (arith, small))

pub is_square_sum_fits : (n : ℕ) (sum : ℤ) → n ≤ 2 ^ 40 → is_square_sum n sum ≡ true → FitsSigned w128 sum
is_square_sum_fits n sum few is = sum_fits n sum few (leb-true _ _ (and_parts _ _ is).1)

pub summed_reads_back : (n : ℕ) (sum : ℤ) (rest : List ℕ) → 0 < n → n ≤ 2 ^ 40 → is_sum n sum ≡ true → summed_at (held_bytes (summed n sum) ++ rest) ≡ Ok (summed n sum, rest)
summed_reads_back n sum rest some few is = rw (total_reads_back is_sum 2 n sum rest some few (is_sum_fits n sum few is) is) refl

pub averaged_reads_back : (n : ℕ) (sum : ℤ) (rest : List ℕ) → 0 < n → n ≤ 2 ^ 40 → is_sum n sum ≡ true → averaged_at (held_bytes (averaged n sum) ++ rest) ≡ Ok (averaged n sum, rest)
averaged_reads_back n sum rest some few is = rw (total_reads_back is_sum 3 n sum rest some few (is_sum_fits n sum few is) is) refl

pub squared_reads_back : (n : ℕ) (sum : ℤ) (rest : List ℕ) → 0 < n → n ≤ 2 ^ 40 → is_square_sum n sum ≡ true → squared_at (held_bytes (squared n sum) ++ rest) ≡ Ok (squared n sum, rest)
squared_reads_back n sum rest some few is = rw (total_reads_back is_square_sum 4 n sum rest some few (is_square_sum_fits n sum few is) is) refl
