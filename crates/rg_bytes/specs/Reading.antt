-- How bytes are read, front to back, and what a call that reads has to answer and to leave.
use Rattle.std.specs.Prelude.{◌≡◌, ◌⊎◌, ℕ, zero, suc, nat_le, ℤ, Bool, List, [], ◌∷◌, ◌++◌, length, take, drop, Option, Some, None, Result, Ok, Err, if◌then◌else◌}
use Rattle.std.specs.Int.{Width, w32, w64, w128, byte_len, from_be_bytes, cast_signed}

-- what some bytes begin with, and the bytes behind it; or why they begin with none
abbrev pub Reading : Type 0 → Type 0 → Type 0
Reading F A = Result (A × List ℕ) F

-- one reading, and then another of the bytes that it left
abbrev pub and_then : {F A B : Type 0} → Reading F A → (A → List ℕ → Reading F B) → Reading F B
and_then (Ok (value, left)) next = next value left
and_then (Err fault) next = Err fault

-- a value that passes its test, or this fault
abbrev pub tested : {F A : Type 0} → F → Bool → A → List ℕ → Reading F A
tested fault test value left = if test then Ok (value, left) else Err fault

-- the first so many bytes; this fault where they are fewer
unfoldable pub bytes_at : {F : Type 0} → F → ℕ → List ℕ → Reading F (List ℕ)
bytes_at short count bytes = if nat_le count (length bytes) then Ok (take count bytes, drop count bytes) else Err short

-- 1 byte
unfoldable pub u8_at : {F : Type 0} → F → List ℕ → Reading F ℕ
u8_at short [] = Err short
u8_at short (byte ∷ bytes) = Ok (byte, bytes)

-- a number of this width, the highest byte first
abbrev pub number_at : {F : Type 0} → Width → F → List ℕ → Reading F ℕ
number_at w short bytes = and_then (bytes_at short (byte_len w) bytes) (λ front left. Ok (from_be_bytes w front, left))

-- a number of 4 bytes
unfoldable pub u32_at : {F : Type 0} → F → List ℕ → Reading F ℕ
u32_at short bytes = number_at w32 short bytes

-- a number of 8 bytes
unfoldable pub u64_at : {F : Type 0} → F → List ℕ → Reading F ℕ
u64_at short bytes = number_at w64 short bytes

-- a number of 16 bytes in two's complement
unfoldable pub i128_at : {F : Type 0} → F → List ℕ → Reading F ℤ
i128_at short bytes = and_then (number_at w128 short bytes) (λ number left. Ok (cast_signed w128 number, left))

-- so many items more behind those so far, each read by what stands there
abbrev pub more_at : {F A : Type 0} → (List A → List ℕ → Reading F A) → List A → ℕ → List ℕ → Reading F (List A)
more_at item_at so_far zero bytes = Ok (so_far, bytes)
more_at item_at so_far (suc n) bytes = and_then (item_at so_far bytes) (λ item left. more_at item_at (so_far ++ item ∷ []) n left)

-- the bytes of each item, one after another
abbrev pub list_bytes : {A : Type 0} → (A → List ℕ) → List A → List ℕ
list_bytes item_bytes [] = []
list_bytes item_bytes (item ∷ items) = item_bytes item ++ list_bytes item_bytes items

-- what was read, where nothing is left
abbrev pub whole : {F A : Type 0} → Reading F A → Option A
whole (Ok (value, [])) = Some value
whole (Ok (value, byte ∷ bytes)) = None
whole (Err fault) = None

-- what is answered, as it is seen, and what is left are those of the reading; or memory ran out, which is this fault
abbrev pub Agrees : {F A B : Type 0} → F → (A → B) → Reading F B → Result A F → List ℕ → Type 0
Agrees memory view reading (Ok value) left = reading ≡ Ok (view value, left)
Agrees memory view reading (Err fault) left = (reading ≡ Err fault) ⊎ (fault ≡ memory)

-- this is answered, as it is seen, and this is left; or memory ran out, which is this fault
abbrev pub Returns : {F A B : Type 0} → F → (A → B) → B → List ℕ → Result A F → List ℕ → Type 0
Returns memory view value rest (Ok answer) left = (view answer ≡ value) × (left ≡ rest)
Returns memory view value rest (Err fault) left = fault ≡ memory
