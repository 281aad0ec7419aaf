-- The frame list of a file as a function of its bytes.
use Rattle.std.specs.Prelude.{◌+◌, ◌==◌, nat_le, ℕ, zero, suc, Bool, false, List, [], ◌∷◌, length, drop, Option, Some, None, Result, Ok, Err, if◌then◌else◌}
use Rattle.rg_frame.specs.Frames.{payload_in}

-- an open gate stands at the head of these bytes
abbrev pub is_open : List ℕ → Bool
is_open [] = false
is_open (gate ∷ rest) = gate == 1

-- a payload, and then those of a list, which may be undefined at a place
abbrev pub with_payload : List ℕ → Result (List (List ℕ)) ℕ → Result (List (List ℕ)) ℕ
with_payload payload (Ok payloads) = Ok (payload ∷ payloads)
with_payload payload (Err place) = Err place

-- the payload at that place, and then those behind its frame; undefined at that place where there is none
abbrev pub with_next : ℕ → Option (List ℕ) → (ℕ → Result (List (List ℕ)) ℕ) → Result (List (List ℕ)) ℕ
with_next place None behind = Err place
with_next place (Some payload) behind = with_payload payload (behind (9 + length payload))

-- the payloads of these bytes, which stand at that place of a file and are at most so many
abbrev pub list_from : ℕ → ℕ → List ℕ → Result (List (List ℕ)) ℕ
list_from zero place bytes = Err place
list_from (suc most) place bytes = if is_open bytes then with_next place (payload_in bytes) (λ size. list_from most (place + size) (drop size bytes)) else Ok []

-- the frame list of a file, or the place where it is undefined; a file of at most one byte has no frame
abbrev pub frame_list : List ℕ → Result (List (List ℕ)) ℕ
frame_list bytes = if nat_le (length bytes) 1 then Ok [] else list_from (length bytes) 0 bytes

-- a list that is defined
abbrev pub defined : Result (List (List ℕ)) ℕ → Option (List (List ℕ))
defined (Ok payloads) = Some payloads
defined (Err place) = None

-- the frame list of a file, where it is defined
abbrev pub payloads_in : List ℕ → Option (List (List ℕ))
payloads_in bytes = defined (frame_list bytes)
