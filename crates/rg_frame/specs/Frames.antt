-- The frames of a file. A frame is a gate, the length of its payload in 8 bytes, and the payload; the next gate follows.
use Rattle.std.specs.Prelude.{◌≡◌, ◌≢◌, ◌⊎◌, ◌+◌, ◌<◌, ◌^◌, ℕ, List, [], ◌∷◌, ◌++◌, length, take, drop, nat_le, ◌==◌, ◌&&◌, All, Option, Some, None, if◌then◌else◌}
use Rattle.std.specs.Int.{to_be_bytes, from_be_bytes, w64}

-- a frame behind its gate: the length of the payload, and the payload
abbrev pub body : List ℕ → List ℕ
body payload = to_be_bytes w64 (length payload) ++ payload

-- the bytes of open frames with these payloads
abbrev pub frames : List (List ℕ) → List ℕ
frames [] = []
frames (payload ∷ payloads) = (1 ∷ body payload) ++ frames payloads

-- the length of the payload fits its 8 bytes
abbrev pub FitsFrame : List ℕ → Type 0
FitsFrame payload = length payload < 2 ^ 64

-- what follows these frames ends the list: a gate that isn't open, or the file has at most one byte
abbrev pub Ends : List (List ℕ) → List ℕ → Type 0
Ends payloads [] = payloads ≡ []
Ends payloads (gate ∷ rest) = (gate ≢ 1) ⊎ ((payloads ≡ []) × (rest ≡ []))

-- these are the frames of a file, and they end at that place
pub record IsLog (payloads : List (List ℕ)) (end : ℕ) (bytes : List ℕ) : Type 0 where
  pub rest : List ℕ
  pub ends : length (frames payloads) ≡ end
  pub is : bytes ≡ frames payloads ++ rest
  pub stops : Ends payloads rest

-- these are the frames of a file
abbrev pub HasFrames : List (List ℕ) → List ℕ → Type 0
HasFrames payloads bytes = (end : ℕ) × IsLog payloads end bytes

-- these payloads are the frame list of a file; there is at most one, since each of them fits its frame
pub record HasPayloads (payloads : List (List ℕ)) (bytes : List ℕ) : Type 0 where
  pub frames : HasFrames payloads bytes
  pub fit : All FitsFrame payloads

-- the frame list of a file ends at that place
abbrev pub EndsAt : ℕ → List ℕ → Type 0
EndsAt end bytes = (payloads : List (List ℕ)) × IsLog payloads end bytes

-- a file begins with these frames, which end at that place, and a byte follows them
pub record Begins (payloads : List (List ℕ)) (end : ℕ) (bytes : List ℕ) : Type 0 where
  pub rest : List ℕ
  pub ends : length (frames payloads) ≡ end
  pub is : bytes ≡ frames payloads ++ rest
  pub goes : (payloads ≡ []) ⊎ (0 < length rest)

-- the length that stands at the head of these bytes
abbrev pub size_in : List ℕ → ℕ
size_in rest = from_be_bytes w64 (take 8 rest)

-- what follows an open gate is not a whole frame and one more byte
abbrev pub IsCut : List ℕ → Type 0
IsCut rest = length rest < 9 + size_in rest

-- the frame list is undefined at that place: the frames before it are whole, its gate is open, and no whole frame and one more byte follow
pub record IsDamaged (place : ℕ) (bytes : List ℕ) : Type 0 where
  pub payloads : List (List ℕ)
  pub rest : List ℕ
  pub fit : All FitsFrame payloads
  pub ends : length (frames payloads) ≡ place
  pub is : bytes ≡ frames payloads ++ 1 ∷ rest
  pub longer : 1 < length bytes
  pub cut : IsCut rest

-- the payload of the open frame at the head of these bytes, where it is whole and a byte follows
abbrev pub payload_in : List ℕ → Option (List ℕ)
payload_in [] = None
payload_in (gate ∷ rest) = if gate == 1 && nat_le (9 + size_in rest) (length rest) then Some (take (size_in rest) (drop 8 rest)) else None

-- and of the frame at a place of a file
abbrev pub payload_at : ℕ → List ℕ → Option (List ℕ)
payload_at place bytes = payload_in (drop place bytes)
