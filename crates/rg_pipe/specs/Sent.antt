-- The requests that a client sends, and the bytes of each.
use Rattle.std.specs.Prelude.{◌≡◌, ℕ, ◌<◌, ◌^◌, ◌==◌, Bool, false, List, [], ◌∷◌, ◌++◌, length, ⊤}
use Rattle.std.specs.Int.{w32, w64, to_be_bytes}
use Rattle.std.specs.List.{list_any}

-- a request: an offset and the text of a line, a commit, or a save
pub data Sent : Type 0 where
  line : ℕ → List ℕ → Sent
  commit : Sent
  save : Sent

-- the bytes of a request behind its length: a kind, and of a line also the offset in 8 bytes and the text
abbrev pub body_of : Sent → List ℕ
body_of (line offset text) = 1 ∷ (to_be_bytes w64 offset ++ text)
body_of commit = 2 ∷ []
body_of save = 3 ∷ []

-- the bytes of a request: the length of its body in 4 bytes, and the body
abbrev pub bytes_of : Sent → List ℕ
bytes_of sent = to_be_bytes w32 (length (body_of sent)) ++ body_of sent

-- an LF is among these bytes
abbrev pub has_lf : List ℕ → Bool
has_lf bytes = list_any (λ byte. byte == 10) bytes

-- a line's offset is below 2^62, and its text has at most 65,535 bytes and no LF
abbrev pub IsLegal : Sent → Type 0
IsLegal (line offset text) = (offset < 2 ^ 62) × (length text < 65536) × (has_lf text ≡ false)
IsLegal commit = ⊤
IsLegal save = ⊤
