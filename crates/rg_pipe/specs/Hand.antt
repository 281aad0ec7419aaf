-- What some bytes are that begin where a request has to begin.
use Rattle.std.specs.Prelude.{◌≡◌, ℕ, ◌+◌, ◌<◌, nat_lt, nat_le, List, ◌++◌, length, if◌then◌else◌}
use Rattle.std.specs.Int.{w32, from_be_bytes}
use Rattle.rg_pipe.specs.Sent.{Sent, bytes_of, IsLegal}

-- The bytes are this legal request.
pub record IsRequest (sent : Sent) (bytes : List ℕ) : Type 0 where
  pub legal : IsLegal sent
  pub is : bytes ≡ bytes_of sent

-- The bytes are a proper prefix of some legal request.
pub record IsPart (bytes : List ℕ) : Type 0 where
  pub sent : Sent
  pub rest : List ℕ
  pub legal : IsLegal sent
  pub some : 0 < length rest
  pub is : bytes_of sent ≡ bytes ++ rest

-- The bytes begin no request: no legal request begins with them, and they begin with none.
pub record BeginsNone (bytes : List ℕ) : Type 0 where
  pub no_part : (sent : Sent) (rest : List ℕ) → IsLegal sent → bytes_of sent ≡ bytes ++ rest → ⊥
  pub no_whole : (sent : Sent) (rest : List ℕ) → IsLegal sent → bytes ≡ bytes_of sent ++ rest → ⊥

-- how many bytes a request has whose body has this length; no request has a body above 65,544 bytes, and of such a one only the length is taken
abbrev pub size_from : ℕ → ℕ
size_from length = if nat_le length 65544 then 4 + length else 4

-- how many bytes the request has that these begin; 4 as long as its length is not whole
unfoldable pub size_of : List ℕ → ℕ
size_of bytes = if nat_lt (length bytes) 4 then 4 else size_from (from_be_bytes w32 bytes)

-- the request that these bytes begin lacks some
abbrev pub IsShort : List ℕ → Type 0
IsShort bytes = length bytes < size_of bytes
