-- The tokens of a text.
use Rattle.std.specs.Prelude.{◌≡◌, ℕ, ◌+◌, ◌≤◌, ◌<◌, nat_eq, ◌||◌, List, [], ◌∷◌, ◌++◌, length, drop, slice_range, Bool}
use Rattle.std.specs.List.{prefix_len}
use Rattle.rg_token.specs.Token.{Spelled}
use Rattle.rg_token.specs.declared.piece.Shape.{Shape}
use Rattle.rg_token.specs.declared.piece.Piece.{Piece}

-- space, tab, CR and LF
abbrev pub is_blank : ℕ → Bool
is_blank byte = nat_eq byte 32 || nat_eq byte 9 || nat_eq byte 13 || nat_eq byte 10

-- the first place from here on that isn't blank
abbrev pub skip : List ℕ → ℕ → ℕ
skip text at = at + prefix_len is_blank (drop at text)

-- the first bytes are a token of this shape and size, and no longer token begins there
pub record IsLongest (bytes : List ℕ) (size : ℕ) (shape : Shape) : Type 0 where
  pub token : List ℕ
  pub rest : List ℕ
  pub split : bytes ≡ token ++ rest
  pub sized : length token ≡ size
  pub spelled : Spelled token shape
  pub longest : (other behind : List ℕ) (also : Shape) → bytes ≡ other ++ behind → Spelled other also → length other ≤ size

-- no token begins there
abbrev pub NoToken : List ℕ → Type 0
NoToken bytes = (token rest : List ℕ) (shape : Shape) → bytes ≡ token ++ rest → Spelled token shape → ⊥

-- the piece is the longest token at the first place from here on that isn't blank
pub record IsNext (text : List ℕ) (at : ℕ) (piece : Piece) : Type 0 where
  pub size : ℕ
  pub start : piece.start ≡ skip text at
  pub end : piece.end ≡ piece.start + size
  pub longest : IsLongest (drop piece.start text) size piece.shape

-- from this place on the text has these tokens, the longest each time, and at the end none begins
abbrev pub Lexes : List ℕ → ℕ → List Piece → ℕ → Type 0
Lexes text at [] end = (end ≡ skip text at) × NoToken (drop end text)
Lexes text at (piece ∷ pieces) end = IsNext text at piece × Lexes text piece.end pieces end

-- the piece lies in the text, and isn't empty
abbrev pub IsInside : List ℕ → Piece → Type 0
IsInside text piece = (piece.start < piece.end) × (piece.end ≤ length text)

-- the piece's bytes are a token of its shape
abbrev pub IsToken : List ℕ → Piece → Type 0
IsToken text piece = Spelled (slice_range text piece.start piece.end) piece.shape
