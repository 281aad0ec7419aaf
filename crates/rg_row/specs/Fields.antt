-- The fields of a line.
use Rattle.std.specs.Prelude.{◌≡◌, ◌≢◌, ℕ, ◌-◌, ◌==◌, ◌||◌, ◌&&◌, not, Bool, true, false, List, [], ◌∷◌, ◌++◌, length, take, drop, map, Option, None, Some, IsTrue, if◌then◌else◌}
use Rattle.std.specs.List.{list_any, list_all}
use Rattle.std.specs.Io.BufRead.{ends_with_byte}

-- a field as it is written: bare, or between quotes in which a quote is doubled
pub data Piece : Type 0 where
  bare : List ℕ → Piece
  quoted : List ℕ → Piece

-- a bare field has no quote and no comma
abbrev pub is_legal : Piece → Bool
is_legal (bare text) = list_all (λ byte. not (byte == 34) && not (byte == 44)) text
is_legal (quoted text) = true

abbrev pub doubled : List ℕ → List ℕ
doubled [] = []
doubled (byte ∷ text) = if byte == 34 then 34 ∷ (34 ∷ doubled text) else byte ∷ doubled text

-- how a field is written, and what it says
abbrev pub written : Piece → List ℕ
written (bare text) = text
written (quoted text) = 34 ∷ (doubled text ++ 34 ∷ [])

abbrev pub said : Piece → List ℕ
said (bare text) = text
said (quoted text) = text

-- fields parted by commas
abbrev pub joined : List Piece → List ℕ
joined [] = []
joined (piece ∷ []) = written piece
joined (piece ∷ (next ∷ pieces)) = written piece ++ 44 ∷ joined (next ∷ pieces)

abbrev pub is_marked : List ℕ → Bool
is_marked [] = false
is_marked (a ∷ []) = false
is_marked (a ∷ (b ∷ [])) = false
is_marked (a ∷ (b ∷ (c ∷ text))) = a == 239 && b == 187 && c == 191

-- The line is a row with these fields: it isn't empty, holds no CR, doesn't begin with a byte order mark, and
-- is a list of legal fields parted by commas.
pub record IsRow (line : List ℕ) (fields : List (List ℕ)) : Type 0 where
  pub pieces : List Piece
  pub legal : IsTrue (list_all is_legal pieces)
  pub some : pieces ≢ []
  pub spelled : line ≡ joined pieces
  pub are : fields ≡ map said pieces
  pub not_empty : line ≢ []
  pub no_cr : list_any (λ byte. byte == 13) line ≡ false
  pub unmarked : is_marked line ≡ false

-- where the reading of a line stands: before a field, in a bare one, between quotes, behind a quote
pub data Mode : Type 0 where
  start : Mode
  in_bare : Mode
  in_quotes : Mode
  behind : Mode

-- the fields of the rest of a line, behind these fields and the bytes of the one at hand
unfoldable pub split_from : Mode → List (List ℕ) → List ℕ → List ℕ → Option (List (List ℕ))
split_from start fields field [] = Some (fields ++ field ∷ [])
split_from in_bare fields field [] = Some (fields ++ field ∷ [])
split_from in_quotes fields field [] = None
split_from behind fields field [] = Some (fields ++ field ∷ [])
split_from start fields field (byte ∷ rest) =
    if byte == 44 then split_from start (fields ++ field ∷ []) [] rest
    else if byte == 34 then split_from in_quotes fields field rest
    else split_from in_bare fields (field ++ byte ∷ []) rest
split_from in_bare fields field (byte ∷ rest) =
    if byte == 44 then split_from start (fields ++ field ∷ []) [] rest
    else if byte == 34 then None
    else split_from in_bare fields (field ++ byte ∷ []) rest
split_from in_quotes fields field (byte ∷ rest) =
    if byte == 34 then split_from behind fields field rest
    else split_from in_quotes fields (field ++ byte ∷ []) rest
split_from behind fields field (byte ∷ rest) =
    if byte == 34 then split_from in_quotes fields (field ++ byte ∷ []) rest
    else if byte == 44 then split_from start (fields ++ field ∷ []) [] rest
    else None

-- the fields of a line, and none where it is no row; that this is `IsRow`, both ways, is a law of `read_row`
abbrev pub fields_of : List ℕ → Option (List (List ℕ))
fields_of line =
    if (length line == 0) || list_any (λ byte. byte == 13) line || is_marked line then None
    else split_from start [] [] line

-- a line without one last CR, and at offset 0 without one byte order mark in front
abbrev pub without_cr : List ℕ → List ℕ
without_cr line = if ends_with_byte 13 line then take (length line - 1) line else line

abbrev pub cleaned : ℕ → List ℕ → List ℕ
cleaned offset line = if offset == 0 && is_marked (without_cr line) then drop 3 (without_cr line) else without_cr line
