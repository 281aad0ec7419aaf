-- The names of streams and columns.
use Rattle.std.specs.Prelude.{ℕ, nat_le, ◌&&◌, ◌||◌, ◌==◌, not, Bool, false, List, [], ◌∷◌, length, codes}
use Rattle.std.specs.List.{list_all, list_any}
use Rattle.std.specs.Str.{str_eq_ignore_ascii_case}

-- an ASCII letter or `_`
abbrev pub is_letter : ℕ → Bool
is_letter byte = (nat_le 65 byte && nat_le byte 90) || (nat_le 97 byte && nat_le byte 122) || byte == 95

abbrev pub is_digit : ℕ → Bool
is_digit byte = nat_le 48 byte && nat_le byte 57

-- the words of the query language, which name nothing
abbrev pub reserved : List (List ℕ)
reserved =
    codes "SELECT" ∷ (codes "FROM" ∷ (codes "WHERE" ∷ (codes "GROUP" ∷ (codes "BY" ∷ (codes "OVER" ∷ (codes "SLIDING"
    ∷ (codes "INFINITE" ∷ (codes "DELAYED" ∷ (codes "AND" ∷ (codes "OR" ∷ (codes "NOT" ∷ (codes "TRUE" ∷ (codes "FALSE" ∷ [])))))))))))))

-- a letter, a digit or `_`
abbrev pub is_word_byte : ℕ → Bool
is_word_byte byte = is_letter byte || is_digit byte

-- a letter or `_`, and then up to 63 letters, digits or `_`
abbrev pub is_word : List ℕ → Bool
is_word [] = false
is_word (byte ∷ bytes) = is_letter byte && list_all is_word_byte bytes && nat_le (length bytes) 63

-- one of them, in any case
abbrev pub is_reserved : List ℕ → Bool
is_reserved text = list_any (λ word. str_eq_ignore_ascii_case text word) reserved

-- such a word that isn't reserved
abbrev pub is_name : List ℕ → Bool
is_name text = is_word text && not (is_reserved text)
