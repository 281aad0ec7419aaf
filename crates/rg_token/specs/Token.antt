-- What a token is.
use Rattle.std.specs.Prelude.{◌≡◌, ℕ, ◌≤◌, nat_eq, nat_le, ◌&&◌, ◌||◌, List, [], ◌∷◌, ◌++◌, length, Bool, true, false, if◌then◌else◌, IsTrue}
use Rattle.std.specs.List.{list_all}
use Rattle.rg_keywords.specs.Words.{symbol_text}
use Rattle.rg_token.specs.declared.piece.Shape.{Shape}
use Rattle.rg_token.specs.declared.piece.Shape.TheVariants.{Word, Number, Text, Sign}

-- an ASCII letter or `_`
abbrev pub is_letter : ℕ → Bool
is_letter byte = (nat_le 65 byte && nat_le byte 90) || (nat_le 97 byte && nat_le byte 122) || nat_eq byte 95

abbrev pub is_digit : ℕ → Bool
is_digit byte = nat_le 48 byte && nat_le byte 57

-- a letter, a digit or `_`
abbrev pub is_word_byte : ℕ → Bool
is_word_byte byte = is_letter byte || is_digit byte

-- a letter or `_`, and then letters, digits or `_`
abbrev pub is_word : List ℕ → Bool
is_word [] = false
is_word (byte ∷ bytes) = is_letter byte && list_all is_word_byte bytes

-- the minus sign and the single quote
abbrev pub minus : ℕ
minus = 45

abbrev pub quote : ℕ
quote = 39

-- an optional minus sign, and then 1 to 20 digits
abbrev pub signed : Bool → List ℕ → List ℕ
signed true digits = minus ∷ digits
signed false digits = digits

pub record IsNumber (bytes : List ℕ) : Type 0 where
  pub negative : Bool
  pub digits : List ℕ
  pub spells : bytes ≡ signed negative digits
  pub some : 1 ≤ length digits
  pub few : length digits ≤ 20
  pub all : IsTrue (list_all is_digit digits)

-- any bytes between two quotes, each quote among them twice
abbrev pub doubled : List ℕ → List ℕ
doubled [] = []
doubled (byte ∷ bytes) = if nat_eq byte quote then quote ∷ quote ∷ doubled bytes else byte ∷ doubled bytes

pub record IsQuoted (bytes : List ℕ) : Type 0 where
  pub inner : List ℕ
  pub spells : bytes ≡ quote ∷ (doubled inner ++ quote ∷ [])

-- these bytes are a token of this shape
abbrev pub Spelled : List ℕ → Shape → Type 0
Spelled bytes Word = IsTrue (is_word bytes)
Spelled bytes Number = IsNumber bytes
Spelled bytes Text = IsQuoted bytes
Spelled bytes (Sign symbol) = bytes ≡ symbol_text symbol
