-- A text laid out as tokens with blanks before them.
use Rattle.std.specs.Prelude.{ℕ, ◌+◌, nat_eq, List, [], ◌∷◌, ◌++◌, length, Bool, false, IsTrue, IsFalse, ⊤}
use Rattle.std.specs.List.{list_all}
use Rattle.rg_keywords.specs.declared.op.Op.TheVariants.{Lt, Gt}
use Rattle.rg_keywords.specs.declared.op.Symbol.TheVariants.{Compare}
use Rattle.rg_token.specs.Token.{is_word_byte, is_digit, quote, Spelled}
use Rattle.rg_token.specs.Lexing.{is_blank}
use Rattle.rg_token.specs.declared.piece.Shape.{Shape}
use Rattle.rg_token.specs.declared.piece.Shape.TheVariants.{Word, Number, Text, Sign}
use Rattle.rg_token.specs.declared.piece.Piece.{Piece}

-- a token, and the blanks before it
pub record Item : Type 0 where
  pub gap : List ℕ
  pub token : List ℕ
  pub shape : Shape

abbrev pub layout : List Item → List ℕ
layout [] = []
layout (item ∷ items) = item.gap ++ (item.token ++ layout items)

-- whether a token of this shape may go on with this byte; 61 is `=`
abbrev pub goes_on : Shape → ℕ → Bool
goes_on Word byte = is_word_byte byte
goes_on Number byte = is_digit byte
goes_on Text byte = nat_eq byte quote
goes_on (Sign (Compare Lt)) byte = nat_eq byte 61
goes_on (Sign (Compare Gt)) byte = nat_eq byte 61
goes_on (Sign symbol) byte = false

-- a token of this shape doesn't go on with what follows
abbrev pub Breaks : Shape → List ℕ → Type 0
Breaks shape [] = ⊤
Breaks shape (byte ∷ bytes) = IsFalse (goes_on shape byte)

-- each gap is blank, each token is one of its shape, and none goes on with what follows
abbrev pub IsLaid : List Item → Type 0
IsLaid [] = ⊤
IsLaid (item ∷ items) = IsTrue (list_all is_blank item.gap) × Spelled item.token item.shape × Breaks item.shape (layout items) × IsLaid items

-- where the tokens lie
abbrev pub placed : ℕ → List Item → List Piece
placed at [] = []
placed at (item ∷ items) = record {
  start = at + length item.gap;
  end = at + length item.gap + length item.token;
  shape = item.shape;
} ∷ placed (at + length item.gap + length item.token) items
