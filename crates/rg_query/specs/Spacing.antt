-- How tokens are printed: each as it is spelled, and the blanks between them.
use Rattle.std.specs.Prelude.{◌≡◌, ℕ, List, [], ◌∷◌, codes, true, false}
use Rattle.rg_keywords.specs.declared.keyword.Keyword.{Keyword}
use Rattle.rg_keywords.specs.declared.keyword.Keyword.TheVariants.{Select, From, Where, Group, By, Over, Sliding, Infinite, Delayed, And, Or, Not}
use Rattle.rg_keywords.specs.declared.op.Symbol.TheVariants.{Open, Close, Comma}
use Rattle.rg_keywords.specs.Words.{symbol_text}
use Rattle.rg_grammar.specs.Grammar.{named, digits, quoted, truth, Token, reserved, symbol, word, literal}
use Rattle.rg_grammar.specs.Erase.{erase_token}
use Rattle.rg_token.specs.Layout.{Item}
use Rattle.rg_token.specs.Token.{Spelled}
use Rattle.rg_token.specs.declared.piece.Shape.{Shape as TokenShape}
use Rattle.rg_token.specs.declared.piece.Shape.TheVariants as token
use Rattle.rg_parse.specs.Tokens.{token_at}

abbrev pub keyword_text : Keyword → List ℕ
keyword_text Select = codes "SELECT"
keyword_text From = codes "FROM"
keyword_text Where = codes "WHERE"
keyword_text Group = codes "GROUP"
keyword_text By = codes "BY"
keyword_text Over = codes "OVER"
keyword_text Sliding = codes "SLIDING"
keyword_text Infinite = codes "INFINITE"
keyword_text Delayed = codes "DELAYED"
keyword_text And = codes "AND"
keyword_text Or = codes "OR"
keyword_text Not = codes "NOT"

abbrev pub token_text : Token → List ℕ
token_text (reserved keyword) = keyword_text keyword
token_text (symbol s) = symbol_text s
token_text (word (named place text)) = text
token_text (literal (digits place text)) = text
token_text (literal (quoted place text)) = text
token_text (literal (truth place true)) = codes "TRUE"
token_text (literal (truth place false)) = codes "FALSE"

abbrev pub token_shape : Token → TokenShape
token_shape (reserved keyword) = token.Word
token_shape (symbol s) = token.Sign s
token_shape (word name) = token.Word
token_shape (literal (digits place text)) = token.Number
token_shape (literal (quoted place text)) = token.Text
token_shape (literal (truth place flag)) = token.Word

-- what stands before a token: nothing or an open parenthesis, a name, or any other token
pub data Before : Type 0 where
  opened : Before
  a_name : Before
  a_token : Before

abbrev pub behind : Token → Before
behind (symbol Open) = opened
behind (word name) = a_name
behind token = a_token

-- a blank, but for the first token and behind an open parenthesis
abbrev pub blank : Before → List ℕ
blank opened = []
blank a_name = codes " "
blank a_token = codes " "

-- a function's parenthesis follows its name at once
abbrev pub blank_to_open : Before → List ℕ
blank_to_open opened = []
blank_to_open a_name = []
blank_to_open a_token = codes " "

abbrev pub gap : Before → Token → List ℕ
gap before (symbol Open) = blank_to_open before
gap before (symbol Close) = []
gap before (symbol Comma) = []
gap before token = blank before

abbrev pub spaced : Before → List Token → List Item
spaced before [] = []
spaced before (t ∷ ts) = record { gap = gap before t; token = token_text t; shape = token_shape t } ∷ spaced (behind t) ts

-- the token is read as itself where it is printed
pub record IsPlain (t : Token) : Type 0 where
  pub spelled : Spelled (token_text t) (token_shape t)
  pub read : token_at 0 (token_text t) (token_shape t) ≡ erase_token t
