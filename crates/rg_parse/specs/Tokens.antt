-- The token that a piece of a text is.
use Rattle.std.specs.Prelude.{ℕ, List, Option, Some, None, Bool, map, slice_range}
use Rattle.rg_keywords.specs.declared.keyword.Keyword.{Keyword}
use Rattle.rg_keywords.specs.Words.{keyword_of, truth_of}
use Rattle.rg_grammar.specs.Grammar.{named, digits, quoted, truth, Token, reserved, symbol, word, literal}
use Rattle.rg_token.specs.declared.piece.Shape.{Shape}
use Rattle.rg_token.specs.declared.piece.Shape.TheVariants.{Word, Number, Text, Sign}
use Rattle.rg_token.specs.declared.piece.Piece.{Piece}

abbrev pub truth_or_name : ℕ → List ℕ → Option Bool → Token
truth_or_name place bytes (Some flag) = literal (truth place flag)
truth_or_name place bytes None = word (named place bytes)

abbrev pub keyword_or : Option Keyword → Token → Token
keyword_or (Some keyword) token = reserved keyword
keyword_or None token = token

-- a word is a keyword, else TRUE or FALSE, else a name
abbrev pub word_token : ℕ → List ℕ → Token
word_token place bytes = keyword_or (keyword_of bytes) (truth_or_name place bytes (truth_of bytes))

abbrev pub token_at : ℕ → List ℕ → Shape → Token
token_at place bytes Word = word_token place bytes
token_at place bytes Number = literal (digits place bytes)
token_at place bytes Text = literal (quoted place bytes)
token_at place bytes (Sign sign) = symbol sign

abbrev pub token_of : List ℕ → Piece → Token
token_of text piece = token_at piece.start (slice_range text piece.start piece.end) piece.shape

abbrev pub tokens_of : List ℕ → List Piece → List Token
tokens_of text pieces = map (token_of text) pieces
