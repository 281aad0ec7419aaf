-- What a text is: a query, a text that goes wrong at a place, or one that nests too deep.
use Rattle.std.specs.Prelude.{◌≡◌, ℕ, ◌<◌, List, [], ◌∷◌, ◌++◌, length, ◌⊎◌, Result, Ok, Err, ⊤}
use Rattle.rg_grammar.specs.Grammar.{Query, Token, Found, StopsAt, NestsAt}
use Rattle.rg_token.specs.declared.piece.Piece.{Piece}
use Rattle.rg_token.specs.Lexing.{Lexes}
use Rattle.rg_parse.specs.declared.syntax.Raw.{Raw}
use Rattle.rg_parse.specs.declared.parse.SyntaxFault.{SyntaxFault}
use Rattle.rg_parse.specs.declared.parse.SyntaxFault.TheVariants.{At, TooDeep, Memory}
use Rattle.rg_parse.specs.Views.{raw}
use Rattle.rg_parse.specs.Tokens.{tokens_of}

-- where the first of these tokens starts, or the end where there is none
abbrev pub place_of : List Piece → ℕ → ℕ
place_of [] end = end
place_of (piece ∷ pieces) end = piece.start

-- the whole text is tokens, and they are the query, with at most 32 NOT and parentheses in each other
pub record IsQueryText (text : List ℕ) (query : Query) : Type 0 where
  pub pieces : List Piece
  pub lexes : Lexes text 0 pieces (length text)
  pub found : Found 32 (tokens_of text pieces) query

-- the tokens before the rest begin a query; with the next one they begin none, whatever follows,
-- or none is next and they are no query themselves; the place is that of the rest
pub record StopsBefore (text : List ℕ) (pieces : List Piece) (end place : ℕ) : Type 0 where
  pub front : List Piece
  pub rest : List Piece
  pub split : pieces ≡ front ++ rest
  pub stops : StopsAt 32 (tokens_of text pieces) (tokens_of text rest)
  pub placed : place ≡ place_of rest end

-- the tokens are a query, but bytes that form no token follow, and the place is theirs
pub record GoesOn (text : List ℕ) (pieces : List Piece) (end place : ℕ) : Type 0 where
  pub query : Query
  pub found : Found 32 (tokens_of text pieces) query
  pub before_end : end < length text
  pub placed : place ≡ end

-- the text goes wrong at this place: at the first token with which the tokens so far begin no query,
-- at the first bytes that form no token, or at its end
pub record IsSyntaxAt (text : List ℕ) (place : ℕ) : Type 0 where
  pub pieces : List Piece
  pub end : ℕ
  pub lexes : Lexes text 0 pieces end
  pub cause : StopsBefore text pieces end place ⊎ GoesOn text pieces end place

-- read from the left, and before the text goes wrong anywhere, a token opens a NOT or a parenthesis inside 32 others
pub record IsTooDeep (text : List ℕ) : Type 0 where
  pub pieces : List Piece
  pub end : ℕ
  pub lexes : Lexes text 0 pieces end
  pub token : Token
  pub more : List Token
  pub nests : NestsAt 32 (tokens_of text pieces) token more

-- what reading a text gives
pub data Syntax : Type 0 where
  parsed : Query → Syntax
  stops_at : ℕ → Syntax
  too_deep : Syntax

abbrev pub Reads : List ℕ → Syntax → Type 0
Reads text (parsed query) = IsQueryText text query
Reads text (stops_at place) = IsSyntaxAt text place
Reads text too_deep = IsTooDeep text

-- what is answered is what the text is, but for want of memory
abbrev pub ReadsAs : List ℕ → Result Raw SyntaxFault → Type 0
ReadsAs text (Ok r) = Reads text (parsed (raw text r))
ReadsAs text (Err (At place)) = Reads text (stops_at place)
ReadsAs text (Err TooDeep) = Reads text too_deep
ReadsAs text (Err Memory) = ⊤
