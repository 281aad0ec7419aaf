-- The parts of a text that what was read refers to.
use Rattle.std.specs.Prelude.{◌≡◌, ℕ, ◌<◌, ◌≤◌, List, length, slice_range, Option, Some, None, All, false, ⊤}
use Rattle.rg_grammar.specs.Grammar.{is_signed}
use Rattle.rg_token.specs.Token.{Spelled}
use Rattle.rg_token.specs.declared.piece.Shape.{Shape}
use Rattle.rg_token.specs.declared.piece.Shape.TheVariants.{Word as WordShape, Number as NumberShape, Text as TextShape}
use Rattle.rg_token.specs.declared.piece.Piece.{Piece}
use Rattle.rg_parse.specs.declared.syntax.Span.{Span}
use Rattle.rg_parse.specs.declared.syntax.Literal.{Literal}
use Rattle.rg_parse.specs.declared.syntax.Literal.TheVariants.{Number, Text, Truth}
use Rattle.rg_parse.specs.declared.syntax.Expr.{Expr}
use Rattle.rg_parse.specs.declared.syntax.Expr.TheVariants.{Compare, Not', And', Or'}
use Rattle.rg_parse.specs.declared.syntax.Call.{Call}
use Rattle.rg_parse.specs.declared.syntax.Call.TheVariants.{CountAll, Field, Pct}
use Rattle.rg_parse.specs.declared.syntax.Duration.{Duration}
use Rattle.rg_parse.specs.declared.syntax.Raw.{Raw}
use Rattle.rg_parse.specs.Views.{text_at}

-- the part isn't empty, lies in the text, and is a token of this shape
pub record IsPart (text : List ℕ) (shape : Shape) (start end : ℕ) : Type 0 where
  pub not_empty : start < end
  pub inside : end ≤ length text
  pub spelled : Spelled (slice_range text start end) shape

abbrev pub IsPiece : List ℕ → Piece → Type 0
IsPiece text piece = IsPart text piece.shape piece.start piece.end

abbrev pub IsName : List ℕ → Span → Type 0
IsName text span = IsPart text WordShape span.start span.end

-- a number's part is a number, and a string's a string
abbrev pub IsLiteral : List ℕ → Literal → Type 0
IsLiteral text (Number span) = IsPart text NumberShape span.start span.end
IsLiteral text (Text span) = IsPart text TextShape span.start span.end
IsLiteral text (Truth place flag) = ⊤

abbrev pub IsCondition : List ℕ → Expr → Type 0
IsCondition text (Compare field op value) = IsName text field × IsLiteral text value
IsCondition text (Not' p inner) = IsCondition text inner
IsCondition text (And' p left q right) = IsCondition text left × IsCondition text right
IsCondition text (Or' p left q right) = IsCondition text left × IsCondition text right

abbrev pub IsMaybeCondition : List ℕ → Option Expr → Type 0
IsMaybeCondition text None = ⊤
IsMaybeCondition text (Some expr) = IsCondition text expr

-- a number without a sign
pub record IsCount (text : List ℕ) (number : Span) : Type 0 where
  pub part : IsPart text NumberShape number.start number.end
  pub unsigned : is_signed (text_at text number) ≡ false

abbrev pub IsCall : List ℕ → Call → Type 0
IsCall text CountAll = ⊤
IsCall text (Field func field) = IsName text field
IsCall text (Pct percent field) = IsCount text percent × IsName text field

abbrev pub IsMaybeDuration : List ℕ → Option Duration → Type 0
IsMaybeDuration text None = ⊤
IsMaybeDuration text (Some lasting) = IsCount text lasting.number

-- each part of the query lies in the text, and is a word, a number or a string there
pub record IsMadeOf (text : List ℕ) (raw : Raw) : Type 0 where
  pub calls : All (IsCall text) raw.calls.items
  pub stream : IsName text raw.stream
  pub filter : IsMaybeCondition text raw.filter
  pub group : All (IsName text) raw.group.items
  pub length : IsMaybeDuration text raw.length
  pub delay : IsMaybeDuration text raw.delay
