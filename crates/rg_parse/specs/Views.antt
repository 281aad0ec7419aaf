-- What the parts of a text stand for.
use Rattle.std.specs.Prelude.{ℕ, List, Option, Some, None, map, slice_range}
use Rattle.rg_parse.specs.declared.syntax.Span.{Span}
use Rattle.rg_parse.specs.declared.syntax.Literal.{Literal}
use Rattle.rg_parse.specs.declared.syntax.Literal.TheVariants.{Number, Text, Truth}
use Rattle.rg_parse.specs.declared.syntax.Expr.{Expr}
use Rattle.rg_parse.specs.declared.syntax.Expr.TheVariants.{Compare, Not', And', Or'}
use Rattle.rg_parse.specs.declared.syntax.Call.{Call}
use Rattle.rg_parse.specs.declared.syntax.Call.TheVariants.{CountAll, Field, Pct}
use Rattle.rg_parse.specs.declared.syntax.Duration.{Duration}
use Rattle.rg_parse.specs.declared.syntax.Raw.{Raw}
use Rattle.rg_parse.specs.declared.token.Token.{Token}
use Rattle.rg_parse.specs.declared.token.Token.TheVariants.{Reserved, Sign, Word, Literal as LiteralToken}
use Rattle.rg_grammar.specs.Grammar as g
use Rattle.rg_grammar.specs.Grammar.{Name, named, Tree, compared, not_of, and_of, or_of}

-- the bytes of a part
abbrev pub text_at : List ℕ → Span → List ℕ
text_at text span = slice_range text span.start span.end

abbrev pub name : List ℕ → Span → Name
name text span = named span.start (text_at text span)

abbrev pub names : List ℕ → List Span → List Name
names text spans = map (name text) spans

abbrev pub literal : List ℕ → Literal → g.Literal
literal text (Number span) = g.digits span.start (text_at text span)
literal text (Text span) = g.quoted span.start (text_at text span)
literal text (Truth place flag) = g.truth place flag

abbrev pub tree : List ℕ → Expr → Tree
tree text (Compare field op value) = compared (name text field) op (literal text value)
tree text (Not' p inner) = not_of (tree text inner)
tree text (And' p left q right) = and_of (tree text left) (tree text right)
tree text (Or' p left q right) = or_of (tree text left) (tree text right)

abbrev pub maybe_tree : List ℕ → Option Expr → Option Tree
maybe_tree text None = None
maybe_tree text (Some expr) = Some (tree text expr)

abbrev pub call : List ℕ → Call → g.Agg
call text CountAll = g.count_all
call text (Field func field) = g.agg_of func (name text field)
call text (Pct percent field) = g.pct_of percent.start (text_at text percent) (name text field)

abbrev pub calls : List ℕ → List Call → List g.Agg
calls text list = map (call text) list

abbrev pub duration : List ℕ → Duration → g.Span
duration text lasting = g.span lasting.number.start (text_at text lasting.number) lasting.unit

abbrev pub maybe_duration : List ℕ → Option Duration → Option g.Span
maybe_duration text None = None
maybe_duration text (Some lasting) = Some (duration text lasting)

-- the query that was read
abbrev pub raw : List ℕ → Raw → g.Query
raw text r = g.asked (calls text r.calls.items) (name text r.stream) (maybe_tree text r.filter) (names text r.group.items) (g.windowed (maybe_duration text r.length) (maybe_duration text r.delay))

abbrev pub token : List ℕ → Token → g.Token
token text (Reserved keyword) = g.reserved keyword
token text (Sign symbol) = g.symbol symbol
token text (Word span) = g.word (name text span)
token text (LiteralToken value) = g.literal (literal text value)
