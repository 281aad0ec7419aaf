-- The grammar of query texts: trees of its rules, and the tokens that each tree spells.
use Rattle.std.specs.Prelude.{◌≡◌, ℕ, ◌+◌, ◌≤◌, max, List, [], ◌∷◌, ◌++◌, Option, Some, None, Bool, true, false, ◌==◌}
use Rattle.rg_keywords.specs.declared.keyword.Keyword.{Keyword}
use Rattle.rg_keywords.specs.declared.keyword.Keyword.TheVariants.{Select, From, Where, Group, By, Over, Sliding, Infinite, Delayed, And, Or, Not}
use Rattle.rg_keywords.specs.declared.op.Op.{Op}
use Rattle.rg_keywords.specs.declared.op.Symbol.{Symbol}
use Rattle.rg_keywords.specs.declared.op.Symbol.TheVariants.{Open, Close, Comma, Star, Compare}
use Rattle.rg_keywords.specs.declared.callee.Callee.{Callee}
use Rattle.rg_keywords.specs.declared.callee.Callee.TheVariants as callee
use Rattle.rg_keywords.specs.declared.func.Func.{Func}
use Rattle.rg_keywords.specs.declared.func.Func.TheVariants.{Count}
use Rattle.rg_keywords.specs.declared.time_unit.TimeUnit.{TimeUnit}
use Rattle.rg_keywords.specs.Words.{callee_of, unit_of}

-- a word, with its place
pub data Name : Type 0 where
  named : ℕ → List ℕ → Name

-- a number with its sign and digits, a string with its quotes, TRUE or FALSE; each with its place
pub data Literal : Type 0 where
  digits : ℕ → List ℕ → Literal
  quoted : ℕ → List ℕ → Literal
  truth : ℕ → Bool → Literal

-- a token; those whose place a refusal may name hold it
pub data Token : Type 0 where
  reserved : Keyword → Token
  symbol : Symbol → Token
  word : Name → Token
  literal : Literal → Token

-- or = and | or OR and        and = not | and AND not        not = NOT not | "(" or ")" | field op literal
mutual
  pub data OrTree : Type 0 where
    one_and : AndTree → OrTree
    either : OrTree → AndTree → OrTree

  pub data AndTree : Type 0 where
    one_not : NotTree → AndTree
    both : AndTree → NotTree → AndTree

  pub data NotTree : Type 0 where
    negated : NotTree → NotTree
    group : OrTree → NotTree
    comparison : Name → Op → Literal → NotTree

-- the tokens of a condition, and then the rest
abbrev mutual
  pub or_then : OrTree → List Token → List Token
  or_then (one_and a) rest = and_then a rest
  or_then (either o a) rest = or_then o (reserved Or ∷ and_then a rest)

  pub and_then : AndTree → List Token → List Token
  and_then (one_not n) rest = not_then n rest
  and_then (both a n) rest = and_then a (reserved And ∷ not_then n rest)

  pub not_then : NotTree → List Token → List Token
  not_then (negated n) rest = reserved Not ∷ not_then n rest
  not_then (group o) rest = symbol Open ∷ or_then o (symbol Close ∷ rest)
  not_then (comparison f op l) rest = word f ∷ symbol (Compare op) ∷ literal l ∷ rest

-- how deep NOT and parentheses enclose each other
abbrev mutual
  pub or_depth : OrTree → ℕ
  or_depth (one_and a) = and_depth a
  or_depth (either o a) = max (or_depth o) (and_depth a)

  pub and_depth : AndTree → ℕ
  and_depth (one_not n) = not_depth n
  and_depth (both a n) = max (and_depth a) (not_depth n)

  pub not_depth : NotTree → ℕ
  not_depth (negated n) = not_depth n + 1
  not_depth (group o) = or_depth o + 1
  not_depth (comparison f op l) = 0

-- a condition, whatever parentheses it was written with
pub data Tree : Type 0 where
  compared : Name → Op → Literal → Tree
  not_of : Tree → Tree
  and_of : Tree → Tree → Tree
  or_of : Tree → Tree → Tree

abbrev mutual
  pub or_tree : OrTree → Tree
  or_tree (one_and a) = and_tree a
  or_tree (either o a) = or_of (or_tree o) (and_tree a)

  pub and_tree : AndTree → Tree
  and_tree (one_not n) = not_tree n
  and_tree (both a n) = and_of (and_tree a) (not_tree n)

  pub not_tree : NotTree → Tree
  not_tree (negated n) = not_of (not_tree n)
  not_tree (group o) = or_tree o
  not_tree (comparison f op l) = compared f op l

-- agg = COUNT "(" "*" ")" | func "(" field ")" | PCT "(" number without "-" "," field ")"; the word is as it was written, and a number
-- stands with its place
pub data AggTree : Type 0 where
  counted : Name → AggTree
  of_field : Name → Func → Name → AggTree
  of_percent : Name → ℕ → List ℕ → Name → AggTree

-- a count, a function of a field, or a percent's place and digits with a field
pub data Agg : Type 0 where
  count_all : Agg
  agg_of : Func → Name → Agg
  pct_of : ℕ → List ℕ → Name → Agg

abbrev pub agg_then : AggTree → List Token → List Token
agg_then (counted w) rest = word w ∷ symbol Open ∷ symbol Star ∷ symbol Close ∷ rest
agg_then (of_field w f n) rest = word w ∷ symbol Open ∷ word n ∷ symbol Close ∷ rest
agg_then (of_percent w p text n) rest = word w ∷ symbol Open ∷ literal (digits p text) ∷ symbol Comma ∷ word n ∷ symbol Close ∷ rest

abbrev pub agg : AggTree → Agg
agg (counted w) = count_all
agg (of_field w f n) = agg_of f n
agg (of_percent w p text n) = pct_of p text n

-- agg { "," agg }
pub data AggsTree : Type 0 where
  one_agg : AggTree → AggsTree
  more_aggs : AggsTree → AggTree → AggsTree

abbrev pub aggs_then : AggsTree → List Token → List Token
aggs_then (one_agg a) rest = agg_then a rest
aggs_then (more_aggs xs a) rest = aggs_then xs (symbol Comma ∷ agg_then a rest)

abbrev pub aggs : AggsTree → List Agg
aggs (one_agg a) = agg a ∷ []
aggs (more_aggs xs a) = aggs xs ++ agg a ∷ []

-- field { "," field }
pub data FieldsTree : Type 0 where
  one_field : Name → FieldsTree
  more_fields : FieldsTree → Name → FieldsTree

abbrev pub fields_then : FieldsTree → List Token → List Token
fields_then (one_field n) rest = word n ∷ rest
fields_then (more_fields ns n) rest = fields_then ns (symbol Comma ∷ word n ∷ rest)

abbrev pub fields : FieldsTree → List Name
fields (one_field n) = n ∷ []
fields (more_fields ns n) = fields ns ++ n ∷ []

-- span = number without "-" , unit; the number with its place, and the unit's word as it was written
pub data SpanTree : Type 0 where
  spanned : ℕ → List ℕ → Name → TimeUnit → SpanTree

-- the number's place and digits, and the unit
pub data Span : Type 0 where
  span : ℕ → List ℕ → TimeUnit → Span

abbrev pub span_then : SpanTree → List Token → List Token
span_then (spanned p w u unit) rest = literal (digits p w) ∷ word u ∷ rest

abbrev pub span_of : SpanTree → Span
span_of (spanned p w u unit) = span p w unit

-- window = ( SLIDING span | INFINITE ) [ DELAYED BY span ]
pub data WindowTree : Type 0 where
  window : Option SpanTree → Option SpanTree → WindowTree

-- how long it is, none for one without an end, and its delay, none where it has none
pub data Window : Type 0 where
  windowed : Option Span → Option Span → Window

abbrev pub length_then : Option SpanTree → List Token → List Token
length_then None rest = reserved Infinite ∷ rest
length_then (Some s) rest = reserved Sliding ∷ span_then s rest

abbrev pub delay_then : Option SpanTree → List Token → List Token
delay_then None rest = rest
delay_then (Some s) rest = reserved Delayed ∷ reserved By ∷ span_then s rest

abbrev pub window_then : WindowTree → List Token → List Token
window_then (window length delay) rest = length_then length (delay_then delay rest)

abbrev pub maybe_span : Option SpanTree → Option Span
maybe_span None = None
maybe_span (Some s) = Some (span_of s)

abbrev pub window_of : WindowTree → Window
window_of (window length delay) = windowed (maybe_span length) (maybe_span delay)

-- query = SELECT aggs FROM name [ WHERE or ] [ GROUP BY fields ] OVER window
pub data QueryTree : Type 0 where
  query : AggsTree → Name → Option OrTree → Option FieldsTree → WindowTree → QueryTree

-- what a query asks: its aggregators, the stream, the condition, the columns of its key, and the window
pub data Query : Type 0 where
  asked : List Agg → Name → Option Tree → List Name → Window → Query

abbrev pub where_then : Option OrTree → List Token → List Token
where_then None rest = rest
where_then (Some o) rest = reserved Where ∷ or_then o rest

abbrev pub group_then : Option FieldsTree → List Token → List Token
group_then None rest = rest
group_then (Some ns) rest = reserved Group ∷ reserved By ∷ fields_then ns rest

abbrev pub tokens_of : QueryTree → List Token
tokens_of (query xs n o ns w) = reserved Select ∷ aggs_then xs (reserved From ∷ word n ∷ where_then o (group_then ns (reserved Over ∷ window_then w [])))

abbrev pub filter_of : Option OrTree → Option Tree
filter_of None = None
filter_of (Some o) = Some (or_tree o)

abbrev pub group_of : Option FieldsTree → List Name
group_of None = []
group_of (Some ns) = fields ns

abbrev pub query_of : QueryTree → Query
query_of (query xs n o ns w) = asked (aggs xs) n (filter_of o) (group_of ns) (window_of w)

abbrev pub filter_depth : Option OrTree → ℕ
filter_depth None = 0
filter_depth (Some o) = or_depth o

abbrev pub query_depth : QueryTree → ℕ
query_depth (query xs n o ns w) = filter_depth o

-- what a call begins with, or the unit, that a name is
abbrev pub callee_named : Name → Option Callee
callee_named (named p text) = callee_of text

abbrev pub unit_named : Name → Option TimeUnit
unit_named (named p text) = unit_of text

abbrev pub is_count : Func → Bool
is_count Count = true
is_count _ = false

-- a number's text begins with a minus
abbrev pub is_signed : List ℕ → Bool
is_signed [] = false
is_signed (b ∷ text) = b == 45

abbrev pub IsAgg : AggTree → Type 0
IsAgg (counted w) = callee_named w ≡ Some (callee.Func Count)
IsAgg (of_field w f n) = (callee_named w ≡ Some (callee.Func f)) × (is_count f ≡ false)
IsAgg (of_percent w p text n) = (callee_named w ≡ Some callee.Pct) × (is_signed text ≡ false)

abbrev pub IsAggs : AggsTree → Type 0
IsAggs (one_agg a) = IsAgg a
IsAggs (more_aggs xs a) = IsAggs xs × IsAgg a

abbrev pub IsSpan : SpanTree → Type 0
IsSpan (spanned p w u unit) = (is_signed w ≡ false) × (unit_named u ≡ Some unit)

abbrev pub IsMaybeSpan : Option SpanTree → Type 0
IsMaybeSpan None = Unit {0}
IsMaybeSpan (Some s) = IsSpan s

abbrev pub IsWindow : WindowTree → Type 0
IsWindow (window length delay) = IsMaybeSpan length × IsMaybeSpan delay

-- its calls and units are those that its words name
abbrev pub IsQuery : QueryTree → Type 0
IsQuery (query xs n o ns w) = IsAggs xs × IsWindow w

-- these tokens are the query q, in which NOT and parentheses enclose each other at most so deep
pub record Found (deep : ℕ) (tokens : List Token) (q : Query) : Type 0 where
  pub tree : QueryTree
  pub legal : IsQuery tree
  pub spelled : tokens_of tree ≡ tokens
  pub means : query_of tree ≡ q
  pub within : query_depth tree ≤ deep

-- with more tokens behind them they are a query
pub record CanBegin (deep : ℕ) (tokens : List Token) : Type 0 where
  pub rest : List Token
  pub query : Query
  pub found : Found deep (tokens ++ rest) query

-- with more tokens behind them they are a query of some depth
abbrev pub Begins : List Token → Type 0
Begins tokens = (deep : ℕ) × CanBegin deep tokens

-- no query goes on so: with a next token none begins so, and without one the tokens are none
abbrev pub NoMore : List Token → List Token → Type 0
NoMore front [] = (deep : ℕ) (q : Query) → Found deep front q → ⊥
NoMore front (t ∷ more) = Begins (front ++ t ∷ []) → ⊥

-- the rest starts at the first token with which the tokens so far begin no query
pub record StopsAt (deep : ℕ) (tokens rest : List Token) : Type 0 where
  pub front : List Token
  pub split : tokens ≡ front ++ rest
  pub begins : CanBegin deep front
  pub no_more : NoMore front rest

-- the first token of the rest nests too deep: with it the tokens so far begin a query, but none so shallow
pub record NestsAt (deep : ℕ) (tokens : List Token) (t : Token) (more : List Token) : Type 0 where
  pub front : List Token
  pub split : tokens ≡ front ++ t ∷ more
  pub begins : CanBegin deep front
  pub begins_deeper : Begins (front ++ t ∷ [])
  pub none : CanBegin deep (front ++ t ∷ []) → ⊥

-- the rest starts at the first token that nests too deep
pub record NestsIn (deep : ℕ) (tokens rest : List Token) : Type 0 where
  pub token : Token
  pub more : List Token
  pub is : rest ≡ token ∷ more
  pub nests : NestsAt deep tokens token more
