-- How a query is written, its condition with the parentheses that it needs and no others.
use Rattle.std.specs.Prelude.{◌≡◌, ℕ, List, [], ◌∷◌, Option, Some, None, Bool, true, false, codes}
use Rattle.std.specs.List.{All}
use Rattle.rg_keywords.specs.declared.func.Func.{Func}
use Rattle.rg_keywords.specs.declared.func.Func.TheVariants.{Count, Pct}
use Rattle.rg_keywords.specs.declared.op.Op.TheVariants.{Eq}
use Rattle.rg_keywords.specs.declared.time_unit.TimeUnit.TheVariants.{Millisecond}
use Rattle.rg_keywords.specs.Words.{func_name}
use Rattle.rg_grammar.specs.Grammar.{Name, named, digits, OrTree, one_and, either, AndTree, one_not, both, NotTree, negated, group, comparison, Tree, compared, not_of, and_of, or_of, or_tree, and_tree, not_tree, AggTree, counted, of_field, of_percent, Agg, count_all, agg_of, pct_of, AggsTree, one_agg, more_aggs, FieldsTree, one_field, more_fields, SpanTree, spanned, window, Window, QueryTree, query, Query, asked, is_signed}

-- the three ways to write it: alone or left in an OR; in an OR on the right or left in an AND; behind NOT or right in an AND
pub record Ways : Type 0 where
  pub or : OrTree
  pub and : AndTree
  pub not : NotTree

abbrev pub from_not : NotTree → Ways
from_not n = record { or = one_and (one_not n); and = one_not n; not = n }

abbrev pub from_and : AndTree → Ways
from_and a = record { or = one_and a; and = a; not = group (one_and a) }

abbrev pub from_or : OrTree → Ways
from_or o = record { or = o; and = one_not (group o); not = group o }

abbrev pub written : Tree → Ways
written (compared f op l) = from_not (comparison f op l)
written (not_of t) = from_not (negated (written t).not)
written (and_of s t) = from_and (both (written s).and (written t).not)
written (or_of s t) = from_or (either (written s).or (written t).and)

-- each way means the tree
pub record Means (t : Tree) : Type 0 where
  pub or : or_tree (written t).or ≡ t
  pub and : and_tree (written t).and ≡ t
  pub not : not_tree (written t).not ≡ t

-- an aggregator with its function's name as it is printed; words that are written have no place
abbrev pub written_agg : Agg → AggTree
written_agg count_all = counted (named 0 (func_name Count))
written_agg (agg_of f n) = of_field (named 0 (func_name f)) f n
written_agg (pct_of p text n) = of_percent (named 0 (codes "pct")) p text n

-- these aggregators, and then more
abbrev pub aggs_and : AggsTree → List Agg → AggsTree
aggs_and front [] = front
aggs_and front (a ∷ more) = aggs_and (more_aggs front (written_agg a)) more

-- a query has one aggregator at least
abbrev pub written_aggs : List Agg → AggsTree
written_aggs [] = one_agg (written_agg count_all)
written_aggs (a ∷ more) = aggs_and (one_agg (written_agg a)) more

abbrev pub fields_and : FieldsTree → List Name → FieldsTree
fields_and front [] = front
fields_and front (n ∷ more) = fields_and (more_fields front n) more

abbrev pub written_group : List Name → Option FieldsTree
written_group [] = None
written_group (n ∷ more) = Some (fields_and (one_field n) more)

abbrev pub written_filter : Option Tree → Option OrTree
written_filter None = None
written_filter (Some t) = Some (written t).or

-- a span of so many milliseconds
abbrev pub written_span : List ℕ → SpanTree
written_span millis = spanned 0 millis (named 0 (codes "ms")) Millisecond

-- a query with the parentheses that it needs and no others, and with these spans
abbrev pub written_query : Query → Option SpanTree → Option SpanTree → QueryTree
written_query (asked xs n t ns w) length delay = query (written_aggs xs) n (written_filter t) (written_group ns) (window length delay)

-- a query, over another window
abbrev pub over_window : Query → Window → Query
over_window (asked xs n t ns w) other = asked xs n t ns other

-- COUNT is of all rows, PCT of a percent and a field, and each other function of a field
abbrev pub is_plain : Func → Bool
is_plain Count = false
is_plain (Pct percent) = false
is_plain _ = true

abbrev pub IsWritable : Agg → Type 0
IsWritable count_all = Unit {0}
IsWritable (agg_of f n) = is_plain f ≡ true
IsWritable (pct_of p text n) = is_signed text ≡ false

-- it has an aggregator, and each is one of the grammar
abbrev pub AreWritable : List Agg → Type 0
AreWritable [] = ⊥
AreWritable (a ∷ more) = All IsWritable (a ∷ more)

abbrev pub CanWrite : Query → Type 0
CanWrite (asked xs n t ns w) = AreWritable xs

-- how a condition is joined, whatever it compares
abbrev pub shape : Tree → Tree
shape (compared f op l) = compared (named 0 []) Eq (digits 0 [])
shape (not_of t) = not_of (shape t)
shape (and_of s t) = and_of (shape s) (shape t)
shape (or_of s t) = or_of (shape s) (shape t)

abbrev pub maybe_shape : Option Tree → Option Tree
maybe_shape None = None
maybe_shape (Some t) = Some (shape t)

abbrev pub filter_shape : Query → Option Tree
filter_shape (asked xs n t ns w) = maybe_shape t
