-- What the parts of a query ask, each by itself, where its names are known.
use Rattle.std.specs.Prelude.{◌≡◌, ◌⊎◌, ℕ, List, Option, Some, map, option_map, Result, Ok, Err}
use Rattle.rg_event.specs.Shapes.{Shape}
use Rattle.rg_grammar.specs.Grammar as syntax
use Rattle.rg_keywords.specs.declared.func.Func.{Func}
use Rattle.rg_grammar.specs.Grammar.{Name, named, Tree, Span, windowed}
use Rattle.rg_metric.specs.Conditions.{Test}
use Rattle.rg_metric.specs.declared.query.Agg.{Agg}
use Rattle.rg_metric.specs.declared.query.Window.{Window}
use Rattle.rg_query.specs.Resolving.{refused_at, column_named, wrong_field, first_in, in_filter, wrong_agg, wrong_in_tree, agg_asked, test_asked, column_of, bad_span, or_else, delay_asked, length_asked, or_no_time, millis_of}
use Rattle.rg_query.specs.declared.fault.QueryFault.{QueryFault}
use Rattle.rg_query.specs.declared.fault.QueryFault.TheVariants as fault

-- an answer, seen in this way, is what is meant, unless memory ran out
abbrev pub Gives : {A B : Type 0} → (A → B) → Result B QueryFault → Result A QueryFault → Type 0
Gives view meant (Ok a) = meant ≡ Ok (view a)
Gives view meant (Err why) = (meant ≡ Err why) ⊎ (why ≡ fault.Memory)

-- as it is
abbrev pub same : {A : Type 0} → A → A
same a = a

-- an aggregator, or where its field is of a kind that it doesn't take; then a list of them
abbrev pub agg_meant : Shape → syntax.Agg → Result Agg QueryFault
agg_meant shape agg = refused_at fault.WrongKind (wrong_agg shape agg) (Ok (agg_asked shape agg))

-- a function of a column, or where that stands if the function doesn't take its kind
abbrev pub field_meant : Shape → Func → Name → Result Agg QueryFault
field_meant shape func (named place text) = refused_at fault.WrongKind (wrong_field func place (column_named shape text)) (Ok (record { func = func; field = column_of shape (named place text) }))

abbrev pub aggs_meant : Shape → List syntax.Agg → Result (List Agg) QueryFault
aggs_meant shape aggs = refused_at fault.WrongKind (first_in (wrong_agg shape) aggs) (Ok (map (agg_asked shape) aggs))

-- a condition, or where its first wrong field or literal stands; then one that may be left out
abbrev pub test_meant : Shape → Tree → Result Test QueryFault
test_meant shape t = refused_at fault.WrongKind (wrong_in_tree shape t) (Ok (test_asked shape t))

abbrev pub filter_meant : Shape → Option Tree → Result (Option Test) QueryFault
filter_meant shape filter = refused_at fault.WrongKind (in_filter (wrong_in_tree shape) filter) (Ok (option_map (test_asked shape) filter))

-- the columns of a key: any kind will do
abbrev pub group_meant : Shape → List Name → Result (List ℕ) QueryFault
group_meant shape names = Ok (map (column_of shape) names)

-- a span of at least so many milliseconds, or where its number stands; then the two of a window
abbrev pub span_meant : ℕ → Span → Result ℕ QueryFault
span_meant least lasting = refused_at fault.BadSpan (bad_span least (Some lasting)) (Ok (or_no_time (millis_of least lasting)))

abbrev pub window_meant : Option Span → Option Span → Result Window QueryFault
window_meant length delay =
    refused_at fault.BadSpan (or_else (bad_span 1 length) (bad_span 0 delay)) (Ok (record { delay = delay_asked delay; length = length_asked length }))
