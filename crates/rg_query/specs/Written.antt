-- The syntax that is printed for a query. Its words have no places.
use Rattle.std.specs.Prelude.{ℕ, zero, suc, map, decimal, Option, Some, None, option_map}
use Rattle.std.specs.Fmt.{signed_decimal}
use Rattle.rg_event.specs.Shapes.{Shape}
use Rattle.rg_event.specs.declared.value.Value.{Value}
use Rattle.rg_event.specs.declared.value.Value.TheVariants.{Int, Id, Text, Flag}
use Rattle.rg_keywords.specs.declared.func.Func.{Func}
use Rattle.rg_keywords.specs.declared.func.Func.TheVariants.{Pct}
use Rattle.rg_grammar.specs.Grammar as syntax
use Rattle.rg_grammar.specs.Grammar.{Name, named, Literal, digits, quoted, truth, Tree, compared, not_of, and_of, or_of, count_all, agg_of, pct_of, SpanTree, maybe_span, windowed, QueryTree}
use Rattle.rg_grammar.specs.Printed.{written_span, written_query}
use Rattle.rg_metric.specs.Conditions as test
use Rattle.rg_metric.specs.Conditions.{Test}
use Rattle.rg_metric.specs.Queries.{Asked}
use Rattle.rg_metric.specs.declared.query.Agg.{Agg}
use Rattle.rg_query.specs.Printing.{name_at, literal_text}

abbrev pub column_name : Shape → ℕ → Name
column_name shape n = named 0 (name_at n shape.fields)

abbrev pub literal_of : Value → Literal
literal_of (Int n) = digits 0 (signed_decimal n)
literal_of (Id n) = digits 0 (decimal n)
literal_of (Text text) = quoted 0 (literal_text (Text text))
literal_of (Flag flag) = truth 0 flag

abbrev pub tree_of : Shape → Test → Tree
tree_of shape (test.compared column op value) = compared (column_name shape column) op (literal_of value)
tree_of shape (test.not_of t) = not_of (tree_of shape t)
tree_of shape (test.and_of s t) = and_of (tree_of shape s) (tree_of shape t)
tree_of shape (test.or_of s t) = or_of (tree_of shape s) (tree_of shape t)

abbrev pub field_call : Func → Name → syntax.Agg
field_call (Pct percent) name = pct_of 0 (decimal percent) name
field_call func name = agg_of func name

abbrev pub call_of : Shape → Func → ℕ → syntax.Agg
call_of shape func zero = count_all
call_of shape func (suc n) = field_call func (column_name shape (suc n))

abbrev pub call_of_agg : Shape → Agg → syntax.Agg
call_of_agg shape agg = call_of shape agg.func agg.field

abbrev pub length_of : Option ℕ → Option SpanTree
length_of None = None
length_of (Some n) = Some (written_span (decimal n))

-- a delay of 0 isn't printed
abbrev pub delay_of : ℕ → Option SpanTree
delay_of zero = None
delay_of (suc n) = Some (written_span (decimal (suc n)))

abbrev pub syntax_of : Shape → Asked → syntax.Query
syntax_of shape q = syntax.asked (map (call_of_agg shape) q.aggs) (named 0 shape.stream) (option_map (tree_of shape) q.filter) (map (column_name shape) q.group) (windowed (maybe_span (length_of q.window.length)) (maybe_span (delay_of q.window.delay)))

abbrev pub written : Shape → Asked → QueryTree
written shape q = written_query (syntax_of shape q) (length_of q.window.length) (delay_of q.window.delay)
