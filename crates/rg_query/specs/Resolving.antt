-- What a query's syntax asks of a stream with a schema: its names looked up, its literals and spans read.
use Rattle.std.specs.Prelude.{ℕ, ◌+◌, ◌*◌, nat_le, ◌&&◌, ◌==◌, Bool, true, false, List, [], ◌∷◌, map, Option, Some, None, option_map, Result, Ok, Err, bytes_eq, if◌then◌else◌}
use Rattle.rg_bytes.specs.Numbers.{whole_of, signed_of}
use Rattle.rg_event.specs.Parsing.{in_range}
use Rattle.rg_event.specs.Words.{is_word}
use Rattle.rg_event.specs.Shapes.{Shape}
use Rattle.rg_event.specs.declared.schema.Field.{Field}
use Rattle.rg_event.specs.declared.value.Kind.{Kind}
use Rattle.rg_event.specs.declared.value.Kind.TheVariants.{Int, Id, Text, Flag}
use Rattle.rg_event.specs.declared.value.Value.{Value}
use Rattle.rg_event.specs.declared.value.Value.TheVariants.{Int as IntValue, Id as IdValue, Text as TextValue, Flag as FlagValue}
use Rattle.rg_keywords.specs.declared.func.Func.{Func}
use Rattle.rg_keywords.specs.declared.func.Func.TheVariants.{Count, Pct}
use Rattle.rg_keywords.specs.declared.op.Op.{Op}
use Rattle.rg_keywords.specs.declared.op.Op.TheVariants.{Eq, Ne}
use Rattle.rg_keywords.specs.Words.{unit_millis}
use Rattle.rg_grammar.specs.Grammar as syntax
use Rattle.rg_grammar.specs.Grammar.{Name, named, Literal, digits, quoted, truth, Tree, compared, not_of, and_of, or_of, count_all, agg_of, pct_of, Span, span, windowed, is_signed}
use Rattle.rg_metric.specs.Admitted.{takes}
use Rattle.rg_metric.specs.Conditions as test
use Rattle.rg_metric.specs.Conditions.{Test}
use Rattle.rg_metric.specs.Queries.{Asked}
use Rattle.rg_metric.specs.declared.query.Agg.{Agg}
use Rattle.rg_query.specs.declared.fault.QueryFault.{QueryFault}
use Rattle.rg_query.specs.declared.fault.QueryFault.TheVariants as fault

-- a column by its name: its number, counted from 1, and its kind
abbrev pub column_from : ℕ → List Field → List ℕ → Option (ℕ × Kind)
column_from n [] name = None
column_from n (field ∷ fields) name = if bytes_eq field.name name then Some (n, field.kind) else column_from (n + 1) fields name

abbrev pub column_named : Shape → List ℕ → Option (ℕ × Kind)
column_named shape name = column_from 1 shape.fields name

-- the first place, of two parts of a text
abbrev pub or_else : Option ℕ → Option ℕ → Option ℕ
or_else None next = next
or_else (Some place) next = Some place

-- the first place that a list's members give
abbrev pub first_in : {A : Type 0} → (A → Option ℕ) → List A → Option ℕ
first_in at [] = None
first_in at (x ∷ xs) = or_else (at x) (first_in at xs)

-- Names that nothing has

abbrev pub unless_known : {A : Type 0} → ℕ → Option A → Option ℕ
unless_known place None = Some place
unless_known place (Some a) = None

-- a name that no column past the time has
abbrev pub unknown_column : Shape → Name → Option ℕ
unknown_column shape (named place text) = unless_known place (column_named shape text)

abbrev pub unknown_stream : Shape → Name → Option ℕ
unknown_stream shape (named place text) = if bytes_eq shape.stream text then None else Some place

abbrev pub unknown_in_agg : Shape → syntax.Agg → Option ℕ
unknown_in_agg shape count_all = None
unknown_in_agg shape (agg_of func name) = unknown_column shape name
unknown_in_agg shape (pct_of place text name) = unknown_column shape name

abbrev pub unknown_in_tree : Shape → Tree → Option ℕ
unknown_in_tree shape (compared name op literal) = unknown_column shape name
unknown_in_tree shape (not_of t) = unknown_in_tree shape t
unknown_in_tree shape (and_of s t) = or_else (unknown_in_tree shape s) (unknown_in_tree shape t)
unknown_in_tree shape (or_of s t) = or_else (unknown_in_tree shape s) (unknown_in_tree shape t)

abbrev pub in_filter : (Tree → Option ℕ) → Option Tree → Option ℕ
in_filter at None = None
in_filter at (Some t) = at t

-- where the first name stands that isn't the stream's, behind FROM, or a column's, elsewhere
abbrev pub first_unknown : Shape → syntax.Query → Option ℕ
first_unknown shape (syntax.asked aggs stream filter group window) =
    or_else (first_in (unknown_in_agg shape) aggs) (or_else (unknown_stream shape stream) (or_else (in_filter (unknown_in_tree shape) filter) (first_in (unknown_column shape) group)))

-- Fields and literals of a wrong kind

-- the number of an id, in digits or as a minus and zeros
abbrev pub zero_only : Option ℕ → Option ℕ
zero_only None = None
zero_only (Some n) = if n == 0 then Some 0 else None

abbrev pub id_of : List ℕ → Option ℕ
id_of [] = None
id_of (byte ∷ text) = if byte == 45 then zero_only (whole_of text) else whole_of (byte ∷ text)

-- the bytes inside of quotes, each two quotes as one, up to the quote that ends them
abbrev mutual
  pub inside : List ℕ → List ℕ
  inside [] = []
  inside (byte ∷ text) = if byte == 39 then behind_quote text else byte ∷ inside text

  pub behind_quote : List ℕ → List ℕ
  behind_quote [] = []
  behind_quote (byte ∷ text) = 39 ∷ inside text

abbrev pub unquoted : List ℕ → List ℕ
unquoted [] = []
unquoted (byte ∷ text) = inside text

-- what a literal is as a value of a kind, where it is one
abbrev pub literal_value : Kind → Literal → Option Value
literal_value Int (digits place text) = option_map IntValue (in_range (signed_of text))
literal_value Id (digits place text) = option_map IdValue (id_of text)
literal_value Text (quoted place text) = if is_word (unquoted text) then Some (TextValue (unquoted text)) else None
literal_value Flag (truth place flag) = Some (FlagValue flag)
literal_value kind literal = None

abbrev pub literal_place : Literal → ℕ
literal_place (digits place text) = place
literal_place (quoted place text) = place
literal_place (truth place flag) = place

-- flags have no order
abbrev pub is_ordered : Kind → Op → Bool
is_ordered Flag Eq = true
is_ordered Flag Ne = true
is_ordered Flag op = false
is_ordered kind op = true

abbrev pub wrong_comparison : ℕ → Op → Literal → Option (ℕ × Kind) → Option ℕ
wrong_comparison place op literal None = None
wrong_comparison place op literal (Some (column, kind)) =
    if is_ordered kind op then unless_known (literal_place literal) (literal_value kind literal) else Some place

abbrev pub wrong_in_tree : Shape → Tree → Option ℕ
wrong_in_tree shape (compared (named place text) op literal) = wrong_comparison place op literal (column_named shape text)
wrong_in_tree shape (not_of t) = wrong_in_tree shape t
wrong_in_tree shape (and_of s t) = or_else (wrong_in_tree shape s) (wrong_in_tree shape t)
wrong_in_tree shape (or_of s t) = or_else (wrong_in_tree shape s) (wrong_in_tree shape t)

abbrev pub wrong_field : Func → ℕ → Option (ℕ × Kind) → Option ℕ
wrong_field func place None = None
wrong_field func place (Some (column, kind)) = if takes func kind then None else Some place

-- a percent from 1 to 100
abbrev pub in_hundred : Option ℕ → Option ℕ
in_hundred None = None
in_hundred (Some n) = if nat_le 1 n && nat_le n 100 then Some n else None

abbrev pub percent_of : List ℕ → Option ℕ
percent_of text = in_hundred (whole_of text)

abbrev pub or_no_percent : Option ℕ → ℕ
or_no_percent None = 0
or_no_percent (Some n) = n

-- the percentile that a number asks
abbrev pub pct_asked : List ℕ → Func
pct_asked text = Pct (or_no_percent (percent_of text))

abbrev pub wrong_agg : Shape → syntax.Agg → Option ℕ
wrong_agg shape count_all = None
wrong_agg shape (agg_of func (named place text)) = wrong_field func place (column_named shape text)
wrong_agg shape (pct_of place percent (named at text)) = or_else (unless_known place (percent_of percent)) (wrong_field (pct_asked percent) at (column_named shape text))

-- where the first percent, field or literal stands that is wrong
abbrev pub first_wrong : Shape → syntax.Query → Option ℕ
first_wrong shape (syntax.asked aggs stream filter group window) = or_else (first_in (wrong_agg shape) aggs) (in_filter (wrong_in_tree shape) filter)

-- Spans that are too long, or nothing

-- how many milliseconds a span is, where that is within bounds
abbrev pub between : ℕ → Option ℕ → Option ℕ
between low None = None
between low (Some n) = if nat_le low n && nat_le n 1000000000000000 then Some n else None

abbrev pub millis_of : ℕ → Span → Option ℕ
millis_of low (span place text unit) = between low (option_map (λ n. n * unit_millis unit) (whole_of text))

abbrev pub bad_span : ℕ → Option Span → Option ℕ
bad_span low None = None
bad_span low (Some (span place text unit)) = unless_known place (millis_of low (span place text unit))

-- where the first span stands that is above 10^15 ms, or 0 behind SLIDING
abbrev pub first_bad : syntax.Query → Option ℕ
first_bad (syntax.asked aggs stream filter group (windowed length delay)) = or_else (bad_span 1 length) (bad_span 0 delay)

-- What is asked, where nothing is unknown, wrong or bad

abbrev pub or_zero : Option (ℕ × Kind) → ℕ
or_zero None = 0
or_zero (Some (column, kind)) = column

abbrev pub column_of : Shape → Name → ℕ
column_of shape (named place text) = or_zero (column_named shape text)

abbrev pub agg_asked : Shape → syntax.Agg → Agg
agg_asked shape count_all = record { func = Count; field = 0 }
agg_asked shape (agg_of func name) = record { func = func; field = column_of shape name }
agg_asked shape (pct_of place percent name) = record { func = pct_asked percent; field = column_of shape name }

abbrev pub or_false : Option Value → Value
or_false None = FlagValue false
or_false (Some value) = value

abbrev pub value_asked : Option (ℕ × Kind) → Literal → Value
value_asked None literal = FlagValue false
value_asked (Some (column, kind)) literal = or_false (literal_value kind literal)

abbrev pub test_asked : Shape → Tree → Test
test_asked shape (compared (named place text) op literal) = test.compared (column_of shape (named place text)) op (value_asked (column_named shape text) literal)
test_asked shape (not_of t) = test.not_of (test_asked shape t)
test_asked shape (and_of s t) = test.and_of (test_asked shape s) (test_asked shape t)
test_asked shape (or_of s t) = test.or_of (test_asked shape s) (test_asked shape t)

abbrev pub or_no_time : Option ℕ → ℕ
or_no_time None = 0
or_no_time (Some n) = n

abbrev pub length_asked : Option Span → Option ℕ
length_asked None = None
length_asked (Some s) = Some (or_no_time (millis_of 1 s))

abbrev pub delay_asked : Option Span → ℕ
delay_asked None = 0
delay_asked (Some s) = or_no_time (millis_of 0 s)

abbrev pub query_asked : Shape → syntax.Query → Asked
query_asked shape (syntax.asked aggs stream filter group (windowed length delay)) = record {
  aggs = map (agg_asked shape) aggs;
  filter = option_map (test_asked shape) filter;
  group = map (column_of shape) group;
  window = record { delay = delay_asked delay; length = length_asked length };
}

abbrev pub refused_at : {A : Type 0} → (ℕ → QueryFault) → Option ℕ → Result A QueryFault → Result A QueryFault
refused_at refusal None next = next
refused_at refusal (Some place) next = Err (refusal place)

-- what the query asks, or why it asks nothing: first a name that nothing has, then a percent, a field or a literal that is wrong, then a bad span
abbrev pub resolved : Shape → syntax.Query → Result Asked QueryFault
resolved shape query =
    refused_at fault.UnknownName (first_unknown shape query)
    (refused_at fault.WrongKind (first_wrong shape query)
    (refused_at fault.BadSpan (first_bad query) (Ok (query_asked shape query))))
