-- A query that a syntax asks of a schema is legal, and so joined as the syntax is.
use Rattle.std.proofs.Common.{◌≡◌, ℕ, zero, suc, ◌+◌, ◌*◌, ◌≤◌, ◌<◌, ◌^◌, ◌&&◌, List, [], ◌∷◌, map, length, Option, Some, None, Bool, true, false, ℤ, Result, Ok, refl, ap, sym, ◌∙◌, subst, arith, option_map, nat_le, ◌==◌}
use Rattle.std.proofs.lemmas.List.Elements.{All-cons, All-head, All-nil, All-tail}
use Rattle.std.proofs.lemmas.Slice.Eq.{bytes_eq-Decides}
use Rattle.std.specs.List.{All}
use Rattle.std.specs.Prelude.{bytes_eq, if◌then◌else◌, unsigned_abs}
use Rattle.rg_bytes.specs.Numbers.{whole_of, signed_of, number_of, value_of, is_number}
use Rattle.rg_event.specs.Codec.{IsValueOf}
use Rattle.rg_event.specs.Parsing.{in_range}
use Rattle.rg_event.specs.Words.{is_word}
use Rattle.rg_event.proofs.Laws.{in_bounds, number_below, text_fits}
use Rattle.rg_event.specs.Shapes.{Shape}
use Rattle.rg_event.specs.declared.schema.Field.{Field}
use Rattle.rg_event.specs.declared.value.Kind.{Kind}
use Rattle.rg_event.specs.declared.value.Kind.TheVariants as kind
use Rattle.rg_event.specs.declared.value.Value.{Value}
use Rattle.rg_event.specs.declared.value.Value.TheVariants.{Int as IntValue, Id as IdValue, Text as TextValue, Flag as FlagValue}
use Rattle.rg_keywords.specs.declared.func.Func.{Func}
use Rattle.rg_keywords.specs.declared.func.Func.TheVariants.{Pct}
use Rattle.rg_keywords.specs.declared.op.Op.{Op}
use Rattle.rg_keywords.specs.Words.{unit_millis}
use Rattle.rg_grammar.specs.Grammar as syntax
use Rattle.rg_grammar.specs.Grammar.{Name, named, Literal, digits, quoted, truth, Tree, compared, not_of, and_of, or_of, count_all, agg_of, pct_of, Span, span, windowed}
use Rattle.rg_grammar.specs.Printed.{CanWrite, AreWritable, IsWritable, is_plain, shape, filter_shape}
use Rattle.rg_query.specs.Written.{tree_of, syntax_of}
use Rattle.rg_metric.specs.Queries.{Asked}
use Rattle.rg_query.specs.declared.fault.QueryFault.{QueryFault}
use Rattle.rg_query.specs.declared.fault.QueryFault.TheVariants as fault
use Rattle.rg_query.specs.Legal.{IsColumn, IsField, IsPercent, IsOperand, IsLegalAgg, AreLegalAggs, IsComparison, IsLegalTest, IsLegalFilter, IsLegalLength, IsLegalQuery}
use Rattle.rg_query.specs.Printing.{name_at}
use Rattle.rg_metric.specs.Admitted.{takes}
use Rattle.rg_query.specs.Resolving.{in_hundred, or_no_percent, percent_of, pct_asked, column_from, column_named, or_else, first_in, unless_known, unknown_column, unknown_stream, unknown_in_agg, unknown_in_tree, in_filter, first_unknown, zero_only, id_of, unquoted, literal_value, literal_place, is_ordered, wrong_comparison, wrong_in_tree, wrong_field, wrong_agg, first_wrong, between, bad_span, first_bad, or_zero, column_of, agg_asked, or_false, value_asked, test_asked, or_no_time, length_asked, delay_asked, query_asked, refused_at, resolved}

-- nothing is refused where a query is asked

pub record IsAsked (shape : Shape) (query : syntax.Query) (q : Asked) : Type 0 where
  pub known : first_unknown shape query ≡ None
  pub right : first_wrong shape query ≡ None
  pub bounded : first_bad query ≡ None
  pub asks : query_asked shape query ≡ q

not_refused : (refusal : ℕ → QueryFault) (place : Option ℕ) (next : Result Asked QueryFault) (q : Asked) → refused_at refusal place next ≡ Ok q → (place ≡ None) × (next ≡ Ok q)
not_refused refusal None next q h = (refl, h)
not_refused refusal (Some place) next q h = absurd (cc)

pub is_asked : (shape : Shape) (query : syntax.Query) (q : Asked) → resolved shape query ≡ Ok q → IsAsked shape query q
is_asked shape query q h =
    let a : (first_unknown shape query ≡ None) × (refused_at fault.WrongKind (first_wrong shape query) (refused_at fault.BadSpan (first_bad query) (Ok (query_asked shape query))) ≡ Ok q) = not_refused fault.UnknownName (first_unknown shape query) _ q h in
    let b : (first_wrong shape query ≡ None) × (refused_at fault.BadSpan (first_bad query) (Ok (query_asked shape query)) ≡ Ok q) = not_refused fault.WrongKind (first_wrong shape query) _ q a.1 in
    let c : (first_bad query ≡ None) × (◌≡◌ {A = Result Asked QueryFault} (Ok (query_asked shape query)) (Ok q)) = not_refused fault.BadSpan (first_bad query) _ q b.1 in
    record { known = a.0; right = b.0; bounded = c.0; asks = cc (c.1) }

pub asked_is : (shape : Shape) (query : syntax.Query) (q : Asked) → IsAsked shape query q → resolved shape query ≡ Ok q
asked_is shape query q h = rw (h.known, h.right, h.bounded) (ap (λ x. Ok x) h.asks)

pub no_place : (a b : Option ℕ) → or_else a b ≡ None → (a ≡ None) × (b ≡ None)
no_place None b h = (refl, h)
no_place (Some place) b h = absurd (cc)

-- columns

record IsFound (k : ℕ) (fields : List Field) (name : List ℕ) (n : ℕ) : Type 0 where
  ahead : ℕ
  counted : n ≡ k + ahead
  named : name_at (suc ahead) fields ≡ name

same_bytes : (xs ys : List ℕ) → bytes_eq xs ys ≡ true → xs ≡ ys
same_bytes xs ys h = grind (arith, bytes_eq-Decides xs ys)

found_name : (k : ℕ) (fields : List Field) (name : List ℕ) (n : ℕ) (kind : Kind) → column_from k fields name ≡ Some (n, kind) → IsFound k fields name n
found_name k [] name n kind e = absurd (cc)
found_name k (field ∷ fields) name n kind e = by_test (bytes_eq field.name name) refl e (λ f. found_name (k + 1) fields name n kind f)
  where
    by_test : (same : Bool) → bytes_eq field.name name ≡ same → (if same then Some (k, field.kind) else column_from (k + 1) fields name) ≡ Some (n, kind)
        → (column_from (k + 1) fields name ≡ Some (n, kind) → IsFound (k + 1) fields name n) → IsFound k (field ∷ fields) name n
    by_test true t f next = let both : ◌≡◌ {A = ℕ × Kind} (k, field.kind) (n, kind) = cc in let i : k ≡ n = ap (λ (x : ℕ × Kind). x.0) both in record { ahead = 0; counted = omega arith; named = same_bytes field.name name t }
    by_test false t f next =
        let r : IsFound (k + 1) fields name n = next f in
        record { ahead = suc r.ahead; counted = omega (arith, r.counted); named = r.named }

-- a column that a name finds is found by its own name
pub column_is : (shape : Shape) (name : List ℕ) (n : ℕ) (k : Kind) → column_named shape name ≡ Some (n, k) → column_named shape (name_at n shape.fields) ≡ Some (n, k)
column_is shape name n k h =
    let r : IsFound 1 shape.fields name n = found_name 1 shape.fields name n k h in
    let i : suc r.ahead ≡ n = omega (arith, r.counted) in
    ap (column_named shape) (ap (λ m. name_at m shape.fields) (sym i) ∙ r.named) ∙ h

-- literals

known : {A : Type 0} (p : ℕ) (o : Option A) → unless_known p o ≡ None → (a : A) × (o ≡ Some a)
known p None h = absurd (cc)
known p (Some a) h = (a, refl)

only_zero : (o : Option ℕ) (n : ℕ) → zero_only o ≡ Some n → n ≡ 0
only_zero None n h = absurd (cc)
only_zero (Some m) n h = by_test (m == 0) h
  where
    by_test : (b : Bool) → (if b then Some 0 else None) ≡ Some n → n ≡ 0
    by_test true g = cc
    by_test false g = absurd (cc)

id_below : (text : List ℕ) (n : ℕ) → id_of text ≡ Some n → n < 2 ^ 64
id_below [] n h = absurd (cc)
id_below (byte ∷ text) n h = by_test (byte == 45) h
  where
    by_test : (b : Bool) → (if b then zero_only (whole_of text) else whole_of (byte ∷ text)) ≡ Some n → n < 2 ^ 64
    by_test true g = omega (arith, only_zero (whole_of text) n g)
    by_test false g = omega (arith, number_below 18446744073709551615 (byte ∷ text) n g)

id_fits : (text : List ℕ) (o : Option ℕ) (v : Value) → id_of text ≡ o → option_map IdValue o ≡ Some v → IsValueOf kind.Id v
id_fits text None v e h = absurd (cc)
id_fits text (Some n) v e h = let i : IdValue n ≡ v = cc in subst (IsValueOf kind.Id) i (id_below text n e)

value_fits : (k : Kind) (l : Literal) (v : Value) → literal_value k l ≡ Some v → IsValueOf k v
value_fits kind.Int (digits p text) v h = in_bounds (signed_of text) v h
value_fits kind.Id (digits p text) v h = id_fits text (id_of text) v refl h
value_fits kind.Text (quoted p text) v h = text_fits (unquoted text) (is_word (unquoted text)) v refl h
value_fits kind.Flag (truth p b) v h = let i : FlagValue b ≡ v = cc in subst (IsValueOf kind.Flag) i tt
value_fits k l v h = absurd (cc)

-- conditions

comparison_is : (shape : Shape) (p : ℕ) (name : List ℕ) (op : Op) (l : Literal) (o : Option (ℕ × Kind)) → column_named shape name ≡ o → unless_known p o ≡ None → wrong_comparison p op l o ≡ None →
    IsComparison shape (or_zero o) op (value_asked o l)
comparison_is shape p name op l None e g h = absurd (cc)
comparison_is shape p name op l (Some (n, k)) e g h = by_test (is_ordered k op) refl h
  where
    by_test : (b : Bool) → is_ordered k op ≡ b → (if b then unless_known (literal_place l) (literal_value k l) else Some p) ≡ None → IsComparison shape n op (or_false (literal_value k l))
    by_test false t i = absurd (cc)
    by_test true t i =
        let v : (v : Value) × (literal_value k l ≡ Some v) = known (literal_place l) (literal_value k l) i in
        record { kind = k; found = column_is shape name n k e; ordered = t; fits = subst (IsValueOf k) (sym (ap or_false v.1)) (value_fits k l v.0 v.1) }

pub test_is : (shape : Shape) (t : Tree) → unknown_in_tree shape t ≡ None → wrong_in_tree shape t ≡ None → IsLegalTest shape (test_asked shape t)
test_is shape (compared (named p name) op l) u w = comparison_is shape p name op l (column_named shape name) refl u w
test_is shape (not_of t) u w = test_is shape t u w
test_is shape (and_of s t) u w =
    let a : (unknown_in_tree shape s ≡ None) × (unknown_in_tree shape t ≡ None) = no_place (unknown_in_tree shape s) (unknown_in_tree shape t) u in
    let b : (wrong_in_tree shape s ≡ None) × (wrong_in_tree shape t ≡ None) = no_place (wrong_in_tree shape s) (wrong_in_tree shape t) w in
    (test_is shape s a.0 b.0, test_is shape t a.1 b.1)
test_is shape (or_of s t) u w =
    let a : (unknown_in_tree shape s ≡ None) × (unknown_in_tree shape t ≡ None) = no_place (unknown_in_tree shape s) (unknown_in_tree shape t) u in
    let b : (wrong_in_tree shape s ≡ None) × (wrong_in_tree shape t ≡ None) = no_place (wrong_in_tree shape s) (wrong_in_tree shape t) w in
    (test_is shape s a.0 b.0, test_is shape t a.1 b.1)

filter_is : (shape : Shape) (filter : Option Tree) → in_filter (unknown_in_tree shape) filter ≡ None → in_filter (wrong_in_tree shape) filter ≡ None → IsLegalFilter shape (option_map (test_asked shape) filter)
filter_is shape None u w = tt
filter_is shape (Some t) u w = test_is shape t u w

-- aggregators

operand_is : (shape : Shape) (func : Func) (n : ℕ) → 1 ≤ n → IsField shape func n → IsOperand shape func n
operand_is shape func zero low h = absurd (omega arith)
operand_is shape func (suc n) low h = h

field_is : (shape : Shape) (p : ℕ) (name : List ℕ) (func : Func) (o : Option (ℕ × Kind)) → IsPercent func → column_named shape name ≡ o → unless_known p o ≡ None → wrong_field func p o ≡ None → IsOperand shape func (or_zero o)
field_is shape p name func None percent e g h = absurd (cc)
field_is shape p name func (Some (n, k)) percent e g h = by_test (takes func k) refl h
  where
    by_test : (b : Bool) → takes func k ≡ b → (if b then None else Some p) ≡ None → IsOperand shape func n
    by_test false t i = absurd (cc)
    by_test true t i =
        let r : IsFound 1 shape.fields name n = found_name 1 shape.fields name n k e in
        operand_is shape func n (omega (arith, r.counted)) (record { kind = k; found = column_is shape name n k e; taken = t; percent = percent })

plain_percent : (func : Func) → is_plain func ≡ true → IsPercent func
plain_percent (Pct percent) h = absurd (cc)
plain_percent _ h = tt

percent_is : (p : ℕ) (o : Option ℕ) → unless_known p (in_hundred o) ≡ None → (1 ≤ or_no_percent (in_hundred o)) × (or_no_percent (in_hundred o) ≤ 100)
percent_is p None h = absurd (cc)
percent_is p (Some n) h = by_test (nat_le 1 n) (nat_le n 100) refl refl
  where
    by_test : (a b : Bool) → nat_le 1 n ≡ a → nat_le n 100 ≡ b → (1 ≤ or_no_percent (in_hundred (Some n))) × (or_no_percent (in_hundred (Some n)) ≤ 100)
    by_test true true e f = rw (e, f) (grind (arith, e), grind (arith, f))
    by_test true false e f = absurd (let u : unless_known p (in_hundred (Some n)) ≡ Some p = rw (e, f) refl in let w : Some p ≡ None = sym u ∙ h in cc)
    by_test false b e f = absurd (let u : unless_known p (in_hundred (Some n)) ≡ Some p = rw e refl in let w : Some p ≡ None = sym u ∙ h in cc)

agg_is : (shape : Shape) (a : syntax.Agg) → IsWritable a → unknown_in_agg shape a ≡ None → wrong_agg shape a ≡ None → IsLegalAgg shape (agg_asked shape a)
agg_is shape count_all c u w = refl
agg_is shape (agg_of func (named p name)) c u w = field_is shape p name func (column_named shape name) (plain_percent func c) refl u w
agg_is shape (pct_of p text (named q name)) c u w =
    let v : (unless_known p (percent_of text) ≡ None) × (wrong_field (pct_asked text) q (column_named shape name) ≡ None) = no_place (unless_known p (percent_of text)) (wrong_field (pct_asked text) q (column_named shape name)) w in
    field_is shape q name (pct_asked text) (column_named shape name) (percent_is p (whole_of text) v.0) refl u v.1

aggs_are : (shape : Shape) (aggs : List syntax.Agg) → All IsWritable aggs → first_in (unknown_in_agg shape) aggs ≡ None → first_in (wrong_agg shape) aggs ≡ None → All (IsLegalAgg shape) (map (agg_asked shape) aggs)
aggs_are shape [] c u w = All-nil (IsLegalAgg shape)
aggs_are shape (a ∷ aggs) c u w =
    let v : (unknown_in_agg shape a ≡ None) × (first_in (unknown_in_agg shape) aggs ≡ None) = no_place (unknown_in_agg shape a) (first_in (unknown_in_agg shape) aggs) u in
    let x : (wrong_agg shape a ≡ None) × (first_in (wrong_agg shape) aggs ≡ None) = no_place (wrong_agg shape a) (first_in (wrong_agg shape) aggs) w in
    All-cons (IsLegalAgg shape) (agg_asked shape a) (map (agg_asked shape) aggs) (agg_is shape a (All-head IsWritable a aggs c) v.0 x.0) (aggs_are shape aggs (All-tail IsWritable a aggs c) v.1 x.1)

some_aggs : (shape : Shape) (aggs : List syntax.Agg) → AreWritable aggs → first_in (unknown_in_agg shape) aggs ≡ None → first_in (wrong_agg shape) aggs ≡ None → AreLegalAggs shape (map (agg_asked shape) aggs)
some_aggs shape [] c u w = absurd c
some_aggs shape (a ∷ aggs) c u w = aggs_are shape (a ∷ aggs) c u w

-- the key

column_found : (shape : Shape) (p : ℕ) (name : List ℕ) (o : Option (ℕ × Kind)) → column_named shape name ≡ o → unless_known p o ≡ None → IsColumn shape (or_zero o)
column_found shape p name None e g = absurd (cc)
column_found shape p name (Some (n, k)) e g = record { kind = k; found = column_is shape name n k e }

columns_are : (shape : Shape) (names : List Name) → first_in (unknown_column shape) names ≡ None → All (IsColumn shape) (map (column_of shape) names)
columns_are shape [] u = All-nil (IsColumn shape)
columns_are shape (named p name ∷ names) u =
    let v : (unknown_column shape (named p name) ≡ None) × (first_in (unknown_column shape) names ≡ None) = no_place (unknown_column shape (named p name)) (first_in (unknown_column shape) names) u in
    All-cons (IsColumn shape) (column_of shape (named p name)) (map (column_of shape) names) (column_found shape p name (column_named shape name) refl v.0) (columns_are shape names v.1)

-- spans

between_is : (low : ℕ) (o : Option ℕ) (n : ℕ) → between low o ≡ Some n → (low ≤ n) × (n ≤ 1000000000000000)
between_is low None n h = absurd (cc)
between_is low (Some m) n h = by_test (nat_le low m) (nat_le m 1000000000000000) refl refl h
  where
    by_test : (a b : Bool) → nat_le low m ≡ a → nat_le m 1000000000000000 ≡ b → (if a && b then Some m else None) ≡ Some n → (low ≤ n) × (n ≤ 1000000000000000)
    by_test true true e f g = let i : m ≡ n = cc in (grind (arith, e, i), grind (arith, f, i))
    by_test true false e f g = absurd (cc)
    by_test false b e f g = absurd (cc)

span_is : (low p : ℕ) (o : Option ℕ) → unless_known p (between low o) ≡ None → (low ≤ or_no_time (between low o)) × (or_no_time (between low o) ≤ 1000000000000000)
span_is low p o h =
    let n : (n : ℕ) × (between low o ≡ Some n) = known p (between low o) h in
    let b : (low ≤ n.0) × (n.0 ≤ 1000000000000000) = between_is low o n.0 n.1 in
    let e : or_no_time (between low o) ≡ n.0 = ap or_no_time n.1 in
    (omega (arith, e, b.0), omega (arith, e, b.1))

length_is : (length : Option Span) → bad_span 1 length ≡ None → IsLegalLength (length_asked length)
length_is None h = tt
length_is (Some (span p text unit)) h = span_is 1 p (option_map (λ n. n * unit_millis unit) (whole_of text)) h

delay_is : (delay : Option Span) → bad_span 0 delay ≡ None → delay_asked delay ≤ 1000000000000000
delay_is None h = omega arith
delay_is (Some (span p text unit)) h = (span_is 0 p (option_map (λ n. n * unit_millis unit) (whole_of text)) h).1

-- what is asked is legal

legal_asked : (shape : Shape) (query : syntax.Query) → CanWrite query → first_unknown shape query ≡ None → first_wrong shape query ≡ None → first_bad query ≡ None → IsLegalQuery shape (query_asked shape query)
legal_asked shape (syntax.asked aggs stream filter group (windowed length delay)) c u w b =
    let u1 : (first_in (unknown_in_agg shape) aggs ≡ None) × (or_else (unknown_stream shape stream) (or_else (in_filter (unknown_in_tree shape) filter) (first_in (unknown_column shape) group)) ≡ None) = no_place _ _ u in
    let u2 : (unknown_stream shape stream ≡ None) × (or_else (in_filter (unknown_in_tree shape) filter) (first_in (unknown_column shape) group) ≡ None) = no_place _ _ u1.1 in
    let u3 : (in_filter (unknown_in_tree shape) filter ≡ None) × (first_in (unknown_column shape) group ≡ None) = no_place _ _ u2.1 in
    let w1 : (first_in (wrong_agg shape) aggs ≡ None) × (in_filter (wrong_in_tree shape) filter ≡ None) = no_place _ _ w in
    let b1 : (bad_span 1 length ≡ None) × (bad_span 0 delay ≡ None) = no_place _ _ b in
    record {
      aggs = some_aggs shape aggs c u1.0 w1.0;
      filter = filter_is shape filter u3.0 w1.1;
      group = columns_are shape group u3.1;
      length = length_is length b1.0;
      delay = delay_is delay b1.1;
    }

pub legal : (shape : Shape) (query : syntax.Query) (q : Asked) → CanWrite query → IsAsked shape query q → IsLegalQuery shape q
legal shape query q c h = subst (IsLegalQuery shape) h.asks (legal_asked shape query c h.known h.right h.bounded)

-- the condition is joined as the syntax's is

tree_shape : (s : Shape) (t : Tree) → shape (tree_of s (test_asked s t)) ≡ shape t
tree_shape s (compared (named p name) op l) = refl
tree_shape s (not_of t) = ap not_of (tree_shape s t)
tree_shape s (and_of t u) = ap (λ x. and_of x (shape (tree_of s (test_asked s u)))) (tree_shape s t) ∙ ap (and_of (shape t)) (tree_shape s u)
tree_shape s (or_of t u) = ap (λ x. or_of x (shape (tree_of s (test_asked s u)))) (tree_shape s t) ∙ ap (or_of (shape t)) (tree_shape s u)

asked_shape : (s : Shape) (query : syntax.Query) → filter_shape (syntax_of s (query_asked s query)) ≡ filter_shape query
asked_shape s (syntax.asked aggs stream None group (windowed length delay)) = refl
asked_shape s (syntax.asked aggs stream (Some t) group (windowed length delay)) = ap (λ u. Some u) (tree_shape s t)

pub same_shape : (s : Shape) (query : syntax.Query) (q : Asked) → IsAsked s query q → filter_shape (syntax_of s q) ≡ filter_shape query
same_shape s query q h = ap (λ x. filter_shape (syntax_of s x)) (sym h.asks) ∙ asked_shape s query
