-- Each token of a query that is written is read as itself.
use Rattle.std.proofs.Common.{◌≡◌, ℕ, zero, suc, ◌+◌, ◌≤◌, ◌<◌, List, [], ◌∷◌, map, length, Option, Some, None, Bool, true, false, ap, sym, subst, arith, option_map}
use Rattle.std.proofs.lemmas.List.Elements.{All-head, All-tail}
use Rattle.std.specs.List.{All}
use Rattle.std.specs.Prelude.{IsTrue, bytes_eq, if◌then◌else◌}
use Rattle.rg_event.specs.Names.{is_name}
use Rattle.rg_event.specs.Shapes.{Shape, IsSchema}
use Rattle.rg_event.specs.declared.schema.Field.{Field}
use Rattle.rg_event.specs.declared.value.Kind.{Kind}
use Rattle.rg_keywords.specs.declared.func.Func.{Func}
use Rattle.rg_keywords.specs.declared.func.Func.TheVariants.{Count, Pct}
use Rattle.rg_keywords.specs.declared.keyword.Keyword.TheVariants.{Select, From, Where, Group, By, Over, Sliding, Infinite, Delayed, And, Or, Not}
use Rattle.rg_keywords.specs.declared.op.Symbol.TheVariants.{Open, Close, Comma, Star, Compare}
use Rattle.rg_grammar.specs.Grammar.{named, Token, reserved, symbol, word, literal, or_then, and_then, not_then, aggs_then, agg_then, one_agg, one_field, where_then, group_then, length_then, delay_then, tokens_of}
use Rattle.rg_grammar.specs.Printed.{written_agg, written_aggs, written_group, written_filter}
use Rattle.rg_grammar.specs.Printed as grammar
use Rattle.rg_metric.specs.Conditions.{Test, compared, not_of, and_of, or_of}
use Rattle.rg_metric.specs.Queries.{Asked}
use Rattle.rg_metric.specs.declared.query.Agg.{Agg}
use Rattle.rg_query.specs.Legal.{IsColumn, IsOperand, IsLegalAgg, AreLegalAggs, IsLegalTest, IsLegalFilter, IsLegalLength, IsLegalQuery}
use Rattle.rg_query.specs.Printing.{name_at}
use Rattle.rg_query.specs.Resolving.{column_named, column_from}
use Rattle.rg_query.specs.Written.{column_name, literal_of, tree_of, call_of, call_of_agg, length_of, delay_of, written}
use Rattle.rg_query.specs.Spacing.{IsPlain}
use Rattle.rg_query.proofs.Laying.{calls_then, calls_spelled, names_then, names_spelled}
use Rattle.rg_query.proofs.Plain.{plain_name, plain_keyword, plain_symbol, plain_func, plain_ms, plain_whole, plain_literal}
use Rattle.rg_query.proofs.Spacing.{ArePlain}

-- a column's name is one of the schema's

name_is : (n : ℕ) (fields : List Field) → All (λ name. IsTrue (is_name name)) (map (λ (field : Field). field.name) fields) → 1 ≤ n → n ≤ length fields → IsTrue (is_name (name_at n fields))
name_is n [] h low high = absurd (omega arith)
name_is zero (field ∷ fields) h low high = absurd (omega arith)
name_is (suc zero) (field ∷ fields) h low high = All-head (λ name. IsTrue (is_name name)) field.name (map (λ (f : Field). f.name) fields) h
name_is (suc (suc n)) (field ∷ fields) h low high = name_is (suc n) fields (All-tail (λ name. IsTrue (is_name name)) field.name (map (λ (f : Field). f.name) fields) h) (omega arith) (omega arith)

-- a column that is found is one of the schema's
found_within : (k : ℕ) (fields : List Field) (name : List ℕ) (n : ℕ) (kind : Kind) → column_from k fields name ≡ Some (n, kind) → (k ≤ n) × (n < k + length fields)
found_within k [] name n kind e = absurd (cc)
found_within k (field ∷ fields) name n kind e = by_test (bytes_eq field.name name) e (λ f. found_within (k + 1) fields name n kind f)
  where
    by_test : (same : Bool) → (if same then Some (k, field.kind) else column_from (k + 1) fields name) ≡ Some (n, kind)
        → (column_from (k + 1) fields name ≡ Some (n, kind) → (k + 1 ≤ n) × (n < k + 1 + length fields)) → (k ≤ n) × (n < k + length (field ∷ fields))
    by_test true f next = let both : ◌≡◌ {A = ℕ × Kind} (k, field.kind) (n, kind) = cc in let i : k ≡ n = ap (λ (x : ℕ × Kind). x.0) both in (omega arith, omega arith)
    by_test false f next = let r : (k + 1 ≤ n) × (n < k + 1 + length fields) = next f in (omega arith, omega arith)

pub plain_column : (shape : Shape) (n : ℕ) (kind : Kind) → IsSchema shape → column_named shape (name_at n shape.fields) ≡ Some (n, kind) → IsPlain (word (column_name shape n))
plain_column shape n kind schema found =
    let w : (1 ≤ n) × (n < 1 + length shape.fields) = found_within 1 shape.fields (name_at n shape.fields) n kind found in
    let columns : All (λ name. IsTrue (is_name name)) (map (λ (field : Field). field.name) shape.fields) = All-tail (λ name. IsTrue (is_name name)) shape.time (map (λ (field : Field). field.name) shape.fields) schema.columns in
    plain_name (name_at n shape.fields) (name_is n shape.fields columns w.0 (omega (arith, w.1)))

-- conditions

record PlainTest (shape : Shape) (t : Test) : Type 0 where
  or : (rest : List Token) → ArePlain rest → ArePlain (or_then (grammar.written (tree_of shape t)).or rest)
  and : (rest : List Token) → ArePlain rest → ArePlain (and_then (grammar.written (tree_of shape t)).and rest)
  not : (rest : List Token) → ArePlain rest → ArePlain (not_then (grammar.written (tree_of shape t)).not rest)

plain_test : (shape : Shape) (t : Test) → IsSchema shape → IsLegalTest shape t → PlainTest shape t
plain_test shape (compared column op value) schema h =
    let g : (rest : List Token) → ArePlain rest → ArePlain (word (column_name shape column) ∷ symbol (Compare op) ∷ literal (literal_of value) ∷ rest) =
    λ rest plain. (plain_column shape column h.kind schema h.found, (plain_symbol (Compare op), (plain_literal h.kind value h.fits, plain))) in
    record { or = g; and = g; not = g }
plain_test shape (not_of t) schema h =
    let p : PlainTest shape t = plain_test shape t schema h in
    let g : (rest : List Token) → ArePlain rest → ArePlain (reserved Not ∷ not_then (grammar.written (tree_of shape t)).not rest) =
    λ rest plain. (plain_keyword Not, p.not rest plain) in
    record { or = g; and = g; not = g }
plain_test shape (and_of s t) schema h =
    let p : PlainTest shape s = plain_test shape s schema h.0 in
    let q : PlainTest shape t = plain_test shape t schema h.1 in
    let g : (rest : List Token) → ArePlain rest → ArePlain (and_then (grammar.written (tree_of shape (and_of s t))).and rest) =
    λ rest plain. p.and (reserved And ∷ not_then (grammar.written (tree_of shape t)).not rest) (plain_keyword And, q.not rest plain) in
    record { or = g; and = g; not = λ rest plain. (plain_symbol Open, g (symbol Close ∷ rest) (plain_symbol Close, plain)) }
plain_test shape (or_of s t) schema h =
    let p : PlainTest shape s = plain_test shape s schema h.0 in
    let q : PlainTest shape t = plain_test shape t schema h.1 in
    let g : (rest : List Token) → ArePlain rest → ArePlain (or_then (grammar.written (tree_of shape (or_of s t))).or rest) =
    λ rest plain. p.or (reserved Or ∷ and_then (grammar.written (tree_of shape t)).and rest) (plain_keyword Or, q.and rest plain) in
    let k : (rest : List Token) → ArePlain rest → ArePlain (symbol Open ∷ or_then (grammar.written (tree_of shape (or_of s t))).or (symbol Close ∷ rest)) =
    λ rest plain. (plain_symbol Open, g (symbol Close ∷ rest) (plain_symbol Close, plain)) in
    record { or = g; and = k; not = k }

-- aggregators

plain_call : (shape : Shape) (func : Func) (column : ℕ) (rest : List Token) → IsSchema shape → IsOperand shape func column → ArePlain rest → ArePlain (agg_then (written_agg (call_of shape func column)) rest)
plain_call shape func zero rest schema h plain = (plain_func Count, (plain_symbol Open, (plain_symbol Star, (plain_symbol Close, plain))))
plain_call shape (Pct percent) (suc n) rest schema h plain =
    (plain_func (Pct percent), (plain_symbol Open, (plain_whole percent (omega (arith, h.percent.1)), (plain_symbol Comma, (plain_column shape (suc n) h.kind schema h.found, (plain_symbol Close, plain))))))
plain_call shape func (suc n) rest schema h plain = (plain_func func, (plain_symbol Open, (plain_column shape (suc n) h.kind schema h.found, (plain_symbol Close, plain))))

plain_calls : (shape : Shape) (aggs : List Agg) (rest : List Token) → IsSchema shape → All (IsLegalAgg shape) aggs → ArePlain rest → ArePlain (calls_then (map (call_of_agg shape) aggs) rest)
plain_calls shape [] rest schema h plain = plain
plain_calls shape (agg ∷ aggs) rest schema h plain =
    (plain_symbol Comma, plain_call shape agg.func agg.field (calls_then (map (call_of_agg shape) aggs) rest) schema (All-head (IsLegalAgg shape) agg aggs h) (plain_calls shape aggs rest schema (All-tail (IsLegalAgg shape) agg aggs h) plain))

plain_aggs : (shape : Shape) (aggs : List Agg) (rest : List Token) → IsSchema shape → AreLegalAggs shape aggs → ArePlain rest → ArePlain (aggs_then (written_aggs (map (call_of_agg shape) aggs)) rest)
plain_aggs shape [] rest schema h plain = absurd h
plain_aggs shape (agg ∷ aggs) rest schema h plain =
    subst ArePlain (sym (calls_spelled (one_agg (written_agg (call_of_agg shape agg))) (map (call_of_agg shape) aggs) rest))
    (plain_call shape agg.func agg.field (calls_then (map (call_of_agg shape) aggs) rest) schema (All-head (IsLegalAgg shape) agg aggs h) (plain_calls shape aggs rest schema (All-tail (IsLegalAgg shape) agg aggs h) plain))

-- the key

plain_names : (shape : Shape) (columns : List ℕ) (rest : List Token) → IsSchema shape → All (IsColumn shape) columns → ArePlain rest → ArePlain (names_then (map (column_name shape) columns) rest)
plain_names shape [] rest schema h plain = plain
plain_names shape (n ∷ columns) rest schema h plain =
    let here : IsColumn shape n = All-head (IsColumn shape) n columns h in
    (plain_symbol Comma, (plain_column shape n here.kind schema here.found, plain_names shape columns rest schema (All-tail (IsColumn shape) n columns h) plain))

plain_group : (shape : Shape) (columns : List ℕ) (rest : List Token) → IsSchema shape → All (IsColumn shape) columns → ArePlain rest → ArePlain (group_then (written_group (map (column_name shape) columns)) rest)
plain_group shape [] rest schema h plain = plain
plain_group shape (n ∷ columns) rest schema h plain =
    let here : IsColumn shape n = All-head (IsColumn shape) n columns h in (
      plain_keyword Group,
      (
        plain_keyword By,
        subst ArePlain (sym (names_spelled (one_field (column_name shape n)) (map (column_name shape) columns) rest))
            (plain_column shape n here.kind schema here.found, plain_names shape columns rest schema (All-tail (IsColumn shape) n columns h) plain),
      ),
    )

-- the window

plain_delay : (delay : ℕ) → delay ≤ 1000000000000000 → ArePlain (delay_then (delay_of delay) [])
plain_delay zero h = tt
plain_delay (suc n) h = (plain_keyword Delayed, (plain_keyword By, (plain_whole (suc n) (omega arith), (plain_ms, tt))))

plain_length : (length : Option ℕ) (delay : ℕ) → IsLegalLength length → delay ≤ 1000000000000000 → ArePlain (length_then (length_of length) (delay_then (delay_of delay) []))
plain_length None delay h k = (plain_keyword Infinite, plain_delay delay k)
plain_length (Some n) delay h k = (plain_keyword Sliding, (plain_whole n (omega (arith, h.1)), (plain_ms, plain_delay delay k)))

plain_filter : (shape : Shape) (filter : Option Test) (rest : List Token) → IsSchema shape → IsLegalFilter shape filter → ArePlain rest → ArePlain (where_then (written_filter (option_map (tree_of shape) filter)) rest)
plain_filter shape None rest schema h plain = plain
plain_filter shape (Some t) rest schema h plain = (plain_keyword Where, (plain_test shape t schema h).or rest plain)

-- each token of the query
pub plain_query : (shape : Shape) (q : Asked) → IsSchema shape → IsLegalQuery shape q → ArePlain (tokens_of (written shape q))
plain_query shape q schema h =
    let over : List Token = reserved Over ∷ length_then (length_of q.window.length) (delay_then (delay_of q.window.delay) []) in
    let key : List Token = group_then (written_group (map (column_name shape) q.group)) over in
    let rest : List Token = where_then (written_filter (option_map (tree_of shape) q.filter)) key in
    let plain_over : ArePlain over = (plain_keyword Over, plain_length q.window.length q.window.delay h.length h.delay) in
    let plain_rest : ArePlain rest = plain_filter shape q.filter key schema h.filter (plain_group shape q.group over schema h.group plain_over) in
    (plain_keyword Select, plain_aggs shape q.aggs (reserved From ∷ word (named 0 shape.stream) ∷ rest) schema h.aggs (plain_keyword From, (plain_name shape.stream schema.stream, plain_rest)))
