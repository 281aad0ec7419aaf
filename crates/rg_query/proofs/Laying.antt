-- What the tokens of a written query look like where they are printed.
use Rattle.std.proofs.Common.{◌≡◌, ℕ, zero, suc, List, [], ◌∷◌, ◌++◌, map, Option, Some, None, Bool, true, false, refl, ap, sym, ◌∙◌, append_assoc, codes, decimal, option_map}
use Rattle.rg_keywords.specs.Words.{func_name, op_text}
use Rattle.rg_keywords.specs.declared.func.Func.{Func}
use Rattle.rg_keywords.specs.declared.func.Func.TheVariants.{Count, Pct}
use Rattle.rg_keywords.specs.declared.keyword.Keyword.TheVariants.{From, Group, By, Over, And, Or, Not}
use Rattle.rg_keywords.specs.declared.op.Symbol.TheVariants.{Close, Comma, Compare}
use Rattle.rg_event.specs.Shapes.{Shape}
use Rattle.rg_event.specs.declared.value.Value.{Value}
use Rattle.rg_event.specs.declared.value.Value.TheVariants.{Int, Id, Text, Flag}
use Rattle.rg_grammar.specs.Grammar as syntax
use Rattle.rg_grammar.specs.Grammar.{Name, named, Token, reserved, symbol, word, literal, or_then, and_then, not_then, or_tree, aggs_then, agg_then, AggsTree, one_agg, more_aggs, FieldsTree, one_field, more_fields, fields_then, where_then, group_then, length_then, delay_then, window_then, window, tokens_of}
use Rattle.rg_grammar.specs.Printed.{written_agg, aggs_and, written_aggs, fields_and, written_group, written_filter}
use Rattle.rg_grammar.specs.Printed as grammar
use Rattle.rg_token.specs.Layout.{layout}
use Rattle.rg_metric.specs.Conditions.{Test, compared, not_of, and_of, or_of}
use Rattle.rg_metric.specs.Queries.{Asked}
use Rattle.rg_metric.specs.declared.query.Agg.{Agg}
use Rattle.rg_query.specs.Printing.{name_at, literal_text, test_text, operand_text, percent_text, agg_text, more_text, list_text, where_text, group_text, length_text, delay_text, query_text}
use Rattle.rg_query.specs.declared.printing.Side.TheVariants.{BesideOr, BesideAnd, BehindNot}
use Rattle.rg_query.specs.Spacing.{token_text, Before, opened, a_name, a_token, blank, blank_to_open, spaced}
use Rattle.rg_query.specs.Written.{column_name, literal_of, tree_of, call_of, call_of_agg, length_of, delay_of, written}

abbrev pub text : Before → List Token → List ℕ
text before ts = layout (spaced before ts)

-- what a condition stands behind: an open parenthesis, or another token that is no name
abbrev before : Bool → Before
before true = opened
before false = a_token

literal_is : (v : Value) → token_text (literal (literal_of v)) ≡ literal_text v
literal_is (Int n) = refl
literal_is (Id n) = refl
literal_is (Text t) = refl
literal_is (Flag true) = refl
literal_is (Flag false) = refl

opens : (b : Bool) → blank_to_open (before b) ≡ blank (before b)
opens true = refl
opens false = refl

-- the text of a condition in each of the ways to write it
record Shown (shape : Shape) (t : Test) : Type 0 where
  or : (b : Bool) (rest : List Token) → text (before b) (or_then (grammar.written (tree_of shape t)).or rest) ≡ blank (before b) ++ (test_text shape BesideOr t ++ text a_token rest)
  and : (b : Bool) (rest : List Token) → text (before b) (and_then (grammar.written (tree_of shape t)).and rest) ≡ blank (before b) ++ (test_text shape BesideAnd t ++ text a_token rest)
  not : (b : Bool) (rest : List Token) → text (before b) (not_then (grammar.written (tree_of shape t)).not rest) ≡ blank (before b) ++ (test_text shape BehindNot t ++ text a_token rest)

joined : (a m b c r : List ℕ) → (a ++ (m ++ (b ++ c))) ++ r ≡ a ++ (m ++ (b ++ (c ++ r)))
joined a m b c r = simp append_assoc

comparison_shown : (name op value rest : List ℕ) → name ++ (32 ∷ (op ++ (32 ∷ (value ++ rest)))) ≡ (name ++ (32 ∷ (op ++ (32 ∷ value)))) ++ rest
comparison_shown name op value rest = sym (append_assoc name (32 ∷ (op ++ (32 ∷ value))) rest ∙ ap (λ xs. name ++ (32 ∷ xs)) (append_assoc op (32 ∷ value) rest))

shown : (shape : Shape) (t : Test) → Shown shape t
shown shape (compared column op value) =
    let g : (b : Bool) (rest : List Token) → text (before b) (word (column_name shape column) ∷ symbol (Compare op) ∷ literal (literal_of value) ∷ rest) ≡ blank (before b) ++ (test_text shape BesideOr (compared column op value) ++ text a_token rest) =
    λ b rest. ap (λ xs. blank (before b) ++ (name_at column shape.fields ++ (32 ∷ (op_text op ++ (32 ∷ (xs ++ text a_token rest)))))) (literal_is value)
    ∙ ap (λ xs. blank (before b) ++ xs) (comparison_shown (name_at column shape.fields) (op_text op) (literal_text value) (text a_token rest)) in
    record { or = g; and = g; not = g }
shown shape (not_of t) =
    let h : Shown shape t = shown shape t in
    let g : (b : Bool) (rest : List Token) → text (before b) (reserved Not ∷ not_then (grammar.written (tree_of shape t)).not rest) ≡ blank (before b) ++ ((codes "NOT " ++ test_text shape BehindNot t) ++ text a_token rest) =
    λ b rest. ap (λ xs. blank (before b) ++ (codes "NOT" ++ xs)) (h.not false rest) in
    record { or = g; and = g; not = g }
shown shape (and_of s t) =
    let h : Shown shape s = shown shape s in
    let k : Shown shape t = shown shape t in
    let x : List ℕ = test_text shape BesideAnd s in
    let y : List ℕ = test_text shape BehindNot t in
    let core : (b : Bool) (rest : List Token) → text (before b) (and_then (grammar.written (tree_of shape (and_of s t))).and rest) ≡ blank (before b) ++ (x ++ (codes " AND " ++ (y ++ text a_token rest))) =
    λ b rest. h.and b (reserved And ∷ not_then (grammar.written (tree_of shape t)).not rest) ∙ ap (λ xs. blank (before b) ++ (x ++ (codes " AND" ++ xs))) (k.not false rest) in
    let g : (b : Bool) (rest : List Token) → text (before b) (and_then (grammar.written (tree_of shape (and_of s t))).and rest) ≡ blank (before b) ++ ((x ++ (codes " AND " ++ (y ++ []))) ++ text a_token rest) =
    λ b rest. core b rest ∙ ap (λ xs. blank (before b) ++ xs) (sym (joined x (codes " AND ") y [] (text a_token rest))) in
    record {
      or = g;
      and = g;
      not = λ b rest. ap (λ xs. xs ++ (40 ∷ text opened (and_then (grammar.written (tree_of shape (and_of s t))).and (symbol Close ∷ rest)))) (opens b)
          ∙ ap (λ xs. blank (before b) ++ (40 ∷ xs)) (core true (symbol Close ∷ rest) ∙ sym (joined x (codes " AND ") y (41 ∷ []) (text a_token rest)));
    }
shown shape (or_of s t) =
    let h : Shown shape s = shown shape s in
    let k : Shown shape t = shown shape t in
    let x : List ℕ = test_text shape BesideOr s in
    let y : List ℕ = test_text shape BesideAnd t in
    let core : (b : Bool) (rest : List Token) → text (before b) (or_then (grammar.written (tree_of shape (or_of s t))).or rest) ≡ blank (before b) ++ (x ++ (codes " OR " ++ (y ++ text a_token rest))) =
    λ b rest. h.or b (reserved Or ∷ and_then (grammar.written (tree_of shape t)).and rest) ∙ ap (λ xs. blank (before b) ++ (x ++ (codes " OR" ++ xs))) (k.and false rest) in
    let enclosed : (b : Bool) (rest : List Token) → text (before b) (not_then (grammar.written (tree_of shape (or_of s t))).not rest) ≡ blank (before b) ++ ((40 ∷ (x ++ (codes " OR " ++ (y ++ (41 ∷ []))))) ++ text a_token rest) =
    λ b rest. ap (λ xs. xs ++ (40 ∷ text opened (or_then (grammar.written (tree_of shape (or_of s t))).or (symbol Close ∷ rest)))) (opens b)
    ∙ ap (λ xs. blank (before b) ++ (40 ∷ xs)) (core true (symbol Close ∷ rest) ∙ sym (joined x (codes " OR ") y (41 ∷ []) (text a_token rest))) in
    record {
      or = λ b rest. core b rest ∙ ap (λ xs. blank (before b) ++ xs) (sym (joined x (codes " OR ") y [] (text a_token rest)));
      and = enclosed;
      not = enclosed;
    }

-- a list of aggregators

-- the tokens of aggregators, a comma before each
abbrev pub calls_then : List syntax.Agg → List Token → List Token
calls_then [] rest = rest
calls_then (a ∷ more) rest = symbol Comma ∷ agg_then (written_agg a) (calls_then more rest)

pub calls_spelled : (front : AggsTree) (more : List syntax.Agg) (rest : List Token) → aggs_then (aggs_and front more) rest ≡ aggs_then front (calls_then more rest)
calls_spelled front [] rest = refl
calls_spelled front (a ∷ more) rest = calls_spelled (more_aggs front (written_agg a)) more rest

-- the tokens of columns, a comma before each
abbrev pub names_then : List Name → List Token → List Token
names_then [] rest = rest
names_then (n ∷ more) rest = symbol Comma ∷ word n ∷ names_then more rest

pub names_spelled : (front : FieldsTree) (more : List Name) (rest : List Token) → fields_then (fields_and front more) rest ≡ fields_then front (names_then more rest)
names_spelled front [] rest = refl
names_spelled front (n ∷ more) rest = names_spelled (more_fields front n) more rest

-- count(*) alone has no column
abbrev pub IsCall : Func → ℕ → Type 0
IsCall func zero = func ≡ Count
IsCall func (suc n) = Unit {0}

abbrev pub AreCalls : List Agg → Type 0
AreCalls [] = Unit {0}
AreCalls (agg ∷ aggs) = IsCall agg.func agg.field × AreCalls aggs

percent_shown : (name percent field rest : List ℕ) → name ++ (40 ∷ (percent ++ (44 ∷ (32 ∷ (field ++ (41 ∷ rest)))))) ≡ (name ++ (40 ∷ ((percent ++ (44 ∷ (32 ∷ []))) ++ (field ++ (41 ∷ []))))) ++ rest
percent_shown name percent field rest = simp append_assoc

call_shown : (shape : Shape) (func : Func) (column : ℕ) (rest : List Token) → IsCall func column →
    text a_token (agg_then (written_agg (call_of shape func column)) rest) ≡ codes " " ++ ((func_name func ++ (codes "(" ++ (percent_text func ++ (operand_text shape column ++ codes ")")))) ++ text a_token rest)
call_shown shape func zero rest h = ap (λ (f : Func). codes " " ++ ((func_name f ++ (codes "(" ++ (percent_text f ++ codes "*)"))) ++ text a_token rest)) (sym h)
call_shown shape (Pct percent) (suc n) rest h = ap (λ xs. 32 ∷ xs) (percent_shown (codes "pct") (decimal percent) (name_at (suc n) shape.fields) (text a_token rest))
call_shown shape func (suc n) rest h = ap (λ xs. 32 ∷ xs) (sym (joined (func_name func) (codes "(") (name_at (suc n) shape.fields) (codes ")") (text a_token rest)))

calls_shown : (shape : Shape) (aggs : List Agg) (rest : List Token) → AreCalls aggs → text a_token (calls_then (map (call_of_agg shape) aggs) rest) ≡ more_text (agg_text shape) aggs ++ text a_token rest
calls_shown shape [] rest h = refl
calls_shown shape (agg ∷ aggs) rest h =
    ap (λ xs. 44 ∷ xs) (call_shown shape agg.func agg.field (calls_then (map (call_of_agg shape) aggs) rest) h.0)
    ∙ ap (λ xs. codes ", " ++ (agg_text shape agg ++ xs)) (calls_shown shape aggs rest h.1)
    ∙ ap (λ xs. codes ", " ++ xs) (sym (append_assoc (agg_text shape agg) (more_text (agg_text shape) aggs) (text a_token rest)))

aggs_shown : (shape : Shape) (agg : Agg) (aggs : List Agg) (rest : List Token) → AreCalls (agg ∷ aggs) →
    text a_token (aggs_then (written_aggs (map (call_of_agg shape) (agg ∷ aggs))) rest) ≡ codes " " ++ (list_text (agg_text shape) (agg ∷ aggs) ++ text a_token rest)
aggs_shown shape agg aggs rest h =
    ap (text a_token) (calls_spelled (one_agg (written_agg (call_of_agg shape agg))) (map (call_of_agg shape) aggs) rest)
    ∙ call_shown shape agg.func agg.field (calls_then (map (call_of_agg shape) aggs) rest) h.0
    ∙ ap (λ xs. codes " " ++ (agg_text shape agg ++ xs)) (calls_shown shape aggs rest h.1)
    ∙ ap (λ xs. codes " " ++ xs) (sym (append_assoc (agg_text shape agg) (more_text (agg_text shape) aggs) (text a_token rest)))

-- the columns of a key

abbrev name_text : Shape → ℕ → List ℕ
name_text shape n = name_at n shape.fields

names_shown : (shape : Shape) (columns : List ℕ) (rest : List Token) → text a_name (names_then (map (column_name shape) columns) rest) ≡ more_text (λ n. name_at n shape.fields) columns ++ text a_name rest
names_shown shape [] rest = refl
names_shown shape (n ∷ columns) rest =
    ap (λ xs. codes ", " ++ (name_at n shape.fields ++ xs)) (names_shown shape columns rest)
    ∙ ap (λ xs. codes ", " ++ xs) (sym (append_assoc (name_at n shape.fields) (more_text (λ m. name_at m shape.fields) columns) (text a_name rest)))

-- what ends a query

-- what stands before a keyword is parted from it by a blank
abbrev IsParted : Before → Type 0
IsParted before = blank before ≡ codes " "

delay_shown : (before : Before) (delay : ℕ) → IsParted before → text before (delay_then (delay_of delay) []) ≡ delay_text delay
delay_shown before zero h = refl
delay_shown before (suc n) h = ap (λ xs. xs ++ (codes "DELAYED BY " ++ (decimal (suc n) ++ codes " ms"))) h

length_shown : (length : Option ℕ) (delay : ℕ) → text a_token (length_then (length_of length) (delay_then (delay_of delay) [])) ≡ codes " " ++ (length_text length ++ delay_text delay)
length_shown None delay = ap (λ xs. codes " INFINITE" ++ xs) (delay_shown a_token delay refl)
length_shown (Some n) delay =
    ap (λ xs. codes " SLIDING " ++ (decimal n ++ (codes " ms" ++ xs))) (delay_shown a_name delay refl)
    ∙ ap (λ xs. codes " SLIDING " ++ xs) (sym (append_assoc (decimal n) (codes " ms") (delay_text delay)))

over_shown : (before : Before) (length : Option ℕ) (delay : ℕ) → IsParted before →
    text before (reserved Over ∷ window_then (window (length_of length) (delay_of delay)) []) ≡ codes " OVER " ++ (length_text length ++ delay_text delay)
over_shown before length delay h =
    ap (λ xs. xs ++ (codes "OVER" ++ text a_token (length_then (length_of length) (delay_then (delay_of delay) [])))) h
    ∙ ap (λ xs. codes " OVER" ++ xs) (length_shown length delay)

group_shown : (shape : Shape) (before : Before) (columns : List ℕ) (length : Option ℕ) (delay : ℕ) → IsParted before →
    text before (group_then (written_group (map (column_name shape) columns)) (reserved Over ∷ window_then (window (length_of length) (delay_of delay)) [])) ≡ group_text shape columns ++ (codes " OVER " ++ (length_text length ++ delay_text delay))
group_shown shape before [] length delay h = over_shown before length delay h
group_shown shape before (n ∷ columns) length delay h =
    let over : List Token = reserved Over ∷ window_then (window (length_of length) (delay_of delay)) [] in
    ap (λ ts. text before (reserved Group ∷ reserved By ∷ ts)) (names_spelled (one_field (column_name shape n)) (map (column_name shape) columns) over)
    ∙ ap (λ xs. xs ++ (codes "GROUP BY " ++ (name_at n shape.fields ++ text a_name (names_then (map (column_name shape) columns) over)))) h
    ∙ ap (λ xs. codes " GROUP BY " ++ (name_at n shape.fields ++ xs)) (names_shown shape columns over ∙ ap (λ xs. more_text (λ m. name_at m shape.fields) columns ++ xs) (over_shown a_name length delay refl))
    ∙ ap (λ xs. codes " GROUP BY " ++ xs) (sym (append_assoc (name_at n shape.fields) (more_text (λ m. name_at m shape.fields) columns) (codes " OVER " ++ (length_text length ++ delay_text delay))))

where_shown : (shape : Shape) (filter : Option Test) (columns : List ℕ) (length : Option ℕ) (delay : ℕ) →
    text a_name (where_then (written_filter (option_map (tree_of shape) filter)) (group_then (written_group (map (column_name shape) columns)) (reserved Over ∷ window_then (window (length_of length) (delay_of delay)) [])))
    ≡ where_text shape filter ++ (group_text shape columns ++ (codes " OVER " ++ (length_text length ++ delay_text delay)))
where_shown shape None columns length delay = group_shown shape a_name columns length delay refl
where_shown shape (Some t) columns length delay =
    let key : List Token = group_then (written_group (map (column_name shape) columns)) (reserved Over ∷ window_then (window (length_of length) (delay_of delay)) []) in
    ap (λ xs. codes " WHERE" ++ xs) ((shown shape t).or false key)
    ∙ ap (λ xs. codes " WHERE " ++ (test_text shape BesideOr t ++ xs)) (group_shown shape a_token columns length delay refl)

-- a query is printed as its tokens are
pub query_shown : (shape : Shape) (q : Asked) (agg : Agg) (aggs : List Agg) → q.aggs ≡ agg ∷ aggs → AreCalls (agg ∷ aggs) → text opened (tokens_of (written shape q)) ≡ query_text shape q
query_shown shape q agg aggs is h =
    let behind_aggs : List Token = reserved From ∷ word (named 0 shape.stream) ∷ where_then (written_filter (option_map (tree_of shape) q.filter)) (group_then (written_group (map (column_name shape) q.group)) (reserved Over ∷ window_then (window (length_of q.window.length) (delay_of q.window.delay)) [])) in
    ap (λ (xs : List Agg). codes "SELECT" ++ text a_token (aggs_then (written_aggs (map (call_of_agg shape) xs)) behind_aggs)) is
    ∙ ap (λ xs. codes "SELECT" ++ xs) (aggs_shown shape agg aggs behind_aggs h)
    ∙ ap (λ xs. codes "SELECT " ++ (list_text (agg_text shape) (agg ∷ aggs) ++ (codes " FROM " ++ (shape.stream ++ xs)))) (where_shown shape q.filter q.group q.window.length q.window.delay)
    ∙ ap (λ (xs : List Agg). codes "SELECT " ++ (list_text (agg_text shape) xs ++ (codes " FROM " ++ (shape.stream ++ (where_text shape q.filter ++ (group_text shape q.group ++ (codes " OVER " ++ (length_text q.window.length ++ delay_text q.window.delay)))))))) (sym is)
