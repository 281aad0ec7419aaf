-- What a query asks doesn't depend on its words' places, nor whether it is refused.
use Rattle.std.proofs.Common.{◌≡◌, ℕ, ◌&&◌, List, [], ◌∷◌, map, Option, Some, None, Bool, true, false, refl, ap, sym, ◌∙◌, option_map}
use Rattle.std.specs.Prelude.{bytes_eq, if◌then◌else◌}
use Rattle.rg_event.specs.Shapes.{Shape}
use Rattle.rg_event.specs.declared.value.Kind.{Kind}
use Rattle.rg_event.specs.declared.value.Kind.TheVariants as kind
use Rattle.rg_keywords.specs.declared.op.Op.{Op}
use Rattle.rg_grammar.specs.Grammar as syntax
use Rattle.rg_grammar.specs.Grammar.{Name, named, Literal, digits, quoted, truth, Tree, compared, not_of, and_of, or_of, count_all, agg_of, pct_of, Span, span, windowed}
use Rattle.rg_grammar.specs.Erase.{erase_name, erase_literal, erase_tree, erase_maybe, erase_agg, erase_maybe_span, erase_query}
use Rattle.rg_metric.specs.Conditions.{Test}
use Rattle.rg_metric.specs.Conditions as test
use Rattle.rg_metric.specs.Queries.{Asked}
use Rattle.rg_metric.specs.declared.query.Agg.{Agg}
use Rattle.rg_keywords.specs.declared.func.Func.{Func}
use Rattle.rg_metric.specs.Admitted.{takes}
use Rattle.rg_query.specs.Resolving.{in_hundred, percent_of, pct_asked, column_named, or_else, first_in, unless_known, unknown_column, unknown_stream, unknown_in_agg, unknown_in_tree, in_filter, first_unknown, literal_value, literal_place, is_ordered, wrong_comparison, wrong_in_tree, wrong_field, wrong_agg, first_wrong, millis_of, bad_span, first_bad, column_of, agg_asked, or_false, value_asked, test_asked, length_asked, delay_asked, query_asked}
use Rattle.rg_query.proofs.Asking.{IsAsked}

abbrev none : Option ℕ → Bool
none None = true
none (Some place) = false

is_none : (o : Option ℕ) → none o ≡ true → o ≡ None
is_none None h = refl
is_none (Some place) h = absurd (cc)

none_else : (a b : Option ℕ) → none (or_else a b) ≡ (none a && none b)
none_else None b = refl
none_else (Some place) b = refl

same_else : (a b c d : Option ℕ) → none a ≡ none c → none b ≡ none d → none (or_else a b) ≡ none (or_else c d)
same_else a b c d h k = none_else a b ∙ ap (λ x. x && none b) h ∙ ap (λ x. none c && x) k ∙ sym (none_else c d)

same_known : {A : Type 0} (p q : ℕ) (o : Option A) → none (unless_known p o) ≡ none (unless_known q o)
same_known p q None = refl
same_known p q (Some a) = refl

same_list : {A : Type 0} (at : A → Option ℕ) (erase : A → A) (xs : List A) → ((x : A) → none (at (erase x)) ≡ none (at x)) → none (first_in at (map erase xs)) ≡ none (first_in at xs)
same_list at erase [] h = refl
same_list at erase (x ∷ xs) h = same_else (at (erase x)) (first_in at (map erase xs)) (at x) (first_in at xs) (h x) (same_list at erase xs h)

-- names

column_same : (shape : Shape) (n : Name) → none (unknown_column shape (erase_name n)) ≡ none (unknown_column shape n)
column_same shape (named p name) = same_known 0 p (column_named shape name)

stream_same : (shape : Shape) (n : Name) → none (unknown_stream shape (erase_name n)) ≡ none (unknown_stream shape n)
stream_same shape (named p name) = by_test (bytes_eq shape.stream name)
  where
    by_test : (b : Bool) → none (if b then None else Some 0) ≡ none (if b then None else Some p)
    by_test true = refl
    by_test false = refl

agg_known : (shape : Shape) (a : syntax.Agg) → none (unknown_in_agg shape (erase_agg a)) ≡ none (unknown_in_agg shape a)
agg_known shape count_all = refl
agg_known shape (agg_of func n) = column_same shape n
agg_known shape (pct_of p text n) = column_same shape n

tree_known : (shape : Shape) (t : Tree) → none (unknown_in_tree shape (erase_tree t)) ≡ none (unknown_in_tree shape t)
tree_known shape (compared n op l) = column_same shape n
tree_known shape (not_of t) = tree_known shape t
tree_known shape (and_of s t) = same_else (unknown_in_tree shape (erase_tree s)) (unknown_in_tree shape (erase_tree t)) (unknown_in_tree shape s) (unknown_in_tree shape t) (tree_known shape s) (tree_known shape t)
tree_known shape (or_of s t) = same_else (unknown_in_tree shape (erase_tree s)) (unknown_in_tree shape (erase_tree t)) (unknown_in_tree shape s) (unknown_in_tree shape t) (tree_known shape s) (tree_known shape t)

filter_known : (shape : Shape) (filter : Option Tree) → none (in_filter (unknown_in_tree shape) (erase_maybe filter)) ≡ none (in_filter (unknown_in_tree shape) filter)
filter_known shape None = refl
filter_known shape (Some t) = tree_known shape t

-- fields and literals

value_same : (k : Kind) (l : Literal) → literal_value k (erase_literal l) ≡ literal_value k l
value_same kind.Int (digits p text) = refl
value_same kind.Int (quoted p text) = refl
value_same kind.Int (truth p b) = refl
value_same kind.Id (digits p text) = refl
value_same kind.Id (quoted p text) = refl
value_same kind.Id (truth p b) = refl
value_same kind.Text (digits p text) = refl
value_same kind.Text (quoted p text) = refl
value_same kind.Text (truth p b) = refl
value_same kind.Flag (digits p text) = refl
value_same kind.Flag (quoted p text) = refl
value_same kind.Flag (truth p b) = refl

comparison_same : (p : ℕ) (op : Op) (l : Literal) (o : Option (ℕ × Kind)) → none (wrong_comparison 0 op (erase_literal l) o) ≡ none (wrong_comparison p op l o)
comparison_same p op l None = refl
comparison_same p op l (Some (n, k)) = by_test (is_ordered k op)
  where
    by_test : (b : Bool) → none (if b then unless_known (literal_place (erase_literal l)) (literal_value k (erase_literal l)) else Some 0) ≡ none (if b then unless_known (literal_place l) (literal_value k l) else Some p)
    by_test true = ap (λ v. none (unless_known (literal_place (erase_literal l)) v)) (value_same k l) ∙ same_known (literal_place (erase_literal l)) (literal_place l) (literal_value k l)
    by_test false = refl

tree_right : (shape : Shape) (t : Tree) → none (wrong_in_tree shape (erase_tree t)) ≡ none (wrong_in_tree shape t)
tree_right shape (compared (named p name) op l) = comparison_same p op l (column_named shape name)
tree_right shape (not_of t) = tree_right shape t
tree_right shape (and_of s t) = same_else (wrong_in_tree shape (erase_tree s)) (wrong_in_tree shape (erase_tree t)) (wrong_in_tree shape s) (wrong_in_tree shape t) (tree_right shape s) (tree_right shape t)
tree_right shape (or_of s t) = same_else (wrong_in_tree shape (erase_tree s)) (wrong_in_tree shape (erase_tree t)) (wrong_in_tree shape s) (wrong_in_tree shape t) (tree_right shape s) (tree_right shape t)

filter_right : (shape : Shape) (filter : Option Tree) → none (in_filter (wrong_in_tree shape) (erase_maybe filter)) ≡ none (in_filter (wrong_in_tree shape) filter)
filter_right shape None = refl
filter_right shape (Some t) = tree_right shape t

field_right : (func : Func) (p : ℕ) (o : Option (ℕ × Kind)) → none (wrong_field func 0 o) ≡ none (wrong_field func p o)
field_right func p None = refl
field_right func p (Some (n, k)) = by_test (takes func k)
  where
    by_test : (b : Bool) → none (if b then None else Some 0) ≡ none (if b then None else Some p)
    by_test true = refl
    by_test false = refl

agg_right : (shape : Shape) (a : syntax.Agg) → none (wrong_agg shape (erase_agg a)) ≡ none (wrong_agg shape a)
agg_right shape count_all = refl
agg_right shape (agg_of func (named p name)) = field_right func p (column_named shape name)
agg_right shape (pct_of p text (named q name)) =
    same_else (unless_known 0 (percent_of text)) (wrong_field (pct_asked text) 0 (column_named shape name)) (unless_known p (percent_of text)) (wrong_field (pct_asked text) q (column_named shape name))
    (same_known 0 p (percent_of text)) (field_right (pct_asked text) q (column_named shape name))

-- spans

span_same : (low : ℕ) (s : Option Span) → none (bad_span low (erase_maybe_span s)) ≡ none (bad_span low s)
span_same low None = refl
span_same low (Some (span p text unit)) = same_known 0 p (millis_of low (span p text unit))

-- a whole query

unknown_same : (shape : Shape) (query : syntax.Query) → none (first_unknown shape (erase_query query)) ≡ none (first_unknown shape query)
unknown_same shape (syntax.asked aggs stream filter group window) =
    same_else _ _ _ _ (same_list (unknown_in_agg shape) erase_agg aggs (agg_known shape))
    (same_else _ _ _ _ (stream_same shape stream) (same_else _ _ _ _ (filter_known shape filter) (same_list (unknown_column shape) erase_name group (column_same shape))))

wrong_same : (shape : Shape) (query : syntax.Query) → none (first_wrong shape (erase_query query)) ≡ none (first_wrong shape query)
wrong_same shape (syntax.asked aggs stream filter group window) = same_else _ _ _ _ (same_list (wrong_agg shape) erase_agg aggs (agg_right shape)) (filter_right shape filter)

bad_same : (query : syntax.Query) → none (first_bad (erase_query query)) ≡ none (first_bad query)
bad_same (syntax.asked aggs stream filter group (windowed length delay)) = same_else _ _ _ _ (span_same 1 length) (span_same 0 delay)

same_map : {A B : Type 0} (f : A → B) (erase : A → A) (xs : List A) → ((x : A) → f (erase x) ≡ f x) → map f (map erase xs) ≡ map f xs
same_map f erase [] h = refl
same_map f erase (x ∷ xs) h = ap (λ y. y ∷ map f (map erase xs)) (h x) ∙ ap (λ ys. f x ∷ ys) (same_map f erase xs h)

name_asks : (shape : Shape) (n : Name) → column_of shape (erase_name n) ≡ column_of shape n
name_asks shape (named p name) = refl

agg_asks : (shape : Shape) (a : syntax.Agg) → agg_asked shape (erase_agg a) ≡ agg_asked shape a
agg_asks shape count_all = refl
agg_asks shape (agg_of func (named p name)) = refl
agg_asks shape (pct_of p text (named q name)) = refl

value_asks : (o : Option (ℕ × Kind)) (l : Literal) → value_asked o (erase_literal l) ≡ value_asked o l
value_asks None l = refl
value_asks (Some (n, k)) l = ap or_false (value_same k l)

tree_asks : (shape : Shape) (t : Tree) → test_asked shape (erase_tree t) ≡ test_asked shape t
tree_asks shape (compared (named p name) op l) = ap (test.compared (column_of shape (named p name)) op) (value_asks (column_named shape name) l)
tree_asks shape (not_of t) = ap test.not_of (tree_asks shape t)
tree_asks shape (and_of s t) = ap (λ x. test.and_of x (test_asked shape (erase_tree t))) (tree_asks shape s) ∙ ap (test.and_of (test_asked shape s)) (tree_asks shape t)
tree_asks shape (or_of s t) = ap (λ x. test.or_of x (test_asked shape (erase_tree t))) (tree_asks shape s) ∙ ap (test.or_of (test_asked shape s)) (tree_asks shape t)

filter_asks : (shape : Shape) (filter : Option Tree) → option_map (test_asked shape) (erase_maybe filter) ≡ option_map (test_asked shape) filter
filter_asks shape None = refl
filter_asks shape (Some t) = ap (λ x. Some x) (tree_asks shape t)

length_asks : (s : Option Span) → length_asked (erase_maybe_span s) ≡ length_asked s
length_asks None = refl
length_asks (Some (span p text unit)) = refl

delay_asks : (s : Option Span) → delay_asked (erase_maybe_span s) ≡ delay_asked s
delay_asks None = refl
delay_asks (Some (span p text unit)) = refl

abbrev made : List Agg → Option Test → List ℕ → ℕ → Option ℕ → Asked
made aggs filter group delay length = record { aggs = aggs; filter = filter; group = group; window = record { delay = delay; length = length } }

query_asks : (shape : Shape) (query : syntax.Query) → query_asked shape (erase_query query) ≡ query_asked shape query
query_asks shape (syntax.asked aggs stream filter group (windowed length delay)) =
    let x = option_map (test_asked shape) (erase_maybe filter) in
    let y = map (column_of shape) (map erase_name group) in
    let d = delay_asked (erase_maybe_span delay) in
    let l = length_asked (erase_maybe_span length) in
    ap (λ xs. made xs x y d l) (same_map (agg_asked shape) erase_agg aggs (agg_asks shape))
    ∙ ap (λ f. made (map (agg_asked shape) aggs) f y d l) (filter_asks shape filter)
    ∙ ap (λ g. made (map (agg_asked shape) aggs) (option_map (test_asked shape) filter) g d l) (same_map (column_of shape) erase_name group (name_asks shape))
    ∙ ap (λ n. made (map (agg_asked shape) aggs) (option_map (test_asked shape) filter) (map (column_of shape) group) n l) (delay_asks delay)
    ∙ ap (λ n. made (map (agg_asked shape) aggs) (option_map (test_asked shape) filter) (map (column_of shape) group) (delay_asked delay) n) (length_asks length)

-- two queries that differ in their places alone ask the same
pub asked_alike : (shape : Shape) (query other : syntax.Query) (q : Asked) → erase_query query ≡ erase_query other → IsAsked shape other q → IsAsked shape query q
asked_alike shape query other q e h = record {
  known = is_none (first_unknown shape query) (sym (unknown_same shape query) ∙ ap (λ x. none (first_unknown shape x)) e ∙ unknown_same shape other ∙ ap none h.known);
  right = is_none (first_wrong shape query) (sym (wrong_same shape query) ∙ ap (λ x. none (first_wrong shape x)) e ∙ wrong_same shape other ∙ ap none h.right);
  bounded = is_none (first_bad query) (sym (bad_same query) ∙ ap (λ x. none (first_bad x)) e ∙ bad_same other ∙ ap none h.bounded);
  asks = sym (query_asks shape query) ∙ ap (query_asked shape) e ∙ query_asks shape other ∙ h.asks;
}
