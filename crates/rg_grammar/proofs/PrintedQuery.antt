-- A query that is written is one of the grammar, and asks the same.
use Rattle.std.proofs.Common.{◌≡◌, ℕ, ◌≤◌, List, [], ◌∷◌, ◌++◌, Option, Some, None, Bool, true, false, refl, ap, sym, ◌∙◌, subst, arith, append_assoc}
use Rattle.std.proofs.lemmas.List.{append-nil}
use Rattle.std.specs.List.{All}
use Rattle.std.proofs.lemmas.List.Elements.{All-nil, All-cons, All-head, All-tail, All-append}
use Rattle.std.specs.Prelude.{codes}
use Rattle.std.specs.Str.{str_eq_ignore_ascii_case}
use Rattle.rg_keywords.specs.declared.callee.Callee.{Callee}
use Rattle.rg_keywords.specs.declared.callee.Callee.TheVariants as callee
use Rattle.rg_keywords.specs.declared.func.Func.{Func}
use Rattle.rg_keywords.specs.declared.func.Func.TheVariants.{Count, Sum, Avg, SumSq, Min, Max, CountDistinct, First, Last, Median, Pct}
use Rattle.rg_keywords.specs.declared.time_unit.TimeUnit.TheVariants.{Millisecond}
use Rattle.rg_keywords.specs.Words.{as_callee, callee_of, func_of, func_words, meaning_in, unit_of, func_name}
use Rattle.rg_grammar.specs.Grammar.{Found, Name, named, Token, OrTree, Tree, or_depth, and_depth, not_depth, compared, not_of, and_of, or_of, or_tree, AggTree, counted, of_field, of_percent, Agg, count_all, agg_of, pct_of, agg, AggsTree, one_agg, more_aggs, aggs, FieldsTree, one_field, more_fields, fields, SpanTree, Window, windowed, maybe_span, QueryTree, query, Query, asked, tokens_of, filter_of, group_of, query_of, filter_depth, query_depth, is_count, is_signed, IsAgg, IsAggs, IsSpan, IsMaybeSpan, IsQuery}
use Rattle.rg_grammar.specs.Printed.{is_plain, written, written_agg, aggs_and, written_aggs, fields_and, written_group, written_filter, written_span, written_query, over_window, IsWritable, AreWritable, CanWrite, shape, maybe_shape, filter_shape}
use Rattle.rg_grammar.proofs.Printed.{means, no_deeper}

count_means : callee_of (func_name Count) ≡ Some (callee.Func Count)
unfolding callee_of func_of
count_means = refl

pct_means : callee_of (codes "pct") ≡ Some callee.Pct
unfolding callee_of
pct_means = refl

plain_means : (f : Func) → is_plain f ≡ true → callee_of (func_name f) ≡ Some (callee.Func f)
unfolding callee_of func_of
plain_means Count h = cc
plain_means Sum h = refl
plain_means Avg h = refl
plain_means SumSq h = refl
plain_means Min h = refl
plain_means Max h = refl
plain_means CountDistinct h = refl
plain_means First h = refl
plain_means Last h = refl
plain_means Median h = refl
plain_means (Pct percent) h = cc

plain_counts : (f : Func) → is_plain f ≡ true → is_count f ≡ false
plain_counts Count h = cc
plain_counts _ h = refl

ms_means : unit_of (codes "ms") ≡ Some Millisecond
unfolding unit_of
ms_means = refl

pub span_is : (millis : List ℕ) → is_signed millis ≡ false → IsSpan (written_span millis)
span_is millis e = (e, ms_means)

agg_is : (a : Agg) → IsWritable a → IsAgg (written_agg a)
agg_is count_all h = count_means
agg_is (agg_of f n) h = (plain_means f h, plain_counts f h)
agg_is (pct_of p text n) h = (pct_means, h)

agg_again : (a : Agg) → agg (written_agg a) ≡ a
agg_again count_all = refl
agg_again (agg_of f n) = refl
agg_again (pct_of p text n) = refl

aggs_are : (front : AggsTree) (more : List Agg) → IsAggs front → All IsWritable more → IsAggs (aggs_and front more)
aggs_are front [] h w = h
aggs_are front (a ∷ more) h w = aggs_are (more_aggs front (written_agg a)) more (h, agg_is a (All-head IsWritable a more w)) (All-tail IsWritable a more w)

aggs_again : (front : AggsTree) (more : List Agg) → aggs (aggs_and front more) ≡ aggs front ++ more
aggs_again front [] = sym (append-nil (aggs front))
aggs_again front (a ∷ more) =
    aggs_again (more_aggs front (written_agg a)) more
    ∙ append_assoc (aggs front) (agg (written_agg a) ∷ []) more
    ∙ ap (λ b. aggs front ++ (b ∷ more)) (agg_again a)

written_aggs_are : (xs : List Agg) → AreWritable xs → IsAggs (written_aggs xs)
written_aggs_are [] w = absurd w
written_aggs_are (a ∷ more) w = aggs_are (one_agg (written_agg a)) more (agg_is a (All-head IsWritable a more w)) (All-tail IsWritable a more w)

written_aggs_again : (xs : List Agg) → AreWritable xs → aggs (written_aggs xs) ≡ xs
written_aggs_again [] w = absurd w
written_aggs_again (a ∷ more) w = aggs_again (one_agg (written_agg a)) more ∙ ap (λ b. b ∷ more) (agg_again a)

fields_again : (front : FieldsTree) (more : List Name) → fields (fields_and front more) ≡ fields front ++ more
fields_again front [] = sym (append-nil (fields front))
fields_again front (n ∷ more) = fields_again (more_fields front n) more ∙ append_assoc (fields front) (n ∷ []) more

group_again : (ns : List Name) → group_of (written_group ns) ≡ ns
group_again [] = refl
group_again (n ∷ more) = fields_again (one_field n) more

filter_again : (t : Option Tree) → filter_of (written_filter t) ≡ t
filter_again None = refl
filter_again (Some t) = ap Some (means t).or

pub query_is : (q : Query) (length delay : Option SpanTree) → CanWrite q → IsMaybeSpan length → IsMaybeSpan delay → IsQuery (written_query q length delay)
query_is (asked xs n t ns w) length delay c l d = (written_aggs_are xs c, (l, d))

pub query_again : (q : Query) (length delay : Option SpanTree) → CanWrite q → query_of (written_query q length delay) ≡ over_window q (windowed (maybe_span length) (maybe_span delay))
query_again (asked xs n t ns w) length delay c =
    let v : Window = windowed (maybe_span length) (maybe_span delay) in
    ap (λ ys. asked ys n (filter_of (written_filter t)) (group_of (written_group ns)) v) (written_aggs_again xs c)
    ∙ ap (λ u. asked xs n u (group_of (written_group ns)) v) (filter_again t)
    ∙ ap (λ ms. asked xs n t ms v) (group_again ns)

-- no word names a percentile: its percent stands behind PCT

abbrev is_named : Func → Bool
is_named (Pct percent) = false
is_named _ = true

abbrev AreNamed : List (List ℕ × Func) → Type 0
AreNamed [] = Unit {0}
AreNamed ((name, f) ∷ entries) = (is_named f ≡ true) × AreNamed entries

some_same : (f g : Func) → Some f ≡ Some g → f ≡ g
some_same f g e = cc

meant_named : (entries : List (List ℕ × Func)) (word : List ℕ) (f : Func) → AreNamed entries → meaning_in entries word ≡ Some f → is_named f ≡ true
meant_named [] word f are e = absurd (cc)
meant_named ((name, g) ∷ entries) word f are e = by (str_eq_ignore_ascii_case word name) refl (λ rest. meant_named entries word f are.1 rest)
  where
    by : (b : Bool) → str_eq_ignore_ascii_case word name ≡ b → (meaning_in entries word ≡ Some f → is_named f ≡ true) → is_named f ≡ true
    by true at rest = let same : g ≡ f = some_same g f (rw at at e) in subst (λ h. is_named h ≡ true) same are.0
    by false at rest = rest (rw at at e)

func_named : (word : List ℕ) (f : Func) → func_of word ≡ Some f → is_named f ≡ true
unfolding func_of
func_named word f e = meant_named func_words word f (refl, (refl, (refl, (refl, (refl, (refl, (refl, (refl, (refl, (refl, tt)))))))))) e

as_func : (o : Option Func) (f : Func) → as_callee o ≡ Some (callee.Func f) → o ≡ Some f
as_func None f e = absurd (cc)
as_func (Some g) f e = cc

callee_func : (word : List ℕ) (f : Func) → callee_of word ≡ Some (callee.Func f) → is_named f ≡ true
unfolding callee_of
callee_func word f e = by (str_eq_ignore_ascii_case word (codes "pct")) refl
  where
    by : (b : Bool) → str_eq_ignore_ascii_case word (codes "pct") ≡ b → is_named f ≡ true
    by true at = let none : Some callee.Pct ≡ Some (callee.Func f) = rw at at e in absurd (cc)
    by false at = func_named word f (as_func (func_of word) f (rw at at e))

plain_named : (f : Func) → is_named f ≡ true → is_count f ≡ false → is_plain f ≡ true
plain_named Count h c = cc
plain_named (Pct percent) h c = cc
plain_named _ h c = refl

agg_writable : (a : AggTree) → IsAgg a → IsWritable (agg a)
agg_writable (counted w) h = tt
agg_writable (of_field (named p text) f n) h = plain_named f (callee_func text f h.0) h.1
agg_writable (of_percent w p text n) h = h.1

all_writable : (a : AggsTree) → IsAggs a → All IsWritable (aggs a)
all_writable (one_agg a) h = All-cons IsWritable (agg a) [] (agg_writable a h) (All-nil IsWritable)
all_writable (more_aggs xs a) h = All-append IsWritable (aggs xs) (agg a ∷ []) (all_writable xs h.0) (All-cons IsWritable (agg a) [] (agg_writable a h.1) (All-nil IsWritable))

some_agg : (xs : List Agg) (a : Agg) → All IsWritable (xs ++ a ∷ []) → AreWritable (xs ++ a ∷ [])
some_agg [] a h = h
some_agg (x ∷ xs) a h = h

aggs_writable : (a : AggsTree) → IsAggs a → AreWritable (aggs a)
aggs_writable (one_agg a) h = all_writable (one_agg a) h
aggs_writable (more_aggs xs a) h = some_agg (aggs xs) (agg a) (all_writable (more_aggs xs a) h)

tree_writable : (tree : QueryTree) → IsQuery tree → CanWrite (query_of tree)
tree_writable (query xs n o ns w) h = aggs_writable xs h.0

-- what is found can be written
pub found_writable : (deep : ℕ) (ts : List Token) (q : Query) → Found deep ts q → CanWrite q
found_writable deep ts q f = subst CanWrite f.means (tree_writable f.tree f.legal)

record SameDepth (t : Tree) : Type 0 where
  or : or_depth (written (shape t)).or ≡ or_depth (written t).or
  and : and_depth (written (shape t)).and ≡ and_depth (written t).and
  not : not_depth (written (shape t)).not ≡ not_depth (written t).not

same_depth : (t : Tree) → SameDepth t
same_depth (compared f op l) = record { or = refl; and = refl; not = refl }
same_depth (not_of t) = let h : SameDepth t = same_depth t in record { or = omega (arith, h.not); and = omega (arith, h.not); not = omega (arith, h.not) }
same_depth (and_of s t) =
    let h : SameDepth s = same_depth s in
    let k : SameDepth t = same_depth t in
    record { or = omega (arith, h.and, k.not); and = omega (arith, h.and, k.not); not = omega (arith, h.and, k.not) }
same_depth (or_of s t) =
    let h : SameDepth s = same_depth s in
    let k : SameDepth t = same_depth t in
    record { or = omega (arith, h.or, k.and); and = omega (arith, h.or, k.and); not = omega (arith, h.or, k.and) }

-- how deep a condition nests depends on how it is joined alone
shape_depth : (s t : Tree) → shape s ≡ shape t → or_depth (written s).or ≡ or_depth (written t).or
shape_depth s t e = sym (same_depth s).or ∙ ap (λ u. or_depth (written u).or) e ∙ (same_depth t).or

filter_shallow : (t : Option Tree) (o : Option OrTree) → maybe_shape t ≡ maybe_shape (filter_of o) → filter_depth (written_filter t) ≤ filter_depth o
filter_shallow None o e = omega arith
filter_shallow (Some t) None e = absurd (cc)
filter_shallow (Some t) (Some o) e =
    let k : shape t ≡ shape (or_tree o) = cc in
    omega (arith, shape_depth t (or_tree o) k, no_deeper o)

pub query_shallow : (q : Query) (tree : QueryTree) (length delay : Option SpanTree) → filter_shape q ≡ filter_shape (query_of tree) → query_depth (written_query q length delay) ≤ query_depth tree
query_shallow (asked xs n t ns w) (query ys m o ms v) length delay e = filter_shallow t o e

-- a query whose condition is joined as that of one that was found is found as it is written
pub written_found : (deep : ℕ) (ts : List Token) (q other : Query) (length delay : Option SpanTree) → Found deep ts q → CanWrite other → filter_shape other ≡ filter_shape q →
    IsMaybeSpan length → IsMaybeSpan delay → Found deep (tokens_of (written_query other length delay)) (over_window other (windowed (maybe_span length) (maybe_span delay)))
written_found deep ts q other length delay f c e l d = record {
  tree = written_query other length delay;
  legal = query_is other length delay c l d;
  spelled = refl;
  means = query_again other length delay c;
  within = let k : query_depth (written_query other length delay) ≤ query_depth f.tree = query_shallow other f.tree length delay (e ∙ ap filter_shape (sym f.means)) in omega (arith, k, f.within);
}
