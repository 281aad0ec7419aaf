-- What the grammar has is read.
use Rattle.std.proofs.Common.{◌≡◌, ℕ, suc, ◌+◌, ◌≤◌, ◌<◌, max, List, [], ◌∷◌, ◌++◌, Option, Some, None, refl, ap, sym, ◌∙◌, arith}
use Rattle.std.proofs.lemmas.Bool.{lt-ltb}
use Rattle.rg_keywords.specs.declared.keyword.Keyword.TheVariants.{From, By, Over, And, Or, Not}
use Rattle.rg_keywords.specs.declared.op.Symbol.TheVariants.{Open, Close, Comma}
use Rattle.rg_grammar.specs.Grammar.{Found, Name, Token, reserved, symbol, word, OrTree, Tree, one_and, either, AndTree, one_not, both, NotTree, negated, group, comparison, or_then, and_then, not_then, or_depth, and_depth, not_depth, or_tree, and_tree, not_tree, AggTree, counted, of_field, of_percent, Agg, agg_then, agg, AggsTree, one_agg, more_aggs, aggs, aggs_then, FieldsTree, one_field, more_fields, fields, fields_then, SpanTree, spanned, Span, WindowTree, window, length_then, delay_then, window_then, maybe_span, QueryTree, query, Query, where_then, group_then, tokens_of, filter_of, group_of, query_of, filter_depth, query_depth, IsAgg, IsAggs, IsMaybeSpan, IsWindow, IsQuery}
use Rattle.rg_grammar.specs.Machine.{Level, level, Head, head, left, Filtered, Grouped, grouped, State, at_start, at_func, after_agg, after_stream, at_operand, after_operand, at_by, at_group, after_group, at_window, after_window, goes, open_levels, or_with, and_with, nots, deeper, without_filter, with_filter, with_group, with_window, read, after_step, run}

-- the left side of a condition's last OR, and its right side
abbrev pub last_left : OrTree → Option Tree
last_left (one_and a) = None
last_left (either o a) = Some (or_tree o)

abbrev pub last_right : OrTree → Tree
last_right (one_and a) = and_tree a
last_right (either o a) = and_tree a

last_joined : (o : OrTree) → or_with (last_left o) (last_right o) ≡ or_tree o
last_joined (one_and a) = refl
last_joined (either o a) = refl

deeper_in : (deep n : ℕ) (s : State) → n < deep → deeper deep n s ≡ goes s
deeper_in deep n s h = rw (lt-ltb n deep h) refl

mutual
  run_or : (deep : ℕ) (o : OrTree) (h : Head) (ls : List Level) (rest : List Token) → open_levels ls + or_depth o ≤ deep →
      run deep (at_operand (left h ls None None 0)) (or_then o rest) ≡ run deep (after_operand h ls (last_left o) (last_right o)) rest
  run_or deep (one_and a) h ls rest d = run_and deep a h ls None rest d
  run_or deep (either o a) h ls rest d =
      run_or deep o h ls (reserved Or ∷ and_then a rest) (omega arith)
      ∙ run_and deep a h ls (Some (or_with (last_left o) (last_right o))) rest (omega arith)
      ∙ ap (λ t. run deep (after_operand h ls (Some t) (and_tree a)) rest) (last_joined o)

  run_and : (deep : ℕ) (a : AndTree) (h : Head) (ls : List Level) (p : Option Tree) (rest : List Token) → open_levels ls + and_depth a ≤ deep →
      run deep (at_operand (left h ls p None 0)) (and_then a rest) ≡ run deep (after_operand h ls p (and_tree a)) rest
  run_and deep (one_not n) h ls p rest d = run_not deep n h ls p None 0 rest (omega arith)
  run_and deep (both a n) h ls p rest d =
      run_and deep a h ls p (reserved And ∷ not_then n rest) (omega arith)
      ∙ run_not deep n h ls p (Some (and_tree a)) 0 rest (omega arith)

  run_not : (deep : ℕ) (n : NotTree) (h : Head) (ls : List Level) (p q : Option Tree) (m : ℕ) (rest : List Token) → open_levels ls + m + not_depth n ≤ deep →
      run deep (at_operand (left h ls p q m)) (not_then n rest) ≡ run deep (after_operand h ls p (and_with q (nots m (not_tree n)))) rest
  run_not deep (negated n) h ls p q m rest d =
      ap (λ s. after_step s (reserved Not ∷ not_then n rest) (λ s'. run deep s' (not_then n rest))) (deeper_in deep (open_levels ls + m) (at_operand (left h ls p q (suc m))) (omega arith))
      ∙ run_not deep n h ls p q (suc m) rest (omega arith)
  run_not deep (group o) h ls p q m rest d =
      ap (λ s. after_step s (symbol Open ∷ or_then o (symbol Close ∷ rest)) (λ s'. run deep s' (or_then o (symbol Close ∷ rest)))) (deeper_in deep (open_levels ls + m) (at_operand (left h (level p q m ∷ ls) None None 0)) (omega arith))
      ∙ run_or deep o h (level p q m ∷ ls) (symbol Close ∷ rest) (omega arith)
      ∙ ap (λ t. run deep (after_operand h ls p (and_with q (nots m t))) rest) (last_joined o)
  run_not deep (comparison f op l) h ls p q m rest d = refl

run_agg : (deep : ℕ) (a : AggTree) (xs : List Agg) (rest : List Token) → IsAgg a → run deep (at_func xs) (agg_then a rest) ≡ run deep (after_agg (xs ++ agg a ∷ [])) rest
run_agg deep (counted w) xs rest e = rw e refl
run_agg deep (of_field w f n) xs rest e = rw (e.0, e.1) refl
run_agg deep (of_percent w p text n) xs rest e = rw (e.0, e.1) refl

run_aggs : (deep : ℕ) (a : AggsTree) (rest : List Token) → IsAggs a → run deep (at_func []) (aggs_then a rest) ≡ run deep (after_agg (aggs a)) rest
run_aggs deep (one_agg a) rest e = run_agg deep a [] rest e
run_aggs deep (more_aggs xs a) rest e = run_aggs deep xs (symbol Comma ∷ agg_then a rest) e.0 ∙ run_agg deep a (aggs xs) rest e.1

run_length : (deep : ℕ) (g : Grouped) (length : Option SpanTree) (rest : List Token) → IsMaybeSpan length →
    run deep (at_window g) (length_then length rest) ≡ run deep (after_window g (maybe_span length)) rest
run_length deep g None rest e = refl
run_length deep g (Some (spanned p w u unit)) rest e = rw (e.0, e.1) refl

run_delay : (deep : ℕ) (g : Grouped) (length : Option Span) (delay : Option SpanTree) → IsMaybeSpan delay →
    run deep (after_window g length) (delay_then delay []) ≡ read (with_window g length (maybe_span delay))
run_delay deep g length None e = refl
run_delay deep g length (Some (spanned p w u unit)) e = rw (e.0, e.1) refl

-- what a query asks with this window
abbrev windowed_by : Grouped → WindowTree → Query
windowed_by g (window length delay) = with_window g (maybe_span length) (maybe_span delay)

run_window : (deep : ℕ) (g : Grouped) (w : WindowTree) → IsWindow w → run deep (at_window g) (window_then w []) ≡ read (windowed_by g w)
run_window deep g (window length delay) e = run_length deep g length (delay_then delay []) e.0 ∙ run_delay deep g (maybe_span length) delay e.1

run_fields : (deep : ℕ) (f : Filtered) (ns : FieldsTree) (rest : List Token) → run deep (at_group f []) (fields_then ns rest) ≡ run deep (after_group f (fields ns)) rest
run_fields deep f (one_field n) rest = refl
run_fields deep f (more_fields ns n) rest = run_fields deep f ns (symbol Comma ∷ word n ∷ rest)

run_by : (deep : ℕ) (f : Filtered) (ns : FieldsTree) (w : WindowTree) → IsWindow w →
    run deep (at_by f) (reserved By ∷ fields_then ns (reserved Over ∷ window_then w [])) ≡ read (windowed_by (with_group f (fields ns)) w)
run_by deep f ns w e = run_fields deep f ns (reserved Over ∷ window_then w []) ∙ run_window deep (with_group f (fields ns)) w e

-- from the end of the condition on
run_after_condition : (deep : ℕ) (h : Head) (o : Option Tree) (t : Tree) (ns : Option FieldsTree) (w : WindowTree) → IsWindow w →
    run deep (after_operand h [] o t) (group_then ns (reserved Over ∷ window_then w [])) ≡ read (windowed_by (with_group (with_filter h (or_with o t)) (group_of ns)) w)
run_after_condition deep h o t None w e = run_window deep (with_group (with_filter h (or_with o t)) []) w e
run_after_condition deep h o t (Some ns) w e = run_by deep (with_filter h (or_with o t)) ns w e

run_after_stream : (deep : ℕ) (h : Head) (ns : Option FieldsTree) (w : WindowTree) → IsWindow w →
    run deep (after_stream h) (group_then ns (reserved Over ∷ window_then w [])) ≡ read (windowed_by (with_group (without_filter h) (group_of ns)) w)
run_after_stream deep h None w e = run_window deep (with_group (without_filter h) []) w e
run_after_stream deep h (Some ns) w e = run_by deep (without_filter h) ns w e

-- from the end of the stream's name on
run_tail : (deep : ℕ) (xs : List Agg) (n : Name) (o : Option OrTree) (ns : Option FieldsTree) (w : WindowTree) → IsWindow w → filter_depth o ≤ deep →
    run deep (after_stream (head xs n)) (where_then o (group_then ns (reserved Over ∷ window_then w []))) ≡ read (windowed_by (grouped xs n (filter_of o) (group_of ns)) w)
run_tail deep xs n None ns w e d = run_after_stream deep (head xs n) ns w e
run_tail deep xs n (Some o) ns w e d =
    run_or deep o (head xs n) [] (group_then ns (reserved Over ∷ window_then w [])) (omega arith)
    ∙ run_after_condition deep (head xs n) (last_left o) (last_right o) ns w e
    ∙ ap (λ t. read (windowed_by (grouped xs n (Some t) (group_of ns)) w)) (last_joined o)

pub complete : (deep : ℕ) (t : QueryTree) → IsQuery t → query_depth t ≤ deep → run deep at_start (tokens_of t) ≡ read (query_of t)
complete deep (query xs n o ns (window length delay)) e d =
    run_aggs deep xs (reserved From ∷ word n ∷ where_then o (group_then ns (reserved Over ∷ length_then length (delay_then delay [])))) e.0
    ∙ run_tail deep (aggs xs) n o ns (window length delay) e.1 d

-- what tokens are found to ask is read
pub found_reads : (deep : ℕ) (ts : List Token) (q : Query) → Found deep ts q → run deep at_start ts ≡ read q
found_reads deep ts q f = ap (run deep at_start) (sym f.spelled) ∙ complete deep f.tree f.legal f.within ∙ ap read f.means

same_read : (q r : Query) → read q ≡ read r → q ≡ r
same_read q r e = cc

pub found_deeper : (deep more : ℕ) (ts : List Token) (q : Query) → deep ≤ more → Found deep ts q → Found more ts q
found_deeper deep more ts q d f = record { tree = f.tree; legal = f.legal; spelled = f.spelled; means = f.means; within = omega arith }

pub one_query : (deep more : ℕ) (ts : List Token) (q r : Query) → Found deep ts q → Found more ts r → q ≡ r
one_query deep more ts q r f g =
    let high : ℕ = max deep more in
    let reads_q : run high at_start ts ≡ read q = found_reads high ts q (found_deeper deep high ts q (omega arith) f) in
    let reads_r : run high at_start ts ≡ read r = found_reads high ts r (found_deeper more high ts r (omega arith) g) in
    same_read q r (sym reads_q ∙ reads_r)
