-- A reading without places is the reading, without places.
use Rattle.std.proofs.Common.{◌≡◌, ℕ, zero, suc, ◌+◌, List, [], ◌∷◌, Option, Some, None, Bool, true, false, nat_lt, refl, ap, sym, ◌∙◌, map}
use Rattle.std.proofs.lemmas.List.{map-append}
use Rattle.std.specs.Prelude.{if◌then◌else◌}
use Rattle.rg_keywords.specs.declared.keyword.Keyword.TheVariants.{Select, From, Where, Group, By, Over, Sliding, Infinite, Delayed, And, Or, Not}
use Rattle.rg_keywords.specs.declared.op.Symbol.TheVariants.{Open, Close, Comma, Star, Compare}
use Rattle.rg_keywords.specs.declared.op.Op.{Op}
use Rattle.rg_keywords.specs.declared.callee.Callee.{Callee}
use Rattle.rg_keywords.specs.declared.callee.Callee.TheVariants as callee
use Rattle.rg_keywords.specs.declared.func.Func.{Func}
use Rattle.rg_keywords.specs.declared.time_unit.TimeUnit.{TimeUnit}
use Rattle.rg_grammar.specs.Grammar.{Found, Name, named, digits, quoted, truth, Token, reserved, symbol, word, literal, Tree, compared, not_of, Agg, pct_of, Span, span, Query, callee_named, unit_named, is_count, is_signed}
use Rattle.rg_grammar.specs.Machine.{Level, level, Head, head, Left, left, Filtered, filtered, Grouped, grouped, State, at_start, at_func, at_open, at_field, at_pct, at_percent, at_comma, at_pct_field, at_close, after_agg, at_stream, after_stream, at_operand, after_field, after_op, after_operand, at_by, at_group, after_group, at_window, at_length, at_unit, after_window, at_delay_by, at_delay, at_delay_unit, at_end, Step, goes, no_query, too_deep, open_levels, or_with, and_with, nots, with_operand, deeper, callee_step, step, field_step, star_step, start_step, at_func_step, at_open_step, at_field_step, at_pct_step, at_percent_step, at_comma_step, at_pct_field_step, at_close_step, close_step, after_agg_step, at_stream_step, with_window, after_stream_step, operand_step, after_field_step, after_op_step, group_step, over_step, after_operand_step, at_by_step, at_group_step, after_group_step, at_window_step, digits_step, unit_step, at_length_step, at_unit_step, after_window_step, at_delay_by_step, at_delay_step, at_delay_unit_step, Outcome, read, stops, nests, finish, after_step, run}
use Rattle.rg_grammar.specs.Erase.{erase_name, erase_token, erase_tree, erase_maybe, erase_agg, erase_maybe_span, erase_query}
use Rattle.rg_grammar.proofs.Complete.{found_reads}
use Rattle.rg_grammar.proofs.Sound.{sound}

abbrev erase_level : Level → Level
erase_level (level o a n) = level (erase_maybe o) (erase_maybe a) n

abbrev erase_head : Head → Head
erase_head (head xs n) = head (map erase_agg xs) (erase_name n)

abbrev erase_left : Left → Left
erase_left (left h ls o a n) = left (erase_head h) (map erase_level ls) (erase_maybe o) (erase_maybe a) n

abbrev erase_filtered : Filtered → Filtered
erase_filtered (filtered xs n t) = filtered (map erase_agg xs) (erase_name n) (erase_maybe t)

abbrev erase_grouped : Grouped → Grouped
erase_grouped (grouped xs n t ns) = grouped (map erase_agg xs) (erase_name n) (erase_maybe t) (map erase_name ns)

abbrev erase_state : State → State
erase_state at_start = at_start
erase_state (at_func xs) = at_func (map erase_agg xs)
erase_state (at_open xs f) = at_open (map erase_agg xs) f
erase_state (at_field xs f) = at_field (map erase_agg xs) f
erase_state (at_pct xs) = at_pct (map erase_agg xs)
erase_state (at_percent xs) = at_percent (map erase_agg xs)
erase_state (at_comma xs p w) = at_comma (map erase_agg xs) 0 w
erase_state (at_pct_field xs p w) = at_pct_field (map erase_agg xs) 0 w
erase_state (at_close xs a) = at_close (map erase_agg xs) (erase_agg a)
erase_state (after_agg xs) = after_agg (map erase_agg xs)
erase_state (at_stream xs) = at_stream (map erase_agg xs)
erase_state (after_stream h) = after_stream (erase_head h)
erase_state (at_operand l) = at_operand (erase_left l)
erase_state (after_field l f) = after_field (erase_left l) (erase_name f)
erase_state (after_op l f op) = after_op (erase_left l) (erase_name f) op
erase_state (after_operand h ls o t) = after_operand (erase_head h) (map erase_level ls) (erase_maybe o) (erase_tree t)
erase_state (at_by f) = at_by (erase_filtered f)
erase_state (at_group f ns) = at_group (erase_filtered f) (map erase_name ns)
erase_state (after_group f ns) = after_group (erase_filtered f) (map erase_name ns)
erase_state (at_window g) = at_window (erase_grouped g)
erase_state (at_length g) = at_length (erase_grouped g)
erase_state (at_unit g p w) = at_unit (erase_grouped g) 0 w
erase_state (after_window g length) = after_window (erase_grouped g) (erase_maybe_span length)
erase_state (at_delay_by g length) = at_delay_by (erase_grouped g) (erase_maybe_span length)
erase_state (at_delay g length) = at_delay (erase_grouped g) (erase_maybe_span length)
erase_state (at_delay_unit g length p w) = at_delay_unit (erase_grouped g) (erase_maybe_span length) 0 w
erase_state (at_end q) = at_end (erase_query q)

abbrev erase_step : Step → Step
erase_step (goes s) = goes (erase_state s)
erase_step no_query = no_query
erase_step too_deep = too_deep

abbrev erase_outcome : Outcome → Outcome
erase_outcome (read q) = read (erase_query q)
erase_outcome (stops ts) = stops (map erase_token ts)
erase_outcome (nests ts) = nests (map erase_token ts)

open_same : (ls : List Level) → open_levels (map erase_level ls) ≡ open_levels ls
open_same [] = refl
open_same (level o a n ∷ ls) = ap (λ k. k + n + 1) (open_same ls)

or_same : (o : Option Tree) (t : Tree) → or_with (erase_maybe o) (erase_tree t) ≡ erase_tree (or_with o t)
or_same None t = refl
or_same (Some s) t = refl

and_same : (o : Option Tree) (t : Tree) → and_with (erase_maybe o) (erase_tree t) ≡ erase_tree (and_with o t)
and_same None t = refl
and_same (Some s) t = refl

nots_same : (n : ℕ) (t : Tree) → nots n (erase_tree t) ≡ erase_tree (nots n t)
nots_same zero t = refl
nots_same (suc n) t = nots_same n (not_of t)

operand_same : (l : Left) (t : Tree) → with_operand (erase_left l) (erase_tree t) ≡ erase_state (with_operand l t)
operand_same (left h ls o a n) t = ap (after_operand (erase_head h) (map erase_level ls) (erase_maybe o)) (ap (and_with (erase_maybe a)) (nots_same n t) ∙ and_same a (nots n t))

deeper_same : (deep n n' : ℕ) (s : State) → n' ≡ n → deeper deep n' (erase_state s) ≡ erase_step (deeper deep n s)
deeper_same deep n n' s e = ap (λ k. deeper deep k (erase_state s)) e ∙ by_test (nat_lt n deep)
  where
    by_test : (b : Bool) → (if b then goes (erase_state s) else too_deep) ≡ erase_step (if b then goes s else too_deep)
    by_test true = refl
    by_test false = refl

callee_same : (xs : List Agg) (o : Option Callee) → callee_step (map erase_agg xs) o ≡ erase_step (callee_step xs o)
callee_same xs None = refl
callee_same xs (Some (callee.Func f)) = refl
callee_same xs (Some callee.Pct) = refl

star_same : (xs : List Agg) (b : Bool) → star_step (map erase_agg xs) b ≡ erase_step (star_step xs b)
star_same xs true = refl
star_same xs false = refl

word_same : (xs : List Agg) (f : Func) (b : Bool) (n : Name) → field_step (map erase_agg xs) f b (erase_name n) ≡ erase_step (field_step xs f b n)
word_same xs f true n = refl
word_same xs f false n = refl

start_same : (t : Token) → start_step (erase_token t) ≡ erase_step (start_step t)
start_same (reserved Select) = refl
start_same _ = refl

at_func_same : (xs : List Agg) (t : Token) → at_func_step (map erase_agg xs) (erase_token t) ≡ erase_step (at_func_step xs t)
at_func_same xs (word (named p text)) = callee_same xs (callee_named (named p text))
at_func_same xs _ = refl

at_open_same : (xs : List Agg) (f : Func) (t : Token) → at_open_step (map erase_agg xs) f (erase_token t) ≡ erase_step (at_open_step xs f t)
at_open_same xs f (symbol Open) = refl
at_open_same xs f _ = refl

at_field_same : (xs : List Agg) (f : Func) (t : Token) → at_field_step (map erase_agg xs) f (erase_token t) ≡ erase_step (at_field_step xs f t)
at_field_same xs f (symbol Star) = star_same xs (is_count f)
at_field_same xs f (word n) = word_same xs f (is_count f) n
at_field_same xs f _ = refl

digits_same : (b : Bool) (s : State) → digits_step b (erase_state s) ≡ erase_step (digits_step b s)
digits_same true s = refl
digits_same false s = refl

at_pct_same : (xs : List Agg) (t : Token) → at_pct_step (map erase_agg xs) (erase_token t) ≡ erase_step (at_pct_step xs t)
at_pct_same xs (symbol Open) = refl
at_pct_same xs _ = refl

at_percent_same : (xs : List Agg) (t : Token) → at_percent_step (map erase_agg xs) (erase_token t) ≡ erase_step (at_percent_step xs t)
at_percent_same xs (literal (digits p w)) = digits_same (is_signed w) (at_comma xs p w)
at_percent_same xs _ = refl

at_comma_same : (xs : List Agg) (p : ℕ) (w : List ℕ) (t : Token) → at_comma_step (map erase_agg xs) 0 w (erase_token t) ≡ erase_step (at_comma_step xs p w t)
at_comma_same xs p w (symbol Comma) = refl
at_comma_same xs p w _ = refl

at_pct_field_same : (xs : List Agg) (p : ℕ) (w : List ℕ) (t : Token) → at_pct_field_step (map erase_agg xs) 0 w (erase_token t) ≡ erase_step (at_pct_field_step xs p w t)
at_pct_field_same xs p w (word n) = refl
at_pct_field_same xs p w _ = refl

at_close_same : (xs : List Agg) (a : Agg) (t : Token) → at_close_step (map erase_agg xs) (erase_agg a) (erase_token t) ≡ erase_step (at_close_step xs a t)
at_close_same xs a (symbol Close) = ap (λ ys. goes (after_agg ys)) (sym (map-append erase_agg xs (a ∷ [])))
at_close_same xs a _ = refl

after_agg_same : (xs : List Agg) (t : Token) → after_agg_step (map erase_agg xs) (erase_token t) ≡ erase_step (after_agg_step xs t)
after_agg_same xs (symbol Comma) = refl
after_agg_same xs (reserved From) = refl
after_agg_same xs _ = refl

at_stream_same : (xs : List Agg) (t : Token) → at_stream_step (map erase_agg xs) (erase_token t) ≡ erase_step (at_stream_step xs t)
at_stream_same xs (word n) = refl
at_stream_same xs _ = refl

after_stream_same : (h : Head) (t : Token) → after_stream_step (erase_head h) (erase_token t) ≡ erase_step (after_stream_step h t)
after_stream_same h (reserved Where) = refl
after_stream_same (head xs n) (reserved Group) = refl
after_stream_same (head xs n) (reserved Over) = refl
after_stream_same h _ = refl

at_operand_same : (deep : ℕ) (l : Left) (t : Token) → operand_step deep (erase_left l) (erase_token t) ≡ erase_step (operand_step deep l t)
at_operand_same deep (left h ls o a n) (reserved Not) = deeper_same deep (open_levels ls + n) (open_levels (map erase_level ls) + n) (at_operand (left h ls o a (suc n))) (ap (λ k. k + n) (open_same ls))
at_operand_same deep (left h ls o a n) (symbol Open) = deeper_same deep (open_levels ls + n) (open_levels (map erase_level ls) + n) (at_operand (left h (level o a n ∷ ls) None None 0)) (ap (λ k. k + n) (open_same ls))
at_operand_same deep l (word n) = refl
at_operand_same deep l _ = refl

after_field_same : (l : Left) (f : Name) (t : Token) → after_field_step (erase_left l) (erase_name f) (erase_token t) ≡ erase_step (after_field_step l f t)
after_field_same l f (symbol (Compare op)) = refl
after_field_same l f _ = refl

after_op_same : (l : Left) (f : Name) (op : Op) (t : Token) → after_op_step (erase_left l) (erase_name f) op (erase_token t) ≡ erase_step (after_op_step l f op t)
after_op_same l f op (literal x) = ap goes (operand_same l (compared f op x))
after_op_same l f op _ = refl

close_same : (h : Head) (ls : List Level) (t : Tree) → close_step (erase_head h) (map erase_level ls) (erase_tree t) ≡ erase_step (close_step h ls t)
close_same h [] t = refl
close_same h (level o a n ∷ ls) t = ap goes (operand_same (left h ls o a n) t)

group_same : (h : Head) (ls : List Level) (t : Tree) → group_step (erase_head h) (map erase_level ls) (erase_tree t) ≡ erase_step (group_step h ls t)
group_same (head xs n) [] t = refl
group_same h (l ∷ ls) t = refl

over_same : (h : Head) (ls : List Level) (t : Tree) → over_step (erase_head h) (map erase_level ls) (erase_tree t) ≡ erase_step (over_step h ls t)
over_same (head xs n) [] t = refl
over_same h (l ∷ ls) t = refl

after_operand_same : (h : Head) (ls : List Level) (o : Option Tree) (a : Tree) (t : Token) → after_operand_step (erase_head h) (map erase_level ls) (erase_maybe o) (erase_tree a) (erase_token t) ≡ erase_step (after_operand_step h ls o a t)
after_operand_same h ls o a (reserved And) = refl
after_operand_same h ls o a (reserved Or) = ap (λ x. goes (at_operand (left (erase_head h) (map erase_level ls) (Some x) None 0))) (or_same o a)
after_operand_same h ls o a (symbol Close) = ap (close_step (erase_head h) (map erase_level ls)) (or_same o a) ∙ close_same h ls (or_with o a)
after_operand_same h ls o a (reserved Group) = ap (group_step (erase_head h) (map erase_level ls)) (or_same o a) ∙ group_same h ls (or_with o a)
after_operand_same h ls o a (reserved Over) = ap (over_step (erase_head h) (map erase_level ls)) (or_same o a) ∙ over_same h ls (or_with o a)
after_operand_same h ls o a _ = refl

at_by_same : (f : Filtered) (t : Token) → at_by_step (erase_filtered f) (erase_token t) ≡ erase_step (at_by_step f t)
at_by_same f (reserved By) = refl
at_by_same f _ = refl

at_group_same : (f : Filtered) (ns : List Name) (t : Token) → at_group_step (erase_filtered f) (map erase_name ns) (erase_token t) ≡ erase_step (at_group_step f ns t)
at_group_same f ns (word n) = ap (λ ms. goes (after_group (erase_filtered f) ms)) (sym (map-append erase_name ns (n ∷ [])))
at_group_same f ns _ = refl

after_group_same : (f : Filtered) (ns : List Name) (t : Token) → after_group_step (erase_filtered f) (map erase_name ns) (erase_token t) ≡ erase_step (after_group_step f ns t)
after_group_same f ns (symbol Comma) = refl
after_group_same (filtered xs n t) ns (reserved Over) = refl
after_group_same f ns _ = refl

at_window_same : (g : Grouped) (t : Token) → at_window_step (erase_grouped g) (erase_token t) ≡ erase_step (at_window_step g t)
at_window_same g (reserved Sliding) = refl
at_window_same g (reserved Infinite) = refl
at_window_same g _ = refl

unit_same : (o : Option TimeUnit) (next again : TimeUnit → State) → ((unit : TimeUnit) → again unit ≡ erase_state (next unit)) → unit_step o again ≡ erase_step (unit_step o next)
unit_same None next again e = refl
unit_same (Some unit) next again e = ap goes (e unit)

window_same : (g : Grouped) (length delay : Option Span) → with_window (erase_grouped g) (erase_maybe_span length) (erase_maybe_span delay) ≡ erase_query (with_window g length delay)
window_same (grouped xs n t ns) length delay = refl

at_length_same : (g : Grouped) (t : Token) → at_length_step (erase_grouped g) (erase_token t) ≡ erase_step (at_length_step g t)
at_length_same g (literal (digits p w)) = digits_same (is_signed w) (at_unit g p w)
at_length_same g (literal (quoted p w)) = refl
at_length_same g (literal (truth p b)) = refl
at_length_same g _ = refl

at_unit_same : (g : Grouped) (p : ℕ) (w : List ℕ) (t : Token) → at_unit_step (erase_grouped g) 0 w (erase_token t) ≡ erase_step (at_unit_step g p w t)
at_unit_same g p w (word (named q text)) =
    unit_same (unit_named (named q text)) (λ unit. after_window g (Some (span p w unit))) (λ unit. after_window (erase_grouped g) (Some (span 0 w unit))) (λ unit. refl)
at_unit_same g p w _ = refl

after_window_same : (g : Grouped) (length : Option Span) (t : Token) → after_window_step (erase_grouped g) (erase_maybe_span length) (erase_token t) ≡ erase_step (after_window_step g length t)
after_window_same g length (reserved Delayed) = refl
after_window_same g length _ = refl

at_delay_by_same : (g : Grouped) (length : Option Span) (t : Token) → at_delay_by_step (erase_grouped g) (erase_maybe_span length) (erase_token t) ≡ erase_step (at_delay_by_step g length t)
at_delay_by_same g length (reserved By) = refl
at_delay_by_same g length _ = refl

at_delay_same : (g : Grouped) (length : Option Span) (t : Token) → at_delay_step (erase_grouped g) (erase_maybe_span length) (erase_token t) ≡ erase_step (at_delay_step g length t)
at_delay_same g length (literal (digits p w)) = digits_same (is_signed w) (at_delay_unit g length p w)
at_delay_same g length (literal (quoted p w)) = refl
at_delay_same g length (literal (truth p b)) = refl
at_delay_same g length _ = refl

at_delay_unit_same : (g : Grouped) (length : Option Span) (p : ℕ) (w : List ℕ) (t : Token) → at_delay_unit_step (erase_grouped g) (erase_maybe_span length) 0 w (erase_token t) ≡ erase_step (at_delay_unit_step g length p w t)
at_delay_unit_same g length p w (word (named q text)) =
    unit_same (unit_named (named q text)) (λ unit. at_end (with_window g length (Some (span p w unit)))) (λ unit. at_end (with_window (erase_grouped g) (erase_maybe_span length) (Some (span 0 w unit))))
    (λ unit. ap at_end (window_same g length (Some (span p w unit))))
at_delay_unit_same g length p w _ = refl

step_same : (deep : ℕ) (s : State) (t : Token) → step deep (erase_state s) (erase_token t) ≡ erase_step (step deep s t)
step_same deep at_start t = start_same t
step_same deep (at_func xs) t = at_func_same xs t
step_same deep (at_open xs f) t = at_open_same xs f t
step_same deep (at_field xs f) t = at_field_same xs f t
step_same deep (at_pct xs) t = at_pct_same xs t
step_same deep (at_percent xs) t = at_percent_same xs t
step_same deep (at_comma xs p w) t = at_comma_same xs p w t
step_same deep (at_pct_field xs p w) t = at_pct_field_same xs p w t
step_same deep (at_close xs a) t = at_close_same xs a t
step_same deep (after_agg xs) t = after_agg_same xs t
step_same deep (at_stream xs) t = at_stream_same xs t
step_same deep (after_stream h) t = after_stream_same h t
step_same deep (at_operand l) t = at_operand_same deep l t
step_same deep (after_field l f) t = after_field_same l f t
step_same deep (after_op l f op) t = after_op_same l f op t
step_same deep (after_operand h ls o a) t = after_operand_same h ls o a t
step_same deep (at_by f) t = at_by_same f t
step_same deep (at_group f ns) t = at_group_same f ns t
step_same deep (after_group f ns) t = after_group_same f ns t
step_same deep (at_window g) t = at_window_same g t
step_same deep (at_length g) t = at_length_same g t
step_same deep (at_unit g p w) t = at_unit_same g p w t
step_same deep (after_window g length) t = after_window_same g length t
step_same deep (at_delay_by g length) t = at_delay_by_same g length t
step_same deep (at_delay g length) t = at_delay_same g length t
step_same deep (at_delay_unit g length p w) t = at_delay_unit_same g length p w t
step_same deep (at_end q) t = refl

finish_same : (s : State) → finish (erase_state s) ≡ erase_outcome (finish s)
finish_same (after_window g length) = ap read (window_same g length None)
finish_same (at_end q) = refl
finish_same _ = refl

go_same : (x : Step) (deep : ℕ) (ts us : List Token) → ((s : State) → run deep (erase_state s) (map erase_token us) ≡ erase_outcome (run deep s us)) →
    after_step (erase_step x) (map erase_token ts) (λ s. run deep s (map erase_token us)) ≡ erase_outcome (after_step x ts (λ s. run deep s us))
go_same (goes s) deep ts us ih = ih s
go_same no_query deep ts us ih = refl
go_same too_deep deep ts us ih = refl

run_same : (deep : ℕ) (ts : List Token) (s : State) → run deep (erase_state s) (map erase_token ts) ≡ erase_outcome (run deep s ts)
run_same deep [] s = finish_same s
run_same deep (t ∷ ts) s =
    ap (λ x. after_step x (map erase_token (t ∷ ts)) (λ s'. run deep s' (map erase_token ts))) (step_same deep s t) ∙ go_same (step deep s t) deep (t ∷ ts) ts (λ s'. run_same deep ts s')

-- tokens that differ in their places alone come to outcomes that do
same_outcome : (deep : ℕ) (ts us : List Token) → map erase_token ts ≡ map erase_token us → erase_outcome (run deep at_start us) ≡ erase_outcome (run deep at_start ts)
same_outcome deep ts us e = sym (run_same deep us at_start) ∙ ap (run deep at_start) (sym e) ∙ run_same deep ts at_start

read_only : (o : Outcome) (q : Query) → erase_outcome o ≡ read q → (again : Query) × (o ≡ read again) × (erase_query again ≡ q)
read_only (read again) q e = (again, refl, cc)
read_only (stops ts) q e = absurd (cc)
read_only (nests ts) q e = absurd (cc)

stops_only : (o : Outcome) (ts : List Token) → erase_outcome o ≡ stops ts → (again : List Token) × (o ≡ stops again) × (map erase_token again ≡ ts)
stops_only (read q) ts e = absurd (cc)
stops_only (stops again) ts e = (again, refl, cc)
stops_only (nests again) ts e = absurd (cc)

nests_only : (o : Outcome) (ts : List Token) → erase_outcome o ≡ nests ts → (again : List Token) × (o ≡ nests again) × (map erase_token again ≡ ts)
nests_only (read q) ts e = absurd (cc)
nests_only (stops again) ts e = absurd (cc)
nests_only (nests again) ts e = (again, refl, cc)

pub read_again : (deep : ℕ) (ts us : List Token) (q : Query) → map erase_token ts ≡ map erase_token us → run deep at_start ts ≡ read q →
    (again : Query) × (run deep at_start us ≡ read again) × (erase_query again ≡ erase_query q)
read_again deep ts us q e r = read_only (run deep at_start us) (erase_query q) (same_outcome deep ts us e ∙ ap erase_outcome r)

pub stops_again : (deep : ℕ) (ts us rest : List Token) → map erase_token ts ≡ map erase_token us → run deep at_start ts ≡ stops rest →
    (again : List Token) × (run deep at_start us ≡ stops again) × (map erase_token again ≡ map erase_token rest)
stops_again deep ts us rest e r = stops_only (run deep at_start us) (map erase_token rest) (same_outcome deep ts us e ∙ ap erase_outcome r)

pub nests_again : (deep : ℕ) (ts us rest : List Token) → map erase_token ts ≡ map erase_token us → run deep at_start ts ≡ nests rest →
    (again : List Token) × (run deep at_start us ≡ nests again) × (map erase_token again ≡ map erase_token rest)
nests_again deep ts us rest e r = nests_only (run deep at_start us) (map erase_token rest) (same_outcome deep ts us e ∙ ap erase_outcome r)

pub found_again : (deep : ℕ) (ts us : List Token) (q : Query) → map erase_token ts ≡ map erase_token us → Found deep ts q →
    (again : Query) × Found deep us again × (erase_query again ≡ erase_query q)
found_again deep ts us q e f =
    let r : (again : Query) × (run deep at_start us ≡ read again) × (erase_query again ≡ erase_query q) = read_again deep ts us q e (found_reads deep ts q f) in
    (r.0, sound deep us r.0 r.1, r.2)
