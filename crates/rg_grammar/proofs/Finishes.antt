-- Every state can go on to a query.
use Rattle.std.proofs.Common.{◌≡◌, ℕ, List, [], ◌∷◌, ◌++◌, Option, Some, None, Bool, true, false, refl, ap, ◌∙◌}
use Rattle.std.specs.Prelude.{codes}
use Rattle.rg_keywords.specs.declared.keyword.Keyword.TheVariants.{Select, From, By, Over, Infinite}
use Rattle.rg_keywords.specs.declared.op.Symbol.TheVariants.{Open, Close, Comma, Star, Compare}
use Rattle.rg_keywords.specs.declared.op.Op.{Op}
use Rattle.rg_keywords.specs.declared.op.Op.TheVariants.{Eq}
use Rattle.rg_keywords.specs.declared.callee.Callee.TheVariants as callee
use Rattle.rg_keywords.specs.declared.func.Func.{Func}
use Rattle.rg_keywords.specs.declared.func.Func.TheVariants.{Count}
use Rattle.rg_keywords.specs.declared.time_unit.TimeUnit.TheVariants.{Millisecond}
use Rattle.rg_keywords.specs.Words.{callee_of, func_of, unit_of}
use Rattle.rg_grammar.specs.Grammar.{Name, named, Literal, digits, Token, reserved, symbol, word, literal, Tree, compared, Agg, count_all, agg_of, pct_of, Span, span, Query, callee_named, unit_named, is_count}
use Rattle.rg_grammar.specs.Machine.{Level, level, Head, Left, left, Filtered, Grouped, grouped, State, at_start, at_func, at_open, at_field, at_pct, at_percent, at_comma, at_pct_field, at_close, after_agg, at_stream, after_stream, at_operand, after_field, after_op, after_operand, at_by, at_group, after_group, at_window, at_length, at_unit, after_window, at_delay_by, at_delay, at_delay_unit, at_end, goes, or_with, and_with, nots, with_operand, step, without_filter, with_filter, with_group, with_window, read, after_step, run}

-- some tokens with which a query is read from the state
pub record Finishes (deep : ℕ) (s : State) : Type 0 where
  pub more : List Token
  pub query : Query
  pub reads : run deep s more ≡ read query

some_name : Name
some_name = named 0 (codes "x")

abbrev some_digits : Literal
some_digits = digits 0 (codes "0")

abbrev count_word : Name
count_word = named 0 (codes "count")

abbrev ms_word : Name
ms_word = named 0 (codes "ms")

is_count_word : callee_named count_word ≡ Some (callee.Func Count)
unfolding callee_of func_of
is_count_word = refl

is_ms_word : unit_named ms_word ≡ Some Millisecond
unfolding unit_of
is_ms_word = refl

abbrev over_more : List Token
over_more = reserved Over ∷ reserved Infinite ∷ []

abbrev closes : List Level → List Token
closes [] = over_more
closes (l ∷ ls) = symbol Close ∷ closes ls

close_all : (deep : ℕ) (h : Head) (ls : List Level) (o : Option Tree) (t : Tree) → (q : Query) × (run deep (after_operand h ls o t) (closes ls) ≡ read q)
close_all deep h [] o t = (with_window (with_group (with_filter h (or_with o t)) []) None None, refl)
close_all deep h (level p q n ∷ ls) o t = close_all deep h ls p (and_with q (nots n (or_with o t)))

after_operand_finishes : (deep : ℕ) (h : Head) (ls : List Level) (o : Option Tree) (t : Tree) → Finishes deep (after_operand h ls o t)
after_operand_finishes deep h ls o t =
    let c : (q : Query) × (run deep (after_operand h ls o t) (closes ls) ≡ read q) = close_all deep h ls o t in
    record { more = closes ls; query = c.0; reads = c.1 }

operand_finishes : (deep : ℕ) (l : Left) (t : Tree) → Finishes deep (with_operand l t)
operand_finishes deep (left h ls o a n) t = after_operand_finishes deep h ls o (and_with a (nots n t))

push : (deep : ℕ) (s s' : State) (t : Token) → step deep s t ≡ goes s' → Finishes deep s' → Finishes deep s
push deep s s' t e f = record { more = t ∷ f.more; query = f.query; reads = ap (λ x. after_step x (t ∷ f.more) (λ s'. run deep s' f.more)) e ∙ f.reads }

after_agg_finishes : (deep : ℕ) (xs : List Agg) → Finishes deep (after_agg xs)
after_agg_finishes deep xs = record { more = reserved From ∷ word some_name ∷ over_more; query = with_window (grouped xs some_name None []) None None; reads = refl }

close_finishes : (deep : ℕ) (xs : List Agg) (a : Agg) → Finishes deep (at_close xs a)
close_finishes deep xs a = push deep (at_close xs a) (after_agg (xs ++ a ∷ [])) (symbol Close) refl (after_agg_finishes deep (xs ++ a ∷ []))

field_finishes : (deep : ℕ) (xs : List Agg) (f : Func) (b : Bool) → is_count f ≡ b → Finishes deep (at_field xs f)
field_finishes deep xs f true e = push deep (at_field xs f) (at_close xs count_all) (symbol Star) (rw e refl) (close_finishes deep xs count_all)
field_finishes deep xs f false e = push deep (at_field xs f) (at_close xs (agg_of f some_name)) (word some_name) (rw e refl) (close_finishes deep xs (agg_of f some_name))

open_finishes : (deep : ℕ) (xs : List Agg) (f : Func) → Finishes deep (at_open xs f)
open_finishes deep xs f = push deep (at_open xs f) (at_field xs f) (symbol Open) refl (field_finishes deep xs f (is_count f) refl)

func_finishes : (deep : ℕ) (xs : List Agg) → Finishes deep (at_func xs)
func_finishes deep xs = push deep (at_func xs) (at_open xs Count) (word count_word) (rw is_count_word refl) (open_finishes deep xs Count)

pct_field_finishes : (deep : ℕ) (xs : List Agg) (p : ℕ) (w : List ℕ) → Finishes deep (at_pct_field xs p w)
pct_field_finishes deep xs p w = push deep (at_pct_field xs p w) (at_close xs (pct_of p w some_name)) (word some_name) refl (close_finishes deep xs (pct_of p w some_name))

comma_finishes : (deep : ℕ) (xs : List Agg) (p : ℕ) (w : List ℕ) → Finishes deep (at_comma xs p w)
comma_finishes deep xs p w = push deep (at_comma xs p w) (at_pct_field xs p w) (symbol Comma) refl (pct_field_finishes deep xs p w)

percent_finishes : (deep : ℕ) (xs : List Agg) → Finishes deep (at_percent xs)
percent_finishes deep xs = push deep (at_percent xs) (at_comma xs 0 (codes "0")) (literal some_digits) refl (comma_finishes deep xs 0 (codes "0"))

op_finishes : (deep : ℕ) (l : Left) (f : Name) (op : Op) → Finishes deep (after_op l f op)
op_finishes deep l f op = push deep (after_op l f op) (with_operand l (compared f op some_digits)) (literal some_digits) refl (operand_finishes deep l (compared f op some_digits))

after_field_finishes : (deep : ℕ) (l : Left) (f : Name) → Finishes deep (after_field l f)
after_field_finishes deep l f = push deep (after_field l f) (after_op l f Eq) (symbol (Compare Eq)) refl (op_finishes deep l f Eq)

after_group_finishes : (deep : ℕ) (f : Filtered) (ns : List Name) → Finishes deep (after_group f ns)
after_group_finishes deep f ns = record { more = over_more; query = with_window (with_group f ns) None None; reads = refl }

group_finishes : (deep : ℕ) (f : Filtered) (ns : List Name) → Finishes deep (at_group f ns)
group_finishes deep f ns = push deep (at_group f ns) (after_group f (ns ++ some_name ∷ [])) (word some_name) refl (after_group_finishes deep f (ns ++ some_name ∷ []))

after_window_finishes : (deep : ℕ) (g : Grouped) (length : Option Span) → Finishes deep (after_window g length)
after_window_finishes deep g length = record { more = []; query = with_window g length None; reads = refl }

unit_finishes : (deep : ℕ) (g : Grouped) (p : ℕ) (w : List ℕ) → Finishes deep (at_unit g p w)
unit_finishes deep g p w = push deep (at_unit g p w) (after_window g (Some (span p w Millisecond))) (word ms_word) (rw is_ms_word refl) (after_window_finishes deep g (Some (span p w Millisecond)))

length_finishes : (deep : ℕ) (g : Grouped) → Finishes deep (at_length g)
length_finishes deep g = push deep (at_length g) (at_unit g 0 (codes "0")) (literal some_digits) refl (unit_finishes deep g 0 (codes "0"))

end_finishes : (deep : ℕ) (q : Query) → Finishes deep (at_end q)
end_finishes deep q = record { more = []; query = q; reads = refl }

delay_unit_finishes : (deep : ℕ) (g : Grouped) (length : Option Span) (p : ℕ) (w : List ℕ) → Finishes deep (at_delay_unit g length p w)
delay_unit_finishes deep g length p w =
    let q : Query = with_window g length (Some (span p w Millisecond)) in
    push deep (at_delay_unit g length p w) (at_end q) (word ms_word) (rw is_ms_word refl) (end_finishes deep q)

delay_finishes : (deep : ℕ) (g : Grouped) (length : Option Span) → Finishes deep (at_delay g length)
delay_finishes deep g length = push deep (at_delay g length) (at_delay_unit g length 0 (codes "0")) (literal some_digits) refl (delay_unit_finishes deep g length 0 (codes "0"))

pub finishes : (deep : ℕ) (s : State) → Finishes deep s
finishes deep at_start = push deep at_start (at_func []) (reserved Select) refl (func_finishes deep [])
finishes deep (at_func xs) = func_finishes deep xs
finishes deep (at_open xs f) = open_finishes deep xs f
finishes deep (at_field xs f) = field_finishes deep xs f (is_count f) refl
finishes deep (at_pct xs) = push deep (at_pct xs) (at_percent xs) (symbol Open) refl (percent_finishes deep xs)
finishes deep (at_percent xs) = percent_finishes deep xs
finishes deep (at_comma xs p w) = comma_finishes deep xs p w
finishes deep (at_pct_field xs p w) = pct_field_finishes deep xs p w
finishes deep (at_close xs a) = close_finishes deep xs a
finishes deep (after_agg xs) = after_agg_finishes deep xs
finishes deep (at_stream xs) = record { more = word some_name ∷ over_more; query = with_window (grouped xs some_name None []) None None; reads = refl }
finishes deep (after_stream h) = record { more = over_more; query = with_window (with_group (without_filter h) []) None None; reads = refl }
finishes deep (at_operand l) = push deep (at_operand l) (after_field l some_name) (word some_name) refl (after_field_finishes deep l some_name)
finishes deep (after_field l f) = after_field_finishes deep l f
finishes deep (after_op l f op) = op_finishes deep l f op
finishes deep (after_operand h ls o t) = after_operand_finishes deep h ls o t
finishes deep (at_by f) = push deep (at_by f) (at_group f []) (reserved By) refl (group_finishes deep f [])
finishes deep (at_group f ns) = group_finishes deep f ns
finishes deep (after_group f ns) = after_group_finishes deep f ns
finishes deep (at_window g) = push deep (at_window g) (after_window g None) (reserved Infinite) refl (after_window_finishes deep g None)
finishes deep (at_length g) = length_finishes deep g
finishes deep (at_unit g p w) = unit_finishes deep g p w
finishes deep (after_window g length) = after_window_finishes deep g length
finishes deep (at_delay_by g length) = push deep (at_delay_by g length) (at_delay g length) (reserved By) refl (delay_finishes deep g length)
finishes deep (at_delay g length) = delay_finishes deep g length
finishes deep (at_delay_unit g length p w) = delay_unit_finishes deep g length p w
finishes deep (at_end q) = end_finishes deep q
