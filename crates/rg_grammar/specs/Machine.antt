-- Reading a query token by token.
use Rattle.std.specs.Prelude.{ℕ, zero, suc, ◌+◌, List, [], ◌∷◌, ◌++◌, Option, Some, None, Bool, true, false, nat_lt, if◌then◌else◌}
use Rattle.rg_keywords.specs.declared.keyword.Keyword.TheVariants.{Select, From, Where, Group, By, Over, Sliding, Infinite, Delayed, And, Or, Not}
use Rattle.rg_keywords.specs.declared.op.Op.{Op}
use Rattle.rg_keywords.specs.declared.op.Symbol.TheVariants.{Open, Close, Comma, Star, Compare}
use Rattle.rg_keywords.specs.declared.callee.Callee.{Callee}
use Rattle.rg_keywords.specs.declared.callee.Callee.TheVariants as callee
use Rattle.rg_keywords.specs.declared.func.Func.{Func}
use Rattle.rg_keywords.specs.declared.time_unit.TimeUnit.{TimeUnit}
use Rattle.rg_grammar.specs.Grammar.{Name, digits, Token, reserved, symbol, word, literal, Tree, compared, not_of, and_of, or_of, Agg, count_all, agg_of, pct_of, Span, span, windowed, Query, asked, callee_named, unit_named, is_count, is_signed}

-- what stands before an open parenthesis: the left side of an OR, of an AND, and how many NOT
pub data Level : Type 0 where
  level : Option Tree → Option Tree → ℕ → Level

-- what a query has before its condition
pub data Head : Type 0 where
  head : List Agg → Name → Head

-- the condition so far: the open parentheses, from the inside out, and the innermost level
pub data Left : Type 0 where
  left : Head → List Level → Option Tree → Option Tree → ℕ → Left

-- what a query has before its GROUP
pub data Filtered : Type 0 where
  filtered : List Agg → Name → Option Tree → Filtered

-- what a query has before its OVER
pub data Grouped : Type 0 where
  grouped : List Agg → Name → Option Tree → List Name → Grouped

-- how far a query has come
pub data State : Type 0 where
  at_start : State
  at_func : List Agg → State
  at_open : List Agg → Func → State
  at_field : List Agg → Func → State
  at_pct : List Agg → State
  at_percent : List Agg → State
  at_comma : List Agg → ℕ → List ℕ → State
  at_pct_field : List Agg → ℕ → List ℕ → State
  at_close : List Agg → Agg → State
  after_agg : List Agg → State
  at_stream : List Agg → State
  after_stream : Head → State
  at_operand : Left → State
  after_field : Left → Name → State
  after_op : Left → Name → Op → State
  after_operand : Head → List Level → Option Tree → Tree → State
  at_by : Filtered → State
  at_group : Filtered → List Name → State
  after_group : Filtered → List Name → State
  at_window : Grouped → State
  at_length : Grouped → State
  at_unit : Grouped → ℕ → List ℕ → State
  after_window : Grouped → Option Span → State
  at_delay_by : Grouped → Option Span → State
  at_delay : Grouped → Option Span → State
  at_delay_unit : Grouped → Option Span → ℕ → List ℕ → State
  at_end : Query → State

pub data Step : Type 0 where
  goes : State → Step
  no_query : Step
  too_deep : Step

-- how many NOT and parentheses are open
abbrev pub open_levels : List Level → ℕ
open_levels [] = 0
open_levels (level o a n ∷ ls) = open_levels ls + n + 1

abbrev pub open_here : Left → ℕ
open_here (left h ls o a n) = open_levels ls + n

abbrev pub or_with : Option Tree → Tree → Tree
or_with None t = t
or_with (Some s) t = or_of s t

abbrev pub and_with : Option Tree → Tree → Tree
and_with None t = t
and_with (Some s) t = and_of s t

abbrev pub nots : ℕ → Tree → Tree
nots zero t = t
nots (suc n) t = nots n (not_of t)

-- an operand has come
abbrev pub with_operand : Left → Tree → State
with_operand (left h ls o a n) t = after_operand h ls o (and_with a (nots n t))

-- NOT and a parenthesis
abbrev pub one_not_more : Left → Left
one_not_more (left h ls o a n) = left h ls o a (suc n)

abbrev pub one_level_more : Left → Left
one_level_more (left h ls o a n) = left h (level o a n ∷ ls) None None 0

abbrev pub deeper : ℕ → ℕ → State → Step
deeper deep n s = if nat_lt n deep then goes s else too_deep

abbrev pub callee_step : List Agg → Option Callee → Step
callee_step xs None = no_query
callee_step xs (Some (callee.Func f)) = goes (at_open xs f)
callee_step xs (Some callee.Pct) = goes (at_pct xs)

abbrev pub field_step : List Agg → Func → Bool → Name → Step
field_step xs f true n = no_query
field_step xs f false n = goes (at_close xs (agg_of f n))

abbrev pub star_step : List Agg → Bool → Step
star_step xs true = goes (at_close xs count_all)
star_step xs false = no_query

abbrev pub start_step : Token → Step
start_step (reserved Select) = goes (at_func [])
start_step _ = no_query

abbrev pub at_func_step : List Agg → Token → Step
at_func_step xs (word w) = callee_step xs (callee_named w)
at_func_step xs _ = no_query

abbrev pub at_open_step : List Agg → Func → Token → Step
at_open_step xs f (symbol Open) = goes (at_field xs f)
at_open_step xs f _ = no_query

abbrev pub at_field_step : List Agg → Func → Token → Step
at_field_step xs f (symbol Star) = star_step xs (is_count f)
at_field_step xs f (word n) = field_step xs f (is_count f) n
at_field_step xs f _ = no_query

abbrev pub at_pct_step : List Agg → Token → Step
at_pct_step xs (symbol Open) = goes (at_percent xs)
at_pct_step xs _ = no_query

-- a percent, or a span's number, has no sign
abbrev pub digits_step : Bool → State → Step
digits_step true s = no_query
digits_step false s = goes s

abbrev pub at_percent_step : List Agg → Token → Step
at_percent_step xs (literal (digits p w)) = digits_step (is_signed w) (at_comma xs p w)
at_percent_step xs _ = no_query

abbrev pub at_comma_step : List Agg → ℕ → List ℕ → Token → Step
at_comma_step xs p w (symbol Comma) = goes (at_pct_field xs p w)
at_comma_step xs p w _ = no_query

abbrev pub at_pct_field_step : List Agg → ℕ → List ℕ → Token → Step
at_pct_field_step xs p w (word n) = goes (at_close xs (pct_of p w n))
at_pct_field_step xs p w _ = no_query

abbrev pub at_close_step : List Agg → Agg → Token → Step
at_close_step xs a (symbol Close) = goes (after_agg (xs ++ a ∷ []))
at_close_step xs a _ = no_query

abbrev pub after_agg_step : List Agg → Token → Step
after_agg_step xs (symbol Comma) = goes (at_func xs)
after_agg_step xs (reserved From) = goes (at_stream xs)
after_agg_step xs _ = no_query

abbrev pub at_stream_step : List Agg → Token → Step
at_stream_step xs (word n) = goes (after_stream (head xs n))
at_stream_step xs _ = no_query

abbrev pub without_filter : Head → Filtered
without_filter (head xs n) = filtered xs n None

abbrev pub with_filter : Head → Tree → Filtered
with_filter (head xs n) t = filtered xs n (Some t)

abbrev pub with_group : Filtered → List Name → Grouped
with_group (filtered xs n t) ns = grouped xs n t ns

abbrev pub with_window : Grouped → Option Span → Option Span → Query
with_window (grouped xs n t ns) length delay = asked xs n t ns (windowed length delay)

abbrev pub after_stream_step : Head → Token → Step
after_stream_step h (reserved Where) = goes (at_operand (left h [] None None 0))
after_stream_step h (reserved Group) = goes (at_by (without_filter h))
after_stream_step h (reserved Over) = goes (at_window (with_group (without_filter h) []))
after_stream_step h _ = no_query

abbrev pub operand_step : ℕ → Left → Token → Step
operand_step deep l (reserved Not) = deeper deep (open_here l) (at_operand (one_not_more l))
operand_step deep l (symbol Open) = deeper deep (open_here l) (at_operand (one_level_more l))
operand_step deep l (word f) = goes (after_field l f)
operand_step deep l _ = no_query

abbrev pub after_field_step : Left → Name → Token → Step
after_field_step l f (symbol (Compare op)) = goes (after_op l f op)
after_field_step l f _ = no_query

abbrev pub after_op_step : Left → Name → Op → Token → Step
after_op_step l f op (literal x) = goes (with_operand l (compared f op x))
after_op_step l f op _ = no_query

-- a parenthesis closes the condition t
abbrev pub close_step : Head → List Level → Tree → Step
close_step h [] t = no_query
close_step h (level o a n ∷ ls) t = goes (with_operand (left h ls o a n) t)

-- the condition t ends
abbrev pub group_step : Head → List Level → Tree → Step
group_step h [] t = goes (at_by (with_filter h t))
group_step h (l ∷ ls) t = no_query

abbrev pub over_step : Head → List Level → Tree → Step
over_step h [] t = goes (at_window (with_group (with_filter h t) []))
over_step h (l ∷ ls) t = no_query

abbrev pub after_operand_step : Head → List Level → Option Tree → Tree → Token → Step
after_operand_step h ls o t (reserved And) = goes (at_operand (left h ls o (Some t) 0))
after_operand_step h ls o t (reserved Or) = goes (at_operand (left h ls (Some (or_with o t)) None 0))
after_operand_step h ls o t (symbol Close) = close_step h ls (or_with o t)
after_operand_step h ls o t (reserved Group) = group_step h ls (or_with o t)
after_operand_step h ls o t (reserved Over) = over_step h ls (or_with o t)
after_operand_step h ls o t _ = no_query

abbrev pub at_by_step : Filtered → Token → Step
at_by_step f (reserved By) = goes (at_group f [])
at_by_step f _ = no_query

abbrev pub at_group_step : Filtered → List Name → Token → Step
at_group_step f ns (word n) = goes (after_group f (ns ++ n ∷ []))
at_group_step f ns _ = no_query

abbrev pub after_group_step : Filtered → List Name → Token → Step
after_group_step f ns (symbol Comma) = goes (at_group f ns)
after_group_step f ns (reserved Over) = goes (at_window (with_group f ns))
after_group_step f ns _ = no_query

abbrev pub at_window_step : Grouped → Token → Step
at_window_step g (reserved Sliding) = goes (at_length g)
at_window_step g (reserved Infinite) = goes (after_window g None)
at_window_step g _ = no_query

abbrev pub unit_step : Option TimeUnit → (TimeUnit → State) → Step
unit_step None next = no_query
unit_step (Some unit) next = goes (next unit)

abbrev pub at_length_step : Grouped → Token → Step
at_length_step g (literal (digits p w)) = digits_step (is_signed w) (at_unit g p w)
at_length_step g _ = no_query

abbrev pub at_unit_step : Grouped → ℕ → List ℕ → Token → Step
at_unit_step g p w (word u) = unit_step (unit_named u) (λ unit. after_window g (Some (span p w unit)))
at_unit_step g p w _ = no_query

abbrev pub after_window_step : Grouped → Option Span → Token → Step
after_window_step g length (reserved Delayed) = goes (at_delay_by g length)
after_window_step g length _ = no_query

abbrev pub at_delay_by_step : Grouped → Option Span → Token → Step
at_delay_by_step g length (reserved By) = goes (at_delay g length)
at_delay_by_step g length _ = no_query

abbrev pub at_delay_step : Grouped → Option Span → Token → Step
at_delay_step g length (literal (digits p w)) = digits_step (is_signed w) (at_delay_unit g length p w)
at_delay_step g length _ = no_query

abbrev pub at_delay_unit_step : Grouped → Option Span → ℕ → List ℕ → Token → Step
at_delay_unit_step g length p w (word u) = unit_step (unit_named u) (λ unit. at_end (with_window g length (Some (span p w unit))))
at_delay_unit_step g length p w _ = no_query

-- what a token makes of a state
abbrev pub step : ℕ → State → Token → Step
step deep at_start t = start_step t
step deep (at_func xs) t = at_func_step xs t
step deep (at_open xs f) t = at_open_step xs f t
step deep (at_field xs f) t = at_field_step xs f t
step deep (at_pct xs) t = at_pct_step xs t
step deep (at_percent xs) t = at_percent_step xs t
step deep (at_comma xs p w) t = at_comma_step xs p w t
step deep (at_pct_field xs p w) t = at_pct_field_step xs p w t
step deep (at_close xs a) t = at_close_step xs a t
step deep (after_agg xs) t = after_agg_step xs t
step deep (at_stream xs) t = at_stream_step xs t
step deep (after_stream h) t = after_stream_step h t
step deep (at_operand l) t = operand_step deep l t
step deep (after_field l f) t = after_field_step l f t
step deep (after_op l f op) t = after_op_step l f op t
step deep (after_operand h ls o a) t = after_operand_step h ls o a t
step deep (at_by f) t = at_by_step f t
step deep (at_group f ns) t = at_group_step f ns t
step deep (after_group f ns) t = after_group_step f ns t
step deep (at_window g) t = at_window_step g t
step deep (at_length g) t = at_length_step g t
step deep (at_unit g p w) t = at_unit_step g p w t
step deep (after_window g length) t = after_window_step g length t
step deep (at_delay_by g length) t = at_delay_by_step g length t
step deep (at_delay g length) t = at_delay_step g length t
step deep (at_delay_unit g length p w) t = at_delay_unit_step g length p w t
step deep (at_end q) t = no_query

-- how a reading ends: with a query, or with the tokens from the one on with which no query begins,
-- or from the one on that nests too deep
pub data Outcome : Type 0 where
  read : Query → Outcome
  stops : List Token → Outcome
  nests : List Token → Outcome

abbrev pub finish : State → Outcome
finish (after_window g length) = read (with_window g length None)
finish (at_end q) = read q
finish _ = stops []

abbrev pub after_step : Step → List Token → (State → Outcome) → Outcome
after_step (goes s) ts go = go s
after_step no_query ts go = stops ts
after_step too_deep ts go = nests ts

abbrev pub run : ℕ → State → List Token → Outcome
run deep s [] = finish s
run deep s (t ∷ ts) = after_step (step deep s t) (t ∷ ts) (λ s'. run deep s' ts)
