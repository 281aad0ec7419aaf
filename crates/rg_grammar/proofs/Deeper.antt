-- A step that is allowed is allowed where more depth is, and one that nests too deep is allowed somewhere.
use Rattle.std.proofs.Common.{◌≡◌, ℕ, suc, ◌≤◌, ◌<◌, List, [], ◌∷◌, Option, Some, None, Bool, true, false, nat_lt, refl, arith}
use Rattle.std.specs.Prelude.{if◌then◌else◌}
use Rattle.std.proofs.lemmas.Bool.{lt-ltb, ltb-true}
use Rattle.rg_keywords.specs.declared.keyword.Keyword.TheVariants.{Select, From, Where, Group, By, Over, Sliding, Infinite, Delayed, And, Or, Not}
use Rattle.rg_keywords.specs.declared.op.Symbol.TheVariants.{Open, Close, Comma, Star, Compare}
use Rattle.rg_keywords.specs.declared.op.Op.{Op}
use Rattle.rg_keywords.specs.declared.callee.Callee.{Callee}
use Rattle.rg_keywords.specs.declared.callee.Callee.TheVariants as callee
use Rattle.rg_keywords.specs.declared.func.Func.{Func}
use Rattle.rg_keywords.specs.declared.time_unit.TimeUnit.{TimeUnit}
use Rattle.rg_grammar.specs.Grammar.{Name, digits, Token, reserved, symbol, word, literal, Tree, Agg, Span, span, callee_named, unit_named, is_count, is_signed}
use Rattle.rg_grammar.specs.Machine.{Level, level, Head, Left, Filtered, Grouped, State, at_start, at_func, at_open, at_field, at_pct, at_percent, at_comma, at_pct_field, at_close, after_agg, at_stream, after_stream, at_operand, after_field, after_op, after_operand, at_by, at_group, after_group, at_window, at_length, at_unit, after_window, at_delay_by, at_delay, at_delay_unit, at_end, goes, no_query, too_deep, open_here, or_with, one_not_more, one_level_more, deeper, callee_step, step, field_step, star_step, start_step, at_func_step, at_open_step, at_field_step, at_pct_step, at_percent_step, at_comma_step, at_pct_field_step, at_close_step, close_step, after_agg_step, at_stream_step, with_window, after_stream_step, operand_step, after_field_step, after_op_step, group_step, over_step, after_operand_step, at_by_step, at_group_step, after_group_step, at_window_step, digits_step, unit_step, at_length_step, at_unit_step, after_window_step, at_delay_by_step, at_delay_step, at_delay_unit_step}

more_deep : (b : Bool) (deep more n : ℕ) (s s' : State) → deep ≤ more → nat_lt n deep ≡ b → (if b then goes s else too_deep) ≡ goes s' → deeper more n s ≡ goes s'
more_deep true deep more n s s' d q e = let h : n < deep = ltb-true n deep q in rw (lt-ltb n more (omega arith)) e
more_deep false deep more n s s' d q e = absurd (cc)

more_operand : (deep more : ℕ) (l : Left) (t : Token) (s : State) → deep ≤ more → operand_step deep l t ≡ goes s → operand_step more l t ≡ goes s
more_operand deep more l (reserved Not) s d e = more_deep (nat_lt (open_here l) deep) deep more (open_here l) (at_operand (one_not_more l)) s d refl e
more_operand deep more l (symbol Open) s d e = more_deep (nat_lt (open_here l) deep) deep more (open_here l) (at_operand (one_level_more l)) s d refl e
more_operand deep more l _ s d e = e

pub more_step : (deep more : ℕ) (c : State) (t : Token) (s : State) → deep ≤ more → step deep c t ≡ goes s → step more c t ≡ goes s
more_step deep more (at_operand l) t s d e = more_operand deep more l t s d e
more_step deep more _ t s d e = e

never : (b : Bool) (s : State) → (if b then goes s else too_deep) ≡ no_query → ⊥
never true s e = cc
never false s e = cc

no_operand : (deep more : ℕ) (l : Left) (t : Token) → operand_step deep l t ≡ no_query → operand_step more l t ≡ no_query
no_operand deep more l (reserved Not) e = absurd (never (nat_lt (open_here l) deep) (at_operand (one_not_more l)) e)
no_operand deep more l (symbol Open) e = absurd (never (nat_lt (open_here l) deep) (at_operand (one_level_more l)) e)
no_operand deep more l _ e = e

-- what is no query at one depth is none at any
pub no_step : (deep more : ℕ) (c : State) (t : Token) → step deep c t ≡ no_query → step more c t ≡ no_query
no_step deep more (at_operand l) t e = no_operand deep more l t e
no_step deep more _ t e = e

-- how a token may nest too deep
too_much : (b : Bool) (deep n : ℕ) (s : State) → nat_lt n deep ≡ b → (if b then goes s else too_deep) ≡ too_deep → deeper (suc n) n s ≡ goes s
too_much true deep n s q e = absurd (cc)
too_much false deep n s q e = rw (lt-ltb n (suc n) (omega arith)) refl

pub record Deeper (deep : ℕ) (c : State) (t : Token) : Type 0 where
  pub more : ℕ
  pub state : State
  pub is : step more c t ≡ goes state

deeper_operand : (deep : ℕ) (l : Left) (t : Token) → operand_step deep l t ≡ too_deep → Deeper deep (at_operand l) t
deeper_operand deep l (reserved Not) e = record { more = suc (open_here l); state = at_operand (one_not_more l); is = too_much (nat_lt (open_here l) deep) deep (open_here l) (at_operand (one_not_more l)) refl e }
deeper_operand deep l (symbol Open) e = record { more = suc (open_here l); state = at_operand (one_level_more l); is = too_much (nat_lt (open_here l) deep) deep (open_here l) (at_operand (one_level_more l)) refl e }
deeper_operand deep l (word f) e = absurd (cc)
deeper_operand deep l _ e = absurd (cc)

flat_start : (t : Token) → start_step t ≡ too_deep → ⊥
flat_start (reserved Select) e = cc
flat_start _ e = cc

flat_callee : (xs : List Agg) (o : Option Callee) → callee_step xs o ≡ too_deep → ⊥
flat_callee xs None e = cc
flat_callee xs (Some (callee.Func f)) e = cc
flat_callee xs (Some callee.Pct) e = cc

flat_func : (xs : List Agg) (t : Token) → at_func_step xs t ≡ too_deep → ⊥
flat_func xs (word w) e = flat_callee xs (callee_named w) e
flat_func xs _ e = cc

flat_open : (xs : List Agg) (f : Func) (t : Token) → at_open_step xs f t ≡ too_deep → ⊥
flat_open xs f (symbol Open) e = cc
flat_open xs f _ e = cc

flat_star : (xs : List Agg) (b : Bool) → star_step xs b ≡ too_deep → ⊥
flat_star xs true e = cc
flat_star xs false e = cc

flat_word : (xs : List Agg) (f : Func) (b : Bool) (n : Name) → field_step xs f b n ≡ too_deep → ⊥
flat_word xs f true n e = cc
flat_word xs f false n e = cc

flat_field : (xs : List Agg) (f : Func) (t : Token) → at_field_step xs f t ≡ too_deep → ⊥
flat_field xs f (symbol Star) e = flat_star xs (is_count f) e
flat_field xs f (word n) e = flat_word xs f (is_count f) n e
flat_field xs f _ e = cc

flat_digits : (b : Bool) (s : State) → digits_step b s ≡ too_deep → ⊥
flat_digits true s e = cc
flat_digits false s e = cc

flat_pct : (xs : List Agg) (t : Token) → at_pct_step xs t ≡ too_deep → ⊥
flat_pct xs (symbol Open) e = cc
flat_pct xs _ e = cc

flat_percent : (xs : List Agg) (t : Token) → at_percent_step xs t ≡ too_deep → ⊥
flat_percent xs (literal (digits p w)) e = flat_digits (is_signed w) (at_comma xs p w) e
flat_percent xs _ e = cc

flat_comma : (xs : List Agg) (p : ℕ) (w : List ℕ) (t : Token) → at_comma_step xs p w t ≡ too_deep → ⊥
flat_comma xs p w (symbol Comma) e = cc
flat_comma xs p w _ e = cc

flat_pct_field : (xs : List Agg) (p : ℕ) (w : List ℕ) (t : Token) → at_pct_field_step xs p w t ≡ too_deep → ⊥
flat_pct_field xs p w (word n) e = cc
flat_pct_field xs p w _ e = cc

flat_close : (xs : List Agg) (a : Agg) (t : Token) → at_close_step xs a t ≡ too_deep → ⊥
flat_close xs a (symbol Close) e = cc
flat_close xs a _ e = cc

flat_after_agg : (xs : List Agg) (t : Token) → after_agg_step xs t ≡ too_deep → ⊥
flat_after_agg xs (symbol Comma) e = cc
flat_after_agg xs (reserved From) e = cc
flat_after_agg xs _ e = cc

flat_stream : (xs : List Agg) (t : Token) → at_stream_step xs t ≡ too_deep → ⊥
flat_stream xs (word n) e = cc
flat_stream xs _ e = cc

flat_after_stream : (h : Head) (t : Token) → after_stream_step h t ≡ too_deep → ⊥
flat_after_stream h (reserved Where) e = cc
flat_after_stream h (reserved Group) e = cc
flat_after_stream h (reserved Over) e = cc
flat_after_stream h _ e = cc

flat_after_field : (l : Left) (f : Name) (t : Token) → after_field_step l f t ≡ too_deep → ⊥
flat_after_field l f (symbol (Compare op)) e = cc
flat_after_field l f _ e = cc

flat_after_op : (l : Left) (f : Name) (op : Op) (t : Token) → after_op_step l f op t ≡ too_deep → ⊥
flat_after_op l f op (literal x) e = cc
flat_after_op l f op _ e = cc

flat_parenthesis : (h : Head) (ls : List Level) (t : Tree) → close_step h ls t ≡ too_deep → ⊥
flat_parenthesis h [] t e = cc
flat_parenthesis h (level o a n ∷ ls) t e = cc

flat_grouped : (h : Head) (ls : List Level) (t : Tree) → group_step h ls t ≡ too_deep → ⊥
flat_grouped h [] t e = cc
flat_grouped h (l ∷ ls) t e = cc

flat_over : (h : Head) (ls : List Level) (t : Tree) → over_step h ls t ≡ too_deep → ⊥
flat_over h [] t e = cc
flat_over h (l ∷ ls) t e = cc

flat_after_operand : (h : Head) (ls : List Level) (o : Option Tree) (a : Tree) (t : Token) → after_operand_step h ls o a t ≡ too_deep → ⊥
flat_after_operand h ls o a (reserved And) e = cc
flat_after_operand h ls o a (reserved Or) e = cc
flat_after_operand h ls o a (symbol Close) e = flat_parenthesis h ls (or_with o a) e
flat_after_operand h ls o a (reserved Group) e = flat_grouped h ls (or_with o a) e
flat_after_operand h ls o a (reserved Over) e = flat_over h ls (or_with o a) e
flat_after_operand h ls o a _ e = cc

flat_by : (f : Filtered) (t : Token) → at_by_step f t ≡ too_deep → ⊥
flat_by f (reserved By) e = cc
flat_by f _ e = cc

flat_group : (f : Filtered) (ns : List Name) (t : Token) → at_group_step f ns t ≡ too_deep → ⊥
flat_group f ns (word n) e = cc
flat_group f ns _ e = cc

flat_after_group : (f : Filtered) (ns : List Name) (t : Token) → after_group_step f ns t ≡ too_deep → ⊥
flat_after_group f ns (symbol Comma) e = cc
flat_after_group f ns (reserved Over) e = cc
flat_after_group f ns _ e = cc

flat_window : (g : Grouped) (t : Token) → at_window_step g t ≡ too_deep → ⊥
flat_window g (reserved Sliding) e = cc
flat_window g (reserved Infinite) e = cc
flat_window g _ e = cc

flat_unit_named : (o : Option TimeUnit) (next : TimeUnit → State) → unit_step o next ≡ too_deep → ⊥
flat_unit_named None next e = cc
flat_unit_named (Some unit) next e = cc

flat_length : (g : Grouped) (t : Token) → at_length_step g t ≡ too_deep → ⊥
flat_length g (literal (digits p w)) e = flat_digits (is_signed w) (at_unit g p w) e
flat_length g _ e = cc

flat_unit : (g : Grouped) (p : ℕ) (w : List ℕ) (t : Token) → at_unit_step g p w t ≡ too_deep → ⊥
flat_unit g p w (word u) e = flat_unit_named (unit_named u) (λ unit. after_window g (Some (span p w unit))) e
flat_unit g p w _ e = cc

flat_after_window : (g : Grouped) (length : Option Span) (t : Token) → after_window_step g length t ≡ too_deep → ⊥
flat_after_window g length (reserved Delayed) e = cc
flat_after_window g length _ e = cc

flat_delay_by : (g : Grouped) (length : Option Span) (t : Token) → at_delay_by_step g length t ≡ too_deep → ⊥
flat_delay_by g length (reserved By) e = cc
flat_delay_by g length _ e = cc

flat_delay : (g : Grouped) (length : Option Span) (t : Token) → at_delay_step g length t ≡ too_deep → ⊥
flat_delay g length (literal (digits p w)) e = flat_digits (is_signed w) (at_delay_unit g length p w) e
flat_delay g length _ e = cc

flat_delay_unit : (g : Grouped) (length : Option Span) (p : ℕ) (w : List ℕ) (t : Token) → at_delay_unit_step g length p w t ≡ too_deep → ⊥
flat_delay_unit g length p w (word u) e = flat_unit_named (unit_named u) (λ unit. at_end (with_window g length (Some (span p w unit)))) e
flat_delay_unit g length p w _ e = cc

-- a token that nests too deep is taken where more depth is
pub deeper_step : (deep : ℕ) (c : State) (t : Token) → step deep c t ≡ too_deep → Deeper deep c t
deeper_step deep at_start t e = absurd (flat_start t e)
deeper_step deep (at_func xs) t e = absurd (flat_func xs t e)
deeper_step deep (at_open xs f) t e = absurd (flat_open xs f t e)
deeper_step deep (at_field xs f) t e = absurd (flat_field xs f t e)
deeper_step deep (at_pct xs) t e = absurd (flat_pct xs t e)
deeper_step deep (at_percent xs) t e = absurd (flat_percent xs t e)
deeper_step deep (at_comma xs p w) t e = absurd (flat_comma xs p w t e)
deeper_step deep (at_pct_field xs p w) t e = absurd (flat_pct_field xs p w t e)
deeper_step deep (at_close xs a) t e = absurd (flat_close xs a t e)
deeper_step deep (after_agg xs) t e = absurd (flat_after_agg xs t e)
deeper_step deep (at_stream xs) t e = absurd (flat_stream xs t e)
deeper_step deep (after_stream h) t e = absurd (flat_after_stream h t e)
deeper_step deep (at_operand l) t e = deeper_operand deep l t e
deeper_step deep (after_field l f) t e = absurd (flat_after_field l f t e)
deeper_step deep (after_op l f op) t e = absurd (flat_after_op l f op t e)
deeper_step deep (after_operand h ls o a) t e = absurd (flat_after_operand h ls o a t e)
deeper_step deep (at_by f) t e = absurd (flat_by f t e)
deeper_step deep (at_group f ns) t e = absurd (flat_group f ns t e)
deeper_step deep (after_group f ns) t e = absurd (flat_after_group f ns t e)
deeper_step deep (at_window g) t e = absurd (flat_window g t e)
deeper_step deep (at_length g) t e = absurd (flat_length g t e)
deeper_step deep (at_unit g p w) t e = absurd (flat_unit g p w t e)
deeper_step deep (after_window g length) t e = absurd (flat_after_window g length t e)
deeper_step deep (at_delay_by g length) t e = absurd (flat_delay_by g length t e)
deeper_step deep (at_delay g length) t e = absurd (flat_delay g length t e)
deeper_step deep (at_delay_unit g length p w) t e = absurd (flat_delay_unit g length p w t e)
deeper_step deep (at_end q) t e = absurd (cc)
