-- How far a query has come, with the trees of what came.
use Rattle.std.proofs.Common.{◌≡◌, ℕ, zero, suc, ◌+◌, ◌≤◌, List, [], ◌∷◌, Option, Some, None, false}
use Rattle.rg_keywords.specs.declared.keyword.Keyword.TheVariants.{Select, From, Where, Group, By, Over, Sliding, Delayed, And, Or, Not}
use Rattle.rg_keywords.specs.declared.op.Symbol.TheVariants.{Open, Comma, Star, Compare}
use Rattle.rg_keywords.specs.declared.op.Op.{Op}
use Rattle.rg_keywords.specs.declared.callee.Callee.TheVariants as callee
use Rattle.rg_keywords.specs.declared.func.Func.{Func}
use Rattle.rg_grammar.specs.Grammar.{Name, digits, Token, reserved, symbol, word, literal, OrTree, Tree, AndTree, or_then, and_then, or_depth, and_depth, or_tree, and_tree, AggTree, counted, of_field, of_percent, Agg, agg, AggsTree, aggs, aggs_then, FieldsTree, fields, fields_then, SpanTree, span_then, span_of, length_then, maybe_span, where_then, group_then, filter_of, group_of, filter_depth, callee_named, is_signed, IsAgg, IsAggs, IsSpan, IsMaybeSpan}
use Rattle.rg_grammar.specs.Machine.{Level, level, head, Left, left, Filtered, filtered, Grouped, grouped, State, at_start, at_func, at_open, at_field, at_pct, at_percent, at_comma, at_pct_field, at_close, after_agg, at_stream, after_stream, at_operand, after_field, after_op, after_operand, at_by, at_group, after_group, at_window, at_length, at_unit, after_window, at_delay_by, at_delay, at_delay_unit, at_end, open_levels, with_window}

-- a level: the left side of an OR, of an AND, and how many NOT
pub data Outer : Type 0 where
  outer : Option OrTree → Option AndTree → ℕ → Outer

-- a query before an operand: the open parentheses, from the inside out, and the innermost level
pub data Before : Type 0 where
  before : AggsTree → Name → List Outer → Option OrTree → Option AndTree → ℕ → Before

-- a query before its GROUP
pub data Chosen : Type 0 where
  chosen : AggsTree → Name → Option OrTree → Chosen

-- a query before its OVER
pub data Keyed : Type 0 where
  keyed : AggsTree → Name → Option OrTree → Option FieldsTree → Keyed

pub data Stage : Type 0 where
  s_start : Stage
  s_func : Option AggsTree → Stage
  s_open : Option AggsTree → Name → Func → Stage
  s_field : Option AggsTree → Name → Func → Stage
  s_pct : Option AggsTree → Name → Stage
  s_percent : Option AggsTree → Name → Stage
  s_comma : Option AggsTree → Name → ℕ → List ℕ → Stage
  s_pct_field : Option AggsTree → Name → ℕ → List ℕ → Stage
  s_close : Option AggsTree → AggTree → Stage
  s_after_agg : AggsTree → Stage
  s_stream : AggsTree → Stage
  s_after_stream : AggsTree → Name → Stage
  s_operand : Before → Stage
  s_after_field : Before → Name → Stage
  s_after_op : Before → Name → Op → Stage
  s_after_operand : AggsTree → Name → List Outer → Option OrTree → AndTree → Stage
  s_by : Chosen → Stage
  s_group : Chosen → Option FieldsTree → Stage
  s_after_group : Chosen → FieldsTree → Stage
  s_window : Keyed → Stage
  s_length : Keyed → Stage
  s_unit : Keyed → ℕ → List ℕ → Stage
  s_after_window : Keyed → Option SpanTree → Stage
  s_delay_by : Keyed → Option SpanTree → Stage
  s_delay : Keyed → Option SpanTree → Stage
  s_delay_unit : Keyed → Option SpanTree → ℕ → List ℕ → Stage
  s_end : Keyed → Option SpanTree → SpanTree → Stage

abbrev pub maybe_or : Option OrTree → Option Tree
maybe_or None = None
maybe_or (Some o) = Some (or_tree o)

abbrev pub maybe_and : Option AndTree → Option Tree
maybe_and None = None
maybe_and (Some a) = Some (and_tree a)

abbrev pub maybe_aggs : Option AggsTree → List Agg
maybe_aggs None = []
maybe_aggs (Some xs) = aggs xs

abbrev pub levels : List Outer → List Level
levels [] = []
levels (outer o a n ∷ ws) = level (maybe_or o) (maybe_and a) n ∷ levels ws

abbrev pub left_of : Before → Left
left_of (before xs s ws o a n) = left (head (aggs xs) s) (levels ws) (maybe_or o) (maybe_and a) n

abbrev pub filtered_of : Chosen → Filtered
filtered_of (chosen xs n o) = filtered (aggs xs) n (filter_of o)

abbrev pub grouped_of : Keyed → Grouped
grouped_of (keyed xs n o ns) = grouped (aggs xs) n (filter_of o) (group_of ns)

-- the machine's state at that stage
abbrev pub state : Stage → State
state s_start = at_start
state (s_func xs) = at_func (maybe_aggs xs)
state (s_open xs w f) = at_open (maybe_aggs xs) f
state (s_field xs w f) = at_field (maybe_aggs xs) f
state (s_pct xs w) = at_pct (maybe_aggs xs)
state (s_percent xs w) = at_percent (maybe_aggs xs)
state (s_comma xs w p text) = at_comma (maybe_aggs xs) p text
state (s_pct_field xs w p text) = at_pct_field (maybe_aggs xs) p text
state (s_close xs a) = at_close (maybe_aggs xs) (agg a)
state (s_after_agg xs) = after_agg (aggs xs)
state (s_stream xs) = at_stream (aggs xs)
state (s_after_stream xs n) = after_stream (head (aggs xs) n)
state (s_operand b) = at_operand (left_of b)
state (s_after_field b f) = after_field (left_of b) f
state (s_after_op b f op) = after_op (left_of b) f op
state (s_after_operand xs s ws o a) = after_operand (head (aggs xs) s) (levels ws) (maybe_or o) (and_tree a)
state (s_by c) = at_by (filtered_of c)
state (s_group c ns) = at_group (filtered_of c) (group_of ns)
state (s_after_group c ns) = after_group (filtered_of c) (fields ns)
state (s_window k) = at_window (grouped_of k)
state (s_length k) = at_length (grouped_of k)
state (s_unit k p w) = at_unit (grouped_of k) p w
state (s_after_window k l) = after_window (grouped_of k) (maybe_span l)
state (s_delay_by k l) = at_delay_by (grouped_of k) (maybe_span l)
state (s_delay k l) = at_delay (grouped_of k) (maybe_span l)
state (s_delay_unit k l p w) = at_delay_unit (grouped_of k) (maybe_span l) p w
state (s_end k l d) = at_end (with_window (grouped_of k) (maybe_span l) (Some (span_of d)))

-- the tokens that came, and then the rest
abbrev pub or_part : Option OrTree → List Token → List Token
or_part None rest = rest
or_part (Some o) rest = or_then o (reserved Or ∷ rest)

abbrev pub and_part : Option AndTree → List Token → List Token
and_part None rest = rest
and_part (Some a) rest = and_then a (reserved And ∷ rest)

abbrev pub nots_part : ℕ → List Token → List Token
nots_part zero rest = rest
nots_part (suc n) rest = nots_part n (reserved Not ∷ rest)

abbrev pub levels_then : List Outer → List Token → List Token
levels_then [] rest = rest
levels_then (outer o a n ∷ ws) rest = levels_then ws (or_part o (and_part a (nots_part n (symbol Open ∷ rest))))

abbrev pub aggs_part : Option AggsTree → List Token → List Token
aggs_part None rest = rest
aggs_part (Some xs) rest = aggs_then xs (symbol Comma ∷ rest)

abbrev pub fields_part : Option FieldsTree → List Token → List Token
fields_part None rest = rest
fields_part (Some ns) rest = fields_then ns (symbol Comma ∷ rest)

abbrev pub stream_then : AggsTree → Name → List Token → List Token
stream_then xs s rest = reserved Select ∷ aggs_then xs (reserved From ∷ word s ∷ rest)

abbrev pub before_then : Before → List Token → List Token
before_then (before xs s ws o a n) rest = stream_then xs s (reserved Where ∷ levels_then ws (or_part o (and_part a (nots_part n rest))))

abbrev pub chosen_then : Chosen → List Token → List Token
chosen_then (chosen xs n o) rest = stream_then xs n (where_then o rest)

abbrev pub keyed_then : Keyed → List Token → List Token
keyed_then (keyed xs n o ns) rest = stream_then xs n (where_then o (group_then ns (reserved Over ∷ rest)))

abbrev pub so_far : Stage → List Token → List Token
so_far s_start rest = rest
so_far (s_func xs) rest = reserved Select ∷ aggs_part xs rest
so_far (s_open xs w f) rest = reserved Select ∷ aggs_part xs (word w ∷ rest)
so_far (s_field xs w f) rest = reserved Select ∷ aggs_part xs (word w ∷ symbol Open ∷ rest)
so_far (s_pct xs w) rest = reserved Select ∷ aggs_part xs (word w ∷ rest)
so_far (s_percent xs w) rest = reserved Select ∷ aggs_part xs (word w ∷ symbol Open ∷ rest)
so_far (s_comma xs w p text) rest = reserved Select ∷ aggs_part xs (word w ∷ symbol Open ∷ literal (digits p text) ∷ rest)
so_far (s_pct_field xs w p text) rest = reserved Select ∷ aggs_part xs (word w ∷ symbol Open ∷ literal (digits p text) ∷ symbol Comma ∷ rest)
so_far (s_close xs (counted w)) rest = reserved Select ∷ aggs_part xs (word w ∷ symbol Open ∷ symbol Star ∷ rest)
so_far (s_close xs (of_field w f n)) rest = reserved Select ∷ aggs_part xs (word w ∷ symbol Open ∷ word n ∷ rest)
so_far (s_close xs (of_percent w p text n)) rest = reserved Select ∷ aggs_part xs (word w ∷ symbol Open ∷ literal (digits p text) ∷ symbol Comma ∷ word n ∷ rest)
so_far (s_after_agg xs) rest = reserved Select ∷ aggs_then xs rest
so_far (s_stream xs) rest = reserved Select ∷ aggs_then xs (reserved From ∷ rest)
so_far (s_after_stream xs n) rest = stream_then xs n rest
so_far (s_operand b) rest = before_then b rest
so_far (s_after_field b f) rest = before_then b (word f ∷ rest)
so_far (s_after_op b f op) rest = before_then b (word f ∷ symbol (Compare op) ∷ rest)
so_far (s_after_operand xs s ws o a) rest = stream_then xs s (reserved Where ∷ levels_then ws (or_part o (and_then a rest)))
so_far (s_by c) rest = chosen_then c (reserved Group ∷ rest)
so_far (s_group c ns) rest = chosen_then c (reserved Group ∷ reserved By ∷ fields_part ns rest)
so_far (s_after_group c ns) rest = chosen_then c (reserved Group ∷ reserved By ∷ fields_then ns rest)
so_far (s_window k) rest = keyed_then k rest
so_far (s_length k) rest = keyed_then k (reserved Sliding ∷ rest)
so_far (s_unit k p w) rest = keyed_then k (reserved Sliding ∷ literal (digits p w) ∷ rest)
so_far (s_after_window k l) rest = keyed_then k (length_then l rest)
so_far (s_delay_by k l) rest = keyed_then k (length_then l (reserved Delayed ∷ rest))
so_far (s_delay k l) rest = keyed_then k (length_then l (reserved Delayed ∷ reserved By ∷ rest))
so_far (s_delay_unit k l p w) rest = keyed_then k (length_then l (reserved Delayed ∷ reserved By ∷ literal (digits p w) ∷ rest))
so_far (s_end k l d) rest = keyed_then k (length_then l (reserved Delayed ∷ reserved By ∷ span_then d rest))

abbrev pub MaybeAggs : Option AggsTree → Type 0
MaybeAggs None = Unit {0}
MaybeAggs (Some xs) = IsAggs xs

-- the levels nest at most so deep
abbrev pub within_or : ℕ → ℕ → Option OrTree → Type 0
within_or deep n None = Unit {0}
within_or deep n (Some o) = n + or_depth o ≤ deep

abbrev pub within_and : ℕ → ℕ → Option AndTree → Type 0
within_and deep n None = Unit {0}
within_and deep n (Some a) = n + and_depth a ≤ deep

abbrev pub Nested : ℕ → List Outer → Type 0
Nested deep [] = Unit {0}
Nested deep (outer o a n ∷ ws) = Nested deep ws × within_or deep (open_levels (levels ws)) o × within_and deep (open_levels (levels ws)) a × (open_levels (levels ws) + n + 1 ≤ deep)

abbrev pub Legal_before : ℕ → Before → Type 0
Legal_before deep (before xs s ws o a n) = IsAggs xs × Nested deep ws × within_or deep (open_levels (levels ws)) o × within_and deep (open_levels (levels ws)) a × (open_levels (levels ws) + n ≤ deep)

abbrev pub Legal_chosen : ℕ → Chosen → Type 0
Legal_chosen deep (chosen xs n o) = IsAggs xs × (filter_depth o ≤ deep)

abbrev pub Legal_keyed : ℕ → Keyed → Type 0
Legal_keyed deep (keyed xs n o ns) = IsAggs xs × (filter_depth o ≤ deep)

abbrev pub Legal : ℕ → Stage → Type 0
Legal deep s_start = Unit {0}
Legal deep (s_func xs) = MaybeAggs xs
Legal deep (s_open xs w f) = MaybeAggs xs × (callee_named w ≡ Some (callee.Func f))
Legal deep (s_field xs w f) = MaybeAggs xs × (callee_named w ≡ Some (callee.Func f))
Legal deep (s_pct xs w) = MaybeAggs xs × (callee_named w ≡ Some callee.Pct)
Legal deep (s_percent xs w) = MaybeAggs xs × (callee_named w ≡ Some callee.Pct)
Legal deep (s_comma xs w p text) = MaybeAggs xs × ((callee_named w ≡ Some callee.Pct) × (is_signed text ≡ false))
Legal deep (s_pct_field xs w p text) = MaybeAggs xs × ((callee_named w ≡ Some callee.Pct) × (is_signed text ≡ false))
Legal deep (s_close xs a) = MaybeAggs xs × IsAgg a
Legal deep (s_after_agg xs) = IsAggs xs
Legal deep (s_stream xs) = IsAggs xs
Legal deep (s_after_stream xs n) = IsAggs xs
Legal deep (s_operand b) = Legal_before deep b
Legal deep (s_after_field b f) = Legal_before deep b
Legal deep (s_after_op b f op) = Legal_before deep b
Legal deep (s_after_operand xs s ws o a) = IsAggs xs × Nested deep ws × within_or deep (open_levels (levels ws)) o × (open_levels (levels ws) + and_depth a ≤ deep)
Legal deep (s_by c) = Legal_chosen deep c
Legal deep (s_group c ns) = Legal_chosen deep c
Legal deep (s_after_group c ns) = Legal_chosen deep c
Legal deep (s_window k) = Legal_keyed deep k
Legal deep (s_length k) = Legal_keyed deep k
Legal deep (s_unit k p w) = Legal_keyed deep k × (is_signed w ≡ false)
Legal deep (s_after_window k l) = Legal_keyed deep k × IsMaybeSpan l
Legal deep (s_delay_by k l) = Legal_keyed deep k × IsMaybeSpan l
Legal deep (s_delay k l) = Legal_keyed deep k × IsMaybeSpan l
Legal deep (s_delay_unit k l p w) = Legal_keyed deep k × IsMaybeSpan l × (is_signed w ≡ false)
Legal deep (s_end k l d) = Legal_keyed deep k × IsMaybeSpan l × IsSpan d

-- the stage after a token
pub record Grown (deep : ℕ) (c : Stage) (t : Token) (s : State) : Type 0 where
  pub stage : Stage
  pub is : state stage ≡ s
  pub legal : Legal deep stage
  pub then_rest : (rest : List Token) → so_far stage rest ≡ so_far c (t ∷ rest)
