-- Where a token is taken, the tokens so far and this one are those of the next stage.
use Rattle.std.proofs.Common.{◌≡◌, ℕ, suc, ◌+◌, ◌≤◌, ◌<◌, List, [], ◌∷◌, ◌++◌, Option, Some, None, Bool, true, false, nat_lt, refl, ap, sym, ◌∙◌, arith}
use Rattle.std.specs.Prelude.{if◌then◌else◌}
use Rattle.std.proofs.lemmas.Bool.{ltb-true}
use Rattle.rg_keywords.specs.declared.keyword.Keyword.TheVariants.{Select, From, Where, Group, By, Over, Sliding, Infinite, Delayed, And, Or, Not}
use Rattle.rg_keywords.specs.declared.op.Symbol.TheVariants.{Open, Close, Comma, Star, Compare}
use Rattle.rg_keywords.specs.declared.op.Op.{Op}
use Rattle.rg_keywords.specs.declared.callee.Callee.{Callee}
use Rattle.rg_keywords.specs.declared.callee.Callee.TheVariants as callee
use Rattle.rg_keywords.specs.declared.func.Func.{Func}
use Rattle.rg_keywords.specs.declared.func.Func.TheVariants.{Count}
use Rattle.rg_keywords.specs.declared.time_unit.TimeUnit.{TimeUnit}
use Rattle.rg_grammar.specs.Grammar.{Name, digits, Token, reserved, symbol, word, literal, OrTree, AndTree, group, comparison, or_depth, and_tree, AggTree, counted, of_field, of_percent, agg_then, agg, AggsTree, one_agg, more_aggs, aggs, aggs_then, FieldsTree, one_field, more_fields, fields, fields_then, SpanTree, spanned, span, maybe_span, group_of, callee_named, unit_named, is_count, is_signed, IsAgg, IsAggs, IsMaybeSpan}
use Rattle.rg_grammar.specs.Machine.{head, left, filtered, grouped, State, at_comma, after_agg, at_operand, at_by, after_group, at_window, at_unit, after_window, at_delay_unit, at_end, goes, too_deep, open_levels, or_with, with_operand, deeper, callee_step, step, field_step, star_step, start_step, at_func_step, at_open_step, at_field_step, at_pct_step, at_percent_step, at_comma_step, at_pct_field_step, at_close_step, close_step, after_agg_step, at_stream_step, with_group, with_window, after_stream_step, operand_step, after_field_step, after_op_step, group_step, over_step, after_operand_step, at_by_step, at_group_step, after_group_step, at_window_step, digits_step, unit_step, at_length_step, at_unit_step, after_window_step, at_delay_by_step, at_delay_step, at_delay_unit_step}
use Rattle.rg_grammar.proofs.Stages.{Grown, Outer, outer, Before, before, Chosen, chosen, Keyed, keyed, Stage, s_start, s_func, s_open, s_field, s_pct, s_percent, s_comma, s_pct_field, s_close, s_after_agg, s_stream, s_after_stream, s_operand, s_after_field, s_after_op, s_after_operand, s_by, s_group, s_after_group, s_window, s_length, s_unit, s_after_window, s_delay_by, s_delay, s_delay_unit, s_end, maybe_or, maybe_aggs, levels, left_of, filtered_of, grouped_of, state, levels_then, aggs_part, fields_part, stream_then, before_then, chosen_then, so_far, MaybeAggs, Nested, Legal_before, Legal_chosen, Legal_keyed, Legal}
use Rattle.rg_grammar.proofs.Operands.{Joined, join_or, join_or_tree, join_or_then, join_or_depth, operand}

grow_start : (deep : ℕ) (t : Token) (s : State) → start_step t ≡ goes s → Grown deep s_start t s
grow_start deep (reserved Select) s e = record { stage = s_func None; is = cc; legal = tt; then_rest = λ rest. refl }
grow_start deep _ s e = absurd (cc)

grow_callee : (deep : ℕ) (xs : Option AggsTree) (w : Name) (o : Option Callee) (s : State) → MaybeAggs xs → callee_named w ≡ o → callee_step (maybe_aggs xs) o ≡ goes s → Grown deep (s_func xs) (word w) s
grow_callee deep xs w None s l q e = absurd (cc)
grow_callee deep xs w (Some (callee.Func f)) s l q e = record { stage = s_open xs w f; is = cc; legal = (l, q); then_rest = λ rest. refl }
grow_callee deep xs w (Some callee.Pct) s l q e = record { stage = s_pct xs w; is = cc; legal = (l, q); then_rest = λ rest. refl }

grow_func : (deep : ℕ) (xs : Option AggsTree) (t : Token) (s : State) → MaybeAggs xs → at_func_step (maybe_aggs xs) t ≡ goes s → Grown deep (s_func xs) t s
grow_func deep xs (word w) s l e = grow_callee deep xs w (callee_named w) s l refl e
grow_func deep xs _ s l e = absurd (cc)

grow_open : (deep : ℕ) (xs : Option AggsTree) (w : Name) (f : Func) (t : Token) (s : State) → MaybeAggs xs → callee_named w ≡ Some (callee.Func f) → at_open_step (maybe_aggs xs) f t ≡ goes s → Grown deep (s_open xs w f) t s
grow_open deep xs w f (symbol Open) s l q e = record { stage = s_field xs w f; is = cc; legal = (l, q); then_rest = λ rest. refl }
grow_open deep xs w f _ s l q e = absurd (cc)

only_count : (f : Func) → is_count f ≡ true → f ≡ Count
only_count Count e = refl
only_count _ e = cc

grow_star : (deep : ℕ) (xs : Option AggsTree) (w : Name) (f : Func) (b : Bool) (s : State) → MaybeAggs xs → callee_named w ≡ Some (callee.Func f) → is_count f ≡ b → star_step (maybe_aggs xs) b ≡ goes s → Grown deep (s_field xs w f) (symbol Star) s
grow_star deep xs w f true s l q i e = record { stage = s_close xs (counted w); is = cc; legal = (l, q ∙ ap (λ g. Some (callee.Func g)) (only_count f i)); then_rest = λ rest. refl }
grow_star deep xs w f false s l q i e = absurd (cc)

grow_word : (deep : ℕ) (xs : Option AggsTree) (w : Name) (f : Func) (n : Name) (b : Bool) (s : State) → MaybeAggs xs → callee_named w ≡ Some (callee.Func f) → is_count f ≡ b → field_step (maybe_aggs xs) f b n ≡ goes s → Grown deep (s_field xs w f) (word n) s
grow_word deep xs w f n true s l q i e = absurd (cc)
grow_word deep xs w f n false s l q i e = record { stage = s_close xs (of_field w f n); is = cc; legal = (l, (q, i)); then_rest = λ rest. refl }

grow_field : (deep : ℕ) (xs : Option AggsTree) (w : Name) (f : Func) (t : Token) (s : State) → MaybeAggs xs → callee_named w ≡ Some (callee.Func f) → at_field_step (maybe_aggs xs) f t ≡ goes s → Grown deep (s_field xs w f) t s
grow_field deep xs w f (symbol Star) s l q e = grow_star deep xs w f (is_count f) s l q refl e
grow_field deep xs w f (word n) s l q e = grow_word deep xs w f n (is_count f) s l q refl e
grow_field deep xs w f _ s l q e = absurd (cc)

unsigned : (b : Bool) (s s' : State) → digits_step b s ≡ goes s' → (b ≡ false) × (s ≡ s')
unsigned true s s' e = absurd (cc)
unsigned false s s' e = (refl, cc)

grow_pct : (deep : ℕ) (xs : Option AggsTree) (w : Name) (t : Token) (s : State) → MaybeAggs xs → callee_named w ≡ Some callee.Pct → at_pct_step (maybe_aggs xs) t ≡ goes s → Grown deep (s_pct xs w) t s
grow_pct deep xs w (symbol Open) s l q e = record { stage = s_percent xs w; is = cc; legal = (l, q); then_rest = λ rest. refl }
grow_pct deep xs w _ s l q e = absurd (cc)

grow_percent : (deep : ℕ) (xs : Option AggsTree) (w : Name) (t : Token) (s : State) → MaybeAggs xs → callee_named w ≡ Some callee.Pct → at_percent_step (maybe_aggs xs) t ≡ goes s → Grown deep (s_percent xs w) t s
grow_percent deep xs w (literal (digits p text)) s l q e =
    let u : (is_signed text ≡ false) × (at_comma (maybe_aggs xs) p text ≡ s) = unsigned (is_signed text) (at_comma (maybe_aggs xs) p text) s e in
    record { stage = s_comma xs w p text; is = u.1; legal = (l, (q, u.0)); then_rest = λ rest. refl }
grow_percent deep xs w _ s l q e = absurd (cc)

grow_comma : (deep : ℕ) (xs : Option AggsTree) (w : Name) (p : ℕ) (text : List ℕ) (t : Token) (s : State) → MaybeAggs xs → (callee_named w ≡ Some callee.Pct) × (is_signed text ≡ false) → at_comma_step (maybe_aggs xs) p text t ≡ goes s → Grown deep (s_comma xs w p text) t s
grow_comma deep xs w p text (symbol Comma) s l q e = record { stage = s_pct_field xs w p text; is = cc; legal = (l, q); then_rest = λ rest. refl }
grow_comma deep xs w p text _ s l q e = absurd (cc)

grow_pct_field : (deep : ℕ) (xs : Option AggsTree) (w : Name) (p : ℕ) (text : List ℕ) (t : Token) (s : State) → MaybeAggs xs → (callee_named w ≡ Some callee.Pct) × (is_signed text ≡ false) → at_pct_field_step (maybe_aggs xs) p text t ≡ goes s → Grown deep (s_pct_field xs w p text) t s
grow_pct_field deep xs w p text (word n) s l q e = record { stage = s_close xs (of_percent w p text n); is = cc; legal = (l, q); then_rest = λ rest. refl }
grow_pct_field deep xs w p text _ s l q e = absurd (cc)

abbrev with_agg : Option AggsTree → AggTree → AggsTree
with_agg None a = one_agg a
with_agg (Some xs) a = more_aggs xs a

with_agg_list : (xs : Option AggsTree) (a : AggTree) → aggs (with_agg xs a) ≡ maybe_aggs xs ++ agg a ∷ []
with_agg_list None a = refl
with_agg_list (Some xs) a = refl

with_agg_legal : (xs : Option AggsTree) (a : AggTree) → MaybeAggs xs → IsAgg a → IsAggs (with_agg xs a)
with_agg_legal None a l h = h
with_agg_legal (Some xs) a l h = (l, h)

with_agg_then : (xs : Option AggsTree) (a : AggTree) (rest : List Token) → aggs_then (with_agg xs a) rest ≡ aggs_part xs (agg_then a rest)
with_agg_then None a rest = refl
with_agg_then (Some xs) a rest = refl

close_then : (xs : Option AggsTree) (a : AggTree) (rest : List Token) → so_far (s_close xs a) (symbol Close ∷ rest) ≡ reserved Select ∷ aggs_part xs (agg_then a rest)
close_then xs (counted w) rest = refl
close_then xs (of_field w f n) rest = refl
close_then xs (of_percent w p text n) rest = refl

grow_close : (deep : ℕ) (xs : Option AggsTree) (a : AggTree) (t : Token) (s : State) → MaybeAggs xs → IsAgg a → at_close_step (maybe_aggs xs) (agg a) t ≡ goes s → Grown deep (s_close xs a) t s
grow_close deep xs a (symbol Close) s l q e = record {
  stage = s_after_agg (with_agg xs a);
  is = ap after_agg (with_agg_list xs a) ∙ cc;
  legal = with_agg_legal xs a l q;
  then_rest = λ rest. ap (λ ts. reserved Select ∷ ts) (with_agg_then xs a rest) ∙ sym (close_then xs a rest);
}
grow_close deep xs a _ s l q e = absurd (cc)

grow_after_agg : (deep : ℕ) (xs : AggsTree) (t : Token) (s : State) → IsAggs xs → after_agg_step (aggs xs) t ≡ goes s → Grown deep (s_after_agg xs) t s
grow_after_agg deep xs (symbol Comma) s l e = record { stage = s_func (Some xs); is = cc; legal = l; then_rest = λ rest. refl }
grow_after_agg deep xs (reserved From) s l e = record { stage = s_stream xs; is = cc; legal = l; then_rest = λ rest. refl }
grow_after_agg deep xs _ s l e = absurd (cc)

grow_stream : (deep : ℕ) (xs : AggsTree) (t : Token) (s : State) → IsAggs xs → at_stream_step (aggs xs) t ≡ goes s → Grown deep (s_stream xs) t s
grow_stream deep xs (word n) s l e = record { stage = s_after_stream xs n; is = cc; legal = l; then_rest = λ rest. refl }
grow_stream deep xs _ s l e = absurd (cc)

grow_after_stream : (deep : ℕ) (xs : AggsTree) (n : Name) (t : Token) (s : State) → IsAggs xs → after_stream_step (head (aggs xs) n) t ≡ goes s → Grown deep (s_after_stream xs n) t s
grow_after_stream deep xs n (reserved Where) s l e = record { stage = s_operand (before xs n [] None None 0); is = cc; legal = (l, tt, tt, tt, omega arith); then_rest = λ rest. refl }
grow_after_stream deep xs n (reserved Group) s l e = record { stage = s_by (chosen xs n None); is = cc; legal = (l, omega arith); then_rest = λ rest. refl }
grow_after_stream deep xs n (reserved Over) s l e = record { stage = s_window (keyed xs n None None); is = cc; legal = (l, omega arith); then_rest = λ rest. refl }
grow_after_stream deep xs n _ s l e = absurd (cc)

deeper_goes : (b : Bool) (s s' : State) → (if b then goes s else too_deep) ≡ goes s' → s ≡ s'
deeper_goes true s s' e = cc
deeper_goes false s s' e = cc

deeper_is : (deep n : ℕ) (s s' : State) → deeper deep n s ≡ goes s' → s ≡ s'
deeper_is deep n s s' e = deeper_goes (nat_lt n deep) s s' e

under : (b : Bool) (deep n : ℕ) (s s' : State) → nat_lt n deep ≡ b → (if b then goes s else too_deep) ≡ goes s' → n < deep
under true deep n s s' q e = ltb-true n deep q
under false deep n s s' q e = absurd (cc)

grow_operand : (deep : ℕ) (b : Before) (t : Token) (s : State) → Legal_before deep b → operand_step deep (left_of b) t ≡ goes s → Grown deep (s_operand b) t s
grow_operand deep (before xs n ws o a k) (reserved Not) s l e =
    let small : open_levels (levels ws) + k < deep = under (nat_lt (open_levels (levels ws) + k) deep) deep (open_levels (levels ws) + k) _ s refl e in
    record {
      stage = s_operand (before xs n ws o a (suc k));
      is = deeper_is deep (open_levels (levels ws) + k) _ s e;
      legal = (l.0, l.1, l.2, l.3, omega arith);
      then_rest = λ rest. refl;
    }
grow_operand deep (before xs n ws o a k) (symbol Open) s l e =
    let small : open_levels (levels ws) + k < deep = under (nat_lt (open_levels (levels ws) + k) deep) deep (open_levels (levels ws) + k) _ s refl e in
    record {
      stage = s_operand (before xs n (outer o a k ∷ ws) None None 0);
      is = deeper_is deep (open_levels (levels ws) + k) _ s e;
      legal = (l.0, (l.1, l.2, l.3, omega arith), tt, tt, omega arith);
      then_rest = λ rest. refl;
    }
grow_operand deep b (word f) s l e = record { stage = s_after_field b f; is = cc; legal = l; then_rest = λ rest. refl }
grow_operand deep b _ s l e = absurd (cc)

grow_after_field : (deep : ℕ) (b : Before) (f : Name) (t : Token) (s : State) → Legal_before deep b → after_field_step (left_of b) f t ≡ goes s → Grown deep (s_after_field b f) t s
grow_after_field deep b f (symbol (Compare op)) s l e = record { stage = s_after_op b f op; is = cc; legal = l; then_rest = λ rest. refl }
grow_after_field deep b f _ s l e = absurd (cc)

grow_after_op : (deep : ℕ) (b : Before) (f : Name) (op : Op) (t : Token) (s : State) → Legal_before deep b → after_op_step (left_of b) f op t ≡ goes s → Grown deep (s_after_op b f op) t s
grow_after_op deep (before xs n ws o a k) f op (literal x) s l e =
    let j : Joined deep (before xs n ws o a k) (comparison f op x) = operand deep xs n ws o a k (comparison f op x) l (omega (arith, l.4)) in
    record { stage = j.stage; is = j.is ∙ cc; legal = j.legal; then_rest = j.then_rest }
grow_after_op deep b f op _ s l e = absurd (cc)

grow_parenthesis : (deep : ℕ) (xs : AggsTree) (n : Name) (ws : List Outer) (o : Option OrTree) (a : AndTree) (s : State) → Legal deep (s_after_operand xs n ws o a) → close_step (head (aggs xs) n) (levels ws) (or_with (maybe_or o) (and_tree a)) ≡ goes s → Grown deep (s_after_operand xs n ws o a) (symbol Close) s
grow_parenthesis deep xs n [] o a s l e = absurd (cc)
grow_parenthesis deep xs n (outer p q k ∷ ws) o a s l e =
    let lv : Nested deep (outer p q k ∷ ws) = l.1 in
    let inner : (open_levels (levels ws) + k + 1) + or_depth (join_or o a) ≤ deep = join_or_depth deep (open_levels (levels ws) + k + 1) o a l.2 l.3 in
    let j : Joined deep (before xs n ws p q k) (group (join_or o a)) = operand deep xs n ws p q k (group (join_or o a)) (l.0, lv.0, lv.1, lv.2, omega arith) (omega arith) in
    record {
      stage = j.stage;
      is = j.is ∙ ap (with_operand (left_of (before xs n ws p q k))) (join_or_tree o a) ∙ cc;
      legal = j.legal;
      then_rest = λ rest. j.then_rest rest ∙ ap (λ ts. before_then (before xs n ws p q k) (symbol Open ∷ ts)) (join_or_then o a (symbol Close ∷ rest));
    }

-- the condition ends
grow_grouped : (deep : ℕ) (xs : AggsTree) (n : Name) (ws : List Outer) (o : Option OrTree) (a : AndTree) (s : State) → Legal deep (s_after_operand xs n ws o a) → group_step (head (aggs xs) n) (levels ws) (or_with (maybe_or o) (and_tree a)) ≡ goes s → Grown deep (s_after_operand xs n ws o a) (reserved Group) s
grow_grouped deep xs n [] o a s l e =
    let inner : 0 + or_depth (join_or o a) ≤ deep = join_or_depth deep 0 o a l.2 l.3 in
    record {
      stage = s_by (chosen xs n (Some (join_or o a)));
      is = ap (λ t. at_by (filtered (aggs xs) n (Some t))) (join_or_tree o a) ∙ cc;
      legal = (l.0, omega arith);
      then_rest = λ rest. ap (λ ts. stream_then xs n (reserved Where ∷ ts)) (join_or_then o a (reserved Group ∷ rest));
    }
grow_grouped deep xs n (outer p q k ∷ ws) o a s l e = absurd (cc)

grow_over : (deep : ℕ) (xs : AggsTree) (n : Name) (ws : List Outer) (o : Option OrTree) (a : AndTree) (s : State) → Legal deep (s_after_operand xs n ws o a) → over_step (head (aggs xs) n) (levels ws) (or_with (maybe_or o) (and_tree a)) ≡ goes s → Grown deep (s_after_operand xs n ws o a) (reserved Over) s
grow_over deep xs n [] o a s l e =
    let inner : 0 + or_depth (join_or o a) ≤ deep = join_or_depth deep 0 o a l.2 l.3 in
    record {
      stage = s_window (keyed xs n (Some (join_or o a)) None);
      is = ap (λ t. at_window (grouped (aggs xs) n (Some t) [])) (join_or_tree o a) ∙ cc;
      legal = (l.0, omega arith);
      then_rest = λ rest. ap (λ ts. stream_then xs n (reserved Where ∷ ts)) (join_or_then o a (reserved Over ∷ rest));
    }
grow_over deep xs n (outer p q k ∷ ws) o a s l e = absurd (cc)

grow_after_operand : (deep : ℕ) (xs : AggsTree) (n : Name) (ws : List Outer) (o : Option OrTree) (a : AndTree) (t : Token) (s : State) → Legal deep (s_after_operand xs n ws o a) → after_operand_step (head (aggs xs) n) (levels ws) (maybe_or o) (and_tree a) t ≡ goes s → Grown deep (s_after_operand xs n ws o a) t s
grow_after_operand deep xs n ws o a (reserved And) s l e = record { stage = s_operand (before xs n ws o (Some a) 0); is = cc; legal = (l.0, l.1, l.2, l.3, omega arith); then_rest = λ rest. refl }
grow_after_operand deep xs n ws o a (reserved Or) s l e = record {
  stage = s_operand (before xs n ws (Some (join_or o a)) None 0);
  is = ap (λ t. at_operand (left (head (aggs xs) n) (levels ws) (Some t) None 0)) (join_or_tree o a) ∙ cc;
  legal = (l.0, l.1, join_or_depth deep (open_levels (levels ws)) o a l.2 l.3, tt, omega arith);
  then_rest = λ rest. ap (λ ts. stream_then xs n (reserved Where ∷ levels_then ws ts)) (join_or_then o a (reserved Or ∷ rest));
}
grow_after_operand deep xs n ws o a (symbol Close) s l e = grow_parenthesis deep xs n ws o a s l e
grow_after_operand deep xs n ws o a (reserved Group) s l e = grow_grouped deep xs n ws o a s l e
grow_after_operand deep xs n ws o a (reserved Over) s l e = grow_over deep xs n ws o a s l e
grow_after_operand deep xs n ws o a _ s l e = absurd (cc)

grow_by : (deep : ℕ) (c : Chosen) (t : Token) (s : State) → Legal_chosen deep c → at_by_step (filtered_of c) t ≡ goes s → Grown deep (s_by c) t s
grow_by deep c (reserved By) s l e = record { stage = s_group c None; is = cc; legal = l; then_rest = λ rest. refl }
grow_by deep c _ s l e = absurd (cc)

abbrev with_field : Option FieldsTree → Name → FieldsTree
with_field None n = one_field n
with_field (Some ns) n = more_fields ns n

with_field_list : (ns : Option FieldsTree) (n : Name) → fields (with_field ns n) ≡ group_of ns ++ n ∷ []
with_field_list None n = refl
with_field_list (Some ns) n = refl

with_field_then : (ns : Option FieldsTree) (n : Name) (rest : List Token) → fields_then (with_field ns n) rest ≡ fields_part ns (word n ∷ rest)
with_field_then None n rest = refl
with_field_then (Some ns) n rest = refl

grow_group : (deep : ℕ) (c : Chosen) (ns : Option FieldsTree) (t : Token) (s : State) → Legal_chosen deep c → at_group_step (filtered_of c) (group_of ns) t ≡ goes s → Grown deep (s_group c ns) t s
grow_group deep c ns (word n) s l e = record {
  stage = s_after_group c (with_field ns n);
  is = ap (after_group (filtered_of c)) (with_field_list ns n) ∙ cc;
  legal = l;
  then_rest = λ rest. ap (λ ts. chosen_then c (reserved Group ∷ reserved By ∷ ts)) (with_field_then ns n rest);
}
grow_group deep c ns _ s l e = absurd (cc)

abbrev keyed_by : Chosen → FieldsTree → Keyed
keyed_by (chosen xs n o) ns = keyed xs n o (Some ns)

grow_fields_over : (deep : ℕ) (c : Chosen) (ns : FieldsTree) (s : State) → Legal_chosen deep c → at_window (with_group (filtered_of c) (fields ns)) ≡ s → Grown deep (s_after_group c ns) (reserved Over) s
grow_fields_over deep (chosen xs n o) ns s l e = record { stage = s_window (keyed_by (chosen xs n o) ns); is = e; legal = l; then_rest = λ rest. refl }

grow_after_group : (deep : ℕ) (c : Chosen) (ns : FieldsTree) (t : Token) (s : State) → Legal_chosen deep c → after_group_step (filtered_of c) (fields ns) t ≡ goes s → Grown deep (s_after_group c ns) t s
grow_after_group deep c ns (symbol Comma) s l e = record { stage = s_group c (Some ns); is = cc; legal = l; then_rest = λ rest. refl }
grow_after_group deep c ns (reserved Over) s l e = grow_fields_over deep c ns s l (cc)
grow_after_group deep c ns _ s l e = absurd (cc)

grow_window : (deep : ℕ) (k : Keyed) (t : Token) (s : State) → Legal_keyed deep k → at_window_step (grouped_of k) t ≡ goes s → Grown deep (s_window k) t s
grow_window deep k (reserved Sliding) s l e = record { stage = s_length k; is = cc; legal = l; then_rest = λ rest. refl }
grow_window deep k (reserved Infinite) s l e = record { stage = s_after_window k None; is = cc; legal = (l, tt); then_rest = λ rest. refl }
grow_window deep k _ s l e = absurd (cc)

grow_length : (deep : ℕ) (k : Keyed) (t : Token) (s : State) → Legal_keyed deep k → at_length_step (grouped_of k) t ≡ goes s → Grown deep (s_length k) t s
grow_length deep k (literal (digits p w)) s l e =
    let u : (is_signed w ≡ false) × (at_unit (grouped_of k) p w ≡ s) = unsigned (is_signed w) (at_unit (grouped_of k) p w) s e in
    record { stage = s_unit k p w; is = u.1; legal = (l, u.0); then_rest = λ rest. refl }
grow_length deep k _ s l e = absurd (cc)

grow_unit_named : (deep : ℕ) (k : Keyed) (p : ℕ) (w : List ℕ) (u : Name) (o : Option TimeUnit) (s : State) → Legal_keyed deep k → is_signed w ≡ false → unit_named u ≡ o → unit_step o (λ unit. after_window (grouped_of k) (Some (span p w unit))) ≡ goes s → Grown deep (s_unit k p w) (word u) s
grow_unit_named deep k p w u None s l g q e = absurd (cc)
grow_unit_named deep k p w u (Some unit) s l g q e = record { stage = s_after_window k (Some (spanned p w u unit)); is = cc; legal = (l, (g, q)); then_rest = λ rest. refl }

grow_unit : (deep : ℕ) (k : Keyed) (p : ℕ) (w : List ℕ) (t : Token) (s : State) → Legal_keyed deep k → is_signed w ≡ false → at_unit_step (grouped_of k) p w t ≡ goes s → Grown deep (s_unit k p w) t s
grow_unit deep k p w (word u) s l g e = grow_unit_named deep k p w u (unit_named u) s l g refl e
grow_unit deep k p w _ s l g e = absurd (cc)

grow_after_window : (deep : ℕ) (k : Keyed) (length : Option SpanTree) (t : Token) (s : State) → Legal_keyed deep k → IsMaybeSpan length → after_window_step (grouped_of k) (maybe_span length) t ≡ goes s → Grown deep (s_after_window k length) t s
grow_after_window deep k length (reserved Delayed) s l h e = record { stage = s_delay_by k length; is = cc; legal = (l, h); then_rest = λ rest. refl }
grow_after_window deep k length _ s l h e = absurd (cc)

grow_delay_by : (deep : ℕ) (k : Keyed) (length : Option SpanTree) (t : Token) (s : State) → Legal_keyed deep k → IsMaybeSpan length → at_delay_by_step (grouped_of k) (maybe_span length) t ≡ goes s → Grown deep (s_delay_by k length) t s
grow_delay_by deep k length (reserved By) s l h e = record { stage = s_delay k length; is = cc; legal = (l, h); then_rest = λ rest. refl }
grow_delay_by deep k length _ s l h e = absurd (cc)

grow_delay : (deep : ℕ) (k : Keyed) (length : Option SpanTree) (t : Token) (s : State) → Legal_keyed deep k → IsMaybeSpan length → at_delay_step (grouped_of k) (maybe_span length) t ≡ goes s → Grown deep (s_delay k length) t s
grow_delay deep k length (literal (digits p w)) s l h e =
    let u : (is_signed w ≡ false) × (at_delay_unit (grouped_of k) (maybe_span length) p w ≡ s) = unsigned (is_signed w) (at_delay_unit (grouped_of k) (maybe_span length) p w) s e in
    record { stage = s_delay_unit k length p w; is = u.1; legal = (l, h, u.0); then_rest = λ rest. refl }
grow_delay deep k length _ s l h e = absurd (cc)

grow_delay_named : (deep : ℕ) (k : Keyed) (length : Option SpanTree) (p : ℕ) (w : List ℕ) (u : Name) (o : Option TimeUnit) (s : State) → Legal_keyed deep k → IsMaybeSpan length → is_signed w ≡ false → unit_named u ≡ o → unit_step o (λ unit. at_end (with_window (grouped_of k) (maybe_span length) (Some (span p w unit)))) ≡ goes s → Grown deep (s_delay_unit k length p w) (word u) s
grow_delay_named deep k length p w u None s l h g q e = absurd (cc)
grow_delay_named deep k length p w u (Some unit) s l h g q e = record { stage = s_end k length (spanned p w u unit); is = cc; legal = (l, h, (g, q)); then_rest = λ rest. refl }

grow_delay_unit : (deep : ℕ) (k : Keyed) (length : Option SpanTree) (p : ℕ) (w : List ℕ) (t : Token) (s : State) → Legal_keyed deep k → IsMaybeSpan length → is_signed w ≡ false → at_delay_unit_step (grouped_of k) (maybe_span length) p w t ≡ goes s → Grown deep (s_delay_unit k length p w) t s
grow_delay_unit deep k length p w (word u) s l h g e = grow_delay_named deep k length p w u (unit_named u) s l h g refl e
grow_delay_unit deep k length p w _ s l h g e = absurd (cc)

pub grow : (deep : ℕ) (c : Stage) (t : Token) (s : State) → Legal deep c → step deep (state c) t ≡ goes s → Grown deep c t s
grow deep s_start t s l e = grow_start deep t s e
grow deep (s_func xs) t s l e = grow_func deep xs t s l e
grow deep (s_open xs w f) t s l e = grow_open deep xs w f t s l.0 l.1 e
grow deep (s_field xs w f) t s l e = grow_field deep xs w f t s l.0 l.1 e
grow deep (s_pct xs w) t s l e = grow_pct deep xs w t s l.0 l.1 e
grow deep (s_percent xs w) t s l e = grow_percent deep xs w t s l.0 l.1 e
grow deep (s_comma xs w p text) t s l e = grow_comma deep xs w p text t s l.0 l.1 e
grow deep (s_pct_field xs w p text) t s l e = grow_pct_field deep xs w p text t s l.0 l.1 e
grow deep (s_close xs a) t s l e = grow_close deep xs a t s l.0 l.1 e
grow deep (s_after_agg xs) t s l e = grow_after_agg deep xs t s l e
grow deep (s_stream xs) t s l e = grow_stream deep xs t s l e
grow deep (s_after_stream xs n) t s l e = grow_after_stream deep xs n t s l e
grow deep (s_operand b) t s l e = grow_operand deep b t s l e
grow deep (s_after_field b f) t s l e = grow_after_field deep b f t s l e
grow deep (s_after_op b f op) t s l e = grow_after_op deep b f op t s l e
grow deep (s_after_operand xs n ws o a) t s l e = grow_after_operand deep xs n ws o a t s l e
grow deep (s_by c) t s l e = grow_by deep c t s l e
grow deep (s_group c ns) t s l e = grow_group deep c ns t s l e
grow deep (s_after_group c ns) t s l e = grow_after_group deep c ns t s l e
grow deep (s_window k) t s l e = grow_window deep k t s l e
grow deep (s_length k) t s l e = grow_length deep k t s l e
grow deep (s_unit k p w) t s l e = grow_unit deep k p w t s l.0 l.1 e
grow deep (s_after_window k length) t s l e = grow_after_window deep k length t s l.0 l.1 e
grow deep (s_delay_by k length) t s l e = grow_delay_by deep k length t s l.0 l.1 e
grow deep (s_delay k length) t s l e = grow_delay deep k length t s l.0 l.1 e
grow deep (s_delay_unit k length p w) t s l e = grow_delay_unit deep k length p w t s l.0 l.1 l.2 e
grow deep (s_end k length d) t s l e = absurd (cc)
