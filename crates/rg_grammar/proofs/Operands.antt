-- What a condition's last parts are joined to.
use Rattle.std.proofs.Common.{◌≡◌, ℕ, zero, suc, ◌+◌, ◌≤◌, List, ◌∷◌, Option, Some, None, refl, ap, ◌∙◌, arith}
use Rattle.rg_keywords.specs.declared.keyword.Keyword.TheVariants.{Where}
use Rattle.rg_grammar.specs.Grammar.{Name, Token, reserved, OrTree, one_and, either, AndTree, one_not, both, NotTree, negated, or_then, and_then, not_then, or_depth, and_depth, not_depth, or_tree, and_tree, not_tree, AggsTree, aggs}
use Rattle.rg_grammar.specs.Machine.{head, after_operand, open_levels, or_with, and_with, nots, with_operand}
use Rattle.rg_grammar.proofs.Stages.{Outer, Before, before, Stage, s_after_operand, maybe_or, maybe_and, levels, left_of, state, or_part, and_part, nots_part, levels_then, stream_then, before_then, so_far, within_or, within_and, Legal_before, Legal}

abbrev pub join_or : Option OrTree → AndTree → OrTree
join_or None a = one_and a
join_or (Some o) a = either o a

abbrev join_and : Option AndTree → NotTree → AndTree
join_and None n = one_not n
join_and (Some a) n = both a n

abbrev not_times : ℕ → NotTree → NotTree
not_times zero n = n
not_times (suc k) n = not_times k (negated n)

pub join_or_tree : (o : Option OrTree) (a : AndTree) → or_tree (join_or o a) ≡ or_with (maybe_or o) (and_tree a)
join_or_tree None a = refl
join_or_tree (Some o) a = refl

pub join_or_then : (o : Option OrTree) (a : AndTree) (rest : List Token) → or_then (join_or o a) rest ≡ or_part o (and_then a rest)
join_or_then None a rest = refl
join_or_then (Some o) a rest = refl

pub join_or_depth : (deep n : ℕ) (o : Option OrTree) (a : AndTree) → within_or deep n o → n + and_depth a ≤ deep → n + or_depth (join_or o a) ≤ deep
join_or_depth deep n None a p q = q
join_or_depth deep n (Some o) a p q = omega arith

join_and_tree : (a : Option AndTree) (n : NotTree) → and_tree (join_and a n) ≡ and_with (maybe_and a) (not_tree n)
join_and_tree None n = refl
join_and_tree (Some a) n = refl

join_and_then : (a : Option AndTree) (n : NotTree) (rest : List Token) → and_then (join_and a n) rest ≡ and_part a (not_then n rest)
join_and_then None n rest = refl
join_and_then (Some a) n rest = refl

join_and_depth : (deep n : ℕ) (a : Option AndTree) (m : NotTree) → within_and deep n a → n + not_depth m ≤ deep → n + and_depth (join_and a m) ≤ deep
join_and_depth deep n None m p q = q
join_and_depth deep n (Some a) m p q = omega arith

times_tree : (k : ℕ) (n : NotTree) → not_tree (not_times k n) ≡ nots k (not_tree n)
times_tree zero n = refl
times_tree (suc k) n = times_tree k (negated n)

times_then : (k : ℕ) (n : NotTree) (rest : List Token) → not_then (not_times k n) rest ≡ nots_part k (not_then n rest)
times_then zero n rest = refl
times_then (suc k) n rest = times_then k (negated n) rest

times_depth : (k : ℕ) (n : NotTree) → not_depth (not_times k n) ≡ k + not_depth n
times_depth zero n = omega arith
times_depth (suc k) n = omega (arith, times_depth k (negated n))

-- the stage after an operand
pub record Joined (deep : ℕ) (b : Before) (n : NotTree) : Type 0 where
  pub stage : Stage
  pub is : state stage ≡ with_operand (left_of b) (not_tree n)
  pub legal : Legal deep stage
  pub then_rest : (rest : List Token) → so_far stage rest ≡ before_then b (not_then n rest)

pub operand : (deep : ℕ) (xs : AggsTree) (s : Name) (ws : List Outer) (o : Option OrTree) (a : Option AndTree) (k : ℕ) (n : NotTree) →
    Legal_before deep (before xs s ws o a k) → open_levels (levels ws) + k + not_depth n ≤ deep → Joined deep (before xs s ws o a k) n
operand deep xs s ws o a k n l d = record {
  stage = s_after_operand xs s ws o (join_and a (not_times k n));
  is = ap (after_operand (head (aggs xs) s) (levels ws) (maybe_or o)) (join_and_tree a (not_times k n) ∙ ap (and_with (maybe_and a)) (times_tree k n));
  legal = (l.0, l.1, l.2, join_and_depth deep (open_levels (levels ws)) a (not_times k n) l.3 (omega (arith, times_depth k n)));
  then_rest = λ rest. ap (λ ts. stream_then xs s (reserved Where ∷ levels_then ws (or_part o ts))) (join_and_then a (not_times k n) rest ∙ ap (and_part a) (times_then k n rest));
}
