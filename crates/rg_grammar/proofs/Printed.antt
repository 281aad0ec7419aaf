-- What is written so is read again, and nests no deeper than what it was read from.
use Rattle.std.proofs.Common.{◌≡◌, ℕ, ◌+◌, ◌≤◌, refl, ap, ◌∙◌, arith}
use Rattle.rg_grammar.specs.Grammar.{OrTree, Tree, one_and, either, AndTree, one_not, both, NotTree, negated, group, comparison, or_depth, and_depth, not_depth, compared, not_of, and_of, or_of, or_tree, and_tree, not_tree}
use Rattle.rg_grammar.specs.Printed.{Means, written}

pub means : (t : Tree) → Means t
means (compared f op l) = record { or = refl; and = refl; not = refl }
means (not_of t) = let n : not_of (not_tree (written t).not) ≡ not_of t = ap not_of (means t).not in record { or = n; and = n; not = n }
means (and_of s t) =
    let n : and_of (and_tree (written s).and) (not_tree (written t).not) ≡ and_of s t = ap (λ x. and_of x (not_tree (written t).not)) (means s).and ∙ ap (and_of s) (means t).not in
    record { or = n; and = n; not = n }
means (or_of s t) =
    let n : or_of (or_tree (written s).or) (and_tree (written t).and) ≡ or_of s t = ap (λ x. or_of x (and_tree (written t).and)) (means s).or ∙ ap (or_of s) (means t).and in
    record { or = n; and = n; not = n }

record ShallowOr (t : Tree) (n : ℕ) : Type 0 where
  or : or_depth (written t).or ≤ n
  and : and_depth (written t).and ≤ n + 1
  not : not_depth (written t).not ≤ n + 1

record ShallowAnd (t : Tree) (n : ℕ) : Type 0 where
  or : or_depth (written t).or ≤ n
  and : and_depth (written t).and ≤ n
  not : not_depth (written t).not ≤ n + 1

record ShallowNot (t : Tree) (n : ℕ) : Type 0 where
  or : or_depth (written t).or ≤ n
  and : and_depth (written t).and ≤ n
  not : not_depth (written t).not ≤ n

mutual
  shallow_or : (o : OrTree) → ShallowOr (or_tree o) (or_depth o)
  shallow_or (one_and a) = let h : ShallowAnd (and_tree a) (and_depth a) = shallow_and a in record { or = h.or; and = omega arith; not = h.not }
  shallow_or (either o a) =
      let p : ShallowOr (or_tree o) (or_depth o) = shallow_or o in
      let q : ShallowAnd (and_tree a) (and_depth a) = shallow_and a in
      record { or = omega arith; and = omega arith; not = omega arith }

  shallow_and : (a : AndTree) → ShallowAnd (and_tree a) (and_depth a)
  shallow_and (one_not n) = let h : ShallowNot (not_tree n) (not_depth n) = shallow_not n in record { or = h.or; and = h.and; not = omega arith }
  shallow_and (both a n) =
      let p : ShallowAnd (and_tree a) (and_depth a) = shallow_and a in
      let q : ShallowNot (not_tree n) (not_depth n) = shallow_not n in
      record { or = omega arith; and = omega arith; not = omega arith }

  shallow_not : (n : NotTree) → ShallowNot (not_tree n) (not_depth n)
  shallow_not (negated n) = let h : ShallowNot (not_tree n) (not_depth n) = shallow_not n in record { or = omega arith; and = omega arith; not = omega arith }
  shallow_not (group o) = let h : ShallowOr (or_tree o) (or_depth o) = shallow_or o in record { or = omega arith; and = h.and; not = h.not }
  shallow_not (comparison f op l) = record { or = omega arith; and = omega arith; not = omega arith }

pub no_deeper : (o : OrTree) → or_depth (written (or_tree o)).or ≤ or_depth o
no_deeper o = (shallow_or o).or
