use Rattle.std.proofs.Common.{◌≡◌, Some, length, sym, ◌∙◌, ap, arith}
use Rattle.rg_agg.specs.Numbers.{value_of}
use Rattle.rg_multiset.specs.Reading.{last_kept}
use Rattle.rg_rank.specs.Shapes.{listed}
use Rattle.rg_rank.specs.Trees.{pair_of, shape_in}
use Rattle.rg_rank.specs.declared.tree.Node.{Node}
use Rattle.rg_rank.proofs.ReadRanks.{last_right, last_root}
use Rattle.rg_rank.proofs.tree.Tree.+last.Goals as goal

pub returns-then-pairs-eq0 : goal.returns-then-pairs-eq0
returns-then-pairs-eq0 t c =
    let root = c.in-Some.root.value in
    let none : length (listed root.right) ≡ 0 = omega (arith, c.pairs.ensures.length, c.if-pairs-eq0.true, ap (λ (node : Node). length (listed node.right)) c.deref.ensures) in
    ap (λ (node : Node). Some (value_of node.number)) c.deref-then-pairs-eq0.ensures
    ∙ (sym (last_root (listed root.left) (pair_of root) (listed root.right) none) ∙ ap (λ shape. last_kept (listed shape)) (sym (ap shape_in c.in-Some.is) ∙ c.self.view_is))

pub returns : goal.returns
returns t c =
    let root = c.in-Some.root.value in
    let size = ap (λ (node : Node). length (listed node.right)) c.deref.ensures in
    c.last.ensures
    ∙ (ap (λ (node : Node). last_kept (listed node.right)) c.deref-2.ensures
    ∙ (sym (last_right (listed root.left) (pair_of root) (listed root.right) (omega (arith, c.pairs.ensures.length, c.if-pairs-eq0.false, size))) ∙ ap (λ shape. last_kept (listed shape)) (sym (ap shape_in c.in-Some.is) ∙ c.self.view_is)))
