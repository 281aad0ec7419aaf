use Rattle.std.proofs.Common.{true, false, length, arith, ap, sym, ◌∙◌}
use Rattle.rg_agg.specs.Numbers.{value_of}
use Rattle.rg_agg.specs.Standing.{counts_sum}
use Rattle.rg_rank.specs.Shapes.{listed}
use Rattle.rg_rank.specs.Trees.{pairs_of}
use Rattle.rg_rank.specs.declared.tree.Node.{Node}
use Rattle.rg_rank.proofs.Opening.{at_root, goes_whole, one_gone, ranked_fewer, ranking_at, shrinks_here, shrinks_left, shrinks_right, shrunk, some_here, stays_left, stays_right, there_at, tree_fewer}
use Rattle.rg_rank.proofs.Tallies.{absent_same}
use Rattle.rg_rank.proofs.tree.+removing.Goals as goal

pub Tree::remove-balance-self-inside-requires-clause-ranking : goal.Tree::remove-balance-self-inside-requires-clause-ranking
Tree::remove-balance-self-inside-requires-clause-ranking t c =
    ranked_fewer c.deref_mut.result.now c.args.self.now (value_of c.args.number) _ (at_root _ _ _ _ c.in-Some.is c.deref_mut.ensures.value c.self.invariant.root c.self.view_is) c.in-Lowered.ensures.0

pub Tree::remove-overflow_sub-self : goal.Tree::remove-overflow_sub-self
Tree::remove-overflow_sub-self t c =
    let at = at_root _ _ c.deref_mut.result.now c.args.self.now c.in-Some.is c.deref_mut.ensures.value c.self.invariant.root c.self.view_is in
    let was = there_at c.deref_mut.result.now c.args.self.now (value_of c.args.number) true at c.in-Lowered.ensures.1 in
    omega (arith, c.self.invariant.values, ap (λ shape. counts_sum (listed shape)) c.self.view_is, one_gone (value_of c.args.number) (listed c.args.self.now) (ranking_at _ _ at).there was)

pub Tree::remove-invariant_of-self-in-Lowered : goal.Tree::remove-invariant_of-self-in-Lowered
Tree::remove-invariant_of-self-in-Lowered t c =
    let at = at_root _ _ c.deref_mut.result.now c.args.self.now c.in-Some.is c.deref_mut.ensures.value c.self.invariant.root c.self.view_is in
    let was = there_at c.deref_mut.result.now c.args.self.now (value_of c.args.number) true at c.in-Lowered.ensures.1 in
    let balanced = c.balance-self-inside.ensures in
    let same = shrunk c.deref_mut.result.now c.args.self.now (value_of c.args.number) _ at c.in-Lowered.ensures.0 in
    tree_fewer _ _ c.self.inside.values (value_of c.args.number) (listed c.args.self.now) balanced.root (balanced.pairs ∙ sym (ap length balanced.same)) (balanced.same ∙ same)
    (c.self.invariant.values ∙ ap (λ shape. counts_sum (listed shape)) c.self.view_is) (ranking_at _ _ at).there was

pub Tree::remove-returns-in-Absent-clause-pairs : goal.Tree::remove-returns-in-Absent-clause-pairs
Tree::remove-returns-in-Absent-clause-pairs t c =
    let at = at_root _ _ c.deref_mut.result.now c.args.self.now c.in-Some.is c.deref_mut.ensures.value c.self.invariant.root c.self.view_is in
    ap (λ (node : Node). pairs_of node) c.in-Absent.ensures.0 ∙ (ap listed at.same ∙ sym (absent_same (value_of c.args.number) (listed c.args.self.now) (there_at c.deref_mut.result.now c.args.self.now (value_of c.args.number) false at c.in-Absent.ensures.1)))

pub remove_below-returns-then-remove : goal.remove_below-returns-then-remove
remove_below-returns-then-remove t c = shrinks_left c.args.node.now c.remove.new.self (value_of c.args.number) c.requires (sym c.is_below.ensures ∙ c.if-is_below.true) (sym c.if-remove.true ∙ c.remove.ensures.was_there) c.remove.ensures.pairs

pub remove_below-returns-then-is_below : goal.remove_below-returns-then-is_below
remove_below-returns-then-is_below t c = stays_left c.args.node.now c.remove.new.self (value_of c.args.number) (sym c.is_below.ensures ∙ c.if-is_below.true) (sym c.if-remove.false ∙ c.remove.ensures.was_there) (c.remove.ensures.same c.if-remove.false)

pub remove_below-returns-then-remove-2 : goal.remove_below-returns-then-remove-2
remove_below-returns-then-remove-2 t c =
    let removed = c.remove-then-is_below-2 in
    shrinks_right c.args.node.now removed.new.self (value_of c.args.number) c.requires (sym c.is_below-2.ensures ∙ c.if-is_below-2.true) (sym c.if-remove-2.true ∙ removed.ensures.was_there) removed.ensures.pairs

pub remove_below-returns-then-is_below-2 : goal.remove_below-returns-then-is_below-2
remove_below-returns-then-is_below-2 t c =
    let removed = c.remove-then-is_below-2 in
    stays_right c.args.node.now removed.new.self (value_of c.args.number) c.requires (sym c.is_below-2.ensures ∙ c.if-is_below-2.true) (sym c.if-remove-2.false ∙ removed.ensures.was_there) (removed.ensures.same c.if-remove-2.false)

pub remove_below-returns-then-node-eq1 : goal.remove_below-returns-then-node-eq1
remove_below-returns-then-node-eq1 t c = goes_whole c.args.node.now (value_of c.args.number) c.requires (sym c.is_below.ensures ∙ c.if-is_below.false) (sym c.is_below-2.ensures ∙ c.if-is_below-2.false) (omega (arith, c.if-node-eq1.true))

pub remove_below-overflow_sub-node : goal.remove_below-overflow_sub-node
remove_below-overflow_sub-node t c = omega (arith, some_here c.args.node.now c.requires)

pub remove_below-returns : goal.remove_below-returns
remove_below-returns t c = shrinks_here c.args.node.now (value_of c.args.number) c.requires (sym c.is_below.ensures ∙ c.if-is_below.false) (sym c.is_below-2.ensures ∙ c.if-is_below-2.false) (omega (arith, some_here c.args.node.now c.requires, c.if-node-eq1.false))
