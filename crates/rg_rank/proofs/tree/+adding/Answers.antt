use Rattle.std.proofs.Common.{length, rules, arith, ap, sym, ◌∙◌}
use Rattle.std.proofs.lemmas.Grind.{common_steps}
use Rattle.rg_agg.specs.Numbers.{value_of}
use Rattle.rg_agg.specs.Standing.{counts_sum}
use Rattle.rg_rank.specs.Shapes.{listed}
use Rattle.rg_rank.specs.Trees.{pair_of}
use Rattle.rg_rank.proofs.Changes.{sum_join}
use Rattle.rg_rank.proofs.Opening.{at_root, grown, grows_here, grows_left, grows_right, ranked_more, room_left, room_right, tree_more}
use Rattle.rg_rank.proofs.tree.+adding.Goals as goal

pub Tree::add-balance-self-inside-requires-clause-ranking : goal.Tree::add-balance-self-inside-requires-clause-ranking
Tree::add-balance-self-inside-requires-clause-ranking t c =
    ranked_more c.deref_mut.result.now c.args.self.now (value_of c.args.number) _ (at_root _ _ _ _ c.in-Some.is c.deref_mut.ensures.value c.self.invariant.root c.self.view_is) c.requires c.in_ok-add_below.ensures.ok

pub Tree::add-invariant_of-self-2 : goal.Tree::add-invariant_of-self-2
Tree::add-invariant_of-self-2 t c =
    let at = at_root _ _ c.deref_mut.result.now c.args.self.now c.in-Some.is c.deref_mut.ensures.value c.self.invariant.root c.self.view_is in
    let balanced = c.balance-self-inside.ensures in
    let same = grown c.deref_mut.result.now c.args.self.now (value_of c.args.number) _ at c.in_ok-add_below.ensures.ok in
    tree_more _ _ c.self.inside.values (value_of c.args.number) (listed c.args.self.now) balanced.root (balanced.pairs ∙ sym (ap length balanced.same)) (balanced.same ∙ same)
    (c.self.invariant.values ∙ ap (λ shape. counts_sum (listed shape)) c.self.view_is)

pub add_below-add-requires : goal.add_below-add-requires
add_below-add-requires t c =
    let node = c.args.node.now in
    (first_of (search rules, grind (arith, common_steps)), room_left (listed node.left) (pair_of node) (listed node.right) c.requires.room)

pub add_below-returns-then-is_below : goal.add_below-returns-then-is_below
add_below-returns-then-is_below t c = grows_left c.args.node.now c.add.new.self (value_of c.args.number) c.add.result c.requires.good (sym c.is_below.ensures ∙ c.if-is_below.true) c.add.ensures.ok c.add.ensures.err c.add.ensures.memory

pub add_below-add-requires-then-is_below-2 : goal.add_below-add-requires-then-is_below-2
add_below-add-requires-then-is_below-2 t c =
    let node = c.args.node.now in
    (first_of (search rules, grind (arith, common_steps)), room_right (listed node.left) (pair_of node) (listed node.right) c.requires.room)

pub add_below-returns-then-is_below-2 : goal.add_below-returns-then-is_below-2
add_below-returns-then-is_below-2 t c =
    let added = c.add-then-is_below-2 in
    grows_right c.args.node.now added.new.self (value_of c.args.number) added.result c.requires.good (sym c.is_below-2.ensures ∙ c.if-is_below-2.true) added.ensures.ok added.ensures.err added.ensures.memory

pub add_below-overflow_add-node : goal.add_below-overflow_add-node
add_below-overflow_add-node t c =
    let node = c.args.node.now in
    omega (arith, c.requires.room, sum_join (listed node.left) (pair_of node) (listed node.right))

pub add_below-returns : goal.add_below-returns
add_below-returns t c = grows_here c.args.node.now (value_of c.args.number) tt c.requires.good (sym c.is_below.ensures ∙ c.if-is_below.false) (sym c.is_below-2.ensures ∙ c.if-is_below-2.false)
