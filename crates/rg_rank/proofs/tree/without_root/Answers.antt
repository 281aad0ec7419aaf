use Rattle.std.proofs.Common.{◌≡◌, ◌∷◌, ◌++◌, ap, sym, ◌∙◌, subst}
use Rattle.rg_rank.specs.Ranking.{IsRanking}
use Rattle.rg_rank.specs.Shapes.{Shape, listed}
use Rattle.rg_rank.specs.Trees.{IsNode, pair_of}
use Rattle.rg_rank.proofs.Counts.{dropped}
use Rattle.rg_rank.proofs.tree.without_root.Goals as goal

pub rebalance-requires-clause-ranking : goal.rebalance-requires-clause-ranking
rebalance-requires-clause-ranking c =
    let node = c.deref_mut.result.now in
    let is = subst IsNode (sym c.deref_mut.ensures.value) c.requires in
    let gone : listed node.right ≡ pair_of c.in-Some.first.value ∷ listed c.take_first.new.self = ap listed (sym c.take_sides-left.ensures.right) ∙ c.in-Some.ensures.some in
    let rest = subst (λ right. IsRanking (listed node.left ++ right)) gone (dropped (listed node.left) (pair_of node) (listed node.right) is.ranking) in
    subst (λ (left : Shape). IsRanking (listed left ++ pair_of c.in-Some.first.value ∷ listed c.take_first.new.self)) (sym c.take_sides-left.ensures.left) rest
