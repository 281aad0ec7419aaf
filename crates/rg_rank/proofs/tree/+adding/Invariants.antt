use Rattle.rg_rank.proofs.tree.+adding.Given as goal

abbrev pub decreases-Tree::add : goal.decreases-Tree::add
decreases-Tree::add l = goal.size-Tree::add l

abbrev pub decreases-add_below : goal.decreases-add_below
decreases-add_below l = goal.size-add_below l
