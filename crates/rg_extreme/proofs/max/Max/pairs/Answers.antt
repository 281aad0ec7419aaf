use Rattle.std.proofs.Common.{◌∙◌, sym}
use Rattle.rg_agg.specs.Numbers.{value_of}
use Rattle.rg_multiset.proofs.Laws.{pairs_length}
use Rattle.rg_extreme.proofs.max.Max.pairs.Goals as goal

pub returns : goal.returns
returns c = let deque = c.args.self.now.deque.pairs in c.len.ensures ∙ (deque.ok.0 ∙ sym (pairs_length value_of deque.items))
