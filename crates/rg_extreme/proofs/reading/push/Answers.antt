use Rattle.std.proofs.Common.{◌+◌, ap, sym, ◌∙◌}
use Rattle.rg_agg.specs.Numbers.{value_of}
use Rattle.rg_agg.specs.Standing.{counts_sum}
use Rattle.rg_extreme.specs.States.{as_pairs, pairs_in}
use Rattle.rg_multiset.proofs.Laws.{pairs_append, sum_append}
use Rattle.rg_extreme.proofs.reading.push.Goals as goal

pub returns-clause-pairs : goal.returns-clause-pairs
returns-clause-pairs c = ap as_pairs c.in_ok-push_back.ensures.items ∙ pairs_append value_of c.args.number c.args.count c.args.deque.now.pairs.items

pub returns-clause-sum : goal.returns-clause-sum
returns-clause-sum c =
    ap (λ n. n + c.args.count) c.requires.sum
    ∙ (sym (sum_append (pairs_in c.args.deque.now) (value_of c.args.number) c.args.count) ∙ sym (ap counts_sum (returns-clause-pairs c)))
