use Rattle.std.proofs.Common.{◌≡◌, arith}
use Rattle.rg_multiset.proofs.Laws.{count_facts}
use Rattle.rg_extreme.specs.States.{pairs_in}
use Rattle.rg_extreme.proofs.ReadExtremes.{kept_within}
use Rattle.rg_extreme.proofs.reading.FillingPairList.push.Goals as goal

pub push-requires-clause-room : goal.push-requires-clause-room
push-requires-clause-room c =
    let filling = c.args.self.now in
    let facts = count_facts filling.deque.size (pairs_in filling.deque) c.args.count c.requires.count in
    omega (arith, facts.1, filling.sum, filling.few)

pub invariant_of-self : goal.invariant_of-self
invariant_of-self c =
    let filling = c.args.self.now in
    let facts = count_facts filling.deque.size (pairs_in filling.deque) c.args.count c.requires.count in
    record {
      sum = c.push.ensures.sum;
      most = kept_within filling.deque.kept c.push.new.deque.kept filling.deque.size c.push.new.deque.size c.args.count c.push.result filling.most (omega (arith, facts.1, filling.sum)) c.push.ensures.size c.push.ensures.kept c.push.ensures.err;
      few = omega (arith, c.push.ensures.size, filling.few);
    }
