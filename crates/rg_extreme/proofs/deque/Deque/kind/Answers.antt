use Rattle.rg_agg.specs.Numbers.{value_of}
use Rattle.rg_extreme.specs.States.{pairs_in}
use Rattle.rg_extreme.proofs.Removals.{kind_of_first, like_of_first}
use Rattle.rg_extreme.proofs.deque.Deque.kind.Goals as goal

pub returns-in-Some-clause-kind : goal.returns-in-Some-clause-kind
returns-in-Some-clause-kind c = kind_of_first (pairs_in c.args.self.now) (value_of c.in-Some.number) c.kind.result c.in-Some.ensures c.kind.ensures

pub returns-in-Some-clause-like : goal.returns-in-Some-clause-like
returns-in-Some-clause-like c = λ side values value stands all.
    like_of_first side c.args.self.now.size (pairs_in c.args.self.now) (value_of c.in-Some.number) c.kind.result values value c.in-Some.ensures c.kind.ensures stands all
