use Rattle.std.proofs.Common.{arith}
use Rattle.rg_agg.specs.Stands.{IsNumber}
use Rattle.rg_multiset.proofs.Laws.{all_there}
use Rattle.rg_extreme.specs.States.{pairs_in}
use Rattle.rg_extreme.proofs.Removals.{fewer_deque}
use Rattle.rg_extreme.proofs.deque.Deque.remove_first.Goals as goal

pub lower_first-requires-clause-above : goal.lower_first-requires-clause-above
lower_first-requires-clause-above c = all_there IsNumber (pairs_in c.args.self.now) c.requires.sound.tally.alike

pub overflow_sub-self : goal.overflow_sub-self
overflow_sub-self c =
    let fewer = fewer_deque c.args.side c.args.self.now.size c.args.self.now.kept (pairs_in c.args.self.now) _ c.requires.some c.requires.sound c.lower_first.ensures (c.can_lose_first.ensures.holds c.if-not-can_lose_first.false) in
    omega (arith, fewer.0, c.requires.sound.most)

pub overflow_sub-self-2 : goal.overflow_sub-self-2
overflow_sub-self-2 c = (fewer_deque c.args.side c.args.self.now.size c.args.self.now.kept (pairs_in c.args.self.now) _ c.requires.some c.requires.sound c.lower_first.ensures (c.can_lose_first.ensures.holds c.if-not-can_lose_first.false)).0

pub returns : goal.returns
returns c =
    let self = c.args.self.now in
    let may = c.can_lose_first.ensures.holds c.if-not-can_lose_first.false in
    let fewer = fewer_deque c.args.side self.size self.kept (pairs_in self) _ c.requires.some c.requires.sound c.lower_first.ensures may in
    record {
      sound = fewer.1;
      pairs = c.lower_first.ensures;
      size = omega (arith, fewer.0, c.requires.sound.most);
      may = may;
      more = tt;
      none = tt;
      err = tt;
    }
