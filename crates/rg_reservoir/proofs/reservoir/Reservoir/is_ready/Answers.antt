use Rattle.std.proofs.Common.{arith}
use Rattle.rg_reservoir.proofs.Readying.{now_ready}
use Rattle.rg_reservoir.proofs.reservoir.Reservoir.is_ready.Goals as goal

pub returns-in-Some : goal.returns-in-Some
returns-in-Some c = λ has.
    let there = c.has.ensures.0 has in
    now_ready c.args.self.now c.args.spot.now c.in-Some.last c.if-self.false (omega (arith, c.if-spot-self.false)) c.in-Some.is there.0 there.1
