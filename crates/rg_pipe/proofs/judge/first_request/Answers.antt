use Rattle.std.proofs.Common.{arith, length-take}
use Rattle.rg_pipe.proofs.Requests.{front_sized, size_of_least}
use Rattle.rg_pipe.proofs.Findings.{none_short, none_judged}
use Rattle.rg_pipe.proofs.judge.first_request.Goals as goal

pub returns-in_err-size : goal.returns-in_err-size
returns-in_err-size c = rw c.from_residual.ensures (none_short _ c.in_err-size.ensures)

pub judge-requires-clause-sized : goal.judge-requires-clause-sized
judge-requires-clause-sized c =
    let e = c.in_ok-size.ensures in
    let least = size_of_least c.args.piece.now in
    let same = front_sized c.args.piece.now c.in_ok-size.size e.0 e.1 (omega (arith, least, e.0)) in
    omega (arith, same, length-take c.in_ok-size.size c.args.piece.now, e.1)

pub returns-in_default : goal.returns-in_default
returns-in_default c = none_judged _ _ _ c.judge.ensures c.in_default.not-Whole c.in_ok-size.ensures.0
