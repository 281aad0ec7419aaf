use Rattle.std.proofs.Common.{◌<◌, arith}
use Rattle.rg_agg.specs.Standing.{size_in}
use Rattle.rg_state.specs.States.{held_of}
use Rattle.rg_state.proofs.Stepping.{with_state, fair_some, fair_marked, kept_begun}
use Rattle.rg_state.proofs.key_rows.Kept.renew.Goals as goal

pub returns-in-Ok-clause-fair : goal.returns-in-Ok-clause-fair
returns-in-Ok-clause-fair c =
    let some : 0 < size_in (held_of c.in-Ok.state) = omega (arith, c.in-Ok.ensures.size) in
    fair_some (with_state c.args.self.now c.in-Ok.state) some (fair_marked c.args.self.now c.requires.fair)

pub returns-in-Ok-clause-step : goal.returns-in-Ok-clause-step
returns-in-Ok-clause-step c =
    kept_begun c.args.func c.args.value.now c.args.self.now c.in-Ok.state c.requires.fair c.requires.gone c.in-Ok.ensures.changed c.in-Ok.ensures.own c.in-Ok.ensures.size
