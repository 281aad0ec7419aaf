use Rattle.std.proofs.Common.{◌<◌, refl, ap, arith}
use Rattle.rg_agg.specs.Standing.{size_in}
use Rattle.rg_state.specs.States.{held_of}
use Rattle.rg_state.specs.declared.key_rows.Kept.{Kept}
use Rattle.rg_state.proofs.Stepping.{with_state, fair_some, fair_same, marked_named, kept_added, add_stays}
use Rattle.rg_state.proofs.key_rows.Kept.add.Goals as goal

pub returns-in-Ok-clause-fair : goal.returns-in-Ok-clause-fair
returns-in-Ok-clause-fair c =
    let new : Kept = c.name.new.self in
    let some : 0 < size_in (held_of new.state) = omega (arith, c.in-Ok.ensures.size, ap (λ st. size_in (held_of st)) c.name.ensures.state) in
    fair_some new some (marked_named new c.name.ensures.named)

pub returns-in-Ok-clause-step : goal.returns-in-Ok-clause-step
returns-in-Ok-clause-step c =
    kept_added c.args.func c.args.value.now c.args.self.now c.add_fit.new.self c.name.new.self c.name.ensures.state c.name.ensures.node c.name.ensures.named c.name.ensures.there c.requires.there c.in-Ok.ensures

pub returns-in-Err-clause-fair : goal.returns-in-Err-clause-fair
returns-in-Err-clause-fair c =
    let old : Kept = c.args.self.now in
    fair_same old (with_state old c.add_fit.new.self) c.in-Err.ensures.err refl refl c.requires.fair

pub returns-in-Err-clause-step : goal.returns-in-Err-clause-step
returns-in-Err-clause-step c =
    add_stays c.args.func c.args.value.now c.args.self.now c.add_fit.new.self c.in-Err.refusal c.requires.there c.in-Err.ensures
