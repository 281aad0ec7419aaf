use Rattle.std.proofs.Common.{◌≡◌, refl, rules}
use Rattle.rg_agg.specs.Sharing.{kept_as}
use Rattle.rg_agg.specs.Standing.{func_of}
use Rattle.rg_state.specs.States.{held_of}
use Rattle.rg_state.specs.declared.key_rows.Kept.{Kept}
use Rattle.rg_state.proofs.Stepping.{fair_marked, fair_same, marked_same, marked_named, kept_taken, take_refused, take_stays}
use Rattle.rg_state.proofs.key_rows.Kept.take.Goals as goal

pub returns-then-ne-clause-step : goal.returns-then-ne-clause-step
returns-then-ne-clause-step c =
    let old : Kept = c.args.self.now in
    let other : func_of (held_of old.state) ≡ kept_as c.args.func → ⊥ = search rules in
    take_refused c.args.func c.args.value.now old other

pub returns-in-Ok-clause-marked : goal.returns-in-Ok-clause-marked
returns-in-Ok-clause-marked c = marked_named c.name.new.self c.name.ensures.named

pub returns-in-Ok-clause-step : goal.returns-in-Ok-clause-step
returns-in-Ok-clause-step c =
    let old : Kept = c.args.self.now in
    let own : func_of (held_of old.state) ≡ kept_as c.args.func = search rules in
    kept_taken c.args.func c.args.value.now old c.remove.new.self c.name.new.self c.name.ensures.state c.name.ensures.node c.name.ensures.named c.name.ensures.there own c.in-Ok.ensures.func c.in-Ok.ensures.drops

pub returns-in-Err-clause-marked : goal.returns-in-Err-clause-marked
returns-in-Err-clause-marked c =
    let old : Kept = c.args.self.now in
    marked_same old (record { node = old.node; named = old.named; there = old.there; state = c.remove.new.self }) refl refl (fair_marked old c.requires)

pub returns-in-Err-clause-fair : goal.returns-in-Err-clause-fair
returns-in-Err-clause-fair c =
    let old : Kept = c.args.self.now in
    fair_same old (record { node = old.node; named = old.named; there = old.there; state = c.remove.new.self }) c.in-Err.ensures.drops.err refl refl c.requires

pub returns-in-Err-clause-step : goal.returns-in-Err-clause-step
returns-in-Err-clause-step c =
    let old : Kept = c.args.self.now in
    take_stays c.args.func c.args.value.now old c.remove.new.self c.in-Err.refusal c.in-Err.ensures.drops
