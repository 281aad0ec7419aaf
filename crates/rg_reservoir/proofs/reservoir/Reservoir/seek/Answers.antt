use Rattle.std.proofs.Common.{ℕ, Ok, refl, subst}
use Rattle.rg_past.specs.declared.past.Spot.{Spot}
use Rattle.rg_reservoir.specs.Touched.{HasSought, SeekLoads}
use Rattle.rg_reservoir.proofs.Readying.{ready_sought, ready_loads}
use Rattle.rg_reservoir.proofs.reservoir.Reservoir.seek.Goals as goal

pub returns-then-is_ready-clause-sought : goal.returns-then-is_ready-clause-sought
returns-then-is_ready-clause-sought g c =
    let self = c.args.self.now in
    let at : ℕ → Spot = λ place. record { place = place; index = c.args.spot.now.index; number = c.args.spot.now.number } in
    subst (λ (place : ℕ). HasSought g.H.Host.now g.H.Host.may (Ok tt) self self c.args.host.now (at place) (at c.passed-spot.result)) c.passed-spot.ensures
    (ready_sought g.H.Host.now g.H.Host.may g.H.Host.reads self c.args.host.now (at c.passed-spot.result) (c.if-is_ready.ensures refl))

pub returns-then-is_ready-clause-loads : goal.returns-then-is_ready-clause-loads
returns-then-is_ready-clause-loads g c =
    let self = c.args.self.now in
    let at : ℕ → Spot = λ place. record { place = place; index = c.args.spot.now.index; number = c.args.spot.now.number } in
    subst (λ (place : ℕ). SeekLoads g.H.Host.now g.H.Host.may g.H.Host.reads (Ok tt) self self c.args.host.now c.args.host.now (at place)) c.passed-spot.ensures
    (ready_loads g.H.Host.now g.H.Host.may g.H.Host.reads self c.args.host.now (at c.passed-spot.result) (c.if-is_ready.ensures refl))
