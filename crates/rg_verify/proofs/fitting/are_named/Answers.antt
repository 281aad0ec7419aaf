use Rattle.std.proofs.Common.{ℕ, refl, sym, subst}
use Rattle.std.specs.Prelude.{◌↔◌, IsTrue, All}
use Rattle.rg_dump.proofs.Laws.{read-none}
use Rattle.rg_reservoir.specs.Naming.{IsNamed}
use Rattle.rg_verify.proofs.fitting.are_named.Goals as goal

pub returns-in-Ok-clause-named : goal.returns-in-Ok-clause-named
returns-in-Ok-clause-named g c = λ v payloads told has.
    subst (λ (n : ℕ). IsTrue c.in-Ok.are ↔ All (IsNamed payloads n) c.args.spots.now) (c.has_just.ensures (subst IsTrue (sym c.if-not-has_just.false) refl)) (c.in-Ok.ensures.named v payloads told has)

pub returns-then-not-has_just-clause-leaves : goal.returns-then-not-has_just-clause-leaves
returns-then-not-has_just-clause-leaves g c = read-none g.H.Host.now g.H.Host.may g.H.Host.clock g.H.Host.since g.H.Host.said g.H.Host.disk_faults g.H.Host.out_faults _ (λ t u m. g.met.H.Host.sinks _ t u m) (λ m. g.met.H.Host.only_now _ m)
