use Rattle.std.proofs.Common.{length, refl, sym, subst}
use Rattle.std.specs.Prelude.{◌↔◌, IsTrue, All}
use Rattle.std.proofs.lemmas.Result.{IfOk-weaker}
use Rattle.rg_dump.proofs.Laws.{read-none}
use Rattle.rg_reservoir.specs.Naming.{IsNamed}
use Rattle.rg_verify.specs.Fitting.{FitsAmong}
use Rattle.rg_verify.proofs.Fits.{is_false, among, not_among}
use Rattle.rg_verify.proofs.fitting.is_fit.Goals as goal

pub returns-then-not-fits-clause-fit : goal.returns-then-not-fits-clause-fit
returns-then-not-fits-clause-fit g c = λ v payloads told has.
    not_among c.args.fields.now c.args.task.now c.args.log.now.framed (length c.args.log.now.events) payloads c.args.checkpoint.now (λ beside. is_false (subst IsTrue c.if-not-fits.true (c.fits.ensures.1 beside)))

pub returns-in-Some-clause-fit : goal.returns-in-Some-clause-fit
returns-in-Some-clause-fit g c = λ v payloads told has.
    IfOk-weaker c.spots_are_named.result (λ are. IsTrue are ↔ All (IsNamed payloads (length c.args.log.now.events)) c.args.checkpoint.now.spots)
    (λ are. IsTrue are ↔ FitsAmong c.args.fields.now c.args.task.now c.args.log.now.framed (length c.args.log.now.events) payloads c.args.checkpoint.now)
    (λ are named. among c.args.fields.now c.args.task.now c.args.log.now.framed (length c.args.log.now.events) payloads c.args.checkpoint.now are (c.fits.ensures.0 (subst IsTrue (sym c.if-not-fits.false) refl)) named)
    (c.spots_are_named.ensures.named v payloads told has)

pub returns-then-not-fits-clause-leaves : goal.returns-then-not-fits-clause-leaves
returns-then-not-fits-clause-leaves g c = read-none g.H.Host.now g.H.Host.may g.H.Host.clock g.H.Host.since g.H.Host.said g.H.Host.disk_faults g.H.Host.out_faults _ (λ t u m. g.met.H.Host.sinks _ t u m) (λ m. g.met.H.Host.only_now _ m)

pub returns-in-None-clause-leaves : goal.returns-in-None-clause-leaves
returns-in-None-clause-leaves g c = read-none g.H.Host.now g.H.Host.may g.H.Host.clock g.H.Host.since g.H.Host.said g.H.Host.disk_faults g.H.Host.out_faults _ (λ t u m. g.met.H.Host.sinks _ t u m) (λ m. g.met.H.Host.only_now _ m)
