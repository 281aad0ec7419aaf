use Rattle.std.proofs.Common.{Err, sym, ap, subst}
use Rattle.std.specs.Option.{ForSome}
use Rattle.rg_log.specs.Entries.{unread}
use Rattle.rg_reservoir.specs.Attached.{IsForeign}
use Rattle.rg_reservoir.specs.declared.fault.ReservoirFault.{ReservoirFault}
use Rattle.rg_reservoir.specs.Kept.{base}
use Rattle.rg_reservoir.proofs.Laws.{foreign_not_for}
use Rattle.rg_verify.specs.Causes.{IsFirstDamage, IsOfOther, IsUnjudged}
use Rattle.rg_verify.specs.Finding.{IsApart}
use Rattle.rg_verify.proofs.Causes.{unjudged-log, unjudged-within}
use Rattle.rg_verify.proofs.Found.{none_found, found, apart}
use Rattle.rg_verify.proofs.Undamaged.{no_bad}
use Rattle.rg_verify.proofs.finding.find.Goals as goal

pub walk_fault-requires : goal.walk_fault-requires
walk_fault-requires g c =
    let never = c.in-Err.ensures.neither in
    record { differs = λ is. never.2 (ap (λ (f : ReservoirFault). Err f) is); full = λ is. never.0 (ap (λ (f : ReservoirFault). Err f) is); ended = λ is. never.1 (ap (λ (f : ReservoirFault). Err f) is) }

pub returns-in-Err-clause-cause : goal.returns-in-Err-clause-cause
returns-in-Err-clause-cause g c =
    let now = g.H.Host.now c.args.host.now in
    let damage = IsFirstDamage now in
    let other = IsOfOther c.args.schema.now c.args.defaults.now now in
    let never = c.in-Err.ensures.neither in
    subst (IsUnjudged damage other (g.H.Host.disk_faults c.args.host.now) (g.H.Host.disk_faults c.read.new.host)) (sym c.walk_fault.ensures)
    (unjudged-log damage other _ _ c.in-Err.fault
    (λ is. c.in-Err.ensures.disk (ap (λ (f : ReservoirFault). Err f) is))
    (λ p is. λ v told. absurd (no_bad (v 2) (record { alloc = c.args.alloc; place = 0; so_far = unread }) (c.requires.undamaged v told) p (c.in-Err.ensures.damaged p (ap (λ (f : ReservoirFault). Err f) is) v told)))
    (λ is. absurd (never.2 (ap (λ (f : ReservoirFault). Err f) is))))

pub returns-in-Ok-None-clause-found : goal.returns-in-Ok-None-clause-found
returns-in-Ok-None-clause-found g c = λ v told. none_found c.args.schema.now c.args.defaults.now (v 2) ((rw c.in-Ok-None.field-0-is at c.in-Ok-None.ensures.none) v told)

pub returns-in-Ok-clause-empty : goal.returns-in-Ok-clause-empty
returns-in-Ok-clause-empty g c = (rw c.in-Ok-Some.field-0-is at c.in-Ok-Some.ensures.empty).0

pub returns-in-Ok-clause-found : goal.returns-in-Ok-clause-found
returns-in-Ok-clause-found g c = λ v told.
    found c.args.schema.now c.args.defaults.now (v 2) _ _ _ _ ((rw c.in-Ok-Some.field-0-is at c.in-Ok-Some.ensures.opened) v told) c.in-Ok.further c.in-Ok.ensures.is

pub returns-in-Err-further-clause-cause : goal.returns-in-Err-further-clause-cause
returns-in-Err-further-clause-cause g c =
    let schema = c.args.schema.now in
    let defaults = c.args.defaults.now in
    let opened = rw c.in-Ok-Some.field-0-is at c.in-Ok-Some.ensures.opened in
    unjudged-within (IsFirstDamage (g.H.Host.now c.args.host.now)) (λ _. ⊥) (IsOfOther schema defaults (g.H.Host.now c.args.host.now)) (IsApart (base c.in-Ok-Some.log).shape schema defaults) _ _ _ c.in-Err-further.fault c.read.ensures.disk_faults
    (λ place no. absurd no)
    (λ is.
    let other : ForSome (g.H.Host.now c.args.host.now) (λ v. IsForeign schema defaults (v 2)) = λ v told. apart schema defaults (v 2) _ _ _ _ (opened v told) is in
    record { other = other; no_events = λ v events told has. foreign_not_for schema defaults events (v 2) has (other v told) })
    (c.in-Err-further.ensures.cause (g.H.Host.disk_faults c.read.new.host))
