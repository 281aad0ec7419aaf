use Rattle.std.proofs.Common.{◌∙◌, ℕ, Some, Err, sym, ap, subst, arith}
use Rattle.rg_dump.proofs.Laws.{read-none, read-then}
use Rattle.rg_reservoir.specs.declared.fault.ReservoirFault.{ReservoirFault}
use Rattle.rg_verify.specs.Causes.{IsFirstDamage, IsUnjudged}
use Rattle.rg_verify.proofs.Causes.{unjudged-log}
use Rattle.rg_verify.proofs.Reading.{read_start, read_next, read_end, read_damage}
use Rattle.rg_verify.proofs.payments.read_log.Goals as goal

pub frames-init : goal.frames-init
frames-init g c = record {
  read = λ v told. read_start (v 2) _ _ c.new-walk.ensures.place c.new-walk.ensures.schema c.new-walk.ensures.tally c.new-events.ensures;
  within = omega (arith, c.new-walk.ensures.place);
  leaves = read-none g.H.Host.now g.H.Host.may g.H.Host.clock g.H.Host.since g.H.Host.said g.H.Host.disk_faults g.H.Host.out_faults _ (λ t u m. g.met.H.Host.sinks _ t u m) (λ m. g.met.H.Host.only_now _ m);
}

pub returns-in-Ok-None-clause-read : goal.returns-in-Ok-None-clause-read
returns-in-Ok-None-clause-read g c = λ v told.
    let none = rw c.in-Ok-None.field-0-is at c.in-Ok-None.ensures.none in
    read_end (v 2) c.frames.walk c.frames.events c.frames.framed (c.frames.invariant.read v told) (none.1 v (c.frames.invariant.leaves.leaves.now_stays ∙ told))

pub returns-in-Ok-None-clause-leaves : goal.returns-in-Ok-None-clause-leaves
returns-in-Ok-None-clause-leaves g c = read-then g.H.Host.now g.H.Host.may g.H.Host.clock g.H.Host.since g.H.Host.said g.H.Host.disk_faults g.H.Host.out_faults _ _ _ c.frames.invariant.leaves (record { leaves = c.next.ensures.leaves; disk_faults = c.next.ensures.disk_faults; out_faults = c.next.ensures.out_faults })

pub returns-in-Err-clause-leaves : goal.returns-in-Err-clause-leaves
returns-in-Err-clause-leaves g c = read-then g.H.Host.now g.H.Host.may g.H.Host.clock g.H.Host.since g.H.Host.said g.H.Host.disk_faults g.H.Host.out_faults _ _ _ c.frames.invariant.leaves (record { leaves = c.next.ensures.leaves; disk_faults = c.next.ensures.disk_faults; out_faults = c.next.ensures.out_faults })

pub returns-in-Err-push_stage-clause-leaves : goal.returns-in-Err-push_stage-clause-leaves
returns-in-Err-push_stage-clause-leaves g c = read-then g.H.Host.now g.H.Host.may g.H.Host.clock g.H.Host.since g.H.Host.said g.H.Host.disk_faults g.H.Host.out_faults _ _ _ c.frames.invariant.leaves (record { leaves = c.next.ensures.leaves; disk_faults = c.next.ensures.disk_faults; out_faults = c.next.ensures.out_faults })

pub walk_fault-requires : goal.walk_fault-requires
walk_fault-requires g c =
    let never = c.in-Err.ensures.neither in
    record { differs = λ is. never.0 (ap (λ (f : ReservoirFault). Err f) is); full = λ is. never.1 (ap (λ (f : ReservoirFault). Err f) is); ended = λ is. never.2 (ap (λ (f : ReservoirFault). Err f) is) }

pub returns-in-Err-clause-cause : goal.returns-in-Err-clause-cause
returns-in-Err-clause-cause g c =
    let left = c.frames.invariant.leaves in
    let never = c.in-Err.ensures.neither in
    let damage = IsFirstDamage (g.H.Host.now c.args.host.now) in
    subst (IsUnjudged damage ⊥ (g.H.Host.disk_faults c.args.host.now) (g.H.Host.disk_faults c.next.new.host)) (sym c.walk_fault.ensures)
    (unjudged-log damage ⊥ _ _ c.in-Err.fault
    (λ is. let rose = c.in-Err.ensures.disk (ap (λ (f : ReservoirFault). Err f) is) in omega (arith, left.disk_faults, rose))
    (λ p is. λ v told.
    let d = c.in-Err.ensures.damaged p (ap (λ (f : ReservoirFault). Err f) is) in
    read_damage (v 2) c.frames.walk c.frames.events c.frames.framed (c.frames.invariant.read v told) (d.1 v (left.leaves.now_stays ∙ told)) ∙ ap (λ (n : ℕ). Some n) (sym d.0))
    (λ is. never.0 (ap (λ (f : ReservoirFault). Err f) is)))

pub frames-preserved-in-Ok : goal.frames-preserved-in-Ok
frames-preserved-in-Ok g c =
    let next = rw c.in-Ok-Some.field-0-is at c.in-Ok-Some.ensures.some in
    let goes = rw c.in-Ok-Some.field-0-is at c.in-Ok-Some.ensures.goes_on in
    record {
      read = λ v told. read_next (v 2) c.frames.walk c.next.new.self c.frames.events c.push_stage.new.events c.frames.framed c.in-Ok-Some.stage (c.frames.invariant.read v told) (next v (c.frames.invariant.leaves.leaves.now_stays ∙ told)) c.in-Ok.ensures;
      within = omega (arith, goes.1);
      leaves = read-then g.H.Host.now g.H.Host.may g.H.Host.clock g.H.Host.since g.H.Host.said g.H.Host.disk_faults g.H.Host.out_faults _ _ _ c.frames.invariant.leaves (record { leaves = c.next.ensures.leaves; disk_faults = c.next.ensures.disk_faults; out_faults = c.next.ensures.out_faults });
    }

pub frames-preserved-in-Ok-2 : goal.frames-preserved-in-Ok-2
frames-preserved-in-Ok-2 g c =
    let next = rw c.in-Ok-Some.field-0-is at c.in-Ok-Some.ensures.some in
    let goes = rw c.in-Ok-Some.field-0-is at c.in-Ok-Some.ensures.goes_on in
    record {
      read = λ v told. read_next (v 2) c.frames.walk c.next.new.self c.frames.events c.push_stage.new.events c.frames.framed c.in-Ok-Some.stage (c.frames.invariant.read v told) (next v (c.frames.invariant.leaves.leaves.now_stays ∙ told)) c.in-Ok.ensures;
      within = omega (arith, goes.1);
      leaves = read-then g.H.Host.now g.H.Host.may g.H.Host.clock g.H.Host.since g.H.Host.said g.H.Host.disk_faults g.H.Host.out_faults _ _ _ c.frames.invariant.leaves (record { leaves = c.next.ensures.leaves; disk_faults = c.next.ensures.disk_faults; out_faults = c.next.ensures.out_faults });
    }

pub frames-preserved : goal.frames-preserved
frames-preserved g c =
    let next = rw c.in-Ok-Some.field-0-is at c.in-Ok-Some.ensures.some in
    let goes = rw c.in-Ok-Some.field-0-is at c.in-Ok-Some.ensures.goes_on in
    record {
      read = λ v told. read_next (v 2) c.frames.walk c.next.new.self c.frames.events c.push_stage.new.events c.frames.framed c.in-Ok-Some.stage (c.frames.invariant.read v told) (next v (c.frames.invariant.leaves.leaves.now_stays ∙ told)) c.in-Ok.ensures;
      within = omega (arith, goes.1);
      leaves = read-then g.H.Host.now g.H.Host.may g.H.Host.clock g.H.Host.since g.H.Host.said g.H.Host.disk_faults g.H.Host.out_faults _ _ _ c.frames.invariant.leaves (record { leaves = c.next.ensures.leaves; disk_faults = c.next.ensures.disk_faults; out_faults = c.next.ensures.out_faults });
    }
