use Rattle.std.proofs.Common.{◌≡◌, ◌∙◌, ℕ, Some, Err, refl, sym, ap, subst, arith}
use Rattle.rg_dump.proofs.Laws.{read-none, read-then}
use Rattle.rg_reservoir.specs.declared.fault.ReservoirFault.{ReservoirFault}
use Rattle.rg_info.specs.declared.fault.InfoFault.TheVariants.{Damaged}
use Rattle.rg_info.specs.declared.summary.Summary.{Summary}
use Rattle.rg_info.proofs.Summing.{IsSummed, summed_start, summed_next, summed_end, summed_damage, one_frame, walk_damaged}
use Rattle.rg_info.proofs.summary.read_log.Goals as goal

pub frames-init : goal.frames-init
frames-init g c = record {
  summed = λ v told. summed_start (v 2) _ _ c.new-walk.ensures.place c.new-walk.ensures.schema c.new-walk.ensures.tally refl;
  few = omega arith;
  within = omega (arith, c.new-walk.ensures.place);
  leaves = read-none g.H.Host.now g.H.Host.may g.H.Host.clock g.H.Host.since g.H.Host.said g.H.Host.disk_faults g.H.Host.out_faults _ (λ t u m. g.met.H.Host.sinks _ t u m) (λ m. g.met.H.Host.only_now _ m);
}

pub returns-in-Ok-None-clause-summary : goal.returns-in-Ok-None-clause-summary
returns-in-Ok-None-clause-summary g c = λ v told.
    let none = rw c.in-Ok-None.field-0-is at c.in-Ok-None.ensures.none in
    (summed_end (v 2) c.frames.walk c.frames.summary (c.frames.invariant.summed v told) (none.1 v (c.frames.invariant.leaves.leaves.now_stays ∙ told))).0

pub returns-in-Ok-None-clause-undamaged : goal.returns-in-Ok-None-clause-undamaged
returns-in-Ok-None-clause-undamaged g c = λ v told.
    let none = rw c.in-Ok-None.field-0-is at c.in-Ok-None.ensures.none in
    (summed_end (v 2) c.frames.walk c.frames.summary (c.frames.invariant.summed v told) (none.1 v (c.frames.invariant.leaves.leaves.now_stays ∙ told))).1

pub walk_fault-requires : goal.walk_fault-requires
walk_fault-requires g c =
    let never = c.in-Err.ensures.neither in
    record {
      differs = λ is. never.0 (ap (λ (f : ReservoirFault). Err f) is);
      full = λ is. never.1 (ap (λ (f : ReservoirFault). Err f) is);
      ended = λ is. never.2 (ap (λ (f : ReservoirFault). Err f) is);
    }

pub returns-in-Err-clause-damaged : goal.returns-in-Err-clause-damaged
returns-in-Err-clause-damaged g c = λ p e. λ v told.
    let same : c.walk_fault.result ≡ Damaged p = cc in
    let d = c.in-Err.ensures.damaged p (ap (λ (f : ReservoirFault). Err f) (walk_damaged c.in-Err.fault p (sym c.walk_fault.ensures ∙ same))) in
    summed_damage (v 2) c.frames.walk c.frames.summary (c.frames.invariant.summed v told) (d.1 v (c.frames.invariant.leaves.leaves.now_stays ∙ told)) ∙ ap (λ (n : ℕ). Some n) (sym d.0)

pub frames-preserved-in-Ok-Some : goal.frames-preserved-in-Ok-Some
frames-preserved-in-Ok-Some g c =
    let next = rw c.in-Ok-Some.field-0-is at c.in-Ok-Some.ensures.some in
    let goes = rw c.in-Ok-Some.field-0-is at c.in-Ok-Some.ensures.goes_on in
    record {
      summed = λ v told. subst (λ (a : Summary). IsSummed (v 2) c.next.new.self a) (sym c.with-summary.ensures) (summed_next (v 2) c.frames.walk c.next.new.self c.frames.summary (c.frames.invariant.summed v told) c.in-Ok-Some.stage (next v (c.frames.invariant.leaves.leaves.now_stays ∙ told)));
      few = omega (arith, ap (λ (a : Summary). a.frames) c.with-summary.ensures, one_frame c.frames.summary c.in-Ok-Some.stage, c.frames.invariant.few, goes.0);
      within = omega (arith, goes.1);
      leaves = read-then g.H.Host.now g.H.Host.may g.H.Host.clock g.H.Host.since g.H.Host.said g.H.Host.disk_faults g.H.Host.out_faults _ _ _ c.frames.invariant.leaves (record { leaves = c.in-Ok-Some.ensures.leaves; disk_faults = c.in-Ok-Some.ensures.disk_faults; out_faults = c.in-Ok-Some.ensures.out_faults });
    }

pub frames-preserved-in-Ok-Some-2 : goal.frames-preserved-in-Ok-Some-2
frames-preserved-in-Ok-Some-2 g c =
    let next = rw c.in-Ok-Some.field-0-is at c.in-Ok-Some.ensures.some in
    let goes = rw c.in-Ok-Some.field-0-is at c.in-Ok-Some.ensures.goes_on in
    record {
      summed = λ v told. subst (λ (a : Summary). IsSummed (v 2) c.next.new.self a) (sym c.with-summary.ensures) (summed_next (v 2) c.frames.walk c.next.new.self c.frames.summary (c.frames.invariant.summed v told) c.in-Ok-Some.stage (next v (c.frames.invariant.leaves.leaves.now_stays ∙ told)));
      few = omega (arith, ap (λ (a : Summary). a.frames) c.with-summary.ensures, one_frame c.frames.summary c.in-Ok-Some.stage, c.frames.invariant.few, goes.0);
      within = omega (arith, goes.1);
      leaves = read-then g.H.Host.now g.H.Host.may g.H.Host.clock g.H.Host.since g.H.Host.said g.H.Host.disk_faults g.H.Host.out_faults _ _ _ c.frames.invariant.leaves (record { leaves = c.in-Ok-Some.ensures.leaves; disk_faults = c.in-Ok-Some.ensures.disk_faults; out_faults = c.in-Ok-Some.ensures.out_faults });
    }

pub frames-preserved : goal.frames-preserved
frames-preserved g c =
    let next = rw c.in-Ok-Some.field-0-is at c.in-Ok-Some.ensures.some in
    let goes = rw c.in-Ok-Some.field-0-is at c.in-Ok-Some.ensures.goes_on in
    record {
      summed = λ v told. subst (λ (a : Summary). IsSummed (v 2) c.next.new.self a) (sym c.with-summary.ensures) (summed_next (v 2) c.frames.walk c.next.new.self c.frames.summary (c.frames.invariant.summed v told) c.in-Ok-Some.stage (next v (c.frames.invariant.leaves.leaves.now_stays ∙ told)));
      few = omega (arith, ap (λ (a : Summary). a.frames) c.with-summary.ensures, one_frame c.frames.summary c.in-Ok-Some.stage, c.frames.invariant.few, goes.0);
      within = omega (arith, goes.1);
      leaves = read-then g.H.Host.now g.H.Host.may g.H.Host.clock g.H.Host.since g.H.Host.said g.H.Host.disk_faults g.H.Host.out_faults _ _ _ c.frames.invariant.leaves (record { leaves = c.in-Ok-Some.ensures.leaves; disk_faults = c.in-Ok-Some.ensures.disk_faults; out_faults = c.in-Ok-Some.ensures.out_faults });
    }

pub returns-in-Ok-None-clause-leaves : goal.returns-in-Ok-None-clause-leaves
returns-in-Ok-None-clause-leaves g c =
    read-then g.H.Host.now g.H.Host.may g.H.Host.clock g.H.Host.since g.H.Host.said g.H.Host.disk_faults g.H.Host.out_faults _ _ _ c.frames.invariant.leaves (record { leaves = c.next.ensures.leaves; disk_faults = c.next.ensures.disk_faults; out_faults = c.next.ensures.out_faults })

pub returns-in-Err-clause-leaves : goal.returns-in-Err-clause-leaves
returns-in-Err-clause-leaves g c =
    read-then g.H.Host.now g.H.Host.may g.H.Host.clock g.H.Host.since g.H.Host.said g.H.Host.disk_faults g.H.Host.out_faults _ _ _ c.frames.invariant.leaves (record { leaves = c.next.ensures.leaves; disk_faults = c.next.ensures.disk_faults; out_faults = c.next.ensures.out_faults })
