use Rattle.std.proofs.Common.{◌≡◌, ◌∙◌, ap, sym, subst, ℕ, Err, arith}
use Rattle.rg_frame.specs.Frames.{IsLog, HasPayloads}
use Rattle.rg_frame.specs.LogState.{LogState}
use Rattle.rg_frame.specs.Looks.{IsTorn}
use Rattle.rg_host.proofs.Laws.{leaves_all-then}
use Rattle.rg_reservoir.specs.Heads.{IsBadFrame, Gathered, GrowsWith}
use Rattle.rg_reservoir.specs.declared.fault.ReservoirFault.{ReservoirFault}
use Rattle.rg_reservoir.specs.declared.fault.ReservoirFault.TheVariants.{Disk, Damaged}
use Rattle.rg_reservoir.proofs.Causes.{stopped_at, stop_found, stop_refused, refused_at, refused_so}
use Rattle.rg_reservoir.proofs.Gathering.{gathered_more}
use Rattle.rg_reservoir.proofs.Heading.{entry_on, bad_on, torn_on, ends_on}
use Rattle.rg_reservoir.proofs.Listing.{listed}
use Rattle.rg_reservoir.proofs.heads.read_on.Goals as goal

pub returns-in-Ok-None-clause-read : goal.returns-in-Ok-None-clause-read
returns-in-Ok-None-clause-read g c =
    let inv = c.frames.invariant in
    let h = rw c.in-Ok-None.field-0-is at c.in-Ok-None.ensures.found.none in
    let end = ap (λ (l : LogState). l.end) h.0 in
    record {
      read = λ v told.
          let one = inv.gathered v told in
          let log = ends_on (v c.frames.log.file) (v c.args.log.now.file) c.frames.log.end c.frames.so_far (ap v inv.file) one.passed (h.1 v (inv.leaves.now_stays ∙ told)) in
          subst (λ (e : ℕ). (x : Gathered (v c.args.log.now.file) e c.frames.so_far c.frames.growths) × IsLog x.passed.payloads e (v c.args.log.now.file) × HasPayloads x.passed.payloads (v c.args.log.now.file)) (sym end)
          (one, log, listed one.passed.payloads c.frames.log.end (v c.args.log.now.file) log inv.small);
      few = inv.few;
      same = (c.next_entry.ensures.found.same.0 ∙ inv.file, c.next_entry.ensures.found.same.1 ∙ inv.ended);
      ready = ap (λ (l : LogState). l.ready) h.0;
      reaches = λ reaches. c.next_entry.ensures.found.reaches (inv.reaches reaches);
    }

pub returns-in-Err-clause-stops : goal.returns-in-Err-clause-stops
returns-in-Err-clause-stops g c =
    let inv = c.frames.invariant in
    let stops = c.in-Err.ensures.stops in
    record {
      damaged = λ p e v told.
          let same : c.in-Err.fault ≡ Damaged p = cc in
          let at : p ≡ c.frames.log.end = stopped_at c.in-Err.fault p c.frames.log.end same stops.faults in
          let torn = stops.damaged p (ap (λ (f : ReservoirFault). Err f) same) v (inv.leaves.now_stays ∙ told) in
          subst (λ (q : ℕ). IsBadFrame q (v c.args.log.now.file)) (sym at)
          (torn_on (v c.frames.log.file) (v c.args.log.now.file) c.frames.log.end c.frames.so_far (ap v inv.file) (inv.gathered v told).passed (subst (λ (q : ℕ). IsTorn q (v c.frames.log.file)) at torn));
      faults = stop_found c.in-Err.fault c.frames.log.end stops.faults;
      disk = λ e.
          let same : c.in-Err.fault ≡ Disk = cc in
          let rose = stops.disk (ap (λ (f : ReservoirFault). Err f) same) in
          omega (arith, rose, inv.disk_faults);
    }

pub returns-in-Err-take_found-clause-stops : goal.returns-in-Err-take_found-clause-stops
returns-in-Err-take_found-clause-stops g c =
    let inv = c.frames.invariant in
    let faults = c.in-Err-take_found.ensures.faults in
    let no = refused_so c.in-Err-take_found.fault c.in-Ok-Some.found.place _ faults in
    record {
      damaged = λ p e v told.
          let same : c.in-Err-take_found.fault ≡ Damaged p = cc in
          let h = rw c.in-Ok-Some.field-0-is at c.in-Ok-Some.ensures.found.some in
          let at = rw c.in-Ok-Some.field-0-is at c.in-Ok-Some.ensures.found.place in
          let w = refused_at c.in-Err-take_found.fault c.in-Ok-Some.found.place p _ same faults in
          subst (λ (q : ℕ). IsBadFrame q (v c.args.log.now.file)) (sym at.0 ∙ w.0)
          (bad_on (v c.frames.log.file) (v c.args.log.now.file) c.frames.log.end c.next_entry.new.log.end c.frames.so_far c.in-Ok-Some.found.entry (ap v inv.file) (inv.gathered v told).passed (h v (inv.leaves.now_stays ∙ told)) w.1);
      faults = stop_refused c.in-Err-take_found.fault c.in-Ok-Some.found.place _ faults;
      disk = λ e. absurd (no.3 (let is : c.in-Err-take_found.fault ≡ Disk = cc in is));
    }

pub frames-preserved : goal.frames-preserved
frames-preserved g c =
    let inv = c.frames.invariant in
    let h = rw c.in-Ok-Some.field-0-is at c.in-Ok-Some.ensures.found.some in
    let at = rw c.in-Ok-Some.field-0-is at c.in-Ok-Some.ensures.found.place in
    let small = rw c.in-Ok-Some.field-0-is at c.in-Ok-Some.ensures.found.small in
    record {
      gathered = λ v told.
          let one = inv.gathered v told in
          let entry = entry_on (v c.frames.log.file) (v c.args.log.now.file) c.frames.log.end c.next_entry.new.log.end c.frames.so_far c.in-Ok-Some.found.entry (ap v inv.file) one.passed (h v (inv.leaves.now_stays ∙ told)) in
          let grows = subst (λ (n : ℕ). GrowsWith n c.next_entry.new.log.end c.frames.so_far.schema c.in-Ok-Some.found.entry c.frames.growths c.take_found.new.growths) at.0
          (subst (λ (n : ℕ). GrowsWith c.in-Ok-Some.found.place n c.frames.so_far.schema c.in-Ok-Some.found.entry c.frames.growths c.take_found.new.growths) at.1 c.in-Ok.ensures.passed.1) in
          gathered_more (v c.args.log.now.file) c.frames.log.end c.next_entry.new.log.end c.frames.so_far c.take_found.new.so_far c.in-Ok-Some.found.entry c.frames.growths c.take_found.new.growths one small entry c.in-Ok.ensures.passed.0 grows;
      few = c.take_found.ensures.few inv.few;
      small = small;
      reaches = λ reaches. c.next_entry.ensures.found.reaches (inv.reaches reaches);
      file = c.next_entry.ensures.found.same.0 ∙ inv.file;
      ended = c.next_entry.ensures.found.same.1 ∙ inv.ended;
      leaves = leaves_all-then g.H.Host.now g.H.Host.may g.H.Host.clock g.H.Host.since g.H.Host.said _ _ _ inv.leaves c.next_entry.ensures.leaves.leaves;
      disk_faults = omega (arith, inv.disk_faults, c.next_entry.ensures.leaves.disk_faults_rise);
      out_faults = c.next_entry.ensures.leaves.out_faults_stay ∙ inv.out_faults;
    }
