use Rattle.std.proofs.Common.{◌≡◌, ◌∙◌, ◌-◌, ap, sym, subst, ℕ, Err, arith, rules}
use Rattle.std.specs.Prelude.{count_by}
use Rattle.rg_frame.specs.LogState.{LogState}
use Rattle.rg_frame.specs.Looks.{IsTorn}
use Rattle.rg_host.proofs.Laws.{leaves_all-then}
use Rattle.rg_log.specs.Spots.{is_at_end}
use Rattle.rg_reservoir.specs.Heads.{IsBadFrame}
use Rattle.rg_reservoir.specs.Naming.{count_found}
use Rattle.rg_reservoir.specs.declared.fault.ReservoirFault.{ReservoirFault}
use Rattle.rg_reservoir.specs.declared.fault.ReservoirFault.TheVariants.{Disk, Damaged}
use Rattle.rg_reservoir.proofs.Causes.{stopped_at, stop_found, stop_refused, refused_at, refused_so}
use Rattle.rg_reservoir.proofs.Heading.{bad_on, torn_on}
use Rattle.rg_reservoir.proofs.Naming.{left_on, left_end, left_listed}
use Rattle.rg_reservoir.proofs.names.count_behind.Goals as goal

pub returns-in-Ok-None-clause-counts : goal.returns-in-Ok-None-clause-counts
returns-in-Ok-None-clause-counts g c =
    let inv = c.frames.invariant in
    let h = rw c.in-Ok-None.field-0-is at c.in-Ok-None.ensures.found.none in
    let before = c.frames.so_far.summary.count in
    record {
      counted = λ v told.
          let end : c.end.result ≡ c.frames.log.end = c.end.ensures.end ∙ ap (λ (l : LogState). l.end) h.0 in
          let count : c.saturating_sub.result ≡ c.frames.left - count_by (is_at_end c.frames.log.end before) c.args.spots.now =
          search rules ∙ ap (λ (n : ℕ). c.frames.left - n) (c.count_at_end-named.ensures ∙ ap (λ (e : ℕ). count_by (is_at_end e before) c.args.spots.now) end) in
          left_end c.args.spots.now c.frames.log.end c.frames.left c.saturating_sub.result c.frames.so_far (v c.frames.log.file) (v c.args.log.now.file) (ap v inv.file) (inv.counted v told) (h.1 v (inv.leaves.now_stays ∙ told)) count;
      lists = λ v told. left_listed c.args.spots.now c.frames.log.end c.frames.left c.frames.so_far (v c.frames.log.file) (v c.args.log.now.file) (ap v inv.file) (inv.counted v told) (h.1 v (inv.leaves.now_stays ∙ told)) inv.small;
    }

pub returns-in-Err-clause-stops : goal.returns-in-Err-clause-stops
returns-in-Err-clause-stops g c =
    let inv = c.frames.invariant in
    let stops = c.in-Err.ensures.stops in
    record {
      damaged = λ p e v told.
          let same : c.in-Err.fault ≡ Damaged p = cc in
          let at : p ≡ c.frames.log.end = stopped_at c.in-Err.fault p c.frames.log.end same stops.faults in
          let torn = stops.damaged p (ap (λ (f : ReservoirFault). Err f) same) v (inv.leaves.now_stays ∙ told) in
          subst (λ (q : ℕ). IsBadFrame q (v c.args.log.now.file)) (sym at)
          (torn_on (v c.frames.log.file) (v c.args.log.now.file) c.frames.log.end c.frames.so_far (ap v inv.file) (inv.counted v told).passed (subst (λ (q : ℕ). IsTorn q (v c.frames.log.file)) at torn));
      faults = stop_found c.in-Err.fault c.frames.log.end stops.faults;
      disk = λ e.
          let same : c.in-Err.fault ≡ Disk = cc in
          let rose = stops.disk (ap (λ (f : ReservoirFault). Err f) same) in
          omega (arith, rose, inv.disk_faults);
    }

pub returns-in-Err-count_passed-clause-stops : goal.returns-in-Err-count_passed-clause-stops
returns-in-Err-count_passed-clause-stops g c =
    let inv = c.frames.invariant in
    let faults = c.in-Err-count_passed.ensures.faults in
    let no = refused_so c.in-Err-count_passed.fault c.in-Ok-Some.found.place _ faults in
    record {
      damaged = λ p e v told.
          let same : c.in-Err-count_passed.fault ≡ Damaged p = cc in
          let h = rw c.in-Ok-Some.field-0-is at c.in-Ok-Some.ensures.found.some in
          let at = rw c.in-Ok-Some.field-0-is at c.in-Ok-Some.ensures.found.place in
          let w = refused_at c.in-Err-count_passed.fault c.in-Ok-Some.found.place p _ same faults in
          subst (λ (q : ℕ). IsBadFrame q (v c.args.log.now.file)) (sym at.0 ∙ w.0)
          (bad_on (v c.frames.log.file) (v c.args.log.now.file) c.frames.log.end c.next_entry.new.log.end c.frames.so_far c.in-Ok-Some.found.entry (ap v inv.file) (inv.counted v told).passed (h v (inv.leaves.now_stays ∙ told)) w.1);
      faults = stop_refused c.in-Err-count_passed.fault c.in-Ok-Some.found.place _ faults;
      disk = λ e. absurd (no.3 (let is : c.in-Err-count_passed.fault ≡ Disk = cc in is));
    }

pub frames-preserved : goal.frames-preserved
frames-preserved g c =
    let inv = c.frames.invariant in
    let h = rw c.in-Ok-Some.field-0-is at c.in-Ok-Some.ensures.found.some in
    let at = rw c.in-Ok-Some.field-0-is at c.in-Ok-Some.ensures.found.place in
    let small = rw c.in-Ok-Some.field-0-is at c.in-Ok-Some.ensures.found.small in
    let before = c.frames.so_far.summary.count in
    let count : c.saturating_sub-left.result ≡ c.frames.left - count_found c.args.spots.now c.frames.log.end before c.in-Ok-Some.found.entry =
    search rules ∙ ap (λ (n : ℕ). c.frames.left - n) (c.in-Ok.ensures.named ∙ ap (λ (q : ℕ). count_found c.args.spots.now q before c.in-Ok-Some.found.entry) at.0) in
    record {
      counted = λ v told. left_on c.args.spots.now c.frames.log.end c.frames.left c.next_entry.new.log.end c.saturating_sub-left.result c.frames.so_far c.count_passed.new.so_far (v c.frames.log.file) (v c.args.log.now.file) c.in-Ok-Some.found.entry (ap v inv.file) (inv.counted v told) small
          (h v (inv.leaves.now_stays ∙ told)) c.in-Ok.ensures.passed count;
      few = c.count_passed.ensures.few;
      small = small;
      file = c.next_entry.ensures.found.same.0 ∙ inv.file;
      leaves = leaves_all-then g.H.Host.now g.H.Host.may g.H.Host.clock g.H.Host.since g.H.Host.said _ _ _ inv.leaves c.next_entry.ensures.leaves.leaves;
      disk_faults = omega (arith, inv.disk_faults, c.next_entry.ensures.leaves.disk_faults_rise);
      out_faults = c.next_entry.ensures.leaves.out_faults_stay ∙ inv.out_faults;
    }
