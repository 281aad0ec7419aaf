use Rattle.std.proofs.Common.{rules, ◌≡◌, ◌∙◌, ◌+◌, ap, sym, subst, ℕ, List, Err, Option, Some, length, IfOk, OnOk}
use Rattle.std.specs.Prelude.{count_by}
use Rattle.rg_frame.specs.Frames.{HasPayloads}
use Rattle.rg_frame.specs.LogState.{LogState}
use Rattle.rg_frame.specs.Looks.{IsTorn}
use Rattle.rg_host.specs.Image.{Image}
use Rattle.rg_log.specs.declared.entry.LogSoFar.{LogSoFar}
use Rattle.rg_log.specs.Entries.{unread}
use Rattle.rg_log.specs.Spots.{named_by_heads}
use Rattle.rg_reservoir.specs.Heads.{Passed, IsBadFrame}
use Rattle.rg_reservoir.specs.Naming.{Left}
use Rattle.rg_reservoir.specs.declared.fault.ReservoirFault.{ReservoirFault}
use Rattle.rg_reservoir.specs.declared.fault.ReservoirFault.TheVariants.{Disk, Damaged}
use Rattle.rg_reservoir.proofs.Causes.{stopped_at, stop_found, stop_refused, refused_at, refused_so}
use Rattle.rg_reservoir.proofs.Heading.{passed_start, torn_frame, bad_on}
use Rattle.rg_reservoir.proofs.Naming.{left_start, left_all, none_listed}
use Rattle.rg_reservoir.proofs.names.count_unnamed.Goals as goal

pub returns-in-Ok-None-clause-counts : goal.returns-in-Ok-None-clause-counts
returns-in-Ok-None-clause-counts g c =
    let h = rw c.in-Ok-None.field-0-is at c.in-Ok-None.ensures.found.none in
    let file : c.new-log.result.file ≡ 2 = ap (λ (l : LogState). l.file) c.new-log.ensures.fresh in
    let start : c.new-log.result.end ≡ 0 = ap (λ (l : LogState). l.end) c.new-log.ensures.fresh in
    record {
      counted = λ v told payloads has. left_all c.args.spots.now c.new-log.result.end (v c.new-log.result.file) start (h.1 v told) payloads (subst (λ (f : ℕ). HasPayloads payloads (v f)) (sym file) has);
      lists = λ v told. subst (λ (f : ℕ). (payloads : List (List ℕ)) × HasPayloads payloads (v f)) file (none_listed c.new-log.result.end (v c.new-log.result.file) start (h.1 v told));
    }

pub returns-in-Err-clause-stops : goal.returns-in-Err-clause-stops
returns-in-Err-clause-stops g c =
    let stops = c.in-Err.ensures.stops in
    record {
      damaged = λ p e v told.
          let same : c.in-Err.fault ≡ Damaged p = cc in
          let file : c.new-log.result.file ≡ 2 = ap (λ (l : LogState). l.file) c.new-log.ensures.fresh in
          let start : c.new-log.result.end ≡ 0 = ap (λ (l : LogState). l.end) c.new-log.ensures.fresh in
          let at : p ≡ 0 = stopped_at c.in-Err.fault p c.new-log.result.end same stops.faults ∙ start in
          let torn : IsTorn 0 (v 2) = subst (λ (f : ℕ). IsTorn 0 (v f)) file (subst (λ (q : ℕ). IsTorn q (v c.new-log.result.file)) at (stops.damaged p (ap (λ (f : ReservoirFault). Err f) same) v told)) in
          subst (λ (q : ℕ). IsBadFrame q (v 2)) (sym at) (torn_frame (v 2) 0 unread (passed_start (v 2)) torn);
      faults = stop_found c.in-Err.fault c.new-log.result.end stops.faults;
      disk = λ e. stops.disk (let same : c.in-Err.fault ≡ Disk = cc in ap (λ (f : ReservoirFault). Err f) same);
    }

pub returns-in-Err-pass_found-clause-stops : goal.returns-in-Err-pass_found-clause-stops
returns-in-Err-pass_found-clause-stops g c =
    let faults = c.in-Err-pass_found.ensures.faults in
    let no = refused_so c.in-Err-pass_found.fault c.in-Ok-Some.found.place _ faults in
    record {
      damaged = λ p e v told.
          let same : c.in-Err-pass_found.fault ≡ Damaged p = cc in
          let file : c.new-log.result.file ≡ 2 = ap (λ (l : LogState). l.file) c.new-log.ensures.fresh in
          let start : c.new-log.result.end ≡ 0 = ap (λ (l : LogState). l.end) c.new-log.ensures.fresh in
          let h = rw c.in-Ok-Some.field-0-is at c.in-Ok-Some.ensures.found.some in
          let at = rw c.in-Ok-Some.field-0-is at c.in-Ok-Some.ensures.found.place in
          let w = refused_at c.in-Err-pass_found.fault c.in-Ok-Some.found.place p _ same faults in
          let none : Passed (v 2) c.new-log.result.end c.new-so_far.result =
          subst (λ (s : LogSoFar). Passed (v 2) c.new-log.result.end s) (sym c.new-so_far.ensures) (subst (λ (n : ℕ). Passed (v 2) n unread) (sym start) (passed_start (v 2))) in
          subst (λ (q : ℕ). IsBadFrame q (v 2)) (sym at.0 ∙ w.0)
          (bad_on (v c.new-log.result.file) (v 2) c.new-log.result.end c.next_entry.new.log.end c.new-so_far.result c.in-Ok-Some.found.entry (ap v file) none (h v told) w.1);
      faults = stop_refused c.in-Err-pass_found.fault c.in-Ok-Some.found.place _ faults;
      disk = λ e. absurd (no.3 (let is : c.in-Err-pass_found.fault ≡ Disk = cc in is));
    }

pub count_behind-requires-clause-begun : goal.count_behind-requires-clause-begun
count_behind-requires-clause-begun g c = λ v told.
    let h = rw c.in-Ok-Some.field-0-is at c.in-Ok-Some.ensures.found.some in
    let small = rw c.in-Ok-Some.field-0-is at c.in-Ok-Some.ensures.found.small in
    let start : c.new-log.result.end ≡ 0 = ap (λ (l : LogState). l.end) c.new-log.ensures.fresh in
    subst (λ (f : ℕ). Left c.args.spots.now c.next_entry.new.log.end (length c.args.spots.now) c.pass_found.new.so_far (v f)) (sym c.next_entry.ensures.found.same.0)
    (left_start c.args.spots.now c.new-log.result.end c.next_entry.new.log.end c.new-so_far.result c.pass_found.new.so_far (v c.new-log.result.file) c.in-Ok-Some.found.entry start c.new-so_far.ensures small (h v (sym c.next_entry.ensures.leaves.leaves.now_stays ∙ told)) c.in-Ok.ensures.passed)

pub returns-clause-counts : goal.returns-clause-counts
returns-clause-counts g c =
    let file : c.next_entry.new.log.file ≡ 2 = c.next_entry.ensures.found.same.0 ∙ ap (λ (l : LogState). l.file) c.new-log.ensures.fresh in
    record {
      counted =
          subst (λ (f : ℕ). IfOk c.count_behind.result (λ left. (v : Image) → g.H.Host.now c.args.host.now ≡ Some v → (payloads : List (List ℕ)) → HasPayloads payloads (v f) → left + count_by (named_by_heads payloads) c.args.spots.now ≡ length c.args.spots.now)) file
          (subst (λ (o : Option Image). IfOk c.count_behind.result (λ left. (v : Image) → o ≡ Some v → (payloads : List (List ℕ)) → HasPayloads payloads (v c.next_entry.new.log.file) → left + count_by (named_by_heads payloads) c.args.spots.now ≡ length c.args.spots.now)) c.next_entry.ensures.leaves.leaves.now_stays c.count_behind.ensures.counts.counted);
      lists =
          subst (λ (f : ℕ). OnOk c.count_behind.result ((v : Image) → g.H.Host.now c.args.host.now ≡ Some v → (payloads : List (List ℕ)) × HasPayloads payloads (v f))) file
          (subst (λ (o : Option Image). OnOk c.count_behind.result ((v : Image) → o ≡ Some v → (payloads : List (List ℕ)) × HasPayloads payloads (v c.next_entry.new.log.file))) c.next_entry.ensures.leaves.leaves.now_stays c.count_behind.ensures.counts.lists);
    }

pub returns-clause-stops : goal.returns-clause-stops
returns-clause-stops g c = record {
  damaged = λ p e v told.
      let file : c.next_entry.new.log.file ≡ 2 = c.next_entry.ensures.found.same.0 ∙ ap (λ (l : LogState). l.file) c.new-log.ensures.fresh in
      subst (λ (f : ℕ). IsBadFrame p (v f)) file (c.count_behind.ensures.stops.damaged p e v (c.next_entry.ensures.leaves.leaves.now_stays ∙ told));
  faults = c.count_behind.ensures.stops.faults;
  disk = search rules;
}
