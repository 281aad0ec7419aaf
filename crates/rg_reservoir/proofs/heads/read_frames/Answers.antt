use Rattle.std.proofs.Common.{rules, ◌≡◌, ◌∙◌, ap, sym, subst, ℕ, ◌+◌, List, [], length, Err, Some, arith}
use Rattle.rg_frame.specs.Frames.{Begins, IsLog, HasPayloads}
use Rattle.rg_frame.specs.LogState.{LogState}
use Rattle.rg_frame.specs.Looks.{IsTorn}
use Rattle.rg_log.specs.declared.entry.LogSoFar.{LogSoFar}
use Rattle.rg_log.specs.Entries.{unread}
use Rattle.rg_reservoir.specs.Heads.{Passed, IsBadFrame, EntryAt, Gathered, GrowsWith}
use Rattle.rg_reservoir.specs.Views.{passed}
use Rattle.rg_reservoir.specs.declared.fault.ReservoirFault.{ReservoirFault}
use Rattle.rg_reservoir.specs.declared.fault.ReservoirFault.TheVariants.{Disk, Damaged}
use Rattle.rg_reservoir.specs.declared.growing.Growing.{Growing}
use Rattle.rg_reservoir.proofs.Causes.{stopped_at, stop_found, stop_refused, refused_at, refused_so}
use Rattle.rg_reservoir.proofs.Gathering.{gathered_start, gathered_more, read_log}
use Rattle.rg_reservoir.proofs.Heading.{begins_none, passed_start, torn_frame, bad_on}
use Rattle.rg_reservoir.proofs.heads.read_frames.Goals as goal

pub returns-in-Ok-None-clause-read : goal.returns-in-Ok-None-clause-read
returns-in-Ok-None-clause-read g c =
    let h = rw c.in-Ok-None.field-0-is at c.in-Ok-None.ensures.found.none in
    record {
      read = search rules;
      few = search rules;
      none = (h.0, λ v told. subst (λ (e : ℕ). IsLog [] e (v c.args.log.now.file)) c.requires.start (h.1 v told [] (subst (λ (e : ℕ). Begins [] e (v c.args.log.now.file)) (sym c.requires.start) (begins_none (v c.args.log.now.file)))));
      same = c.next_entry.ensures.found.same;
      ready = ap (λ (l : LogState). l.ready) h.0;
      reaches = c.next_entry.ensures.found.reaches;
    }

pub returns-in-Err-clause-stops : goal.returns-in-Err-clause-stops
returns-in-Err-clause-stops g c =
    let stops = c.in-Err.ensures.stops in
    record {
      damaged = λ p e v told.
          let same : c.in-Err.fault ≡ Damaged p = cc in
          let at : p ≡ 0 = stopped_at c.in-Err.fault p c.args.log.now.end same stops.faults ∙ c.requires.start in
          let torn = stops.damaged p (ap (λ (f : ReservoirFault). Err f) same) v told in
          subst (λ (q : ℕ). IsBadFrame q (v c.args.log.now.file)) (sym at) (torn_frame (v c.args.log.now.file) 0 unread (passed_start (v c.args.log.now.file)) (subst (λ (q : ℕ). IsTorn q (v c.args.log.now.file)) at torn));
      faults = stop_found c.in-Err.fault c.args.log.now.end stops.faults;
      disk = λ e. stops.disk (let same : c.in-Err.fault ≡ Disk = cc in ap (λ (f : ReservoirFault). Err f) same);
    }

pub returns-in-Err-take_found-clause-stops : goal.returns-in-Err-take_found-clause-stops
returns-in-Err-take_found-clause-stops g c =
    let faults = c.in-Err-take_found.ensures.faults in
    let no = refused_so c.in-Err-take_found.fault c.in-Ok-Some.found.place _ faults in
    record {
      damaged = λ p e v told.
          let same : c.in-Err-take_found.fault ≡ Damaged p = cc in
          let h = rw c.in-Ok-Some.field-0-is at c.in-Ok-Some.ensures.found.some in
          let at = rw c.in-Ok-Some.field-0-is at c.in-Ok-Some.ensures.found.place in
          let w = refused_at c.in-Err-take_found.fault c.in-Ok-Some.found.place p _ same faults in
          let none : Passed (v c.args.log.now.file) c.args.log.now.end c.new-so_far.result =
          subst (λ (s : LogSoFar). Passed (v c.args.log.now.file) c.args.log.now.end s) (sym c.new-so_far.ensures) (subst (λ (n : ℕ). Passed (v c.args.log.now.file) n unread) (sym c.requires.start) (passed_start (v c.args.log.now.file))) in
          subst (λ (q : ℕ). IsBadFrame q (v c.args.log.now.file)) (sym at.0 ∙ w.0)
          (bad_on (v c.args.log.now.file) (v c.args.log.now.file) c.args.log.now.end c.next_entry.new.log.end c.new-so_far.result c.in-Ok-Some.found.entry (search rules) none (h v told) w.1);
      faults = stop_refused c.in-Err-take_found.fault c.in-Ok-Some.found.place _ faults;
      disk = λ e. absurd (no.3 (let is : c.in-Err-take_found.fault ≡ Disk = cc in is));
    }

pub read_on-requires-clause-begun : goal.read_on-requires-clause-begun
read_on-requires-clause-begun g c = λ v told.
    let was : g.H.Host.now c.args.host.now ≡ Some v = sym c.next_entry.ensures.leaves.leaves.now_stays ∙ told in
    let h = rw c.in-Ok-Some.field-0-is at c.in-Ok-Some.ensures.found.some in
    let at = rw c.in-Ok-Some.field-0-is at c.in-Ok-Some.ensures.found.place in
    let small = rw c.in-Ok-Some.field-0-is at c.in-Ok-Some.ensures.found.small in
    let bytes = v c.args.log.now.file in
    let none : Gathered bytes c.args.log.now.end c.new-so_far.result c.new-growths.result =
    subst (λ (l : List Growing). Gathered bytes c.args.log.now.end c.new-so_far.result l) (sym c.new-growths.ensures)
    (subst (λ (s : LogSoFar). Gathered bytes c.args.log.now.end s []) (sym c.new-so_far.ensures) (subst (λ (n : ℕ). Gathered bytes n unread []) (sym c.requires.start) (gathered_start bytes))) in
    let entry = h v was none.passed.payloads none.passed.begins in
    let grows = subst (λ (n : ℕ). GrowsWith n c.next_entry.new.log.end c.new-so_far.result.schema c.in-Ok-Some.found.entry c.new-growths.result c.take_found.new.growths) at.0
    (subst (λ (n : ℕ). GrowsWith c.in-Ok-Some.found.place n c.new-so_far.result.schema c.in-Ok-Some.found.entry c.new-growths.result c.take_found.new.growths) at.1 c.in-Ok.ensures.passed.1) in
    subst (λ (f : ℕ). Gathered (v f) c.next_entry.new.log.end c.take_found.new.so_far c.take_found.new.growths) (sym c.next_entry.ensures.found.same.0)
    (gathered_more bytes c.args.log.now.end c.next_entry.new.log.end c.new-so_far.result c.take_found.new.so_far c.in-Ok-Some.found.entry c.new-growths.result c.take_found.new.growths none small entry c.in-Ok.ensures.passed.0 grows)

pub returns-clause-read : goal.returns-clause-read
returns-clause-read g c =
    let next = c.next_entry.ensures.found in
    let read = c.in-Ok-read_on.ensures.read in
    record {
      read = λ v told.
          let h = rw c.in-Ok-Some.field-0-is at c.in-Ok-Some.ensures.found.some in
          let at = rw c.in-Ok-Some.field-0-is at c.in-Ok-Some.ensures.found.place in
          let small = rw c.in-Ok-Some.field-0-is at c.in-Ok-Some.ensures.found.small in
          let bytes = v c.args.log.now.file in
          let entry : EntryAt bytes [] c.new-so_far.result.schema c.args.log.now.end c.next_entry.new.log.end c.in-Ok-Some.found.entry = h v told [] (subst (λ (e : ℕ). Begins [] e bytes) (sym c.requires.start) (begins_none bytes)) in
          let all = subst (λ (f : ℕ). (x : Gathered (v f) c.read_on.new.log.end c.read_on.new.so_far c.read_on.new.growths) × IsLog x.passed.payloads c.read_on.new.log.end (v f) × HasPayloads x.passed.payloads (v f)) next.same.0 (read.read v (c.next_entry.ensures.leaves.leaves.now_stays ∙ told)) in
          let place : c.in-Ok-Some.found.next ≡ 9 + length entry.payload = omega (arith, at.1, entry.next_is, c.requires.start) in
          read_log bytes c.read_on.new.log.end c.next_entry.new.log.end c.passed-first.result c.read_on.new.so_far c.read_on.new.growths entry.payload all.0 all.1 all.2 entry.begins (omega (arith, entry.next_is, small))
          (c.passed-first.ensures ∙ ap (λ (n : ℕ). passed c.read_on.new.growths n) place);
      few = read.few;
      none = search rules;
      same = (read.same.0 ∙ next.same.0, read.same.1 ∙ next.same.1);
      ready = read.ready;
      reaches = λ reaches. read.reaches (next.reaches reaches);
    }
