use Rattle.std.proofs.Common.{rules, ◌≡◌, ◌∙◌, inl, inr, ⊎_elim, [], true, false, List, ℕ, Err, sym, ap, subst}
use Rattle.rg_host.specs.Puts.{Puts}
use Rattle.rg_host.proofs.Laws.{puts-then}
use Rattle.rg_reservoir.specs.declared.fault.ReservoirFault.{ReservoirFault}
use Rattle.rg_dump.specs.declared.fault.DumpFault.{DumpFault}
use Rattle.rg_dump.proofs.Dumping.{walk_damaged, walk_disk, walk_write, put_damaged, put_disk}
use Rattle.rg_dump.proofs.Quiet.{puts_nothing}
use Rattle.rg_dump.proofs.frames.dump_next.Goals as goal

pub returns-in-Ok-None-clause-dumped : goal.returns-in-Ok-None-clause-dumped
returns-in-Ok-None-clause-dumped g c =
    let none = rw c.in-Ok-None.field-0-is at c.in-Ok-None.ensures.none in
    record {
      next = λ is. absurd cc;
      goes_on = λ is. absurd cc;
      last = λ _. (none.1, puts_nothing g.H.Host.now g.H.Host.may g.H.Host.clock g.H.Host.since g.H.Host.said _ _ c.next.ensures.leaves);
    }

pub walk_fault-requires : goal.walk_fault-requires
walk_fault-requires g c =
    let never = c.in-Err.ensures.neither in
    record {
      differs = λ is. never.0 (ap (λ (f : ReservoirFault). Err f) is);
      full = λ is. never.1 (ap (λ (f : ReservoirFault). Err f) is);
      ended = λ is. never.2 (ap (λ (f : ReservoirFault). Err f) is);
    }

pub returns-in-Err-clause-refused : goal.returns-in-Err-clause-refused
returns-in-Err-clause-refused g c =
    let never = c.in-Err.ensures.neither in
    let from = sym c.walk_fault.ensures in
    record {
      cut = λ is. absurd (walk_write c.in-Err.fault (from ∙ is));
      quiet = inr (puts_nothing g.H.Host.now g.H.Host.may g.H.Host.clock g.H.Host.since g.H.Host.said _ _ c.next.ensures.leaves);
      damaged = λ p is. c.in-Err.ensures.damaged p (ap (λ (f : ReservoirFault). Err f) (walk_damaged c.in-Err.fault p (from ∙ is)));
      write = λ is. absurd (walk_write c.in-Err.fault (from ∙ is));
      disk = λ is. c.in-Err.ensures.disk (ap (λ (f : ReservoirFault). Err f) (walk_disk c.in-Err.fault (λ e. never.0 (ap (λ (f : ReservoirFault). Err f) e)) (λ e. never.1 (ap (λ (f : ReservoirFault). Err f) e)) (λ e. never.2 (ap (λ (f : ReservoirFault). Err f) e)) (from ∙ is)));
    }

pub returns-in-Ok-clause-dumped : goal.returns-in-Ok-clause-dumped
returns-in-Ok-clause-dumped g c =
    let some = rw c.in-Ok-Some.field-0-is at c.in-Ok-Some.ensures.some in
    let goes = rw c.in-Ok-Some.field-0-is at c.in-Ok-Some.ensures.goes_on in
    record {
      next = λ _. (
        c.in-Ok-Some.stage,
        some,
        record {
          rows = puts-then g.H.Host.said g.H.Host.clock g.H.Host.since _ _ _ [] _ (puts_nothing g.H.Host.now g.H.Host.may g.H.Host.clock g.H.Host.since g.H.Host.said _ _ c.next.ensures.leaves) c.in-Ok.ensures.all.rows;
          left_is = c.in-Ok.ensures.all.left_is;
        },
      );
      goes_on = λ _. goes;
      last = λ is. absurd (let e : true ≡ false = is in cc);
    }

pub returns-in-Err-put_stage-clause-refused : goal.returns-in-Err-put_stage-clause-refused
returns-in-Err-put_stage-clause-refused g c =
    let some = rw c.in-Ok-Some.field-0-is at c.in-Ok-Some.ensures.some in
    let fault = c.in-Err-put_stage.fault in
    let why = c.in-Err-put_stage.ensures.faults in
    let p = c.in-Err-put_stage.ensures.part in
    let put = puts-then g.H.Host.said g.H.Host.clock g.H.Host.since _ _ _ [] p.part (puts_nothing g.H.Host.now g.H.Host.may g.H.Host.clock g.H.Host.since g.H.Host.said _ _ c.next.ensures.leaves) p.puts in
    record {
      cut = λ _. (c.in-Ok-Some.stage, some, record { part = p.part; prefix = p.prefix; puts = put; none = inr tt });
      quiet = ⊎_elim (λ none. inr (subst (λ (l : List ℕ). Puts g.H.Host.said g.H.Host.clock g.H.Host.since c.args.host.now c.put_stage.new.host l) none put)) (λ write. inl write) p.none;
      damaged = λ place is. absurd (put_damaged fault place why is);
      write = λ is. search (rules, c.in-Err-put_stage.ensures.write (ap (λ (f : DumpFault). Err f) is), c.next.ensures.out_faults);
      disk = λ is. absurd (put_disk fault why is);
    }
