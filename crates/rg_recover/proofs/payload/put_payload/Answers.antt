use Rattle.std.proofs.Common.{ap}
use Rattle.std.specs.Prelude.{is_some}
use Rattle.rg_recover.proofs.payload.put_payload.Goals as goal

pub returns-in-Ok-clause-writes : goal.returns-in-Ok-clause-writes
returns-in-Ok-clause-writes g c =
    let leaves = rw c.deref.ensures.value at c.save.ensures.leaves in
    rw c.in-Base.is (record {
      writes = leaves;
      others = c.save.ensures.others;
      others_pending = c.save.ensures.others_pending;
      disk_faults = c.save.ensures.disk_faults;
      out_faults = c.save.ensures.out_faults;
    })

pub returns-in-Ok-clause-written : goal.returns-in-Ok-clause-written
returns-in-Ok-clause-written g c =
    let after = rw c.deref.ensures.value at c.in-Ok.ensures.written in
    let frames = rw c.deref.ensures.value at c.in-Ok.ensures.only in
    rw c.in-Base.is (record { after = after; frames = frames; pending = c.in-Ok.ensures.pending })

pub returns-in-Err-clause-writes : goal.returns-in-Err-clause-writes
returns-in-Err-clause-writes g c =
    let leaves = rw c.deref.ensures.value at c.save.ensures.leaves in
    rw c.in-Base.is (record {
      writes = leaves;
      others = c.save.ensures.others;
      others_pending = c.save.ensures.others_pending;
      disk_faults = c.save.ensures.disk_faults;
      out_faults = c.save.ensures.out_faults;
    })

pub extend-requires-clause-complete : goal.extend-requires-clause-complete
extend-requires-clause-complete g c = let kept = rw c.in-Changes.is at c.requires.ready.kept in ap is_some kept.1.1

pub returns-in-Ok-extend-clause-writes : goal.returns-in-Ok-extend-clause-writes
returns-in-Ok-extend-clause-writes g c =
    let leaves = rw c.deref-in-Changes.ensures.value at c.extend.ensures.leaves in
    rw c.in-Changes.is (record {
      writes = leaves;
      others = c.extend.ensures.others;
      others_pending = c.extend.ensures.others_pending;
      disk_faults = c.extend.ensures.disk_faults;
      out_faults = c.extend.ensures.out_faults;
    })

pub returns-in-Ok-extend-clause-written : goal.returns-in-Ok-extend-clause-written
returns-in-Ok-extend-clause-written g c =
    let after = rw c.deref-in-Changes.ensures.value at c.in-Ok-extend.ensures.written in
    let frames = rw c.deref-in-Changes.ensures.value at c.in-Ok-extend.ensures.grown in
    rw c.in-Changes.is (record { after = after; frames = frames; pending = c.in-Ok-extend.ensures.pending })

pub returns-in-Err-extend-clause-writes : goal.returns-in-Err-extend-clause-writes
returns-in-Err-extend-clause-writes g c =
    let leaves = rw c.deref-in-Changes.ensures.value at c.extend.ensures.leaves in
    rw c.in-Changes.is (record {
      writes = leaves;
      others = c.extend.ensures.others;
      others_pending = c.extend.ensures.others_pending;
      disk_faults = c.extend.ensures.disk_faults;
      out_faults = c.extend.ensures.out_faults;
    })
