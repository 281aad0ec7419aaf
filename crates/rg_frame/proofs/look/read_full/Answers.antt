use Rattle.std.proofs.Common.{◌∙◌, ◌+◌, refl, arith, rules, length-drop}
use Rattle.rg_frame.proofs.Looked.{read-more}
use Rattle.rg_frame.proofs.Runs.{reads_only-none, reads_only-then}
use Rattle.rg_frame.proofs.look.read_full.Goals as goal

pub loop-done-init : goal.loop-done-init
loop-done-init g c = record {
  size = refl;
  count = omega arith;
  bytes = λ w told. refl;
  within = λ w told. omega arith;
  stays = reads_only-none g.H.Host.now g.H.Host.may g.H.Host.clock g.H.Host.since g.H.Host.said g.H.Host.disk_faults g.H.Host.out_faults g.H.Host.reads _ (λ t u m. g.met.H.Host.sinks _ t u m) (λ m. g.met.H.Host.only_now _ m);
  rose = λ some. absurd (omega (arith, some));
}

pub loop-done-preserved : goal.loop-done-preserved
loop-done-preserved g c =
    let inv = c.loop-done.invariant in
    let read = c.read_at.ensures in
    record {
      size = search rules;
      count = search rules;
      bytes = λ w told. read-more c.loop-done.done c.in_ok-n.n _ c.args.at c.loop-done.buf c.read_at.new.buf (w c.args.file) inv.count (omega (arith, c.in_ok-n.ensures.count, c.in_ok-n.ensures.size)) (inv.bytes w told) (c.in_ok-n.ensures.bytes w (inv.stays.leaves.now_stays ∙ told));
      within = λ w told. omega (arith, inv.within w told, c.in_ok-n.ensures.within w (inv.stays.leaves.now_stays ∙ told), length-drop c.args.at (w c.args.file), length-drop (c.args.at + c.loop-done.done) (w c.args.file));
      stays = reads_only-then g.H.Host.now g.H.Host.may g.H.Host.clock g.H.Host.since g.H.Host.said g.H.Host.disk_faults g.H.Host.out_faults g.H.Host.reads _ _ _ inv.stays (record { leaves = read.leaves; disk_faults = read.disk_faults; out_faults = read.out_faults; reads = read.reads_kept });
      rose = λ some. omega (arith, inv.stays.reads, c.in_ok-n.ensures.reads);
    }

pub returns-in_err-n-clause-stays : goal.returns-in_err-n-clause-stays
returns-in_err-n-clause-stays g c =
    let read = c.read_at.ensures in
    reads_only-then g.H.Host.now g.H.Host.may g.H.Host.clock g.H.Host.since g.H.Host.said g.H.Host.disk_faults g.H.Host.out_faults g.H.Host.reads _ _ _ c.loop-done.invariant.stays (record { leaves = read.leaves; disk_faults = read.disk_faults; out_faults = read.out_faults; reads = read.reads_kept })

pub returns-then-n-eq0-clause-stays : goal.returns-then-n-eq0-clause-stays
returns-then-n-eq0-clause-stays g c =
    let read = c.read_at.ensures in
    reads_only-then g.H.Host.now g.H.Host.may g.H.Host.clock g.H.Host.since g.H.Host.said g.H.Host.disk_faults g.H.Host.out_faults g.H.Host.reads _ _ _ c.loop-done.invariant.stays (record { leaves = read.leaves; disk_faults = read.disk_faults; out_faults = read.out_faults; reads = read.reads_kept })
