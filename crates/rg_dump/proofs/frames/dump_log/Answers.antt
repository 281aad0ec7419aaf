use Rattle.std.proofs.Common.{◌≡◌, ◌∙◌, [], Err, ap, subst, arith}
use Rattle.rg_host.specs.Lines.{ended}
use Rattle.rg_host.specs.Puts.{Puts}
use Rattle.rg_host.proofs.Laws.{puts-then}
use Rattle.rg_dump.specs.declared.fault.DumpFault.{DumpFault}
use Rattle.rg_dump.specs.declared.fault.DumpFault.TheVariants.{Write}
use Rattle.rg_dump.specs.declared.survey.Survey.{Survey}
use Rattle.rg_dump.specs.Dump.{head_lines, head_of, rows_of, dump_text}
use Rattle.rg_dump.specs.Dumped.{IsCutIn}
use Rattle.rg_dump.proofs.Dumping.{both_put, stopped_behind, stopped_before, stopped_none, put_damaged, put_disk, unsurveyed_damaged, unsurveyed_write, unsurveyed_disk}
use Rattle.rg_dump.proofs.Quiet.{puts_nothing}
use Rattle.rg_dump.proofs.frames.dump_log.Goals as goal

pub returns-in-Err-clause-refused : goal.returns-in-Err-clause-refused
returns-in-Err-clause-refused g c =
    let none = puts_nothing g.H.Host.now g.H.Host.may g.H.Host.clock g.H.Host.since g.H.Host.said _ _ c.read_log.ensures.leaves.leaves in
    let why = c.in-Err.ensures.faults in
    record {
      stops = λ v told. stopped_none (dump_text (v 2)) (Puts g.H.Host.said g.H.Host.clock g.H.Host.since c.args.host.now c.read_log.new.host) (c.in-Err.fault ≡ Write) none;
      damaged = λ p is. absurd (unsurveyed_damaged _ c.in-Err.fault p why is);
      write = λ is. absurd (unsurveyed_write _ c.in-Err.fault why is);
      disk = λ is. unsurveyed_disk _ c.in-Err.fault why is;
    }

pub returns-in-Err-put_head-clause-refused : goal.returns-in-Err-put_head-clause-refused
returns-in-Err-put_head-clause-refused g c =
    let fault = c.in-Err-put_head.fault in
    let why = c.in-Err-put_head.ensures.faults in
    record {
      stops = λ v told.
          stopped_before (head_of (v 2)) (rows_of (v 2)) (Puts g.H.Host.said g.H.Host.clock g.H.Host.since c.args.host.now c.read_log.new.host) (Puts g.H.Host.said g.H.Host.clock g.H.Host.since c.read_log.new.host c.put_head.new.host) (Puts g.H.Host.said g.H.Host.clock g.H.Host.since c.args.host.now c.put_head.new.host) (λ x y. puts-then g.H.Host.said g.H.Host.clock g.H.Host.since _ _ _ x y) (fault ≡ Write)
          (puts_nothing g.H.Host.now g.H.Host.may g.H.Host.clock g.H.Host.since g.H.Host.said _ _ c.read_log.ensures.leaves.leaves)
          (subst (λ (s : Survey). IsCutIn (ended (head_lines s.schema)) (Puts g.H.Host.said g.H.Host.clock g.H.Host.since c.read_log.new.host c.put_head.new.host) (fault ≡ Write)) (c.in-Ok.ensures.says v told) c.in-Err-put_head.ensures.part);
      damaged = λ p is. absurd (put_damaged fault p why is);
      write = λ is. omega (arith, c.in-Err-put_head.ensures.write (ap (λ (f : DumpFault). Err f) is), c.read_log.ensures.leaves.out_faults);
      disk = λ is. absurd (put_disk fault why is);
    }

pub returns-in-Ok-dump_rows-clause-all : goal.returns-in-Ok-dump_rows-clause-all
returns-in-Ok-dump_rows-clause-all g c =
    let stays = c.put_head.ensures.leaves.leaves.now_stays ∙ c.read_log.ensures.leaves.leaves.now_stays in
    let rows = c.in-Ok-dump_rows.ensures.all in
    let head = puts-then g.H.Host.said g.H.Host.clock g.H.Host.since _ _ _ [] _ (puts_nothing g.H.Host.now g.H.Host.may g.H.Host.clock g.H.Host.since g.H.Host.said _ _ c.read_log.ensures.leaves.leaves) c.in-Ok-put_head.ensures.all in
    record {
      lines = λ v told.
          both_put (head_of (v 2)) (rows_of (v 2)) (Puts g.H.Host.said g.H.Host.clock g.H.Host.since c.args.host.now c.put_head.new.host) (Puts g.H.Host.said g.H.Host.clock g.H.Host.since c.put_head.new.host c.dump_rows.new.host) (Puts g.H.Host.said g.H.Host.clock g.H.Host.since c.args.host.now c.dump_rows.new.host) (λ x y. puts-then g.H.Host.said g.H.Host.clock g.H.Host.since _ _ _ x y)
          (subst (λ (s : Survey). Puts g.H.Host.said g.H.Host.clock g.H.Host.since c.args.host.now c.put_head.new.host (ended (head_lines s.schema))) (c.in-Ok.ensures.says v told) head)
          (rows.lines v (stays ∙ told));
      undamaged = λ v told. rows.undamaged v (stays ∙ told);
    }

pub returns-clause-refused : goal.returns-clause-refused
returns-clause-refused g c =
    let stays = c.put_head.ensures.leaves.leaves.now_stays ∙ c.read_log.ensures.leaves.leaves.now_stays in
    let rows = c.in-Err-dump_rows.ensures.refused in
    let head = puts-then g.H.Host.said g.H.Host.clock g.H.Host.since _ _ _ [] _ (puts_nothing g.H.Host.now g.H.Host.may g.H.Host.clock g.H.Host.since g.H.Host.said _ _ c.read_log.ensures.leaves.leaves) c.in-Ok-put_head.ensures.all in
    record {
      stops = λ v told.
          stopped_behind (head_of (v 2)) (rows_of (v 2)) (Puts g.H.Host.said g.H.Host.clock g.H.Host.since c.args.host.now c.put_head.new.host) (Puts g.H.Host.said g.H.Host.clock g.H.Host.since c.put_head.new.host c.dump_rows.new.host) (Puts g.H.Host.said g.H.Host.clock g.H.Host.since c.args.host.now c.dump_rows.new.host) (λ x y. puts-then g.H.Host.said g.H.Host.clock g.H.Host.since _ _ _ x y) (c.in-Err-dump_rows.fault ≡ Write)
          (subst (λ (s : Survey). Puts g.H.Host.said g.H.Host.clock g.H.Host.since c.args.host.now c.put_head.new.host (ended (head_lines s.schema))) (c.in-Ok.ensures.says v told) head)
          (rows.stops v (stays ∙ told));
      damaged = λ p is v told.
          let d = rows.damaged p is v (stays ∙ told) in (
            d.0,
            both_put (head_of (v 2)) (rows_of (v 2)) (Puts g.H.Host.said g.H.Host.clock g.H.Host.since c.args.host.now c.put_head.new.host) (Puts g.H.Host.said g.H.Host.clock g.H.Host.since c.put_head.new.host c.dump_rows.new.host) (Puts g.H.Host.said g.H.Host.clock g.H.Host.since c.args.host.now c.dump_rows.new.host) (λ x y. puts-then g.H.Host.said g.H.Host.clock g.H.Host.since _ _ _ x y)
                (subst (λ (s : Survey). Puts g.H.Host.said g.H.Host.clock g.H.Host.since c.args.host.now c.put_head.new.host (ended (head_lines s.schema))) (c.in-Ok.ensures.says v told) head)
                d.1,
          );
      write = λ is. omega (arith, rows.write is, c.read_log.ensures.leaves.out_faults, c.put_head.ensures.leaves.out_faults);
      disk = λ is. omega (arith, rows.disk is, c.read_log.ensures.leaves.disk_faults, c.put_head.ensures.leaves.disk_faults);
    }
