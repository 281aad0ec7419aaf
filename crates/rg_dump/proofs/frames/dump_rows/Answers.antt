use Rattle.std.proofs.Common.{rules, ◌≡◌, ◌∙◌, ⊎_elim, arith}
use Rattle.rg_host.specs.Puts.{Puts}
use Rattle.rg_host.proofs.Laws.{puts-nothing, puts-then}
use Rattle.rg_dump.specs.declared.fault.DumpFault.TheVariants.{Damaged, Write}
use Rattle.rg_dump.proofs.Dumping.{begin, step, finish, spoil, quiet, cut, quiet_damage}
use Rattle.rg_dump.proofs.Leaves.{put-none, put-then}
use Rattle.rg_dump.proofs.frames.dump_rows.Goals as goal

pub frames-init : goal.frames-init
frames-init g c = record {
  progress = λ v told. begin (v 2) _ _ _ c.new-walk.ensures.place c.new-walk.ensures.schema c.new-walk.ensures.tally (c.requires v told) (puts-nothing g.H.Host.said g.H.Host.clock g.H.Host.since _ (λ t u m. g.met.H.Host.sinks _ t u m) (λ m. g.met.H.Host.only_now _ m));
  leaves = put-none g.H.Host.now g.H.Host.may g.H.Host.clock g.H.Host.since g.H.Host.disk_faults g.H.Host.out_faults _ (λ t u m. g.met.H.Host.sinks _ t u m) (λ m now. (g.met.H.Host.only_now _ m now).0);
}

pub frames-preserved : goal.frames-preserved
frames-preserved g c =
    let m = c.in-Ok-true.ensures.dumped.next c.in-Ok-true.field-0-test in
    record {
      progress = λ v told. step (v 2) (Puts g.H.Host.said g.H.Host.clock g.H.Host.since c.args.host.now c.frames.host) (Puts g.H.Host.said g.H.Host.clock g.H.Host.since c.frames.host c.dump_next.new.host) (Puts g.H.Host.said g.H.Host.clock g.H.Host.since c.args.host.now c.dump_next.new.host) (λ x y. puts-then g.H.Host.said g.H.Host.clock g.H.Host.since _ _ _ x y) m.0 c.frames.walk c.dump_next.new.walk c.frames.behind c.dump_next.new.behind (c.frames.invariant.progress v told) (m.1 v (c.frames.invariant.leaves.leaves.now_stays ∙ told)) m.2;
      leaves = put-then g.H.Host.now g.H.Host.may g.H.Host.clock g.H.Host.since g.H.Host.disk_faults g.H.Host.out_faults _ _ _ c.frames.invariant.leaves c.dump_next.ensures.leaves;
    }

pub returns-in-Ok-false-clause-all : goal.returns-in-Ok-false-clause-all
returns-in-Ok-false-clause-all g c =
    let l = c.in-Ok-false.ensures.dumped.last c.in-Ok-false.field-0-test in
    record {
      lines = λ v told. (finish (v 2) (Puts g.H.Host.said g.H.Host.clock g.H.Host.since c.args.host.now c.frames.host) (Puts g.H.Host.said g.H.Host.clock g.H.Host.since c.frames.host c.dump_next.new.host) (Puts g.H.Host.said g.H.Host.clock g.H.Host.since c.args.host.now c.dump_next.new.host) (λ x y. puts-then g.H.Host.said g.H.Host.clock g.H.Host.since _ _ _ x y) c.frames.walk c.frames.behind (c.frames.invariant.progress v told) (l.0 v (c.frames.invariant.leaves.leaves.now_stays ∙ told)) l.1).0;
      undamaged = λ v told. (finish (v 2) (Puts g.H.Host.said g.H.Host.clock g.H.Host.since c.args.host.now c.frames.host) (Puts g.H.Host.said g.H.Host.clock g.H.Host.since c.frames.host c.dump_next.new.host) (Puts g.H.Host.said g.H.Host.clock g.H.Host.since c.args.host.now c.dump_next.new.host) (λ x y. puts-then g.H.Host.said g.H.Host.clock g.H.Host.since _ _ _ x y) c.frames.walk c.frames.behind (c.frames.invariant.progress v told) (l.0 v (c.frames.invariant.leaves.leaves.now_stays ∙ told)) l.1).1;
    }

pub returns-in-Err-clause-refused : goal.returns-in-Err-clause-refused
returns-in-Err-clause-refused g c =
    let r = c.in-Err.ensures.refused in
    record {
      stops = λ v told.
          ⊎_elim
          (λ write.
          let k = r.cut write in
          cut (v 2) (Puts g.H.Host.said g.H.Host.clock g.H.Host.since c.args.host.now c.frames.host) (Puts g.H.Host.said g.H.Host.clock g.H.Host.since c.frames.host c.dump_next.new.host) (Puts g.H.Host.said g.H.Host.clock g.H.Host.since c.args.host.now c.dump_next.new.host) (λ x y. puts-then g.H.Host.said g.H.Host.clock g.H.Host.since _ _ _ x y) (c.in-Err.fault ≡ Write) k.0 c.frames.walk c.dump_next.new.walk c.frames.behind write (c.frames.invariant.progress v told) (k.1 v (c.frames.invariant.leaves.leaves.now_stays ∙ told)) k.2.part k.2.prefix k.2.puts)
          (λ none. quiet (v 2) (Puts g.H.Host.said g.H.Host.clock g.H.Host.since c.args.host.now c.frames.host) (Puts g.H.Host.said g.H.Host.clock g.H.Host.since c.frames.host c.dump_next.new.host) (Puts g.H.Host.said g.H.Host.clock g.H.Host.since c.args.host.now c.dump_next.new.host) (λ x y. puts-then g.H.Host.said g.H.Host.clock g.H.Host.since _ _ _ x y) (c.in-Err.fault ≡ Write) c.frames.walk c.frames.behind (c.frames.invariant.progress v told) none)
          r.quiet;
      damaged = λ p same v told.
          let d = r.damaged p same in
          spoil (v 2) (Puts g.H.Host.said g.H.Host.clock g.H.Host.since c.args.host.now c.frames.host) (Puts g.H.Host.said g.H.Host.clock g.H.Host.since c.frames.host c.dump_next.new.host) (Puts g.H.Host.said g.H.Host.clock g.H.Host.since c.args.host.now c.dump_next.new.host) (λ x y. puts-then g.H.Host.said g.H.Host.clock g.H.Host.since _ _ _ x y) c.frames.walk c.frames.behind p d.0 (c.frames.invariant.progress v told) (d.1 v (c.frames.invariant.leaves.leaves.now_stays ∙ told)) (quiet_damage c.in-Err.fault p _ same r.quiet);
      write = λ is. omega (arith, r.write is, c.frames.invariant.leaves.out_faults);
      disk = λ is. omega (arith, r.disk is, c.frames.invariant.leaves.disk_faults);
    }

pub returns-in-Ok-false-clause-leaves : goal.returns-in-Ok-false-clause-leaves
returns-in-Ok-false-clause-leaves g c = put-then g.H.Host.now g.H.Host.may g.H.Host.clock g.H.Host.since g.H.Host.disk_faults g.H.Host.out_faults _ _ _ c.frames.invariant.leaves c.dump_next.ensures.leaves

pub returns-in-Err-clause-leaves : goal.returns-in-Err-clause-leaves
returns-in-Err-clause-leaves g c = put-then g.H.Host.now g.H.Host.may g.H.Host.clock g.H.Host.since g.H.Host.disk_faults g.H.Host.out_faults _ _ _ c.frames.invariant.leaves c.dump_next.ensures.leaves
