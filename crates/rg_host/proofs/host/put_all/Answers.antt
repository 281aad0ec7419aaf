use Rattle.std.proofs.Common.{refl, arith, [], ◌∙◌}
use Rattle.rg_host.proofs.Runs.{leaves_files-none, leaves_files-then}
use Rattle.rg_host.proofs.PutRuns.{puts-nothing, puts-then, put_of-prefix, rest-more}
use Rattle.rg_host.proofs.host.put_all.Goals as goal

pub loop-rest-init : goal.loop-rest-init
loop-rest-init g c = record {
  so_far = ([], refl, puts-nothing g.H.Host.said g.H.Host.clock g.H.Host.since _ (λ t u m. g.met.H.Host.sinks _ t u m) (λ m. g.met.H.Host.only_now _ m));
  leaves = leaves_files-none g.H.Host.now g.H.Host.may g.H.Host.clock g.H.Host.since _ (λ t u m. g.met.H.Host.sinks _ t u m) (λ m now. (g.met.H.Host.only_now _ m now).0);
  disk_faults = refl;
  out_faults = omega arith;
  reads = refl;
}

pub returns-in_err-count-clause-part : goal.returns-in_err-count-clause-part
returns-in_err-count-clause-part g c =
    let so_far = c.loop-rest.invariant.so_far in
    (_, put_of-prefix _ _ so_far.0 _ so_far.1, puts-then g.H.Host.said g.H.Host.clock g.H.Host.since _ _ _ _ _ so_far.2 c.put.ensures.puts)

pub returns-in_err-count-clause-leaves : goal.returns-in_err-count-clause-leaves
returns-in_err-count-clause-leaves g c = leaves_files-then g.H.Host.now g.H.Host.may g.H.Host.clock g.H.Host.since _ _ _ c.loop-rest.invariant.leaves c.put.ensures.leaves

pub loop-rest-preserved : goal.loop-rest-preserved
loop-rest-preserved g c =
    let so_far = c.loop-rest.invariant.so_far in
    let put = c.in_ok-count.ensures in
    record {
      so_far = (_, rest-more so_far.0 _ _ _ so_far.1, puts-then g.H.Host.said g.H.Host.clock g.H.Host.since _ _ _ _ _ so_far.2 put.puts);
      leaves = leaves_files-then g.H.Host.now g.H.Host.may g.H.Host.clock g.H.Host.since _ _ _ c.loop-rest.invariant.leaves put.leaves;
      disk_faults = put.disk_faults ∙ c.loop-rest.invariant.disk_faults;
      out_faults = omega (arith, c.loop-rest.invariant.out_faults, put.out_faults);
      reads = put.reads ∙ c.loop-rest.invariant.reads;
    }
