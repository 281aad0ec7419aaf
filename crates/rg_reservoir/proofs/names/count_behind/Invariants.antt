use Rattle.std.proofs.Common.{◌≡◌, ◌≤◌, ◌-◌, ◌^◌}
use Rattle.std.specs.Option.{ForSome}
use Rattle.rg_host.specs.Moments.{LeavesAll}
use Rattle.rg_reservoir.specs.Naming.{Left}
use Rattle.rg_reservoir.proofs.names.count_behind.Given as goal

abbrev pub invariant-frames : goal.invariant-frames
invariant-frames g l = record {
  counted : ForSome (g.H.Host.now l.fn.host) (λ v. Left l.spots l.log.end l.left l.so_far (v l.fn.log.file));
  few : l.so_far.summary.count ≤ 2 ^ 40;
  small : l.log.end ≤ 2 ^ 62;
  file : l.log.file ≡ l.fn.log.file;
  leaves : LeavesAll g.H.Host.now g.H.Host.may g.H.Host.clock g.H.Host.since g.H.Host.said l.fn.host l.host;
  disk_faults : g.H.Host.disk_faults l.fn.host ≤ g.H.Host.disk_faults l.host;
  out_faults : g.H.Host.out_faults l.host ≡ g.H.Host.out_faults l.fn.host;
}

abbrev pub decreases-frames : goal.decreases-frames
decreases-frames g l = 2 ^ 62 - l.log.end
