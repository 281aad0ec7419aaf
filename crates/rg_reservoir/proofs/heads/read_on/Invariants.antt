use Rattle.std.proofs.Common.{◌≡◌, ◌≤◌, ◌-◌, ◌^◌}
use Rattle.std.specs.Option.{ForSome}
use Rattle.rg_host.specs.Moments.{LeavesAll}
use Rattle.rg_frame.specs.LogState.{ReachesEnd}
use Rattle.rg_reservoir.specs.Heads.{Gathered}
use Rattle.rg_reservoir.proofs.heads.read_on.Given as goal

abbrev pub invariant-frames : goal.invariant-frames
invariant-frames g l = record {
  gathered : ForSome (g.H.Host.now l.fn.host) (λ v. Gathered (v l.fn.log.file) l.log.end l.so_far l.growths);
  few : l.so_far.summary.count ≤ 2 ^ 40;
  small : l.log.end ≤ 2 ^ 62;
  reaches : ReachesEnd l.fn.log (g.H.Host.now l.fn.host) → ReachesEnd l.log (g.H.Host.now l.host);
  file : l.log.file ≡ l.fn.log.file;
  ended : l.log.ended ≡ l.fn.log.ended;
  leaves : LeavesAll g.H.Host.now g.H.Host.may g.H.Host.clock g.H.Host.since g.H.Host.said l.fn.host l.host;
  disk_faults : g.H.Host.disk_faults l.fn.host ≤ g.H.Host.disk_faults l.host;
  out_faults : g.H.Host.out_faults l.host ≡ g.H.Host.out_faults l.fn.host;
}

abbrev pub decreases-frames : goal.decreases-frames
decreases-frames g l = 2 ^ 62 - l.log.end
