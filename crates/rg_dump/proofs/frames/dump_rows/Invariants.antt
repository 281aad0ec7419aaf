use Rattle.std.proofs.Common.{◌-◌, ◌^◌}
use Rattle.std.specs.Option.{ForSome}
use Rattle.rg_host.specs.Puts.{Puts}
use Rattle.rg_reservoir.specs.Walked.{place_of}
use Rattle.rg_dump.specs.Leaves.{LeavesPut}
use Rattle.rg_dump.proofs.Dumping.{Progress}
use Rattle.rg_dump.proofs.frames.dump_rows.Given as goal

abbrev pub invariant-frames : goal.invariant-frames
invariant-frames g l = record {
  progress : ForSome (g.H.Host.now l.fn.host) (λ v. Progress (v 2) l.walk l.behind (Puts g.H.Host.said g.H.Host.clock g.H.Host.since l.fn.host l.host));
  leaves : LeavesPut g.H.Host.now g.H.Host.may g.H.Host.clock g.H.Host.since g.H.Host.disk_faults g.H.Host.out_faults l.fn.host l.host;
}

abbrev pub decreases-frames : goal.decreases-frames
decreases-frames g l = 2 ^ 62 - place_of l.walk
