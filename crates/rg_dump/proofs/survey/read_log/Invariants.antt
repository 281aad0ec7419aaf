use Rattle.std.proofs.Common.{◌-◌, ◌^◌}
use Rattle.std.specs.Option.{ForSome}
use Rattle.rg_reservoir.specs.Walked.{place_of}
use Rattle.rg_dump.specs.Leaves.{LeavesRead}
use Rattle.rg_dump.proofs.Surveying.{IsSurveyed}
use Rattle.rg_dump.proofs.survey.read_log.Given as goal

abbrev pub invariant-frames : goal.invariant-frames
invariant-frames g l = record {
  surveyed : ForSome (g.H.Host.now l.fn.host) (λ v. IsSurveyed (v 2) l.walk l.survey);
  leaves : LeavesRead g.H.Host.now g.H.Host.may g.H.Host.clock g.H.Host.since g.H.Host.said g.H.Host.disk_faults g.H.Host.out_faults l.fn.host l.host;
}

abbrev pub decreases-frames : goal.decreases-frames
decreases-frames g l = 2 ^ 62 - place_of l.walk
