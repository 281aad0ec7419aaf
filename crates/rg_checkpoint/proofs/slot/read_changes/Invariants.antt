use Rattle.std.proofs.Common.{◌-◌, ◌^◌}
use Rattle.rg_checkpoint.specs.OnlyRead.{OnlyReads}
use Rattle.rg_checkpoint.specs.Reached.{IsBegun}
use Rattle.rg_checkpoint.proofs.slot.read_changes.Given as goal

abbrev pub invariant-frames : goal.invariant-frames
invariant-frames g l = record {
  begun : IsBegun (g.H.Host.now l.fn.host) l.fn.begun.end.log.file l.read;
  quiet : OnlyReads g.H.Host.now g.H.Host.may g.H.Host.clock g.H.Host.since g.H.Host.said g.H.Host.disk_faults g.H.Host.out_faults g.H.Host.reads l.fn.host l.host;
}

abbrev pub decreases-frames : goal.decreases-frames
decreases-frames g l = 2 ^ 62 - l.read.end.log.end
