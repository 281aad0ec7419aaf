use Rattle.std.proofs.Common.{◌≡◌, ◌≤◌, ◌<◌, ◌-◌, take, drop, length}
use Rattle.std.specs.Option.{ForSome}
use Rattle.rg_bytes.specs.Counts.{Rose}
use Rattle.rg_frame.specs.Calls.{ReadsOnly}
use Rattle.rg_frame.proofs.look.read_full.Given as goal

abbrev pub invariant-loop-done : goal.invariant-loop-done
invariant-loop-done g l = record {
  size : length l.buf ≡ length l.fn.buf;
  count : l.done ≤ length l.buf;
  bytes : ForSome (g.H.Host.now l.fn.host) (λ v. take l.done l.buf ≡ take l.done (drop l.at (v l.file)));
  within : ForSome (g.H.Host.now l.fn.host) (λ v. l.done ≤ length (drop l.at (v l.file)));
  stays : ReadsOnly g.H.Host.now g.H.Host.may g.H.Host.clock g.H.Host.since g.H.Host.said g.H.Host.disk_faults g.H.Host.out_faults g.H.Host.reads l.fn.host l.host;
  rose : 0 < l.done → Rose (g.H.Host.reads l.fn.host) (g.H.Host.reads l.host);
}

abbrev pub decreases-loop-done : goal.decreases-loop-done
decreases-loop-done g l = length l.buf - l.done
