use Rattle.std.proofs.Common.{◌≡◌, ◌≤◌, ◌++◌, List, ℕ, length}
use Rattle.rg_host.specs.Moments.{LeavesFiles}
use Rattle.rg_host.specs.Puts.{Puts}
use Rattle.rg_host.proofs.host.put_all.Given as goal

abbrev pub invariant-loop-rest : goal.invariant-loop-rest
invariant-loop-rest g l = record {
  so_far : (part : List ℕ) × (part ++ l.rest ≡ l.bytes) × Puts g.H.Host.said g.H.Host.clock g.H.Host.since l.fn.host l.host part;
  leaves : LeavesFiles g.H.Host.now g.H.Host.may g.H.Host.clock g.H.Host.since l.fn.host l.host;
  disk_faults : g.H.Host.disk_faults l.host ≡ g.H.Host.disk_faults l.fn.host;
  out_faults : g.H.Host.out_faults l.fn.host ≤ g.H.Host.out_faults l.host;
  reads : g.H.Host.reads l.host ≡ g.H.Host.reads l.fn.host;
}

abbrev pub decreases-loop-rest : goal.decreases-loop-rest
decreases-loop-rest g l = length l.rest
