use Rattle.std.proofs.Common.{[], inl, refl, arith}
use Rattle.rg_host.proofs.Laws.{puts-nothing, leaves_files-none}
use Rattle.rg_dump.proofs.frames.put_stage.Goals as goal

pub returns-in-Err-clause-part : goal.returns-in-Err-clause-part
returns-in-Err-clause-part g c = record {
  part = [];
  prefix = (_, refl);
  puts = puts-nothing g.H.Host.said g.H.Host.clock g.H.Host.since _ (λ t u m. g.met.H.Host.sinks _ t u m) (λ m. g.met.H.Host.only_now _ m);
  none = inl refl;
}

pub returns-in-Err-clause-leaves : goal.returns-in-Err-clause-leaves
returns-in-Err-clause-leaves g c = record {
  leaves = leaves_files-none g.H.Host.now g.H.Host.may g.H.Host.clock g.H.Host.since _ (λ t u m. g.met.H.Host.sinks _ t u m) (λ m now. (g.met.H.Host.only_now _ m now).0);
  disk_faults = omega arith;
  out_faults = omega arith;
}
