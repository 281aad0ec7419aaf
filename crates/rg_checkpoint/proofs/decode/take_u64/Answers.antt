use Rattle.std.proofs.Common.{rules}
use Rattle.rg_bytes.proofs.Laws.{u64_read}
use Rattle.rg_checkpoint.specs.declared.fault.CheckpointFault.TheVariants.{BadCheckpoint}
use Rattle.rg_checkpoint.proofs.decode.take_u64.Goals as goal

pub returns-in-Ok-clause-agrees : goal.returns-in-Ok-clause-agrees
returns-in-Ok-clause-agrees c = u64_read BadCheckpoint _ c.in-Ok.n c.u64.new.self c.in-Ok.ensures.ok (search rules)
