use Rattle.std.proofs.Common.{rules}
use Rattle.rg_bytes.proofs.Laws.{u32_read}
use Rattle.rg_checkpoint.specs.declared.fault.CheckpointFault.TheVariants.{BadCheckpoint}
use Rattle.rg_checkpoint.proofs.decode.take_u32.Goals as goal

pub returns-in-Ok-clause-agrees : goal.returns-in-Ok-clause-agrees
returns-in-Ok-clause-agrees c = u32_read BadCheckpoint _ c.in-Ok.n c.u32.new.self c.in-Ok.ensures.ok (search rules)
