use Rattle.std.proofs.Common.{◌≡◌}
use Rattle.rg_dump.specs.declared.fault.DumpFault.TheVariants.{Damaged}
use Rattle.rg_dump.proofs.frames.dump.Goals as goal

pub returns-in-Err-clause-damaged : goal.returns-in-Err-clause-damaged
returns-in-Err-clause-damaged g c = λ p e. let same : c.in-Err.fault ≡ Damaged p = cc in c.in-Err.ensures.refused.damaged p same
