use Rattle.std.proofs.Common.{arith}
use Rattle.std.proofs.lemmas.Grind.{common_steps}
use Rattle.rg_agg.specs.declared.fault.StateFault.TheVariants.{Memory}
use Rattle.rg_agg.proofs.Fields.{end_reads_back}
use Rattle.rg_bytes.proofs.Laws.{memory_only}
use Rattle.rg_agg.proofs.last.LastAggregate.decode.Goals as goal

pub returns-in-Err-clause-agrees : goal.returns-in-Err-clause-agrees
returns-in-Err-clause-agrees c = grind (arith, common_steps)

pub returns-in-Err-clause-reads_back : goal.returns-in-Err-clause-reads_back
returns-in-Err-clause-reads_back c state rest some stood = memory_only Memory _ _ _ (returns-in-Err-clause-agrees c) (end_reads_back state.count state.last _ rest some state.few state.kept stood)
