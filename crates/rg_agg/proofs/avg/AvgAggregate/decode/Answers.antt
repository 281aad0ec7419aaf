use Rattle.std.proofs.Common.{arith}
use Rattle.std.proofs.lemmas.Grind.{common_steps}
use Rattle.rg_agg.specs.Held.{averaged}
use Rattle.rg_agg.specs.declared.fault.StateFault.TheVariants.{Memory}
use Rattle.rg_agg.proofs.Fields.{averaged_reads_back}
use Rattle.rg_bytes.proofs.Laws.{both_answers, memory_only}
use Rattle.rg_agg.proofs.avg.AvgAggregate.decode.Goals as goal

pub returns-in-Ok-clause-agrees : goal.returns-in-Ok-clause-agrees
returns-in-Ok-clause-agrees c = grind (arith, common_steps)

pub returns-in-Ok-clause-reads_back : goal.returns-in-Ok-clause-reads_back
returns-in-Ok-clause-reads_back c state rest some stood =
    both_answers _ (averaged c.in-Ok.total.count c.in-Ok.total.sum) (averaged state.total.count state.total.sum) c.read.new.from rest (returns-in-Ok-clause-agrees c) (rw stood (averaged_reads_back state.total.count state.total.sum rest some state.total.few state.total.bound))

pub returns-in-Err-clause-agrees : goal.returns-in-Err-clause-agrees
returns-in-Err-clause-agrees c = grind (arith, common_steps)

pub returns-in-Err-clause-reads_back : goal.returns-in-Err-clause-reads_back
returns-in-Err-clause-reads_back c state rest some stood = memory_only Memory _ _ (averaged state.total.count state.total.sum, rest) (returns-in-Err-clause-agrees c) (rw stood (averaged_reads_back state.total.count state.total.sum rest some state.total.few state.total.bound))
