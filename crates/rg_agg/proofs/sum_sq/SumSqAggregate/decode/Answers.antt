use Rattle.std.proofs.Common.{arith}
use Rattle.std.proofs.lemmas.Grind.{common_steps}
use Rattle.rg_agg.specs.Held.{squared}
use Rattle.rg_agg.specs.declared.fault.StateFault.TheVariants.{Memory}
use Rattle.rg_agg.proofs.Fields.{squared_reads_back}
use Rattle.rg_bytes.proofs.Laws.{both_answers, memory_only}
use Rattle.rg_agg.proofs.sum_sq.SumSqAggregate.decode.Goals as goal

pub returns-in-Ok-clause-agrees : goal.returns-in-Ok-clause-agrees
returns-in-Ok-clause-agrees c = grind (arith, common_steps)

pub returns-in-Ok-clause-reads_back : goal.returns-in-Ok-clause-reads_back
returns-in-Ok-clause-reads_back c state rest some stood =
    both_answers _ (squared c.in-Ok.state.count c.in-Ok.state.sum) (squared state.count state.sum) c.read_squares.new.from rest (returns-in-Ok-clause-agrees c) (rw stood (squared_reads_back state.count state.sum rest some state.few state.bound))

pub returns-in-Err-clause-agrees : goal.returns-in-Err-clause-agrees
returns-in-Err-clause-agrees c = grind (arith, common_steps)

pub returns-in-Err-clause-reads_back : goal.returns-in-Err-clause-reads_back
returns-in-Err-clause-reads_back c state rest some stood = memory_only Memory _ _ (squared state.count state.sum, rest) (returns-in-Err-clause-agrees c) (rw stood (squared_reads_back state.count state.sum rest some state.few state.bound))
