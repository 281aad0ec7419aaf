use Rattle.std.proofs.Common.{arith, map}
use Rattle.std.proofs.lemmas.Grind.{common_steps}
use Rattle.std.proofs.lemmas.List.{length-map}
use Rattle.rg_agg.specs.Held.{queued}
use Rattle.rg_agg.specs.Numbers.{value_of}
use Rattle.rg_agg.specs.declared.fault.StateFault.TheVariants.{Memory}
use Rattle.rg_bytes.proofs.Laws.{both_answers, memory_only}
use Rattle.rg_agg.proofs.Queues.{queued_reads_back}
use Rattle.rg_agg.proofs.first.FirstAggregate.decode.Goals as goal

pub returns-in-Ok-clause-agrees : goal.returns-in-Ok-clause-agrees
returns-in-Ok-clause-agrees c = grind (arith, common_steps)

pub returns-in-Ok-clause-reads_back : goal.returns-in-Ok-clause-reads_back
returns-in-Ok-clause-reads_back c state rest some stood =
    both_answers _ (queued (map value_of c.in-Ok.state.numbers.items)) (queued (map value_of state.numbers.items)) c.read_first.new.from rest (returns-in-Ok-clause-agrees c) (rw stood (queued_reads_back state.numbers.items rest (omega (arith, some, length-map state.numbers.items value_of)) state.few state.alike))

pub returns-in-Err-clause-agrees : goal.returns-in-Err-clause-agrees
returns-in-Err-clause-agrees c = grind (arith, common_steps)

pub returns-in-Err-clause-reads_back : goal.returns-in-Err-clause-reads_back
returns-in-Err-clause-reads_back c state rest some stood =
    memory_only Memory _ _ (queued (map value_of state.numbers.items), rest) (returns-in-Err-clause-agrees c) (rw stood (queued_reads_back state.numbers.items rest (omega (arith, some, length-map state.numbers.items value_of)) state.few state.alike))
