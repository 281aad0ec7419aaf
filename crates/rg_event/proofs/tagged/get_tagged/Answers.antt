use Rattle.std.proofs.Common.{arith, Ok, Err}
use Rattle.std.proofs.lemmas.Grind.{common_steps}
use Rattle.rg_event.proofs.RoundTrip.{agrees_with}
use Rattle.rg_event.proofs.TaggedValues.{read_back}
use Rattle.rg_event.proofs.tagged.get_tagged.Goals as goal

pub returns-in-Ok-clause-agrees : goal.returns-in-Ok-clause-agrees
returns-in-Ok-clause-agrees c = grind (arith, common_steps)

pub returns-in-Ok-clause-reads_back : goal.returns-in-Ok-clause-reads_back
returns-in-Ok-clause-reads_back c value rest is stood =
    agrees_with _ (Ok c.in-Ok.value) c.read_tagged.new.from value rest (returns-in-Ok-clause-agrees c) (read_back value c.args.from.now rest is stood)

pub returns-in-Err-clause-agrees : goal.returns-in-Err-clause-agrees
returns-in-Err-clause-agrees c = grind (arith, common_steps)

pub returns-in-Err-clause-reads_back : goal.returns-in-Err-clause-reads_back
returns-in-Err-clause-reads_back c value rest is stood =
    agrees_with _ (Err c.in-Err.fault) c.new.result value rest (returns-in-Err-clause-agrees c) (read_back value c.args.from.now rest is stood)
