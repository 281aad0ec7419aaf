use Rattle.std.proofs.Common.{arith, Ok, Err}
use Rattle.std.proofs.lemmas.Grind.{common_steps}
use Rattle.rg_event.proofs.RoundTrip.{event_reads_back, agrees_with}
use Rattle.rg_event.proofs.codec.decoder.decode.Goals as goal

pub returns-in-Ok-clause-agrees : goal.returns-in-Ok-clause-agrees
returns-in-Ok-clause-agrees c = grind (arith, common_steps)

pub returns-in-Ok-clause-reads_back : goal.returns-in-Ok-clause-reads_back
returns-in-Ok-clause-reads_back c event rest is stood =
    agrees_with _ (Ok c.in-Ok.event) c.read_event.new.from event rest (returns-in-Ok-clause-agrees c) (event_reads_back c.args.schema.now.fields event c.args.from.now rest is stood)

pub returns-in-Err-clause-agrees : goal.returns-in-Err-clause-agrees
returns-in-Err-clause-agrees c = grind (arith, common_steps)

pub returns-in-Err-clause-reads_back : goal.returns-in-Err-clause-reads_back
returns-in-Err-clause-reads_back c event rest is stood =
    agrees_with _ (Err c.in-Err.fault) c.new.result event rest (returns-in-Err-clause-agrees c) (event_reads_back c.args.schema.now.fields event c.args.from.now rest is stood)
