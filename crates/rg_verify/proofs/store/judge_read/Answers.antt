use Rattle.std.proofs.Common.{rules}
use Rattle.rg_verify.proofs.store.judge_read.Goals as goal

pub returns-clause-verified : goal.returns-clause-verified
returns-clause-verified g c = λ v payloads told has framed served. c.judge_slots.ensures.verified c.args.schema.now v payloads (search rules) told has framed served
