use Rattle.std.proofs.Common.{refl}
use Rattle.rg_verify.proofs.Logs.{served_first}
use Rattle.rg_verify.proofs.judging.rows_verdict.Goals as goal

pub returns-in-Ok-None-clause-verdict : goal.returns-in-Ok-None-clause-verdict
returns-in-Ok-None-clause-verdict c = λ served.
    let right = rw c.in-Ok-None.field-0-is at c.in-Ok-None.ensures.right in
    (refl, right (served_first c.args.task.now c.args.checkpoint.now.count c.args.events.now served))

pub returns-in-Ok-Some-clause-verdict : goal.returns-in-Ok-Some-clause-verdict
returns-in-Ok-Some-clause-verdict c = λ served.
    let wrong = rw c.in-Ok-Some.field-0-is at c.in-Ok-Some.ensures.wrong in
    wrong (served_first c.args.task.now c.args.checkpoint.now.count c.args.events.now served)
