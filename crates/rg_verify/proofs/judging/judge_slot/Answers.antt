use Rattle.std.proofs.Common.{Option, subst}
use Rattle.std.specs.Prelude.{IfOk}
use Rattle.rg_checkpoint.specs.declared.base.Checkpoint.{Checkpoint}
use Rattle.rg_verify.specs.Fitting.{terms_of}
use Rattle.rg_verify.specs.Verdicts.{IsVerdict}
use Rattle.rg_verify.proofs.judging.judge_slot.Goals as goal

pub returns-clause-verdict : goal.returns-clause-verdict
returns-clause-verdict g c = λ shape v payloads columns told has framed served.
    subst (λ (o : Option Checkpoint). IfOk c.judge.result (IsVerdict (terms_of c.args.wanted.now.queries.now shape c.args.wanted.now.task.now) (v 2) c.args.log.now.events o)) c.slot.ensures.slot
    (c.judge.ensures.verdict shape v payloads columns told has framed served)
