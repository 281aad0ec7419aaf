use Rattle.std.proofs.Common.{Ok, Err, refl}
use Rattle.rg_config.specs.Plans.{planned}
use Rattle.rg_serve.proofs.Handed.{asked_some}
use Rattle.rg_serve.specs.declared.step.Step.TheVariants.{Answered}
use Rattle.rg_serve.proofs.Carrying.{carries_none, carries_ok, carries_same}
use Rattle.rg_serve.proofs.next.answer_asked.Goals as goal

pub returns-in-Ok-clause-answers : goal.returns-in-Ok-clause-answers
returns-in-Ok-clause-answers g c =
    asked_some g.K.Task.view (planned c.args.plan.now) _ _ c.args.task.now c.answer_request.new.task c.args.asked c.in-Ok-Some.field-0 c.in-Ok-Some.request (Ok Answered) c.in-Ok-Some.is (rw c.in-Ok-Some.is at c.in-Ok-Some.field-0-is) refl
    (λ due. let a = c.in-Ok.ensures.answers due in record { moments = a.moments; awaits = a.awaits; halted = λ e ahead w. tt })

pub returns-in-Err-clause-answers : goal.returns-in-Err-clause-answers
returns-in-Err-clause-answers g c =
    asked_some g.K.Task.view (planned c.args.plan.now) _ _ c.args.task.now c.answer_request.new.task c.args.asked c.in-Ok-Some.field-0 c.in-Ok-Some.request (Err c.in-Err.fault) c.in-Ok-Some.is (rw c.in-Ok-Some.is at c.in-Ok-Some.field-0-is) tt
    (λ due. let a = c.in-Err.ensures.answers due in record { moments = a.moments; awaits = λ e ahead w. tt; halted = a.halted })

pub returns-in-Ok-clause-carries : goal.returns-in-Ok-clause-carries
returns-in-Ok-clause-carries g c = carries_ok g.K.Task.view g.K.Task.disk_faults g.K.Task.out_faults (λ f. f) (λ f. f) _ _ c.args.task.now c.answer_request.new.task c.in-Ok.ensures.carries

pub returns-in-Err-clause-carries : goal.returns-in-Err-clause-carries
returns-in-Err-clause-carries g c = carries_same g.K.Task.view g.K.Task.disk_faults g.K.Task.out_faults c.in-Err.fault c.args.task.now c.answer_request.new.task c.in-Err.ensures.carries

pub returns-in-Err-Frame-clause-carries : goal.returns-in-Err-Frame-clause-carries
returns-in-Err-Frame-clause-carries g c = carries_none g.K.Task.view g.K.Task.disk_faults g.K.Task.out_faults (λ f. f) _ g.met.K.Task.only_now g.met.K.Task.sinks c.args.task.now

pub returns-in-Ok-None-clause-carries : goal.returns-in-Ok-None-clause-carries
returns-in-Ok-None-clause-carries g c = carries_none g.K.Task.view g.K.Task.disk_faults g.K.Task.out_faults (λ f. f) _ g.met.K.Task.only_now g.met.K.Task.sinks c.args.task.now
