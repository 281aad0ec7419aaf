use Rattle.std.proofs.Common.{inl, inr, ⊎_elim, true, Ok, Err, sym, ◌∙◌, ap, subst}
use Rattle.std.specs.Prelude.{⊤}
use Rattle.rg_config.specs.Plans.{planned}
use Rattle.rg_serve.specs.Coming.{IsComing}
use Rattle.rg_serve.specs.UnderWay.{IsUnderWay, GoesOn}
use Rattle.rg_serve.specs.declared.step.Step.TheVariants.{Answered, Lacks, Refused}
use Rattle.rg_serve.proofs.Coming.{all_fed}
use Rattle.rg_serve.proofs.Carrying.{carries_then, carries_put, carries_failed, carries_turn, carries_unput, frame_no, put_no, short_empty}
use Rattle.rg_serve.proofs.Going.{replies_done, under_eased, goes_then, at_step, goes_answered, goes_fault, under_lacks, goes_refused, comes_answered, comes_lacks, comes_refused}
use Rattle.rg_task.specs.State.{State}
use Rattle.rg_run.specs.declared.fault.TurnFault.{TurnFault}
use Rattle.rg_run.specs.declared.fault.TurnFault.TheVariants as turn
use Rattle.rg_serve.specs.declared.fault.ServeFault.TheVariants.{Turn}
use Rattle.rg_serve.proofs.turn.turn.Goals as goal

pub read_on-requires-clause-none : goal.read_on-requires-clause-none
read_on-requires-clause-none g c =
    let s = at_step g.K.Task.view (planned c.args.plan.now) _ _ _ _ _ _ _ _ _ Lacks c.in-Ok-Lacks.field-0-is c.in-Ok-Lacks.ensures.steps in
    all_fed c.args.pipe.now s.fed c.args.intake.now _ c.requires.can s.feeds s.step.0

pub returns-in-Err-clause-serves : goal.returns-in-Err-clause-serves
returns-in-Err-clause-serves g c e requests rest asked u =
    goes_fault g.K.Task.view (planned c.args.plan.now) e requests rest _ c.args.pipe.now _ c.args.intake.now _ c.args.task.now c.answer_next.new.task c.args.gathered.now.items _ c.in-Err.fault asked u c.in-Err.ensures.steps

pub returns-in-Ok-clause-serves : goal.returns-in-Ok-clause-serves
returns-in-Ok-clause-serves g c e requests rest asked u =
    let plan = planned c.args.plan.now in
    let s = at_step g.K.Task.view plan _ _ _ _ _ _ _ _ _ Answered c.in-Ok-Answered.field-0-is c.in-Ok-Answered.ensures.steps in
    let went = goes_answered g.K.Task.view plan e requests rest _ c.args.pipe.now _ c.args.intake.now _ c.args.task.now c.answer_next.new.task c.args.gathered.now.items _ asked u s in
    let under : IsUnderWay g.K.Task.view plan e requests rest (g.I.Source.left c.args.input.now) c.answer_next.new.pipe c.answer_next.new.intake.held c.answer_next.new.task c.answer_next.new.gathered.items = went.outcome in
    let a = under.awaiting in
    let rs = replies_done g.K.Task.view plan e a.done in
    goes_then g.K.Task.view plan e requests rest (g.I.Source.left c.args.input.now) _ _ _ _ c.args.task.now c.answer_next.new.task c.ease.new.task (Ok true) went.moments
    (record {
      moments = c.ease.ensures.flushes.moments plan e rs a.within;
      outcome = under_eased g.K.Task.view plan e requests rest _ _ _ c.answer_next.new.task c.ease.new.task _ _ under (c.in-Ok.ensures.flushes.within plan e rs a.within) (ap (λ (x : State). x.events) c.ease.ensures.only.keeps.at_stays);
    })

pub returns-in-Err-ease-clause-serves : goal.returns-in-Err-ease-clause-serves
returns-in-Err-ease-clause-serves g c e requests rest asked u =
    let plan = planned c.args.plan.now in
    let s = at_step g.K.Task.view plan _ _ _ _ _ _ _ _ _ Answered c.in-Ok-Answered.field-0-is c.in-Ok-Answered.ensures.steps in
    let went = goes_answered g.K.Task.view plan e requests rest _ c.args.pipe.now _ c.args.intake.now _ c.args.task.now c.answer_next.new.task c.args.gathered.now.items _ asked u s in
    let under : IsUnderWay g.K.Task.view plan e requests rest (g.I.Source.left c.args.input.now) c.answer_next.new.pipe c.answer_next.new.intake.held c.answer_next.new.task c.answer_next.new.gathered.items = went.outcome in
    let a = under.awaiting in
    goes_then g.K.Task.view plan e requests rest (g.I.Source.left c.args.input.now) _ _ _ _ c.args.task.now c.answer_next.new.task c.ease.new.task _ went.moments
    (record { moments = c.ease.ensures.flushes.moments plan e (replies_done g.K.Task.view plan e a.done) a.within; outcome = inl c.in-Err-ease.ensures.faults })

pub returns-in-Ok-clause-comes : goal.returns-in-Ok-clause-comes
returns-in-Ok-clause-comes g c first requests rest coming =
    let s = at_step g.K.Task.view (planned c.args.plan.now) _ _ _ _ _ _ _ _ _ Answered c.in-Ok-Answered.field-0-is c.in-Ok-Answered.ensures.steps in
    comes_answered g.K.Task.view (planned c.args.plan.now) _ _ _ _ _ _ _ _ first requests rest _ coming s

pub returns-in-Err-clause-carries : goal.returns-in-Err-clause-carries
returns-in-Err-clause-carries g c = carries_turn g.K.Task.view g.K.Task.disk_faults g.K.Task.out_faults c.in-Err.fault c.args.task.now c.answer_next.new.task c.in-Err.ensures.carries

pub returns-in-Ok-clause-carries : goal.returns-in-Ok-clause-carries
returns-in-Ok-clause-carries g c =
    carries_then g.K.Task.view g.K.Task.disk_faults g.K.Task.out_faults (λ f. f) Turn _ _ c.args.task.now c.answer_next.new.task c.ease.new.task c.in-Ok-Answered.ensures.carries (carries_put g.K.Task.view g.K.Task.disk_faults g.K.Task.out_faults c.answer_next.new.task c.ease.new.task c.ease.ensures.only Turn _)

pub returns-in-Err-ease-clause-carries : goal.returns-in-Err-ease-clause-carries
returns-in-Err-ease-clause-carries g c =
    let f = c.in-Err-ease.fault in
    carries_then g.K.Task.view g.K.Task.disk_faults g.K.Task.out_faults (λ f. f) Turn _ _ c.args.task.now c.answer_next.new.task c.ease.new.task c.in-Ok-Answered.ensures.carries
    (carries_turn g.K.Task.view g.K.Task.disk_faults g.K.Task.out_faults {A = ⊤} f c.answer_next.new.task c.ease.new.task
    (carries_failed g.K.Task.view g.K.Task.disk_faults g.K.Task.out_faults c.answer_next.new.task c.ease.new.task c.ease.ensures.only f c.in-Err-ease.ensures.faults (c.in-Err-ease.ensures.write (ap (λ (x : TurnFault). Err x) c.in-Err-ease.ensures.faults))))

pub returns-in-Ok-Lacks-clause-carries : goal.returns-in-Ok-Lacks-clause-carries
returns-in-Ok-Lacks-clause-carries g c =
    carries_then g.K.Task.view g.K.Task.disk_faults g.K.Task.out_faults (λ f. f) Turn _ _ c.args.task.now c.answer_next.new.task c.read_on.new.task c.in-Ok-Lacks.ensures.carries c.read_on.ensures.carries

pub returns-in-Ok-Lacks-clause-short : goal.returns-in-Ok-Lacks-clause-short
returns-in-Ok-Lacks-clause-short g c = short_empty c.read_on.result _ c.read_on.ensures.short

pub returns-in-Ok-Refused-clause-carries : goal.returns-in-Ok-Refused-clause-carries
returns-in-Ok-Refused-clause-carries g c =
    let old = c.answer_next.new.task in
    let new = c.refuse.new.task in
    carries_then g.K.Task.view g.K.Task.disk_faults g.K.Task.out_faults (λ f. f) Turn _ _ c.args.task.now old new c.in-Ok-Refused.ensures.carries
    (carries_unput g.K.Task.view g.K.Task.disk_faults g.K.Task.out_faults old new c.refuse.ensures.only Turn c.refuse.result (λ e is. ⊎_elim (λ frame. frame_no _ (turn.Task e) (sym frame ∙ is)) (λ write. put_no e (sym write.0 ∙ is)) c.refuse.ensures.which)
    (λ is. ⊎_elim (λ frame. absurd (frame_no _ turn.Write (sym frame ∙ is))) (λ write. write.1) c.refuse.ensures.which))

pub returns-in-Ok-Lacks-clause-serves : goal.returns-in-Ok-Lacks-clause-serves
returns-in-Ok-Lacks-clause-serves g c e requests rest asked u =
    let s = at_step g.K.Task.view (planned c.args.plan.now) _ _ _ _ _ _ _ _ _ Lacks c.in-Ok-Lacks.field-0-is c.in-Ok-Lacks.ensures.steps in
    let under = under_lacks g.K.Task.view (planned c.args.plan.now) e requests rest _ c.args.pipe.now _ c.args.intake.now _ c.args.task.now c.answer_next.new.task c.args.gathered.now.items _ c.requires.can u s in
    subst (λ (t : g.row.K.Denot). GoesOn g.K.Task.view (planned c.args.plan.now) e requests rest (g.I.Source.left c.read_on.new.input) c.answer_next.new.pipe c.read_on.new.intake.held c.read_on.new.gathered.items c.read_on.result t c.read_on.new.task) s.step.3
    (c.read_on.ensures.serves (planned c.args.plan.now) e requests rest asked under)

pub returns-in-Ok-Lacks-clause-comes : goal.returns-in-Ok-Lacks-clause-comes
returns-in-Ok-Lacks-clause-comes g c first requests rest coming =
    let s = at_step g.K.Task.view (planned c.args.plan.now) _ _ _ _ _ _ _ _ _ Lacks c.in-Ok-Lacks.field-0-is c.in-Ok-Lacks.ensures.steps in
    c.read_on.ensures.comes first requests rest (comes_lacks g.K.Task.view (planned c.args.plan.now) _ _ _ _ _ _ _ _ first requests rest _ coming c.requires.can s)

pub returns-in-Ok-Refused-clause-serves : goal.returns-in-Ok-Refused-clause-serves
returns-in-Ok-Refused-clause-serves g c e requests rest asked u =
    let plan = planned c.args.plan.now in
    let s = at_step g.K.Task.view plan _ _ _ _ _ _ _ _ _ (Refused _) c.in-Ok-Refused.field-0-is c.in-Ok-Refused.ensures.steps in
    goes_refused g.K.Task.view plan e requests rest _ c.args.pipe.now _ c.args.intake.now _ c.args.task.now c.answer_next.new.task c.refuse.new.task c.args.gathered.now.items _ _ _ c.refuse.result asked u s
    (λ ahead a. (c.refuse.ensures.refusing.moments plan e ahead a, c.refuse.ensures.refusing.awaits plan e ahead a))

pub returns-in-Ok-Refused-clause-comes : goal.returns-in-Ok-Refused-clause-comes
returns-in-Ok-Refused-clause-comes g c first requests rest coming =
    let s = at_step g.K.Task.view (planned c.args.plan.now) _ _ _ _ _ _ _ _ _ (Refused _) c.in-Ok-Refused.field-0-is c.in-Ok-Refused.ensures.steps in
    comes_refused g.K.Task.view (planned c.args.plan.now) _ _ _ _ _ _ _ _ first requests rest _ coming _ c.refuse.result (IsComing first requests rest (g.I.Source.left c.args.input.now) c.answer_next.new.pipe c.answer_next.new.intake.held) s (⊎_elim (λ is. inl is) (λ write. inr write.0) c.refuse.ensures.which)
