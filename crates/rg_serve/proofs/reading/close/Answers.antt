use Rattle.std.proofs.Common.{List, [], ℕ, inl, inr, ⊎_elim, sym, ◌∙◌, ap, subst}
use Rattle.rg_run.specs.declared.fault.TurnFault.{TurnFault}
use Rattle.rg_serve.specs.Serving.{IsAwaiting}
use Rattle.rg_serve.specs.declared.fault.ServeFault.TheVariants.{Turn}
use Rattle.rg_serve.proofs.Coming.{frame_comes}
use Rattle.rg_serve.proofs.Going.{replies_done, within_halted}
use Rattle.rg_serve.proofs.Within.{still_moments}
use Rattle.rg_run.proofs.Laws.{only_none}
use Rattle.rg_serve.proofs.Carrying.{carries_ok, carries_turn, carries_unput, pipe_no}
use Rattle.rg_run.specs.declared.fault.TurnFault.TheVariants as turn
use Rattle.rg_serve.proofs.reading.close.Goals as goal

pub returns-in-Err-clause-closes : goal.returns-in-Err-clause-closes
returns-in-Err-clause-closes g c plan =
    let t = c.args.task.now in
    record {
      moments = λ e is a. still_moments g.K.Task.view plan e g.met.K.Task.only_now g.met.K.Task.sinks (replies_done g.K.Task.view plan e a.done) t [] a.within;
      served = λ e is a. tt;
      halted = λ e is a. inr (within_halted g.K.Task.view plan e (replies_done g.K.Task.view plan e a.done) t a.within);
    }

pub returns-in-Err-clause-comes : goal.returns-in-Err-clause-comes
returns-in-Err-clause-comes g c first requests rest left coming end =
    frame_comes first requests rest left c.args.pipe.now c.in-Err.fault c.frame_fault.result coming end c.requires.part c.requires.still_open c.in-Err.ensures c.frame_fault.ensures

pub returns-in-Ok-finish-clause-closes : goal.returns-in-Ok-finish-clause-closes
returns-in-Ok-finish-clause-closes g c plan =
    let old = c.args.task.now in
    record {
      moments = λ e is a. (c.finish.ensures.finishes plan).moments e (is ∙ sym c.in-Ok.ensures.0) (subst (λ (l : List ℕ). IsAwaiting g.K.Task.view plan e [] old l) (sym c.requires.none) a);
      served = λ e is a. (c.in-Ok-finish.ensures.finishes plan).served e (is ∙ sym c.in-Ok.ensures.0) (subst (λ (l : List ℕ). IsAwaiting g.K.Task.view plan e [] old l) (sym c.requires.none) a);
      halted = λ e is a. tt;
    }

pub returns-in-Err-finish-clause-closes : goal.returns-in-Err-finish-clause-closes
returns-in-Err-finish-clause-closes g c plan =
    let old = c.args.task.now in
    record {
      moments = λ e is a. (c.finish.ensures.finishes plan).moments e (is ∙ sym c.in-Ok.ensures.0) (subst (λ (l : List ℕ). IsAwaiting g.K.Task.view plan e [] old l) (sym c.requires.none) a);
      served = λ e is a. tt;
      halted = λ e is a. ⊎_elim (λ write. inl (ap (λ (f : TurnFault). Turn f) write)) (λ h. inr h) ((c.in-Err-finish.ensures.finishes plan).halted e (is ∙ sym c.in-Ok.ensures.0) (subst (λ (l : List ℕ). IsAwaiting g.K.Task.view plan e [] old l) (sym c.requires.none) a));
    }

pub returns-in-Err-clause-carries : goal.returns-in-Err-clause-carries
returns-in-Err-clause-carries g c =
    carries_unput g.K.Task.view g.K.Task.disk_faults g.K.Task.out_faults c.args.task.now c.args.task.now (only_none g.K.Task.view g.K.Task.disk_faults g.K.Task.out_faults g.met.K.Task.only_now g.met.K.Task.sinks c.args.task.now) Turn c.frame_fault.result
    (λ e is. pipe_no c.in-Err.fault (turn.Task e) (sym c.frame_fault.ensures ∙ is)) (λ is. absurd (pipe_no c.in-Err.fault turn.Write (sym c.frame_fault.ensures ∙ is)))

pub returns-in-Ok-finish-clause-carries : goal.returns-in-Ok-finish-clause-carries
returns-in-Ok-finish-clause-carries g c = carries_ok g.K.Task.view g.K.Task.disk_faults g.K.Task.out_faults (λ f. f) Turn _ _ c.args.task.now c.finish.new.task c.in-Ok-finish.ensures.carries

pub returns-in-Err-finish-clause-carries : goal.returns-in-Err-finish-clause-carries
returns-in-Err-finish-clause-carries g c = carries_turn g.K.Task.view g.K.Task.disk_faults g.K.Task.out_faults c.in-Err-finish.fault c.args.task.now c.finish.new.task c.in-Err-finish.ensures.carries
