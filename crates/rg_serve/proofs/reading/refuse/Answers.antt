use Rattle.std.proofs.Common.{List, ℕ, inl, inr, refl, ap, subst}
use Rattle.rg_task.specs.State.{State}
use Rattle.rg_run.specs.declared.fault.TurnFault.{TurnFault}
use Rattle.rg_serve.specs.Serving.{IsWithin}
use Rattle.rg_serve.specs.declared.fault.ServeFault.TheVariants.{Turn}
use Rattle.rg_serve.proofs.Going.{replies_done, flushed}
use Rattle.rg_serve.proofs.reading.refuse.Goals as goal

pub returns-in-Ok-clause-refusing : goal.returns-in-Ok-clause-refusing
returns-in-Ok-clause-refusing g c =
    let old = c.args.task.now in
    let new = c.flush.new.task in
    record {
      moments = λ plan e ahead a. c.flush.ensures.flushes.moments plan e (replies_done g.K.Task.view plan e a.done) a.within;
      awaits = λ plan e ahead a. inr (
        refl,
        flushed g.K.Task.view plan e ahead old new c.args.gathered.now.items a
            (subst (λ (l : List ℕ). IsWithin g.K.Task.view plan e (replies_done g.K.Task.view plan e a.done) new l) c.flush.ensures.empty (c.in-Ok.ensures.flushes.within plan e (replies_done g.K.Task.view plan e a.done) a.within))
            (ap (λ (x : State). x.events) c.flush.ensures.only.keeps.at_stays),
      );
    }

pub returns-in-Err-clause-refusing : goal.returns-in-Err-clause-refusing
returns-in-Err-clause-refusing g c = record {
  moments = λ plan e ahead a. c.flush.ensures.flushes.moments plan e (replies_done g.K.Task.view plan e a.done) a.within;
  awaits = λ plan e ahead a. inl (ap (λ (f : TurnFault). Turn f) c.in-Err.ensures.faults);
}
