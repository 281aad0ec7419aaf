use Rattle.std.proofs.Common.{◌-◌, ◌^◌, ◌+◌, ◌≤◌, true, ℕ, List, Ok}
use Rattle.std.specs.Prelude.{Option}
use Rattle.rg_config.specs.Plans.{planned}
use Rattle.rg_pipe.specs.Sent.{Sent}
use Rattle.rg_serve_spec.specs.Errands.{Errand}
use Rattle.rg_serve.specs.Calls.{Carries}
use Rattle.rg_serve.specs.declared.fault.ServeFault.TheVariants.{Turn}
use Rattle.rg_serve.specs.Coming.{IsComing, CanGoOn, IsTaken}
use Rattle.rg_serve.specs.UnderWay.{IsAskedFor, IsUnderWay}
use Rattle.rg_serve.proofs.Going.{StaysUnderWay}
use Rattle.rg_serve.proofs.running.answer_all.Given as goal

abbrev pub invariant-requests : goal.invariant-requests
invariant-requests g l = record {
  can : CanGoOn l.intake l.pipe;
  serves : (e : Errand) (requests : List Sent) (rest : List ℕ) → IsAskedFor e requests → IsUnderWay g.K.Task.view (planned l.fn.plan) e requests rest (g.I.Source.left l.fn.input) l.fn.pipe l.fn.intake.held l.fn.task l.fn.gathered.items →
      StaysUnderWay g.K.Task.view (planned l.fn.plan) e requests rest (g.I.Source.left l.input) l.pipe l.intake.held l.gathered.items l.fn.task l.task;
  comes : (first : ℕ) (requests : List Sent) (rest : List ℕ) → IsComing first requests rest (g.I.Source.left l.fn.input) l.fn.pipe l.fn.intake.held → IsComing first requests rest (g.I.Source.left l.input) l.pipe l.intake.held;
  taken : (start : Option (List ℕ)) → IsTaken start (g.I.Source.left l.fn.input) l.fn.intake.taken → IsTaken start (g.I.Source.left l.input) l.intake.taken;
  later : g.I.Source.faults l.fn.input ≤ g.I.Source.faults l.input;
  carries : Carries g.K.Task.view g.K.Task.disk_faults g.K.Task.out_faults Turn (Ok true) l.fn.task l.task;
}

abbrev pub decreases-requests : goal.decreases-requests
decreases-requests g l = 2 ^ 51 - (l.pipe.place + l.intake.taken)
