use Rattle.std.proofs.Common.{◌≡◌, ◌-◌, ◌≤◌, ◌^◌, ◌+◌, false, ℕ, []}
use Rattle.rg_host.specs.Moments.{Moments}
use Rattle.rg_config.specs.Plans.{planned}
use Rattle.rg_run_spec.specs.Stores.{StaysOnCourse}
use Rattle.rg_run.specs.Answered.{IsToBegin, CountsGrow}
use Rattle.rg_run.specs.Begun.{Begun, course_for}
use Rattle.rg_run.specs.Logs.{KeepsLog}
use Rattle.rg_run.specs.Reading.{HasTaken}
use Rattle.rg_run.specs.UnderWay.{IsUnderWay}
use Rattle.rg_run.proofs.running.run.Given as goal

abbrev pub invariant-lines : goal.invariant-lines
invariant-lines g l = record {
  counted : l.turning.offset ≤ 2 ^ 61 + l.lines.spent;
  within : l.lines.spent ≤ 2 ^ 50;
  going : (g.K.Task.view.at l.task).ended ≡ false;
  way : (b : Begun) → IsToBegin g.K.Task.view (planned l.fn.plan) b (g.I.Source.left l.fn.input) l.fn.from l.fn.first l.fn.task → IsUnderWay g.K.Task.view (planned l.fn.plan) b (g.I.Source.left l.input) l.lines l.turning.offset l.task l.turning.gathered.items;
  moments : (b : Begun) → IsToBegin g.K.Task.view (planned l.fn.plan) b (g.I.Source.left l.fn.input) l.fn.from l.fn.first l.fn.task → Moments g.K.Task.view.clock g.K.Task.view.since l.fn.task l.task (StaysOnCourse (g.K.Task.view.store (planned l.fn.plan)) (course_for (planned l.fn.plan) b) []);
  node : (n : ℕ) → g.K.Task.view.node (planned l.fn.plan) n l.fn.task → g.K.Task.view.node (planned l.fn.plan) n l.task;
  placed : g.K.Task.view.placed (planned l.fn.plan) l.fn.task → g.K.Task.view.placed (planned l.fn.plan) l.task;
  log : KeepsLog g.K.Task.view (planned l.fn.plan) l.fn.task l.task;
  taken : HasTaken (g.I.Source.left l.fn.input) (g.I.Source.left l.input) l.lines;
  counts : CountsGrow g.K.Task.view g.K.Task.disk_faults g.K.Task.out_faults g.I.Source.faults l.fn.input l.input l.fn.task l.task;
}

abbrev pub decreases-lines : goal.decreases-lines
decreases-lines g l = 2 ^ 50 - l.lines.spent
