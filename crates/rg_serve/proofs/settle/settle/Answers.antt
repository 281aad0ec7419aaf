use Rattle.std.proofs.Common.{refl, sym, subst}
use Rattle.rg_run.specs.declared.due.Due.{Due}
use Rattle.rg_run.specs.Turning.{IsDueDone}
use Rattle.rg_serve.proofs.Within.{still_moments}
use Rattle.rg_serve.proofs.Carrying.{carries_none}
use Rattle.rg_serve.proofs.settle.settle.Goals as goal

pub returns-in-Nothing-clause-settles : goal.returns-in-Nothing-clause-settles
returns-in-Nothing-clause-settles g c = record {
  moments = λ plan e replies w. still_moments g.K.Task.view plan e g.met.K.Task.only_now g.met.K.Task.sinks replies c.args.task.now c.args.gathered.now.items w;
  within = λ plan e replies w. w;
  halted = λ plan e replies w. tt;
  events = λ plan runs. refl;
  done = λ plan runs. subst (λ (d : Due). IsDueDone g.K.Task.view d plan c.args.task.now) (sym c.in-Nothing.is) tt;
}

pub returns-in-Nothing-clause-carries : goal.returns-in-Nothing-clause-carries
returns-in-Nothing-clause-carries g c = carries_none g.K.Task.view g.K.Task.disk_faults g.K.Task.out_faults (λ f. f) _ g.met.K.Task.only_now g.met.K.Task.sinks c.args.task.now

pub returns-in-Commit-clause-carries : goal.returns-in-Commit-clause-carries
returns-in-Commit-clause-carries g c = c.store.ensures.carries

pub returns-in-Save-clause-carries : goal.returns-in-Save-clause-carries
returns-in-Save-clause-carries g c = c.save_all.ensures.carries
