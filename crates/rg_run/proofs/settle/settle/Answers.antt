use Rattle.std.proofs.Common.{refl, sym, subst}
use Rattle.rg_host.proofs.Laws.{leaves_all-none}
use Rattle.rg_run.specs.Calls.{Settles}
use Rattle.rg_run.specs.declared.due.Due.{Due}
use Rattle.rg_run.proofs.Called.{sustains_none, cause_none}
use Rattle.rg_run.proofs.Gathering.{mid_held, quiet_moments}
use Rattle.rg_run.proofs.settle.settle.Goals as goal

pub returns-in-Nothing-clause-settles : goal.returns-in-Nothing-clause-settles
returns-in-Nothing-clause-settles g c =
    let h = c.args.task.now in
    record {
      moments = λ plan course offset item items start m. quiet_moments g.K.Task.view plan course h h c.args.gathered.now.items
          (mid_held g.K.Task.view plan course offset h c.args.gathered.now.items item items start m)
          (leaves_all-none g.K.Task.view.now g.K.Task.view.may g.K.Task.view.clock g.K.Task.view.since g.K.Task.view.said h (λ t u w. g.met.K.Task.sinks _ t u w) (λ w at. g.met.K.Task.only_now _ w at));
      stopped = λ plan course offset item items start m. tt;
      mid_turn = λ plan course offset item items start m. m;
      done = λ plan runs. rw c.in-Nothing.is tt;
      idle = λ is. (refl, refl, tt);
    }

pub returns-in-Nothing-clause-sustains : goal.returns-in-Nothing-clause-sustains
returns-in-Nothing-clause-sustains g c = sustains_none g.K.Task.view g.K.Task.disk_faults g.K.Task.out_faults _ g.met.K.Task.only_now g.met.K.Task.sinks c.args.task.now

pub returns-in-Nothing-clause-cause : goal.returns-in-Nothing-clause-cause
returns-in-Nothing-clause-cause g c = cause_none g.K.Task.view g.K.Task.disk_faults g.K.Task.out_faults _ c.args.task.now c.args.task.now

pub returns-in-Commit-clause-settles : goal.returns-in-Commit-clause-settles
returns-in-Commit-clause-settles g c = subst (λ (d : Due). Settles g.K.Task.view d c.args.gathered.now.items c.store.new.gathered.items c.store.result c.args.task.now c.store.new.task) (sym c.in-Commit.is) c.store.ensures.settles

pub returns-in-Commit-clause-sustains : goal.returns-in-Commit-clause-sustains
returns-in-Commit-clause-sustains g c = c.store.ensures.sustains

pub returns-in-Commit-clause-cause : goal.returns-in-Commit-clause-cause
returns-in-Commit-clause-cause g c = c.store.ensures.cause

pub returns-in-Save-clause-settles : goal.returns-in-Save-clause-settles
returns-in-Save-clause-settles g c = subst (λ (d : Due). Settles g.K.Task.view d c.args.gathered.now.items c.save_all.new.gathered.items c.save_all.result c.args.task.now c.save_all.new.task) (sym c.in-Save.is) c.save_all.ensures.settles

pub returns-in-Save-clause-sustains : goal.returns-in-Save-clause-sustains
returns-in-Save-clause-sustains g c = c.save_all.ensures.sustains

pub returns-in-Save-clause-cause : goal.returns-in-Save-clause-cause
returns-in-Save-clause-cause g c = c.save_all.ensures.cause
