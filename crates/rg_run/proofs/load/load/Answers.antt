use Rattle.std.proofs.Common.{ℕ, [], Err, refl, sym, ◌∙◌, ap, subst, arith}
use Rattle.rg_bytes.specs.Counts.{Rose}
use Rattle.rg_host.proofs.Laws.{moments_then}
use Rattle.rg_task.specs.State.{State}
use Rattle.rg_run_spec.specs.Stores.{StaysOnCourse}
use Rattle.rg_task.specs.declared.fault.TaskFault.TheVariants as task
use Rattle.rg_run.proofs.Called.{sustains_none, cause_none, damage_none}
use Rattle.rg_run.proofs.Replied.{still_on_course}
use Rattle.rg_run.proofs.Faulting.{task_of, write_of, load_others}
use Rattle.rg_run.proofs.Loaded.{load_moments, load_held, load_awaits}
use Rattle.rg_run.proofs.Logged.{files_of, files_held, held_then}
use Rattle.rg_run.proofs.load.load.Goals as goal

pub returns-then-ne-clause-loads : goal.returns-then-ne-clause-loads
returns-then-ne-clause-loads g c = record {
  moments = λ plan course offset items a. still_on_course g.K.Task.view g.met.K.Task.only_now g.met.K.Task.sinks plan course offset items c.args.task.now c.args.gathered.now.items a;
  awaits = λ plan course offset items a. a;
  events = λ plan course offset items a. refl;
  stopped = λ plan course offset items a. tt;
  next_stays = refl;
}

pub returns-then-ne-clause-sustains : goal.returns-then-ne-clause-sustains
returns-then-ne-clause-sustains g c = sustains_none g.K.Task.view g.K.Task.disk_faults g.K.Task.out_faults _ g.met.K.Task.only_now g.met.K.Task.sinks c.args.task.now

pub returns-then-ne-clause-cause : goal.returns-then-ne-clause-cause
returns-then-ne-clause-cause g c = cause_none g.K.Task.view g.K.Task.disk_faults g.K.Task.out_faults _ c.args.task.now c.args.task.now

pub returns-then-ne-clause-damage : goal.returns-then-ne-clause-damage
returns-then-ne-clause-damage g c = damage_none g.K.Task.view _ c.args.task.now c.args.task.now

pub returns-in-Ok-clause-loads : goal.returns-in-Ok-clause-loads
returns-in-Ok-clause-loads g c = record {
  moments = λ plan course offset items a. load_moments g.K.Task.view plan course offset items c.args.task.now c.ahead.new.self c.args.gathered.now.items a c.ahead.ensures.leaves;
  awaits = λ plan course offset items a. load_awaits g.K.Task.view plan course offset items c.args.task.now c.ahead.new.self c.args.gathered.now.items a c.ahead.ensures.leaves
      (c.in-Ok.ensures.running plan a.running) c.ahead.ensures.events c.ahead.ensures.stored c.ahead.ensures.keep;
  events = λ plan course offset items a. c.ahead.ensures.events;
  stopped = λ plan course offset items a. tt;
  next_stays = c.ahead.ensures.next_stays;
}

pub returns-in-Ok-clause-sustains : goal.returns-in-Ok-clause-sustains
returns-in-Ok-clause-sustains g c = record {
  node = λ plan n runs. c.in-Ok.ensures.node plan n runs;
  placed = λ plan placed. c.in-Ok.ensures.placed plan placed;
  going = λ going. c.in-Ok.ensures.going;
  goes = c.ahead.ensures.goes;
  log = λ plan held placed holds. files_held g.K.Task.view plan held c.args.task.now c.ahead.new.self (files_of g.K.Task.view c.args.task.now c.ahead.new.self c.ahead.ensures.leaves) holds;
  disk_faults_grow = c.ahead.ensures.disk_faults;
  out_faults_grow = omega (arith, c.ahead.ensures.out_faults);
}

pub returns-in-Ok-clause-cause : goal.returns-in-Ok-clause-cause
returns-in-Ok-clause-cause g c = cause_none g.K.Task.view g.K.Task.disk_faults g.K.Task.out_faults _ c.args.task.now c.ahead.new.self

pub returns-in-Ok-clause-damage : goal.returns-in-Ok-clause-damage
returns-in-Ok-clause-damage g c = damage_none g.K.Task.view _ c.args.task.now c.ahead.new.self

pub returns-in-Err-clause-loads : goal.returns-in-Err-clause-loads
returns-in-Err-clause-loads g c =
    let h = c.args.task.now in
    record {
      moments = λ plan course offset items a.
          let P = StaysOnCourse (g.K.Task.view.store plan) course [] in
          moments_then g.K.Task.view.clock g.K.Task.view.since h c.ahead.new.self c.stop.new.task P P P
          (load_moments g.K.Task.view plan course offset items h c.ahead.new.self c.args.gathered.now.items a c.ahead.ensures.leaves)
          (c.stop.ensures.stops.moments plan course (load_held g.K.Task.view plan course offset items h c.ahead.new.self c.args.gathered.now.items a c.ahead.ensures.leaves)) (λ w p. p) (λ w p. p);
      awaits = λ plan course offset items a. tt;
      events = λ plan course offset items a. tt;
      stopped = λ plan course offset items a. c.stop.ensures.stops.stopped plan course (load_held g.K.Task.view plan course offset items h c.ahead.new.self c.args.gathered.now.items a c.ahead.ensures.leaves);
      next_stays = ap (λ (x : State). x.next) c.stop.ensures.only.keeps.at_stays ∙ c.ahead.ensures.next_stays;
    }

pub returns-in-Err-clause-sustains : goal.returns-in-Err-clause-sustains
returns-in-Err-clause-sustains g c =
    let only = c.stop.ensures.only in
    record {
      node = λ plan n runs. tt;
      placed = λ plan placed. tt;
      going = λ going. tt;
      goes = g.K.Task.view.goes_join c.args.task.now c.ahead.new.self c.stop.new.task c.ahead.ensures.goes only.keeps.goes;
      log = λ plan held placed holds. held_then g.K.Task.view plan held c.args.task.now c.ahead.new.self c.stop.new.task
          (files_held g.K.Task.view plan held c.args.task.now c.ahead.new.self (files_of g.K.Task.view c.args.task.now c.ahead.new.self c.ahead.ensures.leaves) holds)
          (files_held g.K.Task.view plan held c.ahead.new.self c.stop.new.task only.files);
      disk_faults_grow = omega (arith, c.ahead.ensures.disk_faults, only.disk_faults_stay);
      out_faults_grow = omega (arith, c.ahead.ensures.out_faults, only.out_faults_grow);
    }

pub returns-in-Err-clause-cause : goal.returns-in-Err-clause-cause
returns-in-Err-clause-cause g c =
    let only = c.stop.ensures.only in
    record {
      write = λ is. subst (λ (n : ℕ). Rose n (g.K.Task.out_faults c.stop.new.task)) c.ahead.ensures.out_faults (write_of c.stop.result c.in-Err.fault c.stop.ensures.which is);
      disk = λ is. subst (λ (n : ℕ). Rose (g.K.Task.disk_faults c.args.task.now) n) (sym only.disk_faults_stay) (c.ahead.ensures.disk (c.in-Err.is ∙ ap (λ v. Err v) (task_of c.stop.result c.in-Err.fault task.Disk c.stop.ensures.which is)));
      ended = λ is. c.ahead.ensures.ended (c.in-Err.is ∙ ap (λ v. Err v) (task_of c.stop.result c.in-Err.fault task.Ended c.stop.ensures.which is));
    }

pub returns-in-Err-clause-damage : goal.returns-in-Err-clause-damage
returns-in-Err-clause-damage g c = record {
  damaged = λ p is. c.stop.ensures.only.keeps.illegal p (c.ahead.ensures.damaged p (c.in-Err.is ∙ ap (λ v. Err v) (task_of c.stop.result c.in-Err.fault (task.Damaged p) c.stop.ensures.which is)));
  undamaged = λ plan p placed is. c.ahead.ensures.undamaged plan p placed (c.in-Err.is ∙ ap (λ v. Err v) (task_of c.stop.result c.in-Err.fault (task.Damaged p) c.stop.ensures.which is));
}

pub returns-in-Err-clause-never_bad : goal.returns-in-Err-clause-never_bad
returns-in-Err-clause-never_bad g c = λ n is. load_others c.in-Err.fault c.in-Err.ensures.faults n (task_of c.stop.result c.in-Err.fault (task.BadState n) c.stop.ensures.which is)
