use Rattle.std.proofs.Common.{Err, inl, inr, refl, ap, arith}
use Rattle.rg_run.specs.Begun.{course_for}
use Rattle.rg_run.specs.declared.fault.RunFault.TheVariants as run
use Rattle.rg_run.proofs.Causes.{ok_never}
use Rattle.rg_run.proofs.Gathering.{keeps_none}
use Rattle.rg_run.proofs.Logged.{no_files}
use Rattle.rg_run.proofs.Turns.{stays, way_on}
use Rattle.rg_run.proofs.ahead.put_ahead.Goals as goal

pub returns-then-may_wait-clause-puts : goal.returns-then-may_wait-clause-puts
returns-then-may_wait-clause-puts g c = record {
  moments = λ plan b left reading way. stays g.K.Task.view g.met.K.Task.only_now g.met.K.Task.sinks plan b left reading _ _ c.args.task.now way;
  keeps = keeps_none g.K.Task.view c.args.task.now;
  files = no_files g.K.Task.view g.met.K.Task.only_now g.met.K.Task.sinks c.args.task.now;
  offset_stays = refl;
  disk_faults_stay = refl;
  out_faults_grow = omega arith;
}

pub returns-then-may_wait-clause-goes : goal.returns-then-may_wait-clause-goes
returns-then-may_wait-clause-goes g c = record {
  under_way = λ plan b left reading way. way;
  ahead = inr (c.may_wait.ensures c.if-may_wait.true);
  write = λ is. absurd (ok_never _ run.Write is);
  faults = tt;
}

pub returns-in-Ok-clause-puts : goal.returns-in-Ok-clause-puts
returns-in-Ok-clause-puts g c = record {
  moments = λ plan b left reading way. c.flush.ensures.moments plan (course_for plan b) way.items way.awaiting;
  keeps = c.flush.ensures.keeps;
  files = c.flush.ensures.files;
  offset_stays = c.flush.ensures.offset;
  disk_faults_stay = c.flush.ensures.disk_faults;
  out_faults_grow = c.flush.ensures.out_faults;
}

pub returns-in-Ok-clause-goes : goal.returns-in-Ok-clause-goes
returns-in-Ok-clause-goes g c =
    let t = c.args.turning.now in
    let u = c.flush.new.self in
    record {
      under_way = λ plan b left reading way. way_on g.K.Task.view plan b left reading t.offset u.offset c.args.task.now c.flush.new.task t.gathered.items u.gathered.items way
          c.flush.ensures.offset c.flush.ensures.keeps.at_stays (c.in-Ok.ensures.awaits plan (course_for plan b) way.items way.awaiting);
      ahead = inl c.flush.ensures.empty;
      write = λ is. absurd (ok_never _ run.Write is);
      faults = tt;
    }

pub returns-in-Err-clause-puts : goal.returns-in-Err-clause-puts
returns-in-Err-clause-puts g c = record {
  moments = λ plan b left reading way. c.flush.ensures.moments plan (course_for plan b) way.items way.awaiting;
  keeps = c.flush.ensures.keeps;
  files = c.flush.ensures.files;
  offset_stays = c.flush.ensures.offset;
  disk_faults_stay = c.flush.ensures.disk_faults;
  out_faults_grow = c.flush.ensures.out_faults;
}

pub returns-in-Err-clause-goes : goal.returns-in-Err-clause-goes
returns-in-Err-clause-goes g c = record {
  under_way = λ plan b left reading way. tt;
  ahead = tt;
  write = λ is. c.in-Err.ensures.write (ap (λ f. Err f) c.in-Err.ensures.faults);
  faults = refl;
}
