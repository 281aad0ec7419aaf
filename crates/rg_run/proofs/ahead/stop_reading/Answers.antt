use Rattle.std.proofs.Common.{Err, inl, inr, refl, ap}
use Rattle.rg_run.specs.Begun.{course_for}
use Rattle.rg_run.proofs.Turns.{way_on}
use Rattle.rg_run.proofs.ahead.stop_reading.Goals as goal

pub returns-in-Ok-clause-puts : goal.returns-in-Ok-clause-puts
returns-in-Ok-clause-puts g c = record {
  moments = λ plan b left reading way. c.flush.ensures.moments plan (course_for plan b) way.items way.awaiting;
  keeps = c.flush.ensures.keeps;
  files = c.flush.ensures.files;
  offset_stays = c.flush.ensures.offset;
  disk_faults_stay = c.flush.ensures.disk_faults;
  out_faults_grow = c.flush.ensures.out_faults;
}

pub returns-in-Ok-clause-stops : goal.returns-in-Ok-clause-stops
returns-in-Ok-clause-stops g c =
    let t = c.args.turning.now in
    let u = c.flush.new.self in
    record {
      under_way = λ plan b left reading way. inr (
        refl,
        rw (← c.flush.ensures.empty) (way_on g.K.Task.view plan b left reading t.offset u.offset c.args.task.now c.flush.new.task t.gathered.items u.gathered.items way
            c.flush.ensures.offset c.flush.ensures.keeps.at_stays (c.in-Ok.ensures.awaits plan (course_for plan b) way.items way.awaiting)),
      );
      which = inl refl;
    }

pub returns-in-Err-clause-puts : goal.returns-in-Err-clause-puts
returns-in-Err-clause-puts g c = record {
  moments = λ plan b left reading way. c.flush.ensures.moments plan (course_for plan b) way.items way.awaiting;
  keeps = c.flush.ensures.keeps;
  files = c.flush.ensures.files;
  offset_stays = c.flush.ensures.offset;
  disk_faults_stay = c.flush.ensures.disk_faults;
  out_faults_grow = c.flush.ensures.out_faults;
}

pub returns-in-Err-clause-stops : goal.returns-in-Err-clause-stops
returns-in-Err-clause-stops g c = record {
  under_way = λ plan b left reading way. inl refl;
  which = inr (refl, c.in-Err.ensures.write (ap (λ f. Err f) c.in-Err.ensures.faults));
}
