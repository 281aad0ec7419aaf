use Rattle.std.proofs.Common.{true, arith}
use Rattle.rg_config.specs.Plans.{planned}
use Rattle.rg_serve.specs.Coming.{IsComing}
use Rattle.rg_serve.proofs.Going.{replies_done, stays_under, serves_end, serves_fault, comes_on, comes_over, comes_fault}
use Rattle.rg_serve.proofs.Within.{still_moments}
use Rattle.rg_serve.specs.declared.fault.ServeFault.TheVariants.{Turn}
use Rattle.rg_serve.proofs.Carrying.{carries_none, carries_then, carries_ok, carries_on}
use Rattle.rg_serve.proofs.running.answer_all.Goals as goal

pub requests-init : goal.requests-init
requests-init g c = record {
  can = c.requires.can;
  serves = λ e requests rest asked u. record {
    moments = still_moments g.K.Task.view (planned c.args.plan.now) e g.met.K.Task.only_now g.met.K.Task.sinks (replies_done g.K.Task.view (planned c.args.plan.now) e u.awaiting.done) c.args.task.now c.args.gathered.now.items u.awaiting.within;
    under = u;
  };
  comes = λ first requests rest coming. coming;
  taken = λ start t. t;
  later = omega arith;
  carries = carries_none g.K.Task.view g.K.Task.disk_faults g.K.Task.out_faults Turn true g.met.K.Task.only_now g.met.K.Task.sinks c.args.task.now;
}

pub requests-preserved : goal.requests-preserved
requests-preserved g c =
    let plan = planned c.args.plan.now in
    let was = c.requests.invariant in
    let more = c.in-Ok-true.field-0-test in
    record {
      can = c.in-Ok-true.ensures.on.can more;
      serves = λ e requests rest asked u.
          let stays = was.serves e requests rest asked u in
          stays_under g.K.Task.view plan e requests rest _ _ _ _ c.args.task.now c.requests.task c.turn.new.task stays.moments _ more (c.in-Ok-true.ensures.serves e requests rest asked stays.under);
      comes = λ first requests rest coming. comes_on requests rest _ _ more (c.in-Ok-true.ensures.comes first requests rest (was.comes first requests rest coming));
      taken = λ start t. c.turn.ensures.taken start (was.taken start t);
      later = omega (arith, was.later, c.turn.ensures.reads.later);
      carries = carries_then g.K.Task.view g.K.Task.disk_faults g.K.Task.out_faults Turn Turn _ _ c.args.task.now c.requests.task c.turn.new.task was.carries
          (carries_ok g.K.Task.view g.K.Task.disk_faults g.K.Task.out_faults Turn Turn _ true c.requests.task c.turn.new.task c.in-Ok-true.ensures.carries);
    }

pub returns-in-Ok-false-clause-serves : goal.returns-in-Ok-false-clause-serves
returns-in-Ok-false-clause-serves g c e requests rest asked u =
    let stays = c.requests.invariant.serves e requests rest asked u in
    serves_end g.K.Task.view (planned c.args.plan.now) e requests rest _ _ _ _ c.args.task.now c.requests.task c.turn.new.task stays.moments tt _ c.in-Ok-false.field-0-test (c.in-Ok-false.ensures.serves e requests rest asked stays.under)

pub returns-in-Ok-false-clause-comes : goal.returns-in-Ok-false-clause-comes
returns-in-Ok-false-clause-comes g c first requests rest coming = comes_over requests rest _ _ c.in-Ok-false.field-0-test (c.in-Ok-false.ensures.comes first requests rest (c.requests.invariant.comes first requests rest coming))

pub returns-in-Err-clause-serves : goal.returns-in-Err-clause-serves
returns-in-Err-clause-serves g c e requests rest asked u =
    let stays = c.requests.invariant.serves e requests rest asked u in
    serves_fault g.K.Task.view (planned c.args.plan.now) e requests rest _ _ _ _ c.args.task.now c.requests.task c.turn.new.task stays.moments c.in-Err.fault (c.in-Err.ensures.serves e requests rest asked stays.under)

pub returns-in-Err-clause-comes : goal.returns-in-Err-clause-comes
returns-in-Err-clause-comes g c first requests rest coming = comes_fault requests rest (IsComing first requests rest (g.I.Source.left c.turn.new.input) c.turn.new.pipe c.turn.new.intake.held) c.in-Err.fault (c.in-Err.ensures.comes first requests rest (c.requests.invariant.comes first requests rest coming))

pub returns-in-Ok-false-clause-carries : goal.returns-in-Ok-false-clause-carries
returns-in-Ok-false-clause-carries g c =
    carries_then g.K.Task.view g.K.Task.disk_faults g.K.Task.out_faults Turn Turn _ _ c.args.task.now c.requests.task c.turn.new.task c.requests.invariant.carries (carries_ok g.K.Task.view g.K.Task.disk_faults g.K.Task.out_faults Turn Turn _ _ c.requests.task c.turn.new.task c.in-Ok-false.ensures.carries)

pub returns-in-Err-clause-carries : goal.returns-in-Err-clause-carries
returns-in-Err-clause-carries g c =
    carries_then g.K.Task.view g.K.Task.disk_faults g.K.Task.out_faults Turn Turn _ _ c.args.task.now c.requests.task c.turn.new.task c.requests.invariant.carries (carries_on g.K.Task.view g.K.Task.disk_faults g.K.Task.out_faults c.in-Err.fault c.requests.task c.turn.new.task c.in-Err.ensures.carries)
