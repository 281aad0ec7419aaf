use Rattle.std.proofs.Common.{[], inr, refl}
use Rattle.rg_host.proofs.Laws.{moments_then}
use Rattle.rg_pipe.specs.Handing.Given.{row}
use Rattle.rg_serve_spec.specs.Errands.{StaysOnErrand}
use Rattle.rg_serve.proofs.Replied.{replies, awaits_still}
use Rattle.rg_serve.proofs.Carrying.{carries_then}
use Rattle.rg_serve.proofs.decided.answer_control.Goals as goal

pub returns-in-Err-clause-answers : goal.returns-in-Err-clause-answers
returns-in-Err-clause-answers g c plan item asks =
    let old = c.args.task.now in
    let left = c.args.gathered.now.items in
    let given = row c.args.offset item in
    record {
      moments = λ e ahead a. c.load.ensures.loads.moments plan e (replies g.K.Task.view plan e given ahead old left a) a.within;
      awaits = λ e ahead a. tt;
      halted = λ e ahead a. c.in-Err.ensures.loads.halted plan e (replies g.K.Task.view plan e given ahead old left a) a.within;
    }

pub answer_decided-requires-clause-next : goal.answer_decided-requires-clause-next
answer_decided-requires-clause-next g c = rw c.load.ensures.loads.next_stays c.requires.next

pub returns-in-Ok-answer_decided-clause-answers : goal.returns-in-Ok-answer_decided-clause-answers
returns-in-Ok-answer_decided-clause-answers g c plan item asks =
    let old = c.args.task.now in
    let left = c.args.gathered.now.items in
    let given = row c.args.offset item in
    let answers = c.in-Ok-answer_decided.ensures.answers plan item (inr (c.args.control, asks, refl, c.due_asked-due.ensures)) in
    record {
      moments = λ e ahead a.
          let P = StaysOnErrand (g.K.Task.view.store plan) e [] in
          let w = c.in-Ok.ensures.loads.within plan e (replies g.K.Task.view plan e given ahead old left a) a.within in
          moments_then g.K.Task.view.clock g.K.Task.view.since old c.load.new.task c.answer_decided.new.task P P P (c.load.ensures.loads.moments plan e (replies g.K.Task.view plan e given ahead old left a) a.within)
          (answers.moments e ahead (awaits_still g.K.Task.view plan e given ahead old left a c.load.new.task c.load.new.gathered.items w c.in-Ok.ensures.loads.events)) (λ m p. p) (λ m p. p);
      awaits = λ e ahead a.
          let w = c.in-Ok.ensures.loads.within plan e (replies g.K.Task.view plan e given ahead old left a) a.within in
          answers.awaits e ahead (awaits_still g.K.Task.view plan e given ahead old left a c.load.new.task c.load.new.gathered.items w c.in-Ok.ensures.loads.events);
      halted = λ e ahead a. tt;
    }

pub returns-in-Err-answer_decided-clause-answers : goal.returns-in-Err-answer_decided-clause-answers
returns-in-Err-answer_decided-clause-answers g c plan item asks =
    let old = c.args.task.now in
    let left = c.args.gathered.now.items in
    let given = row c.args.offset item in
    let answers = c.in-Err-answer_decided.ensures.answers plan item (inr (c.args.control, asks, refl, c.due_asked-due.ensures)) in
    record {
      moments = λ e ahead a.
          let P = StaysOnErrand (g.K.Task.view.store plan) e [] in
          let w = c.in-Ok.ensures.loads.within plan e (replies g.K.Task.view plan e given ahead old left a) a.within in
          moments_then g.K.Task.view.clock g.K.Task.view.since old c.load.new.task c.answer_decided.new.task P P P (c.load.ensures.loads.moments plan e (replies g.K.Task.view plan e given ahead old left a) a.within)
          (answers.moments e ahead (awaits_still g.K.Task.view plan e given ahead old left a c.load.new.task c.load.new.gathered.items w c.in-Ok.ensures.loads.events)) (λ m p. p) (λ m p. p);
      awaits = λ e ahead a. tt;
      halted = λ e ahead a.
          let w = c.in-Ok.ensures.loads.within plan e (replies g.K.Task.view plan e given ahead old left a) a.within in
          answers.halted e ahead (awaits_still g.K.Task.view plan e given ahead old left a c.load.new.task c.load.new.gathered.items w c.in-Ok.ensures.loads.events);
    }

pub returns-in-Err-clause-carries : goal.returns-in-Err-clause-carries
returns-in-Err-clause-carries g c = c.in-Err.ensures.carries

pub returns-in-Ok-answer_decided-clause-carries : goal.returns-in-Ok-answer_decided-clause-carries
returns-in-Ok-answer_decided-clause-carries g c = carries_then g.K.Task.view g.K.Task.disk_faults g.K.Task.out_faults (λ f. f) (λ f. f) _ _ c.args.task.now c.load.new.task c.answer_decided.new.task c.in-Ok.ensures.carries c.in-Ok-answer_decided.ensures.carries

pub returns-in-Err-answer_decided-clause-carries : goal.returns-in-Err-answer_decided-clause-carries
returns-in-Err-answer_decided-clause-carries g c = carries_then g.K.Task.view g.K.Task.disk_faults g.K.Task.out_faults (λ f. f) (λ f. f) _ _ c.args.task.now c.load.new.task c.answer_decided.new.task c.in-Ok.ensures.carries c.in-Err-answer_decided.ensures.carries
