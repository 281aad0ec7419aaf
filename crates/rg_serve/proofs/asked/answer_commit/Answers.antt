use Rattle.std.proofs.Common.{List, [], ℕ, sym, subst}
use Rattle.rg_host.proofs.Laws.{moments_then}
use Rattle.rg_pipe.specs.Handing.Given.{commits}
use Rattle.rg_serve_spec.specs.Errands.{StaysOnErrand}
use Rattle.rg_serve.specs.Serving.{IsHeld}
use Rattle.rg_serve.proofs.Marking.{commit_answered}
use Rattle.rg_serve.proofs.Replied.{replies}
use Rattle.rg_serve.proofs.Within.{held_within}
use Rattle.std.specs.Prelude.{⊤}
use Rattle.rg_serve.proofs.Carrying.{carries_then, carries_memory, carries_stop}
use Rattle.rg_serve.proofs.asked.answer_commit.Goals as goal

pub returns-in-Err-clause-answers : goal.returns-in-Err-clause-answers
returns-in-Err-clause-answers g c plan =
    let old = c.args.task.now in
    let left = c.args.gathered.now.items in
    record {
      moments = λ e ahead a. c.settle.ensures.settles.moments plan e (replies g.K.Task.view plan e commits ahead old left a) a.within;
      awaits = λ e ahead a. tt;
      halted = λ e ahead a. c.in-Err.ensures.settles.halted plan e (replies g.K.Task.view plan e commits ahead old left a) a.within;
    }

pub returns-in-Ok-tell_marks-clause-answers : goal.returns-in-Ok-tell_marks-clause-answers
returns-in-Ok-tell_marks-clause-answers g c plan =
    let old = c.args.task.now in
    let left = c.args.gathered.now.items in
    record {
      moments = λ e ahead a. c.settle.ensures.settles.moments plan e (replies g.K.Task.view plan e commits ahead old left a) a.within;
      awaits = λ e ahead a.
          commit_answered g.K.Task.view plan e ahead old left c.settle.new.task c.settle.new.gathered.items c.tell_marks.new.gathered.items a
          (c.in-Ok.ensures.settles.within plan e (replies g.K.Task.view plan e commits ahead old left a) a.within) (c.in-Ok.ensures.settles.events plan a.within.running) (c.in-Ok.ensures.settles.done plan a.within.running)
          c.tell_marks.ensures.counted c.in-Ok-tell_marks.ensures.gathers.all c.in-Ok-tell_marks.ensures.gathers.small;
      halted = λ e ahead a. tt;
    }

pub returns-in-Err-tell_marks-clause-answers : goal.returns-in-Err-tell_marks-clause-answers
returns-in-Err-tell_marks-clause-answers g c plan =
    let old = c.args.task.now in
    let left = c.args.gathered.now.items in
    let mid = c.settle.new.task in
    record {
      moments = λ e ahead a.
          let rs = replies g.K.Task.view plan e commits ahead old left a in
          let P = StaysOnErrand (g.K.Task.view.store plan) e [] in
          let held = held_within g.K.Task.view plan e rs mid c.settle.new.gathered.items (c.in-Ok.ensures.settles.within plan e rs a.within) in
          moments_then g.K.Task.view.clock g.K.Task.view.since old mid c.stop.new.task P P P (c.settle.ensures.settles.moments plan e rs a.within)
          (c.stop.ensures.stops.moments plan e (subst (λ (l : List ℕ). IsHeld g.K.Task.view plan e mid l) (sym c.in-Err-tell_marks.ensures.gathers.none) held)) (λ m p. p) (λ m p. p);
      awaits = λ e ahead a. tt;
      halted = λ e ahead a.
          let rs = replies g.K.Task.view plan e commits ahead old left a in
          let held = held_within g.K.Task.view plan e rs mid c.settle.new.gathered.items (c.in-Ok.ensures.settles.within plan e rs a.within) in
          c.stop.ensures.stops.halted plan e (subst (λ (l : List ℕ). IsHeld g.K.Task.view plan e mid l) (sym c.in-Err-tell_marks.ensures.gathers.none) held);
    }

pub returns-in-Err-clause-carries : goal.returns-in-Err-clause-carries
returns-in-Err-clause-carries g c = c.in-Err.ensures.carries

pub returns-in-Ok-tell_marks-clause-carries : goal.returns-in-Ok-tell_marks-clause-carries
returns-in-Ok-tell_marks-clause-carries g c = c.in-Ok.ensures.carries

pub returns-in-Err-tell_marks-clause-carries : goal.returns-in-Err-tell_marks-clause-carries
returns-in-Err-tell_marks-clause-carries g c =
    carries_then g.K.Task.view g.K.Task.disk_faults g.K.Task.out_faults (λ f. f) (λ f. f) _ _ c.args.task.now c.settle.new.task c.stop.new.task c.in-Ok.ensures.carries
    (carries_stop g.K.Task.view g.K.Task.disk_faults g.K.Task.out_faults c.stop.result c.in-Err-tell_marks.fault c.settle.new.task c.settle.new.task c.stop.new.task
    (carries_memory g.K.Task.view g.K.Task.disk_faults g.K.Task.out_faults {A = ⊤} c.in-Err-tell_marks.fault c.in-Err-tell_marks.ensures.gathers.fault g.met.K.Task.only_now g.met.K.Task.sinks c.settle.new.task) c.stop.ensures.only c.stop.ensures.which)
