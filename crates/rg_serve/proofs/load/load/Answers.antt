use Rattle.std.proofs.Common.{Err, List, [], refl, sym, ◌∙◌, ap, subst, arith}
use Rattle.rg_host.proofs.Laws.{moments_then}
use Rattle.rg_event.specs.declared.event.Event.{Event}
use Rattle.rg_run_spec.specs.Laws.{IsPrefixOf}
use Rattle.rg_run_spec.specs.Stores.{IsNear}
use Rattle.rg_task.specs.State.{State}
use Rattle.rg_serve_spec.specs.Frames.{lines_in}
use Rattle.rg_serve_spec.specs.Errands.{course_of, StaysOnErrand}
use Rattle.rg_serve.proofs.Within.{still_moments, held_within, held_still, quiet_moments, quiet_within}
use Rattle.rg_run.proofs.Laws.{files_held, files_of, load_others}
use Rattle.rg_serve.proofs.Carrying.{carries_none, carries_done, carries_refused, carries_stop}
use Rattle.std.specs.Prelude.{⊤}
use Rattle.rg_run.specs.declared.fault.TurnFault.TheVariants as turn
use Rattle.rg_serve.proofs.load.load.Goals as goal

pub returns-then-ne-clause-loads : goal.returns-then-ne-clause-loads
returns-then-ne-clause-loads g c = record {
  moments = λ plan e replies w. still_moments g.K.Task.view plan e g.met.K.Task.only_now g.met.K.Task.sinks replies c.args.task.now c.args.gathered.now.items w;
  within = λ plan e replies w. w;
  halted = λ plan e replies w. tt;
  events = refl;
  next_stays = refl;
}

pub returns-in-Ok-clause-loads : goal.returns-in-Ok-clause-loads
returns-in-Ok-clause-loads g c =
    let old = c.args.task.now in
    let new = c.ahead.new.self in
    record {
      moments = λ plan e replies w. quiet_moments g.K.Task.view plan e old new c.args.gathered.now.items (held_within g.K.Task.view plan e replies old c.args.gathered.now.items w) c.ahead.ensures.leaves;
      within = λ plan e replies w.
          quiet_within g.K.Task.view plan e replies old new c.args.gathered.now.items c.ahead.ensures.leaves c.ahead.ensures.stored c.ahead.ensures.keep (c.in-Ok.ensures.running plan w.running)
          (subst (λ (l : List Event). IsPrefixOf l (course_of e).accepted) (sym c.ahead.ensures.events) w.begins) (subst (λ (l : List Event). IsNear (course_of e) (lines_in replies) l) (sym c.ahead.ensures.events) w.near_events) w;
      halted = λ plan e replies w. tt;
      events = c.ahead.ensures.events;
      next_stays = c.ahead.ensures.next_stays;
    }

pub returns-in-Err-clause-loads : goal.returns-in-Err-clause-loads
returns-in-Err-clause-loads g c =
    let old = c.args.task.now in
    let new = c.ahead.new.self in
    let last = c.stop.new.task in
    record {
      moments = λ plan e replies w.
          let held = held_within g.K.Task.view plan e replies old c.args.gathered.now.items w in
          let P = StaysOnErrand (g.K.Task.view.store plan) e [] in
          moments_then g.K.Task.view.clock g.K.Task.view.since old new last P P P (quiet_moments g.K.Task.view plan e old new c.args.gathered.now.items held c.ahead.ensures.leaves)
          (c.stop.ensures.stops.moments plan e (held_still g.K.Task.view plan e old new c.args.gathered.now.items held c.ahead.ensures.leaves)) (λ m p. p) (λ m p. p);
      within = λ plan e replies w. tt;
      halted = λ plan e replies w.
          let held = held_within g.K.Task.view plan e replies old c.args.gathered.now.items w in
          c.stop.ensures.stops.halted plan e (held_still g.K.Task.view plan e old new c.args.gathered.now.items held c.ahead.ensures.leaves);
      events = tt;
      next_stays = ap (λ (x : State). x.next) c.stop.ensures.only.keeps.at_stays ∙ c.ahead.ensures.next_stays;
    }

pub returns-then-ne-clause-carries : goal.returns-then-ne-clause-carries
returns-then-ne-clause-carries g c = carries_none g.K.Task.view g.K.Task.disk_faults g.K.Task.out_faults (λ f. f) _ g.met.K.Task.only_now g.met.K.Task.sinks c.args.task.now

pub returns-in-Ok-clause-carries : goal.returns-in-Ok-clause-carries
returns-in-Ok-clause-carries g c =
    let done = c.in-Ok.ensures in
    carries_done g.K.Task.view g.K.Task.disk_faults g.K.Task.out_faults (λ f. f) _ c.args.task.now c.ahead.new.self done.running done.node done.placed (λ going. done.going) c.ahead.ensures.goes
    (λ plan held placed holds. files_held g.K.Task.view plan held c.args.task.now c.ahead.new.self (files_of g.K.Task.view c.args.task.now c.ahead.new.self c.ahead.ensures.leaves) holds) c.ahead.ensures.disk_faults (omega (arith, c.ahead.ensures.out_faults))

pub returns-in-Err-clause-carries : goal.returns-in-Err-clause-carries
returns-in-Err-clause-carries g c =
    carries_stop g.K.Task.view g.K.Task.disk_faults g.K.Task.out_faults c.stop.result (turn.Task c.in-Err.fault) c.args.task.now c.ahead.new.self c.stop.new.task
    (carries_refused g.K.Task.view g.K.Task.disk_faults g.K.Task.out_faults {A = ⊤} c.in-Err.fault c.args.task.now c.ahead.new.self c.ahead.ensures.goes
    (λ plan held placed holds. files_held g.K.Task.view plan held c.args.task.now c.ahead.new.self (files_of g.K.Task.view c.args.task.now c.ahead.new.self c.ahead.ensures.leaves) holds) c.ahead.ensures.disk_faults (omega (arith, c.ahead.ensures.out_faults))
    (λ is. c.ahead.ensures.disk (c.in-Err.is ∙ ap (λ v. Err v) is)) (λ is. c.ahead.ensures.ended (c.in-Err.is ∙ ap (λ v. Err v) is)) (λ plan n runs is. load_others c.in-Err.fault c.in-Err.ensures.faults n is)
    (λ plan p placed is. c.ahead.ensures.undamaged plan p placed (c.in-Err.is ∙ ap (λ v. Err v) is)) (λ p is. c.ahead.ensures.damaged p (c.in-Err.is ∙ ap (λ v. Err v) is)))
    c.stop.ensures.only c.stop.ensures.which
