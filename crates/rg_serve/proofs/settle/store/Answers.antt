use Rattle.std.proofs.Common.{Err, List, [], ℕ, inr, sym, ◌∙◌, ap, subst, arith}
use Rattle.rg_host.proofs.Laws.{moments_then}
use Rattle.rg_event.specs.declared.event.Event.{Event}
use Rattle.rg_run_spec.specs.Laws.{IsPrefixOf}
use Rattle.rg_run_spec.specs.Stores.{IsNear}
use Rattle.rg_task.specs.State.{State}
use Rattle.rg_serve_spec.specs.Frames.{lines_in}
use Rattle.rg_serve_spec.specs.Errands.{course_of, StaysOnErrand}
use Rattle.rg_serve.specs.Serving.{IsWithin}
use Rattle.rg_serve.proofs.Within.{step_moments, step_halted, step_within}
use Rattle.rg_run.proofs.Laws.{files_held, held_then, log_held}
use Rattle.rg_serve.proofs.Carrying.{carries_done, carries_refused, carries_then, carries_failed, store_others, carries_first}
use Rattle.rg_serve.proofs.settle.store.Goals as goal

pub returns-in-Ok-commit-clause-settles : goal.returns-in-Ok-commit-clause-settles
returns-in-Ok-commit-clause-settles g c =
    let h = c.args.task.now in
    let put = c.flush.new.task in
    let last = c.commit.new.self in
    record {
      moments = λ plan e replies w.
          let w2 = subst (λ (l : List ℕ). IsWithin g.K.Task.view plan e replies put l) c.flush.ensures.empty (c.in-Ok.ensures.flushes.within plan e replies w) in
          let P = StaysOnErrand (g.K.Task.view.store plan) e [] in
          moments_then g.K.Task.view.clock g.K.Task.view.since h put last P P P (c.flush.ensures.flushes.moments plan e replies w)
          (step_moments g.K.Task.view plan e replies put last w2 (c.commit.ensures.within_step plan (g.K.Task.view.at put).keep w2.running)) (λ m p. p) (λ m p. p);
      within = λ plan e replies w.
          let w2 = subst (λ (l : List ℕ). IsWithin g.K.Task.view plan e replies put l) c.flush.ensures.empty (c.in-Ok.ensures.flushes.within plan e replies w) in
          let same = c.in-Ok-commit.ensures.events plan w2.running in
          subst (λ (l : List ℕ). IsWithin g.K.Task.view plan e replies last l) (sym c.flush.ensures.empty)
          (step_within g.K.Task.view plan e replies put last w2 (c.commit.ensures.within_step plan (g.K.Task.view.at put).keep w2.running) (c.in-Ok-commit.ensures.stored plan (g.K.Task.view.at put).keep w2.running) c.commit.ensures.keep (c.in-Ok-commit.ensures.running plan w2.running)
          (subst (λ (l : List Event). IsPrefixOf l (course_of e).accepted) (sym same) w2.begins) (subst (λ (l : List Event). IsNear (course_of e) (lines_in replies) l) (sym same) w2.near_events));
      halted = λ plan e replies w. tt;
      events = λ plan runs. c.in-Ok-commit.ensures.events plan (c.flush.ensures.only.keeps.running plan runs) ∙ ap (λ (x : State). x.events) c.flush.ensures.only.keeps.at_stays;
      done = λ plan runs. c.in-Ok-commit.ensures.all;
    }

pub returns-in-Err-commit-clause-settles : goal.returns-in-Err-commit-clause-settles
returns-in-Err-commit-clause-settles g c =
    let h = c.args.task.now in
    let put = c.flush.new.task in
    let last = c.commit.new.self in
    record {
      moments = λ plan e replies w.
          let w2 = subst (λ (l : List ℕ). IsWithin g.K.Task.view plan e replies put l) c.flush.ensures.empty (c.in-Ok.ensures.flushes.within plan e replies w) in
          let P = StaysOnErrand (g.K.Task.view.store plan) e [] in
          moments_then g.K.Task.view.clock g.K.Task.view.since h put last P P P (c.flush.ensures.flushes.moments plan e replies w)
          (step_moments g.K.Task.view plan e replies put last w2 (c.commit.ensures.within_step plan (g.K.Task.view.at put).keep w2.running)) (λ m p. p) (λ m p. p);
      within = λ plan e replies w. tt;
      halted = λ plan e replies w.
          let w2 = subst (λ (l : List ℕ). IsWithin g.K.Task.view plan e replies put l) c.flush.ensures.empty (c.in-Ok.ensures.flushes.within plan e replies w) in
          inr (step_halted g.K.Task.view plan e replies put last w2 (c.commit.ensures.within_step plan (g.K.Task.view.at put).keep w2.running));
      events = λ plan runs. tt;
      done = λ plan runs. tt;
    }

pub returns-in-Err-clause-carries : goal.returns-in-Err-clause-carries
returns-in-Err-clause-carries g c = carries_failed g.K.Task.view g.K.Task.disk_faults g.K.Task.out_faults c.args.task.now c.flush.new.task c.flush.ensures.only c.in-Err.fault c.in-Err.ensures.faults (c.in-Err.ensures.write (ap (λ f. Err f) c.in-Err.ensures.faults))

pub returns-in-Ok-commit-clause-carries : goal.returns-in-Ok-commit-clause-carries
returns-in-Ok-commit-clause-carries g c =
    let put = c.flush.new.task in
    let last = c.commit.new.self in
    let done = c.in-Ok-commit.ensures in
    carries_then g.K.Task.view g.K.Task.disk_faults g.K.Task.out_faults (λ f. f) (λ f. f) _ _ c.args.task.now put last (carries_first g.K.Task.view g.K.Task.disk_faults g.K.Task.out_faults c.args.task.now put c.flush.ensures.only)
    (carries_done g.K.Task.view g.K.Task.disk_faults g.K.Task.out_faults (λ f. f) _ put last done.running done.node done.placed (λ going. done.going) c.commit.ensures.goes
    (λ plan held placed holds. log_held g.K.Task.view plan held (g.K.Task.view.at put).chunk put last (c.commit.ensures.log_stays plan placed) holds) c.commit.ensures.disk_faults (omega (arith, c.commit.ensures.out_faults)))

pub returns-in-Err-commit-clause-carries : goal.returns-in-Err-commit-clause-carries
returns-in-Err-commit-clause-carries g c =
    let put = c.flush.new.task in
    let last = c.commit.new.self in
    let others = store_others c.in-Err-commit.fault c.in-Err-commit.ensures.faults in
    carries_then g.K.Task.view g.K.Task.disk_faults g.K.Task.out_faults (λ f. f) (λ f. f) _ _ c.args.task.now put last (carries_first g.K.Task.view g.K.Task.disk_faults g.K.Task.out_faults c.args.task.now put c.flush.ensures.only)
    (carries_refused g.K.Task.view g.K.Task.disk_faults g.K.Task.out_faults c.in-Err-commit.fault put last c.commit.ensures.goes
    (λ plan held placed holds. log_held g.K.Task.view plan held (g.K.Task.view.at put).chunk put last (c.commit.ensures.log_stays plan placed) holds) c.commit.ensures.disk_faults (omega (arith, c.commit.ensures.out_faults))
    (λ is. c.commit.ensures.disk (c.in-Err-commit.is ∙ ap (λ v. Err v) is)) (λ is. c.commit.ensures.ended (c.in-Err-commit.is ∙ ap (λ v. Err v) is)) (λ plan n runs is. others.0 n is) (λ plan p placed is. others.1 p is) (λ p is. absurd (others.1 p is)))
