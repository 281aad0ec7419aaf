use Rattle.std.proofs.Common.{Ok, Err, List, [], ℕ, inl, ⊎_elim, ◌≤◌, length, sym, ◌∙◌, ap, subst, arith}
use Rattle.rg_host.specs.Moments.{Moments}
use Rattle.rg_host.proofs.Laws.{moments_then}
use Rattle.rg_event.specs.declared.event.Event.{Event}
use Rattle.rg_config.specs.Plans.{planned}
use Rattle.rg_pipe.specs.Handing.Given.{row}
use Rattle.rg_task.specs.State.{State}
use Rattle.rg_serve_spec.specs.Errands.{StaysOnErrand}
use Rattle.rg_serve.specs.Serving.{IsHeld, IsAwaiting}
use Rattle.rg_serve.proofs.Replied.{replies, awaits_still}
use Rattle.rg_serve.proofs.Rows.{row_within, row_answered}
use Rattle.rg_serve.proofs.Within.{held_within, line_moments, line_held}
use Rattle.std.specs.Prelude.{⊤}
use Rattle.rg_run.specs.declared.fault.TurnFault.TheVariants as turn
use Rattle.rg_run.proofs.Laws.{log_held}
use Rattle.rg_serve.specs.Calls.{Carries}
use Rattle.rg_serve.proofs.Carrying.{carries_done, carries_refused, carries_then, carries_failed, carries_memory, carries_stop, carries_first}
use Rattle.rg_serve.proofs.row.answer_row.Goals as goal

pub line-requires-clause-next : goal.line-requires-clause-next
line-requires-clause-next g c = rw (ap (λ (x : State). x.next) c.make_way.ensures.only.keeps.at_stays) c.requires.next

pub returns-in-Err-clause-answers : goal.returns-in-Err-clause-answers
returns-in-Err-clause-answers g c item reads =
    let plan = planned c.args.plan.now in
    let old = c.args.task.now in
    let left0 = c.args.gathered.now.items in
    let given = row c.args.offset item in
    record {
      moments = λ e ahead a. c.make_way.ensures.flushes.moments plan e (replies g.K.Task.view plan e given ahead old left0 a) a.within;
      awaits = λ e ahead a. tt;
      halted = λ e ahead a. inl c.in-Err.ensures.faults;
    }

pub returns-in-Err-line-clause-answers : goal.returns-in-Err-line-clause-answers
returns-in-Err-line-clause-answers g c item reads =
    let plan = planned c.args.plan.now in
    let old = c.args.task.now in
    let left0 = c.args.gathered.now.items in
    let given = row c.args.offset item in
    let mid = c.make_way.new.task in
    let left = c.make_way.new.gathered.items in
    let taken = c.line.new.self in
    record {
      moments = λ e ahead a.
          let rs = replies g.K.Task.view plan e given ahead old left0 a in
          let w1 = c.in-Ok.ensures.flushes.within plan e rs a.within in
          let P = StaysOnErrand (g.K.Task.view.store plan) e [] in
          moments_then g.K.Task.view.clock g.K.Task.view.since old taken c.stop.new.task P P P
          (moments_then g.K.Task.view.clock g.K.Task.view.since old mid taken P P P (c.make_way.ensures.flushes.moments plan e rs a.within)
          (line_moments g.K.Task.view plan e rs mid taken left w1 c.in-Ok.ensures.way (c.line.ensures.within_step plan (g.K.Task.view.at mid).keep w1.running) c.line.ensures.roomy) (λ m p. p) (λ m p. p))
          (c.stop.ensures.stops.moments plan e (line_held g.K.Task.view plan e rs mid taken left w1 c.in-Ok.ensures.way (c.line.ensures.within_step plan (g.K.Task.view.at mid).keep w1.running) c.line.ensures.roomy)) (λ m p. p) (λ m p. p);
      awaits = λ e ahead a. tt;
      halted = λ e ahead a.
          let rs = replies g.K.Task.view plan e given ahead old left0 a in
          let w1 = c.in-Ok.ensures.flushes.within plan e rs a.within in
          c.stop.ensures.stops.halted plan e (line_held g.K.Task.view plan e rs mid taken left w1 c.in-Ok.ensures.way (c.line.ensures.within_step plan (g.K.Task.view.at mid).keep w1.running) c.line.ensures.roomy);
    }

pub returns-in-Err-settle-clause-answers : goal.returns-in-Err-settle-clause-answers
returns-in-Err-settle-clause-answers g c item reads =
    let plan = planned c.args.plan.now in
    let old = c.args.task.now in
    let left0 = c.args.gathered.now.items in
    let given = row c.args.offset item in
    let mid = c.make_way.new.task in
    let left = c.make_way.new.gathered.items in
    let taken = c.line.new.self in
    record {
      moments = λ e ahead a.
          let rs = replies g.K.Task.view plan e given ahead old left0 a in
          let w1 = c.in-Ok.ensures.flushes.within plan e rs a.within in
          let a1 = awaits_still g.K.Task.view plan e given ahead old left0 a mid left w1 (ap (λ (x : State). x.events) c.make_way.ensures.only.keeps.at_stays) in
          let low : (g.K.Task.view.at mid).next ≤ c.args.offset = rw (ap (λ (x : State). x.next) c.make_way.ensures.only.keeps.at_stays) c.requires.next in
          let w2 = row_within g.K.Task.view plan e c.args.offset item ahead mid left a1 c.requires.small low taken c.args.line.now reads c.in-Ok.ensures.way (c.line.ensures.within_step plan (g.K.Task.view.at mid).keep w1.running) c.line.ensures.roomy
          (c.in-Ok-line.ensures.stored plan (g.K.Task.view.at mid).keep w1.running) c.line.ensures.keep (c.in-Ok-line.ensures.running plan w1.running) (c.in-Ok-line.ensures.events plan w1.running) in
          let P = StaysOnErrand (g.K.Task.view.store plan) e [] in
          moments_then g.K.Task.view.clock g.K.Task.view.since old taken c.settle.new.task P P P
          (moments_then g.K.Task.view.clock g.K.Task.view.since old mid taken P P P (c.make_way.ensures.flushes.moments plan e rs a.within)
          (line_moments g.K.Task.view plan e rs mid taken left w1 c.in-Ok.ensures.way (c.line.ensures.within_step plan (g.K.Task.view.at mid).keep w1.running) c.line.ensures.roomy) (λ m p. p) (λ m p. p))
          (c.settle.ensures.settles.moments plan e rs w2) (λ m p. p) (λ m p. p);
      awaits = λ e ahead a. tt;
      halted = λ e ahead a.
          let rs = replies g.K.Task.view plan e given ahead old left0 a in
          let w1 = c.in-Ok.ensures.flushes.within plan e rs a.within in
          let a1 = awaits_still g.K.Task.view plan e given ahead old left0 a mid left w1 (ap (λ (x : State). x.events) c.make_way.ensures.only.keeps.at_stays) in
          let low : (g.K.Task.view.at mid).next ≤ c.args.offset = rw (ap (λ (x : State). x.next) c.make_way.ensures.only.keeps.at_stays) c.requires.next in
          let w2 = row_within g.K.Task.view plan e c.args.offset item ahead mid left a1 c.requires.small low taken c.args.line.now reads c.in-Ok.ensures.way (c.line.ensures.within_step plan (g.K.Task.view.at mid).keep w1.running) c.line.ensures.roomy
          (c.in-Ok-line.ensures.stored plan (g.K.Task.view.at mid).keep w1.running) c.line.ensures.keep (c.in-Ok-line.ensures.running plan w1.running) (c.in-Ok-line.ensures.events plan w1.running) in
          c.in-Err-settle.ensures.settles.halted plan e rs w2;
    }

pub returns-in-Ok-tell_line-clause-answers : goal.returns-in-Ok-tell_line-clause-answers
returns-in-Ok-tell_line-clause-answers g c item reads =
    let plan = planned c.args.plan.now in
    let old = c.args.task.now in
    let left0 = c.args.gathered.now.items in
    let given = row c.args.offset item in
    let mid = c.make_way.new.task in
    let left = c.make_way.new.gathered.items in
    let taken = c.line.new.self in
    let settled = c.settle.new.task in
    record {
      moments = λ e ahead a.
          let rs = replies g.K.Task.view plan e given ahead old left0 a in
          let w1 = c.in-Ok.ensures.flushes.within plan e rs a.within in
          let step = c.line.ensures.within_step plan (g.K.Task.view.at mid).keep w1.running in
          let a1 = awaits_still g.K.Task.view plan e given ahead old left0 a mid left w1 (ap (λ (x : State). x.events) c.make_way.ensures.only.keeps.at_stays) in
          let low : (g.K.Task.view.at mid).next ≤ c.args.offset = rw (ap (λ (x : State). x.next) c.make_way.ensures.only.keeps.at_stays) c.requires.next in
          let after = c.in-Ok-line.ensures.events plan w1.running in
          let running = c.in-Ok-line.ensures.running plan w1.running in
          let w2 = row_within g.K.Task.view plan e c.args.offset item ahead mid left a1 c.requires.small low taken c.args.line.now reads c.in-Ok.ensures.way step c.line.ensures.roomy
          (c.in-Ok-line.ensures.stored plan (g.K.Task.view.at mid).keep w1.running) c.line.ensures.keep running after in
          let P = StaysOnErrand (g.K.Task.view.store plan) e [] in
          let moments = moments_then g.K.Task.view.clock g.K.Task.view.since old taken settled P P P
          (moments_then g.K.Task.view.clock g.K.Task.view.since old mid taken P P P (c.make_way.ensures.flushes.moments plan e rs a.within)
          (line_moments g.K.Task.view plan e rs mid taken left w1 c.in-Ok.ensures.way step c.line.ensures.roomy) (λ m p. p) (λ m p. p))
          (c.settle.ensures.settles.moments plan e rs w2) (λ m p. p) (λ m p. p) in
          let w3 = c.in-Ok-settle.ensures.settles.within plan e rs w2 in
          subst (λ (x : g.row.K.Denot). Moments g.K.Task.view.clock g.K.Task.view.since old x P) (sym c.reuse.ensures) moments;
      awaits = λ e ahead a.
          let rs = replies g.K.Task.view plan e given ahead old left0 a in
          let w1 = c.in-Ok.ensures.flushes.within plan e rs a.within in
          let step = c.line.ensures.within_step plan (g.K.Task.view.at mid).keep w1.running in
          let a1 = awaits_still g.K.Task.view plan e given ahead old left0 a mid left w1 (ap (λ (x : State). x.events) c.make_way.ensures.only.keeps.at_stays) in
          let low : (g.K.Task.view.at mid).next ≤ c.args.offset = rw (ap (λ (x : State). x.next) c.make_way.ensures.only.keeps.at_stays) c.requires.next in
          let after = c.in-Ok-line.ensures.events plan w1.running in
          let running = c.in-Ok-line.ensures.running plan w1.running in
          let w2 = row_within g.K.Task.view plan e c.args.offset item ahead mid left a1 c.requires.small low taken c.args.line.now reads c.in-Ok.ensures.way step c.line.ensures.roomy
          (c.in-Ok-line.ensures.stored plan (g.K.Task.view.at mid).keep w1.running) c.line.ensures.keep running after in
          let P = StaysOnErrand (g.K.Task.view.store plan) e [] in
          let moments = moments_then g.K.Task.view.clock g.K.Task.view.since old taken settled P P P
          (moments_then g.K.Task.view.clock g.K.Task.view.since old mid taken P P P (c.make_way.ensures.flushes.moments plan e rs a.within)
          (line_moments g.K.Task.view plan e rs mid taken left w1 c.in-Ok.ensures.way step c.line.ensures.roomy) (λ m p. p) (λ m p. p))
          (c.settle.ensures.settles.moments plan e rs w2) (λ m p. p) (λ m p. p) in
          let w3 = c.in-Ok-settle.ensures.settles.within plan e rs w2 in
          subst (λ (x : g.row.K.Denot). IsAwaiting g.K.Task.view plan e ahead x c.tell_line.new.gathered.items) (sym c.reuse.ensures)
          (row_answered g.K.Task.view plan e c.args.offset item ahead mid left a1 c.requires.small low settled c.settle.new.gathered.items c.tell_line.new.gathered.items w3 c.in-Ok-line.reply c.due_at-due.result
          (c.in-Ok-settle.ensures.settles.done plan running) c.in-Ok-tell_line.ensures.gathers.all c.in-Ok-tell_line.ensures.gathers.small c.args.line.now reads (c.in-Ok-settle.ensures.settles.events plan running ∙ after)
          (c.in-Ok-line.ensures.reply plan w1.running) c.count-before.result c.count.result c.count-before.ensures (c.count.ensures ∙ ap (λ (l : List Event). length l) after) c.due_at-due.ensures);
      halted = λ e ahead a. tt;
    }

pub returns-in-Err-tell_line-clause-answers : goal.returns-in-Err-tell_line-clause-answers
returns-in-Err-tell_line-clause-answers g c item reads =
    let plan = planned c.args.plan.now in
    let old = c.args.task.now in
    let left0 = c.args.gathered.now.items in
    let given = row c.args.offset item in
    let mid = c.make_way.new.task in
    let left = c.make_way.new.gathered.items in
    let taken = c.line.new.self in
    let settled = c.settle.new.task in
    let last = c.stop-in-Err-tell_line.new.task in
    record {
      moments = λ e ahead a.
          let rs = replies g.K.Task.view plan e given ahead old left0 a in
          let w1 = c.in-Ok.ensures.flushes.within plan e rs a.within in
          let step = c.line.ensures.within_step plan (g.K.Task.view.at mid).keep w1.running in
          let a1 = awaits_still g.K.Task.view plan e given ahead old left0 a mid left w1 (ap (λ (x : State). x.events) c.make_way.ensures.only.keeps.at_stays) in
          let low : (g.K.Task.view.at mid).next ≤ c.args.offset = rw (ap (λ (x : State). x.next) c.make_way.ensures.only.keeps.at_stays) c.requires.next in
          let after = c.in-Ok-line.ensures.events plan w1.running in
          let running = c.in-Ok-line.ensures.running plan w1.running in
          let w2 = row_within g.K.Task.view plan e c.args.offset item ahead mid left a1 c.requires.small low taken c.args.line.now reads c.in-Ok.ensures.way step c.line.ensures.roomy
          (c.in-Ok-line.ensures.stored plan (g.K.Task.view.at mid).keep w1.running) c.line.ensures.keep running after in
          let P = StaysOnErrand (g.K.Task.view.store plan) e [] in
          let moments = moments_then g.K.Task.view.clock g.K.Task.view.since old taken settled P P P
          (moments_then g.K.Task.view.clock g.K.Task.view.since old mid taken P P P (c.make_way.ensures.flushes.moments plan e rs a.within)
          (line_moments g.K.Task.view plan e rs mid taken left w1 c.in-Ok.ensures.way step c.line.ensures.roomy) (λ m p. p) (λ m p. p))
          (c.settle.ensures.settles.moments plan e rs w2) (λ m p. p) (λ m p. p) in
          let w3 = c.in-Ok-settle.ensures.settles.within plan e rs w2 in
          let held = subst (λ (l : List ℕ). IsHeld g.K.Task.view plan e settled l) (sym c.in-Err-tell_line.ensures.gathers.none) (held_within g.K.Task.view plan e rs settled c.settle.new.gathered.items w3) in
          moments_then g.K.Task.view.clock g.K.Task.view.since old settled last P P P moments (c.stop-in-Err-tell_line.ensures.stops.moments plan e held) (λ m p. p) (λ m p. p);
      awaits = λ e ahead a. tt;
      halted = λ e ahead a.
          let rs = replies g.K.Task.view plan e given ahead old left0 a in
          let w1 = c.in-Ok.ensures.flushes.within plan e rs a.within in
          let step = c.line.ensures.within_step plan (g.K.Task.view.at mid).keep w1.running in
          let a1 = awaits_still g.K.Task.view plan e given ahead old left0 a mid left w1 (ap (λ (x : State). x.events) c.make_way.ensures.only.keeps.at_stays) in
          let low : (g.K.Task.view.at mid).next ≤ c.args.offset = rw (ap (λ (x : State). x.next) c.make_way.ensures.only.keeps.at_stays) c.requires.next in
          let after = c.in-Ok-line.ensures.events plan w1.running in
          let running = c.in-Ok-line.ensures.running plan w1.running in
          let w2 = row_within g.K.Task.view plan e c.args.offset item ahead mid left a1 c.requires.small low taken c.args.line.now reads c.in-Ok.ensures.way step c.line.ensures.roomy
          (c.in-Ok-line.ensures.stored plan (g.K.Task.view.at mid).keep w1.running) c.line.ensures.keep running after in
          let P = StaysOnErrand (g.K.Task.view.store plan) e [] in
          let moments = moments_then g.K.Task.view.clock g.K.Task.view.since old taken settled P P P
          (moments_then g.K.Task.view.clock g.K.Task.view.since old mid taken P P P (c.make_way.ensures.flushes.moments plan e rs a.within)
          (line_moments g.K.Task.view plan e rs mid taken left w1 c.in-Ok.ensures.way step c.line.ensures.roomy) (λ m p. p) (λ m p. p))
          (c.settle.ensures.settles.moments plan e rs w2) (λ m p. p) (λ m p. p) in
          let w3 = c.in-Ok-settle.ensures.settles.within plan e rs w2 in
          let held = subst (λ (l : List ℕ). IsHeld g.K.Task.view plan e settled l) (sym c.in-Err-tell_line.ensures.gathers.none) (held_within g.K.Task.view plan e rs settled c.settle.new.gathered.items w3) in
          c.stop-in-Err-tell_line.ensures.stops.halted plan e held;
    }

pub returns-in-Err-clause-carries : goal.returns-in-Err-clause-carries
returns-in-Err-clause-carries g c = carries_failed g.K.Task.view g.K.Task.disk_faults g.K.Task.out_faults c.args.task.now c.make_way.new.task c.make_way.ensures.only c.in-Err.fault c.in-Err.ensures.faults (c.in-Err.ensures.write (ap (λ f. Err f) c.in-Err.ensures.faults))

pub returns-in-Err-line-clause-carries : goal.returns-in-Err-line-clause-carries
returns-in-Err-line-clause-carries g c =
    let mid = c.make_way.new.task in
    let taken = c.line.new.self in
    carries_then g.K.Task.view g.K.Task.disk_faults g.K.Task.out_faults (λ f. f) (λ f. f) _ _ c.args.task.now mid c.stop.new.task (carries_first g.K.Task.view g.K.Task.disk_faults g.K.Task.out_faults c.args.task.now mid c.make_way.ensures.only)
    (carries_stop g.K.Task.view g.K.Task.disk_faults g.K.Task.out_faults c.stop.result (turn.Task c.in-Err-line.fault) mid taken c.stop.new.task
    (carries_refused g.K.Task.view g.K.Task.disk_faults g.K.Task.out_faults {A = ⊤} c.in-Err-line.fault mid taken c.line.ensures.goes
    (λ plan held placed holds. log_held g.K.Task.view plan held (g.K.Task.view.at mid).chunk mid taken (c.line.ensures.log_stays plan placed) holds) c.line.ensures.disk_faults (omega (arith, c.line.ensures.out_faults))
    (λ is. c.line.ensures.disk (c.in-Err-line.is ∙ ap (λ v. Err v) is)) (λ is. c.line.ensures.ended (c.in-Err-line.is ∙ ap (λ v. Err v) is))
    (λ plan n runs is. ⊎_elim (λ r. c.line.ensures.never_bad plan n r (c.in-Err-line.is ∙ ap (λ v. Err v) is)) (λ r. c.line.ensures.never_bad_node plan n r (c.in-Err-line.is ∙ ap (λ v. Err v) is)) runs)
    (λ plan p placed is. c.line.ensures.undamaged plan p placed (c.in-Err-line.is ∙ ap (λ v. Err v) is)) (λ p is. c.line.ensures.damaged p (c.in-Err-line.is ∙ ap (λ v. Err v) is)))
    c.stop.ensures.only c.stop.ensures.which)

pub returns-in-Err-settle-clause-carries : goal.returns-in-Err-settle-clause-carries
returns-in-Err-settle-clause-carries g c =
    let mid = c.make_way.new.task in
    let taken = c.line.new.self in
    let done = c.in-Ok-line.ensures in
    carries_then g.K.Task.view g.K.Task.disk_faults g.K.Task.out_faults (λ f. f) (λ f. f) _ _ c.args.task.now mid c.settle.new.task (carries_first g.K.Task.view g.K.Task.disk_faults g.K.Task.out_faults c.args.task.now mid c.make_way.ensures.only)
    (carries_then g.K.Task.view g.K.Task.disk_faults g.K.Task.out_faults (λ f. f) (λ f. f) _ _ mid taken c.settle.new.task
    (carries_done g.K.Task.view g.K.Task.disk_faults g.K.Task.out_faults {A = ⊤} (λ f. f) tt mid taken done.running done.node done.placed (λ going. done.going) c.line.ensures.goes
    (λ plan held placed holds. log_held g.K.Task.view plan held (g.K.Task.view.at mid).chunk mid taken (c.line.ensures.log_stays plan placed) holds) c.line.ensures.disk_faults (omega (arith, c.line.ensures.out_faults)))
    c.in-Err-settle.ensures.carries)

pub returns-in-Ok-tell_line-clause-carries : goal.returns-in-Ok-tell_line-clause-carries
returns-in-Ok-tell_line-clause-carries g c =
    let mid = c.make_way.new.task in
    let taken = c.line.new.self in
    let done = c.in-Ok-line.ensures in
    subst (λ (x : g.row.K.Denot). Carries g.K.Task.view g.K.Task.disk_faults g.K.Task.out_faults (λ f. f) (Ok tt) c.args.task.now x) (sym c.reuse.ensures)
    (carries_then g.K.Task.view g.K.Task.disk_faults g.K.Task.out_faults (λ f. f) (λ f. f) _ _ c.args.task.now mid c.settle.new.task (carries_first g.K.Task.view g.K.Task.disk_faults g.K.Task.out_faults c.args.task.now mid c.make_way.ensures.only)
    (carries_then g.K.Task.view g.K.Task.disk_faults g.K.Task.out_faults (λ f. f) (λ f. f) _ _ mid taken c.settle.new.task
    (carries_done g.K.Task.view g.K.Task.disk_faults g.K.Task.out_faults {A = ⊤} (λ f. f) tt mid taken done.running done.node done.placed (λ going. done.going) c.line.ensures.goes
    (λ plan held placed holds. log_held g.K.Task.view plan held (g.K.Task.view.at mid).chunk mid taken (c.line.ensures.log_stays plan placed) holds) c.line.ensures.disk_faults (omega (arith, c.line.ensures.out_faults)))
    c.in-Ok-settle.ensures.carries))

pub returns-in-Err-tell_line-clause-carries : goal.returns-in-Err-tell_line-clause-carries
returns-in-Err-tell_line-clause-carries g c =
    let mid = c.make_way.new.task in
    let taken = c.line.new.self in
    let settled = c.settle.new.task in
    let last = c.stop-in-Err-tell_line.new.task in
    let done = c.in-Ok-line.ensures in
    carries_then g.K.Task.view g.K.Task.disk_faults g.K.Task.out_faults (λ f. f) (λ f. f) _ _ c.args.task.now mid last (carries_first g.K.Task.view g.K.Task.disk_faults g.K.Task.out_faults c.args.task.now mid c.make_way.ensures.only)
    (carries_then g.K.Task.view g.K.Task.disk_faults g.K.Task.out_faults (λ f. f) (λ f. f) _ _ mid taken last
    (carries_done g.K.Task.view g.K.Task.disk_faults g.K.Task.out_faults {A = ⊤} (λ f. f) tt mid taken done.running done.node done.placed (λ going. done.going) c.line.ensures.goes
    (λ plan held placed holds. log_held g.K.Task.view plan held (g.K.Task.view.at mid).chunk mid taken (c.line.ensures.log_stays plan placed) holds) c.line.ensures.disk_faults (omega (arith, c.line.ensures.out_faults)))
    (carries_then g.K.Task.view g.K.Task.disk_faults g.K.Task.out_faults (λ f. f) (λ f. f) _ _ taken settled last c.in-Ok-settle.ensures.carries
    (carries_stop g.K.Task.view g.K.Task.disk_faults g.K.Task.out_faults c.stop-in-Err-tell_line.result c.in-Err-tell_line.fault settled settled last
    (carries_memory g.K.Task.view g.K.Task.disk_faults g.K.Task.out_faults {A = ⊤} c.in-Err-tell_line.fault c.in-Err-tell_line.ensures.gathers.fault g.met.K.Task.only_now g.met.K.Task.sinks settled) c.stop-in-Err-tell_line.ensures.only c.stop-in-Err-tell_line.ensures.which)))
