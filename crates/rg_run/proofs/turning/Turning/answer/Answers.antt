use Rattle.std.proofs.Common.{◌≡◌, ◌∷◌, [], ◌≤◌, ◌+◌, ℕ, List, Err, true, false, arith, sym, ◌∙◌, ap, subst}
use Rattle.std.proofs.lemmas.Bool.{ltb-true, ltb-false}
use Rattle.rg_host.specs.Moments.{Moments, LeavesFiles}
use Rattle.rg_host.proofs.Laws.{moments_then}
use Rattle.rg_config.specs.Plans.{planned}
use Rattle.rg_run_spec.specs.Ahead.{after_line}
use Rattle.rg_run_spec.specs.Stores.{StaysOnCourse}
use Rattle.rg_task.specs.State.{State}
use Rattle.rg_task.specs.Terms.{terms_of}
use Rattle.rg_task.specs.declared.fault.TaskFault.{TaskFault}
use Rattle.rg_task.specs.declared.fault.TaskFault.TheVariants as task
use Rattle.rg_run.specs.Turning.{IsAwaiting, IsHeld}
use Rattle.rg_run.specs.declared.fault.TurnFault.TheVariants as turn
use Rattle.rg_run.proofs.Called.{turn_is}
use Rattle.rg_run.proofs.Faulting.{task_of, write_of, memory_of, memory_write, obey_others}
use Rattle.rg_run.proofs.Gathering.{mid_held}
use Rattle.rg_run.proofs.Replied.{still_on_course, passed, passed_events, taken_moments, taken_held, mid_taken, then_awaits}
use Rattle.rg_run.specs.Logs.{StaysHeld}
use Rattle.rg_run.proofs.Idle.{idle_still, idle_due, still_due}
use Rattle.rg_run.proofs.Logged.{no_files, files_of, files_join, files_held, log_held, held_then}
use Rattle.rg_run.proofs.turning.Turning.answer.Goals as goal

pub returns-then-is_passed-clause-moments : goal.returns-then-is_passed-clause-moments
returns-then-is_passed-clause-moments g c = λ course item items a reads.
    let t = c.args.self.now in
    still_on_course g.K.Task.view g.met.K.Task.only_now g.met.K.Task.sinks (planned c.args.plan.now) course t.offset (item ∷ items)
    c.args.task.now t.gathered.items a

pub returns-then-is_passed-clause-awaits : goal.returns-then-is_passed-clause-awaits
returns-then-is_passed-clause-awaits g c = λ course item items a reads.
    let t = c.args.self.now in
    passed g.K.Task.view (planned c.args.plan.now) course t.offset item items
    c.args.task.now t.gathered.items a (ltb-true _ _ (sym c.is_passed.ensures ∙ c.if-is_passed.true))

pub returns-then-is_passed-clause-events : goal.returns-then-is_passed-clause-events
returns-then-is_passed-clause-events g c = λ course item items a reads.
    let t = c.args.self.now in
    passed_events g.K.Task.view (planned c.args.plan.now) course t.offset item items
    c.args.task.now t.gathered.items a (ltb-true _ _ (sym c.is_passed.ensures ∙ c.if-is_passed.true))

pub returns-then-is_passed-clause-log : goal.returns-then-is_passed-clause-log
returns-then-is_passed-clause-log g c = g.K.Task.view.goes_same c.args.task.now

pub line-requires-clause-next : goal.line-requires-clause-next
line-requires-clause-next g c = let above : (g.K.Task.view.at c.args.task.now).next ≤ c.args.self.now.offset = ltb-false _ _ (sym c.is_passed.ensures ∙ c.if-is_passed.false) in
    omega (arith, above, ap (λ (x : State). x.next) c.make_way.ensures.only.keeps.at_stays)

pub returns-in-Err-clause-moments : goal.returns-in-Err-clause-moments
returns-in-Err-clause-moments g c = λ course item items a reads. c.make_way.ensures.makes.moments (planned c.args.plan.now) course c.args.self.now.offset (item ∷ items) a

pub returns-in-Err-clause-log : goal.returns-in-Err-clause-log
returns-in-Err-clause-log g c = c.make_way.ensures.only.keeps.goes

pub returns-in-Err-line-clause-moments : goal.returns-in-Err-line-clause-moments
returns-in-Err-line-clause-moments g c = λ course item items a reads.
    let plan = planned c.args.plan.now in
    let t = c.args.self.now in
    let mid = c.make_way.new.task in
    let left = c.make_way.new.gathered.items in
    let b = c.in-Ok.ensures.makes.awaits plan course t.offset (item ∷ items) a in
    let within = c.line.ensures.within_step plan (g.K.Task.view.at mid).keep b.running in
    let P = StaysOnCourse (g.K.Task.view.store plan) course [] in
    moments_then g.K.Task.view.clock g.K.Task.view.since c.args.task.now c.line.new.self c.stop.new.task P P P
    (moments_then g.K.Task.view.clock g.K.Task.view.since c.args.task.now mid c.line.new.self P P P
    (c.make_way.ensures.makes.moments plan course t.offset (item ∷ items) a)
    (taken_moments g.K.Task.view plan course t.offset item items mid c.line.new.self left b c.in-Ok.ensures.makes.way within c.line.ensures.roomy) (λ w p. p) (λ w p. p))
    (c.stop.ensures.stops.moments plan course (taken_held g.K.Task.view plan course t.offset item items mid c.line.new.self left b c.in-Ok.ensures.makes.way within c.line.ensures.roomy)) (λ w p. p) (λ w p. p)

pub returns-in-Err-line-clause-stopped : goal.returns-in-Err-line-clause-stopped
returns-in-Err-line-clause-stopped g c = λ course item items a reads.
    let plan = planned c.args.plan.now in
    let t = c.args.self.now in
    let mid = c.make_way.new.task in
    let left = c.make_way.new.gathered.items in
    let b = c.in-Ok.ensures.makes.awaits plan course t.offset (item ∷ items) a in
    let within = c.line.ensures.within_step plan (g.K.Task.view.at mid).keep b.running in
    c.stop.ensures.stops.stopped plan course (taken_held g.K.Task.view plan course t.offset item items mid c.line.new.self left b c.in-Ok.ensures.makes.way within c.line.ensures.roomy)

pub returns-in-Err-line-clause-never_bad : goal.returns-in-Err-line-clause-never_bad
returns-in-Err-line-clause-never_bad g c = λ course items n a is.
    let plan = planned c.args.plan.now in
    c.line.ensures.never_bad plan n (c.in-Ok.ensures.makes.awaits plan course c.args.self.now.offset items a).running (c.in-Err-line.is ∙ ap (λ v. Err v) (task_of c.stop.result c.in-Err-line.fault (task.BadState n) c.stop.ensures.which is))

pub returns-in-Err-line-clause-never_damaged : goal.returns-in-Err-line-clause-never_damaged
returns-in-Err-line-clause-never_damaged g c = λ course items p a is.
    let plan = planned c.args.plan.now in
    c.line.ensures.never_damaged plan p (c.in-Ok.ensures.makes.awaits plan course c.args.self.now.offset items a).running (c.in-Err-line.is ∙ ap (λ v. Err v) (task_of c.stop.result c.in-Err-line.fault (task.Damaged p) c.stop.ensures.which is))

pub returns-in-Err-line-clause-never_bad_node : goal.returns-in-Err-line-clause-never_bad_node
returns-in-Err-line-clause-never_bad_node g c = λ n runs is. c.line.ensures.never_bad_node (planned c.args.plan.now) n (c.make_way.ensures.only.keeps.node (planned c.args.plan.now) n runs) (c.in-Err-line.is ∙ ap (λ v. Err v) (task_of c.stop.result c.in-Err-line.fault (task.BadState n) c.stop.ensures.which is))

pub returns-in-Err-line-clause-undamaged : goal.returns-in-Err-line-clause-undamaged
returns-in-Err-line-clause-undamaged g c = λ p placed is. c.line.ensures.undamaged (planned c.args.plan.now) p (c.make_way.ensures.only.keeps.placed (planned c.args.plan.now) placed) (c.in-Err-line.is ∙ ap (λ v. Err v) (task_of c.stop.result c.in-Err-line.fault (task.Damaged p) c.stop.ensures.which is))

pub returns-in-Err-line-clause-damaged : goal.returns-in-Err-line-clause-damaged
returns-in-Err-line-clause-damaged g c = λ p is. c.stop.ensures.only.keeps.illegal p (c.line.ensures.damaged p (c.in-Err-line.is ∙ ap (λ v. Err v) (task_of c.stop.result c.in-Err-line.fault (task.Damaged p) c.stop.ensures.which is)))

pub returns-in-Err-line-clause-disk : goal.returns-in-Err-line-clause-disk
returns-in-Err-line-clause-disk g c = λ is.
    let rose = c.line.ensures.disk (c.in-Err-line.is ∙ ap (λ v. Err v) (task_of c.stop.result c.in-Err-line.fault (task.Disk) c.stop.ensures.which is)) in
    omega (arith, rose, c.stop.ensures.only.disk_faults_stay, c.make_way.ensures.only.disk_faults_stay)

pub returns-in-Err-line-clause-ended : goal.returns-in-Err-line-clause-ended
returns-in-Err-line-clause-ended g c = λ is. ap (λ (x : State). x.ended) (sym c.make_way.ensures.only.keeps.at_stays) ∙ c.line.ensures.ended (c.in-Err-line.is ∙ ap (λ v. Err v) (task_of c.stop.result c.in-Err-line.fault (task.Ended) c.stop.ensures.which is))

pub returns-in-Err-line-clause-write : goal.returns-in-Err-line-clause-write
returns-in-Err-line-clause-write g c = λ is.
    let rose = write_of c.stop.result c.in-Err-line.fault c.stop.ensures.which is in
    omega (arith, rose, c.line.ensures.out_faults, c.make_way.ensures.only.out_faults_grow)

pub returns-in-Err-line-clause-log : goal.returns-in-Err-line-clause-log
returns-in-Err-line-clause-log g c = g.K.Task.view.goes_join c.args.task.now c.make_way.new.task c.stop.new.task c.make_way.ensures.only.keeps.goes (g.K.Task.view.goes_join c.make_way.new.task c.line.new.self c.stop.new.task c.line.ensures.goes c.stop.ensures.only.keeps.goes)

pub returns-in-Err-line-clause-disk_faults : goal.returns-in-Err-line-clause-disk_faults
returns-in-Err-line-clause-disk_faults g c = omega (arith, c.make_way.ensures.only.disk_faults_stay, c.line.ensures.disk_faults, c.stop.ensures.only.disk_faults_stay)

pub returns-in-Err-line-clause-out_faults : goal.returns-in-Err-line-clause-out_faults
returns-in-Err-line-clause-out_faults g c = omega (arith, c.make_way.ensures.only.out_faults_grow, c.line.ensures.out_faults, c.stop.ensures.only.out_faults_grow)

pub returns-in-Err-settle-clause-moments : goal.returns-in-Err-settle-clause-moments
returns-in-Err-settle-clause-moments g c = λ course item items a reads.
    let plan = planned c.args.plan.now in
    let t = c.args.self.now in
    let mid = c.make_way.new.task in
    let left = c.make_way.new.gathered.items in
    let b = c.in-Ok.ensures.makes.awaits plan course t.offset (item ∷ items) a in
    let within = c.line.ensures.within_step plan (g.K.Task.view.at mid).keep b.running in
    let next : (g.K.Task.view.at mid).next ≤ t.offset = let above : (g.K.Task.view.at c.args.task.now).next ≤ t.offset = ltb-false _ _ (sym c.is_passed.ensures ∙ c.if-is_passed.false) in omega (arith, above, ap (λ (x : State). x.next) c.make_way.ensures.only.keeps.at_stays) in
    let m = mid_taken g.K.Task.view plan course t.offset item items mid c.line.new.self left b c.in-Ok.ensures.makes.way within c.line.ensures.roomy
    c.args.line.now next reads (c.in-Ok-line.ensures.running plan b.running) c.line.ensures.keep (c.in-Ok-line.ensures.stored plan (g.K.Task.view.at mid).keep b.running) (c.in-Ok-line.ensures.events plan b.running) in
    let P = StaysOnCourse (g.K.Task.view.store plan) course [] in
    moments_then g.K.Task.view.clock g.K.Task.view.since c.args.task.now c.line.new.self c.settle.new.task P P P
    (moments_then g.K.Task.view.clock g.K.Task.view.since c.args.task.now mid c.line.new.self P P P
    (c.make_way.ensures.makes.moments plan course t.offset (item ∷ items) a)
    (taken_moments g.K.Task.view plan course t.offset item items mid c.line.new.self left b c.in-Ok.ensures.makes.way within c.line.ensures.roomy) (λ w p. p) (λ w p. p))
    (c.settle.ensures.settles.moments plan course t.offset item items mid m) (λ w p. p) (λ w p. p)

pub returns-in-Err-settle-clause-stopped : goal.returns-in-Err-settle-clause-stopped
returns-in-Err-settle-clause-stopped g c = λ course item items a reads.
    let plan = planned c.args.plan.now in
    let t = c.args.self.now in
    let mid = c.make_way.new.task in
    let left = c.make_way.new.gathered.items in
    let b = c.in-Ok.ensures.makes.awaits plan course t.offset (item ∷ items) a in
    let within = c.line.ensures.within_step plan (g.K.Task.view.at mid).keep b.running in
    let next : (g.K.Task.view.at mid).next ≤ t.offset = let above : (g.K.Task.view.at c.args.task.now).next ≤ t.offset = ltb-false _ _ (sym c.is_passed.ensures ∙ c.if-is_passed.false) in omega (arith, above, ap (λ (x : State). x.next) c.make_way.ensures.only.keeps.at_stays) in
    let m = mid_taken g.K.Task.view plan course t.offset item items mid c.line.new.self left b c.in-Ok.ensures.makes.way within c.line.ensures.roomy
    c.args.line.now next reads (c.in-Ok-line.ensures.running plan b.running) c.line.ensures.keep (c.in-Ok-line.ensures.stored plan (g.K.Task.view.at mid).keep b.running) (c.in-Ok-line.ensures.events plan b.running) in
    c.in-Err-settle.ensures.settles.stopped plan course t.offset item items mid m

pub returns-in-Err-settle-clause-never_bad : goal.returns-in-Err-settle-clause-never_bad
returns-in-Err-settle-clause-never_bad g c = λ course items n a is. (obey_others c.in-Err-settle.fault c.in-Err-settle.ensures.faults).1 n (turn_is c.in-Err-settle.fault (turn.Task (task.BadState n)) is)

pub returns-in-Err-settle-clause-never_bad_node : goal.returns-in-Err-settle-clause-never_bad_node
returns-in-Err-settle-clause-never_bad_node g c = λ n runs is. (obey_others c.in-Err-settle.fault c.in-Err-settle.ensures.faults).1 n (turn_is c.in-Err-settle.fault (turn.Task (task.BadState n)) is)

pub returns-in-Err-settle-clause-never_damaged : goal.returns-in-Err-settle-clause-never_damaged
returns-in-Err-settle-clause-never_damaged g c = λ course items p a is. (obey_others c.in-Err-settle.fault c.in-Err-settle.ensures.faults).0 p (turn_is c.in-Err-settle.fault (turn.Task (task.Damaged p)) is)

pub returns-in-Err-settle-clause-undamaged : goal.returns-in-Err-settle-clause-undamaged
returns-in-Err-settle-clause-undamaged g c = λ p placed is. (obey_others c.in-Err-settle.fault c.in-Err-settle.ensures.faults).0 p (turn_is c.in-Err-settle.fault (turn.Task (task.Damaged p)) is)

pub returns-in-Err-settle-clause-damaged : goal.returns-in-Err-settle-clause-damaged
returns-in-Err-settle-clause-damaged g c = λ p is. absurd ((obey_others c.in-Err-settle.fault c.in-Err-settle.ensures.faults).0 p (turn_is c.in-Err-settle.fault (turn.Task (task.Damaged p)) is))

pub returns-in-Err-settle-clause-write : goal.returns-in-Err-settle-clause-write
returns-in-Err-settle-clause-write g c = λ is. let rose = c.settle.ensures.cause.write (c.in-Err-settle.is ∙ is) in omega (arith, rose, c.line.ensures.out_faults, c.make_way.ensures.only.out_faults_grow)

pub returns-in-Err-settle-clause-disk : goal.returns-in-Err-settle-clause-disk
returns-in-Err-settle-clause-disk g c = λ is. let rose = c.settle.ensures.cause.disk (c.in-Err-settle.is ∙ is) in omega (arith, rose, c.line.ensures.disk_faults, c.make_way.ensures.only.disk_faults_stay)

pub returns-in-Err-settle-clause-ended : goal.returns-in-Err-settle-clause-ended
returns-in-Err-settle-clause-ended g c = λ is.
    let ended : (g.K.Task.view.at c.line.new.self).ended ≡ true = c.settle.ensures.cause.ended (c.in-Err-settle.is ∙ is) in
    let going : (g.K.Task.view.at c.line.new.self).ended ≡ false = c.in-Ok-line.ensures.going in
    absurd (cc)

pub returns-in-Err-settle-clause-log : goal.returns-in-Err-settle-clause-log
returns-in-Err-settle-clause-log g c = g.K.Task.view.goes_join c.args.task.now c.make_way.new.task c.settle.new.task c.make_way.ensures.only.keeps.goes (g.K.Task.view.goes_join c.make_way.new.task c.line.new.self c.settle.new.task c.line.ensures.goes c.settle.ensures.sustains.goes)

pub returns-in-Err-settle-clause-disk_faults : goal.returns-in-Err-settle-clause-disk_faults
returns-in-Err-settle-clause-disk_faults g c = omega (arith, c.make_way.ensures.only.disk_faults_stay, c.line.ensures.disk_faults, c.settle.ensures.sustains.disk_faults_grow)

pub returns-in-Err-settle-clause-out_faults : goal.returns-in-Err-settle-clause-out_faults
returns-in-Err-settle-clause-out_faults g c = omega (arith, c.make_way.ensures.only.out_faults_grow, c.line.ensures.out_faults, c.settle.ensures.sustains.out_faults_grow)

pub returns-in-Ok-tell-clause-moments : goal.returns-in-Ok-tell-clause-moments
returns-in-Ok-tell-clause-moments g c = λ course item items a reads.
    let plan = planned c.args.plan.now in
    let t = c.args.self.now in
    let mid = c.make_way.new.task in
    let left = c.make_way.new.gathered.items in
    let b = c.in-Ok.ensures.makes.awaits plan course t.offset (item ∷ items) a in
    let within = c.line.ensures.within_step plan (g.K.Task.view.at mid).keep b.running in
    let next : (g.K.Task.view.at mid).next ≤ t.offset = let above : (g.K.Task.view.at c.args.task.now).next ≤ t.offset = ltb-false _ _ (sym c.is_passed.ensures ∙ c.if-is_passed.false) in omega (arith, above, ap (λ (x : State). x.next) c.make_way.ensures.only.keeps.at_stays) in
    let m = mid_taken g.K.Task.view plan course t.offset item items mid c.line.new.self left b c.in-Ok.ensures.makes.way within c.line.ensures.roomy
    c.args.line.now next reads (c.in-Ok-line.ensures.running plan b.running) c.line.ensures.keep (c.in-Ok-line.ensures.stored plan (g.K.Task.view.at mid).keep b.running) (c.in-Ok-line.ensures.events plan b.running) in
    let P = StaysOnCourse (g.K.Task.view.store plan) course [] in
    subst (λ (x : g.row.K.Denot). Moments g.K.Task.view.clock g.K.Task.view.since c.args.task.now x P) (sym c.reuse.ensures)
    (moments_then g.K.Task.view.clock g.K.Task.view.since c.args.task.now c.line.new.self c.settle.new.task P P P
    (moments_then g.K.Task.view.clock g.K.Task.view.since c.args.task.now mid c.line.new.self P P P
    (c.make_way.ensures.makes.moments plan course t.offset (item ∷ items) a)
    (taken_moments g.K.Task.view plan course t.offset item items mid c.line.new.self left b c.in-Ok.ensures.makes.way within c.line.ensures.roomy) (λ w p. p) (λ w p. p))
    (c.settle.ensures.settles.moments plan course t.offset item items mid m) (λ w p. p) (λ w p. p))

pub returns-in-Ok-tell-clause-awaits : goal.returns-in-Ok-tell-clause-awaits
returns-in-Ok-tell-clause-awaits g c = λ course item items a reads.
    let plan = planned c.args.plan.now in
    let t = c.args.self.now in
    let mid = c.make_way.new.task in
    let left = c.make_way.new.gathered.items in
    let b = c.in-Ok.ensures.makes.awaits plan course t.offset (item ∷ items) a in
    let within = c.line.ensures.within_step plan (g.K.Task.view.at mid).keep b.running in
    let next : (g.K.Task.view.at mid).next ≤ t.offset = let above : (g.K.Task.view.at c.args.task.now).next ≤ t.offset = ltb-false _ _ (sym c.is_passed.ensures ∙ c.if-is_passed.false) in omega (arith, above, ap (λ (x : State). x.next) c.make_way.ensures.only.keeps.at_stays) in
    let m = mid_taken g.K.Task.view plan course t.offset item items mid c.line.new.self left b c.in-Ok.ensures.makes.way within c.line.ensures.roomy
    c.args.line.now next reads (c.in-Ok-line.ensures.running plan b.running) c.line.ensures.keep (c.in-Ok-line.ensures.stored plan (g.K.Task.view.at mid).keep b.running) (c.in-Ok-line.ensures.events plan b.running) in
    let m2 = c.in-Ok-settle.ensures.settles.mid_turn plan course t.offset item items mid m in
    let done = c.in-Ok-settle.ensures.settles.done plan m.running in
    subst (λ (x : g.row.K.Denot). IsAwaiting g.K.Task.view plan course (t.offset + 1) items x c.tell.new.gathered.items) (sym c.reuse.ensures)
    (then_awaits g.K.Task.view plan course t.offset item items mid c.line.new.self left b c.in-Ok.ensures.makes.way within c.line.ensures.roomy
    c.args.line.now next reads (c.in-Ok-line.ensures.running plan b.running) c.line.ensures.keep (c.in-Ok-line.ensures.stored plan (g.K.Task.view.at mid).keep b.running) (c.in-Ok-line.ensures.events plan b.running)
    c.settle.new.task c.settle.new.gathered.items m2 c.due_at-due.result c.count-before.result c.count.result (c.count-before.ensures) c.count.ensures c.due_at-due.ensures
    c.requires.small done c.in-Ok-line.reply (c.in-Ok-line.ensures.reply plan b.running) c.tell.new.gathered.items c.in-Ok-tell.ensures.all)

pub returns-in-Ok-tell-clause-events : goal.returns-in-Ok-tell-clause-events
returns-in-Ok-tell-clause-events g c = λ course item items a reads.
    let plan = planned c.args.plan.now in
    let t = c.args.self.now in
    let mid = c.make_way.new.task in
    let left = c.make_way.new.gathered.items in
    let b = c.in-Ok.ensures.makes.awaits plan course t.offset (item ∷ items) a in
    let within = c.line.ensures.within_step plan (g.K.Task.view.at mid).keep b.running in
    let next : (g.K.Task.view.at mid).next ≤ t.offset = let above : (g.K.Task.view.at c.args.task.now).next ≤ t.offset = ltb-false _ _ (sym c.is_passed.ensures ∙ c.if-is_passed.false) in omega (arith, above, ap (λ (x : State). x.next) c.make_way.ensures.only.keeps.at_stays) in
    let m = mid_taken g.K.Task.view plan course t.offset item items mid c.line.new.self left b c.in-Ok.ensures.makes.way within c.line.ensures.roomy
    c.args.line.now next reads (c.in-Ok-line.ensures.running plan b.running) c.line.ensures.keep (c.in-Ok-line.ensures.stored plan (g.K.Task.view.at mid).keep b.running) (c.in-Ok-line.ensures.events plan b.running) in
    let m2 = c.in-Ok-settle.ensures.settles.mid_turn plan course t.offset item items mid m in
    subst (λ (x : g.row.K.Denot). (g.K.Task.view.at x).events ≡ after_line (terms_of plan).basis (g.K.Task.view.at c.args.task.now).events t.offset item) (sym c.reuse.ensures)
    (m2.follows ∙ ap (λ (x : State). after_line (terms_of plan).basis x.events t.offset item) c.make_way.ensures.only.keeps.at_stays)

pub returns-in-Ok-tell-clause-node : goal.returns-in-Ok-tell-clause-node
returns-in-Ok-tell-clause-node g c = λ n runs.
    let plan = planned c.args.plan.now in
    subst (λ (x : g.row.K.Denot). g.K.Task.view.node plan n x) (sym c.reuse.ensures)
    (c.in-Ok-settle.ensures.sustains.node plan n (c.in-Ok-line.ensures.node plan n (c.make_way.ensures.only.keeps.node plan n runs)))

pub returns-in-Ok-tell-clause-placed : goal.returns-in-Ok-tell-clause-placed
returns-in-Ok-tell-clause-placed g c = λ placed.
    let plan = planned c.args.plan.now in
    subst (λ (x : g.row.K.Denot). g.K.Task.view.placed plan x) (sym c.reuse.ensures)
    (c.in-Ok-settle.ensures.sustains.placed plan (c.in-Ok-line.ensures.placed plan (c.make_way.ensures.only.keeps.placed plan placed)))

pub returns-in-Ok-tell-clause-goes : goal.returns-in-Ok-tell-clause-goes
returns-in-Ok-tell-clause-goes g c = λ going. subst (λ (x : g.row.K.Denot). (g.K.Task.view.at x).ended ≡ false) (sym c.reuse.ensures) (c.in-Ok-settle.ensures.sustains.going c.in-Ok-line.ensures.going)

pub returns-in-Ok-tell-clause-log : goal.returns-in-Ok-tell-clause-log
returns-in-Ok-tell-clause-log g c = subst (λ (x : g.row.K.Denot). g.K.Task.view.goes c.args.task.now x) (sym c.reuse.ensures) (g.K.Task.view.goes_join c.args.task.now c.make_way.new.task c.settle.new.task c.make_way.ensures.only.keeps.goes (g.K.Task.view.goes_join c.make_way.new.task c.line.new.self c.settle.new.task c.line.ensures.goes c.settle.ensures.sustains.goes))

pub returns-in-Ok-tell-clause-disk_faults : goal.returns-in-Ok-tell-clause-disk_faults
returns-in-Ok-tell-clause-disk_faults g c = subst (λ (x : g.row.K.Denot). g.K.Task.disk_faults c.args.task.now ≤ g.K.Task.disk_faults x) (sym c.reuse.ensures)
    (omega (arith, c.make_way.ensures.only.disk_faults_stay, c.line.ensures.disk_faults, c.settle.ensures.sustains.disk_faults_grow))

pub returns-in-Ok-tell-clause-out_faults : goal.returns-in-Ok-tell-clause-out_faults
returns-in-Ok-tell-clause-out_faults g c = subst (λ (x : g.row.K.Denot). g.K.Task.out_faults c.args.task.now ≤ g.K.Task.out_faults x) (sym c.reuse.ensures)
    (omega (arith, c.make_way.ensures.only.out_faults_grow, c.line.ensures.out_faults, c.settle.ensures.sustains.out_faults_grow))

pub returns-in-Err-tell-clause-moments : goal.returns-in-Err-tell-clause-moments
returns-in-Err-tell-clause-moments g c = λ course item items a reads.
    let plan = planned c.args.plan.now in
    let t = c.args.self.now in
    let mid = c.make_way.new.task in
    let left = c.make_way.new.gathered.items in
    let b = c.in-Ok.ensures.makes.awaits plan course t.offset (item ∷ items) a in
    let within = c.line.ensures.within_step plan (g.K.Task.view.at mid).keep b.running in
    let next : (g.K.Task.view.at mid).next ≤ t.offset = let above : (g.K.Task.view.at c.args.task.now).next ≤ t.offset = ltb-false _ _ (sym c.is_passed.ensures ∙ c.if-is_passed.false) in omega (arith, above, ap (λ (x : State). x.next) c.make_way.ensures.only.keeps.at_stays) in
    let m = mid_taken g.K.Task.view plan course t.offset item items mid c.line.new.self left b c.in-Ok.ensures.makes.way within c.line.ensures.roomy
    c.args.line.now next reads (c.in-Ok-line.ensures.running plan b.running) c.line.ensures.keep (c.in-Ok-line.ensures.stored plan (g.K.Task.view.at mid).keep b.running) (c.in-Ok-line.ensures.events plan b.running) in
    let m2 = c.in-Ok-settle.ensures.settles.mid_turn plan course t.offset item items mid m in
    let P = StaysOnCourse (g.K.Task.view.store plan) course [] in
    moments_then g.K.Task.view.clock g.K.Task.view.since c.args.task.now c.settle.new.task c.stop-in-Err-tell.new.task P P P
    (moments_then g.K.Task.view.clock g.K.Task.view.since c.args.task.now c.line.new.self c.settle.new.task P P P
    (moments_then g.K.Task.view.clock g.K.Task.view.since c.args.task.now mid c.line.new.self P P P
    (c.make_way.ensures.makes.moments plan course t.offset (item ∷ items) a)
    (taken_moments g.K.Task.view plan course t.offset item items mid c.line.new.self left b c.in-Ok.ensures.makes.way within c.line.ensures.roomy) (λ w p. p) (λ w p. p))
    (c.settle.ensures.settles.moments plan course t.offset item items mid m) (λ w p. p) (λ w p. p))
    (c.stop-in-Err-tell.ensures.stops.moments plan course (subst (λ (l : List ℕ). IsHeld g.K.Task.view plan course c.settle.new.task l) (sym c.in-Err-tell.ensures.none)
    (mid_held g.K.Task.view plan course t.offset c.settle.new.task c.settle.new.gathered.items item items mid m2))) (λ w p. p) (λ w p. p)

pub returns-in-Err-tell-clause-stopped : goal.returns-in-Err-tell-clause-stopped
returns-in-Err-tell-clause-stopped g c = λ course item items a reads.
    let plan = planned c.args.plan.now in
    let t = c.args.self.now in
    let mid = c.make_way.new.task in
    let left = c.make_way.new.gathered.items in
    let b = c.in-Ok.ensures.makes.awaits plan course t.offset (item ∷ items) a in
    let within = c.line.ensures.within_step plan (g.K.Task.view.at mid).keep b.running in
    let next : (g.K.Task.view.at mid).next ≤ t.offset = let above : (g.K.Task.view.at c.args.task.now).next ≤ t.offset = ltb-false _ _ (sym c.is_passed.ensures ∙ c.if-is_passed.false) in omega (arith, above, ap (λ (x : State). x.next) c.make_way.ensures.only.keeps.at_stays) in
    let m = mid_taken g.K.Task.view plan course t.offset item items mid c.line.new.self left b c.in-Ok.ensures.makes.way within c.line.ensures.roomy
    c.args.line.now next reads (c.in-Ok-line.ensures.running plan b.running) c.line.ensures.keep (c.in-Ok-line.ensures.stored plan (g.K.Task.view.at mid).keep b.running) (c.in-Ok-line.ensures.events plan b.running) in
    let m2 = c.in-Ok-settle.ensures.settles.mid_turn plan course t.offset item items mid m in
    c.stop-in-Err-tell.ensures.stops.stopped plan course (subst (λ (l : List ℕ). IsHeld g.K.Task.view plan course c.settle.new.task l) (sym c.in-Err-tell.ensures.none)
    (mid_held g.K.Task.view plan course t.offset c.settle.new.task c.settle.new.gathered.items item items mid m2))

pub returns-in-Err-tell-clause-never_bad : goal.returns-in-Err-tell-clause-never_bad
returns-in-Err-tell-clause-never_bad g c = λ course items n a is. absurd (let m : ◌≡◌ {A = TaskFault} task.Memory (task.BadState n) = memory_of c.stop-in-Err-tell.result c.in-Err-tell.fault (task.BadState n) c.stop-in-Err-tell.ensures.which c.in-Err-tell.ensures.faults is in cc)

pub returns-in-Err-tell-clause-never_damaged : goal.returns-in-Err-tell-clause-never_damaged
returns-in-Err-tell-clause-never_damaged g c = λ course items p a is. absurd (let m : ◌≡◌ {A = TaskFault} task.Memory (task.Damaged p) = memory_of c.stop-in-Err-tell.result c.in-Err-tell.fault (task.Damaged p) c.stop-in-Err-tell.ensures.which c.in-Err-tell.ensures.faults is in cc)

pub returns-in-Err-tell-clause-never_bad_node : goal.returns-in-Err-tell-clause-never_bad_node
returns-in-Err-tell-clause-never_bad_node g c = λ n runs is. absurd (let m : ◌≡◌ {A = TaskFault} task.Memory (task.BadState n) = memory_of c.stop-in-Err-tell.result c.in-Err-tell.fault (task.BadState n) c.stop-in-Err-tell.ensures.which c.in-Err-tell.ensures.faults is in cc)

pub returns-in-Err-tell-clause-undamaged : goal.returns-in-Err-tell-clause-undamaged
returns-in-Err-tell-clause-undamaged g c = λ p placed is. absurd (let m : ◌≡◌ {A = TaskFault} task.Memory (task.Damaged p) = memory_of c.stop-in-Err-tell.result c.in-Err-tell.fault (task.Damaged p) c.stop-in-Err-tell.ensures.which c.in-Err-tell.ensures.faults is in cc)

pub returns-in-Err-tell-clause-damaged : goal.returns-in-Err-tell-clause-damaged
returns-in-Err-tell-clause-damaged g c = λ p is. absurd (let m : ◌≡◌ {A = TaskFault} task.Memory (task.Damaged p) = memory_of c.stop-in-Err-tell.result c.in-Err-tell.fault (task.Damaged p) c.stop-in-Err-tell.ensures.which c.in-Err-tell.ensures.faults is in cc)

pub returns-in-Err-tell-clause-disk : goal.returns-in-Err-tell-clause-disk
returns-in-Err-tell-clause-disk g c = λ is. absurd (let m : ◌≡◌ {A = TaskFault} task.Memory (task.Disk) = memory_of c.stop-in-Err-tell.result c.in-Err-tell.fault (task.Disk) c.stop-in-Err-tell.ensures.which c.in-Err-tell.ensures.faults is in cc)

pub returns-in-Err-tell-clause-ended : goal.returns-in-Err-tell-clause-ended
returns-in-Err-tell-clause-ended g c = λ is. absurd (let m : ◌≡◌ {A = TaskFault} task.Memory (task.Ended) = memory_of c.stop-in-Err-tell.result c.in-Err-tell.fault (task.Ended) c.stop-in-Err-tell.ensures.which c.in-Err-tell.ensures.faults is in cc)

pub returns-in-Err-tell-clause-write : goal.returns-in-Err-tell-clause-write
returns-in-Err-tell-clause-write g c = λ is.
    let rose = memory_write c.stop-in-Err-tell.result c.in-Err-tell.fault c.stop-in-Err-tell.ensures.which c.in-Err-tell.ensures.faults is in
    omega (arith, rose, c.settle.ensures.sustains.out_faults_grow, c.line.ensures.out_faults, c.make_way.ensures.only.out_faults_grow)

pub returns-in-Err-tell-clause-log : goal.returns-in-Err-tell-clause-log
returns-in-Err-tell-clause-log g c = g.K.Task.view.goes_join c.args.task.now c.settle.new.task c.stop-in-Err-tell.new.task (g.K.Task.view.goes_join c.args.task.now c.make_way.new.task c.settle.new.task c.make_way.ensures.only.keeps.goes (g.K.Task.view.goes_join c.make_way.new.task c.line.new.self c.settle.new.task c.line.ensures.goes c.settle.ensures.sustains.goes)) c.stop-in-Err-tell.ensures.only.keeps.goes

pub returns-in-Err-tell-clause-disk_faults : goal.returns-in-Err-tell-clause-disk_faults
returns-in-Err-tell-clause-disk_faults g c = omega (arith, c.make_way.ensures.only.disk_faults_stay, c.line.ensures.disk_faults, c.settle.ensures.sustains.disk_faults_grow, c.stop-in-Err-tell.ensures.only.disk_faults_stay)

pub returns-in-Err-tell-clause-out_faults : goal.returns-in-Err-tell-clause-out_faults
returns-in-Err-tell-clause-out_faults g c = omega (arith, c.make_way.ensures.only.out_faults_grow, c.line.ensures.out_faults, c.settle.ensures.sustains.out_faults_grow, c.stop-in-Err-tell.ensures.only.out_faults_grow)

-- over a legal log

pub returns-then-is_passed-clause-log_stays : goal.returns-then-is_passed-clause-log_stays
returns-then-is_passed-clause-log_stays g c = λ held placed holds. files_held g.K.Task.view (planned c.args.plan.now) held c.args.task.now c.args.task.now (no_files g.K.Task.view g.met.K.Task.only_now g.met.K.Task.sinks c.args.task.now) holds

pub returns-in-Err-clause-log_stays : goal.returns-in-Err-clause-log_stays
returns-in-Err-clause-log_stays g c = λ held placed holds. files_held g.K.Task.view (planned c.args.plan.now) held c.args.task.now c.make_way.new.task c.make_way.ensures.only.files holds

pub returns-in-Err-line-clause-log_stays : goal.returns-in-Err-line-clause-log_stays
returns-in-Err-line-clause-log_stays g c = λ held placed holds.
    let plan = planned c.args.plan.now in
    let old = c.args.task.now in
    let mid = c.make_way.new.task in
    let taken = c.line.new.self in
    held_then g.K.Task.view plan held old taken c.stop.new.task
    (held_then g.K.Task.view plan held old mid taken (files_held g.K.Task.view plan held old mid c.make_way.ensures.only.files holds)
    (log_held g.K.Task.view plan held (g.K.Task.view.at mid).chunk mid taken (c.line.ensures.log_stays plan (c.make_way.ensures.only.keeps.placed plan placed))))
    (files_held g.K.Task.view plan held taken c.stop.new.task c.stop.ensures.only.files)

pub returns-in-Err-settle-clause-log_stays : goal.returns-in-Err-settle-clause-log_stays
returns-in-Err-settle-clause-log_stays g c = λ held placed holds.
    let plan = planned c.args.plan.now in
    let old = c.args.task.now in
    let mid = c.make_way.new.task in
    let taken = c.line.new.self in
    held_then g.K.Task.view plan held old taken c.settle.new.task
    (held_then g.K.Task.view plan held old mid taken (files_held g.K.Task.view plan held old mid c.make_way.ensures.only.files holds)
    (log_held g.K.Task.view plan held (g.K.Task.view.at mid).chunk mid taken (c.line.ensures.log_stays plan (c.make_way.ensures.only.keeps.placed plan placed))))
    (c.settle.ensures.sustains.log plan held (c.in-Ok-line.ensures.placed plan (c.make_way.ensures.only.keeps.placed plan placed)))

pub returns-in-Ok-tell-clause-log_stays : goal.returns-in-Ok-tell-clause-log_stays
returns-in-Ok-tell-clause-log_stays g c = λ held placed holds.
    let plan = planned c.args.plan.now in
    let old = c.args.task.now in
    let mid = c.make_way.new.task in
    let taken = c.line.new.self in
    subst (λ (x : g.row.K.Denot). StaysHeld g.K.Task.view plan held old x) (sym c.reuse.ensures)
    (held_then g.K.Task.view plan held old taken c.settle.new.task
    (held_then g.K.Task.view plan held old mid taken (files_held g.K.Task.view plan held old mid c.make_way.ensures.only.files holds)
    (log_held g.K.Task.view plan held (g.K.Task.view.at mid).chunk mid taken (c.line.ensures.log_stays plan (c.make_way.ensures.only.keeps.placed plan placed))))
    (c.settle.ensures.sustains.log plan held (c.in-Ok-line.ensures.placed plan (c.make_way.ensures.only.keeps.placed plan placed))))

pub returns-in-Err-tell-clause-log_stays : goal.returns-in-Err-tell-clause-log_stays
returns-in-Err-tell-clause-log_stays g c = λ held placed holds.
    let plan = planned c.args.plan.now in
    let old = c.args.task.now in
    let mid = c.make_way.new.task in
    let taken = c.line.new.self in
    held_then g.K.Task.view plan held old c.settle.new.task c.stop-in-Err-tell.new.task
    (held_then g.K.Task.view plan held old taken c.settle.new.task
    (held_then g.K.Task.view plan held old mid taken (files_held g.K.Task.view plan held old mid c.make_way.ensures.only.files holds)
    (log_held g.K.Task.view plan held (g.K.Task.view.at mid).chunk mid taken (c.line.ensures.log_stays plan (c.make_way.ensures.only.keeps.placed plan placed))))
    (c.settle.ensures.sustains.log plan held (c.in-Ok-line.ensures.placed plan (c.make_way.ensures.only.keeps.placed plan placed))))
    (files_held g.K.Task.view plan held c.settle.new.task c.stop-in-Err-tell.new.task c.stop-in-Err-tell.ensures.only.files)

-- where nothing is due and there is room

pub returns-then-is_passed-clause-idle : goal.returns-then-is_passed-clause-idle
returns-then-is_passed-clause-idle g c = λ idle. no_files g.K.Task.view g.met.K.Task.only_now g.met.K.Task.sinks c.args.task.now

pub returns-in-Err-clause-idle : goal.returns-in-Err-clause-idle
returns-in-Err-clause-idle g c = λ idle. c.make_way.ensures.only.files

pub returns-in-Err-line-clause-idle : goal.returns-in-Err-line-clause-idle
returns-in-Err-line-clause-idle g c = λ idle.
    let plan = planned c.args.plan.now in
    let old = c.args.task.now in
    let mid = c.make_way.new.task in
    let taken = c.line.new.self in
    let here = idle_still g.K.Task.view plan c.args.self.now.offset c.args.line.now old mid c.make_way.ensures.only.keeps idle in
    files_join g.K.Task.view old taken c.stop.new.task (files_join g.K.Task.view old mid taken c.make_way.ensures.only.files (files_of g.K.Task.view mid taken (c.line.ensures.roomy here.room).0)) c.stop.ensures.only.files

pub returns-in-Err-settle-clause-idle : goal.returns-in-Err-settle-clause-idle
returns-in-Err-settle-clause-idle g c = λ idle.
    let plan = planned c.args.plan.now in
    let old = c.args.task.now in
    let mid = c.make_way.new.task in
    let taken = c.line.new.self in
    let here = idle_still g.K.Task.view plan c.args.self.now.offset c.args.line.now old mid c.make_way.ensures.only.keeps idle in
    let none = idle_due g.K.Task.view plan c.args.self.now.offset c.args.line.now mid taken c.due_at-due.result c.count-before.result c.count.result c.due_at-due.ensures c.count-before.ensures c.count.ensures (c.in-Ok-line.ensures.events plan here.running) here in
    absurd ((c.in-Err-settle.ensures.settles.idle none).2)

pub returns-in-Ok-tell-clause-idle : goal.returns-in-Ok-tell-clause-idle
returns-in-Ok-tell-clause-idle g c = λ idle.
    let plan = planned c.args.plan.now in
    let old = c.args.task.now in
    let mid = c.make_way.new.task in
    let taken = c.line.new.self in
    let here = idle_still g.K.Task.view plan c.args.self.now.offset c.args.line.now old mid c.make_way.ensures.only.keeps idle in
    let none = idle_due g.K.Task.view plan c.args.self.now.offset c.args.line.now mid taken c.due_at-due.result c.count-before.result c.count.result c.due_at-due.ensures c.count-before.ensures c.count.ensures (c.in-Ok-line.ensures.events plan here.running) here in
    subst (λ (x : g.row.K.Denot). LeavesFiles g.K.Task.view.now g.K.Task.view.may g.K.Task.view.clock g.K.Task.view.since old x) (sym (c.reuse.ensures ∙ (c.settle.ensures.settles.idle none).0))
    (files_join g.K.Task.view old mid taken c.make_way.ensures.only.files (files_of g.K.Task.view mid taken (c.line.ensures.roomy here.room).0))

pub returns-in-Err-tell-clause-idle : goal.returns-in-Err-tell-clause-idle
returns-in-Err-tell-clause-idle g c = λ idle.
    let plan = planned c.args.plan.now in
    let old = c.args.task.now in
    let mid = c.make_way.new.task in
    let taken = c.line.new.self in
    let here = idle_still g.K.Task.view plan c.args.self.now.offset c.args.line.now old mid c.make_way.ensures.only.keeps idle in
    let none = idle_due g.K.Task.view plan c.args.self.now.offset c.args.line.now mid taken c.due_at-due.result c.count-before.result c.count.result c.due_at-due.ensures c.count-before.ensures c.count.ensures (c.in-Ok-line.ensures.events plan here.running) here in
    let before = files_join g.K.Task.view old mid taken c.make_way.ensures.only.files (files_of g.K.Task.view mid taken (c.line.ensures.roomy here.room).0) in
    files_join g.K.Task.view old c.settle.new.task c.stop-in-Err-tell.new.task
    (subst (λ (x : g.row.K.Denot). LeavesFiles g.K.Task.view.now g.K.Task.view.may g.K.Task.view.clock g.K.Task.view.since old x) (sym (c.settle.ensures.settles.idle none).0) before)
    c.stop-in-Err-tell.ensures.only.files

-- where an edge comes to an illegal chunk

pub returns-in-Ok-tell-clause-legal : goal.returns-in-Ok-tell-clause-legal
returns-in-Ok-tell-clause-legal g c = λ room asks.
    let mid = c.make_way.new.task in
    let taken = c.line.new.self in
    let keeps = c.make_way.ensures.only.keeps in
    let same = (c.in-Ok-line.ensures.legal (keeps.roomy room) (keeps.asks_illegal asks)).1 in
    let none = still_due g.K.Task.view mid taken _ _ c.due_at-due.result c.count-before.result c.count.result c.due_at-due.ensures c.count-before.ensures c.count.ensures same in
    ap (λ (x : g.row.K.Denot). g.K.Task.view.at x) (c.reuse.ensures ∙ (c.settle.ensures.settles.idle none).0) ∙ same ∙ keeps.at_stays
