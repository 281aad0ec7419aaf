use Rattle.std.proofs.Common.{◌≡◌, ◌∷◌, [], ◌≤◌, ℕ, List, arith, sym, ◌∙◌, ap, subst}
use Rattle.std.proofs.lemmas.Bool.{ltb-true, ltb-false}
use Rattle.rg_host.proofs.Laws.{moments_then}
use Rattle.rg_run_spec.specs.Ahead.{after_line}
use Rattle.rg_run_spec.specs.Stores.{StaysOnCourse}
use Rattle.rg_event.specs.declared.event.Event.{Event}
use Rattle.rg_task.specs.Terms.{terms_of}
use Rattle.rg_task.specs.declared.fault.TaskFault.{TaskFault}
use Rattle.rg_task.specs.declared.fault.TaskFault.TheVariants as task
use Rattle.rg_run.specs.Turning.{IsHeld}
use Rattle.rg_run.specs.declared.fault.TurnFault.TheVariants as turn
use Rattle.rg_run.proofs.Called.{turn_is, ended_before}
use Rattle.rg_run.proofs.Faulting.{memory_of, memory_write, obey_others}
use Rattle.rg_run.proofs.Gathering.{mid_held}
use Rattle.rg_run.proofs.Replied.{still_on_course, passed, passed_events, obeyed_mid, obeyed_awaits}
use Rattle.rg_run.proofs.Logged.{no_files, files_held, held_then}
use Rattle.rg_run.proofs.turning.Turning.obey.Goals as goal

pub returns-then-is_passed-clause-moments : goal.returns-then-is_passed-clause-moments
returns-then-is_passed-clause-moments g c = λ plan course item items a asks.
    let t = c.args.self.now in
    still_on_course g.K.Task.view g.met.K.Task.only_now g.met.K.Task.sinks plan course t.offset (item ∷ items)
    c.args.task.now t.gathered.items a

pub returns-then-is_passed-clause-awaits : goal.returns-then-is_passed-clause-awaits
returns-then-is_passed-clause-awaits g c = λ plan course item items a asks.
    let t = c.args.self.now in
    passed g.K.Task.view plan course t.offset item items
    c.args.task.now t.gathered.items a (ltb-true _ _ (sym c.is_passed.ensures ∙ c.if-is_passed.true))

pub returns-then-is_passed-clause-events : goal.returns-then-is_passed-clause-events
returns-then-is_passed-clause-events g c = λ plan course item items a asks.
    let t = c.args.self.now in
    passed_events g.K.Task.view plan course t.offset item items
    c.args.task.now t.gathered.items a (ltb-true _ _ (sym c.is_passed.ensures ∙ c.if-is_passed.true))

pub returns-then-is_passed-clause-log : goal.returns-then-is_passed-clause-log
returns-then-is_passed-clause-log g c = g.K.Task.view.goes_same c.args.task.now

pub returns-in-Err-clause-moments : goal.returns-in-Err-clause-moments
returns-in-Err-clause-moments g c = λ plan course item items a asks. c.load.ensures.loads.moments plan course c.args.self.now.offset (item ∷ items) a

pub returns-in-Err-clause-stopped : goal.returns-in-Err-clause-stopped
returns-in-Err-clause-stopped g c = λ plan course item items a asks. c.in-Err.ensures.loads.stopped plan course c.args.self.now.offset (item ∷ items) a

pub returns-in-Err-clause-never_damaged : goal.returns-in-Err-clause-never_damaged
returns-in-Err-clause-never_damaged g c = λ plan course items p a is. c.load.ensures.damage.undamaged plan p (g.K.Task.view.run_placed plan c.args.task.now a.running) (c.in-Err.is ∙ is)

pub returns-in-Err-clause-undamaged : goal.returns-in-Err-clause-undamaged
returns-in-Err-clause-undamaged g c = λ plan p placed is. c.load.ensures.damage.undamaged plan p placed (c.in-Err.is ∙ is)

pub returns-in-Err-clause-damaged : goal.returns-in-Err-clause-damaged
returns-in-Err-clause-damaged g c = λ p is. c.load.ensures.damage.damaged p (c.in-Err.is ∙ is)

pub returns-in-Err-clause-write : goal.returns-in-Err-clause-write
returns-in-Err-clause-write g c = λ is. c.load.ensures.cause.write (c.in-Err.is ∙ is)

pub returns-in-Err-clause-disk : goal.returns-in-Err-clause-disk
returns-in-Err-clause-disk g c = λ is. c.load.ensures.cause.disk (c.in-Err.is ∙ is)

pub returns-in-Err-clause-ended : goal.returns-in-Err-clause-ended
returns-in-Err-clause-ended g c = λ is. c.load.ensures.cause.ended (c.in-Err.is ∙ is)

pub returns-in-Err-clause-log : goal.returns-in-Err-clause-log
returns-in-Err-clause-log g c = c.load.ensures.sustains.goes

pub returns-in-Err-settle-clause-moments : goal.returns-in-Err-settle-clause-moments
returns-in-Err-settle-clause-moments g c = λ plan course item items a asks.
    let t = c.args.self.now in
    let mid = c.load.new.task in
    let left = c.load.new.gathered.items in
    let next : (g.K.Task.view.at mid).next ≤ t.offset = let above : (g.K.Task.view.at c.args.task.now).next ≤ t.offset = ltb-false _ _ (sym c.is_passed.ensures ∙ c.if-is_passed.false) in omega (arith, above, c.load.ensures.loads.next_stays) in
    let b = c.in-Ok.ensures.loads.awaits plan course t.offset (item ∷ items) a in
    let m = obeyed_mid g.K.Task.view plan course t.offset item items mid left b c.args.control next asks in
    let P = StaysOnCourse (g.K.Task.view.store plan) course [] in
    moments_then g.K.Task.view.clock g.K.Task.view.since c.args.task.now mid c.settle.new.task P P P
    (c.load.ensures.loads.moments plan course t.offset (item ∷ items) a)
    (c.settle.ensures.settles.moments plan course t.offset item items mid m) (λ w p. p) (λ w p. p)

pub returns-in-Err-settle-clause-stopped : goal.returns-in-Err-settle-clause-stopped
returns-in-Err-settle-clause-stopped g c = λ plan course item items a asks.
    let t = c.args.self.now in
    let mid = c.load.new.task in
    let left = c.load.new.gathered.items in
    let next : (g.K.Task.view.at mid).next ≤ t.offset = let above : (g.K.Task.view.at c.args.task.now).next ≤ t.offset = ltb-false _ _ (sym c.is_passed.ensures ∙ c.if-is_passed.false) in omega (arith, above, c.load.ensures.loads.next_stays) in
    let b = c.in-Ok.ensures.loads.awaits plan course t.offset (item ∷ items) a in
    let m = obeyed_mid g.K.Task.view plan course t.offset item items mid left b c.args.control next asks in
    c.in-Err-settle.ensures.settles.stopped plan course t.offset item items mid m

pub returns-in-Err-settle-clause-never_bad : goal.returns-in-Err-settle-clause-never_bad
returns-in-Err-settle-clause-never_bad g c = λ n is. (obey_others c.in-Err-settle.fault c.in-Err-settle.ensures.faults).1 n (turn_is c.in-Err-settle.fault (turn.Task (task.BadState n)) is)

pub returns-in-Err-settle-clause-never_damaged : goal.returns-in-Err-settle-clause-never_damaged
returns-in-Err-settle-clause-never_damaged g c = λ plan course items p a is. (obey_others c.in-Err-settle.fault c.in-Err-settle.ensures.faults).0 p (turn_is c.in-Err-settle.fault (turn.Task (task.Damaged p)) is)

pub returns-in-Err-settle-clause-undamaged : goal.returns-in-Err-settle-clause-undamaged
returns-in-Err-settle-clause-undamaged g c = λ plan p placed is. (obey_others c.in-Err-settle.fault c.in-Err-settle.ensures.faults).0 p (turn_is c.in-Err-settle.fault (turn.Task (task.Damaged p)) is)

pub returns-in-Err-settle-clause-damaged : goal.returns-in-Err-settle-clause-damaged
returns-in-Err-settle-clause-damaged g c = λ p is. absurd ((obey_others c.in-Err-settle.fault c.in-Err-settle.ensures.faults).0 p (turn_is c.in-Err-settle.fault (turn.Task (task.Damaged p)) is))

pub returns-in-Err-settle-clause-write : goal.returns-in-Err-settle-clause-write
returns-in-Err-settle-clause-write g c = λ is. let rose = c.settle.ensures.cause.write (c.in-Err-settle.is ∙ is) in omega (arith, rose, c.load.ensures.sustains.out_faults_grow)

pub returns-in-Err-settle-clause-disk : goal.returns-in-Err-settle-clause-disk
returns-in-Err-settle-clause-disk g c = λ is. let rose = c.settle.ensures.cause.disk (c.in-Err-settle.is ∙ is) in omega (arith, rose, c.load.ensures.sustains.disk_faults_grow)

pub returns-in-Err-settle-clause-ended : goal.returns-in-Err-settle-clause-ended
returns-in-Err-settle-clause-ended g c = λ is.
    ended_before (g.K.Task.view.at c.args.task.now).ended (g.K.Task.view.at c.load.new.task).ended c.in-Ok.ensures.sustains.going (c.settle.ensures.cause.ended (c.in-Err-settle.is ∙ is))

pub returns-in-Err-settle-clause-log : goal.returns-in-Err-settle-clause-log
returns-in-Err-settle-clause-log g c = g.K.Task.view.goes_join c.args.task.now c.load.new.task c.settle.new.task c.load.ensures.sustains.goes c.settle.ensures.sustains.goes

pub returns-in-Ok-tell-clause-moments : goal.returns-in-Ok-tell-clause-moments
returns-in-Ok-tell-clause-moments g c = λ plan course item items a asks.
    let t = c.args.self.now in
    let mid = c.load.new.task in
    let left = c.load.new.gathered.items in
    let next : (g.K.Task.view.at mid).next ≤ t.offset = let above : (g.K.Task.view.at c.args.task.now).next ≤ t.offset = ltb-false _ _ (sym c.is_passed.ensures ∙ c.if-is_passed.false) in omega (arith, above, c.load.ensures.loads.next_stays) in
    let b = c.in-Ok.ensures.loads.awaits plan course t.offset (item ∷ items) a in
    let m = obeyed_mid g.K.Task.view plan course t.offset item items mid left b c.args.control next asks in
    let P = StaysOnCourse (g.K.Task.view.store plan) course [] in
    moments_then g.K.Task.view.clock g.K.Task.view.since c.args.task.now mid c.settle.new.task P P P
    (c.load.ensures.loads.moments plan course t.offset (item ∷ items) a)
    (c.settle.ensures.settles.moments plan course t.offset item items mid m) (λ w p. p) (λ w p. p)

pub returns-in-Ok-tell-clause-awaits : goal.returns-in-Ok-tell-clause-awaits
returns-in-Ok-tell-clause-awaits g c = λ plan course item items a asks.
    let t = c.args.self.now in
    let mid = c.load.new.task in
    let left = c.load.new.gathered.items in
    let next : (g.K.Task.view.at mid).next ≤ t.offset = let above : (g.K.Task.view.at c.args.task.now).next ≤ t.offset = ltb-false _ _ (sym c.is_passed.ensures ∙ c.if-is_passed.false) in omega (arith, above, c.load.ensures.loads.next_stays) in
    let b = c.in-Ok.ensures.loads.awaits plan course t.offset (item ∷ items) a in
    let m = obeyed_mid g.K.Task.view plan course t.offset item items mid left b c.args.control next asks in
    let m2 = c.in-Ok-settle.ensures.settles.mid_turn plan course t.offset item items mid m in
    let done = c.in-Ok-settle.ensures.settles.done plan m.running in
    obeyed_awaits g.K.Task.view plan course t.offset item items mid left b c.args.control next asks
    c.settle.new.task c.settle.new.gathered.items m2 c.due_asked-due.result c.due_asked-due.ensures c.requires.small done c.tell.new.gathered.items c.in-Ok-tell.ensures.all

pub returns-in-Ok-tell-clause-events : goal.returns-in-Ok-tell-clause-events
returns-in-Ok-tell-clause-events g c = λ plan course item items a asks.
    let t = c.args.self.now in
    let mid = c.load.new.task in
    let left = c.load.new.gathered.items in
    let next : (g.K.Task.view.at mid).next ≤ t.offset = let above : (g.K.Task.view.at c.args.task.now).next ≤ t.offset = ltb-false _ _ (sym c.is_passed.ensures ∙ c.if-is_passed.false) in omega (arith, above, c.load.ensures.loads.next_stays) in
    let b = c.in-Ok.ensures.loads.awaits plan course t.offset (item ∷ items) a in
    let m = obeyed_mid g.K.Task.view plan course t.offset item items mid left b c.args.control next asks in
    let m2 = c.in-Ok-settle.ensures.settles.mid_turn plan course t.offset item items mid m in
    m2.follows ∙ ap (λ (es : List Event). after_line (terms_of plan).basis es t.offset item) (c.in-Ok.ensures.loads.events plan course t.offset (item ∷ items) a)

pub returns-in-Ok-tell-clause-node : goal.returns-in-Ok-tell-clause-node
returns-in-Ok-tell-clause-node g c = λ plan n runs. c.in-Ok-settle.ensures.sustains.node plan n (c.in-Ok.ensures.sustains.node plan n runs)

pub returns-in-Ok-tell-clause-placed : goal.returns-in-Ok-tell-clause-placed
returns-in-Ok-tell-clause-placed g c = λ plan placed. c.in-Ok-settle.ensures.sustains.placed plan (c.in-Ok.ensures.sustains.placed plan placed)

pub returns-in-Ok-tell-clause-goes : goal.returns-in-Ok-tell-clause-goes
returns-in-Ok-tell-clause-goes g c = λ going. c.in-Ok-settle.ensures.sustains.going (c.in-Ok.ensures.sustains.going going)

pub returns-in-Ok-tell-clause-log : goal.returns-in-Ok-tell-clause-log
returns-in-Ok-tell-clause-log g c = g.K.Task.view.goes_join c.args.task.now c.load.new.task c.settle.new.task c.load.ensures.sustains.goes c.settle.ensures.sustains.goes

pub returns-in-Err-tell-clause-moments : goal.returns-in-Err-tell-clause-moments
returns-in-Err-tell-clause-moments g c = λ plan course item items a asks.
    let t = c.args.self.now in
    let mid = c.load.new.task in
    let left = c.load.new.gathered.items in
    let next : (g.K.Task.view.at mid).next ≤ t.offset = let above : (g.K.Task.view.at c.args.task.now).next ≤ t.offset = ltb-false _ _ (sym c.is_passed.ensures ∙ c.if-is_passed.false) in omega (arith, above, c.load.ensures.loads.next_stays) in
    let b = c.in-Ok.ensures.loads.awaits plan course t.offset (item ∷ items) a in
    let m = obeyed_mid g.K.Task.view plan course t.offset item items mid left b c.args.control next asks in
    let m2 = c.in-Ok-settle.ensures.settles.mid_turn plan course t.offset item items mid m in
    let P = StaysOnCourse (g.K.Task.view.store plan) course [] in
    moments_then g.K.Task.view.clock g.K.Task.view.since c.args.task.now c.settle.new.task c.stop.new.task P P P
    (moments_then g.K.Task.view.clock g.K.Task.view.since c.args.task.now mid c.settle.new.task P P P
    (c.load.ensures.loads.moments plan course t.offset (item ∷ items) a)
    (c.settle.ensures.settles.moments plan course t.offset item items mid m) (λ w p. p) (λ w p. p))
    (c.stop.ensures.stops.moments plan course (subst (λ (l : List ℕ). IsHeld g.K.Task.view plan course c.settle.new.task l) (sym c.in-Err-tell.ensures.none)
    (mid_held g.K.Task.view plan course t.offset c.settle.new.task c.settle.new.gathered.items item items mid m2))) (λ w p. p) (λ w p. p)

pub returns-in-Err-tell-clause-stopped : goal.returns-in-Err-tell-clause-stopped
returns-in-Err-tell-clause-stopped g c = λ plan course item items a asks.
    let t = c.args.self.now in
    let mid = c.load.new.task in
    let left = c.load.new.gathered.items in
    let next : (g.K.Task.view.at mid).next ≤ t.offset = let above : (g.K.Task.view.at c.args.task.now).next ≤ t.offset = ltb-false _ _ (sym c.is_passed.ensures ∙ c.if-is_passed.false) in omega (arith, above, c.load.ensures.loads.next_stays) in
    let b = c.in-Ok.ensures.loads.awaits plan course t.offset (item ∷ items) a in
    let m = obeyed_mid g.K.Task.view plan course t.offset item items mid left b c.args.control next asks in
    let m2 = c.in-Ok-settle.ensures.settles.mid_turn plan course t.offset item items mid m in
    c.stop.ensures.stops.stopped plan course (subst (λ (l : List ℕ). IsHeld g.K.Task.view plan course c.settle.new.task l) (sym c.in-Err-tell.ensures.none)
    (mid_held g.K.Task.view plan course t.offset c.settle.new.task c.settle.new.gathered.items item items mid m2))

pub returns-in-Err-tell-clause-never_bad : goal.returns-in-Err-tell-clause-never_bad
returns-in-Err-tell-clause-never_bad g c = λ n is. absurd (let m : ◌≡◌ {A = TaskFault} task.Memory (task.BadState n) = memory_of c.stop.result c.in-Err-tell.fault (task.BadState n) c.stop.ensures.which c.in-Err-tell.ensures.faults is in cc)

pub returns-in-Err-tell-clause-never_damaged : goal.returns-in-Err-tell-clause-never_damaged
returns-in-Err-tell-clause-never_damaged g c = λ plan course items p a is. absurd (let m : ◌≡◌ {A = TaskFault} task.Memory (task.Damaged p) = memory_of c.stop.result c.in-Err-tell.fault (task.Damaged p) c.stop.ensures.which c.in-Err-tell.ensures.faults is in cc)

pub returns-in-Err-tell-clause-undamaged : goal.returns-in-Err-tell-clause-undamaged
returns-in-Err-tell-clause-undamaged g c = λ plan p placed is. absurd (let m : ◌≡◌ {A = TaskFault} task.Memory (task.Damaged p) = memory_of c.stop.result c.in-Err-tell.fault (task.Damaged p) c.stop.ensures.which c.in-Err-tell.ensures.faults is in cc)

pub returns-in-Err-tell-clause-damaged : goal.returns-in-Err-tell-clause-damaged
returns-in-Err-tell-clause-damaged g c = λ p is. absurd (let m : ◌≡◌ {A = TaskFault} task.Memory (task.Damaged p) = memory_of c.stop.result c.in-Err-tell.fault (task.Damaged p) c.stop.ensures.which c.in-Err-tell.ensures.faults is in cc)

pub returns-in-Err-tell-clause-disk : goal.returns-in-Err-tell-clause-disk
returns-in-Err-tell-clause-disk g c = λ is. absurd (let m : ◌≡◌ {A = TaskFault} task.Memory (task.Disk) = memory_of c.stop.result c.in-Err-tell.fault (task.Disk) c.stop.ensures.which c.in-Err-tell.ensures.faults is in cc)

pub returns-in-Err-tell-clause-ended : goal.returns-in-Err-tell-clause-ended
returns-in-Err-tell-clause-ended g c = λ is. absurd (let m : ◌≡◌ {A = TaskFault} task.Memory (task.Ended) = memory_of c.stop.result c.in-Err-tell.fault (task.Ended) c.stop.ensures.which c.in-Err-tell.ensures.faults is in cc)

pub returns-in-Err-tell-clause-write : goal.returns-in-Err-tell-clause-write
returns-in-Err-tell-clause-write g c = λ is.
    let rose = memory_write c.stop.result c.in-Err-tell.fault c.stop.ensures.which c.in-Err-tell.ensures.faults is in
    omega (arith, rose, c.settle.ensures.sustains.out_faults_grow, c.load.ensures.sustains.out_faults_grow)

pub returns-in-Err-tell-clause-log : goal.returns-in-Err-tell-clause-log
returns-in-Err-tell-clause-log g c = g.K.Task.view.goes_join c.args.task.now c.load.new.task c.stop.new.task c.load.ensures.sustains.goes (g.K.Task.view.goes_join c.load.new.task c.settle.new.task c.stop.new.task c.settle.ensures.sustains.goes c.stop.ensures.only.keeps.goes)

pub returns-in-Err-settle-clause-disk_faults : goal.returns-in-Err-settle-clause-disk_faults
returns-in-Err-settle-clause-disk_faults g c = omega (arith, c.load.ensures.sustains.disk_faults_grow, c.settle.ensures.sustains.disk_faults_grow)

pub returns-in-Err-settle-clause-out_faults : goal.returns-in-Err-settle-clause-out_faults
returns-in-Err-settle-clause-out_faults g c = omega (arith, c.load.ensures.sustains.out_faults_grow, c.settle.ensures.sustains.out_faults_grow)

pub returns-in-Ok-tell-clause-disk_faults : goal.returns-in-Ok-tell-clause-disk_faults
returns-in-Ok-tell-clause-disk_faults g c = omega (arith, c.load.ensures.sustains.disk_faults_grow, c.settle.ensures.sustains.disk_faults_grow)

pub returns-in-Ok-tell-clause-out_faults : goal.returns-in-Ok-tell-clause-out_faults
returns-in-Ok-tell-clause-out_faults g c = omega (arith, c.load.ensures.sustains.out_faults_grow, c.settle.ensures.sustains.out_faults_grow)

pub returns-in-Err-tell-clause-disk_faults : goal.returns-in-Err-tell-clause-disk_faults
returns-in-Err-tell-clause-disk_faults g c = omega (arith, c.load.ensures.sustains.disk_faults_grow, c.settle.ensures.sustains.disk_faults_grow, c.stop.ensures.only.disk_faults_stay)

pub returns-in-Err-tell-clause-out_faults : goal.returns-in-Err-tell-clause-out_faults
returns-in-Err-tell-clause-out_faults g c = omega (arith, c.load.ensures.sustains.out_faults_grow, c.settle.ensures.sustains.out_faults_grow, c.stop.ensures.only.out_faults_grow)

pub returns-in-Err-clause-disk_faults : goal.returns-in-Err-clause-disk_faults
returns-in-Err-clause-disk_faults g c = c.load.ensures.sustains.disk_faults_grow

pub returns-in-Err-clause-out_faults : goal.returns-in-Err-clause-out_faults
returns-in-Err-clause-out_faults g c = c.load.ensures.sustains.out_faults_grow

-- over a legal log

pub returns-then-is_passed-clause-log_stays : goal.returns-then-is_passed-clause-log_stays
returns-then-is_passed-clause-log_stays g c = λ plan held placed holds. files_held g.K.Task.view plan held c.args.task.now c.args.task.now (no_files g.K.Task.view g.met.K.Task.only_now g.met.K.Task.sinks c.args.task.now) holds

pub returns-in-Err-clause-log_stays : goal.returns-in-Err-clause-log_stays
returns-in-Err-clause-log_stays g c = c.load.ensures.sustains.log

pub returns-in-Err-settle-clause-log_stays : goal.returns-in-Err-settle-clause-log_stays
returns-in-Err-settle-clause-log_stays g c = λ plan held placed holds.
    held_then g.K.Task.view plan held c.args.task.now c.load.new.task c.settle.new.task (c.load.ensures.sustains.log plan held placed holds) (c.settle.ensures.sustains.log plan held (c.in-Ok.ensures.sustains.placed plan placed))

pub returns-in-Ok-tell-clause-log_stays : goal.returns-in-Ok-tell-clause-log_stays
returns-in-Ok-tell-clause-log_stays g c = λ plan held placed holds.
    held_then g.K.Task.view plan held c.args.task.now c.load.new.task c.settle.new.task (c.load.ensures.sustains.log plan held placed holds) (c.settle.ensures.sustains.log plan held (c.in-Ok.ensures.sustains.placed plan placed))

pub returns-in-Err-tell-clause-log_stays : goal.returns-in-Err-tell-clause-log_stays
returns-in-Err-tell-clause-log_stays g c = λ plan held placed holds.
    held_then g.K.Task.view plan held c.args.task.now c.settle.new.task c.stop.new.task
    (held_then g.K.Task.view plan held c.args.task.now c.load.new.task c.settle.new.task (c.load.ensures.sustains.log plan held placed holds) (c.settle.ensures.sustains.log plan held (c.in-Ok.ensures.sustains.placed plan placed)))
    (files_held g.K.Task.view plan held c.settle.new.task c.stop.new.task c.stop.ensures.only.files)
