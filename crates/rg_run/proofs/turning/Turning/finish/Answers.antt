use Rattle.std.proofs.Common.{◌≡◌, ◌⊎◌, ◌<◌, ◌^◌, [], Err, inl, inr, ⊎_elim, sym, ◌∙◌, ap, subst, arith, rules}
use Rattle.std.proofs.lemmas.Result.{on_ok_weaker}
use Rattle.rg_host.specs.Lines.{ended}
use Rattle.rg_host.specs.Puts.{Puts}
use Rattle.rg_host.proofs.Laws.{moments_then}
use Rattle.rg_task.specs.State.{State}
use Rattle.rg_run_spec.specs.Stores.{StaysOnCourse}
use Rattle.rg_task.specs.declared.fault.TaskFault.TheVariants as task
use Rattle.rg_run.specs.Due.{last_lines}
use Rattle.rg_run.specs.Turning.{HasStopped}
use Rattle.rg_run.specs.declared.fault.TurnFault.TheVariants as turn
use Rattle.rg_run.proofs.Called.{told_never}
use Rattle.rg_run.proofs.Causes.{if_err_by}
use Rattle.rg_run.proofs.Ending.{save_moments, save_stopped, end_moments, end_done}
use Rattle.rg_run.proofs.Faulting.{same_task}
use Rattle.rg_run.proofs.Gathering.{awaiting_held, awaiting_put, held_moments}
use Rattle.rg_run.proofs.Logged.{files_held, log_held, held_then}
use Rattle.rg_run.proofs.turning.Turning.finish.Goals as goal

pub returns-in-Err-clause-moments : goal.returns-in-Err-clause-moments
returns-in-Err-clause-moments g c = λ plan course a.
    let t = c.args.self.now in
    let h = c.args.task.now in
    let put = c.put_gathered.new.task in
    held_moments g.K.Task.view plan course h put t.gathered.items (awaiting_held g.K.Task.view plan course t.offset h t.gathered.items [] a) c.put_gathered.ensures.puts.leaves c.put_gathered.ensures.puts.part

pub returns-in-Err-clause-log : goal.returns-in-Err-clause-log
returns-in-Err-clause-log g c = c.put_gathered.ensures.only.keeps.goes

pub returns-in-Err-save-clause-moments : goal.returns-in-Err-save-clause-moments
returns-in-Err-save-clause-moments g c = λ plan course a.
    let t = c.args.self.now in
    let h = c.args.task.now in
    let put = c.put_gathered.new.task in
    let saved = c.save.new.self in
    let b = awaiting_put g.K.Task.view plan course t.offset h put t.gathered.items c.put_gathered.ensures.puts.leaves c.put_gathered.ensures.only.keeps c.in-Ok.ensures.puts.all [] a in
    let P = StaysOnCourse (g.K.Task.view.store plan) course [] in
    moments_then g.K.Task.view.clock g.K.Task.view.since h put saved P P P (held_moments g.K.Task.view plan course h put t.gathered.items (awaiting_held g.K.Task.view plan course t.offset h t.gathered.items [] a) c.put_gathered.ensures.puts.leaves c.put_gathered.ensures.puts.part)
    (save_moments g.K.Task.view plan course t.offset put saved b (c.save.ensures.within_step plan b.running)) (λ w p. p) (λ w p. p)

pub returns-in-Err-save-clause-stopped : goal.returns-in-Err-save-clause-stopped
returns-in-Err-save-clause-stopped g c = λ plan course a.
    let t = c.args.self.now in
    let h = c.args.task.now in
    let put = c.put_gathered.new.task in
    let saved = c.save.new.self in
    let b = awaiting_put g.K.Task.view plan course t.offset h put t.gathered.items c.put_gathered.ensures.puts.leaves c.put_gathered.ensures.only.keeps c.in-Ok.ensures.puts.all [] a in
    inr (save_stopped g.K.Task.view plan course t.offset put saved b (c.save.ensures.within_step plan b.running))

pub returns-in-Err-save-clause-disk : goal.returns-in-Err-save-clause-disk
returns-in-Err-save-clause-disk g c = λ is.
    let rose = c.save.ensures.disk (c.in-Err-save.is ∙ ap (λ v. Err v) (same_task c.in-Err-save.fault task.Disk is)) in
    omega (arith, rose, c.put_gathered.ensures.only.disk_faults_stay)

pub returns-in-Err-save-clause-ended : goal.returns-in-Err-save-clause-ended
returns-in-Err-save-clause-ended g c = λ is.
    ap (λ (x : State). x.ended) (sym c.put_gathered.ensures.only.keeps.at_stays) ∙ c.save.ensures.ended (c.in-Err-save.is ∙ ap (λ v. Err v) (same_task c.in-Err-save.fault task.Ended is))

pub returns-in-Err-save-clause-log : goal.returns-in-Err-save-clause-log
returns-in-Err-save-clause-log g c = g.K.Task.view.goes_join c.args.task.now c.put_gathered.new.task c.save.new.self c.put_gathered.ensures.only.keeps.goes c.save.ensures.goes

pub returns-clause-moments : goal.returns-clause-moments
returns-clause-moments g c = λ plan course a.
    let t = c.args.self.now in
    let h = c.args.task.now in
    let put = c.put_gathered.new.task in
    let saved = c.save.new.self in
    let b = awaiting_put g.K.Task.view plan course t.offset h put t.gathered.items c.put_gathered.ensures.puts.leaves c.put_gathered.ensures.only.keeps c.in-Ok.ensures.puts.all [] a in
    let small : c.next-next.result < 2 ^ 64 = search rules in
    let P = StaysOnCourse (g.K.Task.view.store plan) course [] in
    moments_then g.K.Task.view.clock g.K.Task.view.since h put c.tell_end.new.task P P P (held_moments g.K.Task.view plan course h put t.gathered.items (awaiting_held g.K.Task.view plan course t.offset h t.gathered.items [] a) c.put_gathered.ensures.puts.leaves c.put_gathered.ensures.puts.part)
    (end_moments g.K.Task.view plan course t.offset put saved b (c.save.ensures.within_step plan b.running) (c.in-Ok-save.ensures.running plan b.running) (c.in-Ok-save.ensures.stored plan b.running) (c.in-Ok-save.ensures.events plan b.running) (c.in-Ok-save.ensures.saved plan b.running) c.next-next.result c.count-count.result small c.next-next.ensures c.count-count.ensures c.tell_end.new.task c.tell_end.ensures.puts.leaves c.tell_end.ensures.puts.part) (λ w p. p) (λ w p. p)

pub returns-clause-done : goal.returns-clause-done
returns-clause-done g c = λ plan course a.
    let t = c.args.self.now in
    let h = c.args.task.now in
    let put = c.put_gathered.new.task in
    let saved = c.save.new.self in
    let b = awaiting_put g.K.Task.view plan course t.offset h put t.gathered.items c.put_gathered.ensures.puts.leaves c.put_gathered.ensures.only.keeps c.in-Ok.ensures.puts.all [] a in
    let small : c.next-next.result < 2 ^ 64 = search rules in
    on_ok_weaker c.tell_end.result (λ (all : Puts g.K.Task.view.said g.K.Task.view.clock g.K.Task.view.since saved c.tell_end.new.task (ended (last_lines t.offset c.next-next.result c.count-count.result))). end_done g.K.Task.view plan course t.offset put saved b (c.save.ensures.within_step plan b.running) (c.in-Ok-save.ensures.running plan b.running) (c.in-Ok-save.ensures.stored plan b.running) (c.in-Ok-save.ensures.events plan b.running) (c.in-Ok-save.ensures.saved plan b.running) c.next-next.result c.count-count.result small c.next-next.ensures c.count-count.ensures c.tell_end.new.task c.tell_end.ensures.puts.leaves all) c.tell_end.ensures.puts.all

pub returns-clause-read : goal.returns-clause-read
returns-clause-read g c = λ plan course v a told.
    let t = c.args.self.now in
    let h = c.args.task.now in
    let put = c.put_gathered.new.task in
    let saved = c.save.new.self in
    let b = awaiting_put g.K.Task.view plan course t.offset h put t.gathered.items c.put_gathered.ensures.puts.leaves c.put_gathered.ensures.only.keeps c.in-Ok.ensures.puts.all [] a in
    let small : c.next-next.result < 2 ^ 64 = search rules in
    let left = g.met.K.Task.now_may c.tell_end.new.task v told in
    on_ok_weaker c.tell_end.result (λ (all : Puts g.K.Task.view.said g.K.Task.view.clock g.K.Task.view.since saved c.tell_end.new.task (ended (last_lines t.offset c.next-next.result c.count-count.result))). let done = end_done g.K.Task.view plan course t.offset put saved b (c.save.ensures.within_step plan b.running) (c.in-Ok-save.ensures.running plan b.running) (c.in-Ok-save.ensures.stored plan b.running) (c.in-Ok-save.ensures.events plan b.running) (c.in-Ok-save.ensures.saved plan b.running) c.next-next.result c.count-count.result small c.next-next.ensures c.count-count.ensures c.tell_end.new.task c.tell_end.ensures.puts.leaves all in (done.2.truthful v left, done.2.has v left)) c.tell_end.ensures.puts.all

pub returns-clause-stopped : goal.returns-clause-stopped
returns-clause-stopped g c = λ plan course a.
    let t = c.args.self.now in
    let h = c.args.task.now in
    let put = c.put_gathered.new.task in
    let saved = c.save.new.self in
    let b = awaiting_put g.K.Task.view plan course t.offset h put t.gathered.items c.put_gathered.ensures.puts.leaves c.put_gathered.ensures.only.keeps c.in-Ok.ensures.puts.all [] a in
    let last = c.tell_end.new.task in
    if_err_by c.tell_end.result (λ f. (f ≡ turn.Write) ⊎ (last ≡ saved)) (λ f. (f ≡ turn.Write) ⊎ HasStopped g.K.Task.view plan course last)
    (λ f. ⊎_elim (λ write. inl write) (λ same. inr (subst (λ (k : g.row.K.Denot). HasStopped g.K.Task.view plan course k) (sym same) (save_stopped g.K.Task.view plan course t.offset put saved b (c.save.ensures.within_step plan b.running)))))
    c.tell_end.ensures.none

pub returns-clause-write : goal.returns-clause-write
returns-clause-write g c = λ is.
    let rose = c.tell_end.ensures.write is in
    omega (arith, rose, c.put_gathered.ensures.only.out_faults_grow, c.save.ensures.out_faults)

pub returns-clause-disk : goal.returns-clause-disk
returns-clause-disk g c = λ is. absurd (told_never c.tell_end.result c.tell_end.ensures.faults (turn.Task task.Disk) (λ e. cc) (λ e. cc) is)

pub returns-clause-ended : goal.returns-clause-ended
returns-clause-ended g c = λ is. absurd (told_never c.tell_end.result c.tell_end.ensures.faults (turn.Task task.Ended) (λ e. cc) (λ e. cc) is)

pub returns-clause-faults : goal.returns-clause-faults
returns-clause-faults g c =
    if_err_by c.tell_end.result (λ f. (f ≡ turn.Write) ⊎ (f ≡ turn.Task task.Memory)) (λ f. (f ≡ turn.Task task.Disk) ⊎ ((f ≡ turn.Task task.Memory) ⊎ ((f ≡ turn.Task task.Ended) ⊎ (f ≡ turn.Write))))
    (λ f. ⊎_elim (λ write. inr (inr (inr write))) (λ memory. inr (inl memory))) c.tell_end.ensures.faults

pub returns-clause-log : goal.returns-clause-log
returns-clause-log g c =
    g.K.Task.view.goes_join c.args.task.now c.put_gathered.new.task c.tell_end.new.task c.put_gathered.ensures.only.keeps.goes
    (g.K.Task.view.goes_join c.put_gathered.new.task c.save.new.self c.tell_end.new.task c.save.ensures.goes c.tell_end.ensures.only.keeps.goes)

-- over a legal log

pub returns-in-Err-clause-log_stays : goal.returns-in-Err-clause-log_stays
returns-in-Err-clause-log_stays g c = λ plan held placed holds. files_held g.K.Task.view plan held c.args.task.now c.put_gathered.new.task c.put_gathered.ensures.only.files holds

pub returns-in-Err-save-clause-log_stays : goal.returns-in-Err-save-clause-log_stays
returns-in-Err-save-clause-log_stays g c = λ plan held placed holds.
    held_then g.K.Task.view plan held c.args.task.now c.put_gathered.new.task c.save.new.self (files_held g.K.Task.view plan held c.args.task.now c.put_gathered.new.task c.put_gathered.ensures.only.files holds)
    (log_held g.K.Task.view plan held (g.K.Task.view.at c.put_gathered.new.task).chunk c.put_gathered.new.task c.save.new.self (c.save.ensures.log_stays plan (c.put_gathered.ensures.only.keeps.placed plan placed)))

pub returns-clause-log_stays : goal.returns-clause-log_stays
returns-clause-log_stays g c = λ plan held placed holds.
    held_then g.K.Task.view plan held c.args.task.now c.save.new.self c.tell_end.new.task
    (held_then g.K.Task.view plan held c.args.task.now c.put_gathered.new.task c.save.new.self (files_held g.K.Task.view plan held c.args.task.now c.put_gathered.new.task c.put_gathered.ensures.only.files holds)
    (log_held g.K.Task.view plan held (g.K.Task.view.at c.put_gathered.new.task).chunk c.put_gathered.new.task c.save.new.self (c.save.ensures.log_stays plan (c.put_gathered.ensures.only.keeps.placed plan placed))))
    (files_held g.K.Task.view plan held c.save.new.self c.tell_end.new.task c.tell_end.ensures.only.files)
