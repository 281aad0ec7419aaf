use Rattle.std.proofs.Common.{inl, inr, Err, refl, sym, ◌∙◌, ap, subst, arith}
use Rattle.rg_recover.proofs.TaskCauses.{same_fault, disk_by, ended_by, rose_first, commit_faults, commit_no_table, memory_or}
use Rattle.rg_recover.proofs.AllSaved.{all_stored}
use Rattle.rg_reservoir.proofs.Laws.{ok_not_err, err_is}
use Rattle.rg_host.proofs.Laws.{leaves_all-none}
use Rattle.rg_host.specs.Moments.{LeavesAll}
use Rattle.rg_recover.specs.Living.{of_session, state_of}
use Rattle.rg_recover.specs.declared.fault.TaskFault.TheVariants as session
use Rattle.rg_task.specs.declared.fault.TaskFault.TheVariants as told
use Rattle.std.specs.Prelude.{◌≡◌, ◌<◌, length}
use Rattle.rg_open.specs.Blame.{NodeRuns, IsPlaced}
use Rattle.rg_reservoir.specs.Kept.{opened, room_of}
use Rattle.rg_recover.specs.Sessions.{Sitting, IsRunning}
use Rattle.rg_recover.specs.Living.{IsIllegalIn}
use Rattle.rg_recover.specs.Taking.{AsksIllegalChunk}
use Rattle.rg_recover.specs.declared.fault.TaskFault.{TaskFault as SessionFault}
use Rattle.rg_recover.proofs.live.LiveTask.commit.Goals as goal

pub returns-in-Ok-clause-within_step : goal.returns-in-Ok-clause-within_step
returns-in-Ok-clause-within_step g c = λ plan keep runs.
    let w = c.commit.ensures.within_step plan keep runs in
    record { moments = record { later = w.moments.later; each = w.moments.each; nothing_else = w.moments.nothing_else; keeps = w.moments.keeps; adds = w.moments.adds }; left = w.left; said_stays = w.said_stays }

pub returns-in-Err-clause-within_step : goal.returns-in-Err-clause-within_step
returns-in-Err-clause-within_step g c = λ plan keep runs.
    let w = c.commit.ensures.within_step plan keep runs in
    record { moments = record { later = w.moments.later; each = w.moments.each; nothing_else = w.moments.nothing_else; keeps = w.moments.keeps; adds = w.moments.adds }; left = w.left; said_stays = w.said_stays }

pub returns-in-Ok-clause-stored : goal.returns-in-Ok-clause-stored
returns-in-Ok-clause-stored g c = λ plan keep runs. c.in-Ok.ensures.stored plan keep runs

pub returns-in-Ok-clause-events : goal.returns-in-Ok-clause-events
returns-in-Ok-clause-events g c = λ plan runs. c.in-Ok.ensures.events plan runs

pub returns-in-Ok-clause-running : goal.returns-in-Ok-clause-running
returns-in-Ok-clause-running g c = λ plan runs. c.in-Ok.ensures.running plan runs

pub returns-in-Ok-clause-node : goal.returns-in-Ok-clause-node
returns-in-Ok-clause-node g c = λ plan n runs. c.in-Ok.ensures.node plan n runs

pub returns-in-Ok-clause-placed : goal.returns-in-Ok-clause-placed
returns-in-Ok-clause-placed g c = λ plan placed. c.in-Ok.ensures.placed plan placed

pub returns-in-Ok-clause-next : goal.returns-in-Ok-clause-next
returns-in-Ok-clause-next g c = c.in-Ok.ensures.next

pub returns-in-Ok-clause-all : goal.returns-in-Ok-clause-all
returns-in-Ok-clause-all g c = all_stored (g.H.Host.now c.commit.new.host) c.commit.new.self c.in-Ok.ensures.empty

pub returns-in-Ok-clause-keep : goal.returns-in-Ok-clause-keep
returns-in-Ok-clause-keep g c = c.commit.ensures.stays.2

pub returns-in-Err-clause-keep : goal.returns-in-Err-clause-keep
returns-in-Err-clause-keep g c = c.commit.ensures.stays.2

pub returns-in-Ok-clause-next_stays : goal.returns-in-Ok-clause-next_stays
returns-in-Ok-clause-next_stays g c = c.commit.ensures.last

pub returns-in-Err-clause-next_stays : goal.returns-in-Err-clause-next_stays
returns-in-Err-clause-next_stays g c = c.commit.ensures.last

pub returns-in-Err-clause-disk : goal.returns-in-Err-clause-disk
returns-in-Err-clause-disk g c = λ is. elim (disk_by c.in-Err.fault (sym c.task_fault.ensures ∙ same_fault _ _ is)) [
  | inl d ↦ rose_first _ _ _ _ (c.commit.ensures.disk (c.in-Err.is ∙ ap (λ v. Err v) d)) (omega (arith, ap (λ x. g.T.Table.faults x.table) c.commit.ensures.stays.0))
  | inr t ↦ absurd (commit_no_table c.in-Err.fault c.in-Err.ensures.faults t)
]

pub returns-in-Err-clause-faults : goal.returns-in-Err-clause-faults
returns-in-Err-clause-faults g c = rw c.task_fault.ensures (commit_faults c.in-Err.fault c.in-Err.ensures.faults)

pub returns-in-Err-clause-ended : goal.returns-in-Err-clause-ended
returns-in-Err-clause-ended g c = λ is. c.commit.ensures.ended.0 (c.in-Err.is ∙ ap (λ v. Err v) (ended_by c.in-Err.fault (sym c.task_fault.ensures ∙ same_fault _ _ is)))

pub returns-in-Ok-clause-going : goal.returns-in-Ok-clause-going
returns-in-Ok-clause-going g c = c.in-Ok.ensures.goes

pub returns-in-Err-clause-ends : goal.returns-in-Err-clause-ends
returns-in-Err-clause-ends g c = rw c.task_fault.ensures (memory_or c.in-Err.fault c.in-Err.ensures.ends)

pub returns-in-Ok-clause-goes : goal.returns-in-Ok-clause-goes
returns-in-Ok-clause-goes g c = ((refl, refl, refl), c.commit.ensures.log)

pub returns-in-Err-clause-goes : goal.returns-in-Err-clause-goes
returns-in-Err-clause-goes g c = ((refl, refl, refl), c.commit.ensures.log)

pub returns-in-Ok-clause-said : goal.returns-in-Ok-clause-said
returns-in-Ok-clause-said g c = c.commit.ensures.said

pub returns-in-Err-clause-said : goal.returns-in-Err-clause-said
returns-in-Err-clause-said g c = c.commit.ensures.said

pub returns-in-Ok-clause-disk_faults : goal.returns-in-Ok-clause-disk_faults
returns-in-Ok-clause-disk_faults g c = omega (arith, c.commit.ensures.disk_faults, ap (λ x. g.T.Table.faults x.table) c.commit.ensures.stays.0)

pub returns-in-Err-clause-disk_faults : goal.returns-in-Err-clause-disk_faults
returns-in-Err-clause-disk_faults g c = omega (arith, c.commit.ensures.disk_faults, ap (λ x. g.T.Table.faults x.table) c.commit.ensures.stays.0)

pub returns-in-Ok-clause-out_faults : goal.returns-in-Ok-clause-out_faults
returns-in-Ok-clause-out_faults g c = c.commit.ensures.out_faults

pub returns-in-Err-clause-out_faults : goal.returns-in-Err-clause-out_faults
returns-in-Err-clause-out_faults g c = c.commit.ensures.out_faults

pub returns-in-Ok-clause-over : goal.returns-in-Ok-clause-over
returns-in-Ok-clause-over g c = λ over. absurd (ok_not_err _ session.Ended (c.in-Ok.ensures.ended.1 over))

pub returns-in-Err-clause-over : goal.returns-in-Err-clause-over
returns-in-Err-clause-over g c = λ over.
    let stays = c.commit.ensures.untouched (c.commit.ensures.ended.1 over) in
    let old = c.args.self.now.host.now in
    record {
      refused = ap (λ f. Err f) (c.task_fault.ensures ∙ ap of_session (err_is c.in-Err.fault session.Ended (c.in-Err.ensures.ended.1 over)));
      at_stays = ap (λ h. state_of (g.H.Host.now h) c.commit.new.self) stays.1 ∙ ap (λ s. state_of (g.H.Host.now old) s) stays.0;
      leaves =
          let q = subst (λ h. LeavesAll g.H.Host.now g.H.Host.may g.H.Host.clock g.H.Host.since g.H.Host.said old h) (sym stays.1)
          (leaves_all-none g.H.Host.now g.H.Host.may g.H.Host.clock g.H.Host.since g.H.Host.said old (λ t u m le at. g.met.H.Host.sinks _ t u m le at) (λ m at. g.met.H.Host.only_now _ m at)) in
          record {
            now_stays = q.now_stays;
            may_stays = q.may_stays;
            said_stays = q.said_stays;
            moments = record { later = q.moments.later; each = q.moments.each; nothing_else = q.moments.nothing_else; keeps = q.moments.keeps; adds = q.moments.adds };
          };
    }

memory_by : (f : SessionFault) → of_session f ≡ told.Memory → f ≡ session.Memory
memory_by session.Disk is = absurd cc
memory_by (session.Damaged place) is = absurd cc
memory_by (session.BadState node) is = absurd cc
memory_by session.Memory is = refl
memory_by session.Ended is = absurd cc
memory_by session.Table is = absurd cc

pub returns-in-Ok-clause-memory : goal.returns-in-Ok-clause-memory
returns-in-Ok-clause-memory g c = λ is. absurd (ok_not_err _ told.Memory is)

pub returns-in-Err-clause-memory : goal.returns-in-Err-clause-memory
returns-in-Err-clause-memory g c = λ is.
    let stays = c.commit.ensures.memory (c.in-Err.is ∙ ap (λ v. Err v) (memory_by c.in-Err.fault (sym c.task_fault.ensures ∙ same_fault _ _ is))) in
    let old = c.args.self.now.host.now in
    let new = c.commit.new.self in (
      record {
        at_stays = ap (λ h. state_of (g.H.Host.now h) new) stays.1 ∙ ap (λ s. state_of (g.H.Host.now old) s) stays.0;
        roomy = λ r. subst (λ (s : Sitting g.row.T.Denot). length (opened s.reservoir) < room_of s.reservoir) (sym stays.0) r;
        running = λ plan r. subst (λ h. IsRunning plan (g.H.Host.now h) (g.H.Host.may h) g.T.Table.tells g.T.Table.cell g.T.Table.named g.T.Table.there new) (sym stays.1)
            (subst (λ s. IsRunning plan (g.H.Host.now old) (g.H.Host.may old) g.T.Table.tells g.T.Table.cell g.T.Table.named g.T.Table.there s) (sym stays.0) r);
        node = λ plan n r. subst (λ h. NodeRuns plan n (g.H.Host.now h) (g.H.Host.may h) (g.T.Table.tells new.engine.table) (g.T.Table.cell new.engine.table) new.reservoir new.engine) (sym stays.1)
            (subst (λ s. NodeRuns plan n (g.H.Host.now old) (g.H.Host.may old) (g.T.Table.tells s.engine.table) (g.T.Table.cell s.engine.table) s.reservoir s.engine) (sym stays.0) r);
        placed = λ plan r. subst (λ h. IsPlaced plan (g.H.Host.now h) (g.H.Host.may h) new.reservoir new.engine) (sym stays.1)
            (subst (λ s. IsPlaced plan (g.H.Host.now old) (g.H.Host.may old) s.reservoir s.engine) (sym stays.0) r);
        illegal = λ place r. subst (λ h. IsIllegalIn (g.H.Host.now h) new place) (sym stays.1) (subst (λ s. IsIllegalIn (g.H.Host.now old) s place) (sym stays.0) r);
        asks_illegal = λ r. subst (λ h. AsksIllegalChunk (g.H.Host.now h) new.reservoir new.engine.spots) (sym stays.1) (subst (λ (s : Sitting g.row.T.Denot). AsksIllegalChunk (g.H.Host.now old) s.reservoir s.engine.spots) (sym stays.0) r);
        goes = ((refl, refl, refl), c.commit.ensures.log);
      },
      (let q = subst (λ h. LeavesAll g.H.Host.now g.H.Host.may g.H.Host.clock g.H.Host.since g.H.Host.said old h) (sym stays.1)
          (leaves_all-none g.H.Host.now g.H.Host.may g.H.Host.clock g.H.Host.since g.H.Host.said old (λ t u m le at. g.met.H.Host.sinks _ t u m le at) (λ m at. g.met.H.Host.only_now _ m at)) in record { now_stays = q.now_stays; may_stays = q.may_stays; said_stays = q.said_stays; moments = record { later = q.moments.later; each = q.moments.each; nothing_else = q.moments.nothing_else; keeps = q.moments.keeps; adds = q.moments.adds } }),
    )

pub returns-in-Ok-clause-log_stays : goal.returns-in-Ok-clause-log_stays
returns-in-Ok-clause-log_stays g c = λ plan placed.
    let w = c.commit.ensures.log_stays plan placed.reservoir in
    record { moments = record { later = w.moments.later; each = w.moments.each; nothing_else = w.moments.nothing_else; keeps = w.moments.keeps; adds = w.moments.adds }; left = w.left }

pub returns-in-Err-clause-log_stays : goal.returns-in-Err-clause-log_stays
returns-in-Err-clause-log_stays g c = λ plan placed.
    let w = c.commit.ensures.log_stays plan placed.reservoir in
    record { moments = record { later = w.moments.later; each = w.moments.each; nothing_else = w.moments.nothing_else; keeps = w.moments.keeps; adds = w.moments.adds }; left = w.left }
