use Rattle.std.proofs.Common.{inl, inr, Err, refl, sym, ◌∙◌, ap, subst, arith}
use Rattle.rg_recover.proofs.TaskCauses.{same_fault, disk_by, ended_by, rose_first, rose_second, save_faults}
use Rattle.rg_recover.proofs.Sound.{long}
use Rattle.rg_recover.proofs.AllSaved.{all_stored, all_saved}
use Rattle.rg_recover.proofs.Reaching.{reaching}
use Rattle.rg_reservoir.proofs.Laws.{ok_not_err, err_is}
use Rattle.rg_host.proofs.Laws.{leaves_all-none}
use Rattle.rg_host.specs.Moments.{LeavesAll}
use Rattle.rg_recover.specs.Living.{of_session, state_of}
use Rattle.rg_recover.specs.declared.fault.TaskFault.TheVariants as session
use Rattle.rg_task.specs.declared.fault.TaskFault.TheVariants as told
use Rattle.rg_recover.proofs.live.LiveTask.save.Goals as goal

pub returns-in-Ok-clause-within_step : goal.returns-in-Ok-clause-within_step
returns-in-Ok-clause-within_step g c = λ plan runs.
    let w = c.save.ensures.within_step plan runs in
    record { moments = record { later = w.moments.later; each = w.moments.each; nothing_else = w.moments.nothing_else; keeps = w.moments.keeps; adds = w.moments.adds }; left = w.left; said_stays = w.said_stays }

pub returns-in-Err-clause-within_step : goal.returns-in-Err-clause-within_step
returns-in-Err-clause-within_step g c = λ plan runs.
    let w = c.save.ensures.within_step plan runs in
    record { moments = record { later = w.moments.later; each = w.moments.each; nothing_else = w.moments.nothing_else; keeps = w.moments.keeps; adds = w.moments.adds }; left = w.left; said_stays = w.said_stays }

pub returns-in-Ok-clause-stored : goal.returns-in-Ok-clause-stored
returns-in-Ok-clause-stored g c = λ plan runs. c.in-Ok.ensures.stored plan runs

pub returns-in-Ok-clause-events : goal.returns-in-Ok-clause-events
returns-in-Ok-clause-events g c = λ plan runs. c.in-Ok.ensures.events plan runs

pub returns-in-Ok-clause-running : goal.returns-in-Ok-clause-running
returns-in-Ok-clause-running g c = λ plan runs. c.in-Ok.ensures.running plan runs

pub returns-in-Ok-clause-saved : goal.returns-in-Ok-clause-saved
returns-in-Ok-clause-saved g c = λ plan runs.
    let s = c.save.new.self in
    all_saved plan (g.H.Host.now c.save.new.host) (g.H.Host.may c.save.new.host) g.T.Table.tells g.T.Table.cell g.T.Table.named g.T.Table.there s (c.in-Ok.ensures.running plan runs) c.in-Ok.ensures.saved c.in-Ok.ensures.kept

pub returns-in-Ok-clause-node : goal.returns-in-Ok-clause-node
returns-in-Ok-clause-node g c = λ plan n runs. c.in-Ok.ensures.node plan n runs

pub returns-in-Ok-clause-placed : goal.returns-in-Ok-clause-placed
returns-in-Ok-clause-placed g c = λ plan placed. c.in-Ok.ensures.placed plan placed

pub returns-in-Ok-clause-count : goal.returns-in-Ok-clause-count
returns-in-Ok-clause-count g c = c.in-Ok.ensures.count ∙ sym (long (g.H.Host.now c.save.new.host) c.save.new.self.reservoir)

pub returns-in-Ok-clause-all : goal.returns-in-Ok-clause-all
returns-in-Ok-clause-all g c = all_stored (g.H.Host.now c.save.new.host) c.save.new.self c.in-Ok.ensures.saved.1

pub returns-in-Err-clause-disk : goal.returns-in-Err-clause-disk
returns-in-Err-clause-disk g c = λ is. elim (disk_by c.in-Err.fault (sym c.task_fault.ensures ∙ same_fault _ _ is)) [
  | inl d ↦ rose_first _ _ _ _ (c.save.ensures.disk (c.in-Err.is ∙ ap (λ v. Err v) d)) c.save.ensures.rows.later
  | inr t ↦ rose_second _ _ _ _ c.save.ensures.disk_faults (c.save.ensures.table (c.in-Err.is ∙ ap (λ v. Err v) t))
]

pub returns-in-Err-clause-faults : goal.returns-in-Err-clause-faults
returns-in-Err-clause-faults g c = rw c.task_fault.ensures (save_faults c.in-Err.fault c.in-Err.ensures.faults)

pub returns-in-Err-clause-ended : goal.returns-in-Err-clause-ended
returns-in-Err-clause-ended g c = λ is. c.save.ensures.ended.0 (c.in-Err.is ∙ ap (λ v. Err v) (ended_by c.in-Err.fault (sym c.task_fault.ensures ∙ same_fault _ _ is)))

pub returns-in-Ok-clause-going : goal.returns-in-Ok-clause-going
returns-in-Ok-clause-going g c = c.in-Ok.ensures.goes

pub returns-in-Err-clause-ends : goal.returns-in-Err-clause-ends
returns-in-Err-clause-ends g c = c.in-Err.ensures.ends

pub returns-in-Ok-clause-goes : goal.returns-in-Ok-clause-goes
returns-in-Ok-clause-goes g c = ((refl, refl, refl), c.save.ensures.log)

pub returns-in-Err-clause-goes : goal.returns-in-Err-clause-goes
returns-in-Err-clause-goes g c = ((refl, refl, refl), c.save.ensures.log)

pub returns-in-Ok-clause-said : goal.returns-in-Ok-clause-said
returns-in-Ok-clause-said g c = c.save.ensures.said

pub returns-in-Err-clause-said : goal.returns-in-Err-clause-said
returns-in-Err-clause-said g c = c.save.ensures.said

pub returns-in-Ok-clause-disk_faults : goal.returns-in-Ok-clause-disk_faults
returns-in-Ok-clause-disk_faults g c = omega (arith, c.save.ensures.disk_faults, c.save.ensures.rows.later)

pub returns-in-Err-clause-disk_faults : goal.returns-in-Err-clause-disk_faults
returns-in-Err-clause-disk_faults g c = omega (arith, c.save.ensures.disk_faults, c.save.ensures.rows.later)

pub returns-in-Ok-clause-out_faults : goal.returns-in-Ok-clause-out_faults
returns-in-Ok-clause-out_faults g c = c.save.ensures.out_faults

pub returns-in-Err-clause-out_faults : goal.returns-in-Err-clause-out_faults
returns-in-Err-clause-out_faults g c = c.save.ensures.out_faults

pub invariant_of-self : goal.invariant_of-self
invariant_of-self g c = record { reaches = reaching c.save.new.self (g.H.Host.now c.save.new.host) c.save.ensures.reaches c.save.ensures.slots_reach }

pub returns-in-Ok-clause-over : goal.returns-in-Ok-clause-over
returns-in-Ok-clause-over g c = λ over. absurd (ok_not_err _ session.Ended (c.in-Ok.ensures.ended.1 over))

pub returns-in-Err-clause-over : goal.returns-in-Err-clause-over
returns-in-Err-clause-over g c = λ over.
    let stays = c.save.ensures.untouched (c.save.ensures.ended.1 over) in
    let old = c.args.self.now.host.now in
    record {
      refused = ap (λ f. Err f) (c.task_fault.ensures ∙ ap of_session (err_is c.in-Err.fault session.Ended (c.in-Err.ensures.ended.1 over)));
      at_stays = ap (λ h. state_of (g.H.Host.now h) c.save.new.self) stays.1 ∙ ap (λ s. state_of (g.H.Host.now old) s) stays.0;
      leaves =
          let q = subst (λ h. LeavesAll g.H.Host.now g.H.Host.may g.H.Host.clock g.H.Host.since g.H.Host.said old h) (sym stays.1)
          (leaves_all-none g.H.Host.now g.H.Host.may g.H.Host.clock g.H.Host.since g.H.Host.said old (λ t u m le at. g.met.H.Host.sinks _ t u m le at) (λ m at. g.met.H.Host.only_now _ m at)) in
          record {
            now_stays = q.now_stays;
            may_stays = q.may_stays;
            said_stays = q.said_stays;
            moments = record { later = q.moments.later; each = q.moments.each; nothing_else = q.moments.nothing_else; keeps = q.moments.keeps; adds = q.moments.adds };
          };
    }

pub returns-in-Ok-clause-log_stays : goal.returns-in-Ok-clause-log_stays
returns-in-Ok-clause-log_stays g c = λ plan placed.
    let w = c.save.ensures.log_stays plan placed.reservoir in
    record { moments = record { later = w.moments.later; each = w.moments.each; nothing_else = w.moments.nothing_else; keeps = w.moments.keeps; adds = w.moments.adds }; left = w.left }

pub returns-in-Err-clause-log_stays : goal.returns-in-Err-clause-log_stays
returns-in-Err-clause-log_stays g c = λ plan placed.
    let w = c.save.ensures.log_stays plan placed.reservoir in
    record { moments = record { later = w.moments.later; each = w.moments.each; nothing_else = w.moments.nothing_else; keeps = w.moments.keeps; adds = w.moments.adds }; left = w.left }
