use Rattle.std.proofs.Common.{inl, inr, Err, refl, sym, ◌∙◌, ap, subst, arith}
use Rattle.rg_reservoir.specs.Kept.{Base, view_of}
use Rattle.rg_recover.proofs.TaskCauses.{same_fault, damaged_by, disk_by, ended_by, rose_first, ahead_faults, ahead_no_table}
use Rattle.rg_reservoir.proofs.Laws.{ok_not_err, err_is}
use Rattle.rg_host.proofs.Laws.{leaves_all-none}
use Rattle.rg_host.specs.Moments.{LeavesAll}
use Rattle.rg_recover.specs.Living.{of_session, state_of}
use Rattle.rg_recover.specs.declared.fault.TaskFault.TheVariants as session
use Rattle.rg_task.specs.declared.fault.TaskFault.TheVariants as told
use Rattle.rg_recover.proofs.live.LiveTask.ahead.Goals as goal

pub returns-in-Ok-clause-running : goal.returns-in-Ok-clause-running
returns-in-Ok-clause-running g c = λ plan runs. c.in-Ok.ensures.running plan runs

pub returns-in-Err-clause-never_damaged : goal.returns-in-Err-clause-never_damaged
returns-in-Err-clause-never_damaged g c = λ plan p runs is. c.ahead.ensures.never_damaged plan p runs (c.in-Err.is ∙ ap (λ v. Err v) (damaged_by c.in-Err.fault p (sym c.task_fault.ensures ∙ same_fault _ _ is)))

pub returns-in-Ok-clause-node : goal.returns-in-Ok-clause-node
returns-in-Ok-clause-node g c = λ plan n runs. c.in-Ok.ensures.node plan n runs

pub returns-in-Ok-clause-placed : goal.returns-in-Ok-clause-placed
returns-in-Ok-clause-placed g c = λ plan placed. c.in-Ok.ensures.placed plan placed

pub returns-in-Err-clause-undamaged : goal.returns-in-Err-clause-undamaged
returns-in-Err-clause-undamaged g c = λ plan p placed is. c.ahead.ensures.undamaged plan p placed (c.in-Err.is ∙ ap (λ v. Err v) (damaged_by c.in-Err.fault p (sym c.task_fault.ensures ∙ same_fault _ _ is)))

pub returns-in-Ok-clause-events : goal.returns-in-Ok-clause-events
returns-in-Ok-clause-events g c = c.ahead.ensures.events.0

pub returns-in-Err-clause-events : goal.returns-in-Err-clause-events
returns-in-Err-clause-events g c = c.ahead.ensures.events.0

pub returns-in-Ok-clause-stored : goal.returns-in-Ok-clause-stored
returns-in-Ok-clause-stored g c = c.ahead.ensures.events.1

pub returns-in-Err-clause-stored : goal.returns-in-Err-clause-stored
returns-in-Err-clause-stored g c = c.ahead.ensures.events.1

pub returns-in-Ok-clause-keep : goal.returns-in-Ok-clause-keep
returns-in-Ok-clause-keep g c = c.ahead.ensures.stays.2

pub returns-in-Err-clause-keep : goal.returns-in-Err-clause-keep
returns-in-Err-clause-keep g c = c.ahead.ensures.stays.2

pub returns-in-Ok-clause-next_stays : goal.returns-in-Ok-clause-next_stays
returns-in-Ok-clause-next_stays g c = c.ahead.ensures.reservoir.next

pub returns-in-Err-clause-next_stays : goal.returns-in-Err-clause-next_stays
returns-in-Err-clause-next_stays g c = c.ahead.ensures.reservoir.next

pub returns-in-Ok-clause-leaves : goal.returns-in-Ok-clause-leaves
returns-in-Ok-clause-leaves g c = record { now_stays = c.ahead.ensures.leaves.now_stays; may_stays = c.ahead.ensures.leaves.may_stays; said_stays = c.ahead.ensures.leaves.said_stays; moments = record { later = c.ahead.ensures.leaves.moments.later; each = c.ahead.ensures.leaves.moments.each; nothing_else = c.ahead.ensures.leaves.moments.nothing_else; keeps = c.ahead.ensures.leaves.moments.keeps; adds = c.ahead.ensures.leaves.moments.adds } }

pub returns-in-Err-clause-leaves : goal.returns-in-Err-clause-leaves
returns-in-Err-clause-leaves g c = record { now_stays = c.ahead.ensures.leaves.now_stays; may_stays = c.ahead.ensures.leaves.may_stays; said_stays = c.ahead.ensures.leaves.said_stays; moments = record { later = c.ahead.ensures.leaves.moments.later; each = c.ahead.ensures.leaves.moments.each; nothing_else = c.ahead.ensures.leaves.moments.nothing_else; keeps = c.ahead.ensures.leaves.moments.keeps; adds = c.ahead.ensures.leaves.moments.adds } }

pub returns-in-Err-clause-damaged : goal.returns-in-Err-clause-damaged
returns-in-Err-clause-damaged g c = λ p is. c.ahead.ensures.damaged p (c.in-Err.is ∙ ap (λ v. Err v) (damaged_by c.in-Err.fault p (sym c.task_fault.ensures ∙ same_fault _ _ is)))

pub returns-in-Err-clause-disk : goal.returns-in-Err-clause-disk
returns-in-Err-clause-disk g c = λ is. elim (disk_by c.in-Err.fault (sym c.task_fault.ensures ∙ same_fault _ _ is)) [
  | inl d ↦ rose_first _ _ _ _ (c.ahead.ensures.disk (c.in-Err.is ∙ ap (λ v. Err v) d)) (omega (arith, ap (λ x. g.T.Table.faults x.table) c.ahead.ensures.stays.0))
  | inr t ↦ absurd (ahead_no_table c.in-Err.fault c.in-Err.ensures.faults t)
]

pub returns-in-Err-clause-faults : goal.returns-in-Err-clause-faults
returns-in-Err-clause-faults g c = rw c.task_fault.ensures (ahead_faults c.in-Err.fault c.in-Err.ensures.faults)

pub returns-in-Err-clause-ended : goal.returns-in-Err-clause-ended
returns-in-Err-clause-ended g c = λ is. c.ahead.ensures.ended.0 (c.in-Err.is ∙ ap (λ v. Err v) (ended_by c.in-Err.fault (sym c.task_fault.ensures ∙ same_fault _ _ is)))

pub returns-in-Ok-clause-going : goal.returns-in-Ok-clause-going
returns-in-Ok-clause-going g c = c.in-Ok.ensures.goes

pub returns-in-Err-clause-ends : goal.returns-in-Err-clause-ends
returns-in-Err-clause-ends g c = c.in-Err.ensures.ends

pub returns-in-Ok-clause-goes : goal.returns-in-Ok-clause-goes
returns-in-Ok-clause-goes g c = ((refl, refl, refl), (ap view_of c.ahead.ensures.reservoir.base, ap (λ (b : Base). b.file) c.ahead.ensures.reservoir.base))

pub returns-in-Err-clause-goes : goal.returns-in-Err-clause-goes
returns-in-Err-clause-goes g c = ((refl, refl, refl), (ap view_of c.ahead.ensures.reservoir.base, ap (λ (b : Base). b.file) c.ahead.ensures.reservoir.base))

pub returns-in-Ok-clause-disk_faults : goal.returns-in-Ok-clause-disk_faults
returns-in-Ok-clause-disk_faults g c = omega (arith, c.ahead.ensures.disk_faults, ap (λ x. g.T.Table.faults x.table) c.ahead.ensures.stays.0)

pub returns-in-Err-clause-disk_faults : goal.returns-in-Err-clause-disk_faults
returns-in-Err-clause-disk_faults g c = omega (arith, c.ahead.ensures.disk_faults, ap (λ x. g.T.Table.faults x.table) c.ahead.ensures.stays.0)

pub returns-in-Ok-clause-out_faults : goal.returns-in-Ok-clause-out_faults
returns-in-Ok-clause-out_faults g c = c.ahead.ensures.out_faults

pub returns-in-Err-clause-out_faults : goal.returns-in-Err-clause-out_faults
returns-in-Err-clause-out_faults g c = c.ahead.ensures.out_faults

pub returns-in-Ok-clause-over : goal.returns-in-Ok-clause-over
returns-in-Ok-clause-over g c = λ over. absurd (ok_not_err _ session.Ended (c.in-Ok.ensures.ended.1 over))

pub returns-in-Err-clause-over : goal.returns-in-Err-clause-over
returns-in-Err-clause-over g c = λ over.
    let stays = c.ahead.ensures.untouched (c.ahead.ensures.ended.1 over) in
    let old = c.args.self.now.host.now in
    record {
      refused = ap (λ f. Err f) (c.task_fault.ensures ∙ ap of_session (err_is c.in-Err.fault session.Ended (c.in-Err.ensures.ended.1 over)));
      at_stays = ap (λ h. state_of (g.H.Host.now h) c.ahead.new.self) stays.1 ∙ ap (λ s. state_of (g.H.Host.now old) s) stays.0;
      leaves =
          let q = subst (λ h. LeavesAll g.H.Host.now g.H.Host.may g.H.Host.clock g.H.Host.since g.H.Host.said old h) (sym stays.1)
          (leaves_all-none g.H.Host.now g.H.Host.may g.H.Host.clock g.H.Host.since g.H.Host.said old (λ t u m le at. g.met.H.Host.sinks _ t u m le at) (λ m at. g.met.H.Host.only_now _ m at)) in
          record {
            now_stays = q.now_stays;
            may_stays = q.may_stays;
            said_stays = q.said_stays;
            moments = record { later = q.moments.later; each = q.moments.each; nothing_else = q.moments.nothing_else; keeps = q.moments.keeps; adds = q.moments.adds };
          };
    }
