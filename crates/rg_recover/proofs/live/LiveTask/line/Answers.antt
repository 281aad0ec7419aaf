use Rattle.std.proofs.Common.{inl, inr, Option, Err, refl, sym, ◌∙◌, ap, subst, arith}
use Rattle.rg_host.specs.Image.{Image}
use Rattle.rg_reservoir.specs.Kept.{Base, base, stored}
use Rattle.rg_recover.specs.Sessions.{Sitting}
use Rattle.rg_recover.proofs.TaskCauses.{same_fault, bad_by, damaged_by, disk_by, ended_by, rose_first, rose_second}
use Rattle.rg_recover.proofs.Reaching.{reaching, slots_on}
use Rattle.rg_reservoir.proofs.Laws.{ok_not_err, err_is}
use Rattle.rg_host.proofs.Laws.{leaves_all-none}
use Rattle.rg_host.specs.Moments.{LeavesAll}
use Rattle.rg_recover.specs.Living.{of_session, state_of}
use Rattle.rg_recover.specs.declared.fault.TaskFault.TheVariants as session
use Rattle.rg_task.specs.declared.fault.TaskFault.TheVariants as told
use Rattle.rg_recover.proofs.live.LiveTask.line.Goals as goal

pub returns-in-Ok-clause-reply : goal.returns-in-Ok-clause-reply
returns-in-Ok-clause-reply g c = λ plan runs. c.in-Ok.ensures.reply plan runs

pub returns-in-Ok-clause-events : goal.returns-in-Ok-clause-events
returns-in-Ok-clause-events g c = λ plan runs. c.in-Ok.ensures.events plan runs

pub returns-in-Ok-clause-running : goal.returns-in-Ok-clause-running
returns-in-Ok-clause-running g c = λ plan runs. c.in-Ok.ensures.running plan runs

pub returns-in-Ok-clause-within_step : goal.returns-in-Ok-clause-within_step
returns-in-Ok-clause-within_step g c = λ plan keep runs.
    let w = c.line.ensures.within_step plan keep runs in
    record { moments = record { later = w.moments.later; each = w.moments.each; nothing_else = w.moments.nothing_else; keeps = w.moments.keeps; adds = w.moments.adds }; left = w.left; said_stays = w.said_stays }

pub returns-in-Err-clause-within_step : goal.returns-in-Err-clause-within_step
returns-in-Err-clause-within_step g c = λ plan keep runs.
    let w = c.line.ensures.within_step plan keep runs in
    record { moments = record { later = w.moments.later; each = w.moments.each; nothing_else = w.moments.nothing_else; keeps = w.moments.keeps; adds = w.moments.adds }; left = w.left; said_stays = w.said_stays }

pub returns-in-Ok-clause-stored : goal.returns-in-Ok-clause-stored
returns-in-Ok-clause-stored g c = λ plan keep runs. c.in-Ok.ensures.stored plan keep runs

pub returns-in-Err-clause-never_bad : goal.returns-in-Err-clause-never_bad
returns-in-Err-clause-never_bad g c = λ plan n runs is. c.line.ensures.never_bad plan n runs (c.in-Err.is ∙ ap (λ v. Err v) (bad_by c.in-Err.fault n (sym c.task_fault.ensures ∙ same_fault _ _ is)))

pub returns-in-Err-clause-never_damaged : goal.returns-in-Err-clause-never_damaged
returns-in-Err-clause-never_damaged g c = λ plan p runs is. c.line.ensures.never_damaged plan p runs (c.in-Err.is ∙ ap (λ v. Err v) (damaged_by c.in-Err.fault p (sym c.task_fault.ensures ∙ same_fault _ _ is)))

pub returns-in-Ok-clause-node : goal.returns-in-Ok-clause-node
returns-in-Ok-clause-node g c = λ plan n runs. c.in-Ok.ensures.node plan n runs

pub returns-in-Err-clause-never_bad_node : goal.returns-in-Err-clause-never_bad_node
returns-in-Err-clause-never_bad_node g c = λ plan n runs is. c.line.ensures.never_bad_node plan n runs (c.in-Err.is ∙ ap (λ v. Err v) (bad_by c.in-Err.fault n (sym c.task_fault.ensures ∙ same_fault _ _ is)))

pub returns-in-Ok-clause-placed : goal.returns-in-Ok-clause-placed
returns-in-Ok-clause-placed g c = λ plan placed. c.in-Ok.ensures.placed plan placed

pub returns-in-Err-clause-undamaged : goal.returns-in-Err-clause-undamaged
returns-in-Err-clause-undamaged g c = λ plan p placed is. c.line.ensures.undamaged plan p placed (c.in-Err.is ∙ ap (λ v. Err v) (damaged_by c.in-Err.fault p (sym c.task_fault.ensures ∙ same_fault _ _ is)))

pub returns-in-Ok-clause-roomy : goal.returns-in-Ok-clause-roomy
returns-in-Ok-clause-roomy g c = λ room.
    let q = c.line.ensures.roomy room in
    (record { now_stays = q.0.now_stays; may_stays = q.0.may_stays; said_stays = q.0.said_stays; moments = record { later = q.0.moments.later; each = q.0.moments.each; nothing_else = q.0.moments.nothing_else; keeps = q.0.moments.keeps; adds = q.0.moments.adds } }, ap (λ (o : Option Image). stored o (base c.line.new.self.reservoir)) q.0.now_stays ∙ ap (λ (b : Base). stored (g.H.Host.now c.args.self.now.host.now) b) q.1)

pub returns-in-Err-clause-roomy : goal.returns-in-Err-clause-roomy
returns-in-Err-clause-roomy g c = λ room.
    let q = c.line.ensures.roomy room in
    (record { now_stays = q.0.now_stays; may_stays = q.0.may_stays; said_stays = q.0.said_stays; moments = record { later = q.0.moments.later; each = q.0.moments.each; nothing_else = q.0.moments.nothing_else; keeps = q.0.moments.keeps; adds = q.0.moments.adds } }, ap (λ (o : Option Image). stored o (base c.line.new.self.reservoir)) q.0.now_stays ∙ ap (λ (b : Base). stored (g.H.Host.now c.args.self.now.host.now) b) q.1)

pub returns-in-Ok-clause-legal : goal.returns-in-Ok-clause-legal
returns-in-Ok-clause-legal g c = λ room asks.
    let q = c.in-Ok.ensures.legal room asks in
    let old = c.args.self.now.host.now in
    (q.0, ap (λ h. state_of (g.H.Host.now h) c.line.new.self) q.2 ∙ ap (λ s. state_of (g.H.Host.now old) s) q.1)

pub returns-in-Ok-clause-keep : goal.returns-in-Ok-clause-keep
returns-in-Ok-clause-keep g c = c.line.ensures.stays.1

pub returns-in-Err-clause-keep : goal.returns-in-Err-clause-keep
returns-in-Err-clause-keep g c = c.line.ensures.stays.1

pub returns-in-Err-clause-damaged : goal.returns-in-Err-clause-damaged
returns-in-Err-clause-damaged g c = λ p is. c.line.ensures.damaged p (c.in-Err.is ∙ ap (λ v. Err v) (damaged_by c.in-Err.fault p (sym c.task_fault.ensures ∙ same_fault _ _ is)))

pub returns-in-Err-clause-disk : goal.returns-in-Err-clause-disk
returns-in-Err-clause-disk g c = λ is. elim (disk_by c.in-Err.fault (sym c.task_fault.ensures ∙ same_fault _ _ is)) [
  | inl d ↦ rose_first _ _ _ _ (c.line.ensures.disk (c.in-Err.is ∙ ap (λ v. Err v) d)) c.line.ensures.rows.later
  | inr t ↦ rose_second _ _ _ _ c.line.ensures.disk_faults (c.line.ensures.table (c.in-Err.is ∙ ap (λ v. Err v) t))
]

pub returns-in-Err-clause-ended : goal.returns-in-Err-clause-ended
returns-in-Err-clause-ended g c = λ is. c.line.ensures.ended.0 (c.in-Err.is ∙ ap (λ v. Err v) (ended_by c.in-Err.fault (sym c.task_fault.ensures ∙ same_fault _ _ is)))

pub returns-in-Ok-clause-going : goal.returns-in-Ok-clause-going
returns-in-Ok-clause-going g c = c.in-Ok.ensures.goes

pub returns-in-Err-clause-ends : goal.returns-in-Err-clause-ends
returns-in-Err-clause-ends g c = c.in-Err.ensures.ends

pub returns-in-Ok-clause-goes : goal.returns-in-Ok-clause-goes
returns-in-Ok-clause-goes g c = ((refl, refl, refl), c.line.ensures.log)

pub returns-in-Err-clause-goes : goal.returns-in-Err-clause-goes
returns-in-Err-clause-goes g c = ((refl, refl, refl), c.line.ensures.log)

pub returns-in-Ok-clause-disk_faults : goal.returns-in-Ok-clause-disk_faults
returns-in-Ok-clause-disk_faults g c = omega (arith, c.line.ensures.disk_faults, c.line.ensures.rows.later)

pub returns-in-Err-clause-disk_faults : goal.returns-in-Err-clause-disk_faults
returns-in-Err-clause-disk_faults g c = omega (arith, c.line.ensures.disk_faults, c.line.ensures.rows.later)

pub returns-in-Ok-clause-out_faults : goal.returns-in-Ok-clause-out_faults
returns-in-Ok-clause-out_faults g c = c.line.ensures.out_faults

pub returns-in-Err-clause-out_faults : goal.returns-in-Err-clause-out_faults
returns-in-Err-clause-out_faults g c = c.line.ensures.out_faults

pub invariant_of-self : goal.invariant_of-self
invariant_of-self g c =
    let p = c.args.self.now in
    let s = c.line.new.self in
    let host = c.line.new.host in
    record {
      reaches = reaching s (g.H.Host.now host) c.line.ensures.reaches
          (slots_on p.session.now s (g.H.Host.now p.host.now) (g.H.Host.now host) p.reaches (λ ended. ap (λ (x : Sitting g.row.T.Denot). x.ended) (c.line.ensures.untouched (c.line.ensures.ended.1 ended)).0) c.line.ensures.slots_reach);
    }

pub returns-in-Ok-clause-over : goal.returns-in-Ok-clause-over
returns-in-Ok-clause-over g c = λ over. absurd (ok_not_err _ session.Ended (c.in-Ok.ensures.ended.1 over))

pub returns-in-Err-clause-over : goal.returns-in-Err-clause-over
returns-in-Err-clause-over g c = λ over.
    let stays = c.line.ensures.untouched (c.line.ensures.ended.1 over) in
    let old = c.args.self.now.host.now in
    record {
      refused = ap (λ f. Err f) (c.task_fault.ensures ∙ ap of_session (err_is c.in-Err.fault session.Ended (c.in-Err.ensures.ended.1 over)));
      at_stays = ap (λ h. state_of (g.H.Host.now h) c.line.new.self) stays.1 ∙ ap (λ s. state_of (g.H.Host.now old) s) stays.0;
      leaves =
          let q = subst (λ h. LeavesAll g.H.Host.now g.H.Host.may g.H.Host.clock g.H.Host.since g.H.Host.said old h) (sym stays.1)
          (leaves_all-none g.H.Host.now g.H.Host.may g.H.Host.clock g.H.Host.since g.H.Host.said old (λ t u m le at. g.met.H.Host.sinks _ t u m le at) (λ m at. g.met.H.Host.only_now _ m at)) in
          record {
            now_stays = q.now_stays;
            may_stays = q.may_stays;
            said_stays = q.said_stays;
            moments = record { later = q.moments.later; each = q.moments.each; nothing_else = q.moments.nothing_else; keeps = q.moments.keeps; adds = q.moments.adds };
          };
    }

pub returns-in-Ok-clause-log_stays : goal.returns-in-Ok-clause-log_stays
returns-in-Ok-clause-log_stays g c = λ plan placed.
    let w = c.line.ensures.log_stays plan placed.reservoir in
    record { moments = record { later = w.moments.later; each = w.moments.each; nothing_else = w.moments.nothing_else; keeps = w.moments.keeps; adds = w.moments.adds }; left = w.left }

pub returns-in-Err-clause-log_stays : goal.returns-in-Err-clause-log_stays
returns-in-Err-clause-log_stays g c = λ plan placed.
    let w = c.line.ensures.log_stays plan placed.reservoir in
    record { moments = record { later = w.moments.later; each = w.moments.each; nothing_else = w.moments.nothing_else; keeps = w.moments.keeps; adds = w.moments.adds }; left = w.left }
