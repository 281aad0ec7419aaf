use Rattle.std.proofs.Common.{◌∙◌, ℕ, true, false, [], Some, refl, sym, ap, subst}
use Rattle.rg_bytes.specs.Counts.{Rose}
use Rattle.rg_checkpoint.specs.declared.base.Checkpoint.{Checkpoint}
use Rattle.rg_host.specs.Image.{Becomes}
use Rattle.rg_open.specs.Stores.{store_of}
use Rattle.rg_recover.specs.Saving.{IsByRule, Turning, slot_for}
use Rattle.rg_recover.specs.Sessions.{Sitting}
use Rattle.rg_recover.specs.Sparing.{IsSpared}
use Rattle.rg_recover.proofs.Checkpointing.{chosen_within, chosen_running}
use Rattle.rg_recover.proofs.Choosing.{marks_rows, slot_below, written_as, written_rule}
use Rattle.rg_recover.proofs.Sparing.{spared_still}
use Rattle.rg_recover.proofs.Within.{still_within}
use Rattle.rg_recover.proofs.Written.{left_unchosen, left_unput, written_keeps, written_spares}
use Rattle.rg_recover.proofs.LogHeld.{still_log, slot_log}
use Rattle.rg_recover.proofs.session.Session.write_checkpoint.Goals as goal

pub returns-in-Err-clause-runs : goal.returns-in-Err-clause-runs
returns-in-Err-clause-runs g c = λ plan runs. record {
  within_step = still_within g.H.Host.now g.H.Host.may g.H.Host.clock g.H.Host.since g.H.Host.said g.met.H.Host.only_now g.met.H.Host.sinks (store_of plan) c.args.self.now.keep [] c.args.host.now;
  running = tt;
}

pub returns-clause-runs : goal.returns-clause-runs
returns-clause-runs g c =
    let empty = rw (← c.self.view_is) at c.requires.ready.empty in
    rw (← c.self.view_is) (λ plan runs.
    let h = c.args.host.now in
    let i = c.self.inside in
    let s : Sitting g.row.T.Denot = record { reservoir = i.reservoir; engine = i.engine; texts = i.texts; grace = i.grace; slots = i.slots; keep = i.keep; saved = i.saved; ended = i.ended } in
    let rows = g.met.T.Table.finite i.engine.table runs.ready.tells in
    record {
      within_step = chosen_within g.H.Host.now g.H.Host.may g.H.Host.clock g.H.Host.since g.H.Host.said g.H.Host.disk_faults g.H.Host.out_faults g.T.Table.tells g.T.Table.faults g.T.Table.cell g.T.Table.named g.T.Table.there plan s h c.put_payload.new.host c.count-count.result
          runs empty c.self.invariant.keep c.count-count.ensures.count (λ (checkpoint : Checkpoint). c.law_checkpoints.ensures.saved plan h i.reservoir (g.T.Table.cell i.engine.table) checkpoint) rows.0 rows.1 c.in-Ok.payload
          (c.in-Ok.ensures.chosen runs.ready.tells) (c.law_steps.ensures.saves h plan i.keep) (c.law_steps.ensures.extends h plan i.keep) c.put_payload.ensures.writes;
      running = tt;
    })

pub returns-in-Ok-put_payload-clause-runs : goal.returns-in-Ok-put_payload-clause-runs
returns-in-Ok-put_payload-clause-runs g c =
    let empty = rw (← c.self.view_is) at c.requires.ready.empty in
    rw (← c.self.view_is) (λ plan runs.
    let h = c.args.host.now in
    let i = c.self.inside in
    let s : Sitting g.row.T.Denot = record { reservoir = i.reservoir; engine = i.engine; texts = i.texts; grace = i.grace; slots = i.slots; keep = i.keep; saved = i.saved; ended = i.ended } in
    let rows = g.met.T.Table.finite i.engine.table runs.ready.tells in
    let done = c.in-Ok-put_payload.ensures in
    record {
      within_step = chosen_within g.H.Host.now g.H.Host.may g.H.Host.clock g.H.Host.since g.H.Host.said g.H.Host.disk_faults g.H.Host.out_faults g.T.Table.tells g.T.Table.faults g.T.Table.cell g.T.Table.named g.T.Table.there plan s h c.put_payload.new.host c.count-count.result
          runs empty c.self.invariant.keep c.count-count.ensures.count (λ (checkpoint : Checkpoint). c.law_checkpoints.ensures.saved plan h i.reservoir (g.T.Table.cell i.engine.table) checkpoint) rows.0 rows.1 c.in-Ok.payload
          (c.in-Ok.ensures.chosen runs.ready.tells) (c.law_steps.ensures.saves h plan i.keep) (c.law_steps.ensures.extends h plan i.keep) c.put_payload.ensures.writes;
      running = chosen_running g.H.Host.now g.H.Host.may g.H.Host.clock g.H.Host.since g.H.Host.said g.H.Host.disk_faults g.H.Host.out_faults g.T.Table.tells g.T.Table.faults g.T.Table.cell g.T.Table.named g.T.Table.there plan s h c.put_payload.new.host c.count-count.result
          runs empty c.self.invariant.keep c.count-count.ensures.count (λ (checkpoint : Checkpoint). c.law_checkpoints.ensures.saved plan h i.reservoir (g.T.Table.cell i.engine.table) checkpoint) rows.0 rows.1 c.in-Ok.payload
          (c.in-Ok.ensures.chosen runs.ready.tells) (c.law_steps.ensures.saves h plan i.keep) (c.law_steps.ensures.extends h plan i.keep) c.put_payload.ensures.writes
          (c.law_steps.ensures.saved h plan i.keep) (c.law_steps.ensures.extended h plan) (g.met.H.Host.now_may h) c.in-Ok.ensures.kept
          c.choose_payload.new.engine c.mark.new.engine (marks_rows g.T.Table.tells g.T.Table.faults g.T.Table.cell g.T.Table.named g.T.Table.there i.engine c.choose_payload.new.engine c.choose_payload.ensures.engine) c.mark.ensures.engine c.mark.ensures.marked done.written c.put_payload.new.slots c.in-Ok-put_payload.slot done.slot.0 done.slot.1;
    })

pub returns-in-Ok-put_payload-clause-told : goal.returns-in-Ok-put_payload-clause-told
returns-in-Ok-put_payload-clause-told g c =
    let empty = rw (← c.self.view_is) at c.requires.ready.empty in
    rw (← c.self.view_is) (λ told.
    let h = c.args.host.now in
    let i = c.self.inside in
    let s : Sitting g.row.T.Denot = record { reservoir = i.reservoir; engine = i.engine; texts = i.texts; grace = i.grace; slots = i.slots; keep = i.keep; saved = i.saved; ended = i.ended } in
    let e = i.engine in
    let rows = g.met.T.Table.finite e.table told in
    let done = c.in-Ok-put_payload.ensures in
    let first = marks_rows g.T.Table.tells g.T.Table.faults g.T.Table.cell g.T.Table.named g.T.Table.there i.engine c.choose_payload.new.engine c.choose_payload.ensures.engine in
    let put = c.put_payload.new.slots in
    let slot = c.in-Ok-put_payload.slot in
    record {
      rule = subst (λ (n : ℕ). Becomes (g.H.Host.now h) (g.H.Host.now c.put_payload.new.host) (IsByRule (g.T.Table.named e.table) (g.T.Table.there e.table) (g.T.Table.cell e.table) i.texts n e.spots i.slots put i.keep (Some slot))) c.count-count.ensures.count
          (written_rule (g.T.Table.named e.table) (g.T.Table.there e.table) (g.T.Table.cell e.table) i.texts c.count-count.result e.spots i.slots put i.keep slot c.in-Ok.payload
          (g.H.Host.now h) (g.H.Host.now c.put_payload.new.host) done.slot.0 done.slot.1 (c.in-Ok.ensures.chosen told) done.written.frames);
      keeps = written_keeps g.H.Host.now g.H.Host.may g.H.Host.clock g.H.Host.since g.H.Host.said g.H.Host.disk_faults g.H.Host.out_faults g.T.Table.tells g.T.Table.faults g.T.Table.cell g.T.Table.named g.T.Table.there s h c.put_payload.new.host c.count-count.result c.in-Ok.payload c.self.invariant.keep c.in-Ok.ensures.kept empty c.count-count.ensures.count told rows.0 rows.1
          (c.in-Ok.ensures.chosen told) c.put_payload.ensures.writes done.written (g.met.H.Host.now_may h) c.choose_payload.new.engine c.mark.new.engine first c.mark.ensures.engine c.mark.ensures.marked put slot done.slot.0 done.slot.1;
      none_named = c.mark.ensures.marked.none_named (first.rows.tells.1 told);
      none_there = c.mark.ensures.marked.none_there (first.rows.tells.1 told);
    })

pub returns-in-Ok-put_payload-clause-done : goal.returns-in-Ok-put_payload-clause-done
returns-in-Ok-put_payload-clause-done g c = rw (← c.self.view_is) (
    let h = c.args.host.now in
    let i = c.self.inside in
    let s : Sitting g.row.T.Denot = record { reservoir = i.reservoir; engine = i.engine; texts = i.texts; grace = i.grace; slots = i.slots; keep = i.keep; saved = i.saved; ended = i.ended } in
    let t : Sitting g.row.T.Denot = record { reservoir = i.reservoir; engine = c.mark.new.engine; texts = i.texts; grace = i.grace; slots = c.put_payload.new.slots; keep = Some c.in-Ok-put_payload.slot; saved = c.count-count.result; ended = false } in
    let at = c.in-Ok-put_payload.ensures.slot in
    record {
      count_is = c.count-count.ensures.count;
      saved = c.count-count.ensures.count;
      kept = (c.in-Ok-put_payload.slot, refl);
      written = written_as s t c.in-Ok.payload c.in-Ok-put_payload.slot c.in-Ok.ensures.kept at.0 refl at.1;
      spared = λ slot below apart.
          written_spares g.H.Host.now g.H.Host.may g.H.Host.clock g.H.Host.since g.H.Host.said g.H.Host.disk_faults g.H.Host.out_faults i.keep i.slots c.in-Ok.payload h c.put_payload.new.host c.put_payload.ensures.writes slot (λ e. apart (ap (λ (n : ℕ). Some n) (at.0 ∙ sym e)));
      going = refl;
    })

pub returns-in-Err-clause-fault : goal.returns-in-Err-clause-fault
returns-in-Err-clause-fault g c = rw (← c.self.view_is) (
    let h = c.args.host.now in
    let i = c.self.inside in
    let s : Sitting g.row.T.Denot = record { reservoir = i.reservoir; engine = i.engine; texts = i.texts; grace = i.grace; slots = i.slots; keep = i.keep; saved = i.saved; ended = i.ended } in
    let t : Sitting g.row.T.Denot = record { reservoir = i.reservoir; engine = c.choose_payload.new.engine; texts = i.texts; grace = i.grace; slots = i.slots; keep = i.keep; saved = i.saved; ended = true } in
    left_unchosen g.T.Table.tells g.T.Table.faults g.T.Table.cell g.T.Table.named g.T.Table.there (λ slot. IsSpared g.H.Host.now g.H.Host.may g.H.Host.clock g.H.Host.since slot h h) (Rose (g.H.Host.disk_faults h) (g.H.Host.disk_faults h)) s t c.in-Err.fault refl c.choose_payload.ensures.engine c.in-Err.ensures.fault
    (λ slot below. spared_still g.H.Host.now g.H.Host.may g.H.Host.clock g.H.Host.since g.H.Host.said g.met.H.Host.only_now g.met.H.Host.sinks slot h))

pub returns-clause-fault : goal.returns-clause-fault
returns-clause-fault g c = rw (← c.self.view_is) (
    let h = c.args.host.now in
    let i = c.self.inside in
    let s : Sitting g.row.T.Denot = record { reservoir = i.reservoir; engine = i.engine; texts = i.texts; grace = i.grace; slots = i.slots; keep = i.keep; saved = i.saved; ended = i.ended } in
    let n = c.put_payload.new.host in
    let t : Sitting g.row.T.Denot = record { reservoir = i.reservoir; engine = c.choose_payload.new.engine; texts = i.texts; grace = i.grace; slots = c.put_payload.new.slots; keep = i.keep; saved = i.saved; ended = true } in
    let unput = c.in-Err-put_payload.ensures.fault in
    left_unput g.T.Table.tells g.T.Table.faults g.T.Table.cell g.T.Table.named g.T.Table.there (λ slot. IsSpared g.H.Host.now g.H.Host.may g.H.Host.clock g.H.Host.since slot h n) (Rose (g.H.Host.disk_faults h) (g.H.Host.disk_faults n)) s t c.in-Err-put_payload.fault refl c.choose_payload.ensures.engine c.in-Ok.payload
    c.in-Ok.ensures.kept unput.0 unput.1 (λ slot apart. written_spares g.H.Host.now g.H.Host.may g.H.Host.clock g.H.Host.since g.H.Host.said g.H.Host.disk_faults g.H.Host.out_faults i.keep i.slots c.in-Ok.payload h n c.put_payload.ensures.writes slot apart))

-- whatever the slots hold

pub returns-in-Err-clause-log_stays : goal.returns-in-Err-clause-log_stays
returns-in-Err-clause-log_stays g c = λ plan. still_log g.H.Host.now g.H.Host.may g.H.Host.clock g.H.Host.since g.H.Host.said g.met.H.Host.only_now g.met.H.Host.sinks (store_of plan) [] c.args.host.now

pub returns-clause-log_stays : goal.returns-clause-log_stays
returns-clause-log_stays g c =
    let i = c.self.inside in
    λ plan. slot_log g.H.Host.now g.H.Host.may g.H.Host.clock g.H.Host.since g.H.Host.said plan (slot_for i.keep c.in-Ok.payload) (Turning i.slots c.in-Ok.payload) c.args.host.now c.put_payload.new.host (slot_below i.slots i.keep c.in-Ok.payload c.self.invariant.keep c.in-Ok.ensures.kept) c.put_payload.ensures.writes.writes

pub returns-in-Ok-put_payload-clause-log_stays : goal.returns-in-Ok-put_payload-clause-log_stays
returns-in-Ok-put_payload-clause-log_stays g c =
    let i = c.self.inside in
    λ plan. slot_log g.H.Host.now g.H.Host.may g.H.Host.clock g.H.Host.since g.H.Host.said plan (slot_for i.keep c.in-Ok.payload) (Turning i.slots c.in-Ok.payload) c.args.host.now c.put_payload.new.host (slot_below i.slots i.keep c.in-Ok.payload c.self.invariant.keep c.in-Ok.ensures.kept) c.put_payload.ensures.writes.writes
