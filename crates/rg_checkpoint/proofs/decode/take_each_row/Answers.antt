use Rattle.std.proofs.Common.{◌≡◌, ◌⊎◌, ◌++◌, ◌∷◌, [], List, Ok, Err, true, subst, rules}
use Rattle.rg_bytes.proofs.Laws.{step_counted, step_to_come, step_stops, step_taken, step_legal}
use Rattle.rg_state.specs.Rows.{entry_bytes}
use Rattle.rg_checkpoint.specs.declared.base.Row.{Row}
use Rattle.rg_checkpoint.specs.declared.fault.CheckpointFault.TheVariants.{Memory}
use Rattle.rg_checkpoint.specs.Base.{IsEntry}
use Rattle.rg_checkpoint.specs.Entries.{entry_of, entries_of}
use Rattle.rg_checkpoint.specs.Reading.{next_row_at, last_of, comes_behind}
use Rattle.rg_checkpoint.proofs.Rising.{rising_pushed, entries_pushed, filled_legal}
use Rattle.rg_checkpoint.proofs.decode.take_each_row.Goals as goal

pub loop-done-preserved : goal.loop-done-preserved
loop-done-preserved c =
    let old = entries_of c.loop-done.rows.items in
    let new = entries_of c.push.new.self.items in
    let row = entry_of c.in-Ok.row in
    let left = c.take_next_row.new.from in
    let pushed : new ≡ old ++ row ∷ [] = entries_pushed c.loop-done.rows.items c.push.new.self.items c.in-Ok.row c.in-Ok-push.ensures.items in
    let read : next_row_at old c.loop-done.from ≡ Ok (row, left) = subst (λ (rows : List Row). next_row_at (entries_of rows) c.loop-done.from ≡ Ok (row, left)) c.deref.ensures.value c.in-Ok.ensures.agrees in
    let behind : comes_behind (last_of old) row ≡ true = subst (λ (rows : List Row). comes_behind (last_of (entries_of rows)) row ≡ true) c.deref.ensures.value c.in-Ok.ensures.behind in
    record {
      counted = step_counted old new row c.loop-done.done pushed c.loop-done.invariant.counted;
      to_come = step_to_come next_row_at old new row c.args.count c.loop-done.done c.args.from.now c.loop-done.from left pushed (search rules) c.loop-done.invariant.to_come read;
      taken = step_taken entry_bytes old new row c.args.from.now c.loop-done.from left pushed c.loop-done.invariant.taken c.in-Ok.ensures.ok;
      legal = step_legal IsEntry old new row pushed c.loop-done.invariant.legal c.in-Ok.ensures.legal;
      rising = rising_pushed old new row pushed c.loop-done.invariant.rising behind;
    }

pub returns-clause-filled : goal.returns-clause-filled
returns-clause-filled c = filled_legal (entries_of c.loop-done.rows.items) c.loop-done.invariant.legal

pub returns-in-Err-clause-agrees : goal.returns-in-Err-clause-agrees
returns-in-Err-clause-agrees c =
    let stops = subst (λ (rows : List Row). (next_row_at (entries_of rows) c.loop-done.from ≡ Err c.in-Err.fault) ⊎ (c.in-Err.fault ≡ Memory)) c.deref.ensures.value c.in-Err.ensures.agrees in
    step_stops Memory next_row_at (entries_of c.loop-done.rows.items) c.args.count c.loop-done.done c.args.from.now c.loop-done.from c.in-Err.fault (search rules) c.loop-done.invariant.to_come stops
