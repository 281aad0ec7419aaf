use Rattle.std.proofs.Common.{◌≡◌, ◌++◌, ◌∷◌, [], Ok, inl, rules}
use Rattle.rg_bytes.proofs.Laws.{step_counted, step_to_come, step_stops, step_taken}
use Rattle.rg_column.specs.Widths.{difference_at, difference_bytes}
use Rattle.rg_column.specs.declared.fault.ColumnFault.TheVariants.{Short, Memory}
use Rattle.rg_column.proofs.Widths.{difference_read, difference_short}
use Rattle.rg_column.proofs.numbers.take_differences.Goals as goal

pub returns-in-Err-clause-agrees : goal.returns-in-Err-clause-agrees
returns-in-Err-clause-agrees c =
    step_stops Memory (λ _. difference_at c.args.width) c.loop-done.differences.items c.args.count c.loop-done.done c.args.from.now c.loop-done.from Short (search rules) c.loop-done.invariant.to_come
    (inl (difference_short c.args.width c.loop-done.from (search rules)))

pub loop-done-preserved : goal.loop-done-preserved
loop-done-preserved c =
    let width = c.args.width in
    let old = c.loop-done.differences.items in
    let new = c.push.new.self.items in
    let difference = c.in-Ok.difference in
    let left = c.take.new.from in
    let pushed : new ≡ old ++ difference ∷ [] = search (rules, c.in_ok-push.ensures.items) in
    record {
      counted = step_counted old new difference c.loop-done.done pushed c.loop-done.invariant.counted;
      to_come = step_to_come (λ _. difference_at width) old new difference c.args.count c.loop-done.done c.args.from.now c.loop-done.from left pushed (search rules) c.loop-done.invariant.to_come
          (difference_read width c.loop-done.from difference left c.in-Ok.ensures.ok c.in-Ok.ensures.fits);
      taken = step_taken (difference_bytes width) old new difference c.args.from.now c.loop-done.from left pushed c.loop-done.invariant.taken c.in-Ok.ensures.ok;
    }
