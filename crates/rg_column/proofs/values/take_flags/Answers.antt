use Rattle.std.proofs.Common.{◌≡◌, ◌++◌, ◌∷◌, [], rules}
use Rattle.rg_bytes.proofs.Laws.{step_counted, step_to_come, step_stops, step_legal}
use Rattle.rg_event.specs.Codec.{IsValueOf}
use Rattle.rg_event.specs.declared.value.Kind.TheVariants.{Flag}
use Rattle.rg_column.specs.Values.{flag_at}
use Rattle.rg_column.specs.declared.fault.ColumnFault.TheVariants.{Memory}
use Rattle.rg_column.proofs.Typed.{flags_taken}
use Rattle.rg_column.proofs.values.take_flags.Goals as goal

pub returns-in-Err-clause-agrees : goal.returns-in-Err-clause-agrees
returns-in-Err-clause-agrees c =
    step_stops Memory (λ _. flag_at c.args.index) c.loop-done.values.items c.args.count c.loop-done.done c.args.from.now c.loop-done.from c.in-Err.fault (search rules) c.loop-done.invariant.to_come c.in-Err.ensures.agrees

pub loop-done-preserved : goal.loop-done-preserved
loop-done-preserved c =
    let old = c.loop-done.values.items in
    let new = c.push.new.self.items in
    let flag = c.in-Ok.flag in
    let left = c.take_flag.new.from in
    let pushed : new ≡ old ++ flag ∷ [] = search (rules, c.in_ok-push.ensures.items) in
    record {
      counted = step_counted old new flag c.loop-done.done pushed c.loop-done.invariant.counted;
      to_come = step_to_come (λ _. flag_at c.args.index) old new flag c.args.count c.loop-done.done c.args.from.now c.loop-done.from left pushed (search rules) c.loop-done.invariant.to_come c.in-Ok.ensures.agrees;
      taken = flags_taken old new flag c.args.from.now c.loop-done.from left pushed c.loop-done.invariant.taken c.in-Ok.ensures.ok;
      legal = step_legal (IsValueOf Flag) old new flag pushed c.loop-done.invariant.legal c.in-Ok.ensures.legal;
    }
