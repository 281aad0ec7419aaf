use Rattle.std.proofs.Common.{◌≡◌, ◌++◌, ◌∷◌, [], length, get_or, Ok, rules}
use Rattle.rg_bytes.proofs.Laws.{step_counted, step_to_come, step_stops, step_taken, step_legal}
use Rattle.rg_event.specs.Codec.{IsValueOf}
use Rattle.rg_event.specs.declared.value.Kind.TheVariants.{Text}
use Rattle.rg_column.specs.Values.{text_in, next_text_at}
use Rattle.rg_column.specs.declared.fault.ColumnFault.TheVariants.{Memory}
use Rattle.rg_column.proofs.Typed.{next_is, next_stops, lengths_more}
use Rattle.rg_column.proofs.values.take_each_text.Goals as goal

pub returns-in-Err-clause-agrees : goal.returns-in-Err-clause-agrees
returns-in-Err-clause-agrees c =
    let lengths = c.args.lengths.now in
    let values = c.loop-length.values.items in
    step_stops Memory (next_text_at c.args.index lengths) values (length lengths) c.loop-length.length-index c.args.from.now c.loop-length.from c.in-Err.fault c.loop-length-test.true c.loop-length.invariant.to_come
    (next_stops c.args.index lengths values c.loop-length.length-index c.loop-length.from c.in-Err.fault c.loop-length.invariant.counted c.in-Err.ensures.agrees)

pub loop-length-preserved : goal.loop-length-preserved
loop-length-preserved c =
    let lengths = c.args.lengths.now in
    let old = c.loop-length.values.items in
    let new = c.push.new.self.items in
    let text = c.in-Ok.text in
    let i = c.loop-length.length-index in
    let left = c.take_text.new.from in
    let pushed : new ≡ old ++ text ∷ [] = search (rules, c.in_ok-push.ensures.items) in
    record {
      counted = step_counted old new text i pushed c.loop-length.invariant.counted;
      to_come = step_to_come (next_text_at c.args.index lengths) old new text (length lengths) i c.args.from.now c.loop-length.from left pushed c.loop-length-test.true c.loop-length.invariant.to_come
          (next_is c.args.index lengths old i c.loop-length.from (Ok (text, left)) c.loop-length.invariant.counted c.in-Ok.ensures.agrees);
      taken = step_taken text_in old new text c.args.from.now c.loop-length.from left pushed c.loop-length.invariant.taken c.in-Ok.ensures.ok;
      lengths = lengths_more lengths i old new text c.loop-length-test.true pushed c.loop-length.invariant.lengths c.in-Ok.ensures.length;
      legal = step_legal (IsValueOf Text) old new text pushed c.loop-length.invariant.legal c.in-Ok.ensures.legal;
    }
