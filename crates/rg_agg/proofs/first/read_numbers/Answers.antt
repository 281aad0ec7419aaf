use Rattle.std.proofs.Common.{◌≡◌, ◌∷◌, ◌++◌, [], length, length-append, map, ap, ◌∙◌, arith, rules}
use Rattle.rg_agg.specs.Held.{next_at}
use Rattle.rg_agg.specs.Numbers.{value_of}
use Rattle.rg_bytes.proofs.Laws.{step_to_come, step_taken}
use Rattle.rg_event.specs.Tagged.{tagged_bytes}
use Rattle.rg_agg.proofs.Queues.{alike_pushed, values_more}
use Rattle.rg_agg.proofs.first.read_numbers.Goals as goal

pub loop-done-preserved : goal.loop-done-preserved
loop-done-preserved c =
    let old = c.loop-done.numbers.items in
    let number = c.in_ok-number.number in
    let pushed : c.push_back.new.self.items ≡ old ++ number ∷ [] = c.in-Ok.ensures.items in
    let seen : map value_of c.push_back.new.self.items ≡ map value_of old ++ value_of number ∷ [] = ap (map value_of) pushed ∙ values_more old number in
    record {
      counted = omega (arith, ap length pushed, length-append old (number ∷ []), c.loop-done.invariant.counted);
      to_come = step_to_come next_at (map value_of old) (map value_of c.push_back.new.self.items) (value_of number) c.args.count c.loop-done.done c.args.from.now c.loop-done.from c.read_next.new.from seen (search rules) c.loop-done.invariant.to_come c.in_ok-number.ensures.agrees;
      taken = step_taken tagged_bytes (map value_of old) (map value_of c.push_back.new.self.items) (value_of number) c.args.from.now c.loop-done.from c.read_next.new.from seen c.loop-done.invariant.taken c.in_ok-number.ensures.ok;
      alike = alike_pushed old c.push_back.new.self.items number pushed c.loop-done.invariant.alike c.in_ok-number.ensures.legal c.in_ok-number.ensures.alike;
    }
