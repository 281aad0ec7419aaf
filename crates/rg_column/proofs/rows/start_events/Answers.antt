use Rattle.std.proofs.Common.{◌≡◌, ◌<◌, ◌++◌, ◌∷◌, [], length, get_or, sym, ◌∙◌, ap, arith, rules}
use Rattle.rg_column.proofs.Transposed.{started_more}
use Rattle.rg_column.proofs.rows.start_events.Goals as goal

pub loop-i-preserved : goal.loop-i-preserved
loop-i-preserved c =
    let offsets = c.args.offsets.now in
    let times = c.args.times.now in
    let i = c.loop-i.i in
    let beside : i < length times = omega (arith, c.loop-i-test.true, c.requires) in
    let none : c.in_ok-with_capacity.field-0 ≡ [] = search rules in
    let pushed : c.push.new.self.items ≡ c.loop-i.events.items ++ record { offset = get_or offsets i 0; time = get_or times i 0; values = c.in_ok-with_capacity.field-0 } ∷ [] = search (rules, c.in_ok-push.ensures.items) in
    pushed ∙ (λ j. c.loop-i.invariant j ++ record { offset = get_or offsets i 0; time = get_or times i 0; values = none j } ∷ []) ∙ sym (started_more i offsets times c.loop-i-test.true beside)
