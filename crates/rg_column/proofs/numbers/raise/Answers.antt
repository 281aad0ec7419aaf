use Rattle.std.proofs.Common.{◌≡◌, ◌≤◌, ◌<◌, ◌+◌, length, get_or, arith, rules}
use Rattle.rg_column.specs.Numbers.{greatest}
use Rattle.rg_column.proofs.Packing.{raise_here, raise_more, greatest_above}
use Rattle.rg_column.proofs.numbers.raise.Goals as goal

pub overflow_add-number : goal.overflow_add-number
overflow_add-number c =
    let within : c.loop-number.number-index < length c.loop-number.number-items = omega (arith, c.loop-number-test.true, c.loop-number.auto.number-items) in
    let here = raise_here c.args.base c.args.differences.items c.loop-number.number-items c.loop-number.number-index within c.loop-number.invariant in
    let below : get_or c.args.differences.items c.loop-number.number-index 0 ≤ greatest c.args.differences.items = greatest_above c.args.differences.items c.loop-number.number-index 0 here.0 in
    omega (arith, here.1, below, c.requires)

pub loop-number-preserved : goal.loop-number-preserved
loop-number-preserved c =
    let within : c.loop-number.number-index < length c.loop-number.number-items = omega (arith, c.loop-number-test.true, c.loop-number.auto.number-items) in
    raise_more c.args.base c.args.differences.items c.loop-number.number-items c.loop-number.number-index within c.loop-number.invariant
