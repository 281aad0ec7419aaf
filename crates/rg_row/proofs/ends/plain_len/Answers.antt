use Rattle.std.proofs.Common.{sym, ap, ◌∙◌, arith}
use lib.Count.{count_trailing_zeros}
use Rattle.rg_row.proofs.Together.{plain_through, plain_stops, plain_within}
use Rattle.rg_row.proofs.ends.plain_len.Goals as goal

pub returns-then-ends-ne0-clause-len : goal.returns-then-ends-ne0-clause-len
returns-then-ends-ne0-clause-len c =
    let ends = c.ends_of-ends in
    let len = plain_stops c.args.bytes.now c.loop-at.at 16 (omega arith) (omega arith) (omega (arith, ends.ensures)) ∙ ap (count_trailing_zeros 64) (sym ends.ensures) in
    omega (arith, len, c.loop-at.invariant.len)

pub returns-then-ends-ne0-clause-within : goal.returns-then-ends-ne0-clause-within
returns-then-ends-ne0-clause-within c =
    let ends = c.ends_of-ends in
    let len = plain_stops c.args.bytes.now c.loop-at.at 16 (omega arith) (omega arith) (omega (arith, ends.ensures)) ∙ ap (count_trailing_zeros 64) (sym ends.ensures) in
    omega (arith, len, c.loop-at.invariant.len, plain_within c.args.bytes.now)

pub loop-at-preserved : goal.loop-at-preserved
loop-at-preserved c =
    let len = plain_through c.args.bytes.now c.loop-at.at 16 (omega arith) (omega (arith, c.ends_of-ends.ensures)) in
    record { len = omega (arith, len, c.loop-at.invariant.len); within = omega arith }
