use Rattle.std.proofs.Common.{sym, ◌∙◌, arith}
use Rattle.rg_row.proofs.OnePass.{len_more, len_stop, len_end}
use Rattle.rg_row.proofs.ends.short_len.Goals as goal

pub returns-then-ends_plain-clause-len : goal.returns-then-ends_plain-clause-len
returns-then-ends_plain-clause-len c =
    omega (arith, c.loop-i.invariant, len_stop c.args.bytes.now c.loop-i.i c.loop-i-test.true (sym c.ends_plain.ensures ∙ c.if-ends_plain.true))

pub loop-i-preserved : goal.loop-i-preserved
loop-i-preserved c =
    omega (arith, c.loop-i.invariant, len_more c.args.bytes.now c.loop-i.i c.loop-i-test.true (sym c.ends_plain.ensures ∙ c.if-ends_plain.false))

pub returns-clause-len : goal.returns-clause-len
returns-clause-len c = omega (arith, c.loop-i.invariant, len_end c.args.bytes.now c.loop-i.i c.loop-i-test.false)
