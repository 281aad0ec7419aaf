use Rattle.std.proofs.Common.{rules, arith}
use Rattle.std.proofs.lemmas.Int.{ints, to_z-of_z}
use Rattle.rg_scratch.proofs.Sums.{tally_more}
use Rattle.rg_scratch.proofs.tally.Tally.add.Goals as goal

pub returns-clause-tally : goal.returns-clause-tally
returns-clause-tally c values stands =
    tally_more c.args.self.now.count c.args.self.now.sum c.args.self.now.squares c.number-number.result _ _ c.args.self.now.ends _ values c.args.value.now c.number-number.ensures.number
    (omega (arith, ints)) (search (rules, to_z-of_z, c.with_square.ensures)) (search (rules, to_z-of_z, c.with_last.ensures)) stands
