use Rattle.std.proofs.Common.{rules}
use Rattle.rg_agg.proofs.Sums.{no_squares, is_squares_less, wide_less, square_sum_small}
use Rattle.rg_agg.proofs.sum_sq.SumSqAggregate.remove.Goals as goal

pub returns-then-not-is_within-clause-unfit : goal.returns-then-not-is_within-clause-unfit
returns-then-not-is_within-clause-unfit c = λ values stands.
    let sum = c.get.result in
    no_squares c.args.self.now.count sum c.in-Some.square _ values c.args.value.now c.is_within.result (search rules) (wide_less sum c.in-Some.square (square_sum_small c.args.self.now.count sum (search rules) (search rules)) (search rules)) c.is_within.ensures (search rules) (rw c.get.ensures stands)

pub returns-clause-ok : goal.returns-clause-ok
returns-clause-ok c = λ values stands.
    let sum = c.args.self.now.sum in
    rw (c.new.ensures, c.get.ensures, wide_less sum c.in-Some.square (square_sum_small c.args.self.now.count sum (search rules) (search rules)) (search rules)) (is_squares_less c.args.self.now.count sum c.in-Some.square values c.args.value.now (search rules) stands)
