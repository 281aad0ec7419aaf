use Rattle.std.proofs.Common.{rules}
use Rattle.rg_agg.proofs.Admitted.{int_admitted}
use Rattle.rg_agg.proofs.Sums.{is_squares_more, wide_more, square_sum_small}
use Rattle.rg_agg.proofs.sum_sq.SumSqAggregate.add.Goals as goal

pub returns-clause-ok : goal.returns-clause-ok
returns-clause-ok c = λ values stands.
    let sum = c.args.self.now.sum in
    rw (c.new.ensures, c.get.ensures, wide_more sum c.in-Some.square (square_sum_small c.args.self.now.count sum (search rules) (search rules)) (search rules)) (is_squares_more _ sum c.in-Some.square values c.args.value.now (search rules) (int_admitted c.args.value.now c.requires.admitted) stands)
