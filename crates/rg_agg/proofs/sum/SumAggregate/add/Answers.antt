use Rattle.std.proofs.Common.{rules}
use Rattle.rg_agg.proofs.Admitted.{int_admitted}
use Rattle.rg_agg.proofs.Sums.{is_total_added}
use Rattle.rg_agg.proofs.sum.SumAggregate.add.Goals as goal

pub returns-clause-ok : goal.returns-clause-ok
returns-clause-ok c = λ values stands.
    let total = c.args.self.now.total in
    rw (c.new.ensures, c.get.ensures) (is_total_added total.count total.sum c.in-Some.number values c.args.value.now total.few total.bound (search rules) (search rules) (int_admitted c.args.value.now c.requires.admitted) stands)
