use Rattle.std.proofs.Common.{◌<◌, sym, rules}
use Rattle.rg_agg.specs.Stands.{IsInt}
use Rattle.rg_agg.proofs.Firsts.{total_first}
use Rattle.rg_agg.proofs.Sums.{no_total, wide_less, sum_small}
use Rattle.rg_agg.proofs.total.Total.remove.Goals as goal

pub returns-then-not-is_within-clause-unfit : goal.returns-then-not-is_within-clause-unfit
returns-then-not-is_within-clause-unfit c = λ values stands.
    let sum = c.get.result in
    no_total c.args.self.now.count sum c.in-Some.number _ values c.args.value.now c.is_within.result (search rules) (wide_less sum c.in-Some.number (sum_small c.args.self.now.count sum (search rules) (search rules)) (search rules)) c.is_within.ensures (search rules) (rw c.get.ensures stands)

pub returns-clause-begins : goal.returns-clause-begins
returns-clause-begins c =
    let sum = c.get.result in
    let int : IsInt c.args.value.now = search rules in
    let some : 0 < c.args.self.now.count = search rules in
    rw (sym c.get.ensures) (total_first c.args.self.now.count sum c.in-Some.number _ c.args.value.now c.is_within.result (search rules) int some (wide_less sum c.in-Some.number (sum_small c.args.self.now.count sum (search rules) (search rules)) (search rules)) c.is_within.ensures (search rules))
