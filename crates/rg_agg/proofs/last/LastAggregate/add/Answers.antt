use Rattle.std.proofs.Common.{◌≡◌, rules}
use Rattle.rg_agg.specs.Numbers.{value_of}
use Rattle.rg_agg.proofs.Admitted.{number_admitted}
use Rattle.rg_agg.proofs.Ends.{is_end_more}
use Rattle.rg_agg.proofs.last.LastAggregate.add.Goals as goal

pub returns-clause-ok : goal.returns-clause-ok
returns-clause-ok c = λ values stands.
    let same : value_of c.in-Some.number ≡ c.args.value.now = search rules in
    rw same (is_end_more _ _ values c.args.value.now (number_admitted c.args.value.now c.requires.admitted) c.requires.like stands)
