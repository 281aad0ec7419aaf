use Rattle.std.proofs.Common.{◌≡◌, ◌∙◌, Some, length, drop, sym, ap, rules}
use Rattle.rg_growth.specs.Filling.{all_given}
use Rattle.rg_growth.specs.Growing.{Grows}
use Rattle.rg_growth.proofs.Filled.{own_fewer, filled_by, growth_is}
use Rattle.rg_growth.proofs.growth.Growth.filled.Goals as goal

pub lacking-requires : goal.lacking-requires
lacking-requires c =
    let grows : Grows c.args.from.now c.args.to.now = c.grows_to.ensures.exact.0 (search rules) in
    own_fewer c.args.from.now c.args.to.now c.args.defaults.now grows c.requires

pub returns-clause-growth : goal.returns-clause-growth
returns-clause-growth c =
    let grows : Grows c.args.from.now c.args.to.now = c.grows_to.ensures.exact.0 (search rules) in
    let all : Some c.in-Some.values ≡ all_given (drop (length c.args.from.now.fields) c.args.defaults.now) = sym c.in-Some.is ∙ c.in_ok-values.ensures ∙ ap all_given c.lacking.ensures in
    (growth_is c.args.to.now c.in_ok-copy.field-0 c.in-Some.values c.in_ok-copy.ensures, filled_by c.args.from.now c.args.to.now c.args.defaults.now c.in-Some.values grows c.requires all)
