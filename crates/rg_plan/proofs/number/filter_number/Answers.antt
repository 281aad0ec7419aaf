use Rattle.std.proofs.Common.{◌∙◌, ap, map}
use Rattle.rg_plan.specs.Nodes.{filtered, same_filter}
use Rattle.rg_plan.proofs.Members.{with_use-seen, number-seen}
use Rattle.rg_plan.proofs.number.filter_number.Goals as goal

pub returns-clause-filters : goal.returns-clause-filters
returns-clause-filters c =
    ap (map filtered) c.in_ok-number.ensures.members ∙ with_use-seen filtered same_filter c.args.filters.now.keys c.args.filter

pub returns-clause-number : goal.returns-clause-number
returns-clause-number c =
    c.in_ok-number.ensures.number ∙ number-seen filtered same_filter c.args.filter c.number_of.new.members.keys
