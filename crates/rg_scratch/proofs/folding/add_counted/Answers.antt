use Rattle.std.proofs.Common.{rules, sym, subst}
use Rattle.rg_scratch.specs.Tallies.{IsTally}
use Rattle.rg_scratch.proofs.Counted.{counted_none, counted_some}
use Rattle.rg_scratch.proofs.folding.add_counted.Goals as goal

pub returns-in-None-clause-tally : goal.returns-in-None-clause-tally
returns-in-None-clause-tally c front stands =
    subst (λ values. IsTally c.args.tally.now.count c.args.tally.now.sum c.args.tally.now.squares c.args.tally.now.ends values)
    (sym (counted_none c.args.asking.now c.args.answered.now front c.args.event.now (search (rules, c.value_counted.ensures)))) stands

pub returns-clause-tally : goal.returns-clause-tally
returns-clause-tally c front stands =
    subst (λ values. IsTally c.add.new.self.count c.add.new.self.sum c.add.new.self.squares c.add.new.self.ends values)
    (sym (counted_some c.args.asking.now c.args.answered.now front c.args.event.now c.in-Some.value.now (search (rules, c.value_counted.ensures)))) (c.add.ensures.tally _ stands)
