use Rattle.std.proofs.Common.{ap, sym, rules}
use Rattle.std.proofs.lemmas.Int.{to_z-of_z}
use Rattle.std.specs.Int.{w128}
use Rattle.std.specs.Int.RustNames.{FitsSigned}
use Rattle.rg_agg.specs.Numbers.{value_of}
use Rattle.rg_agg.specs.Unbeaten.{is_less, is_greater}
use Rattle.rg_metric.specs.Answers.{answer_of}
use Rattle.rg_keywords.specs.declared.func.Func.TheVariants.{Min, Max}
use Rattle.rg_extreme.specs.States.{pairs_in}
use Rattle.rg_extreme.proofs.Removals.{least_of, greatest_of, none_of}
use Rattle.rg_extreme.proofs.deque.Deque.answer.Goals as goal

pub returns-in-Some-clause-least : goal.returns-in-Some-clause-least
returns-in-Some-clause-least c = λ values stands.
    let fits : FitsSigned w128 c.amount.result = search rules in
    rw (to_z-of_z w128 c.amount.result fits, c.amount.ensures) (least_of c.args.self.now.size (pairs_in c.args.self.now) (value_of c.in-Some.number) values c.in-Some.ensures stands)

pub returns-in-Some-clause-greatest : goal.returns-in-Some-clause-greatest
returns-in-Some-clause-greatest c = λ values stands.
    let fits : FitsSigned w128 c.amount.result = search rules in
    rw (to_z-of_z w128 c.amount.result fits, c.amount.ensures) (greatest_of c.args.self.now.size (pairs_in c.args.self.now) (value_of c.in-Some.number) values c.in-Some.ensures stands)

pub returns-in-None-clause-least : goal.returns-in-None-clause-least
returns-in-None-clause-least c = λ values stands. sym (ap (answer_of Min) (none_of is_less c.args.self.now.size (pairs_in c.args.self.now) values c.in-None.ensures stands))

pub returns-in-None-clause-greatest : goal.returns-in-None-clause-greatest
returns-in-None-clause-greatest c = λ values stands. sym (ap (answer_of Max) (none_of is_greater c.args.self.now.size (pairs_in c.args.self.now) values c.in-None.ensures stands))
