use Rattle.std.proofs.Common.{◌≡◌, ◌+◌, ◌-◌, ◌*◌, ◌/◌, ◌<◌, Some, rules, arith, subst}
use Rattle.std.proofs.lemmas.Int.{to_z-of_z}
use Rattle.std.specs.Int.{w128}
use Rattle.std.specs.Int.RustNames.{FitsSigned}
use Rattle.rg_agg.specs.Numbers.{value_of}
use Rattle.rg_agg.specs.Standing.{counts_sum}
use Rattle.rg_rank.specs.Ranking.{value_at}
use Rattle.rg_rank.specs.Shapes.{AreVisits, listed}
use Rattle.rg_rank.proofs.Changes.{there_most}
use Rattle.rg_rank.proofs.Ordered.{percentile_is}
use Rattle.rg_rank.proofs.States.{some_place}
use Rattle.rg_rank.proofs.Tallies.{ranking_of}
use Rattle.rg_rank.proofs.Visits.{no_visit}
use Rattle.rg_rank.proofs.rank.Rank.at.Goals as goal

pub returns-then-size-eq0-clause-visits : goal.returns-then-size-eq0-clause-visits
returns-then-size-eq0-clause-visits g c =
    let tree = listed c.args.self.now.tree in
    let none : counts_sum tree ≡ 0 = omega (arith, c.values-size.ensures.sum, c.if-size-eq0.true) in
    no_visit _ _ c.args.self.now.tree (omega (arith, none, there_most tree (ranking_of tree c.args.self.now.sound).there))

pub returns-clause-answer : goal.returns-clause-answer
returns-clause-answer g c = λ values counts.
    let tree = listed c.args.self.now.tree in
    let fits : FitsSigned w128 c.amount.result = search rules in
    let any : 0 < counts_sum tree = omega (arith, c.values-size.ensures.sum, c.if-size-eq0.false) in
    let first = subst (λ percent. value_at ((percent * c.values-size.result + 99) / 100 - 1) tree ≡ Some (value_of c.at.result)) c.from.ensures c.at.ensures.value in
    let is = subst (λ n. value_at ((c.args.percent * n + 99) / 100 - 1) tree ≡ Some (value_of c.at.result)) c.values-size.ensures.sum first in
    rw (to_z-of_z w128 c.amount.result fits, c.amount.ensures)
    (percentile_is c.args.percent tree (value_of c.at.result) values c.requires.some c.requires.most c.args.self.now.sound counts (some_place c.args.percent (counts_sum tree) c.requires.some any) is)

pub returns-clause-visits : goal.returns-clause-visits
returns-clause-visits g c =
    let tree = c.args.self.now.tree in
    let first = subst (λ percent. AreVisits ((percent * c.values-size.result + 99) / 100 - 1) tree c.args.steps.now c.at.new.steps) c.from.ensures c.at.ensures.visits in
    subst (λ n. AreVisits ((c.args.percent * n + 99) / 100 - 1) tree c.args.steps.now c.at.new.steps) c.values-size.ensures.sum first
