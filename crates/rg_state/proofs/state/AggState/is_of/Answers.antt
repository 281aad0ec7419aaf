use Rattle.rg_agg.specs.Stands.{IsNumber}
use Rattle.rg_event.specs.Tagged.{IsLegal}
use Rattle.std.proofs.Common.{map}
use Rattle.rg_agg.specs.Numbers.{value_of}
use Rattle.rg_extreme.specs.States.{pairs_in}
use Rattle.rg_rank.specs.Shapes.{listed}
use Rattle.rg_state.proofs.OneKind.{alike_same, all_first, pairs_same, pairs_first}
use Rattle.rg_state.proofs.state.AggState.is_of.Goals as goal

pub returns-in-First : goal.returns-in-First
returns-in-First c =
    let values = map value_of c.deref-in-First.result.now.numbers.items in
    rw (c.in-First.is, ← c.deref-in-First.ensures) (λ yes. alike_same c.args.kind values c.deref-in-First.result.now.alike (c.keeps_kind-in-First.ensures.0 yes), λ all. c.keeps_kind-in-First.ensures.1 (all_first c.args.kind values all))

pub returns-in-Min : goal.returns-in-Min
returns-in-Min c =
    let pairs = pairs_in c.deref.result.now.deque in
    rw (c.in-Min.is, ← c.deref.ensures) (λ yes. pairs_same IsNumber c.args.kind pairs c.deref.result.now.sound.tally.alike (c.keeps_kind.ensures.0 yes), λ all. c.keeps_kind.ensures.1 (pairs_first c.args.kind pairs all))

pub returns-in-Max : goal.returns-in-Max
returns-in-Max c =
    let pairs = pairs_in c.deref-in-Max.result.now.deque in
    rw (c.in-Max.is, ← c.deref-in-Max.ensures) (λ yes. pairs_same IsNumber c.args.kind pairs c.deref-in-Max.result.now.sound.tally.alike (c.keeps_kind-in-Max.ensures.0 yes), λ all. c.keeps_kind-in-Max.ensures.1 (pairs_first c.args.kind pairs all))

pub returns-in-Distinct : goal.returns-in-Distinct
returns-in-Distinct c =
    let pairs = c.deref-in-Distinct.result.now.tally in
    rw (c.in-Distinct.is, ← c.deref-in-Distinct.ensures) (λ yes. pairs_same IsLegal c.args.kind pairs c.deref-in-Distinct.result.now.sound.alike (c.keeps_kind-in-Distinct.ensures.0 yes), λ all. c.keeps_kind-in-Distinct.ensures.1 (pairs_first c.args.kind pairs all))

pub returns-in-Rank : goal.returns-in-Rank
returns-in-Rank c =
    let pairs = listed c.deref-in-Rank.result.now.tree in
    rw (c.in-Rank.is, ← c.deref-in-Rank.ensures) (λ yes. pairs_same IsNumber c.args.kind pairs c.deref-in-Rank.result.now.sound.alike (c.keeps_kind-in-Rank.ensures.0 yes), λ all. c.keeps_kind-in-Rank.ensures.1 (pairs_first c.args.kind pairs all))
