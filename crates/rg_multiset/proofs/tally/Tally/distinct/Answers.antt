use Rattle.std.proofs.Common.{ℕ, List, sym, ◌∙◌, subst}
use Rattle.rg_agg.specs.Standing.{AreCounts}
use Rattle.rg_event.specs.declared.value.Kind.TheVariants.{Int}
use Rattle.rg_event.specs.declared.value.Value.{Value}
use Rattle.rg_multiset.specs.Pairs.{pairs_by}
use Rattle.rg_multiset.proofs.Distinct.{distinct_count}
use Rattle.rg_multiset.proofs.Kept.{some_kind}
use Rattle.rg_multiset.proofs.tally.Tally.distinct.Goals as goal

pub returns : goal.returns
returns g c = λ values counts.
    let f = g.K.Ranked.value_of in
    let legal = g.K.Ranked.legal in
    let entries = c.self.inside.map.entries in
    let P : List (Value × ℕ) → Type 0 = λ pairs. AreCounts pairs values in
    let kind = some_kind legal (pairs_by f entries) Int c.self.invariant.alike in
    c.len.ensures.len ∙ distinct_count g.K.Ord.cmp f g.met.K.Ranked.tells legal kind.0 entries c.len.ensures.ordered kind.1 values (subst P (sym c.self.view_is) counts)
