use Rattle.std.proofs.Common.{ℕ, List, Some, ap, sym, ◌∙◌, subst}
use Rattle.rg_agg.specs.Standing.{AreCounts, pairs_kind}
use Rattle.rg_event.specs.declared.value.Value.{Value}
use Rattle.rg_multiset.proofs.Among.{kind_of_all, first_kind_is}
use Rattle.rg_multiset.proofs.tally.Tally.kind.Goals as goal

pub returns-in-Some-clause-kind : goal.returns-in-Some-clause-kind
returns-in-Some-clause-kind g c =
    ap (λ kind. Some kind) c.kind.ensures ∙ (sym (first_kind_is g.K.Ranked.value_of c.self.inside.map.entries c.in-Some.key.now c.in-Some.field-0-1.now c.in-Some.ensures.first) ∙ ap pairs_kind c.self.view_is)

pub returns-in-Some-clause-like : goal.returns-in-Some-clause-like
returns-in-Some-clause-like g c = λ values value counts all.
    let P : List (Value × ℕ) → Type 0 = λ pairs. AreCounts pairs values in
    kind_of_all g.K.Ranked.value_of g.K.Ranked.legal c.self.inside.map.entries c.in-Some.key.now c.in-Some.field-0-1.now values value c.self.invariant.alike c.in-Some.ensures.first (subst P (sym c.self.view_is) counts) all
    ∙ sym c.kind.ensures
