use Rattle.std.proofs.Common.{◌≡◌, ℕ, List, ap, sym, subst, arith}
use Rattle.rg_agg.specs.Standing.{counts_sum}
use Rattle.rg_event.specs.declared.value.Value.{Value}
use Rattle.rg_multiset.specs.Pairs.{pairs_by, AreAlike}
use Rattle.rg_multiset.proofs.Among.{sound_of, alike_kept}
use Rattle.rg_multiset.proofs.tally.Tally.remove.Goals as goal

pub invariant_of-self-2 : goal.invariant_of-self-2
invariant_of-self-2 g c =
    let f = g.K.Ranked.value_of in
    let one = c.remove_in.ensures.there c.if-not-remove_in.false in
    record {
      size = omega (arith, one.size, c.self.invariant.size);
      few = omega (arith, c.self.invariant.few);
      alike = alike_kept g.K.Ranked.legal (pairs_by f c.self.inside.map.entries) (pairs_by f c.remove_in.new.map.entries) c.self.invariant.alike c.remove_in.ensures.kept;
    }

pub returns-then-not-remove_in-clause-sound : goal.returns-then-not-remove_in-clause-sound
returns-then-not-remove_in-clause-sound g c =
    let f = g.K.Ranked.value_of in
    let legal = g.K.Ranked.legal in
    let old = c.self.inside.map.entries in
    let new = c.remove_in.new.map.entries in
    let same : pairs_by f new ≡ pairs_by f old = ap (pairs_by f) (c.remove_in.ensures.same c.if-not-remove_in.true) in
    let P : List (Value × ℕ) → Type 0 = λ pairs. AreAlike legal pairs in
    sound_of g.K.Ord.cmp f legal g.K.Ranked.below g.met.K.Ranked.orders new c.remove_in.ensures.ordered (subst P (sym same) c.self.invariant.alike) (omega (arith, ap counts_sum same, c.self.invariant.size, c.self.invariant.few))

pub returns-clause-sound : goal.returns-clause-sound
returns-clause-sound g c =
    let f = g.K.Ranked.value_of in
    let legal = g.K.Ranked.legal in
    let new = c.remove_in.new.map.entries in
    let one = c.remove_in.ensures.there c.if-not-remove_in.false in
    let alike = alike_kept legal (pairs_by f c.self.inside.map.entries) (pairs_by f new) c.self.invariant.alike c.remove_in.ensures.kept in
    sound_of g.K.Ord.cmp f legal g.K.Ranked.below g.met.K.Ranked.orders new c.remove_in.ensures.ordered alike (omega (arith, one.size, c.self.invariant.size, c.self.invariant.few))
