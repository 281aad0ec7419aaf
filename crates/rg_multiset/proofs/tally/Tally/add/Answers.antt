use Rattle.std.proofs.Common.{◌≡◌, ℕ, List, ap, sym, subst, arith}
use Rattle.rg_agg.specs.Standing.{IsLike, counts_sum, pairs_kind}
use Rattle.rg_event.specs.declared.value.Value.{Value}
use Rattle.rg_multiset.specs.Pairs.{pairs_by, AreAlike}
use Rattle.rg_multiset.proofs.Among.{sound_of, alike_added}
use Rattle.rg_multiset.proofs.tally.Tally.add.Goals as goal

pub returns-in-Ok-clause-sound : goal.returns-in-Ok-clause-sound
returns-in-Ok-clause-sound g c =
    let f = g.K.Ranked.value_of in
    let legal = g.K.Ranked.legal in
    let old = c.self.inside.map.entries in
    let new = c.add_in.new.map.entries in
    let P : List (Value × ℕ) → Type 0 = λ pairs. IsLike (pairs_kind pairs) (f c.args.key.now) in
    let like = subst P (sym c.self.view_is) c.requires.like in
    let alike = alike_added legal (f c.args.key.now) (pairs_by f old) (pairs_by f new) c.self.invariant.alike like (c.in-Ok.ensures.kept c.requires.legal) in
    sound_of g.K.Ord.cmp f legal g.K.Ranked.below g.met.K.Ranked.orders new c.add_in.ensures.ordered alike (omega (arith, c.in-Ok.ensures.ok.size, c.requires.room, ap counts_sum c.self.view_is))

pub returns-in-Err-clause-sound : goal.returns-in-Err-clause-sound
returns-in-Err-clause-sound g c =
    let f = g.K.Ranked.value_of in
    let legal = g.K.Ranked.legal in
    let old = c.self.inside.map.entries in
    let new = c.add_in.new.map.entries in
    let same : pairs_by f new ≡ pairs_by f old = ap (pairs_by f) c.in-Err.ensures.err in
    let P : List (Value × ℕ) → Type 0 = λ pairs. AreAlike legal pairs in
    sound_of g.K.Ord.cmp f legal g.K.Ranked.below g.met.K.Ranked.orders new c.add_in.ensures.ordered (subst P (sym same) c.self.invariant.alike) (omega (arith, ap counts_sum same, c.self.invariant.size, c.self.invariant.few))
