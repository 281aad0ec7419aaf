use Rattle.std.proofs.Common.{◌≡◌, ◌++◌, ◌∷◌, [], ℕ, List, ap, ◌∙◌}
use Rattle.rg_event.specs.declared.value.Value.{Value}
use Rattle.rg_multiset.specs.Pairs.{pairs_by}
use Rattle.rg_multiset.proofs.Kept.{pairs_append}
use Rattle.rg_multiset.proofs.ReadPairs.{pushed_sized}
use Rattle.rg_multiset.proofs.tally.TallyPairList.push.Goals as goal

pub invariant_of-self : goal.invariant_of-self
invariant_of-self g c =
    let f = g.K.Ranked.value_of in
    let old = c.self.inside.map.entries in
    pushed_sized g.K.Ranked.legal g.K.Ranked.below c.args.self.now (pairs_by f old) (pairs_by f c.push_in.new.map.entries) (f c.args.key) c.args.count c.self.inside.size c.self.view_is c.self.invariant c.requires.legal c.requires.behind c.requires.count
    (ap (pairs_by f) c.in-Ok.ensures.ok ∙ pairs_append f c.args.key c.args.count old)

pub returns-in-Ok-clause-ok : goal.returns-in-Ok-clause-ok
returns-in-Ok-clause-ok g c =
    let f = g.K.Ranked.value_of in
    ap (pairs_by f) c.in-Ok.ensures.ok ∙ (pairs_append f c.args.key c.args.count c.self.inside.map.entries ∙ ap (λ (pairs : List (Value × ℕ)). pairs ++ (f c.args.key, c.args.count) ∷ []) c.self.view_is)
