use Rattle.std.proofs.Common.{refl, ◌∙◌}
use Rattle.rg_event.specs.Tagged.{value_kind}
use Rattle.rg_multiset.specs.Pairs.{pairs_by}
use Rattle.rg_multiset.proofs.Kept.{behind_are}
use Rattle.rg_multiset.proofs.Order.{insert_last, come_before}
use Rattle.rg_multiset.proofs.map.push_in.Goals as goal

pub returns-clause-ok : goal.returns-clause-ok
returns-clause-ok g c =
    let f = g.K.Ranked.value_of in
    let legal = g.K.Ranked.legal in
    let entries = c.args.map.now.entries in
    let are = behind_are legal g.K.Ranked.below (pairs_by f entries) (f c.args.key) c.requires.alike c.requires.behind in
    c.in_ok-insert.ensures.entries
    ∙ insert_last g.K.Ord.cmp g.met.K.Ord.total c.args.key c.args.count entries
    (come_before g.K.Ord.cmp g.met.K.Ord.total f legal g.K.Ranked.below (value_kind (f c.args.key)) g.met.K.Ranked.orders c.args.key c.requires.legal refl entries c.insert.ensures.was_ordered are c.requires.behind)
