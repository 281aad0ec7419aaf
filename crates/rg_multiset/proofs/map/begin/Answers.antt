use Rattle.std.proofs.Common.{refl, arith}
use Rattle.rg_event.specs.Tagged.{value_kind}
use Rattle.rg_multiset.proofs.Counting.{begun}
use Rattle.rg_multiset.proofs.Kept.{insert_are}
use Rattle.rg_multiset.proofs.map.begin.Goals as goal

pub returns-clause-ok : goal.returns-clause-ok
returns-clause-ok g c = begun g.K.Ord.cmp g.K.Ranked.value_of g.met.K.Ranked.tells c.args.key c.args.map.now.entries c.insert.new.self.entries c.requires c.in_ok-insert.ensures.entries

pub returns-clause-kept : goal.returns-clause-kept
returns-clause-kept g c = λ legal are.
    let f = g.K.Ranked.value_of in
    rw (c.in_ok-insert.ensures.entries) (insert_are f g.K.Ranked.legal (value_kind (f c.args.key)) g.K.Ord.cmp c.args.key 1 c.args.map.now.entries legal refl (omega arith) are)
