use Rattle.std.proofs.Common.{◌≡◌, ◌++◌, ◌∷◌, rules}
use Rattle.rg_multiset.proofs.Order.{insert_next}
use Rattle.rg_multiset.proofs.map.copy_in.Goals as goal

pub loop-key-preserved : goal.loop-key-preserved
loop-key-preserved g c =
    let key = c.in_ok-copy.copy in
    let count = c.in-Some.count.now in
    let before = c.loop-key.copies.entries in
    let after = c.next.new.self in
    let all = c.args.map.now.entries in
    let parts : before ++ (key, count) ∷ after ≡ all = search rules in
    insert_next g.K.Ord.cmp g.met.K.Ord.total key count before after c.insert.new.self.entries all c.in_ok-insert.ensures.entries parts c.iter-key-items.ensures.ordered
