use Rattle.std.proofs.Common.{◌∷◌, sym, ◌∙◌}
use Rattle.std.specs.Int.{w64, to_be_bytes}
use Rattle.rg_agg.specs.Numbers.{value_of}
use Rattle.rg_bytes.proofs.Laws.{kept_through}
use Rattle.rg_extreme.specs.States.{pairs_in}
use Rattle.rg_extreme.proofs.Ends.{parts_put}
use Rattle.rg_multiset.proofs.Laws.{all_ok, all_err, pairs_length}
use Rattle.rg_extreme.proofs.deque.Deque.put_parts.Goals as goal

pub returns-clause-ok : goal.returns-clause-ok
returns-clause-ok c =
    let deque = c.args.self.now.pairs in
    all_ok c.put_each.result c.put_each.ensures.ok
    (parts_put c.args.tag c.args.self.now.size c.len.result c.args.out.now.items c.put_size.new.out.items c.put_u64.new.out.items c.put_each.new.out.items (pairs_in c.args.self.now) (c.len.ensures ∙ (deque.ok.0 ∙ sym (pairs_length value_of deque.items))) c.in_ok-put_size.ensures.ok c.in_ok-put_u64.ensures.ok)

pub returns-clause-err : goal.returns-clause-err
returns-clause-err c =
    all_err c.put_each.result c.put_each.ensures.err (λ keeps.
    kept_through c.args.out.now.items (c.args.tag ∷ to_be_bytes w64 c.args.self.now.size) c.put_size.new.out.items c.put_each.new.out.items c.in_ok-put_size.ensures.ok
    (kept_through c.put_size.new.out.items (to_be_bytes w64 c.len.result) c.put_u64.new.out.items c.put_each.new.out.items c.in_ok-put_u64.ensures.ok keeps))
