use Rattle.std.proofs.Common.{◌∷◌, ◌++◌, length, ap, sym, ◌∙◌}
use Rattle.rg_agg.specs.Held.{pairs_bytes}
use Rattle.std.specs.Int.{w64, to_be_bytes}
use Rattle.rg_bytes.proofs.Laws.{kept_through}
use Rattle.rg_multiset.proofs.ReadPairs.{all_ok, all_err, pairs_length, parts_put}
use Rattle.rg_multiset.proofs.tally.Tally.put_parts.Goals as goal

pub returns-clause-ok : goal.returns-clause-ok
returns-clause-ok g c =
    let f = g.K.Ranked.value_of in
    let entries = c.self.inside.map.entries in
    all_ok c.put_each.result c.put_each.ensures.ok (λ put. parts_put c.args.tag c.len.result c.args.out.now.items c.put_size.new.out.items c.put_each.new.out.items c.args.self.now (c.len.ensures.len ∙ (sym (pairs_length f entries) ∙ ap length c.self.view_is)) c.in_ok-put_size.ensures.ok (put ∙ ap (λ pairs. c.put_size.new.out.items ++ pairs_bytes pairs) c.self.view_is))

pub returns-clause-err : goal.returns-clause-err
returns-clause-err g c =
    all_err c.put_each.result c.put_each.ensures.err (λ keeps. kept_through c.args.out.now.items (c.args.tag ∷ to_be_bytes w64 c.len.result) c.put_size.new.out.items c.put_each.new.out.items c.in_ok-put_size.ensures.ok keeps)
