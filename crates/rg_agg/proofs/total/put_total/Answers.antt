use Rattle.std.proofs.Common.{rules, ◌∷◌, ◌++◌}
use Rattle.std.proofs.lemmas.Result.{IfOk-equal}
use Rattle.std.specs.Int.{w64, to_be_bytes}
use Rattle.rg_agg.specs.Held.{sum_bytes}
use Rattle.rg_agg.proofs.Fields.{two_more}
use Rattle.rg_agg.proofs.total.put_total.Goals as goal

pub returns-clause-ok : goal.returns-clause-ok
returns-clause-ok c =
    let front = c.args.tag ∷ to_be_bytes w64 c.args.count in
    IfOk-equal c.put_i128.result _ (c.put_size.new.out.items ++ sum_bytes c.args.sum) (c.args.out.now.items ++ (front ++ sum_bytes c.args.sum)) (search (rules, c.put_i128.ensures.ok)) (two_more c.args.out.now.items front (sum_bytes c.args.sum) _ c.in_ok-put_size.ensures.ok)
