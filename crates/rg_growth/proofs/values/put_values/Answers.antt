use Rattle.std.proofs.Common.{rules}
use Rattle.rg_bytes.specs.Keeps.{Keeps}
use Rattle.rg_bytes.proofs.Laws.{kept_on, kept_same}
use Rattle.rg_growth.proofs.values.put_values.Goals as goal

pub returns-in_err-put_tagged-clause-err : goal.returns-in_err-put_tagged-clause-err
returns-in_err-put_tagged-clause-err c =
    let kept : Keeps c.args.out.now.items c.put_tagged.new.out.items = kept_on _ c.loop-value.out.items _ c.loop-value.invariant.keeps (kept_same _ _ c.in_err-put_tagged.ensures.err) in
    search (rules, kept)
