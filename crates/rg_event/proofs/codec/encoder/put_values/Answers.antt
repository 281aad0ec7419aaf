use Rattle.std.proofs.Common.{rules}
use Rattle.rg_bytes.specs.Keeps.{Keeps}
use Rattle.rg_bytes.proofs.Laws.{kept_on}
use Rattle.rg_event.proofs.codec.encoder.put_values.Goals as goal

pub returns-in_err-put_value-clause-err : goal.returns-in_err-put_value-clause-err
returns-in_err-put_value-clause-err c =
    let kept : Keeps c.args.out.now.items c.put_value.new.out.items = kept_on _ c.loop-value.out.items _ c.loop-value.invariant.keeps c.in_err-put_value.ensures.err in
    search (rules, kept)
