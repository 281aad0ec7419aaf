use Rattle.std.proofs.Common.{◌++◌, rules}
use Rattle.std.proofs.lemmas.Result.{IfOk-equal, on_err_weaker}
use Rattle.std.specs.Int.{w64, to_be_bytes}
use Rattle.rg_event.specs.Codec.{values_bytes, event_bytes}
use Rattle.rg_bytes.proofs.Laws.{kept_through}
use Rattle.rg_event.proofs.ColumnValues.{three_more}
use Rattle.rg_event.proofs.codec.encoder.put_event.Goals as goal

pub returns-clause-ok : goal.returns-clause-ok
returns-clause-ok c =
    let event = c.args.event.now in
    let put = three_more c.args.out.now.items (to_be_bytes w64 event.offset) (to_be_bytes w64 event.time) (values_bytes event.values) c.put_u64.new.out.items c.put_u64-2.new.out.items c.in_ok-put_u64.ensures.ok c.in_ok-put_u64-2.ensures.ok in
    IfOk-equal c.put_values.result _ (c.put_u64-2.new.out.items ++ values_bytes event.values) (c.args.out.now.items ++ event_bytes event) (search (rules, c.put_values.ensures.ok)) put

pub returns-clause-err : goal.returns-clause-err
returns-clause-err c =
    on_err_weaker c.put_values.result (λ kept. kept_through _ _ _ _ c.in_ok-put_u64.ensures.ok (kept_through _ _ _ _ c.in_ok-put_u64-2.ensures.ok kept)) c.put_values.ensures.err
