use Rattle.std.proofs.Common.{◌++◌, rules}
use Rattle.std.proofs.lemmas.Result.{IfOk-equal, on_err_weaker}
use Rattle.rg_bytes.proofs.Laws.{kept_through, kept_same}
use Rattle.rg_column.specs.Columns.{columns_bytes}
use Rattle.rg_chunk.specs.Heads.{head_bytes, head_for}
use Rattle.rg_chunk.specs.Chunks.{chunk_bytes}
use Rattle.rg_chunk.specs.declared.head.Layout.TheVariants.{Columns}
use Rattle.rg_chunk.proofs.Chunks.{two_more}
use Rattle.rg_chunk.proofs.open.put_chunk.Goals as goal

pub returns-clause-ok : goal.returns-clause-ok
returns-clause-ok c =
    let events = c.args.events.now in
    let fields = c.args.schema.now.fields in
    IfOk-equal c.encode_columns.result _ (c.put_head.new.out.items ++ columns_bytes fields events) (c.args.out.now.items ++ chunk_bytes fields events) (search (rules, c.encode_columns.ensures.ok))
    (two_more c.args.out.now.items (head_bytes Columns (head_for events)) (columns_bytes fields events) c.put_head.new.out.items (search rules))

pub returns-clause-err : goal.returns-clause-err
returns-clause-err c = on_err_weaker c.encode_columns.result (λ same. kept_through _ _ _ _ c.in_ok-put_head.ensures.ok (kept_same _ _ same)) c.encode_columns.ensures.err
