use Rattle.std.proofs.Common.{◌++◌, ◌∷◌, [], ap, ◌∙◌, rules}
use Rattle.std.proofs.lemmas.Result.{IfOk-equal, on_err_weaker}
use Rattle.std.specs.Int.{w32, to_be_bytes}
use Rattle.rg_bytes.proofs.Laws.{kept_through}
use Rattle.rg_chunk.specs.Heads.{head_bytes, stamp_bytes, tag_of}
use Rattle.rg_chunk.proofs.Heads.{four_more}
use Rattle.rg_chunk.proofs.head.put_head.Goals as goal

pub returns-clause-ok : goal.returns-clause-ok
returns-clause-ok c =
    let head = c.args.head.now in
    let put = four_more c.args.out.now.items (tag_of c.args.layout ∷ []) (to_be_bytes w32 head.count) (stamp_bytes (head.first_offset, head.first_time)) (stamp_bytes (head.last_offset, head.last_time)) c.put_u8.new.out.items c.put_u32.new.out.items c.put_stamp.new.out.items
    (c.in_ok-put_u8.ensures.ok ∙ ap (λ tag. c.args.out.now.items ++ tag ∷ []) c.tag.ensures) c.in_ok-put_u32.ensures.ok c.in_ok-put_stamp.ensures.ok in
    IfOk-equal c.put_stamp-2.result _ (c.put_stamp.new.out.items ++ stamp_bytes (head.last_offset, head.last_time)) (c.args.out.now.items ++ head_bytes c.args.layout head) (search (rules, c.put_stamp-2.ensures.ok)) put

pub returns-clause-err : goal.returns-clause-err
returns-clause-err c =
    on_err_weaker c.put_stamp-2.result (λ kept. kept_through _ _ _ _ c.in_ok-put_u8.ensures.ok (kept_through _ _ _ _ c.in_ok-put_u32.ensures.ok (kept_through _ _ _ _ c.in_ok-put_stamp.ensures.ok kept))) c.put_stamp-2.ensures.err
