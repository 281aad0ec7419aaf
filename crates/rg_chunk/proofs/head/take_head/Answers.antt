use Rattle.std.proofs.Common.{◌≡◌, true, false, sym, ◌∙◌, rules}
use Rattle.rg_chunk.specs.Heads.{is_count}
use Rattle.rg_chunk.proofs.Heads.{reads_short, head_short, head_no_count, head_no_first, head_no_last, head_unknown, head_tested, head_taken, count_parts}
use Rattle.rg_chunk.proofs.head.take_head.Goals as goal

pub returns-in_err-tag-clause-agrees : goal.returns-in_err-tag-clause-agrees
returns-in_err-tag-clause-agrees c = reads_short _ c.from_residual.result _ c.from_residual.ensures.1 (head_short _ (search rules))

pub returns-in_err-count-clause-agrees : goal.returns-in_err-count-clause-agrees
returns-in_err-count-clause-agrees c = reads_short _ c.from_residual-in_err-count.result _ c.from_residual-in_err-count.ensures.1 (head_no_count _ c.in_ok-tag.tag c.u8.new.self c.in_ok-tag.ensures.ok (search rules))

pub returns-in-Err-clause-agrees : goal.returns-in-Err-clause-agrees
returns-in-Err-clause-agrees c = head_no_first _ c.in_ok-tag.tag c.u8.new.self c.in_ok-count.count c.u32.new.self c.in-Err.fault c.in_ok-tag.ensures.ok c.in_ok-count.ensures.ok (search rules) c.in-Err.ensures.agrees

pub returns-in-Err-take_stamp-clause-agrees : goal.returns-in-Err-take_stamp-clause-agrees
returns-in-Err-take_stamp-clause-agrees c =
    head_no_last _ c.in_ok-tag.tag c.u8.new.self c.in_ok-count.count c.u32.new.self c.in-Ok.first c.take_stamp.new.from c.in-Err-take_stamp.fault c.in_ok-tag.ensures.ok c.in_ok-count.ensures.ok (search rules)
    c.in-Ok.ensures.agrees c.in-Err-take_stamp.ensures.agrees

pub returns-in-None-clause-agrees : goal.returns-in-None-clause-agrees
returns-in-None-clause-agrees c =
    head_unknown _ c.in_ok-tag.tag c.u8.new.self c.in_ok-count.count c.u32.new.self c.in-Ok.first c.take_stamp.new.from c.in-Ok-take_stamp.last c.take_stamp-2.new.from c.in_ok-tag.ensures.ok c.in_ok-count.ensures.ok (search rules)
    c.in-Ok.ensures.agrees c.in-Ok-take_stamp.ensures.agrees (sym c.from_tag.ensures ∙ c.in-None.is)

pub returns-then-not-is_count_of_chunk-clause-agrees : goal.returns-then-not-is_count_of_chunk-clause-agrees
returns-then-not-is_count_of_chunk-clause-agrees c =
    let other : is_count c.in_ok-count.count ≡ false = search rules in
    head_tested _ c.in_ok-tag.tag c.u8.new.self c.in_ok-count.count c.u32.new.self c.in-Ok.first c.take_stamp.new.from c.in-Ok-take_stamp.last c.take_stamp-2.new.from c.in-Some.layout false c.in_ok-tag.ensures.ok c.in_ok-count.ensures.ok (search rules)
    c.in-Ok.ensures.agrees c.in-Ok-take_stamp.ensures.agrees (sym c.from_tag.ensures ∙ c.in-Some.is) other

pub returns-clause-agrees : goal.returns-clause-agrees
returns-clause-agrees c =
    let counts : is_count c.in_ok-count.count ≡ true = search rules in
    head_tested _ c.in_ok-tag.tag c.u8.new.self c.in_ok-count.count c.u32.new.self c.in-Ok.first c.take_stamp.new.from c.in-Ok-take_stamp.last c.take_stamp-2.new.from c.in-Some.layout true c.in_ok-tag.ensures.ok c.in_ok-count.ensures.ok (search rules)
    c.in-Ok.ensures.agrees c.in-Ok-take_stamp.ensures.agrees (sym c.from_tag.ensures ∙ c.in-Some.is) counts

pub returns-clause-ok : goal.returns-clause-ok
returns-clause-ok c =
    head_taken c.args.from.now c.in_ok-tag.tag c.u8.new.self c.in_ok-count.count c.u32.new.self c.in-Ok.first c.take_stamp.new.from c.in-Ok-take_stamp.last c.take_stamp-2.new.from c.in-Some.layout c.in_ok-tag.ensures.ok c.in_ok-count.ensures.ok
    c.in-Ok.ensures.ok c.in-Ok-take_stamp.ensures.ok (sym c.from_tag.ensures ∙ c.in-Some.is)

pub returns-clause-legal : goal.returns-clause-legal
returns-clause-legal c =
    let counts : is_count c.in_ok-count.count ≡ true = search rules in
    let parts = count_parts c.in_ok-count.count counts in
    record { some = parts.0; few = parts.1 }
