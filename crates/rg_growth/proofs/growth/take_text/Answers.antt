use Rattle.std.proofs.Common.{inl, rules}
use Rattle.rg_growth.proofs.Read.{agrees_short, text_none, text_other, text_no_count, text_no_text, text_read, text_taken}
use Rattle.rg_growth.proofs.growth.take_text.Goals as goal

pub returns-in_err-tag-clause-agrees : goal.returns-in_err-tag-clause-agrees
returns-in_err-tag-clause-agrees c = agrees_short _ _ c.from_residual.result _ c.from_residual.ensures.1 (text_none _ (search rules))

pub returns-then-tag-ne-GROWTH_TAG-clause-agrees : goal.returns-then-tag-ne-GROWTH_TAG-clause-agrees
returns-then-tag-ne-GROWTH_TAG-clause-agrees c = inl (text_other _ c.in_ok-tag.tag c.u8.new.self c.in_ok-tag.ensures.ok (search rules))

pub returns-in_err-count-clause-agrees : goal.returns-in_err-count-clause-agrees
returns-in_err-count-clause-agrees c = agrees_short _ _ c.from_residual-in_err-count.result _ c.from_residual-in_err-count.ensures.1 (text_no_count _ c.in_ok-tag.tag c.u8.new.self c.in_ok-tag.ensures.ok (search rules) (search rules))

pub returns-in_err-text-clause-agrees : goal.returns-in_err-text-clause-agrees
returns-in_err-text-clause-agrees c =
    agrees_short _ _ c.from_residual-in_err-text.result _ c.from_residual-in_err-text.ensures.1
    (text_no_text _ c.in_ok-tag.tag c.u8.new.self c.in_ok-count.count c.u32.new.self c.in_ok-tag.ensures.ok (search rules) c.in_ok-count.ensures.ok (search rules) (search rules))

pub returns-clause-agrees : goal.returns-clause-agrees
returns-clause-agrees c =
    text_read _ c.in_ok-tag.tag c.u8.new.self c.in_ok-count.count c.u32.new.self c.in_ok-text.text.now c.bytes.new.self
    c.in_ok-tag.ensures.ok (search rules) c.in_ok-count.ensures.ok (search rules) c.in_ok-text.ensures.ok (search rules)

pub returns-clause-ok : goal.returns-clause-ok
returns-clause-ok c =
    text_taken _ c.in_ok-tag.tag c.u8.new.self c.in_ok-count.count c.u32.new.self c.in_ok-text.text.now c.bytes.new.self
    c.in_ok-tag.ensures.ok (search rules) c.in_ok-count.ensures.ok c.in_ok-text.ensures.ok (search rules)
