use Rattle.std.proofs.Common.{rules, inl, ◌∙◌}
use Rattle.rg_agg.specs.declared.fault.StateFault.TheVariants.{Short, Memory}
use Rattle.rg_agg.proofs.Fields.{size_tag_short, size_tag_other, size_tag_read, size_short, size_bad, size_read}
use Rattle.rg_bytes.proofs.Laws.{agrees_stopped}
use Rattle.rg_agg.proofs.reading.read_size.Goals as goal

pub returns-in_err-u8-clause-agrees : goal.returns-in_err-u8-clause-agrees
returns-in_err-u8-clause-agrees c = agrees_stopped Memory _ _ c.from_residual.result _ Short c.from_residual.ensures.1 (inl (size_tag_short _ _ (search rules)))

pub returns-then-branch-tag-clause-agrees : goal.returns-then-branch-tag-clause-agrees
returns-then-branch-tag-clause-agrees c = inl (size_tag_other _ _ c.in_ok-u8.field-0 _ c.in_ok-u8.ensures.ok (search rules))

pub returns-in_err-size-clause-agrees : goal.returns-in_err-size-clause-agrees
returns-in_err-size-clause-agrees c =
    agrees_stopped Memory _ _ c.from_residual-in_err-size.result _ Short c.from_residual-in_err-size.ensures.1
    (inl (size_tag_read _ _ c.in_ok-u8.field-0 _ c.in_ok-u8.ensures.ok (search rules) ∙ size_short _ (search rules)))

pub returns-then-size-eq0-clause-agrees : goal.returns-then-size-eq0-clause-agrees
returns-then-size-eq0-clause-agrees c =
    inl (size_tag_read _ _ c.in_ok-u8.field-0 _ c.in_ok-u8.ensures.ok (search rules) ∙ size_bad _ c.in_ok-size.size _ c.in_ok-size.ensures.ok (search rules) (search rules))

pub returns-clause-agrees : goal.returns-clause-agrees
returns-clause-agrees c =
    size_tag_read _ _ c.in_ok-u8.field-0 _ c.in_ok-u8.ensures.ok (search rules) ∙ size_read _ c.in_ok-size.size _ c.in_ok-size.ensures.ok (search rules) (search rules)
