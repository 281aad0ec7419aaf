use Rattle.std.proofs.Common.{rules, inl, ◌∷◌, sym, subst}
use Rattle.rg_agg.specs.Held.{Agrees}
use Rattle.rg_agg.specs.declared.fault.StateFault.TheVariants.{Short, Memory}
use Rattle.rg_bytes.proofs.Laws.{agrees_stopped}
use Rattle.rg_multiset.proofs.ReadPairs.{tag_short, tag_other, tag_read}
use Rattle.rg_multiset.proofs.reading.read_length_behind.Goals as goal

pub returns-in_err-u8-clause-agrees : goal.returns-in_err-u8-clause-agrees
returns-in_err-u8-clause-agrees c = agrees_stopped Memory _ _ c.from_residual.result _ Short c.from_residual.ensures.1 (inl (tag_short _ _ (search rules)))

pub returns-then-branch-tag-clause-agrees : goal.returns-then-branch-tag-clause-agrees
returns-then-branch-tag-clause-agrees c = inl (tag_other _ _ c.in_ok-u8.field-0 _ c.in_ok-u8.ensures.ok (search rules))

pub returns-clause-agrees : goal.returns-clause-agrees
returns-clause-agrees c =
    subst (λ reading. Agrees (λ count. count) reading c.read_length.result c.read_length.new.from) (sym (tag_read _ _ c.in_ok-u8.field-0 _ c.in_ok-u8.ensures.ok (search rules))) c.read_length.ensures.agrees
