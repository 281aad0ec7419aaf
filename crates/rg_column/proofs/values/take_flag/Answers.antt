use Rattle.std.proofs.Common.{rules, inl, ap, sym, ◌∙◌, ◌+◌, Err}
use Rattle.rg_bytes.proofs.Laws.{agrees_stopped}
use Rattle.rg_column.specs.declared.fault.ColumnFault.TheVariants.{Short, BadColumn, Memory}
use Rattle.rg_column.proofs.Typed.{flag_false, flag_true, flag_bad, flag_short}
use Rattle.rg_column.proofs.values.take_flag.Goals as goal

pub returns-in_err-u8-clause-agrees : goal.returns-in_err-u8-clause-agrees
returns-in_err-u8-clause-agrees c = agrees_stopped Memory (λ value. value) _ c.from_residual.result _ Short c.from_residual.ensures.1 (inl (flag_short _ _ (search rules)))

pub returns-in-0-clause-agrees : goal.returns-in-0-clause-agrees
returns-in-0-clause-agrees c = flag_false _ _ c.in_ok-u8.field-0 _ c.in_ok-u8.ensures.ok c.in-0.is

pub returns-in-1-clause-agrees : goal.returns-in-1-clause-agrees
returns-in-1-clause-agrees c = flag_true _ _ c.in_ok-u8.field-0 _ c.in_ok-u8.ensures.ok c.in-1.is

pub returns-in_default-clause-agrees : goal.returns-in_default-clause-agrees
returns-in_default-clause-agrees c =
    inl (flag_bad _ _ c.in_ok-u8.field-0 _ c.in_ok-u8.ensures.ok (search rules) (search rules) ∙ ap (λ n. Err (BadColumn (n + 1))) (sym c.from.ensures))
