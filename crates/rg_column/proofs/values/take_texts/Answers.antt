use Rattle.std.proofs.Common.{rules, inl}
use Rattle.rg_bytes.proofs.Laws.{agrees_stopped}
use Rattle.rg_column.specs.declared.fault.ColumnFault.TheVariants.{Short, Memory}
use Rattle.rg_column.proofs.Typed.{texts_short, texts_agree}
use Rattle.rg_column.proofs.values.take_texts.Goals as goal

pub returns-in_err-lengths-clause-agrees : goal.returns-in_err-lengths-clause-agrees
returns-in_err-lengths-clause-agrees c = agrees_stopped Memory (λ list. list.items) _ c.from_residual.result _ Short c.from_residual.ensures.1 (inl (texts_short _ _ _ (search rules)))

pub returns-clause-agrees : goal.returns-clause-agrees
returns-clause-agrees c =
    texts_agree c.args.index c.args.count c.args.from.now c.in_ok-lengths.lengths.now c.bytes.new.self c.take_each_text.new.from c.take_each_text.result (search rules) (search rules) c.take_each_text.ensures.agrees
