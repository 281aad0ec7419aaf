use Rattle.std.proofs.Common.{arith, Ok, Err}
use Rattle.std.proofs.lemmas.Grind.{common_steps}
use Rattle.rg_column.proofs.Transposed.{columns_back, agrees_with}
use Rattle.rg_column.proofs.columns.decode_columns.Goals as goal

pub returns-in-Ok-clause-agrees : goal.returns-in-Ok-clause-agrees
returns-in-Ok-clause-agrees c = grind (arith, common_steps)

pub returns-in-Ok-clause-reads_back : goal.returns-in-Ok-clause-reads_back
returns-in-Ok-clause-reads_back c events rest are stood =
    agrees_with _ (Ok c.from.result) c.take_columns.new.from events rest (returns-in-Ok-clause-agrees c) (columns_back c.args.schema.now.fields c.args.count events c.args.from.now rest are stood)

pub returns-in-Err-clause-agrees : goal.returns-in-Err-clause-agrees
returns-in-Err-clause-agrees c = grind (arith, common_steps)

pub returns-in-Err-clause-reads_back : goal.returns-in-Err-clause-reads_back
returns-in-Err-clause-reads_back c events rest are stood =
    agrees_with _ (Err c.in-Err.fault) c.new.result events rest (returns-in-Err-clause-agrees c) (columns_back c.args.schema.now.fields c.args.count events c.args.from.now rest are stood)
