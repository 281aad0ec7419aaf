use Rattle.std.proofs.Common.{sym}
use Rattle.rg_metric.proofs.ColumnValues.{value_in_none, column_found}
use Rattle.rg_metric.proofs.column.column_value.Goals as goal

pub returns-then-column-eq0 : goal.returns-then-column-eq0
returns-then-column-eq0 c = rw c.if-column-eq0.true (sym (value_in_none c.args.event.now.values))

pub returns : goal.returns
returns c = rw (← c.as_slice.ensures) (column_found c.get.result c.as_slice.result.now c.args.column c.if-column-eq0.false c.get.ensures.lookup)
