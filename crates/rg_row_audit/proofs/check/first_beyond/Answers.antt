use Rattle.std.proofs.Common.{arith}
use Rattle.rg_state.specs.States.{held_of}
use Rattle.rg_row_audit.proofs.Beyond.{goes_on, is_there, is_least}
use Rattle.rg_row_audit.proofs.check.first_beyond.Goals as goal

pub returns-then-row-count-clause-some : goal.returns-then-row-count-clause-some
returns-then-row-count-clause-some c =
    let row = c.row-item.result in (
      omega (arith, c.if-row-count.true),
      (row.key, held_of row.state, is_there c.args.rows.now c.args.count c.rows.row-index row c.rows-test.true c.row-item.is c.rows.invariant c.requires),
    )

pub returns-then-row-count-clause-least : goal.returns-then-row-count-clause-least
returns-then-row-count-clause-least c = λ m key past less.
    is_least c.args.rows.now c.args.count c.rows.row-index c.row-item.result c.rows-test.true c.row-item.is c.rows.invariant c.requires m key past less

pub rows-preserved : goal.rows-preserved
rows-preserved c =
    goes_on c.args.rows.now c.args.count c.rows.row-index c.row-item.result c.rows-test.true c.row-item.is c.rows.invariant (omega (arith, c.if-row-count.false))
