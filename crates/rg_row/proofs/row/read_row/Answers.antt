use Rattle.std.proofs.Common.{Ok, sym}
use Rattle.rg_row.proofs.Fits.{answered_is, answered_at}
use Rattle.rg_row.proofs.Grammar.{of_row}
use Rattle.rg_row.proofs.OnePass.{plain_is}
use Rattle.rg_row.proofs.Recorded.{recorded}
use Rattle.rg_row.proofs.row.read_row.Goals as goal

pub returns-in-None-clause-agrees : goal.returns-in-None-clause-agrees
returns-in-None-clause-agrees c = rw (sym c.fields-in-None.ensures.columns) c.read_any.ensures

pub returns-in-None-clause-grammar : goal.returns-in-None-clause-grammar
returns-in-None-clause-grammar c = of_row c.args.line.now

pub returns-in-None-clause-record_of : goal.returns-in-None-clause-record_of
returns-in-None-clause-record_of c = recorded c.args.line.now c.requires.one_line

pub returns-in-None-clause-legal : goal.returns-in-None-clause-legal
returns-in-None-clause-legal c = answered_is c.args.schema.now.fields c.args.offset c.args.line.now c.read_any.result (returns-in-None-clause-agrees c)

pub returns-in-None-clause-placed : goal.returns-in-None-clause-placed
returns-in-None-clause-placed c = answered_at c.args.schema.now.fields c.args.offset c.args.line.now c.read_any.result (returns-in-None-clause-agrees c)

pub returns-in-Some-clause-agrees : goal.returns-in-Some-clause-agrees
returns-in-Some-clause-agrees c = rw (sym c.fields.ensures.columns) (plain_is c.fields.result.now c.args.offset c.args.line.now _ c.in-Some.ensures)

pub returns-in-Some-clause-grammar : goal.returns-in-Some-clause-grammar
returns-in-Some-clause-grammar c = of_row c.args.line.now

pub returns-in-Some-clause-record_of : goal.returns-in-Some-clause-record_of
returns-in-Some-clause-record_of c = recorded c.args.line.now c.requires.one_line

pub returns-in-Some-clause-legal : goal.returns-in-Some-clause-legal
returns-in-Some-clause-legal c = answered_is c.args.schema.now.fields c.args.offset c.args.line.now (Ok c.in-Some.event) (returns-in-Some-clause-agrees c)

pub returns-in-Some-clause-placed : goal.returns-in-Some-clause-placed
returns-in-Some-clause-placed c = answered_at c.args.schema.now.fields c.args.offset c.args.line.now (Ok c.in-Some.event) (returns-in-Some-clause-agrees c)
