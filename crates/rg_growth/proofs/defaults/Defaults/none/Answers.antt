use Rattle.rg_growth.proofs.Filled.{none_are, none_end}
use Rattle.rg_growth.proofs.defaults.Defaults.none.Goals as goal

pub returns-clause-of : goal.returns-clause-of
returns-clause-of c = none_are c.args.fields.now c.loop-field.defaults (none_end c.args.fields.now c.loop-field._field-index c.loop-field.defaults c.loop-field-test.false c.loop-field.invariant)
