use Rattle.std.proofs.Common.{rules}
use Rattle.rg_scratch.proofs.Counted.{none_new, some_new}
use Rattle.rg_scratch.proofs.folding.is_new.Goals as goal

pub returns-in-None : goal.returns-in-None
returns-in-None c = none_new c.args.asking.now c.args.answered.now c.args.before.now c.args.event.now (search (rules, c.value_counted.ensures))

pub returns-in-Some : goal.returns-in-Some
returns-in-Some c = some_new c.args.asking.now c.args.answered.now c.args.before.now c.args.event.now c.in-Some.value.now c.stands_among.result (search (rules, c.value_counted.ensures)) c.stands_among.ensures
