use Rattle.rg_selftest.proofs.Numbers.{some_is, not_none}
use Rattle.rg_selftest.proofs.trials.count.Goals as goal

pub returns-in-None-clause-found : goal.returns-in-None-clause-found
returns-in-None-clause-found c = λ asks input is few none. not_none asks input c.args.text.now c.last_number.result c.last_number.ensures c.in-None.is is few

pub returns-in-Some-clause-events : goal.returns-in-Some-clause-events
returns-in-Some-clause-events c = λ asks input is few. some_is asks input c.args.text.now c.last_number.result c.in-Some.events c.last_number.ensures c.in-Some.is is few
