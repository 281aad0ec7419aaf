use Rattle.std.proofs.Common.{arith}
use Rattle.rg_agg.proofs.Firsts.{count_first}
use Rattle.rg_agg.proofs.count.CountAggregate.remove.Goals as goal

pub returns-clause-begins : goal.returns-clause-begins
returns-clause-begins c = count_first c.args.self.now.count c.args._value.now (omega (arith, c.if-self-eq0.false))
