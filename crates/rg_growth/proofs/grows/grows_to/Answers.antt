use Rattle.std.proofs.Common.{arith}
use Rattle.std.proofs.lemmas.Grind.{common_steps}
use Rattle.rg_growth.proofs.Grown.{grows_exact}
use Rattle.rg_growth.proofs.grows.grows_to.Goals as goal

pub returns-then-own-all-clause-test : goal.returns-then-own-all-clause-test
returns-then-own-all-clause-test c = grind (arith, common_steps)

pub returns-then-own-all-clause-exact : goal.returns-then-own-all-clause-exact
returns-then-own-all-clause-exact c = grows_exact c.args.from.now c.args.to.now c.begin.result c.fields-all.ensures.legal (returns-then-own-all-clause-test c)

pub returns-else-own-all-clause-test : goal.returns-else-own-all-clause-test
returns-else-own-all-clause-test c = grind (arith, common_steps)

pub returns-else-own-all-clause-exact : goal.returns-else-own-all-clause-exact
returns-else-own-all-clause-exact c = grows_exact c.args.from.now c.args.to.now c.if-eq-2.value c.fields-all.ensures.legal (returns-else-own-all-clause-test c)
