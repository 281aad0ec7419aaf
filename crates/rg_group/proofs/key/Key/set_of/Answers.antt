use Rattle.rg_group.proofs.KeyValues.{exact}
use Rattle.rg_group.proofs.key.Key.set_of.Goals as goal

pub returns-clause-exact : goal.returns-clause-exact
returns-clause-exact c = exact
