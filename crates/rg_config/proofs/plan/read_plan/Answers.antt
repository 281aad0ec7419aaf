use Rattle.rg_config.proofs.Total.{says_something}
use Rattle.rg_config.proofs.plan.read_plan.Goals as goal

pub returns-clause-says : goal.returns-clause-says
returns-clause-says c = says_something
