use Rattle.rg_engine.proofs.Legal.{are_fed}
use Rattle.rg_engine.proofs.law.law_serves.Goals as goal

pub returns-clause-fed : goal.returns-clause-fed
returns-clause-fed c = are_fed
