use Rattle.rg_growth.proofs.Whole.{growth_back}
use Rattle.rg_growth.proofs.growth.Growth.encode.Goals as goal

pub returns-in-Ok-clause-reads_back : goal.returns-in-Ok-clause-reads_back
returns-in-Ok-clause-reads_back c = growth_back

pub returns-in-Err-clause-reads_back : goal.returns-in-Err-clause-reads_back
returns-in-Err-clause-reads_back c = growth_back
