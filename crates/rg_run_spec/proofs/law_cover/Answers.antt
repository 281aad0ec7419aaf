use Rattle.rg_run_spec.proofs.Leaving.{near_covers}
use Rattle.rg_run_spec.proofs.law_cover.Goals as goal

pub returns-clause-near : goal.returns-clause-near
returns-clause-near c = near_covers
