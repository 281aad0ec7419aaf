use Rattle.std.proofs.Common.{refl}
use Rattle.rg_restarts.proofs.twice.run_on.Goals as goal

pub returns-clause-first : goal.returns-clause-first
returns-clause-first c = (refl, refl)

pub returns-clause-runs : goal.returns-clause-runs
returns-clause-runs c = c.run_bytes-end.ensures.runs

pub returns-clause-ends : goal.returns-clause-ends
returns-clause-ends c = c.run_bytes-end.ensures.ends
