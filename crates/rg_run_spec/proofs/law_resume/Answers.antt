use Rattle.rg_run_spec.proofs.Whole.{leaves_again}
use Rattle.rg_run_spec.proofs.law_resume.Goals as goal

pub returns-clause-leaves_twice : goal.returns-clause-leaves_twice
returns-clause-leaves_twice c = leaves_again
