use Rattle.rg_run_spec.proofs.Texts.{run_are_lines}
use Rattle.rg_run_spec.proofs.law_text.Goals as goal

pub returns-clause-lines : goal.returns-clause-lines
returns-clause-lines c = run_are_lines
