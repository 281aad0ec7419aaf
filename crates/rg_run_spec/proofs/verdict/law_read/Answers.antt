use Rattle.rg_run_spec.proofs.LawNames.{read_event}
use Rattle.rg_run_spec.proofs.verdict.law_read.Goals as goal

pub returns : goal.returns
returns c = read_event
