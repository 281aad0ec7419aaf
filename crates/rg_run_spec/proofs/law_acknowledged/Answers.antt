use Rattle.rg_run_spec.proofs.Acknowledging.{holds_below, acknowledged}
use Rattle.rg_run_spec.proofs.Rising.{last_holds}
use Rattle.rg_run_spec.proofs.law_acknowledged.Goals as goal

pub returns-clause-held : goal.returns-clause-held
returns-clause-held c = holds_below

pub returns-clause-last : goal.returns-clause-last
returns-clause-last c = acknowledged

pub returns-clause-all : goal.returns-clause-all
returns-clause-all c = last_holds
