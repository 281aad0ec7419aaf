use Rattle.rg_state.proofs.Fitting.{fits_kind}
use Rattle.rg_state.proofs.law.law_states.Goals as goal

pub returns-clause-fits : goal.returns-clause-fits
returns-clause-fits c = fits_kind
