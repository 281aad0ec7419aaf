use Rattle.rg_restarts.proofs.Stops.{startable_anew}
use Rattle.rg_restarts.proofs.laws.law_new_store.Goals as goal

pub returns : goal.returns
returns c = record { startable = startable_anew }
