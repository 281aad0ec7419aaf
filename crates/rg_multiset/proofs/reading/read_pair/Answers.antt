use Rattle.rg_agg.specs.declared.fault.StateFault.TheVariants.{Memory}
use Rattle.rg_bytes.proofs.Laws.{agrees_stopped}
use Rattle.rg_multiset.proofs.ReadPairs.{pair_value_stops, pair_count_stops, pair_read}
use Rattle.rg_multiset.proofs.reading.read_pair.Goals as goal

pub returns-in_err-key-clause-agrees : goal.returns-in_err-key-clause-agrees
returns-in_err-key-clause-agrees g c = agrees_stopped Memory _ _ c.from_residual.result _ _ c.from_residual.ensures.1 (pair_value_stops _ _ _ _ _ _ c.in_err-key.ensures.agrees)

pub returns-in_err-count-clause-agrees : goal.returns-in_err-count-clause-agrees
returns-in_err-count-clause-agrees g c = agrees_stopped Memory _ _ c.from_residual-in_err-count.result _ _ c.from_residual-in_err-count.ensures.1 (pair_count_stops _ _ _ _ _ _ _ _ c.in_ok-key.ensures.agrees c.in_err-count.ensures.agrees)

pub returns-clause-agrees : goal.returns-clause-agrees
returns-clause-agrees g c = pair_read _ _ _ _ _ _ _ _ _ c.in_ok-key.ensures.agrees c.in_ok-count.ensures.agrees
