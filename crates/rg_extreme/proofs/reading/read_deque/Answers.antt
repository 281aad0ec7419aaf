use Rattle.rg_agg.specs.declared.fault.StateFault.TheVariants.{Memory}
use Rattle.rg_bytes.proofs.Laws.{agrees_stopped}
use Rattle.rg_extreme.proofs.ReadExtremes.{size_stops, length_stops, pairs_agree, if_ok_then}
use Rattle.rg_extreme.proofs.reading.read_deque.Goals as goal

pub returns-in_err-size-clause-agrees : goal.returns-in_err-size-clause-agrees
returns-in_err-size-clause-agrees c = agrees_stopped Memory _ _ c.from_residual.result _ _ c.from_residual.ensures.1 (size_stops _ _ _ _ c.in_err-size.ensures.agrees)

pub returns-in_err-count-clause-agrees : goal.returns-in_err-count-clause-agrees
returns-in_err-count-clause-agrees c = agrees_stopped Memory _ _ c.from_residual-in_err-count.result _ _ c.from_residual-in_err-count.ensures.1 (length_stops _ _ _ _ _ _ c.in_ok-size.ensures.agrees c.in_err-count.ensures.agrees)

pub returns-clause-agrees : goal.returns-clause-agrees
returns-clause-agrees c = pairs_agree _ _ _ _ _ _ _ _ c.read_filled.result c.in_ok-size.ensures.agrees c.in_ok-count.ensures.agrees (if_ok_then c.read_filled.result (λ deque made. made.size) c.read_filled.ensures.made) c.read_filled.ensures.agrees
