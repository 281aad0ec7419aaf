use Rattle.std.proofs.Common.{inl, rules}
use Rattle.rg_agg.specs.declared.fault.StateFault.TheVariants.{Memory}
use Rattle.rg_bytes.proofs.Laws.{agrees_stopped}
use Rattle.rg_agg.proofs.Queues.{next_read, next_bad, next_stops}
use Rattle.rg_agg.proofs.first.read_next.Goals as goal

pub returns-in_err-number-clause-agrees : goal.returns-in_err-number-clause-agrees
returns-in_err-number-clause-agrees c = agrees_stopped Memory _ _ c.from_residual.result _ _ c.from_residual.ensures.1 (next_stops _ _ _ c.in_err-number.ensures.agrees)

pub returns-then-suits_first-clause-agrees : goal.returns-then-suits_first-clause-agrees
returns-then-suits_first-clause-agrees c = next_read _ _ _ _ c.in_ok-number.ensures.agrees (search rules)

pub returns-else-suits_first-clause-agrees : goal.returns-else-suits_first-clause-agrees
returns-else-suits_first-clause-agrees c = inl (next_bad _ _ _ _ c.in_ok-number.ensures.agrees (search rules))
