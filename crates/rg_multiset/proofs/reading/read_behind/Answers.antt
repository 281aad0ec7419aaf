use Rattle.std.proofs.Common.{inl, rules}
use Rattle.rg_agg.specs.declared.fault.StateFault.TheVariants.{Memory}
use Rattle.rg_bytes.proofs.Laws.{agrees_stopped}
use Rattle.rg_multiset.proofs.ReadPairs.{behind_stops, behind_read, behind_bad}
use Rattle.rg_multiset.proofs.reading.read_behind.Goals as goal

pub returns-in_err-key-clause-agrees : goal.returns-in_err-key-clause-agrees
returns-in_err-key-clause-agrees g c = agrees_stopped Memory _ _ c.from_residual.result _ _ c.from_residual.ensures.1 (behind_stops _ _ _ _ _ c.in_err-key.ensures.agrees)

pub returns-then-is_behind-clause-agrees : goal.returns-then-is_behind-clause-agrees
returns-then-is_behind-clause-agrees g c = behind_read _ _ _ _ _ _ c.in_ok-key.ensures.agrees (search rules)

pub returns-else-is_behind-clause-agrees : goal.returns-else-is_behind-clause-agrees
returns-else-is_behind-clause-agrees g c = inl (behind_bad _ _ _ _ _ _ c.in_ok-key.ensures.agrees (search rules))
