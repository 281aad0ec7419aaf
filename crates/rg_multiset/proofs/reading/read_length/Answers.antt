use Rattle.std.proofs.Common.{inl, rules}
use Rattle.rg_agg.specs.declared.fault.StateFault.TheVariants.{Short, Memory}
use Rattle.rg_bytes.proofs.Laws.{agrees_stopped}
use Rattle.rg_multiset.proofs.ReadPairs.{length_short, length_bad, length_read}
use Rattle.rg_multiset.proofs.reading.read_length.Goals as goal

pub returns-in_err-count-clause-agrees : goal.returns-in_err-count-clause-agrees
returns-in_err-count-clause-agrees c = agrees_stopped Memory _ _ c.from_residual.result _ Short c.from_residual.ensures.1 (inl (length_short _ (search rules)))

pub returns-then-count-eq0-clause-agrees : goal.returns-then-count-eq0-clause-agrees
returns-then-count-eq0-clause-agrees c = inl (length_bad _ c.in_ok-count.count _ c.in_ok-count.ensures.ok (search rules) (search rules))

pub returns-clause-agrees : goal.returns-clause-agrees
returns-clause-agrees c = length_read _ c.in_ok-count.count _ c.in_ok-count.ensures.ok (search rules) (search rules)
