use Rattle.std.proofs.Common.{◌≡◌, inl, refl, rules}
use Rattle.rg_agg.specs.Numbers.{value_of}
use Rattle.rg_agg.specs.declared.fault.StateFault.TheVariants.{Memory}
use Rattle.rg_agg.proofs.Fields.{number_value_read, number_value_bad, number_value_stops, is_value_of, no_number}
use Rattle.rg_bytes.proofs.Laws.{agrees_stopped}
use Rattle.rg_agg.proofs.reading.read_number.Goals as goal

pub returns-in_err-value-clause-agrees : goal.returns-in_err-value-clause-agrees
returns-in_err-value-clause-agrees c = agrees_stopped Memory _ _ c.from_residual.result _ _ c.from_residual.ensures.1 (number_value_stops _ _ c.in_err-value.ensures.agrees)

pub returns-in-Some-clause-agrees : goal.returns-in-Some-clause-agrees
returns-in-Some-clause-agrees c =
    let same : value_of c.in-Some.number ≡ c.in_ok-value.value = search rules in
    number_value_read _ _ _ (rw same c.in_ok-value.ensures.agrees) (is_value_of c.in-Some.number)

pub returns-clause-agrees : goal.returns-clause-agrees
returns-clause-agrees c = inl (number_value_bad _ c.in_ok-value.value _ c.in_ok-value.ensures.agrees (no_number c.in_ok-value.value c.in_ok-value.ensures.legal (c.in-None.ensures.none refl)))
