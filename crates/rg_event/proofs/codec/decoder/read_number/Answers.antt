use Rattle.std.proofs.Common.{rules, inl}
use Rattle.rg_event.proofs.Decoding.{number_up_to_read, number_up_to_bad, number_up_to_short, agrees_short}
use Rattle.rg_event.proofs.codec.decoder.read_number.Goals as goal

pub returns-in_err-number-clause-agrees : goal.returns-in_err-number-clause-agrees
returns-in_err-number-clause-agrees c = agrees_short _ c.from_residual.result _ c.from_residual.ensures.1 (number_up_to_short _ _ (search rules))

pub returns-then-number-most-clause-agrees : goal.returns-then-number-most-clause-agrees
returns-then-number-most-clause-agrees c = number_up_to_read _ _ c.in_ok-number.number c.u64.new.self (search rules) c.in_ok-number.ensures.ok (search rules)

pub returns-else-number-most-clause-agrees : goal.returns-else-number-most-clause-agrees
returns-else-number-most-clause-agrees c = inl (number_up_to_bad _ _ c.in_ok-number.number c.u64.new.self (search rules) c.in_ok-number.ensures.ok (search rules))
