use Rattle.std.proofs.Common.{rules, inl}
use Rattle.std.proofs.lemmas.Int.{to_z-of_z}
use Rattle.std.specs.Int.{w64}
use Rattle.std.specs.Int.RustNames.{FitsSigned}
use Rattle.rg_event.proofs.Decoding.{int_read, int_bad, int_short, agrees_short}
use Rattle.rg_event.proofs.codec.decoder.read_int.Goals as goal

pub returns-in_err-number-clause-agrees : goal.returns-in_err-number-clause-agrees
returns-in_err-number-clause-agrees c = agrees_short _ c.from_residual.result _ c.from_residual.ensures.1 (int_short _ _ (search rules))

pub returns-then-unsigned_abs-le-MAX_INT-clause-agrees : goal.returns-then-unsigned_abs-le-MAX_INT-clause-agrees
returns-then-unsigned_abs-le-MAX_INT-clause-agrees c =
    let fits : FitsSigned w64 c.in_ok-number.number = search rules in
    rw (to_z-of_z w64 c.in_ok-number.number fits) (int_read _ _ c.in_ok-number.number c.i64.new.self fits c.in_ok-number.ensures.ok (search rules))

pub returns-else-unsigned_abs-le-MAX_INT-clause-agrees : goal.returns-else-unsigned_abs-le-MAX_INT-clause-agrees
returns-else-unsigned_abs-le-MAX_INT-clause-agrees c = inl (int_bad _ _ c.in_ok-number.number c.i64.new.self (search rules) c.in_ok-number.ensures.ok (search rules))
