use Rattle.std.proofs.Common.{arith, ◌<◌, ◌^◌, take, length-take-le}
use Rattle.std.proofs.lemmas.Grind.{common_steps}
use Rattle.rg_bytes.specs.Numbers.{value_of}
use Rattle.rg_bytes.proofs.Digits.{value_of_more, all_ascii_digits_more, not_all_ascii_digits, value_of_small}
use Rattle.rg_bytes.proofs.number.read_digits.Goals as goal

pub returns-then-not-is_ascii_digit : goal.returns-then-not-is_ascii_digit
returns-then-not-is_ascii_digit c = grind (arith, common_steps, not_all_ascii_digits)

pub overflow_mul-value : goal.overflow_mul-value
overflow_mul-value c =
    let small : value_of (take c.loop-digit.digit-index c.args.digits.now) < 10 ^ 18 =
    value_of_small _ c.loop-digit.invariant.all_digits (omega (arith, length-take-le c.loop-digit.digit-index c.args.digits.now (omega arith))) in
    omega arith

pub overflow_add-value : goal.overflow_add-value
overflow_add-value c =
    let small : value_of (take c.loop-digit.digit-index c.args.digits.now) < 10 ^ 18 =
    value_of_small _ c.loop-digit.invariant.all_digits (omega (arith, length-take-le c.loop-digit.digit-index c.args.digits.now (omega arith))) in
    omega arith

pub loop-digit-preserved : goal.loop-digit-preserved
loop-digit-preserved c = record {
  all_digits = all_ascii_digits_more _ _ c.loop-digit-test.true c.loop-digit.invariant.all_digits (grind arith);
  read = grind (arith, value_of_more);
}
