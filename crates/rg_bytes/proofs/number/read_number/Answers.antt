use Rattle.std.proofs.Common.{◌≡◌, ◌+◌, ◌*◌, ◌-◌, true, arith, sym, ◌∙◌, ap, Some}
use Rattle.std.specs.Str.{all_ascii_digits}
use Rattle.rg_bytes.specs.Numbers.{value_of}
use Rattle.rg_bytes.proofs.Digits.{number_of_long, number_of_no_last, number_of_no_front, number_of_great, number_of_read}
use Rattle.rg_bytes.proofs.number.read_number.Goals as goal
use Rattle.rg_bytes.proofs.number.read_number.Goals.{then-front-gt-MAX_SAFE_DIGITS-via-then-front-gt-MAX_SAFE_DIGITS, then-front-gt-MAX_SAFE_DIGITS-via-else-front-gt-MAX_SAFE_DIGITS+then-not-is_ascii_digit}

pub returns-then-front-gt-MAX_SAFE_DIGITS : goal.returns-then-front-gt-MAX_SAFE_DIGITS
returns-then-front-gt-MAX_SAFE_DIGITS c =
    rw c.in_ok-last.ensures.cases.0 (elim c.then-front-gt-MAX_SAFE_DIGITS.branch [
      | then-front-gt-MAX_SAFE_DIGITS-via-then-front-gt-MAX_SAFE_DIGITS w ↦ sym (number_of_long _ _ _ w.if-front-gt-MAX_SAFE_DIGITS.true)
      | then-front-gt-MAX_SAFE_DIGITS-via-else-front-gt-MAX_SAFE_DIGITS+then-not-is_ascii_digit w ↦ sym (number_of_no_last c.args.most c.in_ok-last.front.now c.in_ok-last.last.now (grind arith))
    ])

pub returns-in_err-read_digits : goal.returns-in_err-read_digits
returns-in_err-read_digits c =
    rw (c.from_residual-in_err-read_digits.ensures, c.in_ok-last.ensures.cases.0)
    (sym (number_of_no_front c.args.most c.in_ok-last.front.now c.in_ok-last.last.now (grind arith)))

pub returns-in_err-checked_mul : goal.returns-in_err-checked_mul
returns-in_err-checked_mul c =
    rw (c.from_residual-in_err-checked_mul.ensures, c.in_ok-last.ensures.cases.0)
    (sym (number_of_great c.args.most c.in_ok-last.front.now c.in_ok-last.last.now (grind arith)))

pub returns-in_err-value : goal.returns-in_err-value
returns-in_err-value c =
    rw (c.from_residual-in_err-value.ensures, c.in_ok-last.ensures.cases.0)
    (sym (number_of_great c.args.most c.in_ok-last.front.now c.in_ok-last.last.now (grind arith)))

pub returns-then-value-most : goal.returns-then-value-most
returns-then-value-most c =
    let digits : all_ascii_digits c.in_ok-last.front.now ≡ true = grind arith in
    let value : c.in_ok-value.value ≡ value_of c.in_ok-last.front.now * 10 + (c.in_ok-last.last.now - 48) = grind arith in
    rw c.in_ok-last.ensures.cases.0
    (ap (λ n. Some n) value ∙ sym (number_of_read c.args.most c.in_ok-last.front.now c.in_ok-last.last.now c.if-front-gt-MAX_SAFE_DIGITS.false digits (grind arith) (omega arith)))

pub returns-else-value-most : goal.returns-else-value-most
returns-else-value-most c =
    rw c.in_ok-last.ensures.cases.0
    (sym (number_of_great c.args.most c.in_ok-last.front.now c.in_ok-last.last.now (grind arith)))
