use Rattle.std.proofs.Common.{◌≡◌, take, true}
use Rattle.std.specs.Str.{all_ascii_digits}
use Rattle.rg_bytes.specs.Numbers.{value_of}
use Rattle.rg_bytes.proofs.number.read_digits.Given as goal

abbrev pub invariant-loop-digit : goal.invariant-loop-digit
invariant-loop-digit l = record {
  all_digits : all_ascii_digits (take l.digit-index l.digits) ≡ true;
  read : l.value ≡ value_of (take l.digit-index l.digits);
}
