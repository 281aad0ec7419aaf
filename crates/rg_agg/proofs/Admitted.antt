-- The values that a function is given, by what its states take.
use Rattle.std.proofs.Common.{◌≡◌, true, arith}
use Rattle.std.proofs.lemmas.Bool.{le-leb, lt-ltb}
use Rattle.rg_event.specs.Tagged.{IsLegal, value_kind}
use Rattle.rg_event.specs.declared.value.Value.{Value}
use Rattle.rg_event.specs.declared.value.Value.TheVariants.{Int, Id, Text, Flag}
use Rattle.rg_metric.specs.Admitted.{is_int, is_numeric}
use Rattle.rg_agg.specs.Stands.{IsInt, IsNumber}

-- of a function that takes ints
pub int_admitted : (value : Value) → (is_int (value_kind value) ≡ true) × IsLegal value → IsInt value
int_admitted (Int number) is = is.1
int_admitted (Id number) is = absurd (cc)
int_admitted (Text text) is = absurd (cc)
int_admitted (Flag flag) is = absurd (cc)

-- of one that takes ints and ids
pub number_admitted : (value : Value) → (is_numeric (value_kind value) ≡ true) × IsLegal value → IsNumber value
number_admitted (Int number) is = le-leb _ 1000000000000 is.1
number_admitted (Id number) is = lt-ltb number 18446744073709551616 (omega (arith, is.1))
number_admitted (Text text) is = absurd (cc)
number_admitted (Flag flag) is = absurd (cc)
