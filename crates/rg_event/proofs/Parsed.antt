-- A text that is read as a value of a kind gives one of that kind.
use Rattle.std.proofs.Common.{◌≡◌, ℕ, ◌≤◌, ◌&&◌, List, Option, Some, None, Bool, true, false, ℤ, option_map, nat_le, refl, subst, arith}
use Rattle.std.specs.Prelude.{if◌then◌else◌, unsigned_abs}
use Rattle.rg_bytes.specs.Numbers.{whole_of, signed_of, number_of, value_of as number_value, is_number}
use Rattle.rg_event.specs.Codec.{IsValueOf}
use Rattle.rg_event.specs.Parsing.{in_range, flag_of, value_of}
use Rattle.rg_event.specs.Words.{is_word}
use Rattle.rg_event.specs.declared.value.Kind.{Kind}
use Rattle.rg_event.specs.declared.value.Kind.TheVariants as kind
use Rattle.rg_event.specs.declared.value.Kind.TheVariants.{Int, Id, Text, Flag}
use Rattle.rg_event.specs.declared.value.Value.{Value}
use Rattle.rg_event.specs.declared.value.Value.TheVariants.{Int as IntValue, Id as IdValue, Text as TextValue, Flag as FlagValue}

pub in_bounds : (o : Option ℤ) (v : Value) → option_map IntValue (in_range o) ≡ Some v → IsValueOf kind.Int v
in_bounds None v h = absurd (cc)
in_bounds (Some n) v h = by_test (nat_le (unsigned_abs n) 1000000000000) refl h
  where
    by_test : (b : Bool) → nat_le (unsigned_abs n) 1000000000000 ≡ b → option_map IntValue (if b then Some n else None) ≡ Some v → IsValueOf kind.Int v
    by_test false e g = absurd (cc)
    by_test true e g = let i : IntValue n ≡ v = cc in subst (IsValueOf kind.Int) i (grind (arith, e))

pub number_below : (most : ℕ) (text : List ℕ) (n : ℕ) → number_of most text ≡ Some n → n ≤ most
number_below most text n h = by_test (is_number text) (nat_le (number_value text) most) refl h
  where
    by_test : (a b : Bool) → nat_le (number_value text) most ≡ b → (if a && b then Some (number_value text) else None) ≡ Some n → n ≤ most
    by_test true true e g = let i : number_value text ≡ n = cc in grind (arith, e, i)
    by_test true false e g = absurd (cc)
    by_test false b e g = absurd (cc)

pub text_fits : (text : List ℕ) (b : Bool) (v : Value) → is_word text ≡ b → (if b then Some (TextValue text) else None) ≡ Some v → IsValueOf kind.Text v
text_fits text true v e h = let i : TextValue text ≡ v = cc in subst (IsValueOf kind.Text) i e
text_fits text false v e h = absurd (cc)

-- a text that says a value of a column says one of its kind

flag_fits : (o : Option Bool) (v : Value) → option_map FlagValue o ≡ Some v → IsValueOf Flag v
flag_fits None v e = absurd (cc)
flag_fits (Some flag) v e = let is : FlagValue flag ≡ v = cc in subst (IsValueOf Flag) is tt

id_fits : (text : List ℕ) (o : Option ℕ) (v : Value) → whole_of text ≡ o → option_map IdValue o ≡ Some v → IsValueOf Id v
id_fits text None v e f = absurd (cc)
id_fits text (Some n) v e f = let is : IdValue n ≡ v = cc in subst (IsValueOf Id) is (omega (arith, number_below 18446744073709551615 text n e))

pub value_fits : (kind : Kind) (text : List ℕ) (v : Value) → value_of kind text ≡ Some v → IsValueOf kind v
value_fits Int text v e = in_bounds (signed_of text) v e
value_fits Id text v e = id_fits text (whole_of text) v refl e
value_fits Text text v e = text_fits text (is_word text) v refl e
value_fits Flag text v e = flag_fits (flag_of text) v e
