-- The order in which values beat each other.
use Rattle.std.proofs.Common.{◌≡◌, ℕ, ◌<◌, ◌≤◌, ℤ, pos, negsuc, Bool, true, false, sym, ◌∙◌, arith}
use Rattle.std.proofs.lemmas.Bool.{true≢false, leb-true, ltb-true}
use Rattle.std.proofs.lemmas.Bool.Decides.{Decides-int_eq}
use Rattle.std.proofs.lemmas.Grind.{common_steps}
use Rattle.std.specs.Prelude.{int_lt, unsigned_abs}
use Rattle.rg_agg.specs.Stands.{IsNumber}
use Rattle.rg_agg.specs.Unbeaten.{is_less, is_greater}
use Rattle.rg_event.specs.Tagged.{value_kind}
use Rattle.rg_event.specs.declared.value.Value.{Value}
use Rattle.rg_event.specs.declared.value.Value.TheVariants.{Int, Id, Text, Flag}
use Rattle.rg_metric.specs.Answers.{number_of}
use Rattle.rg_metric.specs.Same.{same_value}
use Rattle.rg_extreme.specs.Sides.{beats, weakest}
use Rattle.rg_extreme.specs.declared.side.Side.{Side}
use Rattle.rg_extreme.specs.declared.side.Side.TheVariants.{Least, Greatest}

never : (a : ℤ) → int_lt a a ≡ false
never a = grind (arith, common_steps)

apart : (a b c : ℤ) → int_lt a b ≡ false → int_lt b c ≡ false → int_lt a c ≡ false
apart a b c one two = grind (arith, common_steps)

through : (a b c : ℤ) → int_lt a b ≡ true → int_lt b c ≡ true → int_lt a c ≡ true
through a b c one two = grind (arith, common_steps)

rises : (a b : ℤ) → (a ≡ b → ⊥) → int_lt b a ≡ false → int_lt a b ≡ true
rises a b other not = grind (arith, common_steps)

most : (a : ℤ) → unsigned_abs a ≤ 1000000000000 → int_lt (pos 1000000000000) a ≡ false
most a small = grind (arith, common_steps)

least : (a : ℤ) → unsigned_abs a ≤ 1000000000000 → int_lt a (negsuc 999999999999) ≡ false
least a small = grind (arith, common_steps)

greatest_id : (n : ℕ) → n < 18446744073709551616 → int_lt (pos 18446744073709551615) (pos n) ≡ false
greatest_id n small = grind (arith, common_steps)

least_id : (n : ℕ) → int_lt (pos n) (pos 0) ≡ false
least_id n = grind (arith, common_steps)

-- a strict order of the values of a kind, each of which beats this one, or is it
pub record AreRanked (beats : Value → Value → Bool) (weakest : Value → Value) : Type 0 where
  pub never : (a : Value) → beats a a ≡ false
  pub apart : (a b c : Value) → beats a b ≡ false → beats b c ≡ false → beats a c ≡ false
  pub through : (a b c : Value) → beats a b ≡ true → beats b c ≡ true → beats a c ≡ true
  pub rises : (a b : Value) → IsNumber a → IsNumber b → value_kind a ≡ value_kind b → same_value a b ≡ false → beats b a ≡ false → beats a b ≡ true
  pub last : (a b : Value) → IsNumber b → value_kind a ≡ value_kind b → beats (weakest a) b ≡ false

-- numbers that are not the same value are not equal
other_ints : (a b : ℤ) → same_value (Int a) (Int b) ≡ false → a ≡ b → ⊥
other_ints a b other same = absurd (true≢false (sym ((Decides-int_eq a b).1 same) ∙ other))

other_ids : (a b : ℕ) → same_value (Id a) (Id b) ≡ false → pos a ≡ pos b → ⊥
other_ids a b other same = grind (arith, common_steps)

less_rises : (a b : Value) → IsNumber a → IsNumber b → value_kind a ≡ value_kind b → same_value a b ≡ false → is_less b a ≡ false → is_less a b ≡ true
less_rises (Int a) (Int b) one two like other not = rises a b (other_ints a b other) not
less_rises (Id a) (Id b) one two like other not = rises (pos a) (pos b) (other_ids a b other) not
less_rises a b one two like other not = cc

greater_rises : (a b : Value) → IsNumber a → IsNumber b → value_kind a ≡ value_kind b → same_value a b ≡ false → is_greater b a ≡ false → is_greater a b ≡ true
greater_rises (Int a) (Int b) one two like other not = rises b a (λ same. other_ints a b other (sym same)) not
greater_rises (Id a) (Id b) one two like other not = rises (pos b) (pos a) (λ same. other_ids a b other (sym same)) not
greater_rises a b one two like other not = cc

less_last : (a b : Value) → IsNumber b → value_kind a ≡ value_kind b → is_less (weakest Least a) b ≡ false
less_last (Int a) (Int b) is like = most b (leb-true _ _ is)
less_last (Id a) (Id b) is like = greatest_id b (ltb-true _ _ is)
less_last a (Int b) is like = cc
less_last a (Id b) is like = cc
less_last a (Text b) is like = cc
less_last a (Flag b) is like = cc

greater_last : (a b : Value) → IsNumber b → value_kind a ≡ value_kind b → is_greater (weakest Greatest a) b ≡ false
greater_last (Int a) (Int b) is like = least b (leb-true _ _ is)
greater_last (Id a) (Id b) is like = least_id b
greater_last a (Int b) is like = cc
greater_last a (Id b) is like = cc
greater_last a (Text b) is like = cc
greater_last a (Flag b) is like = cc

pub ranks : (side : Side) → AreRanked (beats side) (weakest side)
ranks Least = record {
  never = λ a. never (number_of a);
  apart = λ a b c. apart (number_of a) (number_of b) (number_of c);
  through = λ a b c. through (number_of a) (number_of b) (number_of c);
  rises = less_rises;
  last = less_last;
}
ranks Greatest = record {
  never = λ a. never (number_of a);
  apart = λ a b c one two. apart (number_of c) (number_of b) (number_of a) two one;
  through = λ a b c one two. through (number_of c) (number_of b) (number_of a) two one;
  rises = greater_rises;
  last = greater_last;
}
