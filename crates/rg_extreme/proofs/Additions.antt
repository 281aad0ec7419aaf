-- One value more.
use Rattle.std.proofs.Common.{◌≡◌, ℕ, ◌+◌, ◌-◌, ◌<◌, ◌^◌, Bool, true, false, List, [], ◌∷◌, ◌++◌, length, refl, ap, sym, ◌∙◌, subst, arith, length-append}
use Rattle.rg_agg.specs.Numbers.{value_of}
use Rattle.rg_agg.specs.Standing.{IsLike, counts_sum, pairs_kind}
use Rattle.rg_agg.specs.Stands.{IsNumber}
use Rattle.rg_agg.specs.declared.number.Number.{Number}
use Rattle.rg_event.specs.Tagged.{value_kind}
use Rattle.rg_event.specs.declared.value.Kind.{Kind}
use Rattle.rg_event.specs.declared.value.Value.{Value}
use Rattle.rg_multiset.specs.Pairs.{AreAlike, AreOf, IsTally}
use Rattle.rg_multiset.specs.Reading.{last_kept}
use Rattle.rg_multiset.proofs.Laws.{alike_of, alike_with, pairs_append, sum_append}
use Rattle.rg_extreme.specs.Deques.{IsDeque, begun, is_beaten, pushed, with_value}
use Rattle.rg_extreme.specs.Sides.{beats, weakest}
use Rattle.rg_extreme.specs.States.{as_pairs}
use Rattle.rg_extreme.specs.declared.side.Side.{Side}
use Rattle.rg_extreme.proofs.Ranks.{ranks}
use Rattle.rg_extreme.proofs.Rows.{are_front, last_kept_is, pushed_length, pushed_sum, rising_front, some_pushed, with_are, with_popped, with_pushed, with_rising}

-- a last pair that a value beats is taken off

pub front_tally : (beats : Value → Value → Bool) (pairs : List (Value × ℕ)) (last : Value × ℕ) → IsTally IsNumber beats (pairs ++ last ∷ []) → IsTally IsNumber beats pairs
front_tally beats [] last is = record { few = omega arith; alike = λ kind other. cc; rising = tt }
front_tally beats (p ∷ ps) last is = record {
  few = omega (arith, is.few, sum_append (p ∷ ps) last.0 last.1);
  alike = alike_of IsNumber (value_kind p.0) (p ∷ ps) (are_front (value_kind p.0) (p ∷ ps) (last ∷ []) (is.alike (value_kind p.0) refl));
  rising = rising_front beats (p ∷ ps) (last ∷ []) is.rising;
}

pub record IsPopped (beats : Value → Value → Bool) (v : Value) (n : ℕ) (old new : List (Number × ℕ)) : Type 0 where
  pub tally : IsTally IsNumber beats (as_pairs new)
  pub kept : (kind : Kind) → AreOf IsNumber kind (as_pairs old) → AreOf IsNumber kind (as_pairs new)
  pub same : with_value beats v (as_pairs new) ≡ with_value beats v (as_pairs old)
  pub count : length old ≡ length new + 1
  pub sum : counts_sum (as_pairs old) ≡ counts_sum (as_pairs new) + n

last_beaten : (beats : Value → Value → Bool) (pairs : List (Value × ℕ)) (last : Value × ℕ) (v : Value) → is_beaten beats (last_kept (pairs ++ last ∷ [])) v ≡ true → beats v last.0 ≡ true
last_beaten beats pairs last v less = rw (last_kept_is pairs last) at less

pub popped : (beats : Value → Value → Bool) (v : Value) (number : Number) (n : ℕ) (old new : List (Number × ℕ)) → old ≡ new ++ (number, n) ∷ [] → IsTally IsNumber beats (as_pairs old) → is_beaten beats (last_kept (as_pairs old)) v ≡ true → IsPopped beats v n old new
popped beats v number n old new parts tally less =
    let whole : as_pairs old ≡ as_pairs new ++ (value_of number, n) ∷ [] = ap as_pairs parts ∙ pairs_append value_of number n new in
    let P : List (Value × ℕ) → Type 0 = λ pairs. IsTally IsNumber beats pairs in
    let B : List (Value × ℕ) → Type 0 = λ pairs. is_beaten beats (last_kept pairs) v ≡ true in
    record {
      tally = front_tally beats (as_pairs new) (value_of number, n) (subst P whole tally);
      kept = λ kind are. (let Q : List (Value × ℕ) → Type 0 = λ pairs. AreOf IsNumber kind pairs in are_front kind (as_pairs new) ((value_of number, n) ∷ []) (subst Q whole are));
      same = sym (ap (with_value beats v) whole ∙ with_popped beats v (as_pairs new) (value_of number, n) (last_beaten beats (as_pairs new) (value_of number, n) v (subst B whole less)));
      count = ap length parts ∙ (length-append new ((number, n) ∷ []) ∙ omega arith);
      sum = ap counts_sum whole ∙ sum_append (as_pairs new) (value_of number) n;
    }

-- the whole of it

pub added_pairs : (side : Side) (old middle new : List (Value × ℕ)) (f v : Value) → f ≡ v → IsTally IsNumber (beats side) middle → is_beaten (beats side) (last_kept middle) f ≡ false → with_value (beats side) f middle ≡ with_value (beats side) f old → new ≡ pushed f middle → new ≡ with_value (beats side) v old
added_pairs side old middle new f v it tally not same is =
    is ∙ (sym (with_pushed (beats side) (weakest side) (ranks side) middle f tally.rising not) ∙ (same ∙ ap (λ x. with_value (beats side) x old) it))

pub added_deque : (side : Side) (n kept gone : ℕ) (old middle new : List (Value × ℕ)) (f v : Value) → IsNumber v → IsLike (pairs_kind old) v → n < 2 ^ 40 → IsDeque (beats side) n kept old → new ≡ with_value (beats side) v old → new ≡ pushed f middle → gone + counts_sum middle ≡ counts_sum old → IsDeque (beats side) (n + 1) (kept - gone + 1) new
added_deque side n kept gone old middle new f v is like room sound with put sum =
    let are = alike_with IsNumber v old sound.tally.alike like in
    let more : counts_sum new ≡ counts_sum middle + 1 = ap counts_sum put ∙ pushed_sum middle f in
    let P : List (Value × ℕ) → Type 0 = λ pairs. AreAlike IsNumber pairs in
    record {
      few = omega (arith, room);
      sum = omega (arith, more, sum, sound.sum);
      most = omega (arith, sum, sound.sum, sound.most);
      some = λ _. subst (λ (pairs : List (Value × ℕ)). 0 < length pairs) (sym put) (some_pushed middle f);
      tally = record {
        few = omega (arith, more, sum, sound.sum, sound.most, room);
        alike = subst P (sym with) (alike_of IsNumber (value_kind v) (with_value (beats side) v old) (with_are (beats side) (value_kind v) v old is refl are));
        rising = rw with (with_rising (beats side) (weakest side) (ranks side) (value_kind v) v old is refl are sound.tally.rising);
      };
    }

pub added_ticks : (before after a b : ℕ) (old middle new : List (Value × ℕ)) (f : Value) (kind : Kind) → AreOf IsNumber kind middle → new ≡ pushed f middle → a ≡ length middle → b ≡ length old → after + a ≡ before + b → after + length new ≡ before + length old + begun new
added_ticks before after a b old middle new f kind are put one two sum =
    let P : List (Value × ℕ) → Type 0 = λ pairs. length pairs ≡ length middle + begun pairs in
    omega (arith, subst P (sym put) (pushed_length kind middle f are), one, two, sum)
