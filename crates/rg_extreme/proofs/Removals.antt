-- One value fewer, by the value that comes first in the pairs.
use Rattle.std.proofs.Common.{◌≡◌, ℕ, ◌+◌, ◌-◌, ◌<◌, ◌≤◌, Bool, true, false, Some, None, List, [], ◌∷◌, ◌++◌, length, ◌⊎◌, inl, inr, refl, ap, sym, ◌∙◌, subst, arith}
use Rattle.std.specs.Prelude.{Result, Ok, Err, OnOk, OnErr}
use Rattle.std.proofs.lemmas.Bool.{true≢false}
use Rattle.rg_agg.specs.Held.{is_like}
use Rattle.rg_agg.specs.Standing.{IsLike, counts_sum, pairs_kind}
use Rattle.rg_agg.specs.Stands.{IsNumber}
use Rattle.rg_agg.specs.Unbeaten.{IsExtreme, is_less, is_greater}
use Rattle.std.specs.List.{All}
use Rattle.rg_event.specs.Tagged.{value_kind}
use Rattle.rg_event.specs.declared.value.Kind.{Kind}
use Rattle.rg_event.specs.declared.value.Value.{Value}
use Rattle.rg_metric.specs.Answers.{answer_of, number_of}
use Rattle.rg_metric.specs.Same.{same_value}
use Rattle.rg_metric.specs.declared.answer.Answer.TheVariants.{Number}
use Rattle.rg_keywords.specs.declared.func.Func.TheVariants.{Min, Max}
use Rattle.rg_multiset.specs.Pairs.{AreAlike}
use Rattle.rg_multiset.proofs.Laws.{alike_of}
use Rattle.rg_extreme.specs.Deques.{IsDeque, first_value, with_value, without_first}
use Rattle.rg_extreme.specs.Sides.{beats, some_can_beat}
use Rattle.rg_extreme.specs.declared.side.Side.{Side}
use Rattle.rg_extreme.proofs.Answered.{answers_least, answers_greatest}
use Rattle.rg_extreme.proofs.Extremes.{extreme_less, extreme_like, extreme_more, extreme_same, other_kind, beyond, no_room, none_beats, no_pairs}
use Rattle.rg_extreme.proofs.Rows.{fewer_are, fewer_length, fewer_rising, fewer_sum}
use Rattle.rg_extreme.proofs.Unbeaten.{none_kept}

first_is : (p : Value × ℕ) (ps : List (Value × ℕ)) (f : Value) → Some f ≡ first_value (p ∷ ps) → f ≡ p.0
first_is p ps f is = cc

-- answers

pub least_of : (n : ℕ) (pairs : List (Value × ℕ)) (f : Value) (values : List Value) → Some f ≡ first_value pairs → IsExtreme is_less n pairs values → Number (number_of f) ≡ answer_of Min values
least_of n [] f values is stands = cc
least_of n (p ∷ ps) f values is stands = ap (λ v. Number (number_of v)) (first_is p ps f is) ∙ answers_least p ps values stands.kept

pub greatest_of : (n : ℕ) (pairs : List (Value × ℕ)) (f : Value) (values : List Value) → Some f ≡ first_value pairs → IsExtreme is_greater n pairs values → Number (number_of f) ≡ answer_of Max values
greatest_of n [] f values is stands = cc
greatest_of n (p ∷ ps) f values is stands = ap (λ v. Number (number_of v)) (first_is p ps f is) ∙ answers_greatest p ps values stands.kept

pub none_of : (beats : Value → Value → Bool) (n : ℕ) (pairs : List (Value × ℕ)) (values : List Value) → None ≡ first_value pairs → IsExtreme beats n pairs values → values ≡ []
none_of beats n [] values is stands = none_kept beats values (sym stands.kept)
none_of beats n (p ∷ ps) values is stands = cc

-- removals

pub fewer_deque : (side : Side) (n kept : ℕ) (pairs new : List (Value × ℕ)) → 0 < length pairs → IsDeque (beats side) n kept pairs → new ≡ without_first pairs → (kept ≡ n) ⊎ (some_can_beat side (first_value (without_first pairs)) ≡ true) → (0 < kept) × IsDeque (beats side) (n - 1) (kept - 1) new
fewer_deque side n kept [] new some is same fits = absurd (omega (arith, some))
fewer_deque side n kept (p ∷ ps) new some is same fits =
    let are = is.tally.alike (value_kind p.0) refl in
    let sum = fewer_sum p ps are.2 in
    let left : counts_sum new + 1 ≡ kept = omega (arith, ap counts_sum same, sum, is.sum) in (
      omega (arith, left),
      record {
        few = omega (arith, is.few);
        sum = omega (arith, left);
        most = omega (arith, is.most);
        some = by new same left fits;
        tally = record {
          few = omega (arith, left, is.most, is.few);
          alike = let P : List (Value × ℕ) → Type 0 = λ found. AreAlike IsNumber found in subst P (sym same) (alike_of IsNumber (value_kind p.0) (without_first (p ∷ ps)) (fewer_are (value_kind p.0) p ps are));
          rising = rw same (fewer_rising (beats side) p ps is.tally.rising);
        };
      },
    )
  where
    by : (found : List (Value × ℕ)) → found ≡ without_first (p ∷ ps) → counts_sum found + 1 ≡ kept → (kept ≡ n) ⊎ (some_can_beat side (first_value (without_first (p ∷ ps))) ≡ true) → 0 < n - 1 → 0 < length found
    by [] at sum (inl all) more = absurd (omega (arith, sum, all, more))
    by [] at sum (inr can) more =
        let not : some_can_beat side (first_value (without_first (p ∷ ps))) ≡ false = ap (λ found. some_can_beat side (first_value found)) (sym at) in
        absurd (true≢false (sym can ∙ not))
    by (q ∷ qs) at sum fits more = omega arith

pub less_first : (side : Side) (n m : ℕ) (pairs new : List (Value × ℕ)) (f v w : Value) (values : List Value) → Some f ≡ first_value pairs → same_value f w ≡ true → w ≡ v → n ≡ m + 1 → new ≡ without_first pairs → IsExtreme (beats side) n pairs (v ∷ values) → IsExtreme (beats side) m new values
less_first side n m [] new f v w values is same it one less stands = cc
less_first side n m (p ∷ ps) new f v w values is same it one less stands =
    let here : same_value p.0 v ≡ true = ap (λ x. same_value x v) (sym (first_is p ps f is)) ∙ (ap (same_value f) (sym it) ∙ same) in
    extreme_less side n m p ps new v values here one less stands

pub less_beaten : (side : Side) (n m : ℕ) (pairs new : List (Value × ℕ)) (f v w : Value) (values : List Value) → Some f ≡ first_value pairs → same_value f w ≡ false → w ≡ v → n ≡ m + 1 → new ≡ pairs → IsExtreme (beats side) n pairs (v ∷ values) → IsExtreme (beats side) m new values
less_beaten side n m [] new f v w values is same it one less stands = cc
less_beaten side n m (p ∷ ps) new f v w values is same it one less stands =
    let here : same_value p.0 v ≡ false = ap (λ x. same_value x v) (sym (first_is p ps f is)) ∙ (ap (same_value f) (sym it) ∙ same) in
    extreme_same side n m p ps new v values here one less stands

pub unlike : (side : Side) (n : ℕ) (pairs : List (Value × ℕ)) (f v w : Value) (values : List Value) → Some f ≡ first_value pairs → is_like f w ≡ false → w ≡ v → IsExtreme (beats side) n pairs (v ∷ values) → ⊥
unlike side n [] f v w values is other it stands = cc
unlike side n (p ∷ ps) f v w values is other it stands =
    other_kind side n p ps v values (ap (λ x. is_like x v) (sym (first_is p ps f is)) ∙ (ap (is_like f) (sym it) ∙ other)) stands

pub no_first : (side : Side) (n kept : ℕ) (pairs : List (Value × ℕ)) (f v w : Value) (values : List Value) → Some f ≡ first_value pairs → same_value f w ≡ true → w ≡ v → IsDeque (beats side) n kept pairs → kept < n → some_can_beat side (first_value (without_first pairs)) ≡ false → IsExtreme (beats side) n pairs (v ∷ values) → ⊥
no_first side n kept [] f v w values is same it sound more not stands = cc
no_first side n kept (p ∷ ps) f v w values is same it sound more not stands =
    let here : same_value p.0 v ≡ true = ap (λ x. same_value x v) (sym (first_is p ps f is)) ∙ (ap (same_value f) (sym it) ∙ same) in
    none_beats side n p ps v values here (sound.tally.alike (value_kind p.0) refl).2 (omega (arith, sound.sum, more)) not stands

pub no_beaten : (side : Side) (n kept : ℕ) (pairs : List (Value × ℕ)) (f v w : Value) (values : List Value) → Some f ≡ first_value pairs → same_value f w ≡ false → w ≡ v → IsDeque (beats side) n kept pairs → (kept ≡ n) ⊎ (beats side f w ≡ false) → IsExtreme (beats side) n pairs (v ∷ values) → ⊥
no_beaten side n kept [] f v w values is same it sound why stands = cc
no_beaten side n kept (p ∷ ps) f v w values is same it sound (inl full) stands =
    let here : same_value p.0 v ≡ false = ap (λ x. same_value x v) (sym (first_is p ps f is)) ∙ (ap (same_value f) (sym it) ∙ same) in
    no_room side n p ps v values here (sym sound.sum ∙ full) stands
no_beaten side n kept (p ∷ ps) f v w values is same it sound (inr not) stands =
    let here : same_value p.0 v ≡ false = ap (λ x. same_value x v) (sym (first_is p ps f is)) ∙ (ap (same_value f) (sym it) ∙ same) in
    beyond side n p ps v values here (ap (λ x. beats side x v) (sym (first_is p ps f is)) ∙ (ap (beats side f) (sym it) ∙ not)) stands

pub none_first : (side : Side) (n : ℕ) (pairs : List (Value × ℕ)) (v : Value) (values : List Value) → None ≡ first_value pairs → IsExtreme (beats side) n pairs (v ∷ values) → ⊥
none_first side n [] v values is stands = no_pairs side n [] v values refl stands
none_first side n (p ∷ ps) v values is stands = cc

-- a call that takes a value out of the first pair, or leaves all as they are, leaves no more pairs
shorter : (pairs : List (Value × ℕ)) → length (without_first pairs) ≤ length pairs
shorter [] = omega arith
shorter (p ∷ ps) = fewer_length p ps

pub no_more : {A E : Type 0} (result : Result A E) (old new : List (Value × ℕ)) → OnOk result (new ≡ without_first old) → OnErr result (new ≡ old) → length new ≤ length old
no_more (Ok done) old new is same = omega (arith, ap length is, shorter old)
no_more (Err refused) old new is same = omega (arith, ap length same)

pub as_many : {A E : Type 0} (result : Result A E) (old new : List (Value × ℕ)) → OnOk result (new ≡ old) → OnErr result (new ≡ old) → length new ≤ length old
as_many (Ok done) old new is same = omega (arith, ap length is)
as_many (Err refused) old new is same = omega (arith, ap length same)

-- two answers together
pub ok_both : {A E P Q R : Type 0} (result : Result A E) → OnOk result P → OnOk result Q → (P → Q → R) → OnOk result R
ok_both (Ok value) one two then = then one two
ok_both (Err fault) one two then = tt

pub err_both : {A E P Q R : Type 0} (result : Result A E) → OnErr result P → OnErr result Q → (P → Q → R) → OnErr result R
err_both (Ok value) one two then = tt
err_both (Err fault) one two then = then one two

-- kinds

pub kind_of_first : (pairs : List (Value × ℕ)) (f : Value) (kind : Kind) → Some f ≡ first_value pairs → kind ≡ value_kind f → Some kind ≡ pairs_kind pairs
kind_of_first [] f kind is same = cc
kind_of_first (p ∷ ps) f kind is same = ap (λ k. Some k) (same ∙ ap value_kind (first_is p ps f is))

pub like_of_first : (side : Side) (n : ℕ) (pairs : List (Value × ℕ)) (f : Value) (kind : Kind) (values : List Value) (value : Value) → Some f ≡ first_value pairs → kind ≡ value_kind f → IsExtreme (beats side) n pairs values → All (λ v. value_kind v ≡ value_kind value) values → value_kind value ≡ kind
like_of_first side n [] f kind values value is same stands all = cc
like_of_first side n (p ∷ ps) f kind values value is same stands all =
    extreme_like side n (p ∷ ps) values value stands all ∙ sym (same ∙ ap value_kind (first_is p ps f is))

-- one value more, where it is added

pub added_both : {E : Type 0} (side : Side) (n m : ℕ) (pairs new : List (Value × ℕ)) (v : Value) (result : Result (Unit {0}) E) → IsNumber v → IsLike (pairs_kind pairs) v → OnOk result (new ≡ with_value (beats side) v pairs) → OnOk result (m ≡ n + 1)
    → OnOk result ((values : List Value) → IsExtreme (beats side) n pairs values → IsExtreme (beats side) m new (values ++ v ∷ []))
added_both side n m pairs new v result is like more one =
    ok_both result more one (λ same count values stands.
    (let P : ℕ → Type 0 = λ k. IsExtreme (beats side) k new (values ++ v ∷ []) in subst P (sym count) (extreme_more side n pairs new values v is like same stands)))
