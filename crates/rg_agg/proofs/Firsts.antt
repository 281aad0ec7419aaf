-- Lists that begin with a value, of states that may begin with it; and values that no list begins with.
use Rattle.std.proofs.Common.{◌≡◌, ℕ, zero, suc, ◌+◌, ◌-◌, ◌*◌, ◌≤◌, ◌<◌, ℤ, pos, negsuc, ◌-ℤ◌, Bool, true, false, nat_le, nat_lt, ◌&&◌, ◌||◌, List, [], ◌∷◌, Option, Some, None, length, refl, ap, sym, ◌∙◌, subst, arith}
use Rattle.std.specs.Prelude.{unsigned_abs}
use Rattle.std.proofs.Math.ListN.{replicate}
use Rattle.std.proofs.lemmas.Bool.{true≢false, and_parts, and_from, leb-true, leb-false, ltb-true, lt-ltb}
use Rattle.std.proofs.lemmas.Int.{ints}
use Rattle.std.proofs.lemmas.List.{length-replicate}
use Rattle.rg_event.specs.declared.value.Value.{Value}
use Rattle.rg_event.specs.declared.value.Value.TheVariants.{Int, Id}
use Rattle.rg_metric.specs.Answers.{number_of}
use Rattle.rg_metric.specs.Same.{same_value}
use Rattle.rg_metric.proofs.Laws.{same_value-true, same_value-same}
use Rattle.rg_agg.specs.Held.{is_like, is_sum}
use Rattle.rg_agg.specs.Stands.{IsInt, IsNumber, IsTotal, IsEnd, is_int_or_id, all_like, are_alike, last_behind, last_value, begins_with}
use Rattle.rg_agg.proofs.Ends.{likes_of, likes_last, like_turned, number_like}

pub count_first : (n : ℕ) (v : Value) → 0 < n → (values : List Value) × (n ≡ length (v ∷ values))
count_first n v some = (replicate (n - 1) v, omega (arith, some, length-replicate (n - 1) v))

pub list_first : (v : Value) (values : List Value) → begins_with v values ≡ true → (rest : List Value) × (values ≡ v ∷ rest)
list_first v [] is = absurd (true≢false (sym is))
list_first v (w ∷ ws) is = (ws, ap (λ x. x ∷ ws) (same_value-true w v is))

-- sums

no_sum : (sum : ℤ) → unsigned_abs sum ≤ 0 → sum ≡ pos 0
no_sum (pos m) small = let none : m ≡ 0 = omega (arith, small) in ap pos none
no_sum (negsuc m) small = absurd (omega (arith, small))

with_first : (n : ℕ) (sum number : ℤ) → unsigned_abs number ≤ 1000000000000 → ((values : List Value) × IsTotal n (sum -ℤ number) values) → (values : List Value) × IsTotal (suc n) sum values
with_first n sum number small rest = (
  Int number ∷ rest.0,
  record {
    count = omega (arith, rest.1.count);
    adds_up = omega (arith, ints, rest.1.adds_up);
    ints = (small, rest.1.ints);
  },
)

-- each sum that so many ints can have is one of so many
sums_of : (n : ℕ) (sum : ℤ) → unsigned_abs sum ≤ n * 1000000000000 → (values : List Value) × IsTotal n sum values
sums_of zero sum small = ([], record { count = refl; adds_up = no_sum sum (omega (arith, small)); ints = tt })
sums_of (suc n) (pos m) small = by (nat_le m 1000000000000) refl (λ sum below. sums_of n sum below)
  where
    by : (b : Bool) → nat_le m 1000000000000 ≡ b → ((sum : ℤ) → unsigned_abs sum ≤ n * 1000000000000 → (values : List Value) × IsTotal n sum values) → (values : List Value) × IsTotal (suc n) (pos m) values
    by true at rest = with_first n (pos m) (pos m) (leb-true _ _ at) (rest (pos m -ℤ pos m) (omega (arith, ints)))
    by false at rest = with_first n (pos m) (pos 1000000000000) (omega arith) (rest (pos m -ℤ pos 1000000000000) (omega (arith, ints, small, leb-false _ _ at)))
sums_of (suc n) (negsuc m) small = by (nat_le m 999999999999) refl (λ sum below. sums_of n sum below)
  where
    by : (b : Bool) → nat_le m 999999999999 ≡ b → ((sum : ℤ) → unsigned_abs sum ≤ n * 1000000000000 → (values : List Value) × IsTotal n sum values) → (values : List Value) × IsTotal (suc n) (negsuc m) values
    by true at rest = with_first n (negsuc m) (negsuc m) (omega (arith, leb-true _ _ at)) (rest (negsuc m -ℤ negsuc m) (omega (arith, ints)))
    by false at rest = with_first n (negsuc m) (negsuc 999999999999) (omega arith) (rest (negsuc m -ℤ negsuc 999999999999) (omega (arith, ints, small, leb-false _ _ at)))

pub total_first : (n : ℕ) (sum number new : ℤ) (v : Value) (within : Bool) → number ≡ number_of v → IsInt v → 0 < n → new ≡ sum -ℤ number → within ≡ is_sum (n - 1) new → within ≡ true → (values : List Value) × IsTotal n sum (v ∷ values)
total_first n sum number new v within is int some new_is within_is holds =
    let small = leb-true (unsigned_abs (sum -ℤ number)) ((n - 1) * 1000000000000) (ap (λ left. is_sum (n - 1) left) (sym new_is) ∙ sym within_is ∙ holds) in
    let rest = sums_of (n - 1) (sum -ℤ number) small in (
      rest.0,
      record {
        count = omega (arith, some, rest.1.count);
        adds_up = omega (arith, ints, rest.1.adds_up, is);
        ints = (int, rest.1.ints);
      },
    )

-- last values

ends_with : (n : ℕ) (l v : Value) → IsNumber l → IsNumber v → is_like l v ≡ true → (n ≡ 0 → l ≡ v) → (values : List Value) × IsEnd (suc n) (Some l) (v ∷ values)
ends_with zero l v last is like same = (
  [],
  record {
    count = refl;
    ends = ap (λ x. Some x) (same refl);
    alike = and_from (is_int_or_id v) true is refl;
  },
)
ends_with (suc n) l v last is like same =
    let rest = ends_with n l l last last (number_like l last) (λ none. refl) in
    let head = and_parts (is_int_or_id l) (all_like l rest.0) rest.1.alike in (
      l ∷ rest.0,
      record {
        count = omega (arith, rest.1.count);
        ends = rest.1.ends;
        alike = and_from (is_int_or_id v) (all_like v (l ∷ rest.0)) is (and_from (is_int_or_id l) (is_like v l && all_like v rest.0) last (and_from (is_like v l) (all_like v rest.0) (like_turned l v like) (likes_of l v rest.0 like head.1)));
      },
    )

end_by : (more same : Bool) (n : ℕ) (l v : Value) → nat_lt 1 n ≡ more → same_value l v ≡ same → (more || same) ≡ true → 0 < n → n - 1 ≡ 0 → l ≡ v
end_by more true n l v is at holds some none = same_value-true l v at
end_by true false n l v is at holds some none = absurd (omega (arith, some, none, ltb-true _ _ is))
end_by false false n l v is at holds some none = absurd (true≢false (sym holds))

pub end_first : (n : ℕ) (l v : Value) (may : Bool) → 0 < n → IsNumber l → IsNumber v → may ≡ (is_like l v && (nat_lt 1 n || same_value l v)) → may ≡ true → (values : List Value) × IsEnd n (Some l) (v ∷ values)
end_first n l v may some last is may_is holds =
    let parts = and_parts (is_like l v) (nat_lt 1 n || same_value l v) (sym may_is ∙ holds) in
    let P : ℕ → Type 0 = λ m. (values : List Value) × IsEnd m (Some l) (v ∷ values) in
    let count : suc (n - 1) ≡ n = omega (arith, some) in
    subst P count (ends_with (n - 1) l v last is parts.0 (end_by (nat_lt 1 n) (same_value l v) n l v refl refl parts.1 some))

pub or_second : (a b : Bool) → b ≡ true → (a || b) ≡ true
or_second true b is = refl
or_second false b is = is

-- a value of another kind, and another value than the only one, come first in no list
pub end_other : (n : ℕ) (l v : Value) (values : List Value) (may : Bool) → may ≡ (is_like l v && (nat_lt 1 n || same_value l v)) → may ≡ false → IsEnd n (Some l) (v ∷ values) → ⊥
end_other n l v values may may_is fails stands = by (is_like l v) (same_value l v) values refl refl stands
  where
    Q : Value → Type 0
    Q x = is_like v x ≡ true

    last_is : (ws : List Value) → IsEnd n (Some l) (v ∷ ws) → last_behind v ws ≡ l
    last_is ws stands = sym (same_some stands.ends)
      where
        same_some : Some l ≡ Some (last_behind v ws) → l ≡ last_behind v ws
        same_some e = cc

    by : (b c : Bool) (ws : List Value) → is_like l v ≡ b → same_value l v ≡ c → IsEnd n (Some l) (v ∷ ws) → ⊥
    by false c ws one two stands =
        let parts = and_parts (is_int_or_id v) (all_like v ws) stands.alike in
        let like : is_like v l ≡ true = subst Q (last_is ws stands) (likes_last v v ws (number_like v parts.0) parts.1) in
        true≢false (sym (like_turned v l like) ∙ one)
    by true true ws one two stands = absurd (true≢false (sym (and_from (is_like l v) (nat_lt 1 n || same_value l v) one (or_second (nat_lt 1 n) (same_value l v) two)) ∙ (sym may_is ∙ fails)))
    by true false [] one two stands = true≢false (sym (ap (λ x. same_value l x) (last_is [] stands) ∙ same_value-same l) ∙ two)
    by true false (w ∷ ws) one two stands =
        let more : nat_lt 1 n ≡ true = lt-ltb 1 n (omega (arith, stands.count)) in
        absurd (true≢false (sym (and_from (is_like l v) (nat_lt 1 n || same_value l v) one (rw more refl)) ∙ (sym may_is ∙ fails)))
