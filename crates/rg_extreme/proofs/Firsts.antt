-- Lists that begin with a value, of pairs that may begin with it: those that are beaten come before the values of the pairs.
use Rattle.std.proofs.Common.{◌≡◌, ℕ, zero, suc, ◌+◌, ◌-◌, ◌<◌, ◌==◌, ◌⊎◌, inl, inr, Bool, true, false, Some, List, [], ◌∷◌, ◌++◌, length, refl, ap, sym, ◌∙◌, subst, arith, length-append}
use Rattle.std.specs.List.{list_any}
use Rattle.std.proofs.Math.ListN.{replicate}
use Rattle.std.proofs.lemmas.Bool.{true≢false, eqb-true, eqb-false}
use Rattle.std.proofs.lemmas.List.{length-replicate}
use Rattle.std.proofs.lemmas.List.Folds.{list_any-append}
use Rattle.rg_agg.specs.Held.{is_like}
use Rattle.rg_agg.specs.Standing.{counts_sum}
use Rattle.rg_agg.specs.Stands.{IsNumber}
use Rattle.rg_agg.specs.Unbeaten.{IsExtreme, joined_to, unbeaten}
use Rattle.rg_agg.proofs.Laws.{or_second}
use Rattle.rg_event.specs.Tagged.{value_kind}
use Rattle.rg_event.specs.declared.value.Kind.{Kind}
use Rattle.rg_event.specs.declared.value.Value.{Value}
use Rattle.rg_event.specs.declared.value.Value.TheVariants.{Int, Id, Text, Flag}
use Rattle.rg_metric.specs.Same.{same_value}
use Rattle.rg_metric.proofs.Laws.{same_value-true, same_value-same}
use Rattle.rg_multiset.specs.Pairs.{AreOf, AreRising}
use Rattle.rg_multiset.proofs.Laws.{listed, listed_length}
use Rattle.rg_extreme.specs.Deques.{IsDeque, first_value, without_first}
use Rattle.rg_extreme.specs.Sides.{beats, weakest, some_can_beat}
use Rattle.rg_extreme.specs.declared.side.Side.{Side}
use Rattle.rg_extreme.specs.declared.side.Side.TheVariants.{Least, Greatest}
use Rattle.rg_extreme.proofs.Ranks.{ranks}
use Rattle.rg_extreme.proofs.Rows.{fewer_are, fewer_rising, fewer_sum}
use Rattle.rg_extreme.proofs.Unbeaten.{AllOf, FirstNot, alike_of_kind, like_kind}

-- values so often in front of others

any_behind : (test : Value → Bool) (n : ℕ) (w : Value) (values : List Value) → list_any test values ≡ true → list_any test (replicate n w ++ values) ≡ true
any_behind test n w values any = list_any-append test (replicate n w) values ∙ or_second (list_any test (replicate n w)) (list_any test values) any

any_first : (test : Value → Bool) (n : ℕ) (w : Value) (values : List Value) → 0 < n → test w ≡ true → list_any test (replicate n w ++ values) ≡ true
any_first test zero w values some is = absurd (omega (arith, some))
any_first test (suc n) w values some is = rw is refl

none_front : (test : Value → Bool) (n : ℕ) (w : Value) (values : List Value) → test w ≡ false → list_any test values ≡ false → list_any test (replicate n w ++ values) ≡ false
none_front test zero w values fails none = none
none_front test (suc n) w values fails none = rw (fails, none_front test n w values fails none) refl

all_front : (kind : Kind) (n : ℕ) (w : Value) (values : List Value) → IsNumber w → value_kind w ≡ kind → AllOf kind values → AllOf kind (replicate n w ++ values)
all_front kind zero w values is like all = all
all_front kind (suc n) w values is like all = (is, like, all_front kind n w values is like all)

-- beaten ones make no difference
unbeaten_behind : (beats : Value → Value → Bool) (n : ℕ) (w : Value) (values : List Value) → list_any (λ x. beats x w) values ≡ true → unbeaten beats (replicate n w ++ values) ≡ unbeaten beats values
unbeaten_behind beats zero w values any = refl
unbeaten_behind beats (suc n) w values any = rw (any_behind (λ x. beats x w) n w values any) (unbeaten_behind beats n w values any)

-- a value that none behind it beats is a pair of its own
unbeaten_front : (beats : Value → Value → Bool) (n : ℕ) (v : Value) (values : List Value) (pairs : List (Value × ℕ)) → beats v v ≡ false → list_any (λ x. beats x v) values ≡ false → FirstNot (same_value v) pairs → unbeaten beats values ≡ pairs
    → unbeaten beats (replicate (suc n) v ++ values) ≡ (v, suc n) ∷ pairs
unbeaten_front beats zero v values [] never none other is = rw (none, is) refl
unbeaten_front beats zero v values (p ∷ ps) never none other is = rw (none, is, other) refl
unbeaten_front beats (suc n) v values pairs never none other is =
    let count : suc n + 1 ≡ suc (suc n) = omega arith in
    rw (none_front (λ x. beats x v) (suc n) v values never none, unbeaten_front beats n v values pairs never none other is, same_value-same v) (ap (λ m. (v, m) ∷ pairs) count)

-- the values of pairs

listed_all : (kind : Kind) (pairs : List (Value × ℕ)) → AreOf IsNumber kind pairs → AllOf kind (listed pairs)
listed_all kind [] are = tt
listed_all kind (p ∷ ps) are = all_front kind p.1 p.0 (listed ps) are.0 are.1 (listed_all kind ps are.3)

turned : (side : Side) (a b : Value) → beats side a b ≡ true → beats side b a ≡ false
turned side a b over = by (beats side b a) refl
  where
    by : (c : Bool) → beats side b a ≡ c → beats side b a ≡ false
    by true at = absurd (true≢false (sym ((ranks side).through a b a over at) ∙ (ranks side).never a))
    by false at = at

none_over : (side : Side) (v : Value) (p : Value × ℕ) (ps : List (Value × ℕ)) → beats side v p.0 ≡ true → AreRising (beats side) (p ∷ ps) → list_any (λ x. beats side x v) (listed (p ∷ ps)) ≡ false
none_over side v p [] over rise = none_front (λ x. beats side x v) p.1 p.0 [] (turned side v p.0 over) refl
none_over side v p (q ∷ qs) over rise =
    none_front (λ x. beats side x v) p.1 p.0 (listed (q ∷ qs)) (turned side v p.0 over) (none_over side v q qs ((ranks side).through v p.0 q.0 over rise.0) rise.1)

rest_below : (side : Side) (p : Value × ℕ) (ps : List (Value × ℕ)) → AreRising (beats side) (p ∷ ps) → list_any (λ x. beats side x p.0) (listed ps) ≡ false
rest_below side p [] rise = refl
rest_below side p (q ∷ qs) rise = none_over side p.0 q qs rise.0 rise.1

next_other : (side : Side) (p : Value × ℕ) (ps : List (Value × ℕ)) → AreRising (beats side) (p ∷ ps) → FirstNot (same_value p.0) ps
next_other side p [] rise = tt
next_other side p (q ∷ qs) rise = by (same_value p.0 q.0) refl
  where
    by : (b : Bool) → same_value p.0 q.0 ≡ b → same_value p.0 q.0 ≡ false
    by true at = absurd (true≢false (sym (subst (λ x. beats side p.0 x ≡ true) (sym (same_value-true p.0 q.0 at)) rise.0) ∙ (ranks side).never p.0))
    by false at = at

rising_rest : (side : Side) (p : Value × ℕ) (ps : List (Value × ℕ)) → AreRising (beats side) (p ∷ ps) → AreRising (beats side) ps
rising_rest side p [] rise = tt
rising_rest side p (q ∷ qs) rise = rise.1

-- their unbeaten ones are the pairs
listed_unbeaten : (side : Side) (kind : Kind) (pairs : List (Value × ℕ)) → AreOf IsNumber kind pairs → AreRising (beats side) pairs → unbeaten (beats side) (listed pairs) ≡ pairs
listed_unbeaten side kind [] are rise = refl
listed_unbeaten side kind (p ∷ ps) are rise =
    by p.1 refl are.2 (listed_unbeaten side kind ps are.3 (rising_rest side p ps rise))
  where
    by : (n : ℕ) → p.1 ≡ n → 0 < p.1 → unbeaten (beats side) (listed ps) ≡ ps → unbeaten (beats side) (replicate p.1 p.0 ++ listed ps) ≡ p ∷ ps
    by zero at some rest = absurd (omega (arith, at, some))
    by (suc n) at some rest =
        let front = unbeaten_front (beats side) n p.0 (listed ps) ps ((ranks side).never p.0) (rest_below side p ps rise) (next_other side p ps rise) rest in
        ap (λ m. unbeaten (beats side) (replicate m p.0 ++ listed ps)) at ∙ (front ∙ ap (λ m. (p.0, m) ∷ ps) (sym at))

-- beaten ones so often, and then the values of the pairs

abbrev made : ℕ → Value → List (Value × ℕ) → List Value
made n w pairs = replicate n w ++ listed pairs

made_length : (n : ℕ) (w : Value) (pairs : List (Value × ℕ)) → length (made n w pairs) ≡ n + counts_sum pairs
made_length n w pairs = omega (arith, length-append (replicate n w) (listed pairs), length-replicate n w, listed_length pairs)

first_any : (side : Side) (p : Value × ℕ) (ps : List (Value × ℕ)) (v : Value) → 0 < p.1 → beats side p.0 v ≡ true → list_any (λ x. beats side x v) (listed (p ∷ ps)) ≡ true
first_any side p ps v some over = any_first (λ x. beats side x v) p.1 p.0 (listed ps) some over

-- a beaten value first

pub beaten_first : (side : Side) (n kept : ℕ) (pairs : List (Value × ℕ)) (f v w : Value) → Some f ≡ first_value pairs → w ≡ v → is_like f w ≡ true → IsNumber w → IsDeque (beats side) n kept pairs → kept < n → beats side f w ≡ true
    → (values : List Value) × IsExtreme (beats side) n pairs (v ∷ values)
beaten_first side n kept [] f v w is it like number sound more over = cc
beaten_first side n kept (p ∷ ps) f v w is it like number sound more over =
    let same : f ≡ p.0 = cc in
    let are = sound.tally.alike (value_kind p.0) refl in
    let here : beats side p.0 v ≡ true = subst (λ x. beats side x v ≡ true) same (subst (λ x. beats side f x ≡ true) it over) in
    let legal : IsNumber v = subst IsNumber it number in
    let kind : value_kind v ≡ value_kind p.0 = subst (λ x. value_kind v ≡ value_kind x) same (subst (λ x. value_kind x ≡ value_kind f) it (like_kind f w like)) in
    let any = first_any side p ps v are.2 here in
    let rest : List Value = made (n - kept - 1) v (p ∷ ps) in (
      rest,
      record {
        count = omega (arith, made_length (n - kept - 1) v (p ∷ ps), sound.sum, more);
        kept = sym (rw (any_behind (λ x. beats side x v) (n - kept - 1) v (listed (p ∷ ps)) any) (unbeaten_behind (beats side) (n - kept - 1) v (listed (p ∷ ps)) any ∙ listed_unbeaten side (value_kind p.0) (p ∷ ps) are sound.tally.rising));
        alike = alike_of_kind (value_kind p.0) (v ∷ rest) (legal, kind, all_front (value_kind p.0) (n - kept - 1) v (listed (p ∷ ps)) legal kind (listed_all (value_kind p.0) (p ∷ ps) are));
      },
    )

-- the first pair's value first

weakest_number : (side : Side) (v : Value) → IsNumber v → IsNumber (weakest side v) × (value_kind (weakest side v) ≡ value_kind v)
weakest_number Least (Int v) is = (refl, refl)
weakest_number Least (Id v) is = (refl, refl)
weakest_number Least (Text v) is = cc
weakest_number Least (Flag v) is = cc
weakest_number Greatest (Int v) is = (refl, refl)
weakest_number Greatest (Id v) is = (refl, refl)
weakest_number Greatest (Text v) is = cc
weakest_number Greatest (Flag v) is = cc

joined_back : (side : Side) (p : Value × ℕ) (ps : List (Value × ℕ)) → 0 < p.1 → AreRising (beats side) (p ∷ ps) → joined_to p.0 (without_first (p ∷ ps)) ≡ p ∷ ps
joined_back side p ps some rise = by (p.1 == 1) refl ps (next_other side p ps rise)
  where
    by : (b : Bool) → (p.1 == 1) ≡ b → (qs : List (Value × ℕ)) → FirstNot (same_value p.0) qs → joined_to p.0 (without_first (p ∷ qs)) ≡ p ∷ qs
    by true at [] other = rw at (ap (λ n. (p.0, n) ∷ []) (sym (eqb-true _ _ at)))
    by true at (q ∷ qs) other = rw (at, other) (ap (λ n. (p.0, n) ∷ (q ∷ qs)) (sym (eqb-true _ _ at)))
    by false at qs other =
        let count : p.1 - 1 + 1 ≡ p.1 = omega (arith, some) in
        rw (at, same_value-same p.0) (ap (λ n. (p.0, n) ∷ qs) count)

-- no value of the pairs that are left beats the first pair's
none_left : (side : Side) (p : Value × ℕ) (ps : List (Value × ℕ)) → AreRising (beats side) (p ∷ ps) → list_any (λ x. beats side x p.0) (listed (without_first (p ∷ ps))) ≡ false
none_left side p ps rise = by (p.1 == 1) refl
  where
    by : (b : Bool) → (p.1 == 1) ≡ b → list_any (λ x. beats side x p.0) (listed (without_first (p ∷ ps))) ≡ false
    by true at = rw at (rest_below side p ps rise)
    by false at = rw at (none_front (λ x. beats side x p.0) (p.1 - 1) p.0 (listed ps) ((ranks side).never p.0) (rest_below side p ps rise))

-- beaten ones that are none, or are beaten by the first one that is left, and don't beat the first pair's value
pub record MayStand (side : Side) (n : ℕ) (w : Value) (kind : Kind) (first : Value) (left : List (Value × ℕ)) : Type 0 where
  pub number : IsNumber w
  pub like : value_kind w ≡ kind
  pub under : (n ≡ 0) ⊎ (list_any (λ x. beats side x w) (listed left) ≡ true)
  pub not : beats side w first ≡ false

made_unbeaten : (side : Side) (n : ℕ) (w : Value) (kind : Kind) (first : Value) (left : List (Value × ℕ)) → MayStand side n w kind first left → AreOf IsNumber kind left → AreRising (beats side) left → unbeaten (beats side) (made n w left) ≡ left
made_unbeaten side n w kind first left may are rise = by may.under
  where
    by : (n ≡ 0) ⊎ (list_any (λ x. beats side x w) (listed left) ≡ true) → unbeaten (beats side) (made n w left) ≡ left
    by (inl none) = ap (λ m. unbeaten (beats side) (made m w left)) none ∙ listed_unbeaten side kind left are rise
    by (inr any) = unbeaten_behind (beats side) n w (listed left) any ∙ listed_unbeaten side kind left are rise

with_front : (side : Side) (n kept : ℕ) (p : Value × ℕ) (ps : List (Value × ℕ)) (w : Value) → IsDeque (beats side) n kept (p ∷ ps) → MayStand side (n - kept) w (value_kind p.0) p.0 (without_first (p ∷ ps))
    → (values : List Value) × IsExtreme (beats side) n (p ∷ ps) (p.0 ∷ values)
with_front side n kept p ps w sound may =
    let kind = value_kind p.0 in
    let are = sound.tally.alike kind refl in
    let left = without_first (p ∷ ps) in
    let left_are = fewer_are kind p ps are in
    let whole = made_unbeaten side (n - kept) w kind p.0 left may left_are (fewer_rising (beats side) p ps sound.tally.rising) in
    let none = none_front (λ x. beats side x p.0) (n - kept) w (listed left) may.not (none_left side p ps sound.tally.rising) in
    let rest : List Value = made (n - kept) w left in (
      rest,
      record {
        count = omega (arith, made_length (n - kept) w left, fewer_sum p ps are.2, sound.sum, sound.most);
        kept = sym (rw (none, whole) (joined_back side p ps are.2 sound.tally.rising));
        alike = alike_of_kind kind (p.0 ∷ rest) (are.0, refl, all_front kind (n - kept) w (listed left) may.number may.like (listed_all kind left left_are));
      },
    )

-- where there are beaten ones, the weakest value of the kind may be each of them
weakest_under : (side : Side) (p : Value × ℕ) (ps : List (Value × ℕ)) (n : ℕ) → AreOf IsNumber (value_kind p.0) (p ∷ ps) → AreRising (beats side) (p ∷ ps) → some_can_beat side (first_value (without_first (p ∷ ps))) ≡ true
    → (w : Value) × MayStand side n w (value_kind p.0) p.0 (without_first (p ∷ ps))
weakest_under side p ps n are rise can = by (p.1 == 1) refl ps are rise can
  where
    by : (b : Bool) → (p.1 == 1) ≡ b → (qs : List (Value × ℕ)) → AreOf IsNumber (value_kind p.0) (p ∷ qs) → AreRising (beats side) (p ∷ qs) → some_can_beat side (first_value (without_first (p ∷ qs))) ≡ true
        → (w : Value) × MayStand side n w (value_kind p.0) p.0 (without_first (p ∷ qs))
    by true at [] are rise can = let over : false ≡ true = rw at at can in absurd (true≢false (sym over))
    by true at (q ∷ qs) are rise can =
        let over : beats side q.0 (weakest side q.0) ≡ true = rw at at can in
        let number = weakest_number side q.0 are.3.0 in
        let any = first_any side q qs (weakest side q.0) are.3.2 over in (
          weakest side q.0,
          record {
            number = number.0;
            like = number.1 ∙ are.3.1;
            under = inr (rw at any);
            not = turned side p.0 (weakest side q.0) ((ranks side).through p.0 q.0 (weakest side q.0) rise.0 over);
          },
        )
    by false at qs are rise can =
        let over : beats side p.0 (weakest side p.0) ≡ true = rw at at can in
        let number = weakest_number side p.0 are.0 in
        let any = any_first (λ x. beats side x (weakest side p.0)) (p.1 - 1) p.0 (listed qs) (omega (arith, are.2, eqb-false _ _ at)) over in (
          weakest side p.0,
          record {
            number = number.0;
            like = number.1;
            under = inr (rw at any);
            not = turned side p.0 (weakest side p.0) over;
          },
        )

pub kept_first : (side : Side) (n kept : ℕ) (pairs : List (Value × ℕ)) (f v w : Value) → Some f ≡ first_value pairs → same_value f w ≡ true → w ≡ v → IsDeque (beats side) n kept pairs → (kept ≡ n) ⊎ (some_can_beat side (first_value (without_first pairs)) ≡ true)
    → (values : List Value) × IsExtreme (beats side) n pairs (v ∷ values)
kept_first side n kept [] f v w is same it sound may = cc
kept_first side n kept (p ∷ ps) f v w is same it sound may =
    let one : f ≡ p.0 = cc in
    let here : p.0 ≡ v = sym one ∙ (same_value-true f w same ∙ it) in
    subst (λ x. (values : List Value) × IsExtreme (beats side) n (p ∷ ps) (x ∷ values)) here (by may)
  where
    by : (kept ≡ n) ⊎ (some_can_beat side (first_value (without_first (p ∷ ps))) ≡ true) → (values : List Value) × IsExtreme (beats side) n (p ∷ ps) (p.0 ∷ values)
    by (inl all) = with_front side n kept p ps p.0 sound (record {
      number = (sound.tally.alike (value_kind p.0) refl).0;
      like = refl;
      under = inl (omega (arith, all));
      not = (ranks side).never p.0;
    })
    by (inr can) =
        let found = weakest_under side p ps (n - kept) (sound.tally.alike (value_kind p.0) refl) sound.tally.rising can in
        with_front side n kept p ps found.0 sound found.1
