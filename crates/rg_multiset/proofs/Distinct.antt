-- How many values of a list differ.
use Rattle.std.proofs.Common.{◌≡◌, ℕ, ◌+◌, ◌<◌, Bool, true, false, nat_lt, List, [], ◌∷◌, length, if◌then◌else◌, refl, ap, sym, ◌∙◌, arith}
use Rattle.std.specs.List.{AllByRecursion, list_any}
use Rattle.std.specs.List.Sorted.{IsStrictlySortedBy}
use Rattle.std.specs.Map.{keys_of}
use Rattle.std.specs.declared.cmp.Ordering.{Ordering}
use Rattle.std.specs.declared.cmp.Ordering.TheVariants.{Less}
use Rattle.std.proofs.lemmas.Bool.{lt-ltb}
use Rattle.rg_agg.specs.Standing.{AreCounts, count_in, places}
use Rattle.rg_event.specs.declared.value.Kind.{Kind}
use Rattle.rg_event.specs.declared.value.Value.{Value}
use Rattle.rg_metric.specs.Answers.{distinct_after}
use Rattle.rg_metric.specs.Same.{same_value}
use Rattle.rg_metric.proofs.Laws.{same_value-true, same_value-same}
use Rattle.rg_multiset.specs.Pairs.{pairs_by, once, AreOf}
use Rattle.rg_multiset.proofs.Counting.{Tells}
use Rattle.rg_multiset.proofs.Places.{places_first, first_place}

-- the value has a place in the list
abbrev has : Value → List Value → Bool
has v values = list_any (same_value v) values

-- once where the value is in the second list and not in the first
abbrev fresh : List Value → Value → List Value → ℕ
fresh earlier v values = if has v earlier then 0 else (if has v values then 1 else 0)

-- the list without the first place of the value
abbrev without : Value → List Value → List Value
without v [] = []
without v (w ∷ ws) = if same_value v w then ws else (w ∷ without v ws)

without_length : (v : Value) (values : List Value) → 0 < places v values → length values ≡ 1 + length (without v values)
without_length v [] some = absurd (omega (arith, some))
without_length v (w ∷ ws) some = by (same_value v w) refl (λ h. without_length v ws h)
  where
    by : (b : Bool) → same_value v w ≡ b → (0 < places v ws → length ws ≡ 1 + length (without v ws)) → length (w ∷ ws) ≡ 1 + length (without v (w ∷ ws))
    by true is rest = rw is (omega arith)
    by false is rest =
        let no : once v w ≡ 0 = rw is refl in
        let more : length ws ≡ 1 + length (without v ws) = rest (omega (arith, some, no, places_first v w ws)) in
        rw is (omega arith)

without_places : (v u : Value) (values : List Value) → 0 < places v values → places u values ≡ places u (without v values) + once u v
without_places v u [] some = absurd (omega (arith, some))
without_places v u (w ∷ ws) some = by (same_value v w) refl (λ h. without_places v u ws h)
  where
    by : (b : Bool) → same_value v w ≡ b → (0 < places v ws → places u ws ≡ places u (without v ws) + once u v) → places u (w ∷ ws) ≡ places u (without v (w ∷ ws)) + once u v
    by true is rest =
        let one : once u w ≡ once u v = ap (once u) (sym (same_value-true v w is)) in
        rw is (omega (arith, one, places_first u w ws))
    by false is rest =
        let no : once v w ≡ 0 = rw is refl in
        let more : places u ws ≡ places u (without v ws) + once u v = rest (omega (arith, some, no, places_first v w ws)) in
        rw is (omega (arith, more, places_first u w ws, places_first u w (without v ws)))

-- a value that is the same as one that was there before is no fresh one
fresh_old : (v : Value) (earlier vs : List Value) (u : Value) → has v earlier ≡ true → fresh earlier u (v ∷ vs) ≡ fresh (v ∷ earlier) u vs
fresh_old v earlier vs u old = by (same_value u v) refl
  where
    by : (b : Bool) → same_value u v ≡ b → fresh earlier u (v ∷ vs) ≡ fresh (v ∷ earlier) u vs
    by true is =
        let it : has u earlier ≡ true = rw (same_value-true u v is) old in
        rw (is, it) refl
    by false is = rw is refl

fresh_new : (v : Value) (earlier vs : List Value) (u : Value) → has v earlier ≡ false → fresh earlier u (v ∷ vs) ≡ fresh (v ∷ earlier) u vs + once u v
fresh_new v earlier vs u new = by (same_value u v) refl
  where
    by : (b : Bool) → same_value u v ≡ b → fresh earlier u (v ∷ vs) ≡ fresh (v ∷ earlier) u vs + once u v
    by true is =
        let it : has u earlier ≡ false = rw (same_value-true u v is) new in
        rw (is, it) refl
    by false is = rw is (omega arith)

none_fresh : (u : Value) (earlier : List Value) → fresh earlier u [] ≡ 0
none_fresh u earlier = by (has u earlier) refl
  where
    by : (b : Bool) → has u earlier ≡ b → fresh earlier u [] ≡ 0
    by true is = rw is refl
    by false is = rw is refl

distinct_is : (earlier vs ds : List Value) → ((u : Value) → places u ds ≡ fresh earlier u vs) → length ds ≡ distinct_after earlier vs
distinct_is earlier [] [] each = refl
distinct_is earlier [] (d ∷ ds) each =
    absurd (omega (arith, first_place d ds, each d, none_fresh d earlier))
distinct_is earlier (v ∷ vs) ds each = by (has v earlier) refl (λ new h. distinct_is (v ∷ earlier) vs new h)
  where
    by : (b : Bool) → has v earlier ≡ b → ((new : List Value) → ((u : Value) → places u new ≡ fresh (v ∷ earlier) u vs) → length new ≡ distinct_after (v ∷ earlier) vs) → length ds ≡ distinct_after earlier (v ∷ vs)
    by true old rest = rw old (rest ds (λ u. each u ∙ fresh_old v earlier vs u old) ∙ omega arith)
    by false new rest =
        let one : once v v ≡ 1 = rw (same_value-same v) refl in
        let some : 0 < places v ds = omega (arith, each v, fresh_new v earlier vs v new, one) in
        let left : length (without v ds) ≡ distinct_after (v ∷ earlier) vs = rest (without v ds) (λ u. omega (arith, each u, fresh_new v earlier vs u new, without_places v u ds some)) in
        rw new (omega (arith, without_length v ds some, left))

abbrev kept_values : List (Value × ℕ) → List Value
kept_values [] = []
kept_values (pair ∷ pairs) = pair.0 ∷ kept_values pairs

kept_length : {K : Type 0} (f : K → Value) (es : List (K × ℕ)) → length (kept_values (pairs_by f es)) ≡ length es
kept_length f [] = refl
kept_length f (e ∷ es) = let rest : length (kept_values (pairs_by f es)) ≡ length es = kept_length f es in omega arith

none_after : {K : Type 0} (cmp : K → K → Ordering) (f : K → Value) → Tells cmp f → (k : K) (es : List (K × ℕ)) → AllByRecursion (λ y. cmp k y ≡ Less) (keys_of es) → places (f k) (kept_values (pairs_by f es)) ≡ 0
none_after cmp f tells k [] all = refl
none_after cmp f tells k (e ∷ es) all =
    let no : once (f k) (f e.0) ≡ 0 = rw (tells k e.0, all.0) refl in
    omega (arith, no, places_first (f k) (f e.0) (kept_values (pairs_by f es)), none_after cmp f tells k es all.1)

-- each value of a map has one place among its values
one_each : {K : Type 0} (cmp : K → K → Ordering) (f : K → Value) → Tells cmp f → (legal : Value → Type 0) (kind : Kind) (es : List (K × ℕ)) → IsStrictlySortedBy cmp (keys_of es) → AreOf legal kind (pairs_by f es) → (u : Value) → places u (kept_values (pairs_by f es)) ≡ (if nat_lt 0 (count_in u (pairs_by f es)) then 1 else 0)
unfolding IsStrictlySortedBy
one_each cmp f tells legal kind [] sorted are u = refl
one_each {K} cmp f tells legal kind (e ∷ es) sorted are u = by (same_value u (f e.0)) refl (one_each cmp f tells legal kind es sorted.1 are.3 u) (none_after cmp f tells e.0 es sorted.0)
  where
    by : (b : Bool) → same_value u (f e.0) ≡ b → places u (kept_values (pairs_by f es)) ≡ (if nat_lt 0 (count_in u (pairs_by f es)) then 1 else 0) → places (f e.0) (kept_values (pairs_by f es)) ≡ 0 → places u (kept_values (pairs_by f (e ∷ es))) ≡ (if nat_lt 0 (count_in u (pairs_by f (e ∷ es))) then 1 else 0)
    by true is rest none =
        let one : once u (f e.0) ≡ 1 = rw is refl in
        let no : places u (kept_values (pairs_by f es)) ≡ 0 = rw (same_value-true u (f e.0) is) none in
        let here : nat_lt 0 e.1 ≡ true = lt-ltb 0 e.1 are.2 in
        rw (is, here) (omega (arith, one, no, places_first u (f e.0) (kept_values (pairs_by f es))))
    by false is rest none =
        let no : once u (f e.0) ≡ 0 = rw is refl in
        let more : places u (kept_values (pairs_by f (e ∷ es))) ≡ places u (kept_values (pairs_by f es)) = omega (arith, no, places_first u (f e.0) (kept_values (pairs_by f es))) in
        rw is (more ∙ rest)

has_places : (u : Value) (values : List Value) → has u values ≡ nat_lt 0 (places u values)
has_places u [] = refl
has_places u (v ∷ vs) = by (same_value u v) refl (has_places u vs)
  where
    by : (b : Bool) → same_value u v ≡ b → has u vs ≡ nat_lt 0 (places u vs) → has u (v ∷ vs) ≡ nat_lt 0 (places u (v ∷ vs))
    by true is rest =
        let one : once u v ≡ 1 = rw is refl in
        let front : has u (v ∷ vs) ≡ true = rw is refl in
        front ∙ sym (lt-ltb 0 (places u (v ∷ vs)) (omega (arith, one, places_first u v vs)))
    by false is rest =
        let no : once u v ≡ 0 = rw is refl in
        let more : places u (v ∷ vs) ≡ places u vs = omega (arith, no, places_first u v vs) in
        let front : has u (v ∷ vs) ≡ has u vs = rw is refl in
        front ∙ rest ∙ ap (nat_lt 0) (sym more)

pub distinct_count : {K : Type 0} (cmp : K → K → Ordering) (f : K → Value) → Tells cmp f → (legal : Value → Type 0) (kind : Kind) (es : List (K × ℕ)) → IsStrictlySortedBy cmp (keys_of es) → AreOf legal kind (pairs_by f es) → (values : List Value) → AreCounts (pairs_by f es) values → length es ≡ distinct_after [] values
distinct_count cmp f tells legal kind es sorted are values counts =
    let each : (u : Value) → places u (kept_values (pairs_by f es)) ≡ fresh [] u values = λ u. one_each cmp f tells legal kind es sorted are u ∙ ap (λ n. if nat_lt 0 n then 1 else 0) (counts.1 u) ∙ ap (λ (b : Bool). if b then 1 else 0) (sym (has_places u values)) in
    sym (kept_length f es) ∙ distinct_is [] values (kept_values (pairs_by f es)) each
