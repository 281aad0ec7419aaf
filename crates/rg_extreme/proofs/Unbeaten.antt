-- What becomes of the unbeaten values of a list with one more at the back, and with one fewer at the front.
use Rattle.std.proofs.Common.{◌≡◌, ℕ, ◌+◌, ◌-◌, ◌≤◌, ◌==◌, ◌||◌, ◌&&◌, Bool, true, false, List, [], ◌∷◌, ◌++◌, length, refl, ap, sym, ◌∙◌, subst, arith}
use Rattle.std.specs.Prelude.{⊤, if◌then◌else◌}
use Rattle.std.specs.List.{list_any, All}
use Rattle.std.proofs.lemmas.Bool.{true≢false, and_parts, and_from, eqb-true}
use Rattle.std.proofs.lemmas.List.Elements.{All-head, All-tail}
use Rattle.std.proofs.lemmas.List.Folds.{list_any-append}
use Rattle.rg_agg.specs.Held.{is_like}
use Rattle.rg_agg.specs.Standing.{counts_sum}
use Rattle.rg_agg.specs.Stands.{IsNumber, is_int_or_id, all_like, are_alike}
use Rattle.rg_agg.specs.Unbeaten.{joined_to, unbeaten}
use Rattle.rg_event.specs.Tagged.{value_kind}
use Rattle.rg_event.specs.declared.value.Kind.{Kind}
use Rattle.rg_event.specs.declared.value.Kind.TheVariants.{Int as IntKind}
use Rattle.rg_event.specs.declared.value.Value.{Value}
use Rattle.rg_event.specs.declared.value.Value.TheVariants.{Int, Id, Text, Flag}
use Rattle.rg_metric.specs.Same.{same_value}
use Rattle.rg_metric.proofs.Laws.{same_value-true, same_value-same}
use Rattle.rg_multiset.specs.Pairs.{AreOf}
use Rattle.rg_multiset.proofs.Laws.{other_way}
use Rattle.rg_extreme.specs.Deques.{with_value, without_first}
use Rattle.rg_extreme.proofs.Ranks.{AreRanked}

-- numbers of one kind

-- each value is a number of this kind
abbrev pub AllOf : Kind → List Value → Type 0
AllOf kind [] = ⊤
AllOf kind (value ∷ values) = IsNumber value × (value_kind value ≡ kind) × AllOf kind values

pub like_kind : (a b : Value) → is_like a b ≡ true → value_kind b ≡ value_kind a
like_kind (Int a) (Int b) is = refl
like_kind (Id a) (Id b) is = refl
like_kind a b is = cc

pub kind_like : (a b : Value) → IsNumber b → value_kind b ≡ value_kind a → is_like a b ≡ true
kind_like (Int a) (Int b) is like = refl
kind_like (Id a) (Id b) is like = refl
kind_like a (Int b) is like = cc
kind_like a (Id b) is like = cc
kind_like a (Text b) is like = cc
kind_like a (Flag b) is like = cc

all_like_of : (first : Value) (values : List Value) → all_like first values ≡ true → AllOf (value_kind first) values
all_like_of first [] are = tt
all_like_of first (v ∷ vs) are =
    let head = and_parts (is_int_or_id v) (is_like first v && all_like first vs) are in
    let likes = and_parts (is_like first v) (all_like first vs) head.1 in
    (head.0, like_kind first v likes.0, all_like_of first vs likes.1)

of_all_like : (first : Value) (values : List Value) → AllOf (value_kind first) values → all_like first values ≡ true
of_all_like first [] all = refl
of_all_like first (v ∷ vs) all =
    and_from (is_int_or_id v) (is_like first v && all_like first vs) all.0
    (and_from (is_like first v) (all_like first vs) (kind_like first v all.0 all.1) (of_all_like first vs all.2))

pub kind_of_alike : (values : List Value) → are_alike values ≡ true → (kind : Kind) × AllOf kind values
kind_of_alike [] are = (IntKind, tt)
kind_of_alike (v ∷ vs) are =
    let parts = and_parts (is_int_or_id v) (all_like v vs) are in
    (value_kind v, (parts.0, refl, all_like_of v vs parts.1))

pub alike_of_kind : (kind : Kind) (values : List Value) → AllOf kind values → are_alike values ≡ true
alike_of_kind kind [] all = refl
alike_of_kind kind (v ∷ vs) all =
    let P : Kind → Type 0 = λ k. AllOf k vs in
    and_from (is_int_or_id v) (all_like v vs) all.0 (of_all_like v vs (subst P (sym all.1) all.2))

pub all_more : (kind : Kind) (values : List Value) (v : Value) → AllOf kind values → IsNumber v → value_kind v ≡ kind → AllOf kind (values ++ v ∷ [])
all_more kind [] v all is like = (is, like, tt)
all_more kind (w ∷ ws) v all is like = (all.0, all.1, all_more kind ws v all.2 is like)

-- the first pair

-- the first pair's value, if there is one, doesn't pass
abbrev pub FirstNot : (Value → Bool) → List (Value × ℕ) → Type 0
FirstNot test [] = ⊤
FirstNot test (pair ∷ pairs) = test pair.0 ≡ false

joined_first : (v : Value) (pairs : List (Value × ℕ)) (p : Value × ℕ) (ps : List (Value × ℕ)) → joined_to v pairs ≡ p ∷ ps → p.0 ≡ v
joined_first v [] p ps is = let same : (v, 1) ≡ p = cc in sym (ap (λ (q : Value × ℕ). q.0) same)
joined_first v (q ∷ qs) p ps is = by (same_value v q.0) refl
  where
    by : (b : Bool) → same_value v q.0 ≡ b → p.0 ≡ v
    by true at =
        let lists : (q.0, q.1 + 1) ∷ qs ≡ p ∷ ps = rw at at is in
        let same : (q.0, q.1 + 1) ≡ p = cc in
        sym (ap (λ (q : Value × ℕ). q.0) same) ∙ sym (same_value-true v q.0 at)
    by false at =
        let lists : (v, 1) ∷ (q ∷ qs) ≡ p ∷ ps = rw at at is in
        let same : (v, 1) ≡ p = cc in
        sym (ap (λ (q : Value × ℕ). q.0) same)

joined_not : (test : Value → Bool) (v : Value) (pairs : List (Value × ℕ)) → test v ≡ false → FirstNot test (joined_to v pairs)
joined_not test v [] fails = fails
joined_not test v (q ∷ qs) fails = by (same_value v q.0) refl
  where
    by : (b : Bool) → same_value v q.0 ≡ b → FirstNot test (joined_to v (q ∷ qs))
    by true at = rw at (ap test (sym (same_value-true v q.0 at)) ∙ fails)
    by false at = rw at fails

pub or_parts : (a b : Bool) → (a || b) ≡ false → (a ≡ false) × (b ≡ false)
or_parts false false is = (refl, refl)
or_parts a b is = cc

pub first_not : (beats : Value → Value → Bool) (test : Value → Bool) (values : List Value) → list_any test values ≡ false → FirstNot test (unbeaten beats values)
first_not beats test [] none = tt
first_not beats test (v ∷ vs) none = by (list_any (λ w. beats w v) vs) refl (first_not beats test vs (or_parts (test v) (list_any test vs) none).1)
  where
    by : (b : Bool) → list_any (λ w. beats w v) vs ≡ b → FirstNot test (unbeaten beats vs) → FirstNot test (unbeaten beats (v ∷ vs))
    by true is rest = rw is rest
    by false is rest = rw is (joined_not test v (unbeaten beats vs) (or_parts (test v) (list_any test vs) none).0)

-- what holds of each value holds of the first pair's
pub first_holds : (P : Value → Type 0) (beats : Value → Value → Bool) (values : List Value) (p : Value × ℕ) (ps : List (Value × ℕ)) → All P values → unbeaten beats values ≡ p ∷ ps → P p.0
first_holds P beats [] p ps all is = cc
first_holds P beats (v ∷ vs) p ps all is = by (list_any (λ w. beats w v) vs) refl (first_holds P beats vs p ps (All-tail P v vs all))
  where
    by : (b : Bool) → list_any (λ w. beats w v) vs ≡ b → (unbeaten beats vs ≡ p ∷ ps → P p.0) → P p.0
    by true at rest = rest (rw at at is)
    by false at rest = subst P (sym (joined_first v (unbeaten beats vs) p ps (rw at at is))) (All-head P v vs all)

any_through : (beats : Value → Value → Bool) (weakest : Value → Value) → AreRanked beats weakest → (a b : Value) (values : List Value) → beats a b ≡ true → list_any (λ w. beats w a) values ≡ true → list_any (λ w. beats w b) values ≡ true
any_through beats weakest ranked a b [] less any = any
any_through beats weakest ranked a b (v ∷ vs) less any = by (beats v a) (beats v b) refl refl (any_through beats weakest ranked a b vs less)
  where
    by : (c d : Bool) → beats v a ≡ c → beats v b ≡ d → (list_any (λ w. beats w a) vs ≡ true → list_any (λ w. beats w b) vs ≡ true) → list_any (λ w. beats w b) (v ∷ vs) ≡ true
    by c true one two rest = rw two refl
    by true false one two rest = absurd (true≢false (sym (ranked.through v a b one less) ∙ two))
    by false false one two rest = rw two (rest (rw one at any))

-- no value beats the first pair's
pub least_first : (beats : Value → Value → Bool) (weakest : Value → Value) → AreRanked beats weakest → (values : List Value) (p : Value × ℕ) (ps : List (Value × ℕ)) → unbeaten beats values ≡ p ∷ ps → list_any (λ w. beats w p.0) values ≡ false
least_first beats weakest ranked [] p ps is = refl
least_first beats weakest ranked (v ∷ vs) p ps is = by (list_any (λ w. beats w v) vs) refl (least_first beats weakest ranked vs p ps)
  where
    both : (b : Bool) → beats v p.0 ≡ b → list_any (λ w. beats w v) vs ≡ true → list_any (λ w. beats w p.0) vs ≡ false → list_any (λ w. beats w p.0) (v ∷ vs) ≡ false
    both true at any none = absurd (true≢false (sym (any_through beats weakest ranked v p.0 vs at any) ∙ none))
    both false at any none = rw at none

    by : (b : Bool) → list_any (λ w. beats w v) vs ≡ b → (unbeaten beats vs ≡ p ∷ ps → list_any (λ w. beats w p.0) vs ≡ false) → list_any (λ w. beats w p.0) (v ∷ vs) ≡ false
    by true at rest = both (beats v p.0) refl at (rest (rw at at is))
    by false at rest =
        let same : p.0 ≡ v = joined_first v (unbeaten beats vs) p ps (rw at at is) in
        let P : Value → Type 0 = λ x. list_any (λ w. beats w x) (v ∷ vs) ≡ false in
        let here : list_any (λ w. beats w v) (v ∷ vs) ≡ false = rw (ranked.never v) at in
        subst P (sym same) here

-- the pairs are of the values

joined_are : (kind : Kind) (v : Value) (pairs : List (Value × ℕ)) → IsNumber v → value_kind v ≡ kind → AreOf IsNumber kind pairs → AreOf IsNumber kind (joined_to v pairs)
joined_are kind v [] is like are = (is, like, omega arith, tt)
joined_are kind v (q ∷ qs) is like are = by (same_value v q.0) refl
  where
    by : (b : Bool) → same_value v q.0 ≡ b → AreOf IsNumber kind (joined_to v (q ∷ qs))
    by true at = rw at (are.0, are.1, omega arith, are.3)
    by false at = rw at (is, like, omega arith, are)

pub unbeaten_are : (beats : Value → Value → Bool) (kind : Kind) (values : List Value) → AllOf kind values → AreOf IsNumber kind (unbeaten beats values)
unbeaten_are beats kind [] all = tt
unbeaten_are beats kind (v ∷ vs) all = by (list_any (λ w. beats w v) vs) refl (unbeaten_are beats kind vs all.2)
  where
    by : (b : Bool) → list_any (λ w. beats w v) vs ≡ b → AreOf IsNumber kind (unbeaten beats vs) → AreOf IsNumber kind (unbeaten beats (v ∷ vs))
    by true at rest = rw at rest
    by false at rest = rw at (joined_are kind v (unbeaten beats vs) all.0 all.1 rest)

joined_sum : (v : Value) (pairs : List (Value × ℕ)) → counts_sum (joined_to v pairs) ≡ counts_sum pairs + 1
joined_sum v [] = refl
joined_sum v (q ∷ qs) = by (same_value v q.0) refl
  where
    by : (b : Bool) → same_value v q.0 ≡ b → counts_sum (joined_to v (q ∷ qs)) ≡ counts_sum (q ∷ qs) + 1
    by true at = rw at (omega arith)
    by false at = rw at (omega arith)

pub unbeaten_sum : (beats : Value → Value → Bool) (values : List Value) → counts_sum (unbeaten beats values) ≤ length values
unbeaten_sum beats [] = omega arith
unbeaten_sum beats (v ∷ vs) = by (list_any (λ w. beats w v) vs) refl (unbeaten_sum beats vs)
  where
    by : (b : Bool) → list_any (λ w. beats w v) vs ≡ b → counts_sum (unbeaten beats vs) ≤ length vs → counts_sum (unbeaten beats (v ∷ vs)) ≤ length (v ∷ vs)
    by true at rest = rw at (omega arith)
    by false at rest = rw at (omega (arith, joined_sum v (unbeaten beats vs)))

no_joined : (v : Value) (pairs : List (Value × ℕ)) → joined_to v pairs ≡ [] → ⊥
no_joined v [] is = cc
no_joined v (q ∷ qs) is = by (same_value v q.0) refl
  where
    by : (b : Bool) → same_value v q.0 ≡ b → ⊥
    by true at = let none : (q.0, q.1 + 1) ∷ qs ≡ [] = rw at at is in cc
    by false at = let none : (v, 1) ∷ (q ∷ qs) ≡ [] = rw at at is in cc

no_none : (beats : Value → Value → Bool) (v : Value) (values : List Value) → unbeaten beats (v ∷ values) ≡ [] → ⊥
no_none beats v [] is = cc
no_none beats v (w ∷ ws) is = by (list_any (λ x. beats x v) (w ∷ ws)) refl (no_none beats w ws)
  where
    by : (b : Bool) → list_any (λ x. beats x v) (w ∷ ws) ≡ b → (unbeaten beats (w ∷ ws) ≡ [] → ⊥) → ⊥
    by true at rest = rest (rw at at is)
    by false at rest = no_joined v (unbeaten beats (w ∷ ws)) (rw at at is)

-- a list of which no value is kept is empty
pub none_kept : (beats : Value → Value → Bool) (values : List Value) → unbeaten beats values ≡ [] → values ≡ []
none_kept beats [] is = refl
none_kept beats (v ∷ vs) is = absurd (no_none beats v vs is)

-- a value more at the back

with_beaten : (beats : Value → Value → Bool) (weakest : Value → Value) → AreRanked beats weakest → (v w : Value) (pairs : List (Value × ℕ)) → beats v w ≡ true → FirstNot (λ x. beats x w) pairs → with_value beats v pairs ≡ (v, 1) ∷ []
with_beaten beats weakest ranked v w [] less first = refl
with_beaten beats weakest ranked v w (p ∷ ps) less first = by (beats v p.0) refl
  where
    by : (b : Bool) → beats v p.0 ≡ b → with_value beats v (p ∷ ps) ≡ (v, 1) ∷ []
    by true at = rw at refl
    by false at = absurd (true≢false (sym less ∙ ranked.apart v p.0 w at first))

with_joined : (beats : Value → Value → Bool) (weakest : Value → Value) → AreRanked beats weakest → (kind : Kind) (v w : Value) (pairs : List (Value × ℕ)) → IsNumber w → value_kind w ≡ kind → AreOf IsNumber kind pairs → beats v w ≡ false → FirstNot (λ x. beats x w) pairs
    → with_value beats v (joined_to w pairs) ≡ joined_to w (with_value beats v pairs)
with_joined beats weakest ranked kind v w [] is like are not first = by (same_value v w) refl
  where
    by : (b : Bool) → same_value v w ≡ b → with_value beats v (joined_to w []) ≡ joined_to w (with_value beats v [])
    by true at =
        let same : v ≡ w = same_value-true v w at in
        let back : same_value w v ≡ true = rw same (same_value-same w) in
        rw (not, at, back, same) refl
    by false at = rw (not, at, other_way v w at) refl
with_joined beats weakest ranked kind v w (p ∷ ps) is like are not first = by (same_value w p.0) refl
  where
    joins : (b : Bool) → same_value w p.0 ≡ true → same_value v p.0 ≡ b → with_value beats v (joined_to w (p ∷ ps)) ≡ joined_to w (with_value beats v (p ∷ ps))
    joins b same at =
        let it : w ≡ p.0 = same_value-true w p.0 same in
        let fails : beats v p.0 ≡ false = ap (beats v) (sym it) ∙ not in
        after b same at fails
      where
        after : (b : Bool) → same_value w p.0 ≡ true → same_value v p.0 ≡ b → beats v p.0 ≡ false → with_value beats v (joined_to w (p ∷ ps)) ≡ joined_to w (with_value beats v (p ∷ ps))
        after true same at fails = rw (same, fails, at, same) refl
        after false same at fails = rw (same, fails, at, same) refl

    stays : (b c d : Bool) → same_value w p.0 ≡ false → same_value v w ≡ b → beats v p.0 ≡ c → same_value v p.0 ≡ d → with_value beats v (joined_to w (p ∷ ps)) ≡ joined_to w (with_value beats v (p ∷ ps))
    stays true true d same at less it =
        let one : v ≡ w = same_value-true v w at in
        let back : same_value w v ≡ true = rw one (same_value-same w) in
        rw (same, not, at, less, back, one) refl
    stays true false d same at less it =
        let one : v ≡ w = same_value-true v w at in
        let over : beats w p.0 ≡ true = ranked.rises w p.0 is are.0 (like ∙ sym are.1) same first in
        absurd (true≢false (sym over ∙ (ap (λ x. beats x p.0) (sym one) ∙ less)))
    stays false true d same at less it = rw (same, not, at, less, other_way v w at) refl
    stays false false true same at less it = rw (same, not, at, less, it, same) refl
    stays false false false same at less it = rw (same, not, at, less, it, same) refl

    by : (b : Bool) → same_value w p.0 ≡ b → with_value beats v (joined_to w (p ∷ ps)) ≡ joined_to w (with_value beats v (p ∷ ps))
    by true same = joins (same_value v p.0) same refl
    by false same = stays (same_value v w) (beats v p.0) (same_value v p.0) same refl refl refl

pub unbeaten_more : (beats : Value → Value → Bool) (weakest : Value → Value) → AreRanked beats weakest → (kind : Kind) (values : List Value) (v : Value) → AllOf kind values → unbeaten beats (values ++ v ∷ []) ≡ with_value beats v (unbeaten beats values)
unbeaten_more beats weakest ranked kind [] v all = refl
unbeaten_more beats weakest ranked kind (w ∷ ws) v all =
    by (list_any (λ x. beats x w) ws) (beats v w) refl refl (unbeaten_more beats weakest ranked kind ws v all.2) (list_any-append (λ x. beats x w) ws (v ∷ []))
  where
    by : (b c : Bool) → list_any (λ x. beats x w) ws ≡ b → beats v w ≡ c → unbeaten beats (ws ++ v ∷ []) ≡ with_value beats v (unbeaten beats ws)
        → list_any (λ x. beats x w) (ws ++ v ∷ []) ≡ (list_any (λ x. beats x w) ws || (beats v w || false))
        → unbeaten beats ((w ∷ ws) ++ v ∷ []) ≡ with_value beats v (unbeaten beats (w ∷ ws))
    by true c any less rest both =
        let all_of : list_any (λ x. beats x w) (ws ++ v ∷ []) ≡ true = both ∙ rw any refl in
        rw (all_of, any) rest
    by false true any less rest both =
        let all_of : list_any (λ x. beats x w) (ws ++ v ∷ []) ≡ true = both ∙ rw (any, less) refl in
        let not = first_not beats (λ x. beats x w) ws any in
        rw (all_of, any) (rest ∙ (with_beaten beats weakest ranked v w (unbeaten beats ws) less not ∙ sym (with_beaten beats weakest ranked v w (joined_to w (unbeaten beats ws)) less (joined_not (λ x. beats x w) w (unbeaten beats ws) (ranked.never w)))))
    by false false any less rest both =
        let all_of : list_any (λ x. beats x w) (ws ++ v ∷ []) ≡ false = both ∙ rw (any, less) refl in
        let not = first_not beats (λ x. beats x w) ws any in
        rw (all_of, any) (ap (joined_to w) rest ∙ sym (with_joined beats weakest ranked kind v w (unbeaten beats ws) all.0 all.1 (unbeaten_are beats kind ws all.2) less not))

-- a value fewer at the front

without_joined : (kind : Kind) (v : Value) (pairs : List (Value × ℕ)) → AreOf IsNumber kind pairs → without_first (joined_to v pairs) ≡ pairs
without_joined kind v [] are = refl
without_joined kind v (q ∷ qs) are = by (same_value v q.0) refl
  where
    more : (b : Bool) → (q.1 + 1 == 1) ≡ b → (if b then qs else (q.0, q.1 + 1 - 1) ∷ qs) ≡ q ∷ qs
    more true at = absurd (omega (arith, eqb-true _ _ at, are.2))
    more false at = let one : q.1 + 1 - 1 ≡ q.1 = omega arith in ap (λ n. (q.0, n) ∷ qs) one

    by : (b : Bool) → same_value v q.0 ≡ b → without_first (joined_to v (q ∷ qs)) ≡ q ∷ qs
    by true at = rw at (more (q.1 + 1 == 1) refl)
    by false at = rw at refl

pub unbeaten_less : (beats : Value → Value → Bool) (weakest : Value → Value) → AreRanked beats weakest → (kind : Kind) (v : Value) (values : List Value) (p : Value × ℕ) (ps : List (Value × ℕ)) → AllOf kind values → unbeaten beats (v ∷ values) ≡ p ∷ ps → same_value p.0 v ≡ true → unbeaten beats values ≡ without_first (p ∷ ps)
unbeaten_less beats weakest ranked kind v values p ps all is same = by (list_any (λ w. beats w v) values) refl
  where
    by : (b : Bool) → list_any (λ w. beats w v) values ≡ b → unbeaten beats values ≡ without_first (p ∷ ps)
    by true at =
        let none = least_first beats weakest ranked values p ps (rw at at is) in
        let it : p.0 ≡ v = same_value-true p.0 v same in
        let P : Value → Type 0 = λ x. list_any (λ w. beats w x) values ≡ false in
        absurd (true≢false (sym at ∙ subst P it none))
    by false at =
        let joined : joined_to v (unbeaten beats values) ≡ p ∷ ps = rw at at is in
        sym (without_joined kind v (unbeaten beats values) (unbeaten_are beats kind values all)) ∙ ap without_first joined

pub unbeaten_same : (beats : Value → Value → Bool) (v : Value) (values : List Value) (p : Value × ℕ) (ps : List (Value × ℕ)) → unbeaten beats (v ∷ values) ≡ p ∷ ps → same_value p.0 v ≡ false → unbeaten beats values ≡ p ∷ ps
unbeaten_same beats v values p ps is other = by (list_any (λ w. beats w v) values) refl
  where
    by : (b : Bool) → list_any (λ w. beats w v) values ≡ b → unbeaten beats values ≡ p ∷ ps
    by true at = rw at at is
    by false at =
        let it : p.0 ≡ v = joined_first v (unbeaten beats values) p ps (rw at at is) in
        absurd (true≢false (sym (rw it (same_value-same v)) ∙ other))

-- where nothing can be beaten by the first pair's value all values are kept

any_meets : (beats : Value → Value → Bool) (weakest : Value → Value) → AreRanked beats weakest → (p v : Value) (values : List Value) → list_any (λ w. beats w v) values ≡ true → list_any (λ w. beats w p) values ≡ false → beats p v ≡ false → ⊥
any_meets beats weakest ranked p v [] any none not = absurd (true≢false (sym any))
any_meets beats weakest ranked p v (w ∷ ws) any none not = by (beats w v) refl (any_meets beats weakest ranked p v ws)
  where
    by : (b : Bool) → beats w v ≡ b → (list_any (λ x. beats x v) ws ≡ true → list_any (λ x. beats x p) ws ≡ false → beats p v ≡ false → ⊥) → ⊥
    by true at rest = absurd (true≢false (sym at ∙ ranked.apart w p v (or_parts (beats w p) (list_any (λ x. beats x p) ws) none).0 not))
    by false at rest = rest (rw at at any) (or_parts (beats w p) (list_any (λ x. beats x p) ws) none).1 not

-- the value beats none of its kind
abbrev pub BeatsNone : (Value → Value → Bool) → Kind → Value → Type 0
BeatsNone beats kind value = (other : Value) → IsNumber other → value_kind other ≡ kind → beats value other ≡ false

pub all_kept : (beats : Value → Value → Bool) (weakest : Value → Value) → AreRanked beats weakest → (kind : Kind) (values : List Value) (p : Value × ℕ) (ps : List (Value × ℕ)) → AllOf kind values → unbeaten beats values ≡ p ∷ ps → BeatsNone beats kind p.0 → counts_sum (unbeaten beats values) ≡ length values
all_kept beats weakest ranked kind [] p ps all is none = refl
all_kept beats weakest ranked kind (v ∷ vs) p ps all is none = by (list_any (λ w. beats w v) vs) refl (λ q qs. all_kept beats weakest ranked kind vs q qs all.2)
  where
    rest_of : (found : List (Value × ℕ)) → unbeaten beats vs ≡ found → list_any (λ w. beats w v) vs ≡ false → BeatsNone beats kind v → ((q : Value × ℕ) (qs : List (Value × ℕ)) → unbeaten beats vs ≡ q ∷ qs → BeatsNone beats kind q.0 → counts_sum (unbeaten beats vs) ≡ length vs) → counts_sum (unbeaten beats vs) ≡ length vs
    rest_of [] at any over rest = ap counts_sum at ∙ sym (ap length (none_kept beats vs at))
    rest_of (q ∷ qs) at any over rest =
        let P : List (Value × ℕ) → Type 0 = λ pairs. FirstNot (λ x. beats x v) pairs in
        let not : beats q.0 v ≡ false = subst P at (first_not beats (λ x. beats x v) vs any) in
        rest q qs at (λ other is like. ranked.apart q.0 v other not (over other is like))

    by : (b : Bool) → list_any (λ w. beats w v) vs ≡ b → ((q : Value × ℕ) (qs : List (Value × ℕ)) → unbeaten beats vs ≡ q ∷ qs → BeatsNone beats kind q.0 → counts_sum (unbeaten beats vs) ≡ length vs) → counts_sum (unbeaten beats (v ∷ vs)) ≡ length (v ∷ vs)
    by true at rest =
        let lower = least_first beats weakest ranked vs p ps (rw at at is) in
        absurd (any_meets beats weakest ranked p.0 v vs at lower (none v all.0 all.1))
    by false at rest =
        let it : p.0 ≡ v = joined_first v (unbeaten beats vs) p ps (rw at at is) in
        let P : Value → Type 0 = λ x. BeatsNone beats kind x in
        let sum = rest_of (unbeaten beats vs) refl at (subst P it none) rest in
        rw at (omega (arith, joined_sum v (unbeaten beats vs), sum))
