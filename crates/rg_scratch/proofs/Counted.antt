-- The values that count, with one event more.
use Rattle.std.proofs.Common.{◌≡◌, ℕ, zero, suc, ◌+◌, ◌<◌, Bool, true, false, ◌||◌, List, [], ◌∷◌, ◌++◌, length, take, drop, get_or, not, Option, Some, None, refl, ap, sym, ◌∙◌, arith, subst, append-nil}
use Rattle.std.specs.Prelude.{if◌then◌else◌}
use Rattle.std.specs.List.{filter, list_any}
use Rattle.std.proofs.lemmas.List.Elements.{filter-append}
use Rattle.std.proofs.lemmas.Grind.{take_at_read}
use Rattle.std.proofs.lemmas.List.{take-append-drop}
use Rattle.rg_event.specs.declared.event.Event.{Event}
use Rattle.rg_event.specs.declared.value.Value.{Value}
use Rattle.rg_event.specs.declared.value.Value.TheVariants.{Flag}
use Rattle.rg_metric.specs.Answers.{distinct_after}
use Rattle.rg_metric.specs.Conditions.{value_in}
use Rattle.rg_metric.specs.Replies.{and_value, counts_for, values_in}
use Rattle.rg_metric.specs.Same.{same_value}
use Rattle.rg_scratch.specs.declared.asking.Asking.{Asking}
use Rattle.rg_scratch.specs.Asking.{query_of, counted, handed, listed, value_if, value_counted}

and_value-append : (value : Option Value) (vs ws : List Value) → and_value value (vs ++ ws) ≡ and_value value vs ++ ws
and_value-append None vs ws = refl
and_value-append (Some v) vs ws = refl

values_in-append : (field : ℕ) (xs ys : List Event) → values_in field (xs ++ ys) ≡ values_in field xs ++ values_in field ys
values_in-append zero [] ys = refl
values_in-append (suc n) [] ys = refl
values_in-append zero (x ∷ xs) ys = ap (λ vs. Flag true ∷ vs) (values_in-append zero xs ys)
values_in-append (suc n) (x ∷ xs) ys =
    ap (and_value (value_in (suc n) x.values)) (values_in-append (suc n) xs ys) ∙ and_value-append (value_in (suc n) x.values) (values_in (suc n) xs) (values_in (suc n) ys)

listed_is : (value : Option Value) → and_value value [] ≡ listed value
listed_is None = refl
listed_is (Some v) = refl

one : (field : ℕ) (x : Event) → values_in field (x ∷ []) ≡ listed (handed field x)
one zero x = refl
one (suc n) x = listed_is (value_in (suc n) x.values)

one_if : (passes : Bool) (field : ℕ) (x : Event) → values_in field (if passes then x ∷ [] else []) ≡ listed (value_if passes (handed field x))
one_if true field x = one field x
one_if false zero x = refl
one_if false (suc n) x = refl

pub counted_more : (a : Asking) (e : Event) (xs : List Event) (x : Event) → counted a e (xs ++ x ∷ []) ≡ counted a e xs ++ listed (value_counted a e x)
counted_more a e xs x =
    let test : Event → Bool = counts_for (query_of a) e in
    ap (values_in a.agg.field) (filter-append test xs (x ∷ []))
    ∙ values_in-append a.agg.field (filter test xs) (filter test (x ∷ []))
    ∙ ap (λ vs. values_in a.agg.field (filter test xs) ++ vs) (one_if (test x) a.agg.field x)

pub counted_none : (a : Asking) (e : Event) (xs : List Event) (x : Event) → None ≡ value_counted a e x → counted a e (xs ++ x ∷ []) ≡ counted a e xs
counted_none a e xs x is = counted_more a e xs x ∙ ap (λ value. counted a e xs ++ listed value) (sym is) ∙ append-nil (counted a e xs)

pub counted_some : (a : Asking) (e : Event) (xs : List Event) (x : Event) (v : Value) → Some v ≡ value_counted a e x → counted a e (xs ++ x ∷ []) ≡ counted a e xs ++ v ∷ []
counted_some a e xs x v is = counted_more a e xs x ∙ ap (λ value. counted a e xs ++ listed value) (sym is)

-- how many values are different, with one value more
swap : (a b c : Bool) → ((a || b) || c) ≡ (b || (a || c))
swap true true c = refl
swap true false c = refl
swap false true c = refl
swap false false c = refl

distinct_more : (earlier vs : List Value) (v : Value) → distinct_after earlier (vs ++ v ∷ []) ≡ distinct_after earlier vs + (if list_any (same_value v) vs || list_any (same_value v) earlier then 0 else 1)
distinct_more earlier [] v = omega arith
distinct_more earlier (w ∷ vs) v =
    let more = distinct_more (w ∷ earlier) vs v in
    let order = swap (same_value v w) (list_any (same_value v) vs) (list_any (same_value v) earlier) in
    rw order (omega (arith, more))

pub none_new : (a : Asking) (e : Event) (xs : List Event) (x : Event) → None ≡ value_counted a e x
    → distinct_after [] (counted a e (xs ++ x ∷ [])) ≡ distinct_after [] (counted a e xs) + 0
none_new a e xs x is = let same = ap (distinct_after []) (counted_none a e xs x is) in omega (arith, same)

turned : (s : Bool) → ◌≡◌ {A = ℕ} (if s || false then 0 else 1) (if not s then 1 else 0)
turned true = refl
turned false = refl

pub some_new : (a : Asking) (e : Event) (xs : List Event) (x : Event) (v : Value) (seen : Bool) → Some v ≡ value_counted a e x → seen ≡ list_any (same_value v) (counted a e xs)
    → distinct_after [] (counted a e (xs ++ x ∷ [])) ≡ distinct_after [] (counted a e xs) + (if not seen then 1 else 0)
some_new a e xs x v seen is seen_is =
    ap (distinct_after []) (counted_some a e xs x v is)
    ∙ distinct_more [] (counted a e xs) v
    ∙ ap (λ s. distinct_after [] (counted a e xs) + (if s || false then 0 else 1)) (sym seen_is)
    ∙ ap (λ n. distinct_after [] (counted a e xs) + n) (turned seen)

any-append : (test : Value → Bool) (vs ws : List Value) → list_any test vs ≡ false → list_any test (vs ++ ws) ≡ list_any test ws
any-append test [] ws none = refl
any-append test (v ∷ vs) ws none = by_first (test v) none (any-append test vs ws)
  where
    by_first : (b : Bool) → (b || list_any test vs) ≡ false → (list_any test vs ≡ false → list_any test (vs ++ ws) ≡ list_any test ws) → (b || list_any test (vs ++ ws)) ≡ list_any test ws
    by_first true n next = absurd cc
    by_first false n next = next n

pub taken : (xs : List Event) (i : ℕ) (x : Event) → i < length xs → x ≡ get_or xs i x → take (i + 1) xs ≡ take i xs ++ x ∷ []
taken xs i x within is = (take_at_read xs i x within).1 ∙ ap (λ y. take i xs ++ y ∷ []) (sym is)

-- none of the first so many events has the value; the next one has it, or not
pub next_any : (a : Asking) (e : Event) (test : Value → Bool) (xs : List Event) (x : Event) → list_any test (counted a e xs) ≡ false
    → list_any test (counted a e (xs ++ x ∷ [])) ≡ list_any test (listed (value_counted a e x))
next_any a e test xs x none = ap (list_any test) (counted_more a e xs x) ∙ any-append test (counted a e xs) (listed (value_counted a e x)) none

any-front : (test : Value → Bool) (vs ws : List Value) → list_any test vs ≡ true → list_any test (vs ++ ws) ≡ true
any-front test [] ws some = absurd cc
any-front test (v ∷ vs) ws some = by_first (test v) some (any-front test vs ws)
  where
    by_first : (b : Bool) → (b || list_any test vs) ≡ true → (list_any test vs ≡ true → list_any test (vs ++ ws) ≡ true) → (b || list_any test (vs ++ ws)) ≡ true
    by_first true s next = refl
    by_first false s next = next s

counted-append : (a : Asking) (e : Event) (xs ys : List Event) → counted a e (xs ++ ys) ≡ counted a e xs ++ counted a e ys
counted-append a e xs ys =
    ap (values_in a.agg.field) (filter-append (counts_for (query_of a) e) xs ys)
    ∙ values_in-append a.agg.field (filter (counts_for (query_of a) e) xs) (filter (counts_for (query_of a) e) ys)

-- some of the first so many have it, and so some of all
pub still_any : (a : Asking) (e : Event) (test : Value → Bool) (n : ℕ) (xs : List Event) → list_any test (counted a e (take n xs)) ≡ true → list_any test (counted a e xs) ≡ true
still_any a e test n xs some =
    subst (λ (all : List Event). list_any test (counted a e all) ≡ true) (take-append-drop n xs)
    (ap (list_any test) (counted-append a e (take n xs) (drop n xs)) ∙ any-front test (counted a e (take n xs)) (counted a e (drop n xs)) some)
