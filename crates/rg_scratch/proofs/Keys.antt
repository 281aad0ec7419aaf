-- Two keys are compared place by place.
use Rattle.std.proofs.Common.{◌≡◌, ℕ, zero, suc, ◌+◌, ◌≤◌, true, false, ◌&&◌, List, [], ◌∷◌, length, drop, slice_get, Option, Some, None, refl, ap, sym, ◌∙◌, arith}
use Rattle.rg_event.specs.declared.event.Event.{Event}
use Rattle.rg_event.specs.declared.value.Value.{Value}
use Rattle.rg_metric.specs.Conditions.{value_in}
use Rattle.rg_metric.specs.Replies.{and_value, key_of}
use Rattle.rg_metric.specs.Same.{same_values}
use Rattle.rg_scratch.specs.Asking.{alike}

drop_past : (xs : List Value) (i : ℕ) → length xs ≤ i → drop i xs ≡ []
drop_past [] zero h = refl
drop_past [] (suc i) h = refl
drop_past (x ∷ xs) zero h = absurd (omega (arith, h))
drop_past (x ∷ xs) (suc i) h = drop_past xs i (omega (arith, h))

with_value : (value : Option Value) (values : List Value) (n : ℕ) → length values ≤ n → length (and_value value values) ≤ suc n
with_value None values n h = omega (arith, h)
with_value (Some v) values n h = omega (arith, h)

-- a key has at most a value for each column
key_short : (columns : List ℕ) (x : Event) → length (key_of columns x) ≤ length columns
key_short [] x = omega arith
key_short (column ∷ columns) x = with_value (value_in column x.values) (key_of columns x) (length columns) (key_short columns x)

drop_nil : (i : ℕ) → drop {A = Value} i [] ≡ []
drop_nil zero = refl
drop_nil (suc i) = refl

-- the same, place by place
step : (xs ys : List Value) (place : ℕ) → same_values (drop place xs) (drop place ys) ≡ (alike (slice_get xs place) (slice_get ys place) && same_values (drop (suc place) xs) (drop (suc place) ys))
step [] [] zero = refl
step [] [] (suc place) = refl
step [] (y ∷ ys) zero = refl
step [] (y ∷ ys) (suc place) = ap (λ left. same_values left (drop place ys)) (sym (drop_nil place)) ∙ step [] ys place
step (x ∷ xs) [] zero = refl
step (x ∷ xs) [] (suc place) = ap (same_values (drop place xs)) (sym (drop_nil place)) ∙ step xs [] place
step (x ∷ xs) (y ∷ ys) zero = refl
step (x ∷ xs) (y ∷ ys) (suc place) = step xs ys place

-- two keys are the same where what is left of them from this place on is
abbrev pub AreSameFrom : ℕ → List Value → List Value → Type 0
AreSameFrom place xs ys = same_values xs ys ≡ same_values (drop place xs) (drop place ys)

pub apart : (xs ys : List Value) (place : ℕ) → AreSameFrom place xs ys → alike (slice_get xs place) (slice_get ys place) ≡ false → false ≡ same_values xs ys
apart xs ys place from differ = sym (from ∙ step xs ys place ∙ ap (λ same. same && same_values (drop (suc place) xs) (drop (suc place) ys)) differ)

pub goes_on : (xs ys : List Value) (place : ℕ) → AreSameFrom place xs ys → alike (slice_get xs place) (slice_get ys place) ≡ true → AreSameFrom (place + 1) xs ys
goes_on xs ys place from agree =
    let next : suc place ≡ place + 1 = omega arith in
    rw (sym next) (from ∙ step xs ys place ∙ ap (λ same. same && same_values (drop (suc place) xs) (drop (suc place) ys)) agree)

pub none_left : (columns : List ℕ) (x y : Event) (place : ℕ) → length columns ≤ place → AreSameFrom place (key_of columns x) (key_of columns y) → true ≡ same_values (key_of columns x) (key_of columns y)
none_left columns x y place all from =
    let one : length (key_of columns x) ≤ place = let h = key_short columns x in omega (arith, h, all) in
    let other : length (key_of columns y) ≤ place = let h = key_short columns y in omega (arith, h, all) in
    sym (from ∙ ap (λ left. same_values left (drop place (key_of columns y))) (drop_past (key_of columns x) place one) ∙ ap (same_values []) (drop_past (key_of columns y) place other))
