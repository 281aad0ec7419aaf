-- How many elements of a list fit a test.
use Rattle.std.proofs.Common.{◌≡◌, ℕ, ◌+◌, ◌||◌, Bool, true, false, IsTrue, List, [], ◌∷◌, length, All, refl, ap, arith}
use Rattle.std.proofs.Math.Bool.{cond}
use Rattle.std.specs.List.{count_by}
use Rattle.std.proofs.lemmas.List.Sums.{sum_by-cons, count_by-le-length}
use Rattle.std.proofs.lemmas.List.Elements.{All-nil, All-cons, All-head, All-tail}

abbrev once : Bool → ℕ
once b = cond b 1 0

more : {X : Type 0} (p : X → Bool) (x : X) (xs : List X) → count_by p (x ∷ xs) ≡ once (p x) + count_by p xs
more p x xs = sum_by-cons (λ y. once (p y)) x xs

one : (f p q : Bool) → f ≡ (p || q) → (p ≡ true → q ≡ false) → once f ≡ once p + once q
one f true true is apart = absurd (let e : true ≡ false = apart refl in cc)
one f true false is apart = ap once is
one f false true is apart = ap once is
one f false false is apart = ap once is

-- as many fit one of two tests that exclude each other as fit them together
pub count_either : {X : Type 0} (f p q : X → Bool) → ((x : X) → f x ≡ (p x || q x)) → ((x : X) → p x ≡ true → q x ≡ false) → (xs : List X) → count_by f xs ≡ count_by p xs + count_by q xs
count_either f p q is apart [] = refl
count_either f p q is apart (x ∷ xs) = omega (arith, more f x xs, more p x xs, more q x xs, one (f x) (p x) (q x) (is x) (apart x), count_either f p q is apart xs)

pub count_none : {X : Type 0} (p : X → Bool) → ((x : X) → p x ≡ false) → (xs : List X) → count_by p xs ≡ 0
count_none p never [] = refl
count_none p never (x ∷ xs) = omega (arith, more p x xs, ap once (never x), count_none p never xs)

counted_head : {X : Type 0} (p : X → Bool) (x : X) (xs : List X) (b : Bool) → p x ≡ b → count_by p (x ∷ xs) ≡ length (x ∷ xs) → IsTrue (p x) × (count_by p xs ≡ length xs)
counted_head p x xs true is all = (is, omega (arith, all, more p x xs, ap once is))
counted_head p x xs false is all = absurd (omega (arith, all, more p x xs, ap once is, count_by-le-length p xs))

-- all fit it exactly where as many fit it as there are
pub counted_all : {X : Type 0} (p : X → Bool) (xs : List X) → count_by p xs ≡ length xs → All (λ x. IsTrue (p x)) xs
counted_all p [] all = All-nil (λ x. IsTrue (p x))
counted_all p (x ∷ xs) all = let h = counted_head p x xs (p x) refl all in All-cons (λ x. IsTrue (p x)) x xs h.0 (counted_all p xs h.1)

pub all_counted : {X : Type 0} (p : X → Bool) (xs : List X) → All (λ x. IsTrue (p x)) xs → count_by p xs ≡ length xs
all_counted p [] all = refl
all_counted p (x ∷ xs) all = omega (arith, more p x xs, ap once (All-head (λ x. IsTrue (p x)) x xs all), all_counted p xs (All-tail (λ x. IsTrue (p x)) x xs all))
