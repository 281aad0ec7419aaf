-- Guesses in buckets: which slot one has, and what a write at a place leaves.
use Rattle.std.proofs.Common.{◌≡◌, ◌∙◌, ℕ, zero, suc, ◌+◌, ◌-◌, ◌*◌, ◌/◌, ◌%◌, ◌^◌, ◌<◌, ◌≤◌, ◌==◌, min, Bool, true, false, List, [], ◌∷◌, length, get_or, set, take, drop, None, Some, inl, inr, ◌⊎◌, refl, sym, ap, subst, arith, length-drop}
use Rattle.std.specs.Prelude.{nat_le, nat_lt, not, cond, if◌then◌else◌}
use Rattle.std.specs.List.{Contains, position, position_or_len}
use Rattle.std.proofs.lemmas.Bool.Decides.{nat_tests, Decides-eqb}
use Rattle.std.proofs.lemmas.List.{length-set, length-take-le, get_or-set_same, get_or-set_other, get_or-take, get_or-drop, get_or_default}
use Rattle.std.proofs.lemmas.List.Quantifiers.{position-Some}
use Rattle.std.proofs.lemmas.Nat.{same_from_place, shr_high, mod_low}
use Rattle.rg_key_index.specs.Index.{start_of, eight_from, bucket_in, guess_of, slot_in_guess, IsPlace, IsGuessed}

-- the slot of a guess

pub slot_told : (mix slot : ℕ) → slot < 2 ^ 24 - 1 → slot_in_guess (guess_of mix slot) mix ≡ Some slot
slot_told mix slot small =
    let upper : (mix / 2 ^ 56 * 2 ^ 24 + slot) / 2 ^ 24 ≡ mix / 2 ^ 56 = shr_high (mix / 2 ^ 56) 24 slot (omega arith) in
    let lower : (mix / 2 ^ 56 * 2 ^ 24 + slot) % 2 ^ 24 ≡ slot = mod_low (mix / 2 ^ 56) 24 slot (omega arith) in
    ap (λ test. if test then Some ((mix / 2 ^ 56 * 2 ^ 24 + slot) % 2 ^ 24) else None) ((Decides-eqb ((mix / 2 ^ 56 * 2 ^ 24 + slot) / 2 ^ 24) (mix / 2 ^ 56)).1 upper) ∙ ap Some lower

-- two guesses that are the same have one slot
pub same_slot : (mix other slot this : ℕ) → slot < 2 ^ 24 - 1 → this < 2 ^ 24 - 1 → guess_of mix slot ≡ guess_of other this → slot ≡ this
same_slot mix other slot this small also same = (same_from_place (mix / 2 ^ 56) slot (other / 2 ^ 56) this (2 ^ 24) (omega arith) (omega arith) same).1

-- an empty place is no guess
pub never_empty : (mix slot : ℕ) → slot < 2 ^ 24 - 1 → 2 ^ 32 - 1 ≡ guess_of mix slot → ⊥
never_empty mix slot small same =
    let last : 2 ^ 24 - 1 ≡ slot = (same_from_place 255 (2 ^ 24 - 1) (mix / 2 ^ 56) slot (2 ^ 24) (omega arith) (omega arith) same).1 in
    omega arith

-- eight numbers in a row

pub eight_there : (buckets : List ℕ) (start : ℕ) → start + 8 ≤ length buckets → eight_from buckets start ≡ take 8 (drop start buckets)
unfolding eight_from
eight_there buckets start fits = by_test (nat_le (start + 8) (length buckets)) refl
  where
    by_test : (test : Bool) → nat_le (start + 8) (length buckets) ≡ test → (if test then take 8 (drop start buckets) else []) ≡ take 8 (drop start buckets)
    by_test true is = refl
    by_test false is = absurd (grind (arith, nat_tests))

pub eight_none : (buckets : List ℕ) (start : ℕ) → length buckets < start + 8 → eight_from buckets start ≡ []
unfolding eight_from
eight_none buckets start short = grind (arith, nat_tests)

-- where there is one of them there are eight
pub room : (buckets : List ℕ) (start i : ℕ) → i < length (eight_from buckets start) → start + 8 ≤ length buckets
unfolding eight_from
room buckets start i within = by_test (nat_le (start + 8) (length buckets)) refl within
  where
    by_test : (test : Bool) → nat_le (start + 8) (length buckets) ≡ test → i < length (if test then take 8 (drop start buckets) else []) → start + 8 ≤ length buckets
    by_test true is within = grind (arith, nat_tests)
    by_test false is within = absurd (omega arith)

pub length_eight : (buckets : List ℕ) (start : ℕ) → start + 8 ≤ length buckets → length (eight_from buckets start) ≡ 8
length_eight buckets start fits = ap length (eight_there buckets start fits) ∙ length-take-le 8 (drop start buckets) (omega (arith, length-drop start buckets))

pub one_of_eight : (buckets : List ℕ) (start i d : ℕ) → start + 8 ≤ length buckets → i < 8 → get_or (eight_from buckets start) i d ≡ get_or buckets (start + i) d
one_of_eight buckets start i d fits below =
    ap (λ xs. get_or xs i d) (eight_there buckets start fits) ∙ get_or-take 8 (drop start buckets) i d below ∙ get_or-drop start buckets i d

-- a guess in a bucket, and one in the bucket after a write at a place

abbrev pub AmongEight : List ℕ → ℕ → ℕ → Type 0
AmongEight buckets start guess = Contains (eight_from buckets start) guess

stays_among : (buckets : List ℕ) (start place new guess : ℕ) → (get_or buckets place 0 ≡ guess → ⊥) → AmongEight buckets start guess → AmongEight (set buckets place new) start guess
stays_among buckets start place new guess apart (i, within, is) =
    let fits : start + 8 ≤ length buckets = room buckets start i within in
    let below : i < 8 = omega (arith, length_eight buckets start fits) in
    let still : start + 8 ≤ length (set buckets place new) = omega (arith, length-set buckets place new) in
    let old : get_or buckets (start + i) guess ≡ guess = sym (one_of_eight buckets start i guess fits below) ∙ is in
    let elsewhere : start + i ≡ place → ⊥ = λ same. apart (get_or_default buckets place 0 guess (omega arith) ∙ ap (λ at. get_or buckets at guess) (sym same) ∙ old) in
    (i, omega (arith, length_eight (set buckets place new) start still), one_of_eight (set buckets place new) start i guess still below ∙ get_or-set_other buckets place (start + i) new guess elsewhere ∙ old)

pub stays_guessed : (buckets : List ℕ) (place new mix slot : ℕ) → (slot < 2 ^ 24 - 1 → get_or buckets place 0 ≡ guess_of mix slot → ⊥) → IsGuessed buckets mix slot → IsGuessed (set buckets place new) mix slot
stays_guessed buckets place new mix slot apart (small, among) = (
  small,
  subst (λ (places : ℕ). AmongEight (set buckets place new) (start_of places mix) (guess_of mix slot)) (sym (length-set buckets place new))
      (stays_among buckets (start_of (length buckets) mix) place new (guess_of mix slot) (apart small) among),
)

comes_among : (buckets : List ℕ) (start place new : ℕ) → start ≤ place → place < start + 8 → start + 8 ≤ length buckets → AmongEight (set buckets place new) start new
comes_among buckets start place new from to fits =
    let still : start + 8 ≤ length (set buckets place new) = omega (arith, length-set buckets place new) in
    let at : start + (place - start) ≡ place = omega arith in (
      place - start,
      omega (arith, length_eight (set buckets place new) start still),
      one_of_eight (set buckets place new) start (place - start) new still (omega arith) ∙ ap (λ at. get_or (set buckets place new) at new) at ∙ get_or-set_same buckets place new new (omega arith),
    )

pub comes : (buckets : List ℕ) (mix old place new : ℕ) → IsPlace buckets mix old place → Contains (bucket_in (set buckets place new) mix) new
comes buckets mix old place new at =
    subst (λ (places : ℕ). AmongEight (set buckets place new) (start_of places mix) new) (sym (length-set buckets place new)) (comes_among buckets (start_of (length buckets) mix) place new at.from at.to at.fits)

-- a guess at a place of the bucket stands in the bucket
pub stands_among : (buckets : List ℕ) (mix guess place : ℕ) → IsPlace buckets mix guess place → Contains (bucket_in buckets mix) guess
stands_among buckets mix guess place at =
    let there : start_of (length buckets) mix + (place - start_of (length buckets) mix) ≡ place = omega (arith, at.from) in (
      place - start_of (length buckets) mix,
      omega (arith, length_eight buckets (start_of (length buckets) mix) at.fits, at.from, at.to),
      one_of_eight buckets (start_of (length buckets) mix) (place - start_of (length buckets) mix) guess at.fits (omega (arith, at.from, at.to)) ∙ ap (λ at. get_or buckets at guess) there
          ∙ get_or_default buckets place guess 0 (omega (arith, at.to, at.fits)) ∙ at.is,
    )

-- a place by its position in the bucket

before : (test : ℕ → Bool) (xs : List ℕ) (i d : ℕ) → i < length xs → test (get_or xs i d) ≡ true → position_or_len test xs ≤ i
before test [] i d within is = absurd (omega arith)
before test (x ∷ xs) zero d within is = subst (λ b. cond (not b) (1 + position_or_len test xs) 0 ≤ 0) (sym is) (omega arith)
before test (x ∷ xs) (suc i) d within is = by_test (test x) (before test xs i d (omega arith) is)
  where
    by_test : (b : Bool) → position_or_len test xs ≤ i → cond (not b) (1 + position_or_len test xs) 0 ≤ suc i
    by_test true rest = omega arith
    by_test false rest = omega arith

pub position_none : (xs : List ℕ) (guess : ℕ) → None ≡ position (λ other. other == guess) xs → Contains xs guess → ⊥
position_none xs guess is (i, within, at) = by_test (nat_lt (position_or_len (λ other. other == guess) xs) (length xs)) refl is
  where
    early : position_or_len (λ other. other == guess) xs ≤ i
    early = before (λ other. other == guess) xs i guess within ((Decides-eqb (get_or xs i guess) guess).1 at)

    by_test : (b : Bool) → nat_lt (position_or_len (λ other. other == guess) xs) (length xs) ≡ b → None ≡ cond b (Some (position_or_len (λ other. other == guess) xs)) None → ⊥
    by_test true test same = cc
    by_test false test same = grind (arith, nat_tests, early)

pub place_is : (buckets : List ℕ) (mix guess position' : ℕ) → Some position' ≡ position (λ other. other == guess) (bucket_in buckets mix) → IsPlace buckets mix guess (start_of (length buckets) mix + position')
place_is buckets mix guess position' is =
    let found = position-Some (λ other. other == guess) (bucket_in buckets mix) position' 0 (sym is) in
    let fits : start_of (length buckets) mix + 8 ≤ length buckets = room buckets (start_of (length buckets) mix) position' found.0 in
    let below : position' < 8 = omega (arith, found.0, length_eight buckets (start_of (length buckets) mix) fits) in
    record {
      from = omega arith;
      to = omega arith;
      fits = fits;
      is = sym (one_of_eight buckets (start_of (length buckets) mix) position' 0 fits below) ∙ (Decides-eqb (get_or (bucket_in buckets mix) position' 0) guess).0 found.1;
    }

-- what a look at eight places gives

pub bucket_none : (buckets : List ℕ) (start end : ℕ) → start < 2 ^ 64 → end ≡ min (start + 8) (2 ^ 64 - 1) → (end < start) ⊎ (length buckets < end) → [] ≡ eight_from buckets start
bucket_none buckets start end small is (inl before) = absurd (omega arith)
bucket_none buckets start end small is (inr past) = sym (eight_none buckets start (omega arith))

pub bucket_some : (buckets bucket : List ℕ) (start end : ℕ) → length buckets < 2 ^ 63 → end ≡ min (start + 8) (2 ^ 64 - 1) → end ≤ length buckets → bucket ≡ take (end - start) (drop start buckets) → bucket ≡ eight_from buckets start
bucket_some buckets bucket start end small is within taken =
    let count : end - start ≡ 8 = omega arith in
    taken ∙ ap (λ n. take n (drop start buckets)) count ∙ sym (eight_there buckets start (omega arith))
