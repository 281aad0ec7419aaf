-- Bytes of a piece are taken as long as the request in hand lacks some.
use Rattle.std.proofs.Common.{◌≡◌, inl, inr, ℕ, ◌+◌, ◌-◌, ◌^◌, ◌<◌, ◌≤◌, List, ◌++◌, length, take, drop, min, refl, ap, sym, subst, ◌∙◌, arith, append_assoc, length-append}
use Rattle.std.proofs.lemmas.Bool.{cases_lt}
use Rattle.std.proofs.lemmas.List.{length-take, length-drop, take-append-drop, drop-take, take-take, take_rest}
use Rattle.rg_pipe.specs.Hand.{IsShort, size_of, size_from}
use Rattle.rg_pipe.specs.Assembling.{TakesIn}
use Rattle.rg_pipe.proofs.Requests.{be32, few_short, size_of-few, size_of-append, size_of-number, size_from_least}

-- the first bytes of a piece, and then more of it
pub take_two : (piece : List ℕ) (n m : ℕ) → take (n + m) piece ≡ take n piece ++ take m (drop n piece)
take_two piece n m =
    sym (take-append-drop n (take (n + m) piece)) ∙ ap (λ l. l ++ drop n (take (n + m) piece)) (take-take n (n + m) piece (omega arith)) ∙ ap (λ l. take n piece ++ l) (drop-take n m piece)

module _ (old piece : List ℕ) (head : ℕ) (head_is : head ≡ min (length piece) (4 - length old)) where
  length_mid : length (old ++ take head piece) ≡ length old + head
  length_mid = omega (arith, length-append old (take head piece), length-take head piece, head_is)

  length_front : (k : ℕ) → k ≤ length piece → length (old ++ take k piece) ≡ length old + k
  length_front k within = omega (arith, length-append old (take k piece), length-take k piece, within)

  -- the piece ended before a whole length had come
  pub takes_few : length (old ++ take head piece) < 4 → TakesIn old (old ++ take head piece) piece head
  takes_few few = record {
    within = omega (arith, head_is);
    taken = refl;
    lacked = λ k below. few_short (old ++ take k piece) (omega (arith, length_front k (omega (arith, below, head_is)), length_mid, few, below));
    no_more = λ below short. omega (arith, length_mid, few, below, head_is);
    sized = omega (arith, few, size_of-few (old ++ take head piece) few);
  }

  -- the length had come, and so many bytes with it
  module _ (size more : ℕ) (sized : length old ≤ size_of old) (long : 4 ≤ length (old ++ take head piece)) (size_is : size_of (old ++ take head piece) ≡ size) (least : 4 ≤ size)
      (more_is : more ≡ min (length (drop head piece)) (size - length (old ++ take head piece))) where
    length_rest : length (drop head piece) ≡ length piece - head
    length_rest = length-drop head piece

    -- what had come is no more than the request has
    mid_sized : length (old ++ take head piece) ≤ size
    mid_sized = elim (cases_lt (length old) 4) [
      | inl few ↦ omega (arith, length_mid, few, head_is, least)
      | inr whole ↦ let same = size_of-append old (take head piece) whole in omega (arith, length_mid, whole, head_is, same, size_is, sized)
    ]

    all_taken : old ++ take (head + more) piece ≡ (old ++ take head piece) ++ take more (drop head piece)
    all_taken = ap (λ l. old ++ l) (take_two piece head more) ∙ sym (append_assoc old (take head piece) (take more (drop head piece)))

    front_at : (j : ℕ) → size_of (old ++ take (head + j) piece) ≡ size
    front_at j = ap size_of (ap (λ l. old ++ l) (take_two piece head j) ∙ sym (append_assoc old (take head piece) (take j (drop head piece)))) ∙ size_of-append (old ++ take head piece) (take j (drop head piece)) long ∙ size_is

    lacked_at : (k : ℕ) → k < head + more → IsShort (old ++ take k piece)
    lacked_at k below = elim (cases_lt (length (old ++ take k piece)) 4) [
      | inl few ↦ few_short (old ++ take k piece) few
      | inr whole ↦
          let count = length_front k (omega (arith, below, head_is, more_is, length_rest)) in
          let past : head ≤ k = omega (arith, count, whole, head_is, length_mid, long) in
          let at : size_of (old ++ take k piece) ≡ size = ap (λ j. size_of (old ++ take j piece)) (split_at k past) ∙ front_at (k - head) in
          omega (arith, at, count, below, more_is, length_mid, mid_sized, length_rest, head_is)
    ]
      where
        split_at : (k : ℕ) → head ≤ k → k ≡ head + (k - head)
        split_at k past = omega (arith, past)

    pub takes_more : TakesIn old ((old ++ take head piece) ++ take more (drop head piece)) piece (head + more)
    takes_more =
        let count : length ((old ++ take head piece) ++ take more (drop head piece)) ≡ length old + head + more =
        omega (arith, length-append (old ++ take head piece) (take more (drop head piece)), length-take more (drop head piece), more_is, length_mid) in
        let at : size_of ((old ++ take head piece) ++ take more (drop head piece)) ≡ size = size_of-append (old ++ take head piece) (take more (drop head piece)) long ∙ size_is in
        record {
          within = omega (arith, head_is, more_is, length_rest);
          taken = sym all_taken;
          lacked = lacked_at;
          no_more = λ below short. omega (arith, below, short, at, count, more_is, length_rest, length_mid, mid_sized);
          sized = omega (arith, at, count, more_is, length_mid, mid_sized);
        }

-- what the code took in two steps, by the bytes in between and those at the end
pub few_taken : (old mid piece : List ℕ) (head : ℕ) → head ≡ min (length piece) (4 - length old) → mid ≡ old ++ take head piece → length mid < 4 → TakesIn old mid piece head
few_taken old mid piece head head_is mid_is few =
    let P : List ℕ → Type 0 = λ l. TakesIn old l piece head in subst P (sym mid_is) (takes_few old piece head head_is (rw (← mid_is) few))

pub more_taken : (old mid tail new piece : List ℕ) (head said size more : ℕ) → head ≡ min (length piece) (4 - length old) → mid ≡ old ++ take head piece → length old ≤ size_of old
    → mid ≡ be32 said ++ tail → said < 2 ^ 32 → size ≡ size_from said
    → more ≡ min (length (take (length piece - head) (drop head piece))) (size - length mid) → new ≡ mid ++ take more (take (length piece - head) (drop head piece)) → TakesIn old new piece (head + more)
more_taken old mid tail new piece head said size more head_is mid_is sized number fits size_is more_is new_is =
    let rest : take (length piece - head) (drop head piece) ≡ drop head piece = take_rest {X = ℕ} piece head in
    let long : 4 ≤ length mid = omega (arith, ap (λ (l : List ℕ). length l) number) in
    let at : size_of mid ≡ size = ap size_of number ∙ size_of-number said tail fits ∙ sym size_is in
    let whole : new ≡ (old ++ take head piece) ++ take more (drop head piece) = new_is ∙ ap (λ l. mid ++ take more l) rest ∙ ap (λ l. l ++ take more (drop head piece)) mid_is in
    let P : List ℕ → Type 0 = λ l. TakesIn old l piece (head + more) in
    subst P (sym whole) (takes_more old piece head head_is size more sized (rw (← mid_is) long) (rw (← mid_is) at) (omega (arith, size_is, size_from_least said)) (rw (← mid_is, ← rest) more_is))
