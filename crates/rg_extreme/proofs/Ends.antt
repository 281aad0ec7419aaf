-- The last pair of a deque's items, and its first.
use Rattle.std.proofs.Common.{◌≡◌, ℕ, zero, suc, ◌+◌, ◌<◌, ◌≤◌, Some, List, [], ◌∷◌, ◌++◌, length, get_or, set, ap, sym, ◌∙◌, arith, append_assoc}
use Rattle.std.specs.Int.{w64, to_be_bytes}
use Rattle.rg_agg.specs.Held.{extreme_bytes, pairs_bytes}
use Rattle.rg_agg.specs.Numbers.{value_of}
use Rattle.rg_agg.specs.Standing.{counts_sum}
use Rattle.rg_agg.specs.declared.number.Number.{Number}
use Rattle.rg_event.specs.declared.value.Value.{Value}
use Rattle.rg_multiset.specs.Reading.{last_kept}
use Rattle.rg_extreme.specs.Deques.{raised}
use Rattle.rg_extreme.specs.States.{as_pairs}

pub last_kept_at : (items : List (Number × ℕ)) (k : ℕ) (x : Number × ℕ) → k + 1 ≡ length items → x ≡ get_or items k x → last_kept (as_pairs items) ≡ Some (value_of x.0)
last_kept_at [] k x count is = absurd (omega (arith, count))
last_kept_at (p ∷ []) k x count is =
    let place : k ≡ 0 = omega (arith, count) in
    let same : x ≡ p = is ∙ ap (λ i. get_or (p ∷ []) i x) place in
    ap (λ (q : Number × ℕ). Some (value_of q.0)) (sym same)
last_kept_at (p ∷ (q ∷ qs)) k x count is =
    let place : k ≡ suc (length qs) = omega (arith, count) in
    last_kept_at (q ∷ qs) (length qs) x (omega arith) (is ∙ ap (λ i. get_or (p ∷ (q ∷ qs)) i x) place)

pub raised_at : (items : List (Number × ℕ)) (k : ℕ) (x : Number × ℕ) → k + 1 ≡ length items → x ≡ get_or items k x → as_pairs (set items k (x.0, x.1 + 1)) ≡ raised (as_pairs items)
raised_at [] k x count is = absurd (omega (arith, count))
raised_at (p ∷ []) k x count is =
    let place : k ≡ 0 = omega (arith, count) in
    let same : x ≡ p = is ∙ ap (λ i. get_or (p ∷ []) i x) place in
    ap (λ i. as_pairs (set (p ∷ []) i (x.0, x.1 + 1))) place ∙ ap (λ (y : Number × ℕ). as_pairs ((y.0, y.1 + 1) ∷ [])) same
raised_at (p ∷ (q ∷ qs)) k x count is =
    let place : k ≡ suc (length qs) = omega (arith, count) in
    ap (λ i. as_pairs (set (p ∷ (q ∷ qs)) i (x.0, x.1 + 1))) place
    ∙ ap (λ (pairs : List (Value × ℕ)). (value_of p.0, p.1) ∷ pairs) (raised_at (q ∷ qs) (length qs) x (omega arith) (is ∙ ap (λ i. get_or (p ∷ (q ∷ qs)) i x) place))

pub count_most : (items : List (Number × ℕ)) (i : ℕ) (x : Number × ℕ) → i < length items → x ≡ get_or items i x → x.1 ≤ counts_sum (as_pairs items)
count_most [] i x in_items is = absurd (omega (arith, in_items))
count_most (p ∷ ps) zero x in_items is = let same : x.1 ≡ p.1 = ap (λ (y : Number × ℕ). y.1) is in omega arith
count_most (p ∷ ps) (suc i) x in_items is = omega (arith, count_most ps i x (omega (arith, in_items)) is)

-- a tag, two numbers, and then the pairs
pub parts_put : (tag n k : ℕ) (old first second new : List ℕ) (pairs : List (Value × ℕ)) → k ≡ length pairs → first ≡ old ++ (tag ∷ to_be_bytes w64 n) → second ≡ first ++ to_be_bytes w64 k → new ≡ second ++ pairs_bytes pairs → new ≡ old ++ extreme_bytes tag n pairs
parts_put tag n k old first second new pairs count one two three =
    three
    ∙ (ap (λ bytes. bytes ++ pairs_bytes pairs) (two ∙ ap (λ m. first ++ to_be_bytes w64 m) count)
    ∙ (append_assoc first (to_be_bytes w64 (length pairs)) (pairs_bytes pairs)
    ∙ (ap (λ bytes. bytes ++ (to_be_bytes w64 (length pairs) ++ pairs_bytes pairs)) one
    ∙ append_assoc old (tag ∷ to_be_bytes w64 n) (to_be_bytes w64 (length pairs) ++ pairs_bytes pairs))))
