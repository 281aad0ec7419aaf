-- Keys and the slots in which something is kept of them.
use Rattle.std.proofs.Common.{◌≡◌, ◌∙◌, ℕ, zero, suc, ◌+◌, ◌<◌, ◌≤◌, ◌==◌, ◌&&◌, not, cond, Bool, true, false, List, [], ◌∷◌, length, Option, None, Some, refl, ap, sym, subst, arith, true≢false, inl, inr, ◌⊎◌}
use Rattle.std.specs.Prelude.{bytes_eq}
use Rattle.std.specs.Option.{option_map}
use Rattle.std.specs.Cmp.{first_so, second_so}
use Rattle.std.specs.Cmp.Lexicographic.{slice_cmp, bytes_decides, nat_list_cmp_total}
use Rattle.std.specs.List.{All, AllByRecursion, Contains}
use Rattle.std.specs.List.Sorted.{IsStrictlySortedBy}
use Rattle.std.specs.Map.{keys_of}
use Rattle.std.specs.Ordering.{nat_cmp, is_lt, is_eq, ordering_reverse}
use Rattle.std.specs.declared.cmp.Ordering.{Ordering}
use Rattle.std.specs.declared.cmp.Ordering.TheVariants.{Less, Equal, Greater}
use Rattle.std.proofs.lemmas.Bool.Decides.{Decides-eqb}
use Rattle.std.proofs.lemmas.List.Elements.{All-nil, All-cons, All-head, All-tail, All-weaker, Contains-append_left, Contains-append_right}
use Rattle.std.proofs.lemmas.Map.Keys.{sorted_tail}
use Rattle.std.proofs.lemmas.Map.Text.{is_eq-slice_cmp}
use Rattle.std.proofs.lemmas.Map.Views.{All-after_first}
use Rattle.rg_state.specs.Cells.{count_at, key_at, is_of, slot_in, put_pair, pairs_from, IsBound}
use Rattle.rg_state.specs.Sheets.{AreInOrder}
use Rattle.rg_state.specs.declared.key_rows.KeyRows.{KeyRows}
use Rattle.rg_state.specs.declared.sheets.Wanted.{Wanted}

some_of : (n : ℕ) → not (n == 0) ≡ true → 0 < n
some_of zero is = cc
some_of (suc n) is = omega arith

of_some : (n : ℕ) → 0 < n → not (n == 0) ≡ true
of_some n some = by (n == 0) refl
  where
    by : (b : Bool) → (n == 0) ≡ b → not b ≡ true
    by true is = absurd (omega (arith, some, (Decides-eqb n 0).0 is))
    by false is = refl

both_so : (a b : Bool) → a ≡ true → b ≡ true → (a && b) ≡ true
both_so true b one two = two
both_so false b one two = one

pub of_key : (r : KeyRows) (key : List ℕ) → 0 < length r.kept.items → r.key ≡ key → is_of r key ≡ true
of_key r key some same = both_so (not (length r.kept.items == 0)) (bytes_eq r.key key) (of_some (length r.kept.items) some) ((bytes_decides r.key key).1 same)

pub kept_of : (r : KeyRows) (key : List ℕ) → is_of r key ≡ true → 0 < length r.kept.items
kept_of r key is = some_of (length r.kept.items) (first_so _ _ is)

pub key_of : (r : KeyRows) (key : List ℕ) → is_of r key ≡ true → r.key ≡ key
key_of r key is = (bytes_decides r.key key).0 (second_so (not (length r.kept.items == 0)) _ is)

-- the slot of a key is one in which something is kept of it

abbrev IsSlot : List KeyRows → List ℕ → ℕ → Type 0
IsSlot rows key slot = (0 < count_at rows slot) × (key_at rows slot ≡ key)

later_slot : (r : KeyRows) (rows : List KeyRows) (key : List ℕ) (slot : ℕ) (at : Option ℕ) → at ≡ slot_in rows key → ((other : ℕ) → slot_in rows key ≡ Some other → IsSlot rows key other) → option_map (λ s. suc s) at ≡ Some slot → IsSlot (r ∷ rows) key slot
later_slot r rows key slot None is all found = cc
later_slot r rows key slot (Some other) is all found =
    let same : suc other ≡ slot = cc in
    subst (IsSlot (r ∷ rows) key) same (all other (sym is))

slot_by : (r : KeyRows) (rows : List KeyRows) (key : List ℕ) (slot : ℕ) (b : Bool) → is_of r key ≡ b → ((other : ℕ) → slot_in rows key ≡ Some other → IsSlot rows key other) → cond b (Some 0) (option_map (λ s. suc s) (slot_in rows key)) ≡ Some slot → IsSlot (r ∷ rows) key slot
slot_by r rows key slot true is all found =
    let same : 0 ≡ slot = cc in
    subst (IsSlot (r ∷ rows) key) same (kept_of r key is, key_of r key is)
slot_by r rows key slot false is all found = later_slot r rows key slot (slot_in rows key) refl all found

pub slot_is : (rows : List KeyRows) (key : List ℕ) (slot : ℕ) → slot_in rows key ≡ Some slot → IsSlot rows key slot
slot_is [] key slot found = cc
slot_is (r ∷ rows) key slot found = slot_by r rows key slot (is_of r key) refl (slot_is rows key) found

pub slot_filled : (rows : List KeyRows) (key : List ℕ) (slot : ℕ) → slot_in rows key ≡ Some slot → 0 < count_at rows slot
slot_filled rows key slot found = (slot_is rows key slot found).0

pub slot_key : (rows : List KeyRows) (key : List ℕ) (slot : ℕ) → slot_in rows key ≡ Some slot → key_at rows slot ≡ key
slot_key rows key slot found = (slot_is rows key slot found).1

-- a key of which something is kept has one

mapped : (x : Option ℕ) (other : ℕ) → x ≡ Some other → (slot : ℕ) × (option_map (λ s. suc s) x ≡ Some slot)
mapped x other is = (suc other, ap (option_map (λ s. suc s)) is)

some_by : (rows : List KeyRows) (key : List ℕ) (b : Bool) → (slot : ℕ) × (slot_in rows key ≡ Some slot) → (slot : ℕ) × (cond b (Some 0) (option_map (λ s. suc s) (slot_in rows key)) ≡ Some slot)
some_by rows key true rest = (0, refl)
some_by rows key false rest = mapped (slot_in rows key) rest.0 rest.1

some_slot : (rows : List KeyRows) (key : List ℕ) (slot : ℕ) → 0 < count_at rows slot → key_at rows slot ≡ key → (other : ℕ) × (slot_in rows key ≡ Some other)
some_slot [] key slot some same = absurd (omega (arith, some))
some_slot (r ∷ rows) key zero some same = (0, ap (λ b. cond b (Some 0) (option_map (λ s. suc s) (slot_in rows key))) (of_key r key some same))
some_slot (r ∷ rows) key (suc slot) some same = some_by rows key (is_of r key) (some_slot rows key slot some same)

-- and one that has none isn't that of a slot in which something is kept
pub no_slot : (rows : List KeyRows) (key : List ℕ) (slot : ℕ) → slot_in rows key ≡ None → 0 < count_at rows slot → key_at rows slot ≡ key → ⊥
no_slot rows key slot none some same =
    let there = some_slot rows key slot some same in
    let never : None ≡ Some there.0 = sym none ∙ there.1 in cc

pub slot_of : (rows : List KeyRows) (key : List ℕ) (slot : ℕ) → IsBound rows → 0 < count_at rows slot → key_at rows slot ≡ key → slot_in rows key ≡ Some slot
slot_of rows key slot bound some same =
    let there = some_slot rows key slot some same in
    let one : there.0 ≡ slot = bound.apart there.0 slot (slot_filled rows key there.0 there.1) some (slot_key rows key there.0 there.1 ∙ sym same) in
    there.1 ∙ ap Some one

pub short_key : (rows : List KeyRows) (key : List ℕ) (slot : ℕ) → IsBound rows → slot_in rows key ≡ Some slot → length key ≤ 2056
short_key rows key slot bound found = subst (λ k. length k ≤ 2056) (slot_key rows key slot found) (bound.short slot (slot_filled rows key slot found))

-- keys in order

module _ (P : List ℕ × ℕ → Type 0) where
  put_all : (pair : List ℕ × ℕ) (pairs : List (List ℕ × ℕ)) → P pair → All P pairs → All P (put_pair pair pairs)
  put_all pair [] one all = All-cons P pair [] one all
  put_all pair (first ∷ pairs) one all = by (is_lt (slice_cmp nat_cmp pair.0 first.0)) (put_all pair pairs one (All-tail P first pairs all))
    where
      by : (b : Bool) → All P (put_pair pair pairs) → All P (cond b (pair ∷ (first ∷ pairs)) (first ∷ put_pair pair pairs))
      by true rest = All-cons P pair (first ∷ pairs) one all
      by false rest = All-cons P first (put_pair pair pairs) (All-head P first pairs all) rest

here : (pair : List ℕ × ℕ) (pairs : List (List ℕ × ℕ)) → Contains (pair ∷ pairs) pair
here pair pairs = Contains-append_left (pair ∷ []) pairs pair (0, omega arith, refl)

behind : (pair other : List ℕ × ℕ) (pairs : List (List ℕ × ℕ)) → Contains pairs other → Contains (pair ∷ pairs) other
behind pair other pairs among = Contains-append_right (pair ∷ []) pairs other among

put_there : (pair : List ℕ × ℕ) (pairs : List (List ℕ × ℕ)) → Contains (put_pair pair pairs) pair
put_there pair [] = here pair []
put_there pair (first ∷ pairs) = by (is_lt (slice_cmp nat_cmp pair.0 first.0)) (put_there pair pairs)
  where
    by : (b : Bool) → Contains (put_pair pair pairs) pair → Contains (cond b (pair ∷ (first ∷ pairs)) (first ∷ put_pair pair pairs)) pair
    by true rest = here pair (first ∷ pairs)
    by false rest = behind first pair (put_pair pair pairs) rest

first_or : (first : List ℕ × ℕ) (pairs : List (List ℕ × ℕ)) (other : List ℕ × ℕ) → Contains (first ∷ pairs) other → (first ≡ other) ⊎ Contains pairs other
first_or first pairs other (zero, within, is) = inl is
first_or first pairs other (suc k, within, is) = inr (k, omega (arith, within), is)

put_among : (pair : List ℕ × ℕ) (pairs : List (List ℕ × ℕ)) (other : List ℕ × ℕ) → Contains pairs other → Contains (put_pair pair pairs) other
put_among pair [] other among = absurd (omega (arith, among.1))
put_among pair (first ∷ pairs) other among = by (is_lt (slice_cmp nat_cmp pair.0 first.0)) (first_or first pairs other among) (λ rest. put_among pair pairs other rest)
  where
    by : (b : Bool) → (first ≡ other) ⊎ Contains pairs other → (Contains pairs other → Contains (put_pair pair pairs) other) → Contains (cond b (pair ∷ (first ∷ pairs)) (first ∷ put_pair pair pairs)) other
    by true at rest = behind pair other (first ∷ pairs) among
    by false (inl same) rest = subst (Contains (first ∷ put_pair pair pairs)) same (here first (put_pair pair pairs))
    by false (inr later) rest = behind first other (put_pair pair pairs) (rest later)

abbrev IsAfter : List ℕ → List ℕ × ℕ → Type 0
IsAfter key pair = slice_cmp nat_cmp key pair.0 ≡ Less

is_less : (order : Ordering) → is_lt order ≡ true → order ≡ Less
is_less Less is = refl
is_less Equal is = cc
is_less Greater is = cc

not_less : (key other : List ℕ) (order : Ordering) → slice_cmp nat_cmp key other ≡ order → is_lt order ≡ false → (key ≡ other → ⊥) → slice_cmp nat_cmp other key ≡ Less
not_less key other Less is not apart = absurd (true≢false not)
not_less key other Equal is not apart = absurd (apart ((bytes_decides key other).0 (sym (is_eq-slice_cmp key other) ∙ ap is_eq is)))
not_less key other Greater is not apart = nat_list_cmp_total.antisymm other key ∙ ap ordering_reverse is

keys_after : (key : List ℕ) (pairs : List (List ℕ × ℕ)) → All (IsAfter key) pairs → AllByRecursion (λ other. slice_cmp nat_cmp key other ≡ Less) (keys_of pairs)
keys_after key [] all = tt
keys_after key (pair ∷ pairs) all = (All-head (IsAfter key) pair pairs all, keys_after key pairs (All-tail (IsAfter key) pair pairs all))

after_keys : (key : List ℕ) (pairs : List (List ℕ × ℕ)) → All (λ other. slice_cmp nat_cmp key other ≡ Less) (keys_of pairs) → All (IsAfter key) pairs
after_keys key [] all = All-nil (IsAfter key)
after_keys key (pair ∷ pairs) all =
    All-cons (IsAfter key) pair pairs (All-head (λ other. slice_cmp nat_cmp key other ≡ Less) pair.0 (keys_of pairs) all) (after_keys key pairs (All-tail (λ other. slice_cmp nat_cmp key other ≡ Less) pair.0 (keys_of pairs) all))

rises : (pair : List ℕ × ℕ) (pairs : List (List ℕ × ℕ)) → All (IsAfter pair.0) pairs → IsStrictlySortedBy (slice_cmp nat_cmp) (keys_of pairs) → IsStrictlySortedBy (slice_cmp nat_cmp) (keys_of (pair ∷ pairs))
unfolding IsStrictlySortedBy
rises pair pairs after rising = (keys_after pair.0 pairs after, rising)

-- one more of another key
put_rises : (pair : List ℕ × ℕ) (pairs : List (List ℕ × ℕ)) → All (λ other. other.0 ≡ pair.0 → ⊥) pairs → IsStrictlySortedBy (slice_cmp nat_cmp) (keys_of pairs) → IsStrictlySortedBy (slice_cmp nat_cmp) (keys_of (put_pair pair pairs))
put_rises pair [] apart rising = rises pair [] (All-nil (IsAfter pair.0)) rising
put_rises pair (first ∷ pairs) apart rising = by (slice_cmp nat_cmp pair.0 first.0) refl (put_rises pair pairs (All-tail (λ other. other.0 ≡ pair.0 → ⊥) first pairs apart) (sorted_tail (slice_cmp nat_cmp) first.0 (keys_of pairs) rising))
  where
    after : All (IsAfter first.0) pairs
    after = after_keys first.0 pairs (All-after_first (slice_cmp nat_cmp) first.0 (keys_of pairs) rising)

    put : (b : Bool) → is_lt (slice_cmp nat_cmp pair.0 first.0) ≡ b → IsStrictlySortedBy (slice_cmp nat_cmp) (keys_of (put_pair pair pairs)) → IsStrictlySortedBy (slice_cmp nat_cmp) (keys_of (cond b (pair ∷ (first ∷ pairs)) (first ∷ put_pair pair pairs)))
    put true is rest =
        let less : slice_cmp nat_cmp pair.0 first.0 ≡ Less = is_less _ is in
        rises pair (first ∷ pairs)
        (All-cons (IsAfter pair.0) first pairs less (All-weaker (IsAfter first.0) (IsAfter pair.0) (λ other more. nat_list_cmp_total.trans pair.0 first.0 other.0 less more) pairs after)) rising
    put false is rest =
        rises first (put_pair pair pairs)
        (put_all (IsAfter first.0) pair pairs (not_less pair.0 first.0 (slice_cmp nat_cmp pair.0 first.0) refl is (λ same. All-head (λ other. other.0 ≡ pair.0 → ⊥) first pairs apart (sym same))) after) rest

    by : (order : Ordering) → slice_cmp nat_cmp pair.0 first.0 ≡ order → IsStrictlySortedBy (slice_cmp nat_cmp) (keys_of (put_pair pair pairs)) → IsStrictlySortedBy (slice_cmp nat_cmp) (keys_of (put_pair pair (first ∷ pairs)))
    by order is rest = put (is_lt (slice_cmp nat_cmp pair.0 first.0)) refl rest

-- those of all slots from one on

abbrev IsPairFrom : ℕ → List KeyRows → List ℕ × ℕ → Type 0
IsPairFrom first rows pair = (slot : ℕ) × ((pair.1 ≡ first + slot) × ((0 < count_at rows slot) × (key_at rows slot ≡ pair.0)))

later_pair : (first : ℕ) (r : KeyRows) (rows : List KeyRows) (pair : List ℕ × ℕ) → IsPairFrom (suc first) rows pair → IsPairFrom first (r ∷ rows) pair
later_pair first r rows pair (slot, (at, (some, same))) = (suc slot, (omega (arith, at), (some, same)))

all_pairs : (first : ℕ) (rows : List KeyRows) → All (IsPairFrom first rows) (pairs_from first rows)
all_pairs first [] = All-nil (IsPairFrom first [])
all_pairs first (r ∷ rows) = by (length r.kept.items == 0) refl (All-weaker (IsPairFrom (suc first) rows) (IsPairFrom first (r ∷ rows)) (later_pair first r rows) (pairs_from (suc first) rows) (all_pairs (suc first) rows))
  where
    by : (b : Bool) → (length r.kept.items == 0) ≡ b → All (IsPairFrom first (r ∷ rows)) (pairs_from (suc first) rows) → All (IsPairFrom first (r ∷ rows)) (cond b (pairs_from (suc first) rows) (put_pair (r.key, first) (pairs_from (suc first) rows)))
    by true is rest = rest
    by false is rest = put_all (IsPairFrom first (r ∷ rows)) (r.key, first) (pairs_from (suc first) rows) (0, (omega arith, (some_of (length r.kept.items) (ap not is), refl))) rest

pair_there : (first : ℕ) (rows : List KeyRows) (slot : ℕ) → 0 < count_at rows slot → Contains (pairs_from first rows) (key_at rows slot, first + slot)
pair_there first [] slot some = absurd (omega (arith, some))
pair_there first (r ∷ rows) zero some = by (length r.kept.items == 0) refl
  where
    at : first ≡ first + 0
    at = omega arith

    by : (b : Bool) → (length r.kept.items == 0) ≡ b → Contains (cond b (pairs_from (suc first) rows) (put_pair (r.key, first) (pairs_from (suc first) rows))) (r.key, first + 0)
    by true is = absurd (omega (arith, some, (Decides-eqb (length r.kept.items) 0).0 is))
    by false is = subst (λ (n : ℕ). Contains (put_pair (r.key, first) (pairs_from (suc first) rows)) (r.key, n)) at (put_there (r.key, first) (pairs_from (suc first) rows))
pair_there first (r ∷ rows) (suc slot) some = by (length r.kept.items == 0) (subst (λ (n : ℕ). Contains (pairs_from (suc first) rows) (key_at rows slot, n)) at (pair_there (suc first) rows slot some))
  where
    at : suc first + slot ≡ first + suc slot
    at = omega arith

    by : (b : Bool) → Contains (pairs_from (suc first) rows) (key_at rows slot, first + suc slot) → Contains (cond b (pairs_from (suc first) rows) (put_pair (r.key, first) (pairs_from (suc first) rows))) (key_at rows slot, first + suc slot)
    by true rest = rest
    by false rest = put_among (r.key, first) (pairs_from (suc first) rows) (key_at rows slot, first + suc slot) rest

bound_rest : (r : KeyRows) (rows : List KeyRows) → IsBound (r ∷ rows) → IsBound rows
bound_rest r rows bound = record {
  apart = λ slot other some more same. (let is : suc slot ≡ suc other = bound.apart (suc slot) (suc other) some more same in omega (arith, is));
  short = λ slot some. bound.short (suc slot) some;
}

pairs_rise : (first : ℕ) (rows : List KeyRows) → IsBound rows → IsStrictlySortedBy (slice_cmp nat_cmp) (keys_of (pairs_from first rows))
unfolding IsStrictlySortedBy
pairs_rise first [] bound = tt
pairs_rise first (r ∷ rows) bound = by (length r.kept.items == 0) refl (pairs_rise (suc first) rows (bound_rest r rows bound))
  where
    apart : (length r.kept.items == 0) ≡ false → (pair : List ℕ × ℕ) → IsPairFrom (suc first) rows pair → pair.0 ≡ r.key → ⊥
    apart is pair (slot, (at, (some, same))) equal =
        let one : suc slot ≡ 0 = bound.apart (suc slot) 0 some (some_of (length r.kept.items) (ap not is)) (same ∙ equal) in
        absurd (omega (arith, one))

    by : (b : Bool) → (length r.kept.items == 0) ≡ b → IsStrictlySortedBy (slice_cmp nat_cmp) (keys_of (pairs_from (suc first) rows)) → IsStrictlySortedBy (slice_cmp nat_cmp) (keys_of (cond b (pairs_from (suc first) rows) (put_pair (r.key, first) (pairs_from (suc first) rows))))
    by true is rest = rest
    by false is rest = put_rises (r.key, first) (pairs_from (suc first) rows) (All-weaker (IsPairFrom (suc first) rows) (λ other. other.0 ≡ r.key → ⊥) (apart is) (pairs_from (suc first) rows) (all_pairs (suc first) rows)) rest

pub pairs_order : (wanted : Wanted) (rows : List KeyRows) → IsBound rows → AreInOrder wanted rows (pairs_from 0 rows)
pairs_order wanted rows bound = record {
  rising = pairs_rise 0 rows bound;
  found = All-weaker (IsPairFrom 0 rows) (λ pair. slot_in rows pair.0 ≡ Some pair.1) found (pairs_from 0 rows) (all_pairs 0 rows);
  all = λ key slot node at is. subst (λ (k : List ℕ). Contains (pairs_from 0 rows) (k, slot)) (slot_key rows key slot at) (subst (λ (n : ℕ). Contains (pairs_from 0 rows) (key_at rows slot, n)) (let is : 0 + slot ≡ slot = omega arith in is) (pair_there 0 rows slot (slot_filled rows key slot at)));
}
  where
    found : (pair : List ℕ × ℕ) → IsPairFrom 0 rows pair → slot_in rows pair.0 ≡ Some pair.1
    found pair (slot, (at, (some, same))) = slot_of rows pair.0 slot bound some same ∙ ap Some (let is : slot ≡ pair.1 = omega (arith, at) in is)
