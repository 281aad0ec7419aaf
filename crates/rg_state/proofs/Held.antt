-- Each slot in which something is kept is among those that are tried for its key: what a write leaves of it.
use Rattle.std.proofs.Common.{◌≡◌, ◌∙◌, ℕ, zero, suc, ◌+◌, ◌<◌, ◌≤◌, ◌==◌, Bool, true, false, List, [], ◌∷◌, ◌++◌, length, get_or, set, Some, None, refl, ap, sym, subst, arith}
use Rattle.std.specs.BTreeMap.{BTreeMap, get}
use Rattle.std.specs.Cmp.Lexicographic.{slice_cmp}
use Rattle.std.specs.Ordering.{nat_cmp}
use Rattle.std.proofs.lemmas.Bool.Decides.{Decides-eqb}
use Rattle.rg_group.specs.Mixes.{mix}
use Rattle.rg_key_index.specs.Index.{Holds}
use Rattle.rg_state.specs.Cells.{count_at, key_at, slot_in, IsBound, AreHeld, AreHeldBelow, NoneGuessed}
use Rattle.rg_key_index.proofs.Laws.{overflowed_where_not_guessed}
use Rattle.rg_state.specs.Slots.{no_slot, slot_filled, slot_key}
use Rattle.rg_state.specs.declared.key_rows.KeyRows.{KeyRows}
use Rattle.rg_state.proofs.Slotted.{count_beside, key_beside, key_there, key_set, key_more, is_apart, used_beside}

abbrev pub Over : Type 0
Over = BTreeMap (List ℕ) ℕ

abbrev pub IsHeld : List ℕ → Over → List ℕ → ℕ → Type 0
IsHeld buckets overflow key slot = Holds buckets overflow (mix key) key slot

-- what an index has of other keys stays
abbrev pub Stays : List ℕ → List ℕ → Over → Over → List ℕ → Type 0
Stays old new was now key = (m : ℕ) (k : List ℕ) (s : ℕ) → (k ≡ key → ⊥) → Holds old was m k s → Holds new now m k s

pub held_none : (buckets : List ℕ) (overflow : Over) (rows : List KeyRows) → rows ≡ [] → AreHeld buckets overflow rows
held_none buckets overflow rows none = subst (AreHeld buckets overflow) (sym none) (λ slot some. absurd (omega (arith, some)))

pub held_written : (buckets : List ℕ) (overflow : Over) (rows : List KeyRows) (slot : ℕ) (old r : KeyRows) → AreHeld buckets overflow rows → slot < length rows → old ≡ get_or rows slot old → r.key ≡ old.key → 0 < count_at rows slot → AreHeld buckets overflow (set rows slot r)
held_written buckets overflow rows slot old r are within is same was other some = by (other == slot) refl
  where
    by : (b : Bool) → (other == slot) ≡ b → IsHeld buckets overflow (key_at (set rows slot r) other) other
    by true d =
        let e : other ≡ slot = (Decides-eqb other slot).0 d in
        let key : key_at rows other ≡ key_at (set rows slot r) other = ap (key_at rows) e ∙ key_there rows slot old within is ∙ sym same ∙ sym (key_set rows slot r within) ∙ ap (key_at (set rows slot r)) (sym e) in
        subst (λ (k : List ℕ). IsHeld buckets overflow k other) key (are other (subst (λ s. 0 < count_at rows s) (sym e) was))
    by false d =
        let apart : other ≡ slot → ⊥ = is_apart other slot d in
        subst (λ (k : List ℕ). IsHeld buckets overflow k other) (sym (key_beside rows slot other r apart)) (are other (omega (arith, some, count_beside rows slot other r apart)))

-- nothing is kept in the slot then
pub held_spared : (buckets : List ℕ) (overflow : Over) (rows : List KeyRows) (slot : ℕ) (r : KeyRows) → AreHeld buckets overflow rows → slot < length rows → length r.kept.items ≡ 0 → AreHeld buckets overflow (set rows slot r)
held_spared buckets overflow rows slot r are within none other some =
    let apart : other ≡ slot → ⊥ = used_beside rows slot other r within none some in
    subst (λ (k : List ℕ). IsHeld buckets overflow k other) (sym (key_beside rows slot other r apart)) (are other (omega (arith, some, count_beside rows slot other r apart)))

pub held_lost : (old new : List ℕ) (was now : Over) (rows : List KeyRows) (slot : ℕ) (r : KeyRows) (key : List ℕ) → AreHeld old was rows → IsBound rows → slot < length rows → 0 < count_at rows slot → key_at rows slot ≡ key → length r.kept.items ≡ 0
    → ((m : ℕ) (k : List ℕ) (s : ℕ) → (k ≡ key → ⊥) → (s ≡ slot → ⊥) → Holds old was m k s → Holds new now m k s) → AreHeld new now (set rows slot r)
held_lost old new was now rows slot r key are bound within used is none stays other some =
    let apart : other ≡ slot → ⊥ = used_beside rows slot other r within none some in
    let before : 0 < count_at rows other = omega (arith, some, count_beside rows slot other r apart) in
    subst (λ (k : List ℕ). IsHeld new now k other) (sym (key_beside rows slot other r apart))
    (stays (mix (key_at rows other)) (key_at rows other) other (λ e. apart (bound.apart other slot before used (e ∙ sym is))) apart (are other before))

-- a key that isn't there is put into the index, and none of the others is lost
pub held_stays : (old new : List ℕ) (was now : Over) (rows : List KeyRows) (key : List ℕ) → AreHeld old was rows → slot_in rows key ≡ None → Stays old new was now key → AreHeld new now rows
held_stays old new was now rows key are none stays slot some = stays (mix (key_at rows slot)) (key_at rows slot) slot (λ e. no_slot rows key slot none some e) (are slot some)

-- and is given a slot
pub held_opened : (buckets : List ℕ) (overflow : Over) (rows : List KeyRows) (slot : ℕ) (r : KeyRows) → AreHeld buckets overflow rows → slot < length rows → IsHeld buckets overflow r.key slot → AreHeld buckets overflow (set rows slot r)
held_opened buckets overflow rows slot r are within held other some = by (other == slot) refl
  where
    by : (b : Bool) → (other == slot) ≡ b → IsHeld buckets overflow (key_at (set rows slot r) other) other
    by true d =
        let e : other ≡ slot = (Decides-eqb other slot).0 d in
        subst (λ (s : ℕ). IsHeld buckets overflow (key_at (set rows slot r) s) s) (sym e) (subst (λ (k : List ℕ). IsHeld buckets overflow k slot) (sym (key_set rows slot r within)) held)
    by false d =
        let apart : other ≡ slot → ⊥ = is_apart other slot d in
        subst (λ (k : List ℕ). IsHeld buckets overflow k other) (sym (key_beside rows slot other r apart)) (are other (omega (arith, some, count_beside rows slot other r apart)))

pub held_more : (buckets : List ℕ) (overflow : Over) (rows : List KeyRows) (r : KeyRows) → AreHeld buckets overflow rows → length r.kept.items ≡ 0 → AreHeld buckets overflow (rows ++ r ∷ [])
held_more buckets overflow rows r are none slot some =
    let more = key_more rows r slot none some in
    subst (λ (k : List ℕ). IsHeld buckets overflow k slot) (sym more.1) (are slot more.0)

less_of : (n m : ℕ) → n ≤ m → (n ≡ m → ⊥) → n < m
less_of zero zero le apart = absurd (apart refl)
less_of zero (suc m) le apart = omega arith
less_of (suc n) zero le apart = absurd (omega (arith, le))
less_of (suc n) (suc m) le apart = let rest : n < m = less_of n m (omega (arith, le)) (λ e. apart (ap suc e)) in omega (arith, rest)

-- a key that isn't guessed has the slot that overflowed, or none

pub overflowed_of : (buckets : List ℕ) (overflow : Over) (rows : List KeyRows) (key : List ℕ) (slot : ℕ) → AreHeld buckets overflow rows → NoneGuessed buckets (mix key) rows key → slot_in rows key ≡ Some slot → get (slice_cmp nat_cmp) overflow key ≡ Some slot
overflowed_of buckets overflow rows key slot are none found =
    let held : Holds buckets overflow (mix key) key slot = subst (λ (k : List ℕ). Holds buckets overflow (mix k) k slot) (slot_key rows key slot found) (are slot (slot_filled rows key slot found)) in
    overflowed_where_not_guessed buckets overflow (mix key) key slot held (λ i below told. none i below slot told found)

-- one slot more of those below a number

pub held_next : (old new : List ℕ) (was now : Over) (rows : List KeyRows) (slot : ℕ) → IsBound rows → 0 < count_at rows slot → IsHeld new now (key_at rows slot) slot → Stays old new was now (key_at rows slot) → AreHeldBelow old was rows slot → AreHeldBelow new now rows (slot + 1)
held_next old new was now rows slot bound used held stays are other less some = by (other == slot) refl
  where
    by : (b : Bool) → (other == slot) ≡ b → IsHeld new now (key_at rows other) other
    by true d = subst (λ (s : ℕ). IsHeld new now (key_at rows s) s) (sym ((Decides-eqb other slot).0 d)) held
    by false d =
        let apart : other ≡ slot → ⊥ = is_apart other slot d in
        stays (mix (key_at rows other)) (key_at rows other) other (λ e. apart (bound.apart other slot some used e)) (are other (below apart) some)
      where
        below : (other ≡ slot → ⊥) → other < slot
        below apart = less_of other slot (omega (arith, less)) apart

pub held_skipped : (buckets : List ℕ) (overflow : Over) (rows : List KeyRows) (slot : ℕ) → count_at rows slot ≡ 0 → AreHeldBelow buckets overflow rows slot → AreHeldBelow buckets overflow rows (slot + 1)
held_skipped buckets overflow rows slot none are other less some = are other (less_of other slot (omega (arith, less)) (λ e. absurd (omega (arith, some, ap (count_at rows) e, none)))) some
