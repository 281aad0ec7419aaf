-- The rows of keys by slot: one more slot, a write in a slot, a key that is given a slot and one that loses it.
use Rattle.std.proofs.Common.{◌≡◌, ◌∙◌, ℕ, zero, suc, ◌<◌, ◌≤◌, ◌==◌, ◌&&◌, not, cond, Bool, true, false, List, [], ◌∷◌, ◌++◌, length, get_or, set, Option, None, Some, refl, ap, sym, subst, arith, true≢false}
use Rattle.std.specs.Prelude.{Result, Ok, Err, OnErr, bytes_eq}
use Rattle.std.specs.Option.{option_map}
use Rattle.std.specs.Cmp.Lexicographic.{bytes_decides}
use Rattle.std.proofs.lemmas.Bool.Decides.{Decides-eqb}
use Rattle.rg_state.specs.Cells.{row_at, count_at, key_at, is_of, row_by, slot_in, seen_in, IsBound, OthersSeen, SameSeen, SameSlots}
use Rattle.rg_state.specs.Slots.{slot_filled, slot_key, slot_of, no_slot, kept_of}
use Rattle.rg_state.specs.Kepts.{unseen, settled, fresh, seen_at, IsFirst, IsKeptSame}
use Rattle.rg_agg.specs.Held.{Held}
use Rattle.rg_bytes.specs.declared.memory.Memory.{Memory}
use Rattle.rg_event.specs.declared.value.Value.{Value}
use Rattle.rg_keywords.specs.declared.func.Func.{Func}
use Rattle.rg_state.specs.SlotSteps.{SlotsGet, SlotsStep}
use Rattle.rg_state.specs.Stepping.{RowsStep, RowsGet}
use Rattle.rg_state.specs.declared.key_rows.Kept.{Kept}
use Rattle.rg_state.specs.declared.key_rows.KeyRows.{KeyRows}
use Rattle.rg_state.specs.declared.one.Refusal.{Refusal}
use Rattle.rg_state.specs.declared.table.Change.{Change}

pub row_there : (rows : List KeyRows) (slot node : ℕ) (r : KeyRows) → slot < length rows → r ≡ get_or rows slot r → row_at rows slot node ≡ seen_at r.kept.items node
row_there [] slot node r within is = absurd (omega arith)
row_there (x ∷ rows) zero node r within is = ap (λ r. seen_at r.kept.items node) (sym is)
row_there (x ∷ rows) (suc slot) node r within is = row_there rows slot node r (omega arith) is

pub count_there : (rows : List KeyRows) (slot : ℕ) (r : KeyRows) → slot < length rows → r ≡ get_or rows slot r → count_at rows slot ≡ length r.kept.items
count_there [] slot r within is = absurd (omega arith)
count_there (x ∷ rows) zero r within is = ap (λ r. length r.kept.items) (sym is)
count_there (x ∷ rows) (suc slot) r within is = count_there rows slot r (omega arith) is

pub within_of : (rows : List KeyRows) (slot : ℕ) → 0 < count_at rows slot → slot < length rows
within_of [] slot some = absurd (omega arith)
within_of (x ∷ rows) zero some = omega arith
within_of (x ∷ rows) (suc slot) some = let later : slot < length rows = within_of rows slot some in omega arith

pub row_set : (rows : List KeyRows) (slot node : ℕ) (r : KeyRows) → slot < length rows → row_at (set rows slot r) slot node ≡ seen_at r.kept.items node
row_set [] slot node r within = absurd (omega arith)
row_set (x ∷ rows) zero node r within = refl
row_set (x ∷ rows) (suc slot) node r within = row_set rows slot node r (omega arith)

pub count_set : (rows : List KeyRows) (slot : ℕ) (r : KeyRows) → slot < length rows → count_at (set rows slot r) slot ≡ length r.kept.items
count_set [] slot r within = absurd (omega arith)
count_set (x ∷ rows) zero r within = refl
count_set (x ∷ rows) (suc slot) r within = count_set rows slot r (omega arith)

pub row_beside : (rows : List KeyRows) (slot other node : ℕ) (r : KeyRows) → (other ≡ slot → ⊥) → row_at (set rows slot r) other node ≡ row_at rows other node
row_beside [] slot other node r apart = refl
row_beside (x ∷ rows) zero zero node r apart = absurd (apart refl)
row_beside (x ∷ rows) zero (suc other) node r apart = refl
row_beside (x ∷ rows) (suc slot) zero node r apart = refl
row_beside (x ∷ rows) (suc slot) (suc other) node r apart = row_beside rows slot other node r (λ e. apart (ap suc e))

pub count_beside : (rows : List KeyRows) (slot other : ℕ) (r : KeyRows) → (other ≡ slot → ⊥) → count_at (set rows slot r) other ≡ count_at rows other
count_beside [] slot other r apart = refl
count_beside (x ∷ rows) zero zero r apart = absurd (apart refl)
count_beside (x ∷ rows) zero (suc other) r apart = refl
count_beside (x ∷ rows) (suc slot) zero r apart = refl
count_beside (x ∷ rows) (suc slot) (suc other) r apart = count_beside rows slot other r (λ e. apart (ap suc e))

pub is_apart : (n m : ℕ) → (n == m) ≡ false → n ≡ m → ⊥
is_apart n m d e = true≢false (sym ((Decides-eqb n m).1 e) ∙ d)

-- a slot more, without rows

pub empty_row : (ks : List Kept) (node : ℕ) → length ks ≡ 0 → seen_at ks node ≡ unseen
empty_row [] node none = refl
empty_row (k ∷ ks) node none = absurd (omega arith)

pub row_pushed : (rows : List KeyRows) (r : KeyRows) (slot node : ℕ) → length r.kept.items ≡ 0 → row_at (rows ++ r ∷ []) slot node ≡ row_at rows slot node
row_pushed [] r zero node none = empty_row r.kept.items node none
row_pushed [] r (suc slot) node none = refl
row_pushed (x ∷ rows) r zero node none = refl
row_pushed (x ∷ rows) r (suc slot) node none = row_pushed rows r slot node none

pub count_pushed : (rows : List KeyRows) (r : KeyRows) (slot : ℕ) → length r.kept.items ≡ 0 → count_at (rows ++ r ∷ []) slot ≡ count_at rows slot
count_pushed [] r zero none = none
count_pushed [] r (suc slot) none = refl
count_pushed (x ∷ rows) r zero none = refl
count_pushed (x ∷ rows) r (suc slot) none = count_pushed rows r slot none

-- the key of a slot

pub key_there : (rows : List KeyRows) (slot : ℕ) (r : KeyRows) → slot < length rows → r ≡ get_or rows slot r → key_at rows slot ≡ r.key
key_there [] slot r within is = absurd (omega (arith, within))
key_there (x ∷ rows) zero r within is = ap (λ r. r.key) (sym is)
key_there (x ∷ rows) (suc slot) r within is = key_there rows slot r (omega (arith, within)) is

pub key_past : (rows : List KeyRows) (slot : ℕ) → length rows ≤ slot → key_at rows slot ≡ []
key_past [] slot past = refl
key_past (x ∷ rows) zero past = absurd (omega (arith, past))
key_past (x ∷ rows) (suc slot) past = key_past rows slot (omega (arith, past))

pub key_set : (rows : List KeyRows) (slot : ℕ) (r : KeyRows) → slot < length rows → key_at (set rows slot r) slot ≡ r.key
key_set [] slot r within = absurd (omega (arith, within))
key_set (x ∷ rows) zero r within = refl
key_set (x ∷ rows) (suc slot) r within = key_set rows slot r (omega (arith, within))

pub key_beside : (rows : List KeyRows) (slot other : ℕ) (r : KeyRows) → (other ≡ slot → ⊥) → key_at (set rows slot r) other ≡ key_at rows other
key_beside [] slot other r apart = refl
key_beside (x ∷ rows) zero zero r apart = absurd (apart refl)
key_beside (x ∷ rows) zero (suc other) r apart = refl
key_beside (x ∷ rows) (suc slot) zero r apart = refl
key_beside (x ∷ rows) (suc slot) (suc other) r apart = key_beside rows slot other r (λ e. apart (ap suc e))

key_pushed : (rows : List KeyRows) (r : KeyRows) (slot : ℕ) → length r.kept.items ≡ 0 → 0 < count_at rows slot → key_at (rows ++ r ∷ []) slot ≡ key_at rows slot
key_pushed [] r slot none some = absurd (omega (arith, some))
key_pushed (x ∷ rows) r zero none some = refl
key_pushed (x ∷ rows) r (suc slot) none some = key_pushed rows r slot none some

-- whether something is kept of a key

is_false : (b : Bool) → (b ≡ true → ⊥) → b ≡ false
is_false true not = absurd (not refl)
is_false false not = refl

pub not_of : (r : KeyRows) (key : List ℕ) → length r.kept.items ≡ 0 → is_of r key ≡ false
not_of r key none = is_false (is_of r key) (λ is. absurd (omega (arith, kept_of r key is, none)))

other_false : (b c : Bool) → c ≡ false → (b && c) ≡ false
other_false true c is = is
other_false false c is = refl

pub not_key : (r : KeyRows) (key k : List ℕ) → r.key ≡ key → (k ≡ key → ⊥) → is_of r k ≡ false
not_key r key k same apart = other_false (not (length r.kept.items == 0)) (bytes_eq r.key k) (is_false (bytes_eq r.key k) (λ e. apart (sym ((bytes_decides r.key k).0 e) ∙ same)))

pub some_true : (n : ℕ) → 0 < n → not (n == 0) ≡ true
some_true n some = by (n == 0) refl
  where
    by : (b : Bool) → (n == 0) ≡ b → not b ≡ true
    by true is = absurd (omega (arith, some, (Decides-eqb n 0).0 is))
    by false is = refl

same_of : (r x : KeyRows) (k : List ℕ) → r.key ≡ x.key → 0 < length r.kept.items → 0 < length x.kept.items → is_of r k ≡ is_of x k
same_of r x k same some was =
    ap (λ b. b && bytes_eq r.key k) (some_true (length r.kept.items) some ∙ sym (some_true (length x.kept.items) was)) ∙ ap (λ (key : List ℕ). not (length x.kept.items == 0) && bytes_eq key k) same

-- a write leaves the slots of the keys of which nothing is kept there, before and after, or something both times

slots_set : (rows : List KeyRows) (slot : ℕ) (old r : KeyRows) (k : List ℕ) → slot < length rows → old ≡ get_or rows slot old → is_of r k ≡ is_of old k → slot_in (set rows slot r) k ≡ slot_in rows k
slots_set [] slot old r k within is same = absurd (omega (arith, within))
slots_set (x ∷ rows) zero old r k within is same = ap (λ b. cond b (Some 0) (option_map (λ s. suc s) (slot_in rows k))) (same ∙ ap (λ r. is_of r k) is)
slots_set (x ∷ rows) (suc slot) old r k within is same = ap (λ at. cond (is_of x k) (Some 0) (option_map (λ s. suc s) at)) (slots_set rows slot old r k (omega (arith, within)) is same)

pub slots_pushed : (rows : List KeyRows) (r : KeyRows) (k : List ℕ) → length r.kept.items ≡ 0 → slot_in (rows ++ r ∷ []) k ≡ slot_in rows k
slots_pushed [] r k none = ap (λ b. cond b (Some 0) None) (not_of r k none)
slots_pushed (x ∷ rows) r k none = ap (λ at. cond (is_of x k) (Some 0) (option_map (λ s. suc s) at)) (slots_pushed rows r k none)

-- the keys are apart and short after a write

bound_by : (rows : List KeyRows) (slot : ℕ) (r : KeyRows) → IsBound rows → slot < length rows → (0 < length r.kept.items → length r.key ≤ 2056) → (0 < length r.kept.items → (other : ℕ) → (other ≡ slot → ⊥) → 0 < count_at rows other → key_at rows other ≡ r.key → ⊥) → IsBound (set rows slot r)
bound_by rows slot r bound within short apart = record {
  apart = λ one two some more same. one_by one two some more same (one == slot) (two == slot) refl refl;
  short = λ one some. short_by one some (one == slot) refl;
}
  where
    now : List KeyRows
    now = set rows slot r

    was : (other : ℕ) → (other == slot) ≡ false → 0 < count_at now other → 0 < count_at rows other
    was other d some = omega (arith, some, count_beside rows slot other r (is_apart other slot d))

    key_was : (other : ℕ) → (other == slot) ≡ false → key_at now other ≡ key_at rows other
    key_was other d = key_beside rows slot other r (is_apart other slot d)

    kept : (other : ℕ) → other ≡ slot → 0 < count_at now other → 0 < length r.kept.items
    kept other e some = omega (arith, some, ap (count_at now) e, count_set rows slot r within)

    key_now : (other : ℕ) → other ≡ slot → key_at now other ≡ r.key
    key_now other e = ap (key_at now) e ∙ key_set rows slot r within

    one_by : (one two : ℕ) → 0 < count_at now one → 0 < count_at now two → key_at now one ≡ key_at now two → (b c : Bool) → (one == slot) ≡ b → (two == slot) ≡ c → one ≡ two
    one_by one two some more same true true d e = (Decides-eqb one slot).0 d ∙ sym ((Decides-eqb two slot).0 e)
    one_by one two some more same true false d e =
        let at : one ≡ slot = (Decides-eqb one slot).0 d in
        absurd (apart (kept one at some) two (is_apart two slot e) (was two e more) (sym (key_was two e) ∙ sym same ∙ key_now one at))
    one_by one two some more same false true d e =
        let at : two ≡ slot = (Decides-eqb two slot).0 e in
        absurd (apart (kept two at more) one (is_apart one slot d) (was one d some) (sym (key_was one d) ∙ same ∙ key_now two at))
    one_by one two some more same false false d e = bound.apart one two (was one d some) (was two e more) (sym (key_was one d) ∙ same ∙ key_was two e)

    short_by : (one : ℕ) → 0 < count_at now one → (b : Bool) → (one == slot) ≡ b → length (key_at now one) ≤ 2056
    short_by one some true d =
        let at : one ≡ slot = (Decides-eqb one slot).0 d in
        subst (λ (k : List ℕ). length k ≤ 2056) (sym (key_now one at)) (short (kept one at some))
    short_by one some false d = subst (λ (k : List ℕ). length k ≤ 2056) (sym (key_was one d)) (bound.short one (was one d some))

pub bound_none : (rows : List KeyRows) → rows ≡ [] → IsBound rows
bound_none rows none = subst IsBound (sym none) (record {
  apart = λ one two some more same. absurd (omega (arith, some));
  short = λ one some. absurd (omega (arith, some));
})

-- a slot more, without rows

pub bound_more : (rows : List KeyRows) (r : KeyRows) → length r.kept.items ≡ 0 → IsBound rows → IsBound (rows ++ r ∷ [])
bound_more rows r none bound = record {
  apart = λ one two some more same. bound.apart one two (was one some) (was two more) (sym (key_pushed rows r one none (was one some)) ∙ same ∙ key_pushed rows r two none (was two more));
  short = λ one some. subst (λ (k : List ℕ). length k ≤ 2056) (sym (key_pushed rows r one none (was one some))) (bound.short one (was one some));
}
  where
    was : (other : ℕ) → 0 < count_at (rows ++ r ∷ []) other → 0 < count_at rows other
    was other some = omega (arith, some, count_pushed rows r other none)

pub same_more : (rows : List KeyRows) (r : KeyRows) → length r.kept.items ≡ 0 → SameSlots rows (rows ++ r ∷ [])
same_more rows r none = record {
  slots = λ key. slots_pushed rows r key none;
  rows = λ slot node. row_pushed rows r slot node none;
}

pub key_more : (rows : List KeyRows) (r : KeyRows) (slot : ℕ) → length r.kept.items ≡ 0 → 0 < count_at (rows ++ r ∷ []) slot → (0 < count_at rows slot) × (key_at (rows ++ r ∷ []) slot ≡ key_at rows slot)
key_more rows r slot none some =
    let was : 0 < count_at rows slot = omega (arith, some, count_pushed rows r slot none) in
    (was, key_pushed rows r slot none was)

-- rows in which nothing changed

same_rows : (rows new : List KeyRows) (n : ℕ) → ((slot node : ℕ) → row_at new slot node ≡ row_at rows slot node) → (at : Option ℕ) → row_by new at n ≡ row_by rows at n
same_rows rows new n same None = refl
same_rows rows new n same (Some slot) = same slot n

pub seen_same : (old new : List KeyRows) → SameSlots old new → SameSeen (seen_in old) (seen_in new)
seen_same old new same n k = same_rows old new n same.rows (slot_in new k) ∙ ap (λ at. row_by old at n) (same.slots k)

pub same_slots : (old new : List KeyRows) → new ≡ old → SameSlots old new
same_slots old new is = record { slots = λ key. ap (λ rs. slot_in rs key) is; rows = λ slot node. ap (λ rs. row_at rs slot node) is }

-- a write in a slot in which nothing is kept, before and after

pub bound_spared : (rows : List KeyRows) (slot : ℕ) (r : KeyRows) → IsBound rows → slot < length rows → length r.kept.items ≡ 0 → IsBound (set rows slot r)
bound_spared rows slot r bound within none = bound_by rows slot r bound within (λ some. absurd (omega (arith, some, none))) (λ some. absurd (omega (arith, some, none)))

pub same_spared : (rows : List KeyRows) (slot : ℕ) (old r : KeyRows) → slot < length rows → old ≡ get_or rows slot old → count_at rows slot ≡ 0 → length r.kept.items ≡ 0 → SameSlots rows (set rows slot r)
same_spared rows slot old r within is none empty = record {
  slots = λ key. slots_set rows slot old r key within is (not_of r key empty ∙ sym (not_of old key (sym (count_there rows slot old within is) ∙ none)));
  rows = λ other node. by other node (other == slot) refl;
}
  where
    by : (other node : ℕ) (b : Bool) → (other == slot) ≡ b → row_at (set rows slot r) other node ≡ row_at rows other node
    by other node true d =
        let e : other ≡ slot = (Decides-eqb other slot).0 d in
        ap (λ s. row_at (set rows slot r) s node) e ∙ row_set rows slot node r within ∙ empty_row r.kept.items node empty
        ∙ sym (row_there rows slot node old within is ∙ empty_row old.kept.items node (sym (count_there rows slot old within is) ∙ none)) ∙ ap (λ s. row_at rows s node) (sym e)
    by other node false d = row_beside rows slot other node r (is_apart other slot d)

-- a slot after a write, where it isn't the one that was written
pub used_beside : (rows : List KeyRows) (slot other : ℕ) (r : KeyRows) → slot < length rows → length r.kept.items ≡ 0 → 0 < count_at (set rows slot r) other → (other ≡ slot → ⊥)
used_beside rows slot other r within none some e = absurd (omega (arith, some, ap (count_at (set rows slot r)) e, count_set rows slot r within, none))

-- a write in the slot of a key

module _ (rows : List KeyRows) (slot : ℕ) (old r : KeyRows) (within : slot < length rows) (is : old ≡ get_or rows slot old) where
  was_count : count_at rows slot ≡ length old.kept.items
  was_count = count_there rows slot old within is

  was_key : key_at rows slot ≡ old.key
  was_key = key_there rows slot old within is

  pub bound_written : IsBound rows → r.key ≡ old.key → 0 < count_at rows slot → IsBound (set rows slot r)
  bound_written bound same was =
      bound_by rows slot r bound within (λ some. subst (λ (k : List ℕ). length k ≤ 2056) (was_key ∙ sym same) (bound.short slot was))
      (λ some other apart used key. apart (bound.apart other slot used was (key ∙ same ∙ sym was_key)))

  pub slots_written : r.key ≡ old.key → 0 < count_at rows slot → 0 < length r.kept.items → (k : List ℕ) → slot_in (set rows slot r) k ≡ slot_in rows k
  slots_written same was some k = slots_set rows slot old r k within is (same_of r old k same some (omega (arith, was, was_count)))

  pub slots_lost : (key : List ℕ) → old.key ≡ key → length r.kept.items ≡ 0 → (k : List ℕ) → (k ≡ key → ⊥) → slot_in (set rows slot r) k ≡ slot_in rows k
  slots_lost key same none k apart = slots_set rows slot old r k within is (not_of r k none ∙ sym (not_key old key k same apart))

  pub slots_opened : (key : List ℕ) → r.key ≡ key → count_at rows slot ≡ 0 → (k : List ℕ) → (k ≡ key → ⊥) → slot_in (set rows slot r) k ≡ slot_in rows k
  slots_opened key same free k apart = slots_set rows slot old r k within is (not_key r key k same apart ∙ sym (not_of old k (sym was_count ∙ free)))

pub bound_opened : (rows : List KeyRows) (key : List ℕ) (slot : ℕ) (r : KeyRows) → IsBound rows → slot < length rows → r.key ≡ key → slot_in rows key ≡ None → length key ≤ 2056 → IsBound (set rows slot r)
bound_opened rows key slot r bound within same none short =
    bound_by rows slot r bound within (λ some. subst (λ (k : List ℕ). length k ≤ 2056) (sym same) short) (λ some other apart used is. no_slot rows key other none used (is ∙ same))

-- the slot that a key has then
pub slot_opened : (rows : List KeyRows) (key : List ℕ) (slot : ℕ) (r : KeyRows) → IsBound (set rows slot r) → slot < length rows → r.key ≡ key → 0 < length r.kept.items → slot_in (set rows slot r) key ≡ Some slot
slot_opened rows key slot r bound within same some = slot_of (set rows slot r) key slot bound (omega (arith, count_set rows slot r within, some)) (key_set rows slot r within ∙ same)

pub none_by : (rows : List KeyRows) (key : List ℕ) (at : Option ℕ) → slot_in rows key ≡ at → ((slot : ℕ) → slot_in rows key ≡ Some slot → ⊥) → slot_in rows key ≡ None
none_by rows key None is never = is
none_by rows key (Some slot) is never = absurd (never slot is)

-- and none, where its slot was emptied
pub slot_lost : (rows : List KeyRows) (key : List ℕ) (slot : ℕ) (r : KeyRows) → IsBound rows → slot_in rows key ≡ Some slot → slot < length rows → length r.kept.items ≡ 0 → slot_in (set rows slot r) key ≡ None
slot_lost rows key slot r bound found within none = none_by (set rows slot r) key (slot_in (set rows slot r) key) refl never
  where
    never : (other : ℕ) → slot_in (set rows slot r) key ≡ Some other → ⊥
    never other there =
        let some : 0 < count_at (set rows slot r) other = slot_filled (set rows slot r) key other there in
        let apart : other ≡ slot → ⊥ = used_beside rows slot other r within none some in
        apart (bound.apart other slot (omega (arith, some, count_beside rows slot other r apart)) (slot_filled rows key slot found)
        (sym (key_beside rows slot other r apart) ∙ slot_key (set rows slot r) key other there ∙ sym (slot_key rows key slot found)))

-- what is seen then

pub cell_of : (rows : List KeyRows) (key : List ℕ) (slot node : ℕ) → slot_in rows key ≡ Some slot → seen_in rows node key ≡ row_at rows slot node
cell_of rows key slot node found = ap (λ s. row_by rows s node) found

pub cell_read : (rows : List KeyRows) (key : List ℕ) (slot node : ℕ) (r : KeyRows) → slot_in rows key ≡ Some slot → slot < length rows → r ≡ get_or rows slot r → seen_in rows node key ≡ seen_at r.kept.items node
cell_read rows key slot node r found within is = cell_of rows key slot node found ∙ row_there rows slot node r within is

-- the rows of a key in a slot, before a write there and after it, as the slots were before
beside_by : (rows : List KeyRows) (key : List ℕ) (slot : ℕ) (old new : KeyRows) (n : ℕ) (k : List ℕ) → slot_in rows key ≡ Some slot → slot < length rows → old ≡ get_or rows slot old →
    (k ≡ key → seen_at new.kept.items n ≡ seen_at old.kept.items n) → (at : Option ℕ) → slot_in rows k ≡ at → row_by (set rows slot new) at n ≡ row_by rows at n
beside_by rows key slot old new n k found within is stays None there = refl
beside_by rows key slot old new n k found within is stays (Some other) there = by (other == slot) refl
  where
    by : (b : Bool) → (other == slot) ≡ b → row_at (set rows slot new) other n ≡ row_at rows other n
    by true d =
        let e : other ≡ slot = (Decides-eqb other slot).0 d in
        let same : k ≡ key = sym (slot_key rows k other there) ∙ ap (key_at rows) e ∙ slot_key rows key slot found in
        ap (λ s. row_at (set rows slot new) s n) e ∙ row_set rows slot n new within ∙ stays same ∙ sym (row_there rows slot n old within is) ∙ ap (λ s. row_at rows s n) (sym e)
    by false d = row_beside rows slot other n new (is_apart other slot d)

pub not_equal : (key k : List ℕ) → bytes_eq key k ≡ false → k ≡ key → ⊥
not_equal key k d e = true≢false (sym ((bytes_decides key k).1 (sym e)) ∙ d)

-- a slot that was found in rows that are the same
pub found_in : (rows was : List KeyRows) (key : List ℕ) (slot : ℕ) → rows ≡ was → Some slot ≡ slot_in was key → slot_in rows key ≡ Some slot
found_in rows was key slot same is = ap (λ rs. slot_in rs key) same ∙ sym is

-- what is done to the rows in the slot of a key

module _ (rows was : List KeyRows) (key : List ℕ) (slot node : ℕ) (old new : KeyRows) (same : rows ≡ was) (bound : IsBound rows) (found : slot_in rows key ≡ Some slot) (is : old ≡ get_or rows slot old) (kept : new.key ≡ old.key) where
  filled : 0 < count_at rows slot
  filled = slot_filled rows key slot found

  within_it : slot < length rows
  within_it = within_of rows slot filled

  read : seen_in rows node key ≡ seen_at old.kept.items node
  read = cell_read rows key slot node old found within_it is

  module _ (some : 0 < length new.kept.items) where
    stays : (n : ℕ) (k : List ℕ) → (k ≡ key → seen_at new.kept.items n ≡ seen_at old.kept.items n) → seen_in (set rows slot new) n k ≡ seen_in rows n k
    stays n k one = ap (λ at. row_by (set rows slot new) at n) (slots_written rows slot old new within_it is kept filled some k) ∙ beside_by rows key slot old new n k found within_it is one (slot_in rows k) refl

    written : seen_in (set rows slot new) node key ≡ seen_at new.kept.items node
    written = cell_of (set rows slot new) key slot node (slots_written rows slot old new within_it is kept filled some key ∙ found) ∙ row_set rows slot node new within_it

    refused : {A E : Type 0} (result : Result A E) → OnErr result (IsKeptSame old.kept.items new.kept.items) → OnErr result (SameSeen (seen_in rows) (seen_in (set rows slot new)))
    refused (Ok done) err = err
    refused (Err why) err = λ n k. stays n k (λ e. err.same n)

    pub step_written : (func : Func) (change : Change) (value : Value) (result : Result Unit Refusal) → RowsStep func change value node old.kept.items new.kept.items result → SlotsStep func change value node key (seen_in was) (seen_in (set rows slot new)) result
    step_written func change value result step = rw (sym same) (record {
      stepped = rw (read, written) step.stepped;
      others = λ n k apart. stays n k (λ e. step.others n (λ at. apart (at, e)));
      err = refused result step.err;
      refuses = rw read step.refuses;
    })

    pub got_written : (held : Held) (result : Result Unit Memory) → RowsGet held node old.kept.items new.kept.items result → SlotsGet held node key (seen_in was) (seen_in (set rows slot new)) result
    got_written held result got = rw (sym same) (record {
      row = rw written got.row;
      marks = rw (read, written) got.marks;
      others = λ n k apart. stays n k (λ e. got.others n (λ at. apart (at, e)));
      err = refused result got.err;
    })

  module _ (none : length new.kept.items ≡ 0) where
    gone : (n : ℕ) → seen_in (set rows slot new) n key ≡ seen_at new.kept.items n
    gone n = ap (λ at. row_by (set rows slot new) at n) (slot_lost rows key slot new bound found within_it none) ∙ sym (empty_row new.kept.items n none)

    pub lost_by : (n : ℕ) (k : List ℕ) → (k ≡ key → seen_at new.kept.items n ≡ seen_at old.kept.items n) → (b : Bool) → bytes_eq key k ≡ b → seen_in (set rows slot new) n k ≡ seen_in rows n k
    lost_by n k one true d =
        let e : key ≡ k = (bytes_decides key k).0 d in
        subst (λ (k : List ℕ). seen_in (set rows slot new) n k ≡ seen_in rows n k) e (gone n ∙ one (sym e) ∙ sym (cell_read rows key slot n old found within_it is))
    lost_by n k one false d =
        ap (λ at. row_by (set rows slot new) at n) (slots_lost rows slot old new within_it is key (sym (key_there rows slot old within_it is) ∙ slot_key rows key slot found) none k (not_equal key k d))
        ∙ beside_by rows key slot old new n k found within_it is (λ e. absurd (not_equal key k d e)) (slot_in rows k) refl

    pub step_lost : (func : Func) (change : Change) (value : Value) → RowsStep func change value node old.kept.items new.kept.items (Ok tt) → SlotsStep func change value node key (seen_in was) (seen_in (set rows slot new)) (Ok tt)
    step_lost func change value step = rw (sym same) (record {
      stepped = rw (read, gone node) step.stepped;
      others = λ n k apart. lost_by n k (λ e. step.others n (λ at. apart (at, e))) (bytes_eq key k) refl;
      err = tt;
      refuses = tt;
    })

-- the rows of a slot, settled

settled_at : (rows : List KeyRows) (slot : ℕ) (old new : KeyRows) (n : ℕ) (at : Option ℕ) → slot < length rows → old ≡ get_or rows slot old → ((node : ℕ) → seen_at new.kept.items node ≡ settled (seen_at old.kept.items node)) → settled (row_by (set rows slot new) at n) ≡ settled (row_by rows at n)
settled_at rows slot old new n None within is all = refl
settled_at rows slot old new n (Some other) within is all = by (other == slot) refl
  where
    by : (b : Bool) → (other == slot) ≡ b → settled (row_at (set rows slot new) other n) ≡ settled (row_at rows other n)
    by true d =
        let e : other ≡ slot = (Decides-eqb other slot).0 d in
        ap (λ s. settled (row_at (set rows slot new) s n)) e ∙ ap settled (row_set rows slot n new within ∙ all n ∙ ap settled (sym (row_there rows slot n old within is))) ∙ ap (λ s. settled (row_at rows s n)) (sym e)
    by false d = ap settled (row_beside rows slot other n new (is_apart other slot d))

module _ (rows : List KeyRows) (slot : ℕ) (old new : KeyRows) (was : 0 < count_at rows slot) (is : old ≡ get_or rows slot old) (kept : new.key ≡ old.key) (all : (node : ℕ) → seen_at new.kept.items node ≡ settled (seen_at old.kept.items node)) where
  here : slot < length rows
  here = within_of rows slot was

  pub rows_settled : 0 < length new.kept.items → (n : ℕ) (k : List ℕ) → settled (seen_in (set rows slot new) n k) ≡ settled (seen_in rows n k)
  rows_settled some n k = ap (λ at. settled (row_by (set rows slot new) at n)) (slots_written rows slot old new here is kept was some k) ∙ settled_at rows slot old new n (slot_in rows k) here is all

  -- and where none of them is left
  pub rows_lost : IsBound rows → length new.kept.items ≡ 0 → (n : ℕ) (k : List ℕ) → settled (seen_in (set rows slot new) n k) ≡ settled (seen_in rows n k)
  rows_lost bound none n k = by (bytes_eq key k) refl
    where
      key : List ℕ
      key = key_at rows slot

      found : slot_in rows key ≡ Some slot
      found = slot_of rows key slot bound was refl

      by : (b : Bool) → bytes_eq key k ≡ b → settled (seen_in (set rows slot new) n k) ≡ settled (seen_in rows n k)
      by true d =
          let e : key ≡ k = (bytes_decides key k).0 d in
          let gone : seen_in (set rows slot new) n key ≡ unseen = ap (λ at. row_by (set rows slot new) at n) (slot_lost rows key slot new bound found here none) in
          let before : settled (seen_in rows n key) ≡ unseen = ap settled (cell_read rows key slot n old found here is) ∙ sym (all n) ∙ empty_row new.kept.items n none in
          subst (λ (k : List ℕ). settled (seen_in (set rows slot new) n k) ≡ settled (seen_in rows n k)) e (ap settled gone ∙ sym before)
      by false d =
          ap settled (ap (λ at. row_by (set rows slot new) at n) (slots_lost rows slot old new here is key (sym (key_there rows slot old here is)) none k (not_equal key k d)))
          ∙ settled_at rows slot old new n (slot_in rows k) here is all

-- a key that is given the row of one node

module _ (rows : List KeyRows) (key : List ℕ) (slot node : ℕ) (held : Held) (old new : KeyRows) (bound : IsBound rows) (within : slot < length rows) (is : old ≡ get_or rows slot old) (free : count_at rows slot ≡ 0) (none : slot_in rows key ≡ None) (same : new.key ≡ key) (first : IsFirst node held new.kept.items) (short : length key ≤ 2056) where
  at_key : (n : ℕ) → seen_in (set rows slot new) n key ≡ seen_at new.kept.items n
  at_key n =
      let now : IsBound (set rows slot new) = bound_opened rows key slot new bound within same none short in
      let some : 0 < length new.kept.items = omega (arith, first.count) in
      cell_of (set rows slot new) key slot n (slot_opened rows key slot new now within same some) ∙ row_set rows slot n new within

  pub row_put : seen_in (set rows slot new) node key ≡ fresh held
  row_put = at_key node ∙ first.row

  pub others_put : OthersSeen node key (seen_in rows) (seen_in (set rows slot new))
  others_put n k apart = by (bytes_eq key k) refl
    where
      beside : (at : Option ℕ) → slot_in rows k ≡ at → row_by (set rows slot new) at n ≡ row_by rows at n
      beside None there = refl
      beside (Some other) there = row_beside rows slot other n new (λ e. absurd (omega (arith, slot_filled rows k other there, ap (count_at rows) e, free)))

      by : (b : Bool) → bytes_eq key k ≡ b → seen_in (set rows slot new) n k ≡ seen_in rows n k
      by true d =
          let e : k ≡ key = sym ((bytes_decides key k).0 d) in
          ap (λ k. seen_in (set rows slot new) n k) e ∙ at_key n ∙ first.others n (λ at. apart (at, e)) ∙ sym (ap (λ at. row_by rows at n) none) ∙ ap (λ k. seen_in rows n k) (sym e)
      by false d = ap (λ at. row_by (set rows slot new) at n) (slots_opened rows slot old new within is key same free k (not_equal key k d)) ∙ beside (slot_in rows k) refl

-- a slot past the last one
pub none_past : (rows : List KeyRows) (slot node : ℕ) → length rows ≤ slot → row_at rows slot node ≡ unseen
none_past [] slot node past = refl
none_past (r ∷ rows) zero node past = absurd (omega arith)
none_past (r ∷ rows) (suc slot) node past = none_past rows slot node (omega arith)

pub count_past : (rows : List KeyRows) (slot : ℕ) → length rows ≤ slot → count_at rows slot ≡ 0
count_past [] slot past = refl
count_past (r ∷ rows) zero past = absurd (omega arith)
count_past (r ∷ rows) (suc slot) past = count_past rows slot (omega arith)
