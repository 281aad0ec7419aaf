-- The list of the slots in which nothing is kept: a write in a slot, one that is emptied, one that is used, one more.
use Rattle.std.proofs.Common.{◌≡◌, ◌∙◌, ℕ, zero, suc, ◌+◌, ◌-◌, ◌<◌, ◌≤◌, ◌==◌, cond, Bool, true, false, List, [], ◌∷◌, ◌++◌, length, set, take, Some, refl, ap, sym, subst, arith, true≢false, length-append, length-set}
use Rattle.std.specs.Prelude.{slice_get}
use Rattle.std.proofs.lemmas.Bool.Decides.{Decides-eqb}
use Rattle.std.proofs.lemmas.List.{take_at}
use Rattle.rg_state.specs.Cells.{count_at}
use Rattle.rg_state.specs.Unused.{times, unused_at, unused, AreFree, IsLast}
use Rattle.rg_state.specs.declared.key_rows.KeyRows.{KeyRows}

is_false : (b : Bool) → (b ≡ true → ⊥) → b ≡ false
is_false true never = absurd (never refl)
is_false false never = refl

-- 1 where two numbers are the same, and else 0
abbrev pub one_at : ℕ → ℕ → ℕ
one_at n m = cond (n == m) 1 0

pub one_same : (n : ℕ) → one_at n n ≡ 1
one_same n = ap (λ b. cond b 1 0) ((Decides-eqb n n).1 refl)

pub one_apart : (n m : ℕ) → (n ≡ m → ⊥) → one_at n m ≡ 0
one_apart n m apart = ap (λ b. cond b 1 0) (is_false (n == m) (λ e. apart ((Decides-eqb n m).0 e)))

one_none : (n : ℕ) → n ≡ 0 → one_at n 0 ≡ 1
one_none n none = ap (λ m. one_at m 0) none ∙ one_same 0

one_some : (n : ℕ) → 0 < n → one_at n 0 ≡ 0
one_some n some = one_apart n 0 (λ none. absurd (omega (arith, some, none)))

one_few : (n m : ℕ) → one_at n m ≤ 1
one_few n m = by (n == m)
  where
    by : (b : Bool) → cond b 1 0 ≤ 1
    by true = omega arith
    by false = omega arith

-- a slot, by what is kept in it

unused_full : (rows : List KeyRows) (slot : ℕ) → 0 < count_at rows slot → unused_at rows slot ≡ 0
unused_full [] slot some = absurd (omega (arith, some))
unused_full (r ∷ rows) zero some = one_some (length r.kept.items) some
unused_full (r ∷ rows) (suc slot) some = unused_full rows slot some

unused_empty : (rows : List KeyRows) (slot : ℕ) → slot < length rows → count_at rows slot ≡ 0 → unused_at rows slot ≡ 1
unused_empty [] slot within none = absurd (omega (arith, within))
unused_empty (r ∷ rows) zero within none = one_none (length r.kept.items) none
unused_empty (r ∷ rows) (suc slot) within none = unused_empty rows slot (omega (arith, within)) none

unused_set : (rows : List KeyRows) (slot : ℕ) (r : KeyRows) → slot < length rows → unused_at (set rows slot r) slot ≡ one_at (length r.kept.items) 0
unused_set [] slot r within = absurd (omega (arith, within))
unused_set (x ∷ rows) zero r within = refl
unused_set (x ∷ rows) (suc slot) r within = unused_set rows slot r (omega (arith, within))

unused_beside : (rows : List KeyRows) (slot other : ℕ) (r : KeyRows) → (slot ≡ other → ⊥) → unused_at (set rows slot r) other ≡ unused_at rows other
unused_beside [] slot other r apart = refl
unused_beside (x ∷ rows) zero zero r apart = absurd (apart refl)
unused_beside (x ∷ rows) zero (suc other) r apart = refl
unused_beside (x ∷ rows) (suc slot) zero r apart = refl
unused_beside (x ∷ rows) (suc slot) (suc other) r apart = unused_beside rows slot other r (λ e. apart (ap suc e))

-- how many there are

count_set : (rows : List KeyRows) (slot : ℕ) (r : KeyRows) → slot < length rows → unused (set rows slot r) + unused_at rows slot ≡ unused rows + one_at (length r.kept.items) 0
count_set [] slot r within = absurd (omega (arith, within))
count_set (x ∷ rows) zero r within = omega arith
count_set (x ∷ rows) (suc slot) r within =
    let rest : unused (set rows slot r) + unused_at rows slot ≡ unused rows + one_at (length r.kept.items) 0 = count_set rows slot r (omega (arith, within)) in
    omega (arith, rest)

count_few : (rows : List KeyRows) → unused rows ≤ length rows
count_few [] = omega arith
count_few (r ∷ rows) = omega (arith, count_few rows, one_few (length r.kept.items) 0)

count_less : (rows : List KeyRows) (slot : ℕ) → slot < length rows → unused_at rows slot ≡ 0 → unused rows < length rows
count_less [] slot within full = absurd (omega (arith, within))
count_less (r ∷ rows) zero within full = omega (arith, count_few rows, full)
count_less (r ∷ rows) (suc slot) within full = omega (arith, count_less rows slot (omega (arith, within)) full, one_few (length r.kept.items) 0)

-- another slot can be put into the list
pub room_left : (free : List ℕ) (room : ℕ) (rows : List KeyRows) (slot : ℕ) → AreFree free room rows → slot < length rows → 0 < count_at rows slot → length free < room
room_left free room rows slot are within some = omega (arith, are.count, are.roomy, count_less rows slot within (unused_full rows slot some))

-- the list at its end

pub times_pushed : (free : List ℕ) (slot other : ℕ) → times (free ++ slot ∷ []) other ≡ times free other + one_at slot other
times_pushed [] slot other = omega arith
times_pushed (first ∷ free) slot other =
    let rest : times (free ++ slot ∷ []) other ≡ times free other + one_at slot other = times_pushed free slot other in
    omega (arith, rest)

-- what is in a slot stays something

written_at : (rows : List KeyRows) (slot other : ℕ) (r : KeyRows) → slot < length rows → unused_at rows slot ≡ one_at (length r.kept.items) 0 → (b : Bool) → (slot == other) ≡ b → unused_at (set rows slot r) other ≡ unused_at rows other
written_at rows slot other r within same true d =
    let e : slot ≡ other = (Decides-eqb slot other).0 d in
    subst (λ s. unused_at (set rows slot r) s ≡ unused_at rows s) e (unused_set rows slot r within ∙ sym same)
written_at rows slot other r within same false d = unused_beside rows slot other r (λ e. true≢false (sym ((Decides-eqb slot other).1 e) ∙ d))

pub free_written : (free : List ℕ) (room : ℕ) (rows : List KeyRows) (slot : ℕ) (r : KeyRows) → AreFree free room rows → slot < length rows → 0 < count_at rows slot → 0 < length r.kept.items → AreFree free room (set rows slot r)
free_written free room rows slot r are within was some =
    let before : unused_at rows slot ≡ 0 = unused_full rows slot was in
    let after : one_at (length r.kept.items) 0 ≡ 0 = one_some (length r.kept.items) some in
    let long : length (set rows slot r) ≡ length rows = length-set rows slot r in
    record {
      each = λ other. are.each other ∙ sym (written_at rows slot other r within (before ∙ sym after) (slot == other) refl);
      count = omega (arith, are.count, count_set rows slot r within, before, after);
      roomy = omega (arith, are.roomy, long);
      few = omega (arith, are.few, long);
    }

-- none is kept in a slot, before and after
pub free_spared : (free : List ℕ) (room : ℕ) (rows : List KeyRows) (slot : ℕ) (r : KeyRows) → AreFree free room rows → slot < length rows → count_at rows slot ≡ 0 → length r.kept.items ≡ 0 → AreFree free room (set rows slot r)
free_spared free room rows slot r are within none empty =
    let same : unused_at rows slot ≡ one_at (length r.kept.items) 0 = unused_empty rows slot within none ∙ sym (one_none (length r.kept.items) empty) in
    record {
      each = λ other. are.each other ∙ sym (written_at rows slot other r within same (slot == other) refl);
      count = omega (arith, are.count, count_set rows slot r within, same);
      roomy = omega (arith, are.roomy, length-set rows slot r);
      few = omega (arith, are.few, length-set rows slot r);
    }

-- a slot is emptied, and noted

emptied_at : (free : List ℕ) (room : ℕ) (rows : List KeyRows) (slot other : ℕ) (r : KeyRows) → AreFree free room rows → slot < length rows → 0 < count_at rows slot → length r.kept.items ≡ 0 → (b : Bool) → (slot == other) ≡ b → times (free ++ slot ∷ []) other ≡ unused_at (set rows slot r) other
emptied_at free room rows slot other r are within was none true d =
    let e : slot ≡ other = (Decides-eqb slot other).0 d in
    subst (λ s. times (free ++ slot ∷ []) s ≡ unused_at (set rows slot r) s) e
    (omega (arith, times_pushed free slot slot, are.each slot, unused_full rows slot was, one_same slot, unused_set rows slot r within, one_none (length r.kept.items) none))
emptied_at free room rows slot other r are within was none false d =
    let apart : slot ≡ other → ⊥ = λ e. true≢false (sym ((Decides-eqb slot other).1 e) ∙ d) in
    omega (arith, times_pushed free slot other, are.each other, one_apart slot other apart, unused_beside rows slot other r apart)

pub free_emptied : (free : List ℕ) (room : ℕ) (rows : List KeyRows) (slot : ℕ) (r : KeyRows) → AreFree free room rows → slot < length rows → 0 < count_at rows slot → length r.kept.items ≡ 0 → AreFree (free ++ slot ∷ []) room (set rows slot r)
free_emptied free room rows slot r are within was none =
    let before : unused_at rows slot ≡ 0 = unused_full rows slot was in
    let after : one_at (length r.kept.items) 0 ≡ 1 = one_none (length r.kept.items) none in
    let long : length (set rows slot r) ≡ length rows = length-set rows slot r in
    record {
      each = λ other. emptied_at free room rows slot other r are within was none (slot == other) refl;
      count = omega (arith, are.count, count_set rows slot r within, before, after, length-append free (slot ∷ []));
      roomy = omega (arith, are.roomy, long);
      few = omega (arith, are.few, long);
    }

-- the last slot of the list is used

used_at : (front : List ℕ) (room : ℕ) (rows : List KeyRows) (slot other : ℕ) (r : KeyRows) → AreFree (front ++ slot ∷ []) room rows → slot < length rows → count_at rows slot ≡ 0 → 0 < length r.kept.items → (b : Bool) → (slot == other) ≡ b → times front other ≡ unused_at (set rows slot r) other
used_at front room rows slot other r are within none some true d =
    let e : slot ≡ other = (Decides-eqb slot other).0 d in
    subst (λ s. times front s ≡ unused_at (set rows slot r) s) e
    (omega (arith, times_pushed front slot slot, are.each slot, unused_empty rows slot within none, one_same slot, unused_set rows slot r within, one_some (length r.kept.items) some))
used_at front room rows slot other r are within none some false d =
    let apart : slot ≡ other → ⊥ = λ e. true≢false (sym ((Decides-eqb slot other).1 e) ∙ d) in
    omega (arith, times_pushed front slot other, are.each other, one_apart slot other apart, unused_beside rows slot other r apart)

pub free_used : (front : List ℕ) (room : ℕ) (rows : List KeyRows) (slot : ℕ) (r : KeyRows) → AreFree (front ++ slot ∷ []) room rows → slot < length rows → count_at rows slot ≡ 0 → 0 < length r.kept.items → AreFree front room (set rows slot r)
free_used front room rows slot r are within none some =
    let before : unused_at rows slot ≡ 1 = unused_empty rows slot within none in
    let after : one_at (length r.kept.items) 0 ≡ 0 = one_some (length r.kept.items) some in
    let long : length (set rows slot r) ≡ length rows = length-set rows slot r in
    record {
      each = λ other. used_at front room rows slot other r are within none some (slot == other) refl;
      count = omega (arith, are.count, count_set rows slot r within, before, after, length-append front (slot ∷ []));
      roomy = omega (arith, are.roomy, long);
      few = omega (arith, are.few, long);
    }

-- one slot more

more_last : (rows : List KeyRows) (r : KeyRows) → length r.kept.items ≡ 0 → unused_at (rows ++ r ∷ []) (length rows) ≡ 1
more_last [] r none = one_none (length r.kept.items) none
more_last (x ∷ rows) r none = more_last rows r none

more_before : (rows : List KeyRows) (r : KeyRows) (slot : ℕ) → (length rows ≡ slot → ⊥) → unused_at (rows ++ r ∷ []) slot ≡ unused_at rows slot
more_before [] r zero apart = absurd (apart refl)
more_before [] r (suc slot) apart = refl
more_before (x ∷ rows) r zero apart = refl
more_before (x ∷ rows) r (suc slot) apart = more_before rows r slot (λ e. apart (ap suc e))

count_more : (rows : List KeyRows) (r : KeyRows) → length r.kept.items ≡ 0 → unused (rows ++ r ∷ []) ≡ unused rows + 1
count_more [] r none = omega (arith, one_none (length r.kept.items) none)
count_more (x ∷ rows) r none =
    let rest : unused (rows ++ r ∷ []) ≡ unused rows + 1 = count_more rows r none in
    omega (arith, rest)

past : (rows : List KeyRows) → unused_at rows (length rows) ≡ 0
past [] = refl
past (x ∷ rows) = past rows

more_at : (free : List ℕ) (room : ℕ) (rows : List KeyRows) (r : KeyRows) (slot : ℕ) → AreFree free room rows → length r.kept.items ≡ 0 → (b : Bool) → (length rows == slot) ≡ b → times (free ++ length rows ∷ []) slot ≡ unused_at (rows ++ r ∷ []) slot
more_at free room rows r slot are none true d =
    let e : length rows ≡ slot = (Decides-eqb (length rows) slot).0 d in
    subst (λ s. times (free ++ length rows ∷ []) s ≡ unused_at (rows ++ r ∷ []) s) e
    (omega (arith, times_pushed free (length rows) (length rows), are.each (length rows), past rows, one_same (length rows), more_last rows r none))
more_at free room rows r slot are none false d =
    let apart : length rows ≡ slot → ⊥ = λ e. true≢false (sym ((Decides-eqb (length rows) slot).1 e) ∙ d) in
    omega (arith, times_pushed free (length rows) slot, are.each slot, one_apart (length rows) slot apart, more_before rows r slot apart)

pub free_more : (free : List ℕ) (room more : ℕ) (rows : List KeyRows) (r : KeyRows) → AreFree free room rows → length r.kept.items ≡ 0 → length rows < 4294967295 → length rows + 1 ≤ more → AreFree (free ++ length rows ∷ []) more (rows ++ r ∷ [])
free_more free room more rows r are none few more_room =
    let long : length (rows ++ r ∷ []) ≡ length rows + 1 = length-append rows (r ∷ []) in
    record {
      each = λ slot. more_at free room rows r slot are none (length rows == slot) refl;
      count = omega (arith, are.count, count_more rows r none, length-append free (length rows ∷ []));
      roomy = omega (arith, more_room, long);
      few = omega (arith, few, long);
    }

-- more room
pub free_roomy : (free : List ℕ) (room more : ℕ) (rows : List KeyRows) → AreFree free room rows → room ≤ more → AreFree free more rows
free_roomy free room more rows are more_room = record { each = are.each; count = are.count; roomy = omega (arith, are.roomy, more_room); few = are.few }

-- the last one of the list

last_split : (free : List ℕ) (i slot : ℕ) → length free ≡ suc i → slice_get free i ≡ Some slot → (front : List ℕ) × (free ≡ front ++ slot ∷ [])
last_split [] i slot long found = cc
last_split (first ∷ []) zero slot long found =
    let same : first ≡ slot = cc in
    ([], ap (λ s. s ∷ []) same)
last_split (first ∷ (next ∷ free)) zero slot long found = absurd (omega (arith, long))
last_split (first ∷ free) (suc i) slot long found =
    let rest = last_split free i slot (omega (arith, long)) found in
    (first ∷ rest.0, ap (λ others. first ∷ others) rest.1)

last_of : (free : List ℕ) (slot : ℕ) → slice_get free (length free - 1) ≡ Some slot → (front : List ℕ) × (free ≡ front ++ slot ∷ [])
last_of [] slot found = cc
last_of (first ∷ free) slot found = last_split (first ∷ free) (length (first ∷ free) - 1) slot (omega arith) found

none_there : (n : ℕ) (b : Bool) → (n == 0) ≡ b → 0 < cond b 1 0 → n ≡ 0
none_there n true d some = (Decides-eqb n 0).0 d
none_there n false d some = absurd (omega (arith, some))

unused_there : (rows : List KeyRows) (slot : ℕ) → 0 < unused_at rows slot → (slot < length rows) × (count_at rows slot ≡ 0)
unused_there [] slot some = absurd (omega (arith, some))
unused_there (r ∷ rows) zero some = (omega arith, none_there (length r.kept.items) (length r.kept.items == 0) refl some)
unused_there (r ∷ rows) (suc slot) some =
    let rest = unused_there rows slot some in
    (omega (arith, rest.0), rest.1)

pub is_last : (free front : List ℕ) (room : ℕ) (rows : List KeyRows) (slot : ℕ) → AreFree free room rows → free ≡ front ++ slot ∷ [] → IsLast slot free rows
is_last free front room rows slot are split =
    let times_here : times free slot ≡ times front slot + one_at slot slot = ap (λ slots. times slots slot) split ∙ times_pushed front slot slot in
    let there = unused_there rows slot (omega (arith, are.each slot, times_here, one_same slot)) in
    record { front = front; last = split; within = there.0; empty = there.1 }

pub found_last : (free seen : List ℕ) (room : ℕ) (rows : List KeyRows) (slot : ℕ) → AreFree free room rows → seen ≡ free → Some slot ≡ slice_get seen (length seen - 1) → IsLast slot free rows
found_last free seen room rows slot are same found =
    let split = last_of free slot (ap (λ slots. slice_get slots (length slots - 1)) (sym same) ∙ sym found) in
    is_last free split.0 room rows slot are split.1

pub more_free : (free roomy now : List ℕ) (room more : ℕ) (rows new : List KeyRows) (r : KeyRows) (slot : ℕ) → AreFree free room rows → length r.kept.items ≡ 0 → slot ≡ length rows → slot < 4294967295 → slot + 1 ≤ more
    → roomy ≡ free → now ≡ roomy ++ slot ∷ [] → new ≡ rows ++ r ∷ [] → AreFree now more new
more_free free roomy now room more rows new r slot are none at few more_room same put pushed =
    let now_is : now ≡ free ++ length rows ∷ [] = put ∙ ap (λ slots. slots ++ slot ∷ []) same ∙ ap (λ s. free ++ s ∷ []) at in
    let made = free_more free room more rows r are none (omega (arith, at, few)) (omega (arith, at, more_room)) in
    subst (AreFree now more) (sym pushed) (subst (λ (slots : List ℕ). AreFree slots more (rows ++ r ∷ [])) (sym now_is) made)

-- and without it
pub free_popped : (free now : List ℕ) (len room left : ℕ) (rows : List KeyRows) (slot : ℕ) (r : KeyRows) → IsLast slot free rows → AreFree free room rows → len ≡ length free → now ≡ take (len - 1) free → left ≡ room → 0 < length r.kept.items → AreFree now left (set rows slot r)
free_popped free now len room left rows slot r last are long rest same some =
    let count : length last.front ≡ len - 1 = omega (arith, long, ap length last.last, length-append last.front (slot ∷ [])) in
    let front : now ≡ last.front = rest ∙ ap (take (len - 1)) last.last ∙ take_at last.front (slot ∷ []) (len - 1) count in
    let used : AreFree last.front room (set rows slot r) = free_used last.front room rows slot r (subst (λ (slots : List ℕ). AreFree slots room rows) last.last are) last.within last.empty some in
    subst (λ (slots : List ℕ). AreFree slots left (set rows slot r)) (sym front) (subst (λ (n : ℕ). AreFree last.front n (set rows slot r)) (sym same) used)

-- a slot that is emptied is put to the others
pub free_put : (free now : List ℕ) (room more : ℕ) (rows : List KeyRows) (slot : ℕ) (r : KeyRows) → AreFree free room rows → slot < length rows → 0 < count_at rows slot → length r.kept.items ≡ 0 → now ≡ free ++ slot ∷ [] → room ≤ more → AreFree now more (set rows slot r)
free_put free now room more rows slot r are within was none put more_room =
    subst (λ (slots : List ℕ). AreFree slots more (set rows slot r)) (sym put) (free_roomy (free ++ slot ∷ []) room more (set rows slot r) (free_emptied free room rows slot r are within was none) more_room)

-- more room, and nothing else changed
pub free_reserved : (free now : List ℕ) (room more : ℕ) (rows new : List KeyRows) → AreFree free room rows → now ≡ free → room ≤ more → new ≡ rows → AreFree now more new
free_reserved free now room more rows new are same more_room is =
    subst (λ (slots : List ℕ). AreFree slots more new) (sym same) (subst (λ (rs : List KeyRows). AreFree free more rs) (sym is) (free_roomy free room more rows are more_room))
