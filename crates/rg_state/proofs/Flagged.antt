-- Slots that are touched, the list of them, and what isn't named in the others.
use Rattle.std.proofs.Common.{◌≡◌, ◌∙◌, ℕ, zero, suc, ◌+◌, ◌<◌, ◌≤◌, ◌==◌, ◌&&◌, ◌||◌, cond, Bool, true, false, List, [], ◌∷◌, ◌++◌, length, get_or, set, Option, None, Some, refl, ap, sym, subst, arith, true≢false, length-append, length-set}
use Rattle.std.specs.Prelude.{Result, Ok, Err, is_ok, is_some, if◌then◌else◌}
use Rattle.std.proofs.lemmas.Bool.Decides.{Decides-eqb}
use Rattle.rg_state.specs.CellLaws.{there_row}
use Rattle.rg_state.specs.Cells.{row_at, row_by, count_at, slot_in, seen_in}
use Rattle.rg_state.specs.Kepts.{Seen, seen_at, settled}
use Rattle.rg_state.specs.Sheets.{is_wanted}
use Rattle.rg_state.specs.Touched.{flag_at, flagged, AreListed, IsQuiet, AreQuiet}
use Rattle.rg_state.specs.Unused.{times}
use Rattle.rg_state.specs.declared.key_rows.KeyRows.{KeyRows}
use Rattle.rg_state.specs.declared.sheets.Wanted.TheVariants.{Changes}
use Rattle.rg_state.proofs.Slotted.{row_set, row_beside}
use Rattle.rg_state.proofs.Marking.{none_kept}
use Rattle.rg_state.proofs.Unused.{one_same, one_apart, times_pushed}

is_false : (b : Bool) → (b ≡ true → ⊥) → b ≡ false
is_false true never = absurd (never refl)
is_false false never = refl

-- flags

pub flag_there : (flags : List Bool) (slot : ℕ) (here : Bool) → slot < length flags → here ≡ get_or flags slot here → flag_at flags slot ≡ here
flag_there [] slot here within is = absurd (omega (arith, within))
flag_there (f ∷ flags) zero here within is = sym is
flag_there (f ∷ flags) (suc slot) here within is = flag_there flags slot here (omega (arith, within)) is

flag_within : (flags : List Bool) (slot : ℕ) → flag_at flags slot ≡ true → slot < length flags
flag_within [] slot is = cc
flag_within (f ∷ flags) zero is = omega arith
flag_within (f ∷ flags) (suc slot) is = let rest : slot < length flags = flag_within flags slot is in omega (arith, rest)

flag_here : (flags : List Bool) (slot : ℕ) (b : Bool) → slot < length flags → flag_at (set flags slot b) slot ≡ b
flag_here [] slot b within = absurd (omega (arith, within))
flag_here (f ∷ flags) zero b within = refl
flag_here (f ∷ flags) (suc slot) b within = flag_here flags slot b (omega (arith, within))

flag_beside : (flags : List Bool) (slot other : ℕ) (b : Bool) → (other ≡ slot → ⊥) → flag_at (set flags slot b) other ≡ flag_at flags other
flag_beside [] slot other b apart = refl
flag_beside (f ∷ flags) zero zero b apart = absurd (apart refl)
flag_beside (f ∷ flags) zero (suc other) b apart = refl
flag_beside (f ∷ flags) (suc slot) zero b apart = refl
flag_beside (f ∷ flags) (suc slot) (suc other) b apart = flag_beside flags slot other b (λ e. apart (ap suc e))

flag_pushed : (flags : List Bool) (slot : ℕ) → flag_at (flags ++ false ∷ []) slot ≡ flag_at flags slot
flag_pushed [] zero = refl
flag_pushed [] (suc slot) = refl
flag_pushed (f ∷ flags) zero = refl
flag_pushed (f ∷ flags) (suc slot) = flag_pushed flags slot

pub flag_same : (flags : List Bool) (slot : ℕ) (b : Bool) → slot < length flags → flag_at flags slot ≡ b → flags ≡ set flags slot b
flag_same [] slot b within is = absurd (omega (arith, within))
flag_same (f ∷ flags) zero b within is = ap (λ f. f ∷ flags) is
flag_same (f ∷ flags) (suc slot) b within is = ap (λ rest. f ∷ rest) (flag_same flags slot b (omega (arith, within)) is)

-- how many there are

abbrev pub one_of : Bool → ℕ
one_of b = cond b 1 0

one_few : (b : Bool) → one_of b ≤ 1
one_few true = omega arith
one_few false = omega arith

one_is : (b : Bool) → 0 < one_of b → b ≡ true
one_is true some = refl
one_is false some = absurd (omega (arith, some))

none_is : (b : Bool) → one_of b ≡ 0 → b ≡ false
none_is true none = absurd (omega (arith, none))
none_is false none = refl

count_set : (flags : List Bool) (slot : ℕ) (b : Bool) → slot < length flags → flagged (set flags slot b) + one_of (flag_at flags slot) ≡ flagged flags + one_of b
count_set [] slot b within = absurd (omega (arith, within))
count_set (f ∷ flags) zero b within = omega arith
count_set (f ∷ flags) (suc slot) b within =
    let rest : flagged (set flags slot b) + one_of (flag_at flags slot) ≡ flagged flags + one_of b = count_set flags slot b (omega (arith, within)) in
    omega (arith, rest)

pub count_few : (flags : List Bool) → flagged flags ≤ length flags
count_few [] = omega arith
count_few (f ∷ flags) = omega (arith, count_few flags, one_few f)

count_less : (flags : List Bool) (slot : ℕ) → slot < length flags → flag_at flags slot ≡ false → flagged flags < length flags
count_less [] slot within is = absurd (omega (arith, within))
count_less (f ∷ flags) zero within is = omega (arith, count_few flags, ap one_of is)
count_less (f ∷ flags) (suc slot) within is = omega (arith, count_less flags slot (omega (arith, within)) is, one_few f)

count_pushed : (flags : List Bool) → flagged (flags ++ false ∷ []) ≡ flagged flags
count_pushed [] = refl
count_pushed (f ∷ flags) = ap (λ n. one_of f + n) (count_pushed flags)

-- the list

pub room_left : (flags : List Bool) (slots : List ℕ) (room slot : ℕ) → AreListed flags slots room → slot < length flags → flag_at flags slot ≡ false → length slots < room
room_left flags slots room slot are within off = omega (arith, are.count, are.roomy, count_less flags slot within off)

added_at : (flags : List Bool) (slots : List ℕ) (room slot other : ℕ) (b : Bool) → AreListed flags slots room → slot < length flags → flag_at flags slot ≡ false → (slot == other) ≡ b → times (slots ++ slot ∷ []) other ≡ one_of (flag_at (set flags slot true) other)
added_at flags slots room slot other true are within off d =
    let e : slot ≡ other = (Decides-eqb slot other).0 d in
    subst (λ s. times (slots ++ slot ∷ []) s ≡ one_of (flag_at (set flags slot true) s)) e
    (omega (arith, times_pushed slots slot slot, are.each slot, ap one_of off, one_same slot, ap one_of (flag_here flags slot true within)))
added_at flags slots room slot other false are within off d =
    let apart : slot ≡ other → ⊥ = λ e. true≢false (sym ((Decides-eqb slot other).1 e) ∙ d) in
    omega (arith, times_pushed slots slot other, are.each other, one_apart slot other apart, ap one_of (flag_beside flags slot other true (λ e. apart (sym e))))

pub listed_added : (flags : List Bool) (slots now : List ℕ) (room more slot : ℕ) → AreListed flags slots room → slot < length flags → flag_at flags slot ≡ false → now ≡ slots ++ slot ∷ [] → room ≤ more → AreListed (set flags slot true) now more
listed_added flags slots now room more slot are within off put more_room =
    let long : length (set flags slot true) ≡ length flags = length-set flags slot true in
    subst (λ (s : List ℕ). AreListed (set flags slot true) s more) (sym put) (record {
      each = λ other. added_at flags slots room slot other (slot == other) are within off refl;
      count = omega (arith, are.count, count_set flags slot true within, ap one_of off, length-append slots (slot ∷ []));
      roomy = omega (arith, are.roomy, more_room, long);
    })

-- the last of the list is touched
last_on : (flags : List Bool) (slots front : List ℕ) (room slot : ℕ) → AreListed flags slots room → slots ≡ front ++ slot ∷ [] → flag_at flags slot ≡ true
last_on flags slots front room slot are split =
    one_is (flag_at flags slot) (omega (arith, are.each slot, ap (λ s. times s slot) split, times_pushed front slot slot, one_same slot))

pub last_within : (flags : List Bool) (slots front : List ℕ) (room slot : ℕ) → AreListed flags slots room → slots ≡ front ++ slot ∷ [] → slot < length flags
last_within flags slots front room slot are split = flag_within flags slot (last_on flags slots front room slot are split)

popped_at : (flags : List Bool) (slots front : List ℕ) (room slot other : ℕ) (b : Bool) → AreListed flags slots room → slots ≡ front ++ slot ∷ [] → (slot == other) ≡ b → times front other ≡ one_of (flag_at (set flags slot false) other)
popped_at flags slots front room slot other true are split d =
    let e : slot ≡ other = (Decides-eqb slot other).0 d in
    subst (λ s. times front s ≡ one_of (flag_at (set flags slot false) s)) e
    (omega (arith, times_pushed front slot slot, ap (λ s. times s slot) split, are.each slot, one_few (flag_at flags slot), one_same slot, ap one_of (flag_here flags slot false (last_within flags slots front room slot are split))))
popped_at flags slots front room slot other false are split d =
    let apart : slot ≡ other → ⊥ = λ e. true≢false (sym ((Decides-eqb slot other).1 e) ∙ d) in
    omega (arith, times_pushed front slot other, ap (λ s. times s other) split, are.each other, one_apart slot other apart, ap one_of (flag_beside flags slot other false (λ e. apart (sym e))))

pub listed_popped : (flags : List Bool) (slots front : List ℕ) (room left slot : ℕ) → AreListed flags slots room → slots ≡ front ++ slot ∷ [] → left ≡ room → AreListed (set flags slot false) front left
listed_popped flags slots front room left slot are split same =
    let within : slot < length flags = last_within flags slots front room slot are split in
    let long : length (set flags slot false) ≡ length flags = length-set flags slot false in
    record {
      each = λ other. popped_at flags slots front room slot other (slot == other) are split refl;
      count = omega (arith, are.count, ap length split, length-append front (slot ∷ []), count_set flags slot false within, ap one_of (last_on flags slots front room slot are split));
      roomy = omega (arith, are.roomy, same, long);
    }

listed_grown : (flags now : List Bool) (slots roomy : List ℕ) (room more : ℕ) → AreListed flags slots room → now ≡ flags ++ false ∷ [] → roomy ≡ slots → length flags + 1 ≤ more → AreListed now roomy more
listed_grown flags now slots roomy room more are pushed kept more_room =
    subst (λ (f : List Bool). AreListed f roomy more) (sym pushed) (subst (λ (s : List ℕ). AreListed (flags ++ false ∷ []) s more) (sym kept) (record {
      each = λ slot. are.each slot ∙ sym (ap one_of (flag_pushed flags slot));
      count = are.count ∙ sym (count_pushed flags);
      roomy = omega (arith, more_room, length-append flags (false ∷ []));
    }))

-- where there was memory for it, and where there was none
pub listed_after : {A E : Type 0} (result : Result A E) (flags now : List Bool) (slots roomy : List ℕ) (room more : ℕ) → AreListed flags slots room → now ≡ (if is_ok result then flags ++ false ∷ [] else flags) → roomy ≡ slots → length flags + 1 ≤ more → AreListed now roomy more
listed_after (Ok done) flags now slots roomy room more are pushed kept more_room = listed_grown flags now slots roomy room more are pushed kept more_room
listed_after (Err refused) flags now slots roomy room more are same kept more_room =
    subst (λ (f : List Bool). AreListed f roomy more) (sym same) (subst (λ (s : List ℕ). AreListed flags s more) (sym kept) (record { each = are.each; count = are.count; roomy = omega (arith, more_room) }))

none_times : (slots : List ℕ) (slot : ℕ) → length slots ≡ 0 → times slots slot ≡ 0
none_times [] slot none = refl
none_times (s ∷ slots) slot none = absurd (omega (arith, none))

pub none_on : (flags : List Bool) (slots : List ℕ) (room : ℕ) → AreListed flags slots room → length slots ≡ 0 → (slot : ℕ) → flag_at flags slot ≡ false
none_on flags slots room are none slot = none_is (flag_at flags slot) (omega (arith, are.each slot, none_times slots slot none))

-- each slot is remembered

pub flagged_written : (flags now : List Bool) (rows : List KeyRows) (slot : ℕ) (b : Bool) (r : KeyRows) → length flags ≡ length rows → now ≡ set flags slot b → length now ≡ length (set rows slot r)
flagged_written flags now rows slot b r few is = omega (arith, few, length-set rows slot r, ap length is, length-set flags slot b)

pub flagged_left : (flags now : List Bool) (rows : List KeyRows) (slot : ℕ) (b : Bool) → length flags ≡ length rows → now ≡ set flags slot b → length now ≡ length rows
flagged_left flags now rows slot b few is = omega (arith, few, ap length is, length-set flags slot b)

-- what isn't named

-- one slot more
pub quiet_grown : (flags now : List Bool) (rows : List KeyRows) → AreQuiet flags rows → now ≡ flags ++ false ∷ [] → AreQuiet now rows
quiet_grown flags now rows are pushed slot off = are slot (sym (flag_pushed flags slot) ∙ ap (λ (f : List Bool). flag_at f slot) (sym pushed) ∙ off)

-- a slot that was touched is written
pub quiet_written : (flags now : List Bool) (rows : List KeyRows) (slot : ℕ) (r : KeyRows) → AreQuiet flags rows → slot < length flags → now ≡ set flags slot true → AreQuiet now (set rows slot r)
quiet_written flags now rows slot r are within is other quiet node =
    let off : flag_at (set flags slot true) other ≡ false = ap (λ (f : List Bool). flag_at f other) (sym is) ∙ quiet in
    let apart : other ≡ slot → ⊥ = λ e. true≢false (sym (flag_here flags slot true within) ∙ ap (flag_at (set flags slot true)) (sym e) ∙ off) in
    ap (λ (row : Seen). row.named) (row_beside rows slot other node r apart) ∙ are other (sym (flag_beside flags slot other true apart) ∙ off) node

off_beside : (flags now : List Bool) (slot other : ℕ) → now ≡ set flags slot false → (other == slot) ≡ false → flag_at now other ≡ false → (other ≡ slot → ⊥) × (flag_at flags other ≡ false)
off_beside flags now slot other is d off =
    let apart : other ≡ slot → ⊥ = λ e. true≢false (sym ((Decides-eqb other slot).1 e) ∙ d) in
    (apart, sym (flag_beside flags slot other false apart) ∙ ap (λ (f : List Bool). flag_at f other) (sym is) ∙ off)

-- one in which nothing is kept isn't touched any more
pub quiet_empty : (flags now : List Bool) (rows : List KeyRows) (slot : ℕ) → AreQuiet flags rows → now ≡ set flags slot false → count_at rows slot ≡ 0 → AreQuiet now rows
quiet_empty flags now rows slot are is none other off node = by (other == slot) refl
  where
    by : (b : Bool) → (other == slot) ≡ b → (row_at rows other node).named ≡ false
    by true d = ap (λ s. (row_at rows s node).named) ((Decides-eqb other slot).0 d) ∙ ap (λ (row : Seen). row.named) (none_kept rows slot node none)
    by false d = are other (off_beside flags now slot other is d off).1 node

-- nor one whose rows are settled
pub quiet_settled : (flags now : List Bool) (rows : List KeyRows) (slot : ℕ) (old r : KeyRows) → AreQuiet flags rows → slot < length rows → now ≡ set flags slot false → ((node : ℕ) → seen_at r.kept.items node ≡ settled (seen_at old.kept.items node)) → AreQuiet now (set rows slot r)
quiet_settled flags now rows slot old r are within is all other off node = by (other == slot) refl
  where
    by : (b : Bool) → (other == slot) ≡ b → (row_at (set rows slot r) other node).named ≡ false
    by true d = ap (λ s. (row_at (set rows slot r) s node).named) ((Decides-eqb other slot).0 d) ∙ ap (λ (row : Seen). row.named) (row_set rows slot node r within ∙ all node)
    by false d =
        let past = off_beside flags now slot other is d off in
        ap (λ (row : Seen). row.named) (row_beside rows slot other node r past.0) ∙ are other past.1 node

-- no row is named where no slot is touched

settled_same : (row : Seen) → row.named ≡ false → row.there ≡ false → row ≡ settled row
settled_same row named there = λ i. record { held = row.held; named = named i; there = there i }

settled_slot : (rows : List KeyRows) (slot node : ℕ) → IsQuiet rows slot → row_at rows slot node ≡ settled (row_at rows slot node)
settled_slot rows slot node quiet = settled_same (row_at rows slot node) (quiet node) (is_false (row_at rows slot node).there (λ is. true≢false (sym (there_row rows slot node is) ∙ quiet node)))

settled_by : (rows : List KeyRows) (at : Option ℕ) (node : ℕ) → ((slot : ℕ) → IsQuiet rows slot) → row_by rows at node ≡ settled (row_by rows at node)
settled_by rows None node quiet = refl
settled_by rows (Some slot) node quiet = settled_slot rows slot node (quiet slot)

pub all_settled : (flags : List Bool) (slots : List ℕ) (rows : List KeyRows) (room n : ℕ) (k : List ℕ) → AreQuiet flags rows → AreListed flags slots room → length slots ≡ 0 → seen_in rows n k ≡ settled (seen_in rows n k)
all_settled flags slots rows room n k are listed none = settled_by rows (slot_in rows k) n (λ slot. are slot (none_on flags slots room listed none slot))

-- what isn't named isn't written as changed
pub told_quiet : (row : Seen) → row.named ≡ false → is_wanted Changes row ≡ false
told_quiet row is = ap (λ b. is_some (cond (b && (is_some row.held || row.there)) (Some row.held) None)) is
