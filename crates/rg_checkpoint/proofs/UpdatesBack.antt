-- A change payload is read as the update that it is written from, and so it says one update.
use Rattle.std.proofs.Common.{◌≡◌, ◌⊎◌, inl, inr, ℕ, true, List, [], ◌∷◌, ◌++◌, length, Option, Some, None, Ok, Err, refl, ap, sym, ◌∙◌, subst, arith, append_assoc, append-nil}
use Rattle.std.specs.List.{All}
use Rattle.std.proofs.lemmas.List.Elements.{All-head, All-tail}
use Rattle.std.specs.Int.{w32, w64, to_be_bytes}
use Rattle.rg_bytes.specs.Reading.{list_bytes, whole}
use Rattle.rg_bytes.proofs.Laws.{u8_read, u32_read, u64_read, StepsBack, more_back}
use Rattle.rg_agg.specs.Held.{Held, held_bytes}
use Rattle.rg_state.specs.Changes.{RowChange, now_bytes, change_bytes}
use Rattle.rg_checkpoint.specs.declared.fault.CheckpointFault.{CheckpointFault}
use Rattle.rg_checkpoint.specs.declared.fault.CheckpointFault.TheVariants.{BadCheckpoint, Memory}
use Rattle.rg_checkpoint.specs.Base.{counted_spots}
use Rattle.rg_checkpoint.specs.Updates.{Update, counted_changes, update_body, update_bytes, IsNow, IsRowChange, AreRowChanges, IsLegalUpdate, IsUpdate}
use Rattle.rg_checkpoint.specs.Reading.{now_at, change_at, next_change_at, counted_changes_at, update_body_at, update_at, update_in, last_of, comes_behind}
use Rattle.rg_checkpoint.proofs.Back.{key_back, held_back, spots_back}
use Rattle.rg_checkpoint.proofs.Rising.{RisesBehind, rises_all, last_more}

now_back : (now : Option Held) (rest : List ℕ) → IsNow now → now_at (now_bytes now ++ rest) ≡ Ok (now, rest)
unfolding now_at
now_back None rest is = rw (u8_read BadCheckpoint (0 ∷ rest) 0 rest refl) refl
now_back (Some held) rest is = rw (u8_read BadCheckpoint (1 ∷ (held_bytes held ++ rest)) 1 (held_bytes held ++ rest) refl, held_back held rest is.1 is.0) refl

change_back : (row : RowChange) (rest : List ℕ) → IsRowChange row → change_at (change_bytes row ++ rest) ≡ Ok (row, rest)
unfolding change_at
change_back row rest is =
    let third : List ℕ = now_bytes row.held ++ rest in
    let second : List ℕ = to_be_bytes w32 (length row.key) ++ (row.key ++ third) in
    let stood : change_bytes row ++ rest ≡ to_be_bytes w32 row.node ++ second =
    append_assoc (to_be_bytes w32 row.node) (to_be_bytes w32 (length row.key) ++ (row.key ++ now_bytes row.held)) rest ∙ ap (λ bytes. to_be_bytes w32 row.node ++ bytes) (append_assoc (to_be_bytes w32 (length row.key)) (row.key ++ now_bytes row.held) rest ∙ ap (λ bytes. to_be_bytes w32 (length row.key) ++ bytes) (append_assoc row.key (now_bytes row.held) rest)) in
    rw (u32_read BadCheckpoint (change_bytes row ++ rest) row.node second stood is.node, key_back row.key third is.key, now_back row.held rest is.now) refl

next_change_back : (so_far : List RowChange) (row : RowChange) (rest : List ℕ) → IsRowChange row → comes_behind (last_of so_far) row ≡ true → next_change_at so_far (change_bytes row ++ rest) ≡ Ok (row, rest)
unfolding next_change_at
next_change_back so_far row rest is behind = rw (change_back row rest is, behind) refl

changes_steps : (so_far rows : List RowChange) → All IsRowChange rows → RisesBehind (last_of so_far) rows → StepsBack next_change_at change_bytes so_far rows
changes_steps so_far [] all rises = tt
changes_steps so_far (row ∷ rows) all rises = (
  λ rest. next_change_back so_far row rest (All-head IsRowChange row rows all) rises.0,
  changes_steps (so_far ++ row ∷ []) rows (All-tail IsRowChange row rows all) (subst (λ (last : Option RowChange). RisesBehind last rows) (sym (last_more so_far row)) rises.1),
)

changes_back : (rows : List RowChange) (rest : List ℕ) → AreRowChanges rows → counted_changes_at (counted_changes rows ++ rest) ≡ Ok (rows, rest)
unfolding counted_changes_at
changes_back rows rest are =
    rw (u64_read BadCheckpoint (counted_changes rows ++ rest) (length rows) (list_bytes change_bytes rows ++ rest) (append_assoc (to_be_bytes w64 (length rows)) (list_bytes change_bytes rows) rest) are.few) (more_back next_change_at change_bytes [] rows rest (changes_steps [] rows are.each (rises_all rows are.rising)))

body_back : (update : Update) (rest : List ℕ) → IsLegalUpdate update → update_body_at (update_body update ++ rest) ≡ Ok (update, rest)
unfolding update_body_at
body_back update rest is =
    let second : List ℕ = counted_changes update.rows ++ rest in
    let first : List ℕ = counted_spots update.spots ++ second in
    let stood : update_body update ++ rest ≡ to_be_bytes w64 update.count ++ first =
    append_assoc (to_be_bytes w64 update.count) (counted_spots update.spots ++ counted_changes update.rows) rest ∙ ap (λ bytes. to_be_bytes w64 update.count ++ bytes) (append_assoc (counted_spots update.spots) (counted_changes update.rows) rest) in
    rw (stood, u64_read BadCheckpoint (to_be_bytes w64 update.count ++ first) update.count first refl is.count, spots_back update.spots second is.spots, changes_back update.rows rest is.rows) refl

update_at_back : (update : Update) (rest : List ℕ) → IsLegalUpdate update → update_at (update_bytes update ++ rest) ≡ Ok (update, rest)
unfolding update_at
update_at_back update rest is = rw (u8_read BadCheckpoint (update_bytes update ++ rest) 68 (update_body update ++ rest) refl) (body_back update rest is)

update_back : (payload : List ℕ) (update : Update) → IsUpdate payload update → update_in payload ≡ Some update
update_back payload update is =
    let stood : payload ≡ update_bytes update ++ [] = is.is ∙ sym (append-nil (update_bytes update)) in
    ap (λ bytes. whole (update_at bytes)) stood ∙ ap whole (update_at_back update [] is.legal)

-- a payload is of one update
pub update_is_one : (payload : List ℕ) (a b : Update) → IsUpdate payload a → IsUpdate payload b → a ≡ b
update_is_one payload a b first second =
    let one = update_back payload a first in
    let other = update_back payload b second in
    cc

pub no_update : (payload from : List ℕ) (fault : CheckpointFault) (update : Update) → from ≡ payload → (update_at from ≡ Err fault) ⊎ (fault ≡ Memory) → fault ≡ BadCheckpoint → IsUpdate payload update → ⊥
no_update payload from fault update same (inl none) bad is =
    let read = update_back payload update is in
    let other : update_in payload ≡ None = ap (λ bytes. whole (update_at bytes)) (sym same) ∙ ap whole none in
    cc
no_update payload from fault update same (inr memory) bad is = cc

pub update_left : (payload from left : List ℕ) (n : ℕ) (a b : Update) → from ≡ payload → update_at from ≡ Ok (a, left) → n ≡ length left → ¬ (n ≡ 0) → IsUpdate payload b → ⊥
update_left payload from [] n a b same read counted some is = some counted
update_left payload from (byte ∷ left) n a b same read counted some is =
    let whole_is = update_back payload b is in
    let other : update_in payload ≡ None = ap (λ bytes. whole (update_at bytes)) (sym same) ∙ ap whole read in
    cc

pub same_update : (payload from left : List ℕ) (n : ℕ) (a b : Update) → from ≡ payload → update_at from ≡ Ok (a, left) → n ≡ length left → n ≡ 0 → IsUpdate payload b → a ≡ b
same_update payload from [] n a b same read counted none is =
    let whole_is = update_back payload b is in
    let other : update_in payload ≡ Some a = ap (λ bytes. whole (update_at bytes)) (sym same) ∙ ap whole read in
    cc
same_update payload from (byte ∷ left) n a b same read counted none is = absurd (omega (arith, counted, none))
