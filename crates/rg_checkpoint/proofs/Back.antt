-- A base payload is read as the checkpoint that it is written from, and so it says one checkpoint.
use Rattle.std.proofs.Common.{◌≡◌, ◌⊎◌, inl, inr, ℕ, ◌<◌, ◌≤◌, true, List, [], ◌∷◌, ◌++◌, length, Option, Some, None, Ok, Err, refl, ap, sym, ◌∙◌, subst, arith, append_assoc, append-nil}
use Rattle.std.specs.List.{All}
use Rattle.std.proofs.lemmas.Grind.{common_steps}
use Rattle.std.proofs.lemmas.List.Elements.{All-head, All-tail}
use Rattle.std.specs.Int.{w32, w64, to_be_bytes}
use Rattle.rg_bytes.specs.Reading.{list_bytes, whole}
use Rattle.rg_bytes.proofs.Laws.{bytes_read, u8_read, u32_read, u64_read, StepsBack, more_back}
use Rattle.rg_agg.specs.Held.{Held, held_bytes}
use Rattle.rg_agg.specs.Standing.{size_in}
use Rattle.rg_past.specs.declared.past.Spot.{Spot}
use Rattle.rg_state.specs.Rows.{Entry, entry_bytes}
use Rattle.rg_state.specs.States.{IsHeld, state_at}
use Rattle.rg_state.proofs.Laws.{state_read_back}
use Rattle.rg_checkpoint.specs.declared.base.Checkpoint.{Checkpoint}
use Rattle.rg_checkpoint.specs.declared.fault.CheckpointFault.{CheckpointFault}
use Rattle.rg_checkpoint.specs.declared.fault.CheckpointFault.TheVariants.{BadCheckpoint, Memory}
use Rattle.rg_checkpoint.specs.Base.{text_bytes, spot_bytes, counted_texts, counted_spots, counted_rows, body_bytes, base_bytes, IsText, IsSpot, IsEntry, AreTexts, AreSpots, AreRows, IsLegalCheckpoint, IsBase}
use Rattle.rg_checkpoint.specs.Reading.{text_at, next_text_at, counted_texts_at, spot_at, next_spot_at, counted_spots_at, key_at, row_at, last_of, comes_behind, next_row_at, counted_rows_at, body_at, base_at, checkpoint_in}
use Rattle.rg_checkpoint.proofs.Rising.{RisesBehind, rises_all, last_more}

text_back : (text rest : List ℕ) → IsText text → text_at (text_bytes text ++ rest) ≡ Ok (text, rest)
unfolding text_at
text_back text rest fits =
    rw (u32_read BadCheckpoint (text_bytes text ++ rest) (length text) (text ++ rest) (append_assoc (to_be_bytes w32 (length text)) text rest) fits) (bytes_read BadCheckpoint (length text) (text ++ rest) text rest refl refl)

spot_back : (spot : Spot) (rest : List ℕ) → IsSpot spot → spot_at (spot_bytes spot ++ rest) ≡ Ok (spot, rest)
unfolding spot_at
spot_back spot rest is =
    let behind : List ℕ = to_be_bytes w64 spot.number ++ rest in
    let stood : spot_bytes spot ++ rest ≡ to_be_bytes w64 spot.place ++ (to_be_bytes w32 spot.index ++ behind) = refl in
    rw (u64_read BadCheckpoint (spot_bytes spot ++ rest) spot.place (to_be_bytes w32 spot.index ++ behind) stood is.place, u32_read BadCheckpoint (to_be_bytes w32 spot.index ++ behind) spot.index behind refl is.index, u64_read BadCheckpoint behind spot.number rest refl is.number) refl

pub key_back : (key rest : List ℕ) → length key ≤ 2056 → key_at (to_be_bytes w32 (length key) ++ (key ++ rest)) ≡ Ok (key, rest)
unfolding key_at
key_back key rest short =
    rw (u32_read BadCheckpoint _ (length key) (key ++ rest) refl (omega (arith, short))) (grind (arith, common_steps, bytes_read BadCheckpoint (length key) (key ++ rest) key rest refl refl))

pub held_back : (held : Held) (rest : List ℕ) → IsHeld held → 0 < size_in held → state_at (held_bytes held ++ rest) ≡ Ok (held, rest)
held_back held rest is some =
    subst (λ (h : Held). state_at (held_bytes h ++ rest) ≡ Ok (h, rest)) is.1 (state_read_back is.0 rest (subst (λ (h : Held). 0 < size_in h) (sym is.1) some))

row_back : (row : Entry) (rest : List ℕ) → IsEntry row → row_at (entry_bytes row ++ rest) ≡ Ok (row, rest)
unfolding row_at
row_back row rest is =
    let third : List ℕ = held_bytes row.held ++ rest in
    let second : List ℕ = to_be_bytes w32 (length row.key) ++ (row.key ++ third) in
    let stood : entry_bytes row ++ rest ≡ to_be_bytes w32 row.node ++ second =
    append_assoc (to_be_bytes w32 row.node) (to_be_bytes w32 (length row.key) ++ (row.key ++ held_bytes row.held)) rest ∙ ap (λ bytes. to_be_bytes w32 row.node ++ bytes) (append_assoc (to_be_bytes w32 (length row.key)) (row.key ++ held_bytes row.held) rest ∙ ap (λ bytes. to_be_bytes w32 (length row.key) ++ bytes) (append_assoc row.key (held_bytes row.held) rest)) in
    rw (u32_read BadCheckpoint (entry_bytes row ++ rest) row.node second stood is.node, key_back row.key third is.key, held_back row.held rest is.held is.some) refl

-- items one after another

texts_steps : (so_far texts : List (List ℕ)) → All IsText texts → StepsBack next_text_at text_bytes so_far texts
texts_steps so_far [] all = tt
texts_steps so_far (text ∷ texts) all = (λ rest. text_back text rest (All-head IsText text texts all), texts_steps (so_far ++ text ∷ []) texts (All-tail IsText text texts all))

spots_steps : (so_far spots : List Spot) → All IsSpot spots → StepsBack next_spot_at spot_bytes so_far spots
spots_steps so_far [] all = tt
spots_steps so_far (spot ∷ spots) all = (λ rest. spot_back spot rest (All-head IsSpot spot spots all), spots_steps (so_far ++ spot ∷ []) spots (All-tail IsSpot spot spots all))

next_row_back : (so_far : List Entry) (row : Entry) (rest : List ℕ) → IsEntry row → comes_behind (last_of so_far) row ≡ true → next_row_at so_far (entry_bytes row ++ rest) ≡ Ok (row, rest)
unfolding next_row_at
next_row_back so_far row rest is behind = rw (row_back row rest is, behind) refl

rows_steps : (so_far rows : List Entry) → All IsEntry rows → RisesBehind (last_of so_far) rows → StepsBack next_row_at entry_bytes so_far rows
rows_steps so_far [] all rises = tt
rows_steps so_far (row ∷ rows) all rises = (
  λ rest. next_row_back so_far row rest (All-head IsEntry row rows all) rises.0,
  rows_steps (so_far ++ row ∷ []) rows (All-tail IsEntry row rows all) (subst (λ (last : Option Entry). RisesBehind last rows) (sym (last_more so_far row)) rises.1),
)

-- the lists

texts_back : (texts : List (List ℕ)) (rest : List ℕ) → AreTexts texts → counted_texts_at (counted_texts texts ++ rest) ≡ Ok (texts, rest)
unfolding counted_texts_at
texts_back texts rest are =
    rw (u32_read BadCheckpoint (counted_texts texts ++ rest) (length texts) (list_bytes text_bytes texts ++ rest) (append_assoc (to_be_bytes w32 (length texts)) (list_bytes text_bytes texts) rest) are.few) (more_back next_text_at text_bytes [] texts rest (texts_steps [] texts are.each))

pub spots_back : (spots : List Spot) (rest : List ℕ) → AreSpots spots → counted_spots_at (counted_spots spots ++ rest) ≡ Ok (spots, rest)
unfolding counted_spots_at
spots_back spots rest are =
    rw (u32_read BadCheckpoint (counted_spots spots ++ rest) (length spots) (list_bytes spot_bytes spots ++ rest) (append_assoc (to_be_bytes w32 (length spots)) (list_bytes spot_bytes spots) rest) are.few) (more_back next_spot_at spot_bytes [] spots rest (spots_steps [] spots are.each))

rows_back : (rows : List Entry) (rest : List ℕ) → AreRows rows → counted_rows_at (counted_rows rows ++ rest) ≡ Ok (rows, rest)
unfolding counted_rows_at
rows_back rows rest are =
    rw (u64_read BadCheckpoint (counted_rows rows ++ rest) (length rows) (list_bytes entry_bytes rows ++ rest) (append_assoc (to_be_bytes w64 (length rows)) (list_bytes entry_bytes rows) rest) are.few) (more_back next_row_at entry_bytes [] rows rest (rows_steps [] rows are.each (rises_all rows are.rising)))

-- the whole

body_back : (checkpoint : Checkpoint) (rest : List ℕ) → IsLegalCheckpoint checkpoint → body_at (body_bytes checkpoint ++ rest) ≡ Ok (checkpoint, rest)
unfolding body_at
body_back checkpoint rest is =
    let third : List ℕ = counted_rows checkpoint.rows ++ rest in
    let second : List ℕ = counted_spots checkpoint.spots ++ third in
    let first : List ℕ = to_be_bytes w64 checkpoint.count ++ second in
    let stood : body_bytes checkpoint ++ rest ≡ counted_texts checkpoint.queries ++ first =
    append_assoc (counted_texts checkpoint.queries) (to_be_bytes w64 checkpoint.count ++ (counted_spots checkpoint.spots ++ counted_rows checkpoint.rows)) rest ∙ ap (λ bytes. counted_texts checkpoint.queries ++ bytes) (append_assoc (to_be_bytes w64 checkpoint.count) (counted_spots checkpoint.spots ++ counted_rows checkpoint.rows) rest ∙ ap (λ bytes. to_be_bytes w64 checkpoint.count ++ bytes) (append_assoc (counted_spots checkpoint.spots) (counted_rows checkpoint.rows) rest)) in
    rw (stood, texts_back checkpoint.queries first is.queries, u64_read BadCheckpoint first checkpoint.count second refl is.count, spots_back checkpoint.spots third is.spots, rows_back checkpoint.rows rest is.rows) refl

base_at_back : (checkpoint : Checkpoint) (rest : List ℕ) → IsLegalCheckpoint checkpoint → base_at (base_bytes checkpoint ++ rest) ≡ Ok (checkpoint, rest)
unfolding base_at
base_at_back checkpoint rest is = rw (u8_read BadCheckpoint (base_bytes checkpoint ++ rest) 66 (body_bytes checkpoint ++ rest) refl) (body_back checkpoint rest is)

base_back : (payload : List ℕ) (checkpoint : Checkpoint) → IsBase payload checkpoint → checkpoint_in payload ≡ Some checkpoint
base_back payload checkpoint base =
    let stood : payload ≡ base_bytes checkpoint ++ [] = base.is ∙ sym (append-nil (base_bytes checkpoint)) in
    ap (λ bytes. whole (base_at bytes)) stood ∙ ap whole (base_at_back checkpoint [] base.legal)

-- a payload is of one checkpoint
pub base_is_one : (payload : List ℕ) (a b : Checkpoint) → IsBase payload a → IsBase payload b → a ≡ b
base_is_one payload a b first second =
    let one = base_back payload a first in
    let other = base_back payload b second in
    cc

-- what a reading tells of a whole payload

pub no_base : (payload from : List ℕ) (fault : CheckpointFault) (checkpoint : Checkpoint) → from ≡ payload → (base_at from ≡ Err fault) ⊎ (fault ≡ Memory) → fault ≡ BadCheckpoint → IsBase payload checkpoint → ⊥
no_base payload from fault checkpoint same (inl none) bad base =
    let read = base_back payload checkpoint base in
    let other : checkpoint_in payload ≡ None = ap (λ bytes. whole (base_at bytes)) (sym same) ∙ ap whole none in
    cc
no_base payload from fault checkpoint same (inr memory) bad base = cc

pub more_left : (payload from left : List ℕ) (n : ℕ) (a b : Checkpoint) → from ≡ payload → base_at from ≡ Ok (a, left) → n ≡ length left → ¬ (n ≡ 0) → IsBase payload b → ⊥
more_left payload from [] n a b same read counted some base = some counted
more_left payload from (byte ∷ left) n a b same read counted some base =
    let whole_is = base_back payload b base in
    let other : checkpoint_in payload ≡ None = ap (λ bytes. whole (base_at bytes)) (sym same) ∙ ap whole read in
    cc

pub same_base : (payload from left : List ℕ) (n : ℕ) (a b : Checkpoint) → from ≡ payload → base_at from ≡ Ok (a, left) → n ≡ length left → n ≡ 0 → IsBase payload b → a ≡ b
same_base payload from [] n a b same read counted none base =
    let whole_is = base_back payload b base in
    let other : checkpoint_in payload ≡ Some a = ap (λ bytes. whole (base_at bytes)) (sym same) ∙ ap whole read in
    cc
same_base payload from (byte ∷ left) n a b same read counted none base = absurd (omega (arith, counted, none))
