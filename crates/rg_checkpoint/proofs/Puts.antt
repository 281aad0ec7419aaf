-- Bytes written one after another.
use Rattle.std.proofs.Common.{◌≡◌, ℕ, Bool, true, false, Option, None, suc, ◌+◌, ◌<◌, ◌≤◌, ◌^◌, List, [], ◌∷◌, ◌++◌, length, get_or, take, drop, Some, refl, ap, sym, ◌∙◌, subst, arith, append_assoc}
use Rattle.std.proofs.Math.Seq.{drop-cons}
use Rattle.std.proofs.lemmas.List.{take_more, take_all}
use Rattle.std.proofs.lemmas.List.Elements.{All-append, All-cons, All-nil, All-weaker, All-contains_itself}
use Rattle.std.specs.List.{All, Contains}
use Rattle.std.specs.Int.{w64, to_be_bytes}
use Rattle.rg_agg.specs.Held.{Held}
use Rattle.rg_past.specs.declared.past.Spot.{Spot}
use Rattle.rg_state.specs.Changes.{Marks, RowChange, change_of, changes_in, change_bytes, changes_bytes, WritesChanges}
use Rattle.rg_state.specs.Counted.{WritesCounted}
use Rattle.rg_state.specs.Rows.{Cells, Entry, Lists, ListsOf, entry_bytes, entries_bytes}
use Rattle.rg_bytes.specs.Reading.{list_bytes}
use Rattle.rg_checkpoint.specs.Base.{counted_texts, counted_spots, IsEntry, AreTexts, AreSpots}
use Rattle.rg_checkpoint.specs.Updates.{IsRowChange, counted_changes}
use Rattle.rg_checkpoint.specs.Writing.{Encodes, EncodesChanges, front_bytes, head_bytes, change_front_bytes}

pub two_more : (old first second middle new : List ℕ) → middle ≡ old ++ first → new ≡ middle ++ second → new ≡ old ++ (first ++ second)
two_more old first second middle new one two = rw (two, one) (append_assoc old first second)

-- an item more
pub item_put : {A : Type 0} (item_bytes : A → List ℕ) (items : List A) (i : ℕ) (item : A) (whole old new : List ℕ) → i < length items → item ≡ get_or items i item → new ≡ old ++ item_bytes item
    → old ++ list_bytes item_bytes (drop i items) ≡ whole → new ++ list_bytes item_bytes (drop (i + 1) items) ≡ whole
item_put item_bytes items i item whole old new there is put so_far =
    let one : i + 1 ≡ suc i = omega arith in
    let split : drop i items ≡ item ∷ drop (suc i) items = drop-cons items i item there ∙ ap (λ x. x ∷ drop (suc i) items) (sym is) in
    ap (λ n. new ++ list_bytes item_bytes (drop n items)) one
    ∙ ap (λ bytes. bytes ++ list_bytes item_bytes (drop (suc i) items)) put
    ∙ append_assoc old (item_bytes item) (list_bytes item_bytes (drop (suc i) items))
    ∙ ap (λ rest. old ++ list_bytes item_bytes rest) (sym split) ∙ so_far

pub item_legal : {A : Type 0} (P : A → Type 0) (items : List A) (i : ℕ) (item : A) → i < length items → item ≡ get_or items i item → All P (take i items) → P item → All P (take (i + 1) items)
item_legal P items i item there is all legal =
    rw (take_more items i item there, ← is) (All-append P (take i items) (item ∷ []) all (All-cons P item [] legal (All-nil P)))

pub all_taken : {A : Type 0} (P : A → Type 0) (items : List A) (i : ℕ) → length items ≤ i → All P (take i items) → All P items
all_taken P items i past all = subst (All P) (take_all i items past) all

-- all that stands before the number of the rows
pub head_put : (old texts count spots n1 n2 n3 n4 : List ℕ) → n1 ≡ old ++ 66 ∷ [] → n2 ≡ n1 ++ texts → n3 ≡ n2 ++ count → n4 ≡ n3 ++ spots → n4 ≡ old ++ (66 ∷ (texts ++ (count ++ spots)))
head_put old texts count spots n1 n2 n3 n4 e1 e2 e3 e4 =
    rw (e4, e3, e2, e1)
    (append_assoc ((old ++ 66 ∷ []) ++ texts) count spots ∙ append_assoc (old ++ 66 ∷ []) texts (count ++ spots) ∙ append_assoc old (66 ∷ []) (texts ++ (count ++ spots)))

-- the number behind it
front_put : (queries : List (List ℕ)) (count : ℕ) (spots : List Spot) (rows : ℕ) (old : List ℕ) → (old ++ head_bytes queries count spots) ++ to_be_bytes w64 rows ≡ old ++ front_bytes queries count spots rows
front_put queries count spots rows old =
    let a = counted_texts queries in
    let b = to_be_bytes w64 count in
    let d = counted_spots spots in
    let e = to_be_bytes w64 rows in
    append_assoc old (head_bytes queries count spots) e
    ∙ ap (λ (bytes : List ℕ). old ++ (66 ∷ bytes)) (append_assoc a (b ++ d) e ∙ ap (λ (bytes : List ℕ). a ++ bytes) (append_assoc b d e))

-- the bytes of rows, as a table writes them
entries_list : (entries : List Entry) → entries_bytes entries ≡ list_bytes entry_bytes entries
entries_list [] = refl
entries_list (entry ∷ entries) = ap (λ bytes. entry_bytes entry ++ bytes) (entries_list entries)

-- all rows of a table, each of which can stand in a checkpoint
pub rows_legal : (cells : Cells) (entries : List Entry) → Lists cells entries → ((node : ℕ) (key : List ℕ) (held : Held) → cells node key ≡ Some held → IsEntry (record { node = node; key = key; held = held })) → All IsEntry entries
rows_legal cells entries lists each =
    All-weaker (Contains entries) IsEntry (λ entry among. each entry.node entry.key entry.held ((lists.rows entry.node entry.key entry.held).1 among)) entries (All-contains_itself entries)

-- what stands before the rows' number, and then the rows behind it
pub encodes : (cells : Cells) (queries : List (List ℕ)) (count : ℕ) (spots : List Spot) (old middle new : List ℕ) (rows : WritesCounted cells middle new) → AreTexts queries → count < 2 ^ 64 → AreSpots spots
    → All IsEntry rows.rows.0 → middle ≡ old ++ head_bytes queries count spots → Encodes cells queries count spots old new
encodes cells queries count spots old middle new rows texts fits are each first =
    let entries : List Entry = rows.rows.0 in
    let written : List ℕ = rows.written in
    let number : List ℕ = to_be_bytes w64 (length entries) in
    record {
      payload = front_bytes queries count spots (length entries) ++ written;
      rows = entries;
      lists = rows.rows.1;
      base = record {
        is =
            let listed : written ≡ list_bytes entry_bytes entries = rows.rows.2 ∙ entries_list entries in
            let a = counted_texts queries in
            let b = to_be_bytes w64 count in
            let d = counted_spots spots in
            ap (λ (bytes : List ℕ). 66 ∷ bytes)
            (append_assoc a (b ++ (d ++ number)) written ∙ ap (λ (bytes : List ℕ). a ++ bytes) (append_assoc b (d ++ number) written ∙ ap (λ (bytes : List ℕ). b ++ bytes) (append_assoc d number written ∙ ap (λ (bytes : List ℕ). d ++ (number ++ bytes)) listed)));
        legal = record { queries = texts; count = fits; spots = are; rows = record { few = rows.few; each = each; rising = rows.rows.1.rising } };
      };
      added =
          rows.added ∙ sym (append_assoc middle number written) ∙ ap (λ (bytes : List ℕ). bytes ++ written) (ap (λ (bytes : List ℕ). bytes ++ number) first ∙ front_put queries count spots (length entries) old)
          ∙ append_assoc old (front_bytes queries count spots (length entries)) written;
    }

-- Changes

-- all that stands before the rows that changed, and their number
pub change_front_put : (old count spots n1 n2 n3 : List ℕ) → n1 ≡ old ++ 68 ∷ [] → n2 ≡ n1 ++ count → n3 ≡ n2 ++ spots → n3 ≡ old ++ (68 ∷ (count ++ spots))
change_front_put old count spots n1 n2 n3 e1 e2 e3 = rw (e3, e2, e1) (append_assoc (old ++ 68 ∷ []) count spots ∙ append_assoc old (68 ∷ []) (count ++ spots))

-- the bytes of rows that changed, as a table writes them
changes_list : (changes : List RowChange) → changes_bytes changes ≡ list_bytes change_bytes changes
changes_list [] = refl
changes_list (change ∷ changes) = ap (λ bytes. change_bytes change ++ bytes) (changes_list changes)

change_legal : (node : ℕ) (key : List ℕ) (named there : Bool) (row now : Option Held) → change_of named there row ≡ Some now → ((held : Held) → row ≡ Some held → IsEntry (record { node = node; key = key; held = held }))
    → (there ≡ true → (node < 2 ^ 32) × (length key ≤ 2056)) → IsRowChange (record { node = node; key = key; held = now })
change_legal node key true there (Some held) now is entry fits =
    let same : Some held ≡ now = cc in
    let legal = entry held refl in
    subst (λ (n : Option Held). IsRowChange (record { node = node; key = key; held = n })) same (record { node = legal.node; key = legal.key; now = (legal.some, legal.held) })
change_legal node key true true None now is entry fits =
    let same : None ≡ now = cc in
    subst (λ (n : Option Held). IsRowChange (record { node = node; key = key; held = n })) same (record { node = (fits refl).0; key = (fits refl).1; now = tt })
change_legal node key true false None now is entry fits = cc
change_legal node key false there row now is entry fits = cc

-- what changed in a table, each of which can stand in a change payload
pub changes_legal : (named there : Marks) (cells : Cells) (changes : List RowChange) → ListsOf (changes_in named there cells) changes → ((node : ℕ) (key : List ℕ) (held : Held) → cells node key ≡ Some held → IsEntry (record { node = node; key = key; held = held }))
    → ((node : ℕ) (key : List ℕ) → there node key ≡ true → (node < 2 ^ 32) × (length key ≤ 2056)) → All IsRowChange changes
changes_legal named there cells changes lists entry fits =
    All-weaker (Contains changes) IsRowChange
    (λ change among. change_legal change.node change.key (named change.node change.key) (there change.node change.key) (cells change.node change.key) change.held ((lists.rows change.node change.key change.held).1 among) (entry change.node change.key) (fits change.node change.key))
    changes (All-contains_itself changes)

-- what stands before the rows that changed, and then these behind their number
pub encodes_changes : (named there : Marks) (cells : Cells) (count : ℕ) (spots : List Spot) (old middle new written : List ℕ) (changed : WritesChanges named there cells written) → count < 2 ^ 64 → AreSpots spots
    → All IsRowChange changed.changes → middle ≡ old ++ change_front_bytes count spots → new ≡ middle ++ written → EncodesChanges named there cells count spots old new
encodes_changes named there cells count spots old middle new written changed fits are each first second = record {
  payload = change_front_bytes count spots ++ written;
  rows = changed.changes;
  lists = changed.lists;
  is = record {
    is =
        let listed : written ≡ counted_changes changed.changes = changed.is ∙ ap (λ bytes. to_be_bytes w64 (length changed.changes) ++ bytes) (changes_list changed.changes) in
        ap (λ (bytes : List ℕ). 68 ∷ bytes) (append_assoc (to_be_bytes w64 count) (counted_spots spots) written ∙ ap (λ (bytes : List ℕ). to_be_bytes w64 count ++ (counted_spots spots ++ bytes)) listed);
    legal = record { count = fits; spots = are; rows = record { few = changed.few; each = each; rising = changed.lists.rising } };
  };
  added = second ∙ ap (λ (bytes : List ℕ). bytes ++ written) first ∙ append_assoc old (change_front_bytes count spots) written;
}
