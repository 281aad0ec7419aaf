-- Rows that are moved from the back of one list to the back of another.
use Rattle.std.proofs.Common.{◌≡◌, ℕ, zero, suc, ◌+◌, ◌-◌, ◌<◌, ◌≤◌, ◌&&◌, ◌||◌, Bool, true, false, List, [], ◌∷◌, ◌++◌, reverse, length, get_or, drop, Some, refl, ap, sym, ◌∙◌, subst, arith, append_assoc, drop-cons}
use Rattle.std.specs.Prelude.{is_some, if◌then◌else◌}
use Rattle.std.specs.List.{All}
use Rattle.std.proofs.lemmas.List.{reverse-append, reverse-reverse, map-append, length-map, length-reverse}
use Rattle.rg_agg.specs.Held.{Held}
use Rattle.rg_agg.specs.Standing.{size_in}
use Rattle.rg_state.specs.Changes.{RowChange}
use Rattle.rg_state.specs.Rows.{Entry}
use Rattle.rg_checkpoint.specs.declared.base.Row.{Row}
use Rattle.rg_checkpoint.specs.declared.update.Changed.{Changed}
use Rattle.rg_checkpoint.specs.Changed.{change_of, changes_of}
use Rattle.rg_checkpoint.specs.Entries.{entry_of, entries_of, AreFilled}
use Rattle.rg_checkpoint.specs.Merging.{is_same, before, behind, begins_with, begins_below, without, now_of, merged, all_found}
use Rattle.rg_checkpoint.specs.Reading.{is_below}
use Rattle.rg_checkpoint.specs.Updates.{IsNow, IsRowChange}
use Rattle.rg_checkpoint.proofs.Merging.{merged_all}

-- the rows of a list, the last one first
abbrev pub turned : List Row → List Entry
turned rows = entries_of (reverse rows)

pub turned_last : (rows rest : List Row) (row : Row) → rows ≡ rest ++ row ∷ [] → turned rows ≡ entry_of row ∷ turned rest
turned_last rows rest row is = ap turned is ∙ ap entries_of (reverse-append rest (row ∷ []))

pub turned_twice : (rows : List Row) → turned (reverse rows) ≡ entries_of rows
turned_twice rows = ap entries_of (reverse-reverse rows)

-- a list with a last one
pub parted_last : (rows : List Row) (row : Row) → 0 < length rows → row ≡ get_or rows (length rows - 1) row → (rest : List Row) × (rows ≡ rest ++ row ∷ [])
parted_last [] row some is = absurd (omega arith)
parted_last (a ∷ []) row some is =
    let e : length (a ∷ []) - 1 ≡ 0 = omega arith in
    ([], ap (λ r. r ∷ []) (sym (is ∙ ap (λ n. get_or (a ∷ []) n row) e)))
parted_last (a ∷ (b ∷ rows)) row some is =
    let e : length (a ∷ (b ∷ rows)) - 1 ≡ suc (length (b ∷ rows) - 1) = omega arith in
    let more = parted_last (b ∷ rows) row (omega arith) (is ∙ ap (λ n. get_or (a ∷ (b ∷ rows)) n row) e) in
    (a ∷ more.0, ap (λ l. a ∷ l) more.1)

pub none_there : (rows : List Row) → length rows ≡ 0 → rows ≡ []
none_there [] none = refl
none_there (row ∷ rows) none = absurd (omega arith)

pub last_below : (rows : List Row) (row : Row) (change : RowChange) → 0 < length rows → row ≡ get_or rows (length rows - 1) row → begins_below (turned rows) change ≡ is_below (entry_of row) change
last_below rows row change some is = let part = parted_last rows row some is in ap (λ l. begins_below l change) (turned_last rows part.0 row part.1)

pub last_same : (rows : List Row) (row : Row) (change : RowChange) → 0 < length rows → row ≡ get_or rows (length rows - 1) row → begins_with (turned rows) change ≡ is_same (entry_of row) change
last_same rows row change some is = let part = parted_last rows row some is in ap (λ l. begins_with l change) (turned_last rows part.0 row part.1)

-- moving one

cons_is : {A : Type 0} (a b : A) (x y : List A) → a ∷ x ≡ b ∷ y → (a ≡ b) × (x ≡ y)
cons_is a b x y is = (cc, cc)

pub moved_one : (old rest out new : List Row) (row : Row) (rows : List Entry) (first : Entry) → old ≡ rest ++ row ∷ [] → new ≡ out ++ row ∷ [] → turned old ≡ first ∷ rows → (entries_of new ≡ entries_of out ++ first ∷ []) × (turned rest ≡ rows)
moved_one old rest out new row rows first is pushed turned_is =
    let both = cons_is (entry_of row) first (turned rest) rows (sym (turned_last old rest row is) ∙ turned_is) in
    (ap entries_of pushed ∙ map-append entry_of out (row ∷ []) ∙ ap (λ e. entries_of out ++ e ∷ []) both.0, both.1)

pub none_moved : (old : List Row) (rows : List Entry) (first : Entry) → length old ≡ 0 → turned old ≡ first ∷ rows → ⊥
none_moved [] rows first none is = cc
none_moved (row ∷ old) rows first none is = absurd (omega arith)

-- rows before a change

pub below_step : (rows : List Entry) (change : RowChange) → begins_below rows change ≡ true → (first : Entry) × (rest : List Entry) × (rows ≡ first ∷ rest) × (before rows change ≡ first ∷ before rest change) × (behind rows change ≡ behind rest change)
below_step [] change is = cc
below_step (row ∷ rows) change is =
    (row, rows, refl, ap (λ b. if b then row ∷ before rows change else []) is, ap (λ b. if b then behind rows change else row ∷ rows) is)

pub below_stop : (rows : List Entry) (change : RowChange) → begins_below rows change ≡ false → (before rows change ≡ []) × (behind rows change ≡ rows)
below_stop [] change is = (refl, refl)
below_stop (row ∷ rows) change is = (ap (λ b. if b then row ∷ before rows change else []) is, ap (λ b. if b then behind rows change else row ∷ rows) is)

pub same_step : (rows : List Entry) (change : RowChange) → begins_with rows change ≡ true → (first : Entry) × (rest : List Entry) × (rows ≡ first ∷ rest) × (without rows change ≡ rest)
same_step [] change is = cc
same_step (row ∷ rows) change is = (row, rows, refl, ap (λ b. if b then rows else row ∷ rows) is)

pub same_stop : (rows : List Entry) (change : RowChange) → begins_with rows change ≡ false → without rows change ≡ rows
same_stop [] change is = refl
same_stop (row ∷ rows) change is = ap (λ b. if b then rows else row ∷ rows) is

-- one turn of moving what comes before a change
pub move_step : (change : RowChange) (out out' old old' : List Row) (whole : List Entry) → begins_below (turned old) change ≡ true
    → ((rows : List Entry) (row : Entry) → turned old ≡ row ∷ rows → (entries_of out' ≡ entries_of out ++ row ∷ []) × (turned old' ≡ rows))
    → entries_of out ++ before (turned old) change ≡ whole → entries_of out' ++ before (turned old') change ≡ whole
move_step change out out' old old' whole is moved so_far =
    let s = below_step (turned old) change is in
    let m = moved s.1 s.0 s.2 in
    ap (λ l. l ++ before (turned old') change) m.0 ∙ append_assoc (entries_of out) (s.0 ∷ []) (before (turned old') change) ∙ ap (λ l. entries_of out ++ s.0 ∷ before l change) m.1
    ∙ ap (λ l. entries_of out ++ l) (sym s.3) ∙ so_far

pub move_behind : (change : RowChange) (out out' old old' : List Row) (rest : List Entry) → begins_below (turned old) change ≡ true
    → ((rows : List Entry) (row : Entry) → turned old ≡ row ∷ rows → (entries_of out' ≡ entries_of out ++ row ∷ []) × (turned old' ≡ rows))
    → behind (turned old) change ≡ rest → behind (turned old') change ≡ rest
move_behind change out out' old old' rest is moved so_far =
    let s = below_step (turned old) change is in
    let m = moved s.1 s.0 s.2 in
    ap (λ l. behind l change) m.1 ∙ sym s.4 ∙ so_far

-- the rows of one change, and then of the others
pub one_merged : (change : RowChange) (changes : List RowChange) (start front all rows left gone : List Entry) → front ≡ start ++ before rows change → left ≡ behind rows change → gone ≡ without left change → all ≡ front ++ now_of change
    → all ++ merged gone changes ≡ start ++ merged rows (change ∷ changes)
one_merged change changes start front all rows left gone one two three four =
    let rest : merged gone changes ≡ merged (without (behind rows change) change) changes = ap (λ l. merged l changes) (three ∙ ap (λ l. without l change) two) in
    let tail = merged (without (behind rows change) change) changes in
    ap (λ l. l ++ merged gone changes) four ∙ append_assoc front (now_of change) (merged gone changes) ∙ ap (λ l. front ++ (now_of change ++ l)) rest
    ∙ ap (λ l. l ++ (now_of change ++ tail)) one ∙ append_assoc start (before rows change) (now_of change ++ tail)

-- what the merged rows are

some_now : (held : Held) → IsNow (Some held) → 0 < size_in held
some_now held is = is.0

pub merged_filled : (rows : List Entry) (changes : List RowChange) → AreFilled rows → All IsRowChange changes → AreFilled (merged rows changes)
merged_filled rows changes filled legal =
    merged_all (λ (entry : Entry). 0 < size_in entry.held) IsRowChange rows changes (λ change held is legal. some_now held (subst IsNow is legal.now)) filled legal

-- a list that isn't empty has a last row
pub some_first : (old : List Row) → 0 < length old → (row : Entry) × (rows : List Entry) × (turned old ≡ row ∷ rows)
some_first old some = by (turned old) refl
  where
    by : (l : List Entry) → turned old ≡ l → (row : Entry) × (rows : List Entry) × (turned old ≡ row ∷ rows)
    by [] is = absurd (omega (arith, some, length-map (reverse old) entry_of, length-reverse old, ap length is))
    by (row ∷ rows) is = (row, rows, is)

-- one turn of moving all
pub all_step : (out out' old old' : List Row) (whole : List Entry) → 0 < length old
    → ((rows : List Entry) (row : Entry) → turned old ≡ row ∷ rows → (entries_of out' ≡ entries_of out ++ row ∷ []) × (turned old' ≡ rows))
    → entries_of out ++ turned old ≡ whole → entries_of out' ++ turned old' ≡ whole
all_step out out' old old' whole some moved so_far =
    let f = some_first old some in
    let m = moved f.1 f.0 f.2 in
    ap (λ l. l ++ turned old') m.0 ∙ append_assoc (entries_of out) (f.0 ∷ []) (turned old') ∙ ap (λ l. entries_of out ++ f.0 ∷ l) m.1 ∙ ap (λ l. entries_of out ++ l) (sym f.2) ∙ so_far

-- whether each row that is gone is there, change by change

pub found_step : (rows left rest : List Entry) (items : List Changed) (i : ℕ) (item : Changed) (there whole : Bool) → i < length items → item ≡ get_or items i item → left ≡ behind rows (change_of item) → rest ≡ without left (change_of item) → there ≡ begins_with left (change_of item)
    → (is_some (change_of item).held || there) ≡ true → all_found rows (changes_of (drop i items)) ≡ whole → all_found rest (changes_of (drop (i + 1) items)) ≡ whole
found_step rows left rest items i item there whole within is left_is rest_is there_is ok so_far =
    let one : i + 1 ≡ suc i = omega arith in
    let split : drop i items ≡ item ∷ drop (suc i) items = drop-cons items i item within ∙ ap (λ x. x ∷ drop (suc i) items) (sym is) in
    let change : RowChange = change_of item in
    let so : (is_some change.held || begins_with (behind rows change) change) ≡ true = ap (λ b. is_some change.held || b) (ap (λ l. begins_with l change) (sym left_is) ∙ sym there_is) ∙ ok in
    ap (λ n. all_found rest (changes_of (drop n items))) one ∙ ap (λ l. all_found l (changes_of (drop (suc i) items))) (rest_is ∙ ap (λ l. without l change) left_is)
    ∙ sym (ap (λ b. b && all_found (without (behind rows change) change) (changes_of (drop (suc i) items))) so) ∙ ap (λ l. all_found rows (changes_of l)) (sym split) ∙ so_far

pub found_stops : (rows left : List Entry) (items : List Changed) (i : ℕ) (item : Changed) (there whole : Bool) → i < length items → item ≡ get_or items i item → left ≡ behind rows (change_of item) → there ≡ begins_with left (change_of item)
    → (is_some (change_of item).held || there) ≡ false → all_found rows (changes_of (drop i items)) ≡ whole → false ≡ whole
found_stops rows left items i item there whole within is left_is there_is off so_far =
    let split : drop i items ≡ item ∷ drop (suc i) items = drop-cons items i item within ∙ ap (λ x. x ∷ drop (suc i) items) (sym is) in
    let change : RowChange = change_of item in
    let so : (is_some change.held || begins_with (behind rows change) change) ≡ false = ap (λ b. is_some change.held || b) (ap (λ l. begins_with l change) (sym left_is) ∙ sym there_is) ∙ off in
    sym (ap (λ b. b && all_found (without (behind rows change) change) (changes_of (drop (suc i) items))) so) ∙ ap (λ l. all_found rows (changes_of l)) (sym split) ∙ so_far

none_left : {A : Type 0} (items : List A) (i : ℕ) → length items ≤ i → drop i items ≡ []
none_left [] zero past = refl
none_left [] (suc i) past = refl
none_left (x ∷ items) zero past = absurd (omega arith)
none_left (x ∷ items) (suc i) past = none_left items i (omega arith)

pub found_end : (left : List Entry) (items : List Changed) (i : ℕ) (whole : Bool) → length items ≤ i → all_found left (changes_of (drop i items)) ≡ whole → true ≡ whole
found_end left items i whole past so_far = sym (ap (λ l. all_found left (changes_of l)) (none_left items i past)) ∙ so_far
