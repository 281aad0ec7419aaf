-- Rows on sheets: a row more, a key more, and all sheets one after another.
use Rattle.std.proofs.Common.{◌≡◌, ◌∙◌, ℕ, zero, suc, ◌+◌, ◌*◌, ◌<◌, ◌≤◌, ◌^◌, ◌==◌, ◌&&◌, ◌||◌, cond, Bool, true, false, List, [], ◌∷◌, ◌++◌, length, map, get_or, set, drop, Option, None, Some, refl, ap, sym, subst, arith, true≢false, append_assoc, append-nil, length-append, length-set, drop-cons, drop_of_length-le}
use Rattle.std.specs.Prelude.{is_some}
use Rattle.std.specs.Option.{option_map}
use Rattle.std.specs.Int.{w64, to_be_bytes}
use Rattle.std.proofs.lemmas.Bool.Decides.{Decides-eqb}
use Rattle.std.proofs.lemmas.List.{length-map}
use Rattle.rg_agg.specs.Standing.{size_in}
use Rattle.rg_state.specs.CellLaws.{sound_rest, seen_below}
use Rattle.rg_state.specs.Slots.{slot_filled, short_key}
use Rattle.rg_state.specs.Cells.{row_at, row_by as slot_row, slot_in, seen_in, and_row, node_entries, entries_from, held_row, told_row, IsBound, AreBelow}
use Rattle.rg_state.specs.Changes.{RowChange, change_bytes, changes_bytes}
use Rattle.rg_state.specs.Counted.{counted_bytes}
use Rattle.rg_state.specs.Kepts.{Seen, unseen, seen, seen_at, shown, told, are_sound}
use Rattle.rg_state.specs.Rows.{At, Entry, entry_bytes, entries_bytes}
use Rattle.rg_state.specs.Sheets.{is_wanted, span_of, row_bytes, and_span, joined, node_spans, spans_from, counted_spans, Page, page_of, blank, page_at, and_spans, sheets_bytes, sheets_rows, HasRoom, IsReady, Gets, IsReadyAt, GetsAt, AreFilled}
use Rattle.rg_state.specs.States.{held_of}
use Rattle.rg_state.specs.declared.key_rows.Kept.{Kept}
use Rattle.rg_state.specs.declared.key_rows.KeyRows.{KeyRows}
use Rattle.rg_state.specs.declared.sheets.Sheet.{Sheet}
use Rattle.rg_state.specs.declared.sheets.Wanted.{Wanted}
use Rattle.rg_state.specs.declared.sheets.Wanted.TheVariants.{Rows, Changes}
use Rattle.rg_state.proofs.Placed.{stands, at_place, none_seen, alone}
use Rattle.rg_state.proofs.Slotted.{row_there, within_of}

abbrev Sound : List Kept → Type 0
Sound kepts = are_sound kepts ≡ true

-- the bytes of a row

row_by_size : (kept : Kept) (key : List ℕ) (b : Bool) → is_some (cond b None (Some (held_of kept.state))) ≡ true
    → option_map (λ held. entry_bytes (record { node = kept.node; key = key; held = held })) (cond b None (Some (held_of kept.state))) ≡ Some (row_bytes Rows key kept)
row_by_size kept key true is = cc
row_by_size kept key false is = refl

change_by : (kept : Kept) (key : List ℕ) (b : Bool) → is_some (cond b (Some (shown (held_of kept.state))) None) ≡ true
    → option_map (λ now. change_bytes (record { node = kept.node; key = key; held = now })) (cond b (Some (shown (held_of kept.state))) None) ≡ Some (row_bytes Changes key kept)
change_by kept key true is = refl
change_by kept key false is = cc

pub span_is : (wanted : Wanted) (key : List ℕ) (kept : Kept) → is_wanted wanted (seen kept) ≡ true → span_of wanted kept.node key (seen kept) ≡ Some (row_bytes wanted key kept)
span_is Rows key kept is = row_by_size kept key (size_in (held_of kept.state) == 0) is
span_is Changes key kept is = change_by kept key (kept.named && (is_some (shown (held_of kept.state)) || kept.there)) is

none_mapped : {X : Type 0} (f : X → List ℕ) (x : Option X) → is_some x ≡ false → option_map f x ≡ None
none_mapped f None is = refl
none_mapped f (Some x) is = cc

pub span_none : (wanted : Wanted) (node : ℕ) (key : List ℕ) (row : Seen) → is_wanted wanted row ≡ false → span_of wanted node key row ≡ None
span_none Rows node key row is = none_mapped (λ held. entry_bytes (record { node = node; key = key; held = held })) row.held is
span_none Changes node key row is = none_mapped (λ now. change_bytes (record { node = node; key = key; held = now })) (told row) is

unseen_none : (wanted : Wanted) (node : ℕ) (key : List ℕ) → span_of wanted node key unseen ≡ None
unseen_none Rows node key = refl
unseen_none Changes node key = refl

span_seen : (wanted : Wanted) (node : ℕ) (key span : List ℕ) (row : Seen) → span_of wanted node key row ≡ Some span → row ≡ unseen → ⊥
span_seen wanted node key span row is none =
    let never : None ≡ Some span = sym (unseen_none wanted node key) ∙ sym (ap (span_of wanted node key) none) ∙ is in cc

-- pages

page_is : (a b : List ℕ) (m n : ℕ) → a ≡ b → m ≡ n → page_of a m ≡ page_of b n
page_is a b m n bytes rows = ap (λ (x : List ℕ). page_of x m) bytes ∙ ap (λ (k : ℕ). page_of b k) rows

bytes_join : (front back : List (List ℕ)) → joined (front ++ back) ≡ joined front ++ joined back
bytes_join [] back = refl
bytes_join (span ∷ front) back = ap (λ bytes. span ++ bytes) (bytes_join front back) ∙ sym (append_assoc span (joined front) (joined back))

and_more : (page : Page) (front back : List (List ℕ)) → and_spans (and_spans page front) back ≡ and_spans page (front ++ back)
and_more page front back =
    page_is ((page.bytes ++ joined front) ++ joined back) (page.bytes ++ joined (front ++ back)) (page.rows + length front + length back) (page.rows + length (front ++ back))
    (append_assoc page.bytes (joined front) (joined back) ∙ ap (λ bytes. page.bytes ++ bytes) (sym (bytes_join front back)))
    (omega (arith, length-append front back))

and_none : (page : Page) → and_spans page [] ≡ page
and_none page = page_is (page.bytes ++ []) page.bytes (page.rows + 0) page.rows (append-nil page.bytes) (omega arith)

rows_same : (p q : Page) → p ≡ q → p.rows ≡ q.rows
rows_same p q same = ap (λ (page : Page). page.rows) same

-- a sheet in the list

page_there : (sheets : List Sheet) (node : ℕ) (sheet : Sheet) → node < length sheets → sheet ≡ get_or sheets node sheet → page_at sheets node ≡ page_of sheet.bytes.items sheet.rows
page_there [] node sheet within is = absurd (omega arith)
page_there (s ∷ sheets) zero sheet within is = ap (λ (s : Sheet). page_of s.bytes.items s.rows) (sym is)
page_there (s ∷ sheets) (suc node) sheet within is = page_there sheets node sheet (omega arith) is

page_set : (sheets : List Sheet) (node : ℕ) (sheet : Sheet) → node < length sheets → page_at (set sheets node sheet) node ≡ page_of sheet.bytes.items sheet.rows
page_set [] node sheet within = absurd (omega arith)
page_set (s ∷ sheets) zero sheet within = refl
page_set (s ∷ sheets) (suc node) sheet within = page_set sheets node sheet (omega arith)

page_beside : (sheets : List Sheet) (node other : ℕ) (sheet : Sheet) → (other ≡ node → ⊥) → page_at (set sheets node sheet) other ≡ page_at sheets other
page_beside [] node other sheet apart = refl
page_beside (s ∷ sheets) zero zero sheet apart = absurd (apart refl)
page_beside (s ∷ sheets) zero (suc other) sheet apart = refl
page_beside (s ∷ sheets) (suc node) zero sheet apart = refl
page_beside (s ∷ sheets) (suc node) (suc other) sheet apart = page_beside sheets node other sheet (λ e. apart (ap suc e))

pub page_pushed : (sheets : List Sheet) (sheet : Sheet) (node : ℕ) → page_of sheet.bytes.items sheet.rows ≡ blank → page_at (sheets ++ sheet ∷ []) node ≡ page_at sheets node
page_pushed [] sheet zero none = none
page_pushed [] sheet (suc node) none = refl
page_pushed (s ∷ sheets) sheet zero none = refl
page_pushed (s ∷ sheets) sheet (suc node) none = page_pushed sheets sheet node none

-- a sheet with its rows counted

pub count_is : (sheets : List Sheet) (node : ℕ) (sheet : Sheet) → node < length sheets → sheet ≡ get_or sheets node sheet → (page_at sheets node).rows < 2 ^ 32 → sheet.rows < 2 ^ 32
count_is sheets node sheet within is few = omega (arith, few, rows_same (page_at sheets node) (page_of sheet.bytes.items sheet.rows) (page_there sheets node sheet within is))

abbrev spans : Wanted → ℕ → List ℕ → Seen → List (List ℕ)
spans wanted node key row = and_span (span_of wanted node key row) []

unseen_spans : (wanted : Wanted) (node : ℕ) (key : List ℕ) → spans wanted node key unseen ≡ []
unseen_spans wanted node key = ap (λ x. and_span x []) (unseen_none wanted node key)

put_here : (wanted : Wanted) (key : List ℕ) (kept : Kept) (sheets : List Sheet) (old new : Sheet) → is_wanted wanted (seen kept) ≡ true → kept.node < length sheets → old ≡ get_or sheets kept.node old →
    new.bytes.items ≡ old.bytes.items ++ row_bytes wanted key kept → new.rows ≡ old.rows + 1 → page_at (set sheets kept.node new) kept.node ≡ and_spans (page_at sheets kept.node) (spans wanted kept.node key (seen kept))
put_here wanted key kept sheets old new is_so within is bytes rows =
    page_set sheets kept.node new within
    ∙ page_is new.bytes.items (old.bytes.items ++ (row_bytes wanted key kept ++ [])) new.rows (old.rows + 1) (bytes ∙ ap (λ bytes. old.bytes.items ++ bytes) (sym (append-nil (row_bytes wanted key kept)))) rows
    ∙ ap (λ (page : Page). and_spans page (row_bytes wanted key kept ∷ [])) (sym (page_there sheets kept.node old within is))
    ∙ ap (λ x. and_spans (page_at sheets kept.node) (and_span x [])) (sym (span_is wanted key kept is_so))

put_by : (wanted : Wanted) (key : List ℕ) (kept : Kept) (sheets : List Sheet) (old new : Sheet) → is_wanted wanted (seen kept) ≡ true → kept.node < length sheets → old ≡ get_or sheets kept.node old →
    new.bytes.items ≡ old.bytes.items ++ row_bytes wanted key kept → new.rows ≡ old.rows + 1 →
    (node : ℕ) (b : Bool) → (kept.node == node) ≡ b → page_at (set sheets kept.node new) node ≡ and_spans (page_at sheets node) (spans wanted node key (cond b (seen kept) unseen))
put_by wanted key kept sheets old new is_so within is bytes rows node true d =
    subst (λ n. page_at (set sheets kept.node new) n ≡ and_spans (page_at sheets n) (spans wanted n key (seen kept))) ((Decides-eqb kept.node node).0 d) (put_here wanted key kept sheets old new is_so within is bytes rows)
put_by wanted key kept sheets old new is_so within is bytes rows node false d =
    page_beside sheets kept.node node new (λ e. true≢false (sym ((Decides-eqb kept.node node).1 (sym e)) ∙ d)) ∙ sym (and_none (page_at sheets node)) ∙ ap (and_spans (page_at sheets node)) (sym (unseen_spans wanted node key))

-- a row is written on its node's sheet
pub put_one : (wanted : Wanted) (key : List ℕ) (kept : Kept) (sheets : List Sheet) (old new : Sheet) → is_wanted wanted (seen kept) ≡ true → kept.node < length sheets → old ≡ get_or sheets kept.node old →
    new.bytes.items ≡ old.bytes.items ++ row_bytes wanted key kept → new.rows ≡ old.rows + 1 → Gets wanted key (kept ∷ []) sheets (set sheets kept.node new)
put_one wanted key kept sheets old new is_so within is bytes rows = record {
  pages = λ node. put_by wanted key kept sheets old new is_so within is bytes rows node (kept.node == node) refl;
  count = length-set sheets kept.node new;
}

left_by : (wanted : Wanted) (key : List ℕ) (kept : Kept) (node : ℕ) (b : Bool) → is_wanted wanted (seen kept) ≡ false → spans wanted node key (cond b (seen kept) unseen) ≡ []
left_by wanted key kept node true is = ap (λ x. and_span x []) (span_none wanted node key (seen kept) is)
left_by wanted key kept node false is = unseen_spans wanted node key

-- or isn't, where it isn't wanted
pub leave_one : (wanted : Wanted) (key : List ℕ) (kept : Kept) (sheets : List Sheet) → is_wanted wanted (seen kept) ≡ false → Gets wanted key (kept ∷ []) sheets sheets
leave_one wanted key kept sheets is = record {
  pages = λ node. sym (and_none (page_at sheets node)) ∙ ap (and_spans (page_at sheets node)) (sym (left_by wanted key kept node (kept.node == node) is));
  count = refl;
}

pub room_of : (wanted : Wanted) (key : List ℕ) (kept : Kept) (sheets : List Sheet) → is_wanted wanted (seen kept) ≡ true → IsReady wanted key (kept ∷ []) sheets → HasRoom sheets kept.node
room_of wanted key kept sheets is ready = ready.room kept.node (row_bytes wanted key kept) (ap (span_of wanted kept.node key) (stands kept []) ∙ span_is wanted key kept is)

-- the rows of a key, one after another

sound_drop : (kepts : List Kept) (i : ℕ) → Sound kepts → Sound (drop i kepts)
sound_drop kepts zero sound = sound
sound_drop [] (suc i) sound = refl
sound_drop (kept ∷ kepts) (suc i) sound = sound_drop kepts i (sound_rest kept kepts sound)

row_by : (wanted : Wanted) (key : List ℕ) (kept : Kept) (rest : List Kept) (node : ℕ) (b : Bool) → Sound (kept ∷ rest) → (kept.node == node) ≡ b →
    spans wanted node key (cond b (seen kept) unseen) ++ spans wanted node key (seen_at rest node) ≡ spans wanted node key (cond b (seen kept) (seen_at rest node))
row_by wanted key kept rest node true sound d =
    let none : seen_at rest node ≡ unseen = ap (seen_at rest) (sym ((Decides-eqb kept.node node).0 d)) ∙ none_seen rest kept.node (alone kept rest sound) in
    ap (λ row. spans wanted node key (seen kept) ++ spans wanted node key row) none ∙ ap (λ back. spans wanted node key (seen kept) ++ back) (unseen_spans wanted node key) ∙ append-nil (spans wanted node key (seen kept))
row_by wanted key kept rest node false sound d = ap (λ front. front ++ spans wanted node key (seen_at rest node)) (unseen_spans wanted node key)

split : (kepts : List Kept) (i : ℕ) (kept : Kept) → i < length kepts → kept ≡ get_or kepts i kept → drop i kepts ≡ kept ∷ drop (suc i) kepts
split kepts i kept there is = drop-cons kepts i kept there ∙ ap (λ k. k ∷ drop (suc i) kepts) (sym is)

-- what is on each sheet and what is left of a key's rows are what was on it and all
abbrev pub Left : Wanted → List ℕ → List Kept → ℕ → List Sheet → List Sheet → Type 0
Left wanted key kepts i start now = (node : ℕ) → and_spans (page_at now node) (spans wanted node key (seen_at (drop i kepts) node)) ≡ and_spans (page_at start node) (spans wanted node key (seen_at kepts node))

pub key_more : (wanted : Wanted) (key : List ℕ) (kepts : List Kept) (i : ℕ) (kept : Kept) (start old new : List Sheet) → Sound kepts → i < length kepts → kept ≡ get_or kepts i kept → Gets wanted key (kept ∷ []) old new → Left wanted key kepts i start old → Left wanted key kepts (i + 1) start new
key_more wanted key kepts i kept start old new sound there is gets so_far node =
    let one : i + 1 ≡ suc i = omega arith in
    let rest = drop (suc i) kepts in
    let parts = split kepts i kept there is in
    ap (λ n. and_spans (page_at new node) (spans wanted node key (seen_at (drop n kepts) node))) one
    ∙ ap (λ (page : Page). and_spans page (spans wanted node key (seen_at rest node))) (gets.pages node)
    ∙ and_more (page_at old node) (spans wanted node key (seen_at (kept ∷ []) node)) (spans wanted node key (seen_at rest node))
    ∙ ap (λ spans. and_spans (page_at old node) spans) (row_by wanted key kept rest node (kept.node == node) (subst Sound parts (sound_drop kepts i sound)) refl)
    ∙ ap (λ ks. and_spans (page_at old node) (spans wanted node key (seen_at ks node))) (sym parts)
    ∙ so_far node

pub key_end : (wanted : Wanted) (key : List ℕ) (kepts : List Kept) (i : ℕ) (start now : List Sheet) → length kepts ≤ i → length now ≡ length start → Left wanted key kepts i start now → Gets wanted key kepts start now
key_end wanted key kepts i start now past count so_far = record {
  pages = λ node. (
      sym (and_none (page_at now node)) ∙ ap (and_spans (page_at now node)) (sym (unseen_spans wanted node key))
      ∙ ap (λ ks. and_spans (page_at now node) (spans wanted node key (seen_at ks node))) (sym (drop_of_length-le kepts past)) ∙ so_far node);
  count = count;
}

span_few : (span : Option (List ℕ)) → length (and_span span []) ≤ 1
span_few None = omega arith
span_few (Some span) = omega arith

span_one : (at : Option (List ℕ)) (span : List ℕ) → at ≡ Some span → length (and_span at []) ≡ 1
span_one None span is = cc
span_one (Some other) span is = refl

few_now : (wanted : Wanted) (key : List ℕ) (kepts : List Kept) (i node : ℕ) (span : List ℕ) (start now : List Sheet) → span_of wanted node key (seen_at (drop i kepts) node) ≡ Some span → Left wanted key kepts i start now → (page_at start node).rows < 2 ^ 32 → (page_at now node).rows < 2 ^ 32
few_now wanted key kepts i node span start now found so_far few =
    omega (
      arith,
      few,
      span_few (span_of wanted node key (seen_at kepts node)),
      span_one (span_of wanted node key (seen_at (drop i kepts) node)) span found,
      rows_same (and_spans (page_at now node) (spans wanted node key (seen_at (drop i kepts) node))) (and_spans (page_at start node) (spans wanted node key (seen_at kepts node))) (so_far node),
    )

room_now : (wanted : Wanted) (key : List ℕ) (kepts : List Kept) (i : ℕ) (kept : Kept) (span : List ℕ) (start now : List Sheet) → Sound kepts → i < length kepts → kept ≡ get_or kepts i kept → span_of wanted kept.node key (seen kept) ≡ Some span → IsReady wanted key kepts start
    → length now ≡ length start → Left wanted key kepts i start now → HasRoom now kept.node
room_now wanted key kepts i kept span start now sound there is found ready count so_far =
    let room = ready.room kept.node span (ap (span_of wanted kept.node key) (at_place kepts i kept sound there is) ∙ found) in
    record {
      there = omega (arith, room.there, count);
      few = few_now wanted key kepts i kept.node span start now (ap (λ ks. span_of wanted kept.node key (seen_at ks kept.node)) (split kepts i kept there is) ∙ ap (span_of wanted kept.node key) (stands kept (drop (suc i) kepts)) ∙ found) so_far room.few;
    }

room_by : (wanted : Wanted) (key span : List ℕ) (sheets : List Sheet) (kept : Kept) (node : ℕ) (b : Bool) → (kept.node == node) ≡ b → span_of wanted node key (cond b (seen kept) unseen) ≡ Some span
    → (span_of wanted kept.node key (seen kept) ≡ Some span → HasRoom sheets kept.node) → HasRoom sheets node
room_by wanted key span sheets kept node true d found room =
    let same : kept.node ≡ node = (Decides-eqb kept.node node).0 d in
    subst (HasRoom sheets) same (room (ap (λ n. span_of wanted n key (seen kept)) same ∙ found))
room_by wanted key span sheets kept node false d found room = absurd (span_seen wanted node key span unseen found refl)

pub ready_one : (wanted : Wanted) (key : List ℕ) (kepts : List Kept) (i : ℕ) (kept : Kept) (start now : List Sheet) → Sound kepts → i < length kepts → kept ≡ get_or kepts i kept → IsReady wanted key kepts start → length now ≡ length start → Left wanted key kepts i start now
    → IsReady wanted key (kept ∷ []) now
ready_one wanted key kepts i kept start now sound there is ready count so_far = record {
  short = ready.short;
  room = λ node span found. room_by wanted key span now kept node (kept.node == node) refl found (λ here. room_now wanted key kepts i kept span start now sound there is here ready count so_far);
}

-- the keys, one after another

span_before : (span : Option (List ℕ)) (spans : List (List ℕ)) → and_span span [] ++ spans ≡ and_span span spans
span_before None spans = refl
span_before (Some span) spans = refl

pub first_left : (wanted : Wanted) (nodes : ℕ) (rows : List KeyRows) (pairs all : List (List ℕ × ℕ)) (sheets : List Sheet) → pairs ≡ all → ((node : ℕ) → page_at sheets node ≡ blank) → (node : ℕ) → and_spans (page_at sheets node) (node_spans wanted node rows pairs) ≡ and_spans blank (node_spans wanted node rows all)
first_left wanted nodes rows pairs all sheets is none node = ap (λ (page : Page). and_spans page (node_spans wanted node rows pairs)) (none node) ∙ ap (λ ps. and_spans blank (node_spans wanted node rows ps)) is

pub walk_more : (wanted : Wanted) (rows : List KeyRows) (pair : List ℕ × ℕ) (pairs rest : List (List ℕ × ℕ)) (old new : List Sheet) (node : ℕ) (whole : Page) → pairs ≡ pair ∷ rest → GetsAt wanted pair.0 rows pair.1 old new →
    and_spans (page_at old node) (node_spans wanted node rows pairs) ≡ whole → and_spans (page_at new node) (node_spans wanted node rows rest) ≡ whole
walk_more wanted rows pair pairs rest old new node whole is gets so_far =
    ap (λ (page : Page). and_spans page (node_spans wanted node rows rest)) (gets.pages node)
    ∙ and_more (page_at old node) (spans wanted node pair.0 (row_at rows pair.1 node)) (node_spans wanted node rows rest)
    ∙ ap (λ spans. and_spans (page_at old node) spans) (span_before (span_of wanted node pair.0 (row_at rows pair.1 node)) (node_spans wanted node rows rest))
    ∙ ap (λ ps. and_spans (page_at old node) (node_spans wanted node rows ps)) (sym is)
    ∙ so_far

pub walk_end : (wanted : Wanted) (rows : List KeyRows) (pairs : List (List ℕ × ℕ)) (now : List Sheet) (node : ℕ) (whole : Page) → pairs ≡ [] → and_spans (page_at now node) (node_spans wanted node rows pairs) ≡ whole → page_at now node ≡ whole
walk_end wanted rows pairs now node whole none so_far = sym (and_none (page_at now node)) ∙ ap (λ ps. and_spans (page_at now node) (node_spans wanted node rows ps)) (sym none) ∙ so_far

and_few : (span : Option (List ℕ)) (spans : List (List ℕ)) → length (and_span span spans) ≤ suc (length spans)
and_few None spans = omega arith
and_few (Some span) spans = omega arith

spans_few : (wanted : Wanted) (node : ℕ) (rows : List KeyRows) (pairs : List (List ℕ × ℕ)) → length (node_spans wanted node rows pairs) ≤ length pairs
spans_few wanted node rows [] = omega arith
spans_few wanted node rows (pair ∷ pairs) = omega (arith, spans_few wanted node rows pairs, and_few (span_of wanted node pair.0 (row_at rows pair.1 node)) (node_spans wanted node rows pairs))

pub ready_at : (wanted : Wanted) (rows : List KeyRows) (pair : List ℕ × ℕ) (left all : List (List ℕ × ℕ)) (now : List Sheet) → IsBound rows → length all < 2 ^ 32 → AreBelow (length now) rows → slot_in rows pair.0 ≡ Some pair.1 →
    ((node : ℕ) → and_spans (page_at now node) (node_spans wanted node rows left) ≡ and_spans blank (node_spans wanted node rows all)) → IsReadyAt wanted pair.0 rows pair.1 now
ready_at wanted rows pair left all now bound few below found so_far = record {
  within = within_of rows pair.1 (slot_filled rows pair.0 pair.1 found);
  short = short_key rows pair.0 pair.1 bound found;
  room = λ node span is. record {
    there = seen_below rows (length now) node pair.0 below (span_seen wanted node pair.0 span (seen_in rows node pair.0) (ap (λ at. span_of wanted node pair.0 (slot_row rows at node)) found ∙ is));
    few = omega (arith, few, spans_few wanted node rows all, rows_same (and_spans (page_at now node) (node_spans wanted node rows left)) (and_spans blank (node_spans wanted node rows all)) (so_far node));
  };
}

-- the rows in a slot

pub ready_slot : (wanted : Wanted) (key : List ℕ) (rows : List KeyRows) (slot : ℕ) (r : KeyRows) (sheets : List Sheet) → r ≡ get_or rows slot r → IsReadyAt wanted key rows slot sheets → IsReady wanted key r.kept.items sheets
ready_slot wanted key rows slot r sheets got ready = record {
  short = ready.short;
  room = λ node span is. ready.room node span (ap (span_of wanted node key) (row_there rows slot node r ready.within got) ∙ is);
}

pub gets_slot : (wanted : Wanted) (key : List ℕ) (rows : List KeyRows) (slot : ℕ) (r : KeyRows) (old new : List Sheet) → slot < length rows → r ≡ get_or rows slot r → Gets wanted key r.kept.items old new → GetsAt wanted key rows slot old new
gets_slot wanted key rows slot r old new within got gets = record {
  pages = λ node. gets.pages node ∙ ap (λ row. and_spans (page_at old node) (spans wanted node key row)) (sym (row_there rows slot node r within got));
  count = gets.count;
}

-- all sheets

next_page : (wanted : Wanted) (first node : ℕ) (page : Page) (rows : List KeyRows) (pairs : List (List ℕ × ℕ)) → page ≡ and_spans blank (node_spans wanted (first + suc node) rows pairs) → page ≡ and_spans blank (node_spans wanted (suc first + node) rows pairs)
next_page wanted first node page rows pairs is =
    let same : first + suc node ≡ suc first + node = omega arith in
    is ∙ ap (λ n. and_spans blank (node_spans wanted n rows pairs)) same

first_page : (wanted : Wanted) (first : ℕ) (sheet : Sheet) (rows : List KeyRows) (pairs : List (List ℕ × ℕ)) → page_of sheet.bytes.items sheet.rows ≡ and_spans blank (node_spans wanted (first + 0) rows pairs) → page_of sheet.bytes.items sheet.rows ≡ and_spans blank (node_spans wanted first rows pairs)
first_page wanted first sheet rows pairs is =
    let same : first + 0 ≡ first = omega arith in
    is ∙ ap (λ n. and_spans blank (node_spans wanted n rows pairs)) same

sum_bytes : (wanted : Wanted) (first : ℕ) (sheets : List Sheet) (rows : List KeyRows) (pairs : List (List ℕ × ℕ)) → ((node : ℕ) → page_at sheets node ≡ and_spans blank (node_spans wanted (first + node) rows pairs)) → sheets_bytes sheets ≡ joined (spans_from wanted first (length sheets) rows pairs)
sum_bytes wanted first [] rows pairs pages = refl
sum_bytes wanted first (sheet ∷ sheets) rows pairs pages =
    let here : sheet.bytes.items ≡ joined (node_spans wanted first rows pairs) = ap (λ (page : Page). page.bytes) (first_page wanted first sheet rows pairs (pages 0)) in
    ap (λ bytes. bytes ++ sheets_bytes sheets) here
    ∙ ap (λ bytes. joined (node_spans wanted first rows pairs) ++ bytes) (sum_bytes wanted (suc first) sheets rows pairs (λ node. next_page wanted first node (page_at sheets node) rows pairs (pages (suc node))))
    ∙ sym (bytes_join (node_spans wanted first rows pairs) (spans_from wanted (suc first) (length sheets) rows pairs))

sum_rows : (wanted : Wanted) (first : ℕ) (sheets : List Sheet) (rows : List KeyRows) (pairs : List (List ℕ × ℕ)) → ((node : ℕ) → page_at sheets node ≡ and_spans blank (node_spans wanted (first + node) rows pairs)) → sheets_rows sheets ≡ length (spans_from wanted first (length sheets) rows pairs)
sum_rows wanted first [] rows pairs pages = refl
sum_rows wanted first (sheet ∷ sheets) rows pairs pages =
    let here : sheet.rows ≡ length (node_spans wanted first rows pairs) = omega (arith, rows_same (page_of sheet.bytes.items sheet.rows) (and_spans blank (node_spans wanted first rows pairs)) (first_page wanted first sheet rows pairs (pages 0))) in
    let rest : sheets_rows sheets ≡ length (spans_from wanted (suc first) (length sheets) rows pairs) = sum_rows wanted (suc first) sheets rows pairs (λ node. next_page wanted first node (page_at sheets node) rows pairs (pages (suc node))) in
    omega (arith, here, rest, length-append (node_spans wanted first rows pairs) (spans_from wanted (suc first) (length sheets) rows pairs))

sum_few : (sheets : List Sheet) → ((node : ℕ) → (page_at sheets node).rows ≤ 4294967295) → sheets_rows sheets ≤ length sheets * 4294967295
sum_few [] few = omega arith
sum_few (sheet ∷ sheets) few =
    let here : sheet.rows ≤ 4294967295 = few 0 in
    omega (arith, here, sum_few sheets (λ node. few (suc node)))

from_first : (wanted : Wanted) (node : ℕ) (page : Page) (rows : List KeyRows) (pairs : List (List ℕ × ℕ)) → page ≡ and_spans blank (node_spans wanted node rows pairs) → page ≡ and_spans blank (node_spans wanted (0 + node) rows pairs)
from_first wanted node page rows pairs is =
    let same : node ≡ 0 + node = omega arith in
    is ∙ ap (λ n. and_spans blank (node_spans wanted n rows pairs)) same

pub filled_bytes : (wanted : Wanted) (nodes : ℕ) (rows : List KeyRows) (pairs : List (List ℕ × ℕ)) (sheets : List Sheet) → AreFilled wanted nodes rows pairs sheets → sheets_bytes sheets ≡ joined (spans_from wanted 0 nodes rows pairs)
filled_bytes wanted nodes rows pairs sheets filled =
    sum_bytes wanted 0 sheets rows pairs (λ node. from_first wanted node (page_at sheets node) rows pairs (filled.pages node)) ∙ ap (λ n. joined (spans_from wanted 0 n rows pairs)) filled.count

pub filled_rows : (wanted : Wanted) (nodes : ℕ) (rows : List KeyRows) (pairs : List (List ℕ × ℕ)) (sheets : List Sheet) → AreFilled wanted nodes rows pairs sheets → sheets_rows sheets ≡ length (spans_from wanted 0 nodes rows pairs)
filled_rows wanted nodes rows pairs sheets filled =
    sum_rows wanted 0 sheets rows pairs (λ node. from_first wanted node (page_at sheets node) rows pairs (filled.pages node)) ∙ ap (λ n. length (spans_from wanted 0 n rows pairs)) filled.count

pub filled_few : (wanted : Wanted) (nodes : ℕ) (rows : List KeyRows) (pairs : List (List ℕ × ℕ)) (sheets : List Sheet) → nodes ≤ 2 ^ 32 → length pairs < 2 ^ 32 → AreFilled wanted nodes rows pairs sheets → sheets_rows sheets < 2 ^ 64
filled_few wanted nodes rows pairs sheets few short filled =
    let each : (node : ℕ) → (page_at sheets node).rows ≤ 4294967295 = λ node. omega (arith, short, spans_few wanted node rows pairs, rows_same (page_at sheets node) (and_spans blank (node_spans wanted node rows pairs)) (filled.pages node)) in
    omega (arith, few, filled.count, sum_few sheets each)

-- the number, and then all of them
pub all_put : (wanted : Wanted) (nodes : ℕ) (rows : List KeyRows) (pairs : List (List ℕ × ℕ)) (sheets : List Sheet) (count : ℕ) (old room number new : List ℕ) → AreFilled wanted nodes rows pairs sheets → count ≡ sheets_rows sheets → room ≡ old →
    number ≡ room ++ to_be_bytes w64 count → new ≡ number ++ sheets_bytes sheets → new ≡ old ++ counted_spans (spans_from wanted 0 nodes rows pairs)
all_put wanted nodes rows pairs sheets count old room number new filled counted same one two =
    two
    ∙ ap (λ bytes. bytes ++ sheets_bytes sheets) (one ∙ ap (λ bytes. bytes ++ to_be_bytes w64 count) same)
    ∙ append_assoc old (to_be_bytes w64 count) (sheets_bytes sheets)
    ∙ ap (λ n. old ++ (to_be_bytes w64 n ++ sheets_bytes sheets)) (counted ∙ filled_rows wanted nodes rows pairs sheets filled)
    ∙ ap (λ bytes. old ++ (to_be_bytes w64 (length (spans_from wanted 0 nodes rows pairs)) ++ bytes)) (filled_bytes wanted nodes rows pairs sheets filled)

-- spans are the bytes of what stands at the nodes in order

map_join : {A B : Type 0} (f : A → B) (front back : List A) → map f (front ++ back) ≡ map f front ++ map f back
map_join f [] back = refl
map_join f (x ∷ front) back = ap (λ rest. f x ∷ rest) (map_join f front back)

module _ {X : Type 0} (bytes : At X → List ℕ) (wanted : Wanted) (rows : List KeyRows) (row : ℕ → ℕ → Option X) (is : (node slot : ℕ) (key : List ℕ) → span_of wanted node key (row_at rows slot node) ≡ option_map (λ x. bytes (record { node = node; key = key; held = x })) (row slot node)) where
  one_span : (node : ℕ) (key : List ℕ) (x : Option X) (spans : List (List ℕ)) (entries : List (At X)) → spans ≡ map bytes entries → and_span (option_map (λ x. bytes (record { node = node; key = key; held = x })) x) spans ≡ map bytes (and_row node key x entries)
  one_span node key None spans entries same = same
  one_span node key (Some x) spans entries same = ap (λ rest. bytes (record { node = node; key = key; held = x }) ∷ rest) same

  node_mapped : (node : ℕ) (pairs : List (List ℕ × ℕ)) → node_spans wanted node rows pairs ≡ map bytes (node_entries row node pairs)
  node_mapped node [] = refl
  node_mapped node (pair ∷ pairs) =
      ap (λ at. and_span at (node_spans wanted node rows pairs)) (is node pair.1 pair.0) ∙ one_span node pair.0 (row pair.1 node) (node_spans wanted node rows pairs) (node_entries row node pairs) (node_mapped node pairs)

  pub spans_mapped : (first count : ℕ) (pairs : List (List ℕ × ℕ)) → spans_from wanted first count rows pairs ≡ map bytes (entries_from row first count pairs)
  spans_mapped first zero pairs = refl
  spans_mapped first (suc count) pairs =
      ap (λ front. front ++ spans_from wanted (suc first) count rows pairs) (node_mapped first pairs)
      ∙ ap (λ back. map bytes (node_entries row first pairs) ++ back) (spans_mapped (suc first) count pairs)
      ∙ sym (map_join bytes (node_entries row first pairs) (entries_from row (suc first) count pairs))

joined_rows : (entries : List Entry) → joined (map entry_bytes entries) ≡ entries_bytes entries
joined_rows [] = refl
joined_rows (entry ∷ entries) = ap (λ bytes. entry_bytes entry ++ bytes) (joined_rows entries)

joined_changes : (changes : List RowChange) → joined (map change_bytes changes) ≡ changes_bytes changes
joined_changes [] = refl
joined_changes (change ∷ changes) = ap (λ bytes. change_bytes change ++ bytes) (joined_changes changes)

rows_mapped : (rows : List KeyRows) (nodes : ℕ) (pairs : List (List ℕ × ℕ)) → spans_from Rows 0 nodes rows pairs ≡ map entry_bytes (entries_from (held_row rows) 0 nodes pairs)
rows_mapped rows nodes pairs = spans_mapped entry_bytes Rows rows (held_row rows) (λ node slot key. refl) 0 nodes pairs

changes_mapped : (rows : List KeyRows) (nodes : ℕ) (pairs : List (List ℕ × ℕ)) → spans_from Changes 0 nodes rows pairs ≡ map change_bytes (entries_from (told_row rows) 0 nodes pairs)
changes_mapped rows nodes pairs = spans_mapped change_bytes Changes rows (told_row rows) (λ node slot key. refl) 0 nodes pairs

pub rows_counted : (rows : List KeyRows) (nodes : ℕ) (pairs : List (List ℕ × ℕ)) → length (spans_from Rows 0 nodes rows pairs) ≡ length (entries_from (held_row rows) 0 nodes pairs)
rows_counted rows nodes pairs = ap length (rows_mapped rows nodes pairs) ∙ length-map (entries_from (held_row rows) 0 nodes pairs) entry_bytes

pub changes_counted : (rows : List KeyRows) (nodes : ℕ) (pairs : List (List ℕ × ℕ)) → length (spans_from Changes 0 nodes rows pairs) ≡ length (entries_from (told_row rows) 0 nodes pairs)
changes_counted rows nodes pairs = ap length (changes_mapped rows nodes pairs) ∙ length-map (entries_from (told_row rows) 0 nodes pairs) change_bytes

pub rows_put : (rows : List KeyRows) (nodes : ℕ) (pairs : List (List ℕ × ℕ)) → counted_spans (spans_from Rows 0 nodes rows pairs) ≡ counted_bytes (entries_from (held_row rows) 0 nodes pairs)
rows_put rows nodes pairs =
    ap (λ n. to_be_bytes w64 n ++ joined (spans_from Rows 0 nodes rows pairs)) (rows_counted rows nodes pairs)
    ∙ ap (λ bytes. to_be_bytes w64 (length (entries_from (held_row rows) 0 nodes pairs)) ++ bytes) (ap joined (rows_mapped rows nodes pairs) ∙ joined_rows (entries_from (held_row rows) 0 nodes pairs))

pub changes_put : (rows : List KeyRows) (nodes : ℕ) (pairs : List (List ℕ × ℕ)) → counted_spans (spans_from Changes 0 nodes rows pairs) ≡ to_be_bytes w64 (length (entries_from (told_row rows) 0 nodes pairs)) ++ changes_bytes (entries_from (told_row rows) 0 nodes pairs)
changes_put rows nodes pairs =
    ap (λ n. to_be_bytes w64 n ++ joined (spans_from Changes 0 nodes rows pairs)) (changes_counted rows nodes pairs)
    ∙ ap (λ bytes. to_be_bytes w64 (length (entries_from (told_row rows) 0 nodes pairs)) ++ bytes) (ap joined (changes_mapped rows nodes pairs) ∙ joined_changes (entries_from (told_row rows) 0 nodes pairs))
