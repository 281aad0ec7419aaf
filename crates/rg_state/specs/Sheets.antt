-- The sheets that rows are written on, one a node.
use Rattle.std.specs.Prelude.{◌≡◌, ℕ, zero, suc, ◌+◌, ◌<◌, ◌≤◌, ◌^◌, Bool, true, List, [], ◌∷◌, ◌++◌, length, map, Option, None, Some, is_some}
use Rattle.std.specs.Cmp.Lexicographic.{slice_cmp}
use Rattle.std.specs.List.{All, Contains}
use Rattle.std.specs.List.Sorted.{IsStrictlySortedBy}
use Rattle.std.specs.Map.{keys_of}
use Rattle.std.specs.Ordering.{nat_cmp}
use Rattle.std.specs.declared.cmp.Ordering.{Ordering}
use Rattle.std.specs.Option.{option_map}
use Rattle.std.specs.Int.{w32, w64, to_be_bytes}
use Rattle.rg_agg.specs.Held.{held_bytes}
use Rattle.rg_state.specs.Cells.{row_at, key_at, slot_in}
use Rattle.rg_state.specs.Changes.{change_bytes, now_bytes}
use Rattle.rg_state.specs.Kepts.{Seen, seen_at, shown, told}
use Rattle.rg_state.specs.Rows.{entry_bytes}
use Rattle.rg_state.specs.States.{held_of}
use Rattle.rg_state.specs.Unused.{times}
use Rattle.rg_state.specs.declared.state.AggState.{AggState}
use Rattle.rg_state.specs.declared.key_rows.Kept.{Kept}
use Rattle.rg_state.specs.declared.key_rows.KeyRows.{KeyRows}
use Rattle.rg_state.specs.declared.sheets.Sheet.{Sheet}
use Rattle.rg_state.specs.declared.sheets.Wanted.{Wanted}
use Rattle.rg_state.specs.declared.sheets.Wanted.TheVariants.{Rows, Changes}

-- the row is one of those that are wanted
abbrev pub is_wanted : Wanted → Seen → Bool
is_wanted Rows row = is_some row.held
is_wanted Changes row = is_some (told row)

-- its bytes, where it is
abbrev pub span_of : Wanted → ℕ → List ℕ → Seen → Option (List ℕ)
span_of Rows node key row = option_map (λ held. entry_bytes (record { node = node; key = key; held = held })) row.held
span_of Changes node key row = option_map (λ now. change_bytes (record { node = node; key = key; held = now })) (told row)

-- the bytes of a row that is wanted: its node, its key, and its state, or how it is now
abbrev pub tail_bytes : Wanted → AggState → List ℕ
tail_bytes Rows state = held_bytes (held_of state)
tail_bytes Changes state = now_bytes (shown (held_of state))

abbrev pub row_bytes : Wanted → List ℕ → Kept → List ℕ
row_bytes wanted key kept = to_be_bytes w32 kept.node ++ (to_be_bytes w32 (length key) ++ (key ++ tail_bytes wanted kept.state))

-- Spans: the bytes of rows, each row's by themselves

abbrev pub and_span : Option (List ℕ) → List (List ℕ) → List (List ℕ)
and_span None spans = spans
and_span (Some span) spans = span ∷ spans

abbrev pub joined : List (List ℕ) → List ℕ
joined [] = []
joined (span ∷ spans) = span ++ joined spans

-- those of a node, the keys rising
abbrev pub node_spans : Wanted → ℕ → List KeyRows → List (List ℕ × ℕ) → List (List ℕ)
node_spans wanted node rows [] = []
node_spans wanted node rows (pair ∷ pairs) = and_span (span_of wanted node pair.0 (row_at rows pair.1 node)) (node_spans wanted node rows pairs)

-- those of so many nodes from the first one on
abbrev pub spans_from : Wanted → ℕ → ℕ → List KeyRows → List (List ℕ × ℕ) → List (List ℕ)
spans_from wanted first zero rows pairs = []
spans_from wanted first (suc count) rows pairs = node_spans wanted first rows pairs ++ spans_from wanted (suc first) count rows pairs

-- spans behind their number, in 8 bytes
abbrev pub counted_spans : List (List ℕ) → List ℕ
counted_spans spans = to_be_bytes w64 (length spans) ++ joined spans

-- Keys in order

-- the order of two slots, by their keys
abbrev pub slot_cmp : List KeyRows → ℕ → ℕ → Ordering
slot_cmp rows slot other = slice_cmp nat_cmp (key_at rows slot) (key_at rows other)

-- slots behind their keys
abbrev pub pairs_of : List KeyRows → List ℕ → List (List ℕ × ℕ)
pairs_of rows slots = map (λ slot. (key_at rows slot, slot)) slots

-- these are keys with their slots, the keys rising, and among them is each in whose slot a row is wanted
pub record AreInOrder (wanted : Wanted) (rows : List KeyRows) (pairs : List (List ℕ × ℕ)) : Type 0 where
  pub rising : IsStrictlySortedBy (slice_cmp nat_cmp) (keys_of pairs)
  pub found : All (λ pair. slot_in rows pair.0 ≡ Some pair.1) pairs
  pub all : (key : List ℕ) (slot node : ℕ) → slot_in rows key ≡ Some slot → is_wanted wanted (row_at rows slot node) ≡ true → Contains pairs (key, slot)

-- these slots are there, none stands among them twice, and each in which a row is wanted does
pub record AreEach (wanted : Wanted) (rows : List KeyRows) (slots : List ℕ) : Type 0 where
  pub once : (slot : ℕ) → times slots slot ≤ 1
  pub all : (slot node : ℕ) → is_wanted wanted (row_at rows slot node) ≡ true → times slots slot ≡ 1
  pub few : length slots < 2 ^ 32

-- Sheets

-- bytes, and how many rows they are
pub record Page : Type 0 where
  pub bytes : List ℕ
  pub rows : ℕ

abbrev pub page_of : List ℕ → ℕ → Page
page_of bytes rows = record { bytes = bytes; rows = rows }

-- nothing is written
abbrev pub blank : Page
blank = page_of [] 0

-- what stands on a node's sheet; there is none past the last one
abbrev pub page_at : List Sheet → ℕ → Page
page_at [] node = blank
page_at (sheet ∷ sheets) zero = page_of sheet.bytes.items sheet.rows
page_at (sheet ∷ sheets) (suc node) = page_at sheets node

-- these spans are written behind what is there
abbrev pub and_spans : Page → List (List ℕ) → Page
and_spans page spans = page_of (page.bytes ++ joined spans) (page.rows + length spans)

-- all sheets one after another
abbrev pub sheets_bytes : List Sheet → List ℕ
sheets_bytes [] = []
sheets_bytes (sheet ∷ sheets) = sheet.bytes.items ++ sheets_bytes sheets

-- how many rows are written on them
abbrev pub sheets_rows : List Sheet → ℕ
sheets_rows [] = 0
sheets_rows (sheet ∷ sheets) = sheet.rows + sheets_rows sheets

-- a row of this node can be written: there is a sheet, and it isn't full
pub record HasRoom (sheets : List Sheet) (node : ℕ) : Type 0 where
  pub there : node < length sheets
  pub few : (page_at sheets node).rows < 2 ^ 32

-- the rows of a key that are wanted can be written: the key is short, and each of their nodes has room
pub record IsReady (wanted : Wanted) (key : List ℕ) (kepts : List Kept) (sheets : List Sheet) : Type 0 where
  pub short : length key ≤ 2056
  pub room : (node : ℕ) (span : List ℕ) → span_of wanted node key (seen_at kepts node) ≡ Some span → HasRoom sheets node

-- each node's sheet gets the row of its node among these, where it is wanted
pub record Gets (wanted : Wanted) (key : List ℕ) (kepts : List Kept) (old new : List Sheet) : Type 0 where
  pub pages : (node : ℕ) → page_at new node ≡ and_spans (page_at old node) (and_span (span_of wanted node key (seen_at kepts node)) [])
  pub count : length new ≡ length old

-- the sheets can get the rows in a slot
pub record IsReadyAt (wanted : Wanted) (key : List ℕ) (rows : List KeyRows) (slot : ℕ) (sheets : List Sheet) : Type 0 where
  pub within : slot < length rows
  pub short : length key ≤ 2056
  pub room : (node : ℕ) (span : List ℕ) → span_of wanted node key (row_at rows slot node) ≡ Some span → HasRoom sheets node

pub record GetsAt (wanted : Wanted) (key : List ℕ) (rows : List KeyRows) (slot : ℕ) (old new : List Sheet) : Type 0 where
  pub pages : (node : ℕ) → page_at new node ≡ and_spans (page_at old node) (and_span (span_of wanted node key (row_at rows slot node)) [])
  pub count : length new ≡ length old

-- there are so many sheets with nothing on them
pub record AreBlank (nodes : ℕ) (sheets : List Sheet) : Type 0 where
  pub pages : (node : ℕ) → page_at sheets node ≡ blank
  pub count : length sheets ≡ nodes

-- there are so many sheets, and each has the rows of its node that are wanted
pub record AreFilled (wanted : Wanted) (nodes : ℕ) (rows : List KeyRows) (pairs : List (List ℕ × ℕ)) (sheets : List Sheet) : Type 0 where
  pub pages : (node : ℕ) → page_at sheets node ≡ and_spans blank (node_spans wanted node rows pairs)
  pub count : length sheets ≡ nodes

-- there are so many sheets, and they have all rows that are wanted, each node's by its keys in order
pub record AreWritten (wanted : Wanted) (nodes : ℕ) (rows : List KeyRows) (sheets : List Sheet) : Type 0 where
  pub pairs : List (List ℕ × ℕ)
  pub order : AreInOrder wanted rows pairs
  pub few : length pairs < 2 ^ 32
  pub filled : AreFilled wanted nodes rows pairs sheets

-- all rows that are wanted are written at the end, behind their number: node by node, each node's by its keys in order
pub record WritesSpans (wanted : Wanted) (nodes : ℕ) (rows : List KeyRows) (old new : List ℕ) : Type 0 where
  pub pairs : List (List ℕ × ℕ)
  pub order : AreInOrder wanted rows pairs
  pub few : length (spans_from wanted 0 nodes rows pairs) < 2 ^ 64
  pub is : new ≡ old ++ counted_spans (spans_from wanted 0 nodes rows pairs)
