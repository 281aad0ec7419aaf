-- No row is empty, each keeps what a state keeps and has a short key, and what stands at the nodes in order is all of it.
use Rattle.std.proofs.Common.{◌≡◌, ℕ, zero, suc, ◌+◌, ◌^◌, ◌<◌, ◌≤◌, ◌==◌, length, List, [], ◌∷◌, ◌++◌, Option, Some, None, Bool, true, false, refl, ap, sym, ◌∙◌, subst, inl, inr, ◌⊎◌, arith, ltb-true}
use Rattle.std.specs.Prelude.{cond, not, ◌||◌, nat_lt, is_some}
use Rattle.std.proofs.lemmas.Bool.{ltb-false}
use Rattle.std.specs.Cmp.{first_so, second_so}
use Rattle.std.specs.List.{All, Contains}
use Rattle.std.specs.List.Sorted.{IsStrictlySortedBy}
use Rattle.std.specs.Map.{keys_of}
use Rattle.std.specs.Cmp.Lexicographic.{slice_cmp}
use Rattle.std.specs.Ordering.{nat_cmp, is_lt}
use Rattle.std.specs.declared.cmp.Ordering.TheVariants.{Less}
use Rattle.std.proofs.lemmas.List.Elements.{All-nil, All-cons, All-append, All-contains, All-weaker, All-head, All-tail, Contains-append_left, Contains-append_right}
use Rattle.std.proofs.lemmas.Map.Keys.{sorted_tail}
use Rattle.std.proofs.lemmas.Map.Views.{All-after_first}
use Rattle.rg_agg.specs.Held.{Held}
use Rattle.rg_agg.specs.Standing.{size_in}
use Rattle.rg_state.specs.Slots.{short_key, pairs_order}
use Rattle.rg_state.specs.Cells.{pairs_from, row_at, row_by, slot_in, seen_in, cell_in, named_in, there_in, held_row, told_row, and_row, node_entries, entries_from, at_slot, IsBound, AreBelow}
use Rattle.rg_state.specs.Changes.{changes_in}
use Rattle.rg_state.specs.Kepts.{Seen, unseen, seen, seen_at, shown, told, stands_in, is_fair, is_idle, is_marked, are_sound}
use Rattle.rg_state.specs.Rows.{At, IsBelow, AreRising, ListsOf, Lists}
use Rattle.rg_state.specs.Sheets.{is_wanted, AreInOrder}
use Rattle.rg_state.specs.States.{held_of, IsHeld}
use Rattle.rg_state.specs.declared.key_rows.Kept.{Kept}
use Rattle.rg_state.specs.declared.key_rows.KeyRows.{KeyRows}
use Rattle.rg_state.specs.declared.sheets.Wanted.{Wanted}
use Rattle.rg_state.specs.declared.sheets.Wanted.TheVariants.{Rows, Changes}

-- no row is empty

pub sound_rest : (kept : Kept) (rest : List Kept) → are_sound (kept ∷ rest) ≡ true → are_sound rest ≡ true
sound_rest kept rest sound = second_so _ _ (second_so (not (stands_in rest kept.node)) _ sound)

pub fair_first : (kept : Kept) (rest : List Kept) → are_sound (kept ∷ rest) ≡ true → is_fair kept ≡ true
fair_first kept rest sound = first_so _ _ (second_so (not (stands_in rest kept.node)) _ sound)

some_of : (n : ℕ) → (n == 0) ≡ false → 0 < n
some_of zero is = cc
some_of (suc n) is = omega arith

filled_by : (mine held : Held) (b : Bool) → (size_in mine == 0) ≡ b → cond b None (Some mine) ≡ Some held → 0 < size_in held
filled_by mine held true none found = cc
filled_by mine held false some found =
    let same : mine ≡ held = cc in
    subst (λ h. 0 < size_in h) same (some_of _ some)

pub filled_shown : (mine held : Held) → shown mine ≡ Some held → 0 < size_in held
filled_shown mine held found = filled_by mine held (size_in mine == 0) refl found

filled_cond : (kept : Kept) (rest : Seen) (held : Held) (b : Bool) → (cond b (seen kept) rest).held ≡ Some held → (rest.held ≡ Some held → 0 < size_in held) → 0 < size_in held
filled_cond kept rest held true found later = filled_shown (held_of kept.state) held found
filled_cond kept rest held false found later = later found

filled_in : (kepts : List Kept) (node : ℕ) (held : Held) → (seen_at kepts node).held ≡ Some held → 0 < size_in held
filled_in [] node held found = cc
filled_in (kept ∷ rest) node held found = filled_cond kept (seen_at rest node) held (kept.node == node) found (filled_in rest node held)

pub filled_row : (rows : List KeyRows) (slot node : ℕ) (held : Held) → (row_at rows slot node).held ≡ Some held → 0 < size_in held
filled_row [] slot node held found = cc
filled_row (r ∷ rows) zero node held found = filled_in r.kept.items node held found
filled_row (r ∷ rows) (suc slot) node held found = filled_row rows slot node held found

filled_at : (rows : List KeyRows) (at : Option ℕ) (node : ℕ) (held : Held) → (row_by rows at node).held ≡ Some held → 0 < size_in held
filled_at rows None node held found = cc
filled_at rows (Some slot) node held found = filled_row rows slot node held found

pub filled_cell : (rows : List KeyRows) (node : ℕ) (key : List ℕ) (held : Held) → cell_in rows node key ≡ Some held → 0 < size_in held
filled_cell rows node key held found = filled_at rows (slot_in rows key) node held found

-- what a row keeps is what a state keeps

state_shown : (kept : Kept) (held : Held) (b : Bool) → cond b None (Some (held_of kept.state)) ≡ Some held → IsHeld held
state_shown kept held true found = cc
state_shown kept held false found = (kept.state, cc)

state_cond : (kept : Kept) (rest : Seen) (held : Held) (b : Bool) → (cond b (seen kept) rest).held ≡ Some held → (rest.held ≡ Some held → IsHeld held) → IsHeld held
state_cond kept rest held true found later = state_shown kept held (size_in (held_of kept.state) == 0) found
state_cond kept rest held false found later = later found

state_in : (kepts : List Kept) (node : ℕ) (held : Held) → (seen_at kepts node).held ≡ Some held → IsHeld held
state_in [] node held found = cc
state_in (kept ∷ rest) node held found = state_cond kept (seen_at rest node) held (kept.node == node) found (state_in rest node held)

state_row : (rows : List KeyRows) (slot node : ℕ) (held : Held) → (row_at rows slot node).held ≡ Some held → IsHeld held
state_row [] slot node held found = cc
state_row (r ∷ rows) zero node held found = state_in r.kept.items node held found
state_row (r ∷ rows) (suc slot) node held found = state_row rows slot node held found

state_at : (rows : List KeyRows) (at : Option ℕ) (node : ℕ) (held : Held) → (row_by rows at node).held ≡ Some held → IsHeld held
state_at rows None node held found = cc
state_at rows (Some slot) node held found = state_row rows slot node held found

pub state_cell : (rows : List KeyRows) (node : ℕ) (key : List ℕ) (held : Held) → cell_in rows node key ≡ Some held → IsHeld held
state_cell rows node key held found = state_at rows (slot_in rows key) node held found

-- a row that was there was named

there_of : (there named : Bool) → (not there || named) ≡ true → there ≡ true → named ≡ true
there_of true named marked is = marked
there_of false named marked is = cc

there_cond : (kept : Kept) (rest : Seen) (b : Bool) → is_marked kept ≡ true → (cond b (seen kept) rest).there ≡ true → (rest.there ≡ true → rest.named ≡ true) → (cond b (seen kept) rest).named ≡ true
there_cond kept rest true marked is later = there_of kept.there kept.named marked is
there_cond kept rest false marked is later = later is

there_named : (kepts : List Kept) (node : ℕ) → are_sound kepts ≡ true → (seen_at kepts node).there ≡ true → (seen_at kepts node).named ≡ true
there_named [] node sound is = cc
there_named (kept ∷ rest) node sound is =
    there_cond kept (seen_at rest node) (kept.node == node) (second_so (not (is_idle kept)) _ (fair_first kept rest sound)) is (there_named rest node (sound_rest kept rest sound))

pub there_row : (rows : List KeyRows) (slot node : ℕ) → (row_at rows slot node).there ≡ true → (row_at rows slot node).named ≡ true
there_row [] slot node is = cc
there_row (r ∷ rows) zero node is = there_named r.kept.items node r.sound is
there_row (r ∷ rows) (suc slot) node is = there_row rows slot node is

there_at : (rows : List KeyRows) (at : Option ℕ) (node : ℕ) → (row_by rows at node).there ≡ true → (row_by rows at node).named ≡ true
there_at rows None node is = cc
there_at rows (Some slot) node is = there_row rows slot node is

pub there_cell : (rows : List KeyRows) (node : ℕ) (key : List ℕ) → there_in rows node key ≡ true → named_in rows node key ≡ true
there_cell rows node key is = there_at rows (slot_in rows key) node is

-- the key of what is in a slot is short, and so is the number of its node where there are few nodes

module _ {X : Type 0} (rows : List KeyRows) (bound : IsBound rows) (row : ℕ → ℕ → Option X) where
  short_at : (key : List ℕ) (node : ℕ) (held : X) (at : Option ℕ) → slot_in rows key ≡ at → at_slot row at node ≡ Some held → length key ≤ 2056
  short_at key node held None is found = cc
  short_at key node held (Some slot) is found = short_key rows key slot bound is

  pub short_of : (key : List ℕ) (node : ℕ) (held : X) → at_slot row (slot_in rows key) node ≡ Some held → length key ≤ 2056
  short_of key node held found = short_at key node held (slot_in rows key) refl found

cell_by : (rows : List KeyRows) (at : Option ℕ) (node : ℕ) → (row_by rows at node).held ≡ at_slot (held_row rows) at node
cell_by rows None node = refl
cell_by rows (Some slot) node = refl

pub cell_slot : (rows : List KeyRows) (node : ℕ) (key : List ℕ) → cell_in rows node key ≡ at_slot (held_row rows) (slot_in rows key) node
cell_slot rows node key = cell_by rows (slot_in rows key) node

told_by : (rows : List KeyRows) (at : Option ℕ) (node : ℕ) → told (row_by rows at node) ≡ at_slot (told_row rows) at node
told_by rows None node = refl
told_by rows (Some slot) node = refl

pub told_slot : (rows : List KeyRows) (node : ℕ) (key : List ℕ) → changes_in (named_in rows) (there_in rows) (cell_in rows) node key ≡ at_slot (told_row rows) (slot_in rows key) node
told_slot rows node key = told_by rows (slot_in rows key) node

below_by : (nodes node : ℕ) (b : Bool) → nat_lt node nodes ≡ b → (nodes ≤ node → ⊥) → node < nodes
below_by nodes node true is not_past = ltb-true node nodes is
below_by nodes node false is not_past = absurd (not_past (omega (arith, ltb-false node nodes is)))

-- a row of which something is seen is of a node below the number
pub seen_below : (rows : List KeyRows) (nodes node : ℕ) (key : List ℕ) → AreBelow nodes rows → (seen_in rows node key ≡ unseen → ⊥) → node < nodes
seen_below rows nodes node key below some = below_by nodes node (nat_lt node nodes) refl (λ past. some (below node key past))

some_seen : (row : Seen) (held : Held) → row.held ≡ Some held → row ≡ unseen → ⊥
some_seen row held is none =
    let never : None ≡ Some held = sym (ap (λ (r : Seen). r.held) none) ∙ is in cc

pub cell_below : (rows : List KeyRows) (nodes node : ℕ) (key : List ℕ) (held : Held) → AreBelow nodes rows → cell_in rows node key ≡ Some held → node < nodes
cell_below rows nodes node key held below found = seen_below rows nodes node key below (some_seen (seen_in rows node key) held found)

there_seen : (row : Seen) → row.there ≡ true → row ≡ unseen → ⊥
there_seen row is none =
    let never : false ≡ true = sym (ap (λ (r : Seen). r.there) none) ∙ is in cc

pub there_below : (rows : List KeyRows) (nodes node : ℕ) (key : List ℕ) → AreBelow nodes rows → there_in rows node key ≡ true → node < nodes
there_below rows nodes node key below is = seen_below rows nodes node key below (there_seen (seen_in rows node key) is)

told_seen : (row : Seen) (now : Option Held) → told row ≡ Some now → row ≡ unseen → ⊥
told_seen row now is none =
    let never : None ≡ Some now = sym (ap told none) ∙ is in cc

pub told_below : (rows : List KeyRows) (nodes node : ℕ) (key : List ℕ) (now : Option Held) → AreBelow nodes rows → told (seen_in rows node key) ≡ Some now → node < nodes
told_below rows nodes node key now below is = seen_below rows nodes node key below (told_seen (seen_in rows node key) now is)

pub bounded_cell : (rows : List KeyRows) (nodes node : ℕ) (key : List ℕ) (held : Held) → nodes ≤ 2 ^ 32 → IsBound rows → AreBelow nodes rows → cell_in rows node key ≡ Some held → (node < 2 ^ 32) × (length key ≤ 2056)
bounded_cell rows nodes node key held few bound below found =
    (omega (arith, few, cell_below rows nodes node key held below found), short_of rows bound (held_row rows) key node held (sym (cell_slot rows node key) ∙ found))

there_slot : (rows : List KeyRows) (key : List ℕ) (node : ℕ) (at : Option ℕ) → IsBound rows → slot_in rows key ≡ at → (row_by rows at node).there ≡ true → length key ≤ 2056
there_slot rows key node None bound is found = cc
there_slot rows key node (Some slot) bound is found = short_key rows key slot bound is

pub bounded_there : (rows : List KeyRows) (nodes node : ℕ) (key : List ℕ) → nodes ≤ 2 ^ 32 → IsBound rows → AreBelow nodes rows → there_in rows node key ≡ true → (node < 2 ^ 32) × (length key ≤ 2056)
bounded_there rows nodes node key few bound below found =
    (omega (arith, few, there_below rows nodes node key below found), there_slot rows key node (slot_in rows key) bound refl found)

-- what stands at the nodes in order, in the slots of the keys in order

module _ {X : Type 0} (row : ℕ → ℕ → Option X) where
  abbrev entry_of : ℕ → List ℕ → X → At X
  entry_of node key held = record { node = node; key = key; held = held }

  here : (entry : At X) (entries : List (At X)) → Contains (entry ∷ entries) entry
  here entry entries = Contains-append_left (entry ∷ []) entries entry (0, omega arith, refl)

  among_later : (node : ℕ) (key : List ℕ) (x : Option X) (entries : List (At X)) (entry : At X) → Contains entries entry → Contains (and_row node key x entries) entry
  among_later node key None entries entry among = among
  among_later node key (Some held) entries entry among = Contains-append_right (entry_of node key held ∷ []) entries entry among

  among_first : (node : ℕ) (key : List ℕ) (held : X) (x : Option X) (entries : List (At X)) → x ≡ Some held → Contains (and_row node key x entries) (entry_of node key held)
  among_first node key held None entries is = cc
  among_first node key held (Some other) entries is =
      let same : other ≡ held = cc in
      subst (λ h. Contains (and_row node key (Some other) entries) (entry_of node key h)) same (here (entry_of node key other) entries)

  -- the pair of a key is among some, and something stands in its slot
  node_has : (node : ℕ) (key : List ℕ) (slot : ℕ) (held : X) (pairs : List (List ℕ × ℕ)) → Contains pairs (key, slot) → row slot node ≡ Some held → Contains (node_entries row node pairs) (entry_of node key held)
  node_has node key slot held [] (k, within, is) found = absurd (omega (arith, within))
  node_has node key slot held (pair ∷ pairs) (zero, within, is) found =
      subst (λ (p : List ℕ × ℕ). Contains (and_row node p.0 (row p.1 node) (node_entries row node pairs)) (entry_of node key held)) (sym is) (among_first node key held (row slot node) (node_entries row node pairs) found)
  node_has node key slot held (pair ∷ pairs) (suc k, within, is) found =
      among_later node pair.0 (row pair.1 node) (node_entries row node pairs) (entry_of node key held) (node_has node key slot held pairs (k, omega (arith, within), is) found)

  one_more : {a b : ℕ} → (a ≡ b) ⊎ (a < b) → (suc a ≡ suc b) ⊎ (suc a < suc b)
  one_more (inl same) = inl (ap suc same)
  one_more (inr less) = inr (omega arith)

  same_or_less : (a b : ℕ) → a ≤ b → (a ≡ b) ⊎ (a < b)
  same_or_less zero zero le = inl refl
  same_or_less zero (suc b) le = inr (omega arith)
  same_or_less (suc a) zero le = absurd (omega arith)
  same_or_less (suc a) (suc b) le = one_more (same_or_less a b (omega arith))

  node_by : (first count : ℕ) (pairs : List (List ℕ × ℕ)) (node : ℕ) (key : List ℕ) (slot : ℕ) (held : X) → Contains pairs (key, slot) → row slot node ≡ Some held →
      (suc first ≤ node → Contains (entries_from row (suc first) count pairs) (entry_of node key held)) → (first ≡ node) ⊎ (first < node) → Contains (entries_from row first (suc count) pairs) (entry_of node key held)
  node_by first count pairs node key slot held among found later (inl same) =
      Contains-append_left (node_entries row first pairs) (entries_from row (suc first) count pairs) (entry_of node key held)
      (subst (λ n. Contains (node_entries row n pairs) (entry_of node key held)) (sym same) (node_has node key slot held pairs among found))
  node_by first count pairs node key slot held among found later (inr less) =
      Contains-append_right (node_entries row first pairs) (entries_from row (suc first) count pairs) (entry_of node key held) (later (omega arith))

  row_there : (first count : ℕ) (pairs : List (List ℕ × ℕ)) (node : ℕ) (key : List ℕ) (slot : ℕ) (held : X) → first ≤ node → node < first + count →
      Contains pairs (key, slot) → row slot node ≡ Some held → Contains (entries_from row first count pairs) (entry_of node key held)
  row_there first zero pairs node key slot held low high among found = absurd (omega arith)
  row_there first (suc count) pairs node key slot held low high among found =
      node_by first count pairs node key slot held among found (λ low. row_there (suc first) count pairs node key slot held low (omega arith) among found) (same_or_less first node low)

  -- each entry of the list stands there

  abbrev IsOf : List KeyRows → ℕ → At X → Type 0
  IsOf rows node entry = (entry.node ≡ node) × (at_slot row (slot_in rows entry.key) node ≡ Some entry.held)

  abbrev IsThere : List KeyRows → At X → Type 0
  IsThere rows entry = at_slot row (slot_in rows entry.key) entry.node ≡ Some entry.held

  abbrev IsFound : List KeyRows → List ℕ × ℕ → Type 0
  IsFound rows pair = slot_in rows pair.0 ≡ Some pair.1

  all_with : (P : At X → Type 0) (node : ℕ) (key : List ℕ) (x : Option X) (entries : List (At X)) → ((held : X) → x ≡ Some held → P (entry_of node key held)) → All P entries → All P (and_row node key x entries)
  all_with P node key None entries first rest = rest
  all_with P node key (Some held) entries first rest = All-cons P (entry_of node key held) entries (first held refl) rest

  back_in : (rows : List KeyRows) (node : ℕ) (pairs : List (List ℕ × ℕ)) → All (IsFound rows) pairs → All (IsOf rows node) (node_entries row node pairs)
  back_in rows node [] found = All-nil (IsOf rows node)
  back_in rows node (pair ∷ pairs) found =
      all_with (IsOf rows node) node pair.0 (row pair.1 node) (node_entries row node pairs)
      (λ held is. (refl, ap (λ slot. at_slot row slot node) (All-head (IsFound rows) pair pairs found) ∙ is))
      (back_in rows node pairs (All-tail (IsFound rows) pair pairs found))

  back_from : (rows : List KeyRows) (first count : ℕ) (pairs : List (List ℕ × ℕ)) → All (IsFound rows) pairs → All (IsThere rows) (entries_from row first count pairs)
  back_from rows first zero pairs found = All-nil (IsThere rows)
  back_from rows first (suc count) pairs found =
      All-append (IsThere rows) (node_entries row first pairs) (entries_from row (suc first) count pairs)
      (All-weaker (IsOf rows first) (IsThere rows) (λ entry is. ap (λ n. at_slot row (slot_in rows entry.key) n) is.0 ∙ is.1) (node_entries row first pairs) (back_in rows first pairs found))
      (back_from rows (suc first) count pairs found)

  -- they rise

  rising_more : (entry : At X) (entries : List (At X)) → All (IsBelow entry) entries → AreRising entries → AreRising (entry ∷ entries)
  rising_more entry [] below rising = tt
  rising_more entry (next ∷ entries) below rising = (All-head (IsBelow entry) next entries below, rising)

  rising_with : (node : ℕ) (key : List ℕ) (x : Option X) (entries later : List (At X)) → ((held : X) → All (IsBelow (entry_of node key held)) (entries ++ later)) → AreRising (entries ++ later) → AreRising (and_row node key x entries ++ later)
  rising_with node key None entries later below rising = rising
  rising_with node key (Some held) entries later below rising = rising_more (entry_of node key held) (entries ++ later) (below held) rising

  abbrev IsOfNode : ℕ → At X → Type 0
  IsOfNode node entry = entry.node ≡ node

  abbrev IsAbove : ℕ → At X → Type 0
  IsAbove node entry = node < entry.node

  of_node : (node : ℕ) (pairs : List (List ℕ × ℕ)) → All (IsOfNode node) (node_entries row node pairs)
  of_node node [] = All-nil (IsOfNode node)
  of_node node (pair ∷ pairs) = all_with (IsOfNode node) node pair.0 (row pair.1 node) (node_entries row node pairs) (λ held is. refl) (of_node node pairs)

  above : (node first count : ℕ) (pairs : List (List ℕ × ℕ)) → node < first → All (IsAbove node) (entries_from row first count pairs)
  above node first zero pairs less = All-nil (IsAbove node)
  above node first (suc count) pairs less =
      All-append (IsAbove node) (node_entries row first pairs) (entries_from row (suc first) count pairs)
      (All-weaker (IsOfNode first) (IsAbove node) (λ entry is. omega (arith, is, less)) (node_entries row first pairs) (of_node first pairs))
      (above node (suc first) count pairs (omega arith))

  abbrev IsAfter : List ℕ → List ℕ → Type 0
  IsAfter key other = slice_cmp nat_cmp key other ≡ Less

  below_keys : (node : ℕ) (key : List ℕ) (held : X) (pairs : List (List ℕ × ℕ)) → All (IsAfter key) (keys_of pairs) → All (IsBelow (entry_of node key held)) (node_entries row node pairs)
  below_keys node key held [] after = All-nil (IsBelow (entry_of node key held))
  below_keys node key held (pair ∷ pairs) after =
      all_with (IsBelow (entry_of node key held)) node pair.0 (row pair.1 node) (node_entries row node pairs)
      (λ h is. inr (refl, ap is_lt (All-head (IsAfter key) pair.0 (keys_of pairs) after)))
      (below_keys node key held pairs (All-tail (IsAfter key) pair.0 (keys_of pairs) after))

  rising_in : (node : ℕ) (pairs : List (List ℕ × ℕ)) (later : List (At X)) → IsStrictlySortedBy (slice_cmp nat_cmp) (keys_of pairs) → All (IsAbove node) later → AreRising later → AreRising (node_entries row node pairs ++ later)
  rising_in node [] later sorted less rising = rising
  rising_in node (pair ∷ pairs) later sorted less rising =
      rising_with node pair.0 (row pair.1 node) (node_entries row node pairs) later
      (λ held. All-append (IsBelow (entry_of node pair.0 held)) (node_entries row node pairs) later
      (below_keys node pair.0 held pairs (All-after_first (slice_cmp nat_cmp) pair.0 (keys_of pairs) sorted))
      (All-weaker (IsAbove node) (IsBelow (entry_of node pair.0 held)) (λ entry is. inl is) later less))
      (rising_in node pairs later (sorted_tail (slice_cmp nat_cmp) pair.0 (keys_of pairs) sorted) less rising)

  rising_from : (first count : ℕ) (pairs : List (List ℕ × ℕ)) → IsStrictlySortedBy (slice_cmp nat_cmp) (keys_of pairs) → AreRising (entries_from row first count pairs)
  rising_from first zero pairs sorted = tt
  rising_from first (suc count) pairs sorted =
      rising_in first pairs (entries_from row (suc first) count pairs) sorted (above first (suc first) count pairs (omega arith)) (rising_from (suc first) count pairs sorted)

  there_by : (rows : List KeyRows) (wanted : Wanted) (nodes : ℕ) (pairs : List (List ℕ × ℕ)) (node : ℕ) (key : List ℕ) (held : X) (at : Option ℕ) → AreInOrder wanted rows pairs →
      ((slot node : ℕ) (held : X) → row slot node ≡ Some held → is_wanted wanted (row_at rows slot node) ≡ true) → node < nodes → slot_in rows key ≡ at → at_slot row at node ≡ Some held → Contains (entries_from row 0 nodes pairs) (entry_of node key held)
  there_by rows wanted nodes pairs node key held None order wants below is found = cc
  there_by rows wanted nodes pairs node key held (Some slot) order wants below is found =
      row_there 0 nodes pairs node key slot held (omega arith) (omega (arith, below)) (order.all key slot node is (wants slot node held found)) found

  lists_by : (rows : List KeyRows) (wanted : Wanted) (nodes : ℕ) (at : ℕ → List ℕ → Option X) (pairs : List (List ℕ × ℕ)) → AreInOrder wanted rows pairs →
      ((slot node : ℕ) (held : X) → row slot node ≡ Some held → is_wanted wanted (row_at rows slot node) ≡ true) → ((node : ℕ) (key : List ℕ) → at node key ≡ at_slot row (slot_in rows key) node)
      → ((node : ℕ) (key : List ℕ) (held : X) → at node key ≡ Some held → node < nodes) → ListsOf at (entries_from row 0 nodes pairs)
  lists_by rows wanted nodes at pairs order wants is below = record {
    rising = rising_from 0 nodes pairs order.rising;
    rows = λ node key held. (
      (λ found. there_by rows wanted nodes pairs node key held (slot_in rows key) order wants (below node key held found) refl (sym (is node key) ∙ found)),
      (λ among. is node key ∙ All-contains (IsThere rows) (entries_from row 0 nodes pairs) (entry_of node key held) (back_from rows 0 nodes pairs order.found) among),
    );
  }

some_held : (row : Seen) (held : Held) → row.held ≡ Some held → is_some row.held ≡ true
some_held row held is = ap is_some is

some_told : (row : Seen) (now : Option Held) → told row ≡ Some now → is_some (told row) ≡ true
some_told row now is = ap is_some is

pub lists_rows : (rows : List KeyRows) (nodes : ℕ) (pairs : List (List ℕ × ℕ)) → AreInOrder Rows rows pairs → AreBelow nodes rows → Lists (cell_in rows) (entries_from (held_row rows) 0 nodes pairs)
lists_rows rows nodes pairs order below =
    lists_by (held_row rows) rows Rows nodes (cell_in rows) pairs order (λ slot node held is. some_held (row_at rows slot node) held is) (cell_slot rows) (λ node key held found. cell_below rows nodes node key held below found)

pub lists_all : (rows : List KeyRows) (nodes : ℕ) → IsBound rows → AreBelow nodes rows → Lists (cell_in rows) (entries_from (held_row rows) 0 nodes (pairs_from 0 rows))
lists_all rows nodes bound below = lists_rows rows nodes (pairs_from 0 rows) (pairs_order Rows rows bound) below

pub lists_changes : (rows : List KeyRows) (nodes : ℕ) (pairs : List (List ℕ × ℕ)) → AreInOrder Changes rows pairs → AreBelow nodes rows
    → ListsOf (changes_in (named_in rows) (there_in rows) (cell_in rows)) (entries_from (told_row rows) 0 nodes pairs)
lists_changes rows nodes pairs order below =
    lists_by (told_row rows) rows Changes nodes (changes_in (named_in rows) (there_in rows) (cell_in rows)) pairs order (λ slot node now is. some_told (row_at rows slot node) now is) (told_slot rows) (λ node key now found. told_below rows nodes node key now below found)
