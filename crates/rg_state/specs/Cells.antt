-- The rows of all keys, by slot, and the list of them.
use Rattle.std.specs.Prelude.{◌≡◌, ℕ, zero, suc, ◌<◌, ◌≤◌, ◌==◌, ◌&&◌, cond, not, Bool, List, [], ◌∷◌, ◌++◌, length, get_or, Option, None, Some, bytes_eq}
use Rattle.std.specs.BTreeMap.{BTreeMap}
use Rattle.std.specs.Cmp.Lexicographic.{slice_cmp}
use Rattle.std.specs.Option.{option_map}
use Rattle.std.specs.Ordering.{nat_cmp, is_lt}
use Rattle.rg_agg.specs.Held.{Held}
use Rattle.rg_group.specs.Mixes.{mix}
use Rattle.rg_key_index.specs.Index.{bucket_in, slot_in_guess, Holds}
use Rattle.rg_state.specs.Kepts.{Seen, unseen, seen_at, told}
use Rattle.rg_state.specs.Rows.{At, Cells}
use Rattle.rg_state.specs.Changes.{Marks}
use Rattle.rg_state.specs.declared.key_rows.KeyRows.{KeyRows}

-- the row of a node in a slot; there is none past the last slot
abbrev pub row_at : List KeyRows → ℕ → ℕ → Seen
row_at [] slot node = unseen
row_at (rows ∷ more) zero node = seen_at rows.kept.items node
row_at (rows ∷ more) (suc slot) node = row_at more slot node

-- of how many nodes something is kept in a slot
abbrev pub count_at : List KeyRows → ℕ → ℕ
count_at [] slot = 0
count_at (rows ∷ more) zero = length rows.kept.items
count_at (rows ∷ more) (suc slot) = count_at more slot

-- something is kept in a slot
abbrev pub is_used : List KeyRows → ℕ → Bool
is_used rows slot = not (count_at rows slot == 0)

-- the key in a slot, which means nothing where nothing is kept; there is none past the last slot
abbrev pub key_at : List KeyRows → ℕ → List ℕ
key_at [] slot = []
key_at (rows ∷ more) zero = rows.key
key_at (rows ∷ more) (suc slot) = key_at more slot

-- something is kept of this key
abbrev pub is_of : KeyRows → List ℕ → Bool
is_of rows key = not (length rows.kept.items == 0) && bytes_eq rows.key key

-- the first slot in which something is kept of a key
abbrev pub slot_in : List KeyRows → List ℕ → Option ℕ
slot_in [] key = None
slot_in (rows ∷ more) key = cond (is_of rows key) (Some 0) (option_map (λ slot. suc slot) (slot_in more key))

abbrev pub row_by : List KeyRows → Option ℕ → ℕ → Seen
row_by rows None node = unseen
row_by rows (Some slot) node = row_at rows slot node

-- the row of a node and a key: that of the node in the key's slot
abbrev pub seen_in : List KeyRows → ℕ → List ℕ → Seen
seen_in rows node key = row_by rows (slot_in rows key) node

abbrev pub cell_in : List KeyRows → Cells
cell_in rows node key = (seen_in rows node key).held

abbrev pub named_in : List KeyRows → Marks
named_in rows node key = (seen_in rows node key).named

abbrev pub there_in : List KeyRows → Marks
there_in rows node key = (seen_in rows node key).there

-- all rows and marks stay
abbrev pub SameSeen : (ℕ → List ℕ → Seen) → (ℕ → List ℕ → Seen) → Type 0
SameSeen old new = (n : ℕ) (key : List ℕ) → new n key ≡ old n key

-- all but this row's stay
abbrev pub OthersSeen : ℕ → List ℕ → (ℕ → List ℕ → Seen) → (ℕ → List ℕ → Seen) → Type 0
OthersSeen node key old new = (n : ℕ) (k : List ℕ) → ((n ≡ node) × (k ≡ key) → ⊥) → new n k ≡ old n k

-- the slots in which something is kept have a key each, and short ones
pub record IsBound (rows : List KeyRows) : Type 0 where
  pub apart : (slot other : ℕ) → 0 < count_at rows slot → 0 < count_at rows other → key_at rows slot ≡ key_at rows other → slot ≡ other
  pub short : (slot : ℕ) → 0 < count_at rows slot → length (key_at rows slot) ≤ 2056

-- each key has the slot that it had, and each slot the rows
pub record SameSlots (old new : List KeyRows) : Type 0 where
  pub slots : (key : List ℕ) → slot_in new key ≡ slot_in old key
  pub rows : (slot node : ℕ) → row_at new slot node ≡ row_at old slot node

-- each of them is among the candidates of its key
abbrev pub AreHeld : List ℕ → BTreeMap (List ℕ) ℕ → List KeyRows → Type 0
AreHeld buckets overflow rows = (slot : ℕ) → 0 < count_at rows slot → Holds buckets overflow (mix (key_at rows slot)) (key_at rows slot) slot

-- each slot below a number in which something is kept is among the candidates of its key
abbrev pub AreHeldBelow : List ℕ → BTreeMap (List ℕ) ℕ → List KeyRows → ℕ → Type 0
AreHeldBelow buckets overflow rows n = (slot : ℕ) → slot < n → 0 < count_at rows slot → Holds buckets overflow (mix (key_at rows slot)) (key_at rows slot) slot

-- no guess in the bucket of a mix is the slot of this key
abbrev pub NoneGuessed : List ℕ → ℕ → List KeyRows → List ℕ → Type 0
NoneGuessed buckets mix rows key = (i : ℕ) → i < length (bucket_in buckets mix) → (slot : ℕ) → slot_in_guess (get_or (bucket_in buckets mix) i 0) mix ≡ Some slot → slot_in rows key ≡ Some slot → ⊥

-- no row of a node from this number on was seen since the mark
abbrev pub AreBelow : ℕ → List KeyRows → Type 0
AreBelow nodes rows = (node : ℕ) (key : List ℕ) → nodes ≤ node → seen_in rows node key ≡ unseen

-- Lists of what is in the slots

-- keys with their slots, in order of the keys, and one more put among them
abbrev pub put_pair : List ℕ × ℕ → List (List ℕ × ℕ) → List (List ℕ × ℕ)
put_pair pair [] = pair ∷ []
put_pair pair (first ∷ pairs) = cond (is_lt (slice_cmp nat_cmp pair.0 first.0)) (pair ∷ (first ∷ pairs)) (first ∷ put_pair pair pairs)

-- those of the slots in which something is kept, the first of which has this number
abbrev pub pairs_from : ℕ → List KeyRows → List (List ℕ × ℕ)
pairs_from slot [] = []
pairs_from slot (rows ∷ more) = cond (length rows.kept.items == 0) (pairs_from (suc slot) more) (put_pair (rows.key, slot) (pairs_from (suc slot) more))

-- what each row keeps
abbrev pub held_row : List KeyRows → ℕ → ℕ → Option Held
held_row rows slot node = (row_at rows slot node).held

-- and what is written of it
abbrev pub told_row : List KeyRows → ℕ → ℕ → Option (Option Held)
told_row rows slot node = told (row_at rows slot node)

module _ {X : Type 0} where
  -- an entry before others, where there is one
  abbrev pub and_row : ℕ → List ℕ → Option X → List (At X) → List (At X)
  and_row node key None entries = entries
  and_row node key (Some held) entries = record { node = node; key = key; held = held } ∷ entries

  -- a node's, the keys rising
  abbrev pub node_entries : (ℕ → ℕ → Option X) → ℕ → List (List ℕ × ℕ) → List (At X)
  node_entries row node [] = []
  node_entries row node (pair ∷ pairs) = and_row node pair.0 (row pair.1 node) (node_entries row node pairs)

  -- those of so many nodes from the first one on
  abbrev pub entries_from : (ℕ → ℕ → Option X) → ℕ → ℕ → List (List ℕ × ℕ) → List (At X)
  entries_from row first zero pairs = []
  entries_from row first (suc count) pairs = node_entries row first pairs ++ entries_from row (suc first) count pairs

  -- what is in a slot, where there is one
  abbrev pub at_slot : (ℕ → ℕ → Option X) → Option ℕ → ℕ → Option X
  at_slot row None node = None
  at_slot row (Some slot) node = row slot node
