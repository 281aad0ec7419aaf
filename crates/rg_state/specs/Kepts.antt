-- The rows of one key: a state for each of its nodes, and what is remembered of it since the mark.
use Rattle.std.specs.Prelude.{◌≡◌, ℕ, ◌==◌, ◌&&◌, ◌||◌, not, cond, Bool, true, false, List, [], ◌∷◌, length, Option, None, Some}
use Rattle.rg_agg.specs.Held.{Held}
use Rattle.rg_agg.specs.Standing.{size_in}
use Rattle.rg_event.specs.declared.value.Value.{Value}
use Rattle.rg_keywords.specs.declared.func.Func.{Func}
use Rattle.rg_state.specs.Changes.{IsNamed, was_there, change_of}
use Rattle.rg_state.specs.Rows.{Changed, Suits, IsOf, Counts}
use Rattle.rg_state.specs.States.{held_of}
use Rattle.rg_state.specs.declared.key_rows.Kept.{Kept}
use Rattle.rg_state.specs.declared.table.Change.{Change}

-- what is seen of a row: what it keeps, where there is one; whether it was named since the mark; and whether it was there then
pub record Seen : Type 0 where
  pub held : Option Held
  pub named : Bool
  pub there : Bool

-- of no row, which wasn't named
abbrev pub unseen : Seen
unseen = record { held = None; named = false; there = false }

-- of a row that is new since the mark
abbrev pub fresh : Held → Seen
fresh held = record { held = Some held; named = true; there = false }

-- once the table is marked
abbrev pub settled : Seen → Seen
settled row = record { held = row.held; named = false; there = false }

-- what is written of it
abbrev pub told : Seen → Option (Option Held)
told row = change_of row.named row.there row.held

-- an empty state is no row
abbrev pub shown : Held → Option Held
shown held = cond (size_in held == 0) None (Some held)

abbrev pub seen : Kept → Seen
seen kept = record { held = shown (held_of kept.state); named = kept.named; there = kept.there }

-- the row of a node
abbrev pub seen_at : List Kept → ℕ → Seen
seen_at [] node = unseen
seen_at (kept ∷ rest) node = cond (kept.node == node) (seen kept) (seen_at rest node)

-- something is kept of a node
abbrev pub stands_in : List Kept → ℕ → Bool
stands_in [] node = false
stands_in (kept ∷ rest) node = cond (kept.node == node) true (stands_in rest node)

-- a row that was there was named
abbrev pub is_marked : Kept → Bool
is_marked kept = not kept.there || kept.named

-- the row is gone, and wasn't there at the mark
abbrev pub is_idle : Kept → Bool
is_idle kept = (size_in (held_of kept.state) == 0) && not kept.there

-- it is worth keeping
abbrev pub is_fair : Kept → Bool
is_fair kept = not (is_idle kept) && is_marked kept

-- each node stands once, and each is worth keeping
abbrev pub are_sound : List Kept → Bool
are_sound [] = true
are_sound (kept ∷ rest) = not (stands_in rest kept.node) && (is_fair kept && are_sound rest)

-- the rows but for this node's stay
abbrev pub OthersKept : ℕ → List Kept → List Kept → Type 0
OthersKept node old new = (n : ℕ) → (n ≡ node → ⊥) → seen_at new n ≡ seen_at old n

-- the row of this node is the only one, and was named since the mark for the first time
pub record IsFirst (node : ℕ) (held : Held) (kepts : List Kept) : Type 0 where
  pub row : seen_at kepts node ≡ fresh held
  pub others : (n : ℕ) → (n ≡ node → ⊥) → seen_at kepts n ≡ unseen
  pub count : length kepts ≡ 1

-- all rows stay, and so does their number
pub record IsKeptSame (old new : List Kept) : Type 0 where
  pub same : (node : ℕ) → seen_at new node ≡ seen_at old node
  pub count : length new ≡ length old

-- what a call that names a row makes of its marks
pub record IsMarked (old new : Seen) : Type 0 where
  pub named : IsNamed new.named new.there new.held
  pub there : new.there ≡ was_there old.named old.there old.held

-- what a change that was made did to the row
pub record Stepped (func : Func) (change : Change) (value : Value) (old new : Seen) : Type 0 where
  pub changed : Changed func change value old.held new.held
  pub suits : Suits func change value old.held
  pub own : IsOf func new.held
  pub size : Counts change old.held new.held
  pub marks : IsMarked old new
