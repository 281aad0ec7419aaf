-- The slots in which nothing is kept.
use Rattle.std.specs.Prelude.{◌≡◌, ℕ, zero, suc, ◌+◌, ◌<◌, ◌≤◌, ◌^◌, ◌==◌, cond, List, [], ◌∷◌, ◌++◌, length}
use Rattle.rg_state.specs.Cells.{count_at}
use Rattle.rg_state.specs.declared.key_rows.KeyRows.{KeyRows}

-- how often a slot stands in a list
abbrev pub times : List ℕ → ℕ → ℕ
times [] slot = 0
times (first ∷ slots) slot = cond (first == slot) 1 0 + times slots slot

-- the numbers below a number
abbrev pub below : ℕ → List ℕ
below zero = []
below (suc n) = below n ++ n ∷ []

-- once, where there is the slot and nothing is kept in it
abbrev pub unused_at : List KeyRows → ℕ → ℕ
unused_at [] slot = 0
unused_at (rows ∷ more) zero = cond (length rows.kept.items == 0) 1 0
unused_at (rows ∷ more) (suc slot) = unused_at more slot

-- how many slots there are in which nothing is kept
abbrev pub unused : List KeyRows → ℕ
unused [] = 0
unused (rows ∷ more) = cond (length rows.kept.items == 0) 1 0 + unused more

-- each slot in which nothing is kept stands in the list once, and no other one, and each slot there is has room in it
pub record AreFree (free : List ℕ) (room : ℕ) (rows : List KeyRows) : Type 0 where
  pub each : (slot : ℕ) → times free slot ≡ unused_at rows slot
  pub count : length free ≡ unused rows
  pub roomy : length rows ≤ room
  pub few : length rows < 2 ^ 32

-- the slot is the last of the list, and nothing is kept in it
pub record IsLast (slot : ℕ) (free : List ℕ) (rows : List KeyRows) : Type 0 where
  pub front : List ℕ
  pub last : free ≡ front ++ slot ∷ []
  pub within : slot < length rows
  pub empty : count_at rows slot ≡ 0
