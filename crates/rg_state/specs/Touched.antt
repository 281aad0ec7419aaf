-- The slots that were touched since the mark.
use Rattle.std.specs.Prelude.{◌≡◌, ℕ, zero, suc, ◌+◌, ◌≤◌, cond, Bool, false, List, [], ◌∷◌, length}
use Rattle.rg_state.specs.Cells.{row_at}
use Rattle.rg_state.specs.Unused.{times}
use Rattle.rg_state.specs.declared.key_rows.KeyRows.{KeyRows}

-- the slot was touched; one past the last that is remembered wasn't
abbrev pub flag_at : List Bool → ℕ → Bool
flag_at [] slot = false
flag_at (flag ∷ flags) zero = flag
flag_at (flag ∷ flags) (suc slot) = flag_at flags slot

-- how many were
abbrev pub flagged : List Bool → ℕ
flagged [] = 0
flagged (flag ∷ flags) = cond flag 1 0 + flagged flags

-- each slot that was touched stands in the list once, and no other one, and each slot that is remembered has room in it
pub record AreListed (flags : List Bool) (slots : List ℕ) (room : ℕ) : Type 0 where
  pub each : (slot : ℕ) → times slots slot ≡ cond (flag_at flags slot) 1 0
  pub count : length slots ≡ flagged flags
  pub roomy : length flags ≤ room

-- no row of the slot was named since the mark
abbrev pub IsQuiet : List KeyRows → ℕ → Type 0
IsQuiet rows slot = (node : ℕ) → (row_at rows slot node).named ≡ false

-- nor of any slot that wasn't touched
abbrev pub AreQuiet : List Bool → List KeyRows → Type 0
AreQuiet flags rows = (slot : ℕ) → flag_at flags slot ≡ false → IsQuiet rows slot
