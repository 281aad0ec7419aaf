-- Since which rows a table's marks tell what changed, where an engine was opened.
use Rattle.std.specs.Prelude.{◌≡◌, ℕ, List, [], Option, Some, None}
use Rattle.rg_state.specs.Changes.{Marks, IsSince}
use Rattle.rg_state.specs.Rows.{Cells, Entry, Lists, at_in}
use Rattle.rg_checkpoint.specs.declared.base.Checkpoint.{Checkpoint}

-- these are the rows, and what changes is told since them
pub record IsMarkedAt (rows : List Entry) (named there : Marks) (cells : Cells) : Type 0 where
  pub lists : Lists cells rows
  pub since : IsSince (at_in rows) named there cells

-- the rows of the slot's checkpoint; none where there is no slot
abbrev pub AreRowsIn : (ℕ → Option Checkpoint) → Option ℕ → List Entry → Type 0
AreRowsIn slots None rows = rows ≡ []
AreRowsIn slots (Some i) rows = (checkpoint : Checkpoint) × (slots i ≡ Some checkpoint) × (rows ≡ checkpoint.rows)

-- what changed is told since those rows
abbrev pub IsSinceSlot : (ℕ → Option Checkpoint) → Option ℕ → Marks → Marks → Cells → Type 0
IsSinceSlot slots slot named there cells = (rows : List Entry) × AreRowsIn slots slot rows × IsSince (at_in rows) named there cells
