-- What a call keeps of what is known of a table since its mark.
use Rattle.std.specs.Prelude.{◌↔◌, ◌≤◌, ℕ, Result, IsErrOf}
use Rattle.rg_bytes.specs.Counts.{Rose}
use Rattle.rg_state.specs.Changes.{Marks, IsSince}
use Rattle.rg_state.specs.Rows.{Cells}
use Rattle.rg_state.specs.declared.table.TableFault.{TableFault}
use Rattle.rg_state.specs.declared.table.TableFault.TheVariants.{Disk}

-- A table before a call and after it, whatever the answer: whether it tells its rows stays, and where its marks told what changed since these rows,
-- they tell it now.
pub record KeepsSince {T : Type 0} (Tells : T → Type 0) (named there : T → Marks) (cells : T → Cells) (old new : T) : Type 0 where
  pub tells : Tells new ↔ Tells old
  pub since : Tells old → (base : Cells) → IsSince base (named old) (there old) (cells old) → IsSince base (named new) (there new) (cells new)

-- A table before a call and after it: what its marks tell stays told, its count of faults doesn't fall, and where its
-- disk failed the count rose.
pub record GoesOn {T : Type 0} (Tells : T → Type 0) (named there : T → Marks) (cells : T → Cells) (faults : T → ℕ) (old new : T) (result : Result Unit TableFault) : Type 0 where
  pub since : KeepsSince Tells named there cells old new
  pub later : faults old ≤ faults new
  pub disk : IsErrOf result Disk → Rose (faults old) (faults new)
