-- What reading a store leaves, and what putting lines of it leaves.
use Rattle.std.specs.Prelude.{◌≡◌, ◌≤◌, ℕ, List, Option}
use Rattle.rg_host.specs.Image.{Image}
use Rattle.rg_host.specs.Moments.{Moment, LeavesAll, LeavesFiles}

module _ {H : Type 0} (now : H → Option Image) (may : H → Image → Type 0) (clock : H → ℕ) (since : H → ℕ → Moment → Type 0) (said : H → Option (List ℕ)) (disk out : H → ℕ) where
  -- nothing was written or put, and a call on a file alone may have failed
  pub record LeavesRead (old new : H) : Type 0 where
    pub leaves : LeavesAll now may clock since said old new
    pub disk_faults : disk old ≤ disk new
    pub out_faults : out new ≡ out old

module _ {H : Type 0} (now : H → Option Image) (may : H → Image → Type 0) (clock : H → ℕ) (since : H → ℕ → Moment → Type 0) (disk out : H → ℕ) where
  -- no file was written
  pub record LeavesPut (old new : H) : Type 0 where
    pub leaves : LeavesFiles now may clock since old new
    pub disk_faults : disk old ≤ disk new
    pub out_faults : out old ≤ out new
