-- Calls that read files, and what they leave.
use Rattle.std.specs.Prelude.{◌≡◌, ◌≤◌, ℕ, List, Option, Result, IsErrOf}
use Rattle.rg_host.specs.Image.{Image}
use Rattle.rg_host.specs.Moments.{Moment, LeavesAll}
use Rattle.rg_checkpoint.specs.declared.fault.SlotFault.{SlotFault}
use Rattle.rg_checkpoint.specs.declared.fault.SlotFault.TheVariants.{Disk, Ended}

module _ {H : Type 0} (now : H → Option Image) (may : H → Image → Type 0) (clock : H → ℕ) (since : H → ℕ → Moment → Type 0) (said : H → Option (List ℕ)) (disk out seen : H → ℕ) where
  -- nothing was written or put, and no count fell
  pub record OnlyReads (old new : H) : Type 0 where
    pub leaves : LeavesAll now may clock since said old new
    pub disk_faults : disk old ≤ disk new
    pub out_faults : out new ≡ out old
    pub reads : seen old ≤ seen new

-- a fault of the disk comes only where that is so, and none of slots that have ended
pub record IsReadFault {A : Type 0} (result : Result A SlotFault) (rose : Type 0) : Type 0 where
  pub disk : IsErrOf result Disk → rose
  pub no_ended : IsErrOf result Ended → ⊥
