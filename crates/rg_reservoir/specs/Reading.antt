-- What reading a log leaves.
use Rattle.std.specs.Prelude.{◌≡◌, ◌≤◌, ℕ, List, Option}
use Rattle.rg_host.specs.Image.{Image}
use Rattle.rg_host.specs.Moments.{Moment, LeavesAll}

-- nothing is written or put, and faults are counted
pub record LeavesLog {H : Type 0} (now : H → Option Image) (may : H → Image → Type 0) (clock : H → ℕ) (since : H → ℕ → Moment → Type 0) (said : H → Option (List ℕ)) (disk_faults out_faults : H → ℕ) (host after : H) : Type 0 where
  pub leaves : LeavesAll now may clock since said host after
  pub disk_faults_rise : disk_faults host ≤ disk_faults after
  pub out_faults_stay : out_faults after ≡ out_faults host
