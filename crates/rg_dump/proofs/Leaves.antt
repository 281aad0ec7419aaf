-- What two calls that read a store leave, and two that put lines of it.
use Rattle.std.proofs.Common.{◌∙◌, ℕ, ◌≤◌, List, Option, refl, arith}
use Rattle.std.specs.Option.{ForSome}
use Rattle.std.specs.Prelude.{◌≡◌}
use Rattle.rg_host.specs.Image.{Image}
use Rattle.rg_host.specs.Moments.{Moment}
use Rattle.rg_host.proofs.Laws.{leaves_all-none, leaves_all-then, leaves_files-none, leaves_files-then}
use Rattle.rg_dump.proofs.Quiet.{leaves_files}
use Rattle.rg_dump.specs.Leaves.{LeavesRead, LeavesPut}

module _ {H : Type 0} (now : H → Option Image) (may : H → Image → Type 0) (clock : H → ℕ) (since : H → ℕ → Moment → Type 0) (said : H → Option (List ℕ)) (disk out : H → ℕ) where
  -- nothing was called
  pub read-none : (host : H) → ((t u : ℕ) (m : Moment) → t ≤ u → since host u m → since host t m) → ((m : Moment) → since host (clock host) m → may host m.image × ForSome (said host) (λ s. m.said ≡ s)) → LeavesRead now may clock since said disk out host host
  read-none host sinks only = record { leaves = leaves_all-none now may clock since said host sinks only; disk_faults = omega arith; out_faults = refl }

  -- one call after another
  pub read-then : (old mid new : H) → LeavesRead now may clock since said disk out old mid → LeavesRead now may clock since said disk out mid new → LeavesRead now may clock since said disk out old new
  read-then old mid new first second = record {
    leaves = leaves_all-then now may clock since said old mid new first.leaves second.leaves;
    disk_faults = omega (arith, first.disk_faults, second.disk_faults);
    out_faults = second.out_faults ∙ first.out_faults;
  }

  -- which is what a call that puts lines may leave
  pub read-put : (old new : H) → LeavesRead now may clock since said disk out old new → LeavesPut now may clock since disk out old new
  read-put old new read = record { leaves = leaves_files now may clock since said old new read.leaves; disk_faults = read.disk_faults; out_faults = omega (arith, read.out_faults) }

module _ {H : Type 0} (now : H → Option Image) (may : H → Image → Type 0) (clock : H → ℕ) (since : H → ℕ → Moment → Type 0) (disk out : H → ℕ) where
  pub put-none : (host : H) → ((t u : ℕ) (m : Moment) → t ≤ u → since host u m → since host t m) → ((m : Moment) → since host (clock host) m → may host m.image) → LeavesPut now may clock since disk out host host
  put-none host sinks only = record { leaves = leaves_files-none now may clock since host sinks only; disk_faults = omega arith; out_faults = omega arith }

  pub put-then : (old mid new : H) → LeavesPut now may clock since disk out old mid → LeavesPut now may clock since disk out mid new → LeavesPut now may clock since disk out old new
  put-then old mid new first second = record {
    leaves = leaves_files-then now may clock since old mid new first.leaves second.leaves;
    disk_faults = omega (arith, first.disk_faults, second.disk_faults);
    out_faults = omega (arith, first.out_faults, second.out_faults);
  }
