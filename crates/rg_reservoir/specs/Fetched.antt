-- What is read of a chunk at a place.
use Rattle.std.specs.Prelude.{◌≡◌, ◌⊎◌, ◌≤◌, ℕ, List, Option, Some, Result, IfOk, IfErr, IfSome, IfNone, IsErrOf}
use Rattle.std.specs.Option.{ForSome}
use Rattle.rg_bytes.specs.Counts.{Rose}
use Rattle.rg_host.specs.Image.{Image}
use Rattle.rg_event.specs.declared.event.Event.{Event}
use Rattle.rg_frame.specs.Looks.{IsClosed}
use Rattle.rg_reservoir.specs.Chain.{chunk_at, IsIllegalBy}
use Rattle.rg_reservoir.specs.Views.{View}
use Rattle.rg_reservoir.specs.declared.fault.ReservoirFault.{ReservoirFault}
use Rattle.rg_reservoir.specs.declared.fault.ReservoirFault.TheVariants as fault
use Rattle.rg_reservoir.specs.declared.kept.Kept.{Kept}

-- The chunk that stands at a place was read, or no open gate stands there. Where a chunk stands there, no place is damaged.
pub record HasFetched {H : Type 0} (now : H → Option Image) (reads : H → ℕ) (view : View) (place file : ℕ) (result : Result (Option Kept) ReservoirFault) (host after : H) : Type 0 where
  pub some : IfOk result (λ r. IfSome r (λ kept. ForSome (now host) (λ v. chunk_at view place (v file) ≡ Some (kept.chunk, kept.next))))
  pub none : IfOk result (λ r. IfNone r (ForSome (now host) (λ v. IsClosed place (v file))))
  pub never_damaged : (v : Image) (chunk : List Event) (next p : ℕ) → now host ≡ Some v → chunk_at view place (v file) ≡ Some (chunk, next) → IsErrOf result (fault.Damaged p) → ⊥
  pub no_fewer : reads host ≤ reads after
  pub rose : IfOk result (λ r. IfSome r (λ _. Rose (reads host) (reads after)))

-- why a chunk wasn't read: the place is damaged, a call on the file failed, or memory was wanted
pub record IsFetchStop (now : Option Image) (view : View) (file : ℕ) (rose : Type 0) (result : Result (Option Kept) ReservoirFault) : Type 0 where
  pub damaged : (p : ℕ) → IsErrOf result (fault.Damaged p) → ForSome now (λ v. IsIllegalBy view p (v file))
  pub disk : IsErrOf result fault.Disk → rose
  pub faults : IfErr result (λ e. (e ≡ fault.Disk) ⊎ (e ≡ fault.Memory) ⊎ ((p : ℕ) × (e ≡ fault.Damaged p)))
