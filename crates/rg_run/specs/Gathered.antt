-- What becomes of the gathered lines before the input is read, and where it can't be read on.
use Rattle.std.specs.Prelude.{◌≡◌, ◌⊎◌, ◌≤◌, ◌+◌, ◌^◌, ℕ, List, [], false, Option, OnOk, IfErr, IsErrOf, Result}
use Rattle.rg_bytes.specs.Counts.{Rose}
use Rattle.rg_host.specs.Lines.{HasNoLf}
use Rattle.rg_host.specs.Moments.{Moments, LeavesFiles}
use Rattle.rg_host.specs.Reading.{Reading}
use Rattle.rg_config.specs.Plans.{Planned}
use Rattle.rg_run_spec.specs.Stores.{StaysOnCourse}
use Rattle.rg_task.specs.View.{View, Keeps}
use Rattle.rg_run.specs.Begun.{Begun, course_for}
use Rattle.rg_run.specs.UnderWay.{IsUnderWay}
use Rattle.rg_run.specs.declared.fault.RunFault.{RunFault}
use Rattle.rg_run.specs.declared.fault.RunFault.TheVariants.{Write}

-- the input need not be read while something is gathered: nothing is, or the next line is held whole
abbrev pub MayRead : List ℕ → List ℕ → Type 0
MayRead gathered pending = (gathered ≡ []) ⊎ (¬ HasNoLf pending)

-- The next line can be taken: offsets are counted with the lines, the task has not ended, and the input need not be read while something
-- is gathered.
pub record IsReady {K : Type 0} (view : View K) (reading : Reading) (offset : ℕ) (gathered : List ℕ) (t : K) : Type 0 where
  pub counted : offset ≤ 2 ^ 61 + reading.spent
  pub within : reading.spent ≤ 2 ^ 50
  pub ahead : MayRead gathered reading.pending
  pub going : (view.at t).ended ≡ false

module _ {K : Type 0} (view : View K) (disk_faults out_faults : K → ℕ) where
  -- A call that puts gathered lines, or a part of them, and does nothing else: a run under way is on its course at each moment of it.
  pub record PutsOnly (offset offset_then : ℕ) (gathered : List ℕ) (old new : K) : Type 0 where
    pub moments : (plan : Planned) (b : Begun) (left : Option (List ℕ)) (reading : Reading) → IsUnderWay view plan b left reading offset old gathered → Moments view.clock view.since old new (StaysOnCourse (view.store plan) (course_for plan b) [])
    pub keeps : Keeps view old new
    pub files : LeavesFiles view.now view.may view.clock view.since old new
    pub offset_stays : offset_then ≡ offset
    pub disk_faults_stay : disk_faults new ≡ disk_faults old
    pub out_faults_grow : out_faults old ≤ out_faults new

module _ {K : Type 0} (view : View K) (out_faults : K → ℕ) where
  -- The input may be read, of which `pending` is held: a run under way is still, unless a put failed.
  pub record GoesAhead {A : Type 0} (pending : List ℕ) (offset offset_then : ℕ) (gathered gathered_then : List ℕ) (result : Result A RunFault) (old new : K) : Type 0 where
    pub under_way : (plan : Planned) (b : Begun) (left : Option (List ℕ)) (reading : Reading) → IsUnderWay view plan b left reading offset old gathered → OnOk result (IsUnderWay view plan b left reading offset_then new gathered_then)
    pub ahead : OnOk result (MayRead gathered_then pending)
    pub write : IsErrOf result Write → Rose (out_faults old) (out_faults new)
    pub faults : IfErr result (λ fault. fault ≡ Write)

  -- A run that can't go on for this fault has put all that was gathered and tells that fault, unless a put failed.
  pub record StopsFrom (fault result : RunFault) (offset offset_then : ℕ) (gathered : List ℕ) (old new : K) : Type 0 where
    pub under_way : (plan : Planned) (b : Begun) (left : Option (List ℕ)) (reading : Reading) → IsUnderWay view plan b left reading offset old gathered → (result ≡ Write) ⊎ ((result ≡ fault) × IsUnderWay view plan b left reading offset_then new [])
    pub which : (result ≡ fault) ⊎ ((result ≡ Write) × Rose (out_faults old) (out_faults new))
