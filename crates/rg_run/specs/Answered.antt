-- How the lines of an opened store's run were answered.
use Rattle.std.specs.Prelude.{◌≡◌, ◌⊎◌, ◌≤◌, ◌<◌, ◌^◌, ℕ, List, [], false, Option, Some, OnOk, IfErr, IsErrOf, Result}
use Rattle.rg_bytes.specs.Counts.{Rose}
use Rattle.rg_bytes.specs.Known.{IsAtEnd}
use Rattle.rg_host.specs.Moments.{Moments}
use Rattle.rg_host.specs.Reading.{Reading}
use Rattle.rg_config.specs.Plans.{Planned}
use Rattle.rg_run_spec.specs.Stores.{StaysOnCourse}
use Rattle.rg_run_spec.specs.Steps.{IsAtRest}
use Rattle.rg_task.specs.View.{View}
use Rattle.rg_run.specs.Turning.{HasStopped}
use Rattle.rg_run.specs.Begun.{Begun, course_for}
use Rattle.rg_run.specs.Reading.{IsLonger, IsWithinLimit}
use Rattle.rg_run.specs.UnderWay.{HasAnswered, HasFinished}
use Rattle.rg_run.specs.declared.fault.RunFault.{RunFault}
use Rattle.rg_run.specs.declared.fault.RunFault.TheVariants.{Disk, Damaged, SchemaDiffers, BadState, Gap, Read, Limit, Write}

-- nothing was read of an input
pub record IsFresh (reading : Reading) : Type 0 where
  pub pending : reading.pending ≡ []
  pub taken : reading.taken ≡ 0
  pub spent : reading.spent ≡ 0
  pub still_open : reading.ended ≡ false

module _ {K : Type 0} (view : View K) where
  -- A store was opened for a run, and nothing of its input is read or answered yet: the task has the store's events, all of them stored.
  pub record IsToBegin (plan : Planned) (b : Begun) (left : Option (List ℕ)) (from first : ℕ) (t : K) : Type 0 where
    pub at_rest : IsAtRest (view.store plan) (course_for plan b) [] b.held (view.at t).keep (view.may t)
    pub told : view.said t ≡ Some b.said
    pub comes : left ≡ Some b.input
    pub first_is : first ≡ b.first
    pub running : view.runs plan t
    pub events : (view.at t).events ≡ b.held
    pub stored : (view.at t).stored ≡ b.held
    pub from_is : from ≡ b.from

  -- A run that began so, over a store that was opened: at each moment it is on its course; at its end all was put; at a fault whole
  -- lines were put, or nothing was done, unless a put failed; and at a read that failed all whole lines were answered.
  pub record StaysTrue {A : Type 0} (plan : Planned) (b : Begun) (left : Option (List ℕ)) (result : Result A RunFault) (old new : K) : Type 0 where
    pub moments : Moments view.clock view.since old new (StaysOnCourse (view.store plan) (course_for plan b) [])
    pub finished : OnOk result (HasFinished view plan b new)
    pub stopped : IfErr result (λ fault. (fault ≡ Write) ⊎ (HasStopped view plan (course_for plan b) new ⊎ (new ≡ old)))
    pub answered : IfErr result (λ fault. (fault ≡ Read) ⊎ (fault ≡ Limit) → HasAnswered plan b left (view.said new) (fault ≡ Limit))
    pub never_bad : (n : ℕ) → IsErrOf result (BadState n) → ⊥
    pub never_damaged : (p : ℕ) → IsErrOf result (Damaged p) → ⊥

module _ {K I : Type 0} (view : View K) (disk_faults out_faults : K → ℕ) (left : I → Option (List ℕ)) (faults : I → ℕ) where
  -- Over any opened store: an input whose first line is behind its next offset is refused before anything is read or put, and each
  -- other refusal has its cause; at the end the whole input was read.
  pub record Explains {A : Type 0} (plan : Planned) (first : ℕ) (result : Result A RunFault) (input input_then : I) (old new : K) : Type 0 where
    pub behind : (view.at old).next < first → (input_then ≡ input) × (new ≡ old) × IfErr result (λ fault. fault ≡ Gap (view.at old).next)
    pub gap : (n : ℕ) → IsErrOf result (Gap n) → ((view.at old).next ≡ n) × ((view.at old).next < first) × (input_then ≡ input)
    pub no_gap : OnOk result (first ≤ (view.at old).next)
    pub differs : IsErrOf result SchemaDiffers → ⊥
    pub bad : (n : ℕ) → view.node plan n old → IsErrOf result (BadState n) → ⊥
    pub undamaged : (p : ℕ) → view.placed plan old → IsErrOf result (Damaged p) → ⊥
    pub damaged : (p : ℕ) → IsErrOf result (Damaged p) → view.illegal p new
    pub at_end : OnOk result (IsAtEnd (left input_then))
    pub within : OnOk result (IsWithinLimit (2 ^ 50) (left input))
    pub read : IsErrOf result Read → Rose (faults input) (faults input_then)
    pub limit : IsErrOf result Limit → IsLonger (2 ^ 50) (left input)
    pub write : IsErrOf result Write → Rose (out_faults old) (out_faults new)
    pub disk : IsErrOf result Disk → Rose (disk_faults old) (disk_faults new)

module _ {K I : Type 0} (view : View K) (disk_faults out_faults : K → ℕ) (faults : I → ℕ) where
  -- The task is still one of the same store, and no count of failed calls fell.
  pub record CountsGrow (input input_then : I) (old new : K) : Type 0 where
    pub goes : view.goes old new
    pub later : faults input ≤ faults input_then
    pub disk_faults_grow : disk_faults old ≤ disk_faults new
    pub out_faults_grow : out_faults old ≤ out_faults new
