-- How one line of a run, or all that are left, were answered.
use Rattle.std.specs.Prelude.{◌≡◌, ◌⊎◌, ◌+◌, ◌≤◌, ◌<◌, ◌^◌, ℕ, List, [], Bool, true, false, Option, IfOk, IfErr, IsErrOf, Result}
use Rattle.rg_bytes.specs.Counts.{Rose}
use Rattle.rg_host.specs.Moments.{Moments}
use Rattle.rg_host.specs.Reading.{Reading}
use Rattle.rg_config.specs.Plans.{Planned}
use Rattle.rg_run_spec.specs.Stores.{StaysOnCourse}
use Rattle.rg_task.specs.View.{View}
use Rattle.rg_run.specs.Turning.{HasStopped}
use Rattle.rg_run.specs.Answered.{CountsGrow}
use Rattle.rg_run.specs.Begun.{Begun, course_for}
use Rattle.rg_run.specs.Reading.{HasTaken}
use Rattle.rg_run.specs.UnderWay.{HasAnswered}
use Rattle.rg_run.specs.declared.fault.RunFault.{RunFault}
use Rattle.rg_run.specs.declared.fault.RunFault.TheVariants.{Disk, Damaged, SchemaDiffers, BadState, Gap, Read, Limit, Write}

-- the one where there was a line, and the other at the end
pub record MoreOr (on over : Type 0) (more : Bool) : Type 0 where
  pub on_is : more ≡ true → on
  pub over_is : more ≡ false → over

-- all of an input was read
pub record IsReadOut (reading : Reading) : Type 0 where
  pub ended : reading.ended ≡ true
  pub few : reading.taken ≤ 2 ^ 50

module _ {K : Type 0} (view : View K) where
  -- Lines of a run that began so were answered, and what is answered has Done: at each moment the run is on its course; at a fault
  -- whole lines were put, unless a put failed; and at a read that failed all whole lines were answered.
  pub record GoesTrue {A : Type 0} (plan : Planned) (b : Begun) (left : Option (List ℕ)) (Done : A → Type 0) (result : Result A RunFault) (old new : K) : Type 0 where
    pub moments : Moments view.clock view.since old new (StaysOnCourse (view.store plan) (course_for plan b) [])
    pub done : IfOk result Done
    pub stopped : IfErr result (λ fault. (fault ≡ Write) ⊎ HasStopped view plan (course_for plan b) new)
    pub answered : IfErr result (λ fault. (fault ≡ Read) ⊎ (fault ≡ Limit) → HasAnswered plan b left (view.said new) (fault ≡ Limit))
    pub never_bad : (n : ℕ) → IsErrOf result (BadState n) → ⊥
    pub never_damaged : (p : ℕ) → IsErrOf result (Damaged p) → ⊥

  -- One line of any input was answered, and the next one can be: a node that can be carried on is carried on, and edges stay at
  -- spelled spots.
  pub record CarriesOn (plan : Planned) (offset_then spent spent_then : ℕ) (old new : K) : Type 0 where
    pub node : (n : ℕ) → view.node plan n old → view.node plan n new
    pub placed : view.placed plan old → view.placed plan new
    pub counted : offset_then ≤ 2 ^ 61 + spent_then
    pub within : (spent < spent_then) × (spent_then ≤ 2 ^ 50)
    pub going : (view.at new).ended ≡ false

module _ {K I : Type 0} (view : View K) (disk_faults out_faults : K → ℕ) (left : I → Option (List ℕ)) (faults : I → ℕ) where
  -- What was taken of the input, whatever came of it; what is answered has Done.
  pub record TakesOn {A : Type 0} (Done : A → Type 0) (reading reading_then : Reading) (result : Result A RunFault) (input input_then : I) (old new : K) : Type 0 where
    pub done : IfOk result Done
    pub taken : (start : Option (List ℕ)) → HasTaken start (left input) reading → HasTaken start (left input_then) reading_then
    pub counts : CountsGrow view disk_faults out_faults faults input input_then old new

module _ {K I : Type 0} (view : View K) (disk_faults out_faults : K → ℕ) (faults : I → ℕ) where
  -- Why lines of any input were not answered.
  pub record StopsFor {A : Type 0} (plan : Planned) (taken : ℕ) (result : Result A RunFault) (input input_then : I) (old new : K) : Type 0 where
    pub bad : (n : ℕ) → view.node plan n old → IsErrOf result (BadState n) → ⊥
    pub undamaged : (p : ℕ) → view.placed plan old → IsErrOf result (Damaged p) → ⊥
    pub damaged : (p : ℕ) → IsErrOf result (Damaged p) → view.illegal p new
    pub read : IsErrOf result Read → Rose (faults input) (faults input_then)
    pub limit : IsErrOf result Limit → 2 ^ 50 < taken
    pub write : IsErrOf result Write → Rose (out_faults old) (out_faults new)
    pub disk : IsErrOf result Disk → Rose (disk_faults old) (disk_faults new)
    pub differs : IsErrOf result SchemaDiffers → ⊥
    pub gap : (n : ℕ) → IsErrOf result (Gap n) → ⊥
