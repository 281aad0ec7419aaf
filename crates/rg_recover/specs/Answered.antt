-- How the lines of an opened store's run were answered.
use Rattle.std.specs.Prelude.{◌≡◌, ◌⊎◌, ◌≤◌, ◌<◌, ◌^◌, ℕ, List, [], Option, OnOk, IfErr, IsErrOf, Result}
use Rattle.std.specs.Option.{ForSome}
use Rattle.rg_bytes.specs.Counts.{Rose}
use Rattle.rg_bytes.specs.Known.{IsAtEnd}
use Rattle.rg_host.specs.Image.{Image}
use Rattle.rg_host.specs.Moments.{Moment, Moments}
use Rattle.rg_event.specs.declared.event.Event.{Event}
use Rattle.rg_config.specs.Plans.{Planned}
use Rattle.rg_state.specs.Rows.{Cells}
use Rattle.rg_reservoir.specs.Chain.{IsIllegalBy}
use Rattle.rg_reservoir.specs.Kept.{base, view_of}
use Rattle.rg_run_spec.specs.Stores.{HasAtLeast, StaysOnCourse}
use Rattle.rg_open.specs.Stores.{store_of}
use Rattle.rg_open.specs.Blame.{NodeRuns, IsPlaced}
use Rattle.rg_recover.specs.Sessions.{Sitting}
use Rattle.rg_run.specs.Begun.{Begun, course_for}
use Rattle.rg_run.specs.Reading.{IsLonger, IsWithinLimit}
use Rattle.rg_run.specs.Turning.{HasStoppedIn}
use Rattle.rg_run.specs.UnderWay.{HasAnswered, HasFinishedIn}
use Rattle.rg_run.specs.declared.fault.RunFault.{RunFault}
use Rattle.rg_run.specs.declared.fault.RunFault.TheVariants.{Disk, Damaged, SchemaDiffers, BadState, Gap, Read, Limit, Write}

module _ {H : Type 0} (may : H → Image → Type 0) (clock : H → ℕ) (since : H → ℕ → Moment → Type 0) (said : H → Option (List ℕ)) where
  -- A run that began so, over a store that was opened: at each moment it is on its course; at its end all was put; at a fault whole
  -- lines were put, or nothing was done, unless a put failed; and at a read that failed all whole lines were answered.
  pub record StaysTrue {A : Type 0} (plan : Planned) (b : Begun) (left : Option (List ℕ)) (result : Result A RunFault) (old new : H) : Type 0 where
    pub moments : Moments clock since old new (StaysOnCourse (store_of plan) (course_for plan b) [])
    pub finished : OnOk result (HasFinishedIn (store_of plan) (course_for plan b) (may new) (said new))
    pub stopped : IfErr result (λ fault. (fault ≡ Write) ⊎ (HasStoppedIn (store_of plan) (course_for plan b) (may new) (said new) ⊎ (new ≡ old)))
    pub answered : IfErr result (λ fault. (fault ≡ Read) ⊎ (fault ≡ Limit) → HasAnswered plan b left (said new) (fault ≡ Limit))
    pub never_bad : (n : ℕ) → IsErrOf result (BadState n) → ⊥
    pub never_damaged : (p : ℕ) → IsErrOf result (Damaged p) → ⊥

module _ {H : Type 0} (may : H → Image → Type 0) (clock : H → ℕ) (since : H → ℕ → Moment → Type 0) where
  -- From old to new each image of a moment, and each that is left, has at least these events.
  pub record StaysHeld (plan : Planned) (held : List Event) (old new : H) : Type 0 where
    pub moments : Moments clock since old new (λ m. HasAtLeast (store_of plan) held m.image)
    pub left : (u : Image) → may new u → HasAtLeast (store_of plan) held u

  -- The same, but for an image that might have been left at old.
  pub record HoldsLog (plan : Planned) (held : List Event) (old new : H) : Type 0 where
    pub moments : Moments clock since old new (λ m. may old m.image ⊎ HasAtLeast (store_of plan) held m.image)
    pub left : (u : Image) → may new u → may old u ⊎ HasAtLeast (store_of plan) held u

module _ {H I : Type 0} (now : H → Option Image) (may : H → Image → Type 0) (disk_faults out_faults : H → ℕ) (left : I → Option (List ℕ)) (faults : I → ℕ) where
  -- Over any opened store, whose next offset is `next`: an input whose first line is behind that offset is refused before anything is
  -- read or put, and each other refusal has its cause; at the end the whole input was read.
  pub record Explains {A T : Type 0} (plan : Planned) (next first : ℕ) (is_told : Type 0) (cells : Cells) (s : Sitting T) (result : Result A RunFault) (input input_then : I) (old new : H) : Type 0 where
    pub behind : next < first → (input_then ≡ input) × (new ≡ old) × IfErr result (λ fault. fault ≡ Gap next)
    pub gap : (n : ℕ) → IsErrOf result (Gap n) → (next ≡ n) × (next < first) × (input_then ≡ input)
    pub no_gap : OnOk result (first ≤ next)
    pub differs : IsErrOf result SchemaDiffers → ⊥
    pub bad : (n : ℕ) → NodeRuns plan n (now old) (may old) is_told cells s.reservoir s.engine → IsErrOf result (BadState n) → ⊥
    pub undamaged : (p : ℕ) → IsPlaced plan (now old) (may old) s.reservoir s.engine → IsErrOf result (Damaged p) → ⊥
    pub damaged : (p : ℕ) → IsErrOf result (Damaged p) → ForSome (now new) (λ v. IsIllegalBy (view_of (base s.reservoir)) p (v (base s.reservoir).file))
    pub at_end : OnOk result (IsAtEnd (left input_then))
    pub within : OnOk result (IsWithinLimit (2 ^ 50) (left input))
    pub read : IsErrOf result Read → Rose (faults input) (faults input_then)
    pub limit : IsErrOf result Limit → IsLonger (2 ^ 50) (left input)
    pub write : IsErrOf result Write → Rose (out_faults old) (out_faults new)
    pub disk : IsErrOf result Disk → Rose (disk_faults old) (disk_faults new)

module _ {H I : Type 0} (disk_faults out_faults : H → ℕ) (faults : I → ℕ) where
  -- no count of failed calls fell
  pub record CountsGrow (input input_then : I) (old new : H) : Type 0 where
    pub later : faults input ≤ faults input_then
    pub disk_faults_grow : disk_faults old ≤ disk_faults new
    pub out_faults_grow : out_faults old ≤ out_faults new
