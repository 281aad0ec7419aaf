-- What a whole run promises.
use Rattle.std.specs.Prelude.{◌≡◌, ◌⊎◌, ◌≤◌, ◌<◌, ◌^◌, ℕ, List, Option, Some, OnOk, IfErr, IsErrOf, Result}
use Rattle.std.specs.Option.{ForSome}
use Rattle.rg_bytes.specs.Counts.{Rose}
use Rattle.rg_bytes.specs.Known.{IsAtEnd}
use Rattle.rg_host.specs.Image.{Image}
use Rattle.rg_host.specs.Moments.{Moment}
use Rattle.rg_event.specs.Rising.{next_offset}
use Rattle.rg_event.specs.declared.event.Event.{Event}
use Rattle.rg_config.specs.Plans.{Planned}
use Rattle.rg_reservoir.specs.Attached.{IsIllegalOpened}
use Rattle.rg_open.specs.Blame.{IsBlamed}
use Rattle.rg_open.specs.Opening.{IsOpenable}
use Rattle.rg_open.specs.Stores.{Has}
use Rattle.rg_open.specs.Unfit.{HasOtherSchema, HasBadFrame, IsUnfit, IsLeftAlone}
use Rattle.rg_open.specs.Within.{IsWithinOpening}
use Rattle.rg_recover.specs.Answered.{CountsGrow, HoldsLog}
use Rattle.rg_recover.specs.Ready.{IsReadyRun, IsReadyStore, begun_by}
use Rattle.rg_recover.specs.RunFaults.{SaysWhy, IsGapOrFailed}
use Rattle.rg_run.specs.Reading.{IsLonger, IsWithinLimit}
use Rattle.rg_recover.specs.Ran.{Ran}
use Rattle.rg_run.specs.declared.fault.RunFault.{RunFault}
use Rattle.rg_run.specs.declared.fault.RunFault.TheVariants.{Disk, Damaged, SchemaDiffers, BadState, Gap, Read, Limit, Write}

module _ {H I : Type 0} (now : H → Option Image) (may : H → Image → Type 0) (clock : H → ℕ) (since : H → ℕ → Moment → Type 0) (said : H → Option (List ℕ)) (left : I → Option (List ℕ)) where
  -- A run over a store that is ready; of one whose input tells its bytes, how it went.
  pub record RunsReady {A : Type 0} (plan : Planned) (first : ℕ) (result : Result A RunFault) (input input_then : I) (old new : H) : Type 0 where
    pub ran : (ready : IsReadyRun plan (now old) (may old) (said old)) (all : List ℕ) → left input ≡ Some all → (from : ℕ) × Ran may clock since said plan (begun_by ready from first all) ready.openable.image (left input_then) result old new
    pub behind : (store : IsReadyStore plan (now old) (may old)) (keep : Option ℕ) → next_offset store.held < first → (input_then ≡ input) × IsWithinOpening may clock since said plan keep store.openable.image old new × IfErr result IsGapOrFailed
    pub never_bad : IsOpenable plan (now old) (may old) → (n : ℕ) → IsErrOf result (BadState n) → ⊥
    pub never_damaged : IsOpenable plan (now old) (may old) → (p : ℕ) → IsErrOf result (Damaged p) → ⊥
    pub never_differs : IsOpenable plan (now old) (may old) → IsErrOf result SchemaDiffers → ⊥

  -- A run over an image that isn't fit for its plan.
  pub record RefusesUnfit {A : Type 0} (plan : Planned) (result : Result A RunFault) (input input_then : I) (old new : H) : Type 0 where
    pub unfit : (v : Image) → now old ≡ Some v → IsUnfit plan v → (input_then ≡ input) × IsLeftAlone now may clock since said v old new × IfErr result (SaysWhy plan v)
    pub exact : (v : Image) → now old ≡ Some v → IsUnfit plan v → OnOk result ⊥

module _ {H I : Type 0} (now : H → Option Image) (disk_faults out_faults : H → ℕ) (left : I → Option (List ℕ)) (faults : I → ℕ) where
  -- Why a run ended, over any store.
  pub record HasCause {A : Type 0} (plan : Planned) (first : ℕ) (result : Result A RunFault) (input input_then : I) (old new : H) : Type 0 where
    pub gap : (n : ℕ) → IsErrOf result (Gap n) → n < first
    pub gap_next : (v : Image) (events : List Event) (n : ℕ) → now old ≡ Some v → Has plan events v → IsErrOf result (Gap n) → n ≡ next_offset events
    pub no_gap : (v : Image) (events : List Event) → now old ≡ Some v → Has plan events v → OnOk result (first ≤ next_offset events)
    pub differs : IsErrOf result SchemaDiffers → ForSome (now old) (HasOtherSchema plan)
    pub damaged : (p : ℕ) → IsErrOf result (Damaged p) → ForSome (now old) (HasBadFrame plan p) ⊎ ForSome (now old) (λ u. ForSome (now new) (λ v. IsIllegalOpened plan.shape plan.defaults (u 2) p (v 2)))
    pub bad : (v : Image) (events : List Event) (n : ℕ) → now old ≡ Some v → Has plan events v → IsErrOf result (BadState n) → IsBlamed plan v events n
    pub undamaged : (v : Image) (events : List Event) (p : ℕ) → now old ≡ Some v → Has plan events v → IsErrOf result (Damaged p) → ⊥
    pub at_end : OnOk result (IsAtEnd (left input_then))
    pub within : OnOk result (IsWithinLimit (2 ^ 50) (left input))
    pub read : IsErrOf result Read → Rose (faults input) (faults input_then)
    pub limit : IsErrOf result Limit → IsLonger (2 ^ 50) (left input)
    pub write : IsErrOf result Write → Rose (out_faults old) (out_faults new)
    pub disk : IsErrOf result Disk → Rose (disk_faults old) (disk_faults new)
    pub store_first : IsErrOf result SchemaDiffers → input_then ≡ input
    pub gap_first : (n : ℕ) → IsErrOf result (Gap n) → input_then ≡ input

module _ {H I : Type 0} (now : H → Option Image) (may : H → Image → Type 0) (clock : H → ℕ) (since : H → ℕ → Moment → Type 0) (said : H → Option (List ℕ)) (disk_faults out_faults : H → ℕ) (left : I → Option (List ℕ)) (faults : I → ℕ) where
  -- All of these, and no count of failed calls fell.
  pub record IsWholeRun {A : Type 0} (plan : Planned) (first : ℕ) (result : Result A RunFault) (input input_then : I) (old new : H) : Type 0 where
    pub ready : RunsReady now may clock since said left plan first result input input_then old new
    pub unfit : RefusesUnfit now may clock since said left plan result input input_then old new
    pub cause : HasCause now disk_faults out_faults left faults plan first result input input_then old new
    -- over a legal log, whatever the slots hold
    pub log : (v : Image) (events : List Event) → now old ≡ Some v → Has plan events v → HoldsLog may clock since plan events old new
    pub counts : CountsGrow disk_faults out_faults faults input input_then old new
