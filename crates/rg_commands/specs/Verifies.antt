-- What a verify promises: what it puts, and why it ends.
use Rattle.std.specs.Prelude.{◌≡◌, ◌≢◌, ◌⊎◌, ℕ, Bool, true, false, List, [], Option, Some, None, IfSome}
use Rattle.std.specs.Option.{ForSome}
use Rattle.rg_event.specs.declared.event.Event.{Event}
use Rattle.rg_plan.specs.Plans.{plan_for}
use Rattle.rg_config.specs.Plans.{Planned}
use Rattle.rg_host.specs.Image.{Image}
use Rattle.rg_dump.specs.Dump.{damage_of}
use Rattle.rg_open.specs.Stores.{Has}
use Rattle.rg_open.specs.Truth.{texts_of}
use Rattle.rg_open.specs.Unfit.{HasOtherSchema}
use Rattle.rg_verify.specs.Verdicts.{Terms}
use Rattle.rg_verify.specs.Verify.{IsSaid, IsCut}
use Rattle.rg_verify.specs.declared.fault.VerifyFault.{VerifyFault}
use Rattle.rg_verify.specs.declared.fault.VerifyFault.TheVariants as verify
use Rattle.rg_messages.specs.Statuses.{last_line}
use Rattle.rg_messages.specs.declared.status.Status.{Status}
use Rattle.rg_messages.specs.declared.status.Status.TheVariants.{Ok, Store, Write, Disk, Memory, Differs}
use Rattle.rg_commands.specs.Plan.{IsPlan}
use Rattle.rg_commands.specs.Call.{damage_line, schema_line, Fails, SaysLine}
use Rattle.rg_commands.specs.Outcome.{SourceOutcome, HostOutcome}
use Rattle.rg_commands.specs.Texts.{PutsLine, RefusesPlan}

-- what a checkpoint is held against: the printed texts of a plan's queries, its columns and its task plan
abbrev pub terms_for : Planned → Terms
terms_for plan = record { queries = texts_of plan.shape plan.queries; shape = plan.shape; tasks = plan_for plan.queries }

-- the host tells its image, whose log is legal, of the plan's schema, of one that grows to it by the plan's defaults, or without a frame, and has these events
pub record IsReadyVerify (plan : Planned) (now : Option Image) : Type 0 where
  pub image : Image
  pub told : now ≡ Some image
  pub events : List Event
  pub has : Has plan events image

-- What a verify is told: its plan, and a store that is ready for it.
pub record ToldVerify (plan : SourceOutcome) (h : HostOutcome) : Type 0 where
  pub plan_bytes : List ℕ
  pub plan_is : plan.told ≡ Some plan_bytes
  pub asks : Planned
  pub says : IsPlan plan_bytes asks
  pub ready : IsReadyVerify asks h.image

-- the status and the last line of a verify that ended at this fault
abbrev pub EndsVerify : VerifyFault → Status → List ℕ → Type 0
EndsVerify verify.Disk status last = Fails Disk status last
EndsVerify (verify.Damaged place) status last = SaysLine Store (damage_line (Some place)) status last
EndsVerify verify.SchemaDiffers status last = SaysLine Store schema_line status last
EndsVerify verify.Memory status last = Fails Memory status last
EndsVerify verify.Write status last = Fails Write status last

-- all lines were put: at status Ok and at Differs
abbrev pub IsWhole : Status → Type 0
IsWhole status = (status ≡ Ok) ⊎ (status ≡ Differs)

-- no frame of the image's log is damaged, and another schema than the plan's is in force at its end, which doesn't grow to it by the plan's defaults
abbrev pub IsOfOther : Planned → Image → Type 0
IsOfOther plan v = HasOtherSchema plan v × (damage_of (v 2) ≡ None)

-- The line that refuses a store says why: another schema at the end of a log without damage, or the first place where its log is damaged.
abbrev pub IsVerifyLine : Planned → Option Image → List ℕ → Type 0
IsVerifyLine plan now last =
    ((last ≡ schema_line) × ForSome now (IsOfOther plan))
    ⊎ ((place : ℕ) × (last ≡ damage_line (Some place)) × ForSome now (λ v. damage_of (v 2) ≡ Some place))

-- A refusal of the store comes only where it isn't ready, with such a line.
pub record IsVerifyRefusal (plan : Planned) (now : Option Image) (last : List ℕ) : Type 0 where
  pub unready : IsReadyVerify plan now → ⊥
  pub line : IsVerifyLine plan now last

-- The plan is legal, and its verify refused the store with this last line.
pub record RefusesVerify (plan : Option (List ℕ)) (now : Option Image) (last : List ℕ) : Type 0 where
  pub asks : Planned
  pub legal : IfSome plan (λ bytes. IsPlan bytes asks)
  pub refusal : IsVerifyRefusal asks now last

-- the last line of a status: at a refusal of the store one that says why
abbrev pub IsVerifyLast : Planned → Option Image → Status → List ℕ → Type 0
IsVerifyLast plan now status last = ((status ≡ Store) × IsVerifyLine plan now last) ⊎ (last ≡ last_line status)

-- the image's log is of another schema than the plan's, which doesn't grow to it by the plan's defaults, or a frame of it is damaged
abbrev pub IsRefusedStore : Planned → Image → Type 0
IsRefusedStore plan v = HasOtherSchema plan v ⊎ ((place : ℕ) × (damage_of (v 2) ≡ Some place))

-- the status says that a checkpoint isn't what the events give
abbrev pub is_differs : Status → Bool
is_differs Differs = true
is_differs other = false

-- the line of each slot was put, what its checkpoint is to the plan and the events; one of them is unfit or wrong exactly where this is true
abbrev pub SaysSlots : {plan : Planned} → {now : Option Image} → IsReadyVerify plan now → HostOutcome → Bool → Type 0
SaysSlots {plan} ready h differs = IsSaid (terms_for plan) ready.image ready.events h.puts differs

-- How a verify by that plan ended, a row a status: what was put over a store that is ready, and why it ended; want of memory alone has no cause.
-- All lines were put at Ok and at Differs, and then the store is none that is refused; a prefix of them where a put failed; and else none.
abbrev pub VerifyEnds : Planned → HostOutcome → List ℕ → Status → Type 0
VerifyEnds plan h last Ok = (last ≡ []) × ((ready : IsReadyVerify plan h.image) → SaysSlots ready h false) × ((v : Image) → h.image ≡ Some v → IsRefusedStore plan v → ⊥)
VerifyEnds plan h last Differs = (last ≡ []) × ((ready : IsReadyVerify plan h.image) → SaysSlots ready h true) × ((v : Image) → h.image ≡ Some v → IsRefusedStore plan v → ⊥)
VerifyEnds plan h last Store = h.puts [] × IsVerifyRefusal plan h.image last
VerifyEnds plan h last Disk = h.puts [] × h.disk_failed × (last ≡ last_line Disk)
VerifyEnds plan h last Memory = h.puts [] × (last ≡ last_line Memory)
VerifyEnds plan h last Write = ((ready : IsReadyVerify plan h.image) → IsCut (terms_for plan) ready.image ready.events h.puts) × h.put_failed × (last ≡ last_line Write)
VerifyEnds plan h last other = ⊥

-- How a verify by that plan went up to its last line.
pub record VerifiesStore (plan : Planned) (h : HostOutcome) (status : Status) (last : List ℕ) : Type 0 where
  pub ends : VerifyEnds plan h last status
  pub files : h.files_stay
  pub later : h.later

-- What a verify promises, of its plan and its host.
pub record VerifyPromises (plan : SourceOutcome) (h : HostOutcome) (status : Status) : Type 0 where
  -- Over a legal log: the line of each slot was put, what its checkpoint is to the plan and the events; the status is Differs exactly where one
  -- of them is unfit or wrong.
  pub verified : IsWhole status → (told : ToldVerify plan h) → SaysSlots told.ready h (is_differs status)
  -- Where a put failed, a prefix of these lines was put.
  pub verify_cut : status ≡ Write → (told : ToldVerify plan h) → IsCut (terms_for told.asks) told.ready.image told.ready.events h.puts
  -- At each other status nothing was put but the last line; so of a damaged log, or one of another schema, no line of a slot is put.
  pub verify_silent : (bytes : List ℕ) (asks : Planned) → plan.told ≡ Some bytes → IsPlan bytes asks → (IsWhole status → ⊥) → status ≢ Write →
      (last : List ℕ) × IsVerifyLast asks h.image status last × PutsLine last h
  -- Such a log is never one whose slots were held against it.
  pub verify_fit : IsWhole status → (bytes : List ℕ) (asks : Planned) (v : Image) → plan.told ≡ Some bytes → IsPlan bytes asks → h.image ≡ Some v → IsRefusedStore asks v → ⊥
  -- A store whose log is legal is never refused.
  pub verify_never : ToldVerify plan h → status ≢ Store
  -- By a legal plan, and where no read of it, no put and no call on a file failed, it puts its lines, or ends for want of memory, or with the
  -- store's refusal.
  pub completes_verify : (bytes : List ℕ) (asks : Planned) → plan.told ≡ Some bytes → IsPlan bytes asks → (plan.failed ⊎ h.put_failed ⊎ h.disk_failed → ⊥) → IsWhole status ⊎ (status ≡ Memory) ⊎ (status ≡ Store)
  -- Where the plan is refused, nothing is put but the last line, which says the fault.
  pub refused_plan : RefusesPlan plan h status
