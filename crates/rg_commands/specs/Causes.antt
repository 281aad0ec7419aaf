-- Why a call ended, and what it left alone.
use Rattle.std.specs.Prelude.{◌≡◌, ◌⊎◌, ◌^◌, ◌<◌, ℕ, List, Option, Some, None, IfSome, ⊤}
use Rattle.std.specs.Option.{ForSome}
use Rattle.rg_event.specs.Rising.{next_offset}
use Rattle.rg_event.specs.declared.event.Event.{Event}
use Rattle.rg_host.specs.Image.{Image}
use Rattle.rg_config.specs.Plans.{Planned}
use Rattle.rg_reservoir.specs.Attached.{IsIllegalOpened}
use Rattle.rg_open.specs.Stores.{Has}
use Rattle.rg_open.specs.Blame.{IsBlamed}
use Rattle.rg_open.specs.Unfit.{HasOtherSchema, HasBadFrame}
use Rattle.rg_run.specs.Reading.{IsLonger, IsWithinLimit}
use Rattle.rg_messages.specs.declared.refusal.Refusal.{Refusal}
use Rattle.rg_messages.specs.declared.status.Status.{Status}
use Rattle.rg_messages.specs.declared.status.Status.TheVariants.{Ok, Usage, Plan as BadPlan, Store, Read, Write, Disk, Limit, Memory, Gap, Differs}
use Rattle.rg_commands.specs.declared.command.Command.{Command}
use Rattle.rg_commands.specs.declared.command.Command.TheVariants.{Run}
use Rattle.rg_commands.specs.Plan.{IsPlan}
use Rattle.rg_commands.specs.Call.{IsRun, IsReplay, IsVerify, ReadsPlan, ShowsStore, TellsFault, IsLegalPlan, TellsNoPlan, IsUndamaged, IsDamagedBy, damage_line, schema_line, state_line, gap_line}
use Rattle.rg_commands.specs.Outcome.{HostOutcome, Outcome}
use Rattle.rg_commands.specs.Texts.{Ended, EndsWith}
use Rattle.rg_commands.specs.Replays.{RefusesReplay}
use Rattle.rg_commands.specs.Verifies.{RefusesVerify}

-- the image's log isn't legal, for the plan's schema, for one that grows to it by the plan's defaults, or without a frame
abbrev pub HasNoEvents : Planned → Image → Type 0
HasNoEvents plan v = (events : List Event) → Has plan events v → ⊥

-- the image's log isn't legal, and the image, or the one that is left, says that its log is damaged there
abbrev pub IsDamagedAt : Planned → Option Image → Option Image → ℕ → Type 0
IsDamagedAt plan old new place = ForSome old (HasNoEvents plan) × (ForSome old (λ v. HasBadFrame plan place v) ⊎ ForSome old (λ u. ForSome new (λ v. IsIllegalOpened plan.shape plan.defaults (u 2) place (v 2))))

-- where the image's log is legal, and of the plan's schema, of one that grows to it by the plan's defaults, or without a frame, that node
-- isn't true in the checkpoint that is used
abbrev pub IsBadState : Planned → Option Image → ℕ → Type 0
IsBadState plan old node = ForSome old (λ v. (events : List Event) → Has plan events v → IsBlamed plan v events node)

-- The line that refuses a store says why: another schema that doesn't grow to the plan's, and then the input was left alone; a damaged
-- place; or a node whose rows, with the spots of its edges, don't stand for the events.
abbrev pub IsStoreLine : Planned → Option Image → Option Image → Type 0 → List ℕ → Type 0
IsStoreLine plan old new alone last =
    ((last ≡ schema_line) × ForSome old (λ v. HasOtherSchema plan v) × alone)
    ⊎ ((place : ℕ) × (last ≡ damage_line (Some place)) × IsDamagedAt plan old new place)
    ⊎ ((node : ℕ) × (last ≡ state_line node) × IsBadState plan old node)

-- The plan is legal, and its run refused the store with this last line.
pub record RefusesStore (plan : Option (List ℕ)) (old new : Option Image) (alone : Type 0) (last : List ℕ) : Type 0 where
  pub asks : Planned
  pub legal : IfSome plan (λ bytes. IsPlan bytes asks)
  pub line : IsStoreLine asks old new alone last

-- The next offset is the one behind all events of the log, where the image is told and its log is legal.
abbrev pub IsNextOf : Planned → Option Image → ℕ → Type 0
IsNextOf plan now next = (v : Image) (events : List Event) → now ≡ Some v → Has plan events v → next ≡ next_offset events

-- The plan is legal, and its run refused the input, whose first line has that offset, with this last line: the next offset is a smaller one.
pub record RefusesGap (plan : Option (List ℕ)) (old : Option Image) (first : ℕ) (alone : Type 0) (last : List ℕ) : Type 0 where
  pub asks : Planned
  pub legal : IfSome plan (λ bytes. IsPlan bytes asks)
  pub next : ℕ
  pub next_is : IsNextOf asks old next
  pub behind : next < first
  pub line : last ≡ gap_line first next
  pub left_alone : alone

-- What has to hold where a call ends with each status; want of memory alone has no cause.
pub record Causes : Type 1 where
  pub ok : Type 0
  pub usage : Type 0
  pub plan : Type 0
  pub store : Type 0
  pub gap : Type 0
  pub read : Type 0
  pub write : Type 0
  pub disk : Type 0
  pub limit : Type 0
  pub differs : Type 0

-- that of this status
abbrev pub cause : Causes → Status → Type 0
cause c Ok = c.ok
cause c Usage = c.usage
cause c BadPlan = c.plan
cause c Store = c.store
cause c Read = c.read
cause c Write = c.write
cause c Disk = c.disk
cause c Limit = c.limit
cause c Memory = ⊤
cause c Gap = c.gap
cause c Differs = c.differs

-- what a call that goes over the store by its plan had to be, that its plan is legal
abbrev pub GoesByPlan : Option Command → Option (List ℕ) → Type 0
GoesByPlan command plan = (IsRun command × IsLegalPlan plan) ⊎ (IsReplay command × IsLegalPlan plan) ⊎ (IsVerify command × IsLegalPlan plan)

-- Ok comes only where the plan is legal and the input within its limit, where they are read, and where the log that is shown isn't damaged
abbrev pub OkCause : Option Command → Outcome → Type 0
OkCause command o = (ReadsPlan command → IsLegalPlan o.plan.told) × (IsRun command → IsWithinLimit (2 ^ 50) o.input.told) × (ShowsStore command → IsUndamaged o.host.image)

-- Plan comes only where the plan is read, and is refused by a fault, which is told and which the last line says
abbrev pub PlanCause : Option Command → Outcome → List ℕ → Option Refusal → Type 0
PlanCause command o last told = ReadsPlan command × TellsFault o.plan.told last told

-- Store comes only where a log is shown that is damaged, or of a run, a replay or a verify under a legal plan that refuses the store, and the last
-- line says why
abbrev pub StoreCause : Option Command → Outcome → List ℕ → Type 0
StoreCause command o last =
    (ShowsStore command × IsDamagedBy o.host.image last)
    ⊎ (IsRun command × RefusesStore o.plan.told o.host.image o.host.image_after o.input.stays last)
    ⊎ (IsReplay command × RefusesReplay o.plan.told o.host.image o.host.may last)
    ⊎ (IsVerify command × RefusesVerify o.plan.told o.host.image last)

-- Gap comes only of a run whose input begins behind the store's next offset, which the last line says
abbrev pub GapCause : Option Command → Outcome → List ℕ → Type 0
GapCause command o last = (first : ℕ) × (command ≡ Some (Run first)) × RefusesGap o.plan.told o.host.image first o.input.stays last

-- Read comes only where a read of the plan failed, or of the input of a run by a legal plan
abbrev pub ReadCause : Option Command → Outcome → Type 0
ReadCause command o = o.plan.failed ⊎ (IsLegalPlan o.plan.told × IsRun command × o.input.failed)

-- Write comes only where a put failed, and the plan is legal where it is read
abbrev pub WriteCause : Option Command → Outcome → Type 0
WriteCause command o = (ReadsPlan command → IsLegalPlan o.plan.told) × o.host.put_failed

-- Disk comes only where a call on a file failed, of a command that shows the store, or goes over it by a legal plan
abbrev pub DiskCause : Option Command → Outcome → Type 0
DiskCause command o = (ShowsStore command ⊎ GoesByPlan command o.plan.told) × o.host.disk_failed

-- Limit comes only where the plan that is read is too long, or the input of a run by a legal plan
abbrev pub LimitCause : Option Command → Outcome → Type 0
LimitCause command o = (ReadsPlan command × IsLonger 65536 o.plan.told) ⊎ (IsLegalPlan o.plan.told × IsRun command × IsLonger (2 ^ 50) o.input.told)

-- Differs comes only of a verify by a legal plan
abbrev pub DiffersCause : Option Command → Outcome → Type 0
DiffersCause command o = IsVerify command × IsLegalPlan o.plan.told

-- the causes of a call, with this last line and this told of its plan
abbrev pub causes : Option Command → Outcome → List ℕ → Option Refusal → Causes
causes command o last told = record {
  ok = OkCause command o;
  usage = command ≡ None;
  plan = PlanCause command o last told;
  store = StoreCause command o last;
  gap = GapCause command o last;
  read = ReadCause command o;
  write = WriteCause command o;
  disk = DiskCause command o;
  limit = LimitCause command o;
  differs = DiffersCause command o;
}

-- What a call left alone.
pub record LeavesAlone (command : Option Command) (o : Outcome) (status : Status) : Type 0 where
  pub plan_unread : (ReadsPlan command → ⊥) → o.plan.stays
  pub input_unread : (IsRun command → ⊥) → o.input.stays
  pub plan_first : (status ≡ BadPlan) ⊎ TellsNoPlan o.plan.told → o.input.stays
  pub read_first : status ≡ Read → (o.input.stays × o.host.files_stay) ⊎ o.input.failed
  pub files_stay : (IsRun command → ⊥) ⊎ (status ≡ BadPlan) ⊎ TellsNoPlan o.plan.told → o.host.files_stay

-- Why a call ended that came to this status, up to its last line, and what it left alone.
pub record EndsFor (command : Option Command) (o : Outcome) (status : Status) (last : List ℕ) (told : Option Refusal) : Type 0 where
  pub why : cause (causes command o last told) status
  pub alone : LeavesAlone command o status
  pub later : o.host.later

-- What every call promises: its status has its cause, and what comes behind what failed was left alone.
pub record EveryCall (command : Option Command) (o : Outcome) (status : Status) (told : Option Refusal) : Type 0 where
  pub ended : Ended o.host status (λ last. cause (causes command o last told) status)
  pub alone : LeavesAlone command o status

-- the last line of a call was put, unless a put failed
abbrev pub IsPutLast : HostOutcome → List ℕ → Type 0
IsPutLast h last = EndsWith h.said_after last ⊎ h.put_failed

-- a call refused its plan, its store or its input for that cause, and its last line, which says so, was put, unless a put failed
abbrev pub PlanTold : Option Command → Outcome → Option Refusal → Type 0
PlanTold command o told = (last : List ℕ) × IsPutLast o.host last × PlanCause command o last told

abbrev pub StoreTold : Option Command → Outcome → Type 0
StoreTold command o = (last : List ℕ) × IsPutLast o.host last × StoreCause command o last

abbrev pub GapTold : Option Command → Outcome → Type 0
GapTold command o = (last : List ℕ) × IsPutLast o.host last × GapCause command o last
