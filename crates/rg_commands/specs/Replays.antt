-- What a replay promises: what it puts, and why it ends.
use Rattle.std.specs.Prelude.{◌≡◌, ◌≢◌, ◌⊎◌, ℕ, List, [], Option, Some, IfSome}
use Rattle.std.specs.Option.{ForSome}
use Rattle.rg_event.specs.declared.event.Event.{Event}
use Rattle.rg_config.specs.Plans.{Planned}
use Rattle.rg_frame.specs.Frames.{HasPayloads}
use Rattle.rg_host.specs.Image.{Image, NothingPending}
use Rattle.rg_host.specs.Lines.{ended}
use Rattle.rg_explain.specs.Stops.{StopsAt}
use Rattle.rg_log.specs.Log.{HasEvents}
use Rattle.rg_reservoir.specs.Attached.{IsOther, IsIllegalSince}
use Rattle.rg_open.specs.Unfit.{HasBadFrame}
use Rattle.rg_replay.specs.Playing.{IsLegalThrough}
use Rattle.rg_replay.specs.Replay.{replay_text}
use Rattle.rg_replay.specs.Runs.{text_of_left}
use Rattle.rg_replay.specs.declared.fault.ReplayFault.{ReplayFault}
use Rattle.rg_replay.specs.declared.fault.ReplayFault.TheVariants as replay
use Rattle.rg_run.specs.Begun.{Begun, course_for, lines_in}
use Rattle.rg_task.specs.Terms.{terms_of}
use Rattle.rg_messages.specs.Statuses.{last_line}
use Rattle.rg_messages.specs.declared.status.Status.{Status}
use Rattle.rg_messages.specs.declared.status.Status.TheVariants.{Ok, Store, Write, Disk, Memory}
use Rattle.rg_commands.specs.Plan.{IsPlan}
use Rattle.rg_commands.specs.Call.{damage_line, schema_line, state_line, Fails, SaysLine}
use Rattle.rg_commands.specs.Outcome.{SourceOutcome, HostOutcome}
use Rattle.rg_commands.specs.Texts.{PutsUpTo, PutsText, PutsLine, EndsWith, RefusesPlan}

-- The host tells its image, whose log is legal, of the plan's schema or without a frame, and has these events; nothing of it is pending. A replay
-- writes nothing, so a log whose schema only grows to the plan's isn't ready.
pub record IsReadyReplay (plan : Planned) (now : Option Image) (may : Image → Type 0) : Type 0 where
  pub image : Image
  pub told : now ≡ Some image
  pub settled : NothingPending 2 now may
  pub events : List Event
  pub has : HasEvents plan.shape events (image 2)

-- What a replay is told: its plan, and a store that is ready for it.
pub record ToldReplay (plan : SourceOutcome) (h : HostOutcome) : Type 0 where
  pub plan_bytes : List ℕ
  pub plan_is : plan.told ≡ Some plan_bytes
  pub asks : Planned
  pub says : IsPlan plan_bytes asks
  pub ready : IsReadyReplay asks h.image h.may

-- the lines of a replay from that offset on, with the last one, which says the next offset and how many events there are
abbrev pub text_of_replay : {plan : SourceOutcome} → {h : HostOutcome} → ToldReplay plan h → ℕ → List (List ℕ)
text_of_replay told first = replay_text told.asks.queries first told.ready.events

-- the status and the last line of a replay that ended at this fault
abbrev pub EndsReplay : ReplayFault → Status → List ℕ → Type 0
EndsReplay replay.Disk status last = Fails Disk status last
EndsReplay (replay.Damaged place) status last = SaysLine Store (damage_line (Some place)) status last
EndsReplay replay.SchemaDiffers status last = SaysLine Store schema_line status last
EndsReplay (replay.BadState node) status last = SaysLine Store (state_line node) status last
EndsReplay replay.Memory status last = Fails Memory status last
EndsReplay replay.Write status last = Fails Write status last

-- no replay of the plan goes over the image: another schema than the plan's is in force at the log's end, be it one that grows to it, or a frame is bad
abbrev pub IsUnreplayable : Planned → Image → Type 0
IsUnreplayable plan v = IsOther plan.shape (v 2) ⊎ ((place : ℕ) × HasBadFrame plan place v)

-- The log has no frame; or its heads and growths are whole, the plan's schema is in force at its end, and none of the chunks that the heads count is illegal.
abbrev pub IsWholeLog : Planned → Image → Type 0
IsWholeLog plan v = HasPayloads [] (v 2) ⊎ IsLegalThrough plan.shape (v 2)

-- The plan is legal, and the log is whole for it.
pub record ReplaysWhole (plan : Option (List ℕ)) (now : Option Image) : Type 0 where
  pub asks : Planned
  pub legal : IfSome plan (λ bytes. IsPlan bytes asks)
  pub whole : ForSome now (IsWholeLog asks)

-- The line that refuses a store says why: another schema; a damaged place; or a node whose rows don't stand for the events.
abbrev pub IsReplayLine : Planned → Option Image → List ℕ → Type 0
IsReplayLine plan now last =
    ((last ≡ schema_line) × ForSome now (λ v. IsOther plan.shape (v 2)))
    ⊎ ((place : ℕ) × (last ≡ damage_line (Some place)) × (ForSome now (HasBadFrame plan place) ⊎ ForSome now (λ v. IsIllegalSince plan.shape (v 2) place (v 2))))
    ⊎ ((node : ℕ) × (last ≡ state_line node))

-- A refusal of the store comes only where it isn't ready, with such a line.
pub record IsReplayRefusal (plan : Planned) (now : Option Image) (may : Image → Type 0) (last : List ℕ) : Type 0 where
  pub unready : IsReadyReplay plan now may → ⊥
  pub line : IsReplayLine plan now last

-- The plan is legal, and its replay refused the store with this last line.
pub record RefusesReplay (plan : Option (List ℕ)) (now : Option Image) (may : Image → Type 0) (last : List ℕ) : Type 0 where
  pub asks : Planned
  pub legal : IfSome plan (λ bytes. IsPlan bytes asks)
  pub refusal : IsReplayRefusal asks now may last

-- Why a replay of that plan ended, a row a status; want of memory alone has no cause, and `ok` is what has to hold where it came to its end.
abbrev pub ReplayEnds : Type 0 → Planned → HostOutcome → List ℕ → Status → Type 0
ReplayEnds ok plan h last Ok = ok
ReplayEnds ok plan h last Store = IsReplayRefusal plan h.image h.may last
ReplayEnds ok plan h last Disk = h.disk_failed × (last ≡ last_line Disk)
ReplayEnds ok plan h last Memory = last ≡ last_line Memory
ReplayEnds ok plan h last Write = h.put_failed × (last ≡ last_line Write)
ReplayEnds ok plan h last other = ⊥

-- How a replay by that plan went up to its last line: over a store that is ready, over one that isn't fit, and where it ended well; and why it ended.
pub record ReplaysStore (first : ℕ) (plan : Planned) (h : HostOutcome) (status : Status) (last : List ℕ) : Type 0 where
  pub put : (ready : IsReadyReplay plan h.image h.may) → PutsUpTo (replay_text plan.queries first ready.events) h status
  pub unfit : (v : Image) → h.image ≡ Some v → IsUnreplayable plan v → (status ≡ Ok → ⊥) × h.puts []
  pub whole : status ≡ Ok → ForSome h.image (IsWholeLog plan)
  pub why : ReplayEnds (last ≡ []) plan h last status
  pub files : h.files_stay
  pub later : h.later

-- Nothing was put but the last line, whole unless a put failed: that of the status, or at a refusal of the store one that says why.
pub record PutsRefusal (plan : Planned) (h : HostOutcome) (status : Status) : Type 0 where
  pub not_ok : status ≡ Ok → ⊥
  pub last : List ℕ
  pub says : ((status ≡ Store) × IsReplayLine plan h.image last) ⊎ (last ≡ last_line status)
  pub line : PutsLine last h

-- What a replay promises whose least offset is this, of its plan and its host.
pub record ReplayPromises (first : ℕ) (plan : SourceOutcome) (h : HostOutcome) (status : Status) : Type 0 where
  -- Over a store that is ready: at status Ok just its text was put out, each answer by the events up to and with its own.
  pub replayed : status ≡ Ok → (told : ToldReplay plan h) → h.puts (ended (text_of_replay told first))
  -- Of what a run of the same plan left after the first lines of its input, which are all of them where it came to its end: at status Ok the
  -- lines of what its store held before, then the line that the run puts for each payment that it accepts, byte by byte but with `ok` for a
  -- moved one, and the last line.
  pub same_as_run : status ≡ Ok → (told : ToldReplay plan h) (ran : Begun) (count : ℕ) → told.ready.events ≡ (course_for told.asks ran).events count →
      h.puts (ended (text_of_left first (terms_of told.asks) ran.held ran.first (lines_in ran) count))
  -- At each status a prefix of that text was put out, or whole lines of it and then a prefix of the status's last line; unless a put failed,
  -- that line is whole.
  pub replay_put : (told : ToldReplay plan h) → PutsText (text_of_replay told first) (last_line status) h status
  -- Over a store with a frame that its heads and growths show to be bad, or else of another schema, be it one that grows to the plan's, nothing
  -- was put but the last line, which says why.
  pub replay_refused : (bytes : List ℕ) (asks : Planned) (v : Image) → plan.told ≡ Some bytes → IsPlan bytes asks → h.image ≡ Some v → IsUnreplayable asks v → PutsRefusal asks h status
  -- It ends well only over a whole log: never where a chunk that it had to read is illegal.
  pub whole : status ≡ Ok → ReplaysWhole plan.told h.image
  -- A replay that refuses the store names the cause in its last line, which was put unless a put failed: another schema, a bad frame, a chunk with a bad
  -- inside, or a node whose rows don't stand for the events; and the store isn't ready then.
  pub refused_of : status ≡ Store → (last : List ℕ) × (EndsWith h.said_after last ⊎ h.put_failed) × RefusesReplay plan.told h.image h.may last
  -- A store that is ready is never refused.
  pub replay_never : ToldReplay plan h → status ≢ Store
  -- By a legal plan, and where no read of it, no put and no call on a file failed, it ends well, for want of memory, or with the store's refusal.
  pub completes_replay : (bytes : List ℕ) (asks : Planned) → plan.told ≡ Some bytes → IsPlan bytes asks → (plan.failed ⊎ h.put_failed ⊎ h.disk_failed → ⊥) → (status ≡ Ok) ⊎ (status ≡ Memory) ⊎ (status ≡ Store)
  -- Where the plan is refused, nothing is put but the last line, which says the fault.
  pub refused_plan : RefusesPlan plan h status
