-- What a run promises: what it puts, and what it does to the store.
use Rattle.std.specs.Prelude.{◌≡◌, ◌≢◌, ◌⊎◌, ℕ, ◌<◌, ◌≤◌, ◌^◌, List, [], ◌∷◌, ◌++◌, length, Option, Some}
use Rattle.std.specs.Option.{ForSome}
use Rattle.rg_bytes.specs.Known.{after, IsAtEnd}
use Rattle.rg_host.specs.Image.{Image}
use Rattle.rg_host.specs.Lines.{ended, lines_of}
use Rattle.rg_host.specs.Moments.{Moment, Moments}
use Rattle.rg_host.specs.Puts.{IsPrefix, StopsWith}
use Rattle.rg_host.specs.declared.host.Host.{Ghosts as HostMembers}
use Rattle.rg_event.specs.declared.event.Event.{Event}
use Rattle.rg_event.specs.Rising.{next_offset}
use Rattle.rg_config.specs.Plans.{Planned}
use Rattle.rg_run_spec.specs.Acknowledged.{SavesLast}
use Rattle.rg_run_spec.specs.Accepted.{events_after}
use Rattle.rg_run_spec.specs.Laws.{below}
use Rattle.rg_run_spec.specs.Output.{text_of_run, open_line, put_before, unstopped}
use Rattle.rg_run_spec.specs.Pieces.{whole_pieces}
use Rattle.rg_run_spec.specs.Stores.{HasAtLeast, IsNear, Promised, StaysOnCourseSince}
use Rattle.rg_open.specs.Stores.{store_of, Has, HasSaved, IsGrownTo}
use Rattle.rg_open.specs.Truth.{IsTruthfulImage}
use Rattle.rg_open.specs.Opening.{IsOpenable, IsFromIn}
use Rattle.rg_open.specs.Unfit.{IsUnfit, IsLeftAlone}
use Rattle.rg_open.specs.Within.{IsWithinOpening}
use Rattle.rg_task.specs.Terms.{terms_of}
use Rattle.rg_recover.specs.Ready.{IsReadyRun, IsReadyStore, begun_by, store_in}
use Rattle.rg_recover.specs.Answered.{HoldsLog}
use Rattle.rg_recover.specs.Ran.{IsUnopened}
use Rattle.rg_run.specs.Begun.{Begun, lines_in, course_for}
use Rattle.rg_run.specs.Turning.{HasStoppedIn}
use Rattle.rg_run.specs.UnderWay.{HasAnswered, HasFinishedIn}
use Rattle.rg_messages.specs.Statuses.{last_line}
use Rattle.rg_messages.specs.declared.refusal.Refusal.{Refusal}
use Rattle.rg_messages.specs.declared.status.Status.{Status}
use Rattle.rg_messages.specs.declared.status.Status.TheVariants.{Ok, Usage, Plan as BadPlan, Store, Read, Write, Limit, Memory, Gap, Differs}
use Rattle.rg_commands.specs.declared.command.Command.{Command}
use Rattle.rg_commands.specs.declared.command.Command.TheVariants.{Run}
use Rattle.rg_commands.specs.Plan.{IsPlan}
use Rattle.rg_commands.specs.Call.{damage_line, gap_line}
use Rattle.rg_commands.specs.Outcome.{SourceOutcome, HostOutcome, Outcome}
use Rattle.rg_commands.specs.Unread.{GoesBy}
use Rattle.rg_commands.specs.Texts.{RefusesPlan}
use Rattle.rg_commands.specs.TurnedAway.{EndsUnfit, EndsBehind, IsTurnedAway, IsBehind}

-- What a run is told: its plan, the bytes of its input, and a store that is ready for the plan.
pub record ToldRun (o : Outcome) : Type 0 where
  pub plan_bytes : List ℕ
  pub plan_is : o.plan.told ≡ Some plan_bytes
  pub asks : Planned
  pub says : IsPlan plan_bytes asks
  pub input_bytes : List ℕ
  pub input_is : o.input.told ≡ Some input_bytes
  pub ready : IsReadyRun asks o.host.image o.host.may o.host.said

-- What a run is told of its store: its plan, and a store that is ready for the plan, with the events of its log.
pub record ToldStore (o : Outcome) : Type 0 where
  pub plan_bytes : List ℕ
  pub plan_is : o.plan.told ≡ Some plan_bytes
  pub asks : Planned
  pub says : IsPlan plan_bytes asks
  pub store : IsReadyStore asks o.host.image o.host.may

-- so it is where all is told
abbrev pub told_store : {o : Outcome} → ToldRun o → ToldStore o
told_store told = record { plan_bytes = told.plan_bytes; plan_is = told.plan_is; asks = told.asks; says = told.says; store = store_in told.ready }

-- what a run begins with that goes on from a checkpoint of so many events, and whose first line has that offset
abbrev pub begun_in : {o : Outcome} → ToldRun o → ℕ → ℕ → Begun
begun_in told from first = begun_by told.ready from first told.input_bytes

-- the last line that a status puts of a run that began so
abbrev pub IsLastOf : Status → Begun → List ℕ → Type 0
IsLastOf Usage b last = ⊥
IsLastOf BadPlan b last = ⊥
IsLastOf Store b last = (place : ℕ) × (last ≡ damage_line (Some place))
IsLastOf Gap b last = last ≡ gap_line b.first (next_offset b.held)
IsLastOf Differs b last = ⊥
IsLastOf other b last = last ≡ last_line other

-- The run went on from the greatest count of a complete slot of the image with the plan's queries, or from 0 where there is none; or a
-- front of its last line was put and nothing else.
abbrev pub IsToldFrom : Planned → Image → Begun → List ℕ → Option (List ℕ) → Type 0
IsToldFrom plan v b last said = IsFromIn plan v b.from ⊎ ((part : List ℕ) × IsPrefix part last × (said ≡ Some (b.said ++ part)))

-- How a run went up to its last line, which is this, as is its status; `unread` says that its plan was not read, and `left` what is left of the
-- input. It began so over an image v.
pub record Went {H : Type 0} (g : HostMembers H) (plan : Planned) (b : Begun) (v : Image) (left : Option (List ℕ)) (unread : Type 0) (status : Status) (last : List ℕ) (old new : H) : Type 0 where
  pub is_from : IsFromIn plan v b.from ⊎ (g.said new ≡ g.said old)
  pub moments : Moments g.clock g.since old new (StaysOnCourseSince (store_of plan) (course_for plan b) (g.may old) [])
  pub finished : status ≡ Ok → HasFinishedIn (store_of plan) (course_for plan b) (g.may new) (g.said new)
  pub stopped : (status ≡ Ok → ⊥) → (status ≡ Write → ⊥) → HasStoppedIn (store_of plan) (course_for plan b) (g.may new) (g.said new) ⊎ IsUnopened g.may g.said plan b old new
  pub answered : (status ≡ Read) ⊎ (status ≡ Limit) → HasAnswered plan b left (g.said new) (status ≡ Limit) ⊎ (unread × (g.said new ≡ g.said old))
  pub last_is : IsLastOf status b last
  pub no_gap : status ≡ Ok → b.first ≤ next_offset b.held

-- How a run by that plan went up to its last line, whose first line has that offset: over a store that is ready, over one that no run of the plan
-- goes over, and where its input begins behind the store's end.
pub record RunsStore {H : Type 0} (g : HostMembers H) (first : ℕ) (plan : Planned) (input : SourceOutcome) (status : Status) (last : List ℕ) (old new : H) : Type 0 where
  pub went : (ready : IsReadyRun plan (g.now old) (g.may old) (g.said old)) (all : List ℕ) → input.told ≡ Some all → (from : ℕ) × Went g plan (begun_by ready from first all) ready.openable.image input.left ⊥ status last old new
  pub never_damaged : IsOpenable plan (g.now old) (g.may old) → status ≡ Store → ⊥
  pub behind : (store : IsReadyStore plan (g.now old) (g.may old)) (keep : Option ℕ) → next_offset store.held < first →
      input.stays × IsWithinOpening g.may g.clock g.since g.said plan keep store.openable.image old new × EndsBehind first (next_offset store.held) ⊥ status last
  pub unfit : (v : Image) → g.now old ≡ Some v → IsUnfit plan v → input.stays × IsLeftAlone g.now g.may g.clock g.since g.said v old new × EndsUnfit plan v ⊥ status last
  pub no_gap : status ≡ Ok → (v : Image) (events : List Event) → g.now old ≡ Some v → Has plan events v → first ≤ next_offset events
  pub gap : status ≡ Gap → (v : Image) (events : List Event) → g.now old ≡ Some v → Has plan events v → next_offset events < first
  pub log : (v : Image) (events : List Event) → g.now old ≡ Some v → Has plan events v → HoldsLog g.may g.clock g.since plan events old new
  pub at_end : status ≡ Ok → IsAtEnd input.left

-- nothing was done to the host, nor to the input
pub record IsIdle (host_stays input_stays : Type 0) : Type 0 where
  pub host : host_stays
  pub input : input_stays

-- How a run went that reads its plan.
abbrev pub RunsBy : {H : Type 0} → HostMembers H → ℕ → SourceOutcome → SourceOutcome → Status → List ℕ → Option Refusal → H → H → Type 0
RunsBy g first plan input status last told old new = GoesBy plan last told status (IsIdle (new ≡ old) input.stays) (λ asks. RunsStore g first asks input status last old new)

-- A run came to its end: all of its text was put, and each image that might be left is truthful and has just the events accepted, under the
-- plan's schema, which is in force at the log's end.
pub record IsComplete (plan : Planned) (b : Begun) (v : Image) (may : Image → Type 0) (said : Option (List ℕ)) : Type 0 where
  pub is_from : IsFromIn plan v b.from
  pub put : said ≡ Some (b.said ++ ended (text_of_run (terms_of plan) b.held b.from b.first (lines_in b)))
  pub truthful : (u : Image) → may u → IsTruthfulImage u
  pub has : (u : Image) → may u → Has plan (events_after (terms_of plan).basis b.held b.first (lines_in b)) u
  pub grown : (u : Image) → may u → IsGrownTo plan u

-- whole lines of the run's text were put, and then this last line
pub record EndsWhole (plan : Planned) (b : Begun) (last : List ℕ) (said : Option (List ℕ)) : Type 0 where
  pub put : List ℕ
  pub since : said ≡ Some (b.said ++ put)
  pub stops : StopsWith (course_for plan b).text last put

-- the same, where each line that LF ended within the bytes taken was answered
pub record EndsAnswered (plan : Planned) (b : Begun) (left : Option (List ℕ)) (last : List ℕ) (said : Option (List ℕ)) (limit : Type 0) : Type 0 where
  pub before : Option (List ℕ)
  pub answered : HasAnswered plan b left before limit
  pub put : ForSome before (λ s. said ≡ Some (s ++ last))

-- Of a moment: nothing of the run's text is put yet, and the image might have been left at the start; or the image has the events of at
-- most one line more than was answered.
pub record IsAtMostOneAhead (plan : Planned) (b : Begun) (start : Image → Type 0) (last : List ℕ) (m : Moment) : Type 0 where
  pub put : List ℕ
  pub since : m.said ≡ b.said ++ put
  pub events : (start m.image × IsPrefix put last) ⊎ ((es : List Event) × Has plan es m.image × IsNear (course_for plan b) (whole_pieces put) es)

-- Of a moment: what the last line says is saved is in some slot.
pub record HasLastSaved (plan : Planned) (b : Begun) (m : Moment) : Type 0 where
  pub put : List ℕ
  pub since : m.said ≡ b.said ++ put
  pub saved : (count : ℕ) → count < 2 ^ 64 → SavesLast (whole_pieces put) count → (slot : ℕ) × HasSaved plan slot count m.image

-- What was put behind the open line is what a run puts that is never stopped, but for what that puts for the lines below the store's next
-- offset.
pub record Resumes (plan : Planned) (b : Begun) (said : Option (List ℕ)) : Type 0 where
  pub lines : List (List ℕ)
  pub put : said ≡ Some (b.said ++ ended (open_line b.held b.from ∷ lines))
  pub rest : put_before (terms_of plan) [] 0 (lines_in b) (next_offset b.held) ++ lines ≡ unstopped (terms_of plan) (lines_in b)

-- What a run promises that goes by a plan and began so over a store that is ready, of its host: `v` is the image that reads gave, `left` what is
-- left of its input, and `last` the last line of its status. Nothing is said of where the plan and the input come from, nor of the words that ask
-- for it; `unread` says that the plan could not be read.
pub record RunsOn (plan : Planned) (b : Begun) (v : Image) (left : Option (List ℕ)) (unread : Type 0) (h : HostOutcome) (status : Status) (last : List ℕ) : Type 0 where
  pub is_last : IsLastOf status b last
  -- At status Ok all of its text was put out, and each image that might be left is truthful and has just the events that it accepts.
  pub complete_run : status ≡ Ok → IsComplete plan b v h.may_after h.said_after
  -- It went on from the greatest count of a complete slot of the image with the plan's queries, or nothing was put but a prefix of the last line.
  pub told_from : IsToldFrom plan v b last h.said_after
  -- At each moment, whatever the status, what was put and the image that a crash might leave are on its course.
  pub every_moment : h.moments (λ m. Promised (store_of plan) (course_for plan b) h.may last m.image m.said)
  -- Unless a put failed, what was put is whole lines of its text, and then the last line.
  pub last_line_run : EndsWhole plan b last h.said_after ⊎ h.put_failed
  -- No reply is lost: the store is at most one line ahead of those that were answered.
  pub no_reply_lost : h.moments (IsAtMostOneAhead plan b h.may last)
  -- What the last line of a checkpoint says is saved is in a slot.
  pub saved_kept : h.moments (HasLastSaved plan b)
  -- Where the input could not be read on, each line that LF ended was answered, and the last line follows, unless a put failed; where the plan
  -- could not be read, that line alone was put.
  pub replies_put : (status ≡ Read) ⊎ (status ≡ Limit) →
      (IsFromIn plan v b.from × EndsAnswered plan b left (last_line status) h.said_after (status ≡ Limit))
      ⊎ (unread × (h.said_after ≡ after h.said (last_line status)))
      ⊎ h.put_failed
  -- Over what an earlier run of the same input left it goes on with the text of one that is never stopped.
  pub resumes : status ≡ Ok → b.first ≡ 0 → b.held ≡ below (next_offset b.held) (events_after (terms_of plan).basis [] 0 (lines_in b)) → Resumes plan b h.said_after
  -- It goes on only where its first line is at most the store's next one.
  pub gap_always : status ≡ Ok → b.first ≤ next_offset b.held

-- Each image of a moment, and each that is left, might have been left at the start, or has these events, and maybe more behind them.
pub record KeepsLog (plan : Planned) (held : List Event) (h : HostOutcome) : Type 0 where
  pub moments : h.moments (λ m. h.may m.image ⊎ HasAtLeast (store_of plan) held m.image)
  pub left : (u : Image) → h.may_after u → h.may u ⊎ HasAtLeast (store_of plan) held u

-- over any log that is legal, whatever the slots hold and whatever the input and the output tell, the log's payments stay at each moment
abbrev pub LogStays : Outcome → Type 0
LogStays o = (bytes : List ℕ) (asks : Planned) (v : Image) (events : List Event) → o.plan.told ≡ Some bytes → IsPlan bytes asks → o.host.image ≡ Some v → Has asks events v → KeepsLog asks events o.host

-- What a run promises whose first line has that offset.
pub record RunPromises (first : ℕ) (o : Outcome) (status : Status) : Type 0 where
  -- Over a store that is ready it has a course, and keeps to it.
  pub ran : (told : ToldRun o) → (from : ℕ) × (last : List ℕ) × RunsOn told.asks (begun_in told from first) told.ready.openable.image o.input.left (o.input.stays × o.plan.failed) o.host status last
  -- Over any log that is legal, whatever the slots hold, the log's payments stay at each moment.
  pub log_stays : LogStays o
  -- At status Ok the input was read to its end.
  pub input_read : status ≡ Ok → IsAtEnd o.input.left
  -- Its first line is then at most the store's next one, over any legal log, whatever the slots have and whatever the input and the output tell.
  pub no_gap : status ≡ Ok → (bytes : List ℕ) (asks : Planned) (v : Image) (events : List Event) → o.plan.told ≡ Some bytes → IsPlan bytes asks → o.host.image ≡ Some v → Has asks events v → first ≤ next_offset events
  -- And it is refused for a gap only where its first line is behind that.
  pub gap_never : status ≡ Gap → (bytes : List ℕ) (asks : Planned) (v : Image) (events : List Event) → o.plan.told ≡ Some bytes → IsPlan bytes asks → o.host.image ≡ Some v → Has asks events v → next_offset events < first
  -- Over a store that is ready, whatever the input and the output tell: where its first line is behind that, nothing is read, answered or stored,
  -- and nothing is put but the last line.
  pub behind : (told : ToldStore o) (slot : ℕ) → next_offset told.store.held < first →
      o.input.stays × IsBehind told.asks told.store.held told.store.openable.image first slot o.plan.failed o.host status
  -- Over a store with a bad frame, or else of another schema that doesn't grow to the plan's by its defaults, it says which, and leaves the
  -- input and the files alone.
  pub store_always : (bytes : List ℕ) (asks : Planned) (v : Image) → o.plan.told ≡ Some bytes → IsPlan bytes asks → o.host.image ≡ Some v → IsUnfit asks v →
      o.input.stays × IsTurnedAway asks v o.plan.failed o.host status
  -- A store that is ready is never refused, whatever the input and the output tell.
  pub store_never : ToldStore o → status ≢ Store
  -- Where no count of faults rose, a run over a store that is ready ends well, or for want of memory, where its input isn't too long and begins
  -- early enough.
  pub completes_run : (told : ToldRun o) → length told.input_bytes ≤ 2 ^ 50 → first ≤ next_offset told.ready.held →
      (o.plan.failed ⊎ o.input.failed ⊎ o.host.put_failed ⊎ o.host.disk_failed → ⊥) → (status ≡ Ok) ⊎ (status ≡ Memory)
  -- Where it begins behind the store's next offset, it then says so, whatever the input and the output tell.
  pub completes_gap : (told : ToldStore o) → next_offset told.store.held < first → (o.plan.failed ⊎ o.host.disk_failed → ⊥) → (status ≡ Gap) ⊎ (status ≡ Memory)
  -- Over a store with a bad frame, or else of another schema that doesn't grow to the plan's by its defaults, it then says so.
  pub completes_store : (bytes : List ℕ) (asks : Planned) (v : Image) → o.plan.told ≡ Some bytes → IsPlan bytes asks → o.host.image ≡ Some v → IsUnfit asks v →
      (o.plan.failed ⊎ o.host.disk_failed → ⊥) → (status ≡ Store) ⊎ (status ≡ Memory)
  -- Where the plan is refused, nothing is put but the last line, which says the fault.
  pub refused_plan : RefusesPlan o.plan o.host status

-- The words name a run, whose first line has that offset, and it is told all: then P.
abbrev pub OfRun : Option Command → (o : Outcome) → ((o : Outcome) (first : ℕ) → ToldRun o → Type 0) → Type 0
OfRun command o P = (first : ℕ) → command ≡ Some (Run first) → (told : ToldRun o) → P o first told

-- all of its text was put out, and each image that might be left is truthful and has just the events that it accepts
abbrev pub CompleteRun : (o : Outcome) (first : ℕ) → ToldRun o → Type 0
CompleteRun o first told = (from : ℕ) × IsComplete told.asks (begun_in told from first) told.ready.openable.image o.host.may_after o.host.said_after

-- at each moment what was put and the image that a crash might leave are on the run's course
abbrev pub EveryMoment : Status → (o : Outcome) (first : ℕ) → ToldRun o → Type 0
EveryMoment status o first told = (from : ℕ) × (last : List ℕ) × IsLastOf status (begun_in told from first) last
    × IsToldFrom told.asks told.ready.openable.image (begun_in told from first) last o.host.said_after
    × o.host.moments (λ m. Promised (store_of told.asks) (course_for told.asks (begun_in told from first)) o.host.may last m.image m.said)

-- unless a put failed, what was put is whole lines of the run's text, and then the last line of the status
abbrev pub LastLineRun : Status → (o : Outcome) (first : ℕ) → ToldRun o → Type 0
LastLineRun status o first told = ((from : ℕ) × (last : List ℕ) × IsLastOf status (begun_in told from first) last
    × IsToldFrom told.asks told.ready.openable.image (begun_in told from first) last o.host.said_after
    × EndsWhole told.asks (begun_in told from first) last o.host.said_after) ⊎ o.host.put_failed

-- the store is at most one line ahead of those that were answered
abbrev pub NoReplyLost : Status → (o : Outcome) (first : ℕ) → ToldRun o → Type 0
NoReplyLost status o first told = (from : ℕ) × (last : List ℕ) × IsLastOf status (begun_in told from first) last
    × o.host.moments (IsAtMostOneAhead told.asks (begun_in told from first) o.host.may last)

-- what the last line of a checkpoint says is saved is in a slot
abbrev pub SavedKept : (o : Outcome) (first : ℕ) → ToldRun o → Type 0
SavedKept o first told = (from : ℕ) × o.host.moments (HasLastSaved told.asks (begun_in told from first))

-- each line that LF ended was answered, and the last line follows, unless a put failed; or a read of the plan failed, that line alone was put, and
-- the input was left alone
abbrev pub RepliesPut : Status → (o : Outcome) (first : ℕ) → ToldRun o → Type 0
RepliesPut status o first told =
    ((from : ℕ) × IsFromIn told.asks told.ready.openable.image from × EndsAnswered told.asks (begun_in told from first) o.input.left (last_line status) o.host.said_after (status ≡ Limit))
    ⊎ (o.input.stays × (o.host.said_after ≡ after o.host.said (last_line status)) × o.plan.failed)
    ⊎ o.host.put_failed

-- over what an earlier run of the same input left, the run goes on with the text of one that is never stopped
abbrev pub ResumesRun : (o : Outcome) (first : ℕ) → ToldRun o → Type 0
ResumesRun o first told = first ≡ 0 → told.ready.held ≡ below (next_offset told.ready.held) (events_after (terms_of told.asks).basis [] 0 (lines_of told.input_bytes)) →
    (from : ℕ) × Resumes told.asks (begun_in told from first) o.host.said_after

-- its first line is at most the store's next one
abbrev pub GapAlways : (o : Outcome) (first : ℕ) → ToldRun o → Type 0
GapAlways o first told = first ≤ next_offset told.ready.held

-- where its input isn't too long and begins early enough, and no count of faults rose, it ends well, or for want of memory
abbrev pub CompletesRun : Status → (o : Outcome) (first : ℕ) → ToldRun o → Type 0
CompletesRun status o first told = length told.input_bytes ≤ 2 ^ 50 → first ≤ next_offset told.ready.held →
    (o.plan.failed ⊎ o.input.failed ⊎ o.host.put_failed ⊎ o.host.disk_failed → ⊥) → (status ≡ Ok) ⊎ (status ≡ Memory)
