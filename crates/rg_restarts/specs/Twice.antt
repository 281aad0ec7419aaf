-- Runs of one input over one store, one behind the other, where all but the last are stopped.
use Rattle.std.specs.Prelude.{◌≡◌, ◌⊎◌, ◌<◌, ◌≤◌, ◌^◌, ℕ, List, [], ◌∷◌, length, Option, Some, String}
use Rattle.std.specs.declared.alloc.Global.{Global}
use Rattle.rg_event.specs.declared.event.Event.{Event}
use Rattle.rg_event.specs.Rising.{next_offset}
use Rattle.rg_host.specs.Image.{Image, NothingPending}
use Rattle.rg_host.specs.Lines.{lines_of, ended}
use Rattle.rg_host.specs.Effects.{said_after}
use Rattle.rg_host.specs.MemHost.{Ledger, now_in, may_in, clock_in, since_in}
use Rattle.rg_host.specs.Moments.{Moment, Moments}
use Rattle.rg_config.specs.Plans.{Planned}
use Rattle.rg_run_spec.specs.Accepted.{events_after}
use Rattle.rg_run_spec.specs.Acknowledged.{HoldsStored}
use Rattle.rg_run_spec.specs.Laws.{IsPrefixOf, IsSuffixOf, below}
use Rattle.rg_run_spec.specs.Output.{open_line, unstopped}
use Rattle.rg_run_spec.specs.Stores.{Promised}
use Rattle.rg_open.specs.Stores.{Has, IsOfPlan, store_of}
use Rattle.rg_open.specs.Truth.{IsTruthfulImage}
use Rattle.rg_task.specs.Terms.{terms_of}
use Rattle.rg_recover.specs.Ready.{IsReadyRun, begun_by}
use Rattle.rg_run.specs.Begun.{course_for}
use Rattle.rg_commands.specs.Plan.{IsPlan}
use Rattle.rg_commands.specs.Call.{command_of}
use Rattle.rg_commands.specs.Runs.{IsLastOf, Resumes}
use Rattle.rg_commands.specs.declared.command.Command.TheVariants.{Run}
use Rattle.rg_messages.specs.declared.status.Status.{Status}
use Rattle.rg_messages.specs.declared.status.Status.TheVariants.{Ok, Write, Disk, Memory}

-- the events that a run of that plan accepts of this input over a store without events
abbrev pub accepted_of : Planned → List ℕ → List Event
accepted_of plan input = events_after (terms_of plan).basis [] 0 (lines_of input)

-- A store from which a run of that plan and input goes on: nothing of the log or of a slot is pending, the image is truthful, and its log
-- is of the plan's schema, of one that grows to it by the plan's defaults, or has no frame; its events for the plan are those accepted of
-- the input that lie below some offset, its next one.
pub record IsGoingOn (plan : Planned) (input : List ℕ) (now : Option Image) (may : Image → Type 0) : Type 0 where
  pub image : Image
  pub told : now ≡ Some image
  pub settled : (file : ℕ) → file < 3 → NothingPending file now may
  pub truthful : IsTruthfulImage image
  pub schema : IsOfPlan plan image
  pub held : List Event
  pub has : Has plan held image
  pub on_course : held ≡ below (next_offset held) (accepted_of plan input)

-- the words of a command
abbrev pub Words : Type 0
Words = List (String Global)

-- two plans accept the same events, whatever they ask: with the same schema, defaults, limit, header and grace
pub record AcceptsAlike (one two : Planned) : Type 0 where
  pub shape : one.shape ≡ two.shape
  pub defaults : one.defaults ≡ two.defaults
  pub most : one.settings.events ≡ two.settings.events
  pub header : one.settings.header ≡ two.settings.header
  pub grace : one.settings.grace ≡ two.settings.grace

-- What such runs are given: the words of a run whose first line has the offset 0, a legal plan, an input within its limit, and such a store.
pub record IsStartable (words : Words) (plan input : List ℕ) (host : Ledger) : Type 0 where
  pub names_run : command_of words ≡ Some (Run 0)
  pub asks : Planned
  pub says : IsPlan plan asks
  pub within : length input ≤ 2 ^ 50
  pub store : IsGoingOn asks input (now_in host) (may_in host)

-- the image's log has such events
pub record HasSuch (plan : Planned) (Such : List Event → Type 0) (u : Image) : Type 0 where
  pub events : List Event
  pub has : Has plan events u
  pub such : Such events

-- What runs that put these whole lines leave of a store that held those events: a truthful image with all of them and the first ones of
-- those accepted, among them each one that the lines say is stored.
pub record IsLeft (plan : Planned) (held accepted : List Event) (lines : List (List ℕ)) (u : Image) : Type 0 where
  pub truthful : IsTruthfulImage u
  pub schema : IsOfPlan plan u
  pub events : List Event
  pub has : Has plan events u
  pub keeps : IsPrefixOf held events
  pub begins : IsPrefixOf events accepted
  pub stored : HoldsStored lines accepted events

-- a crash may leave that image of the host as it stands, with all that was put
abbrev pub IsLastLeft : Ledger → Image → Type 0
IsLastLeft host v = since_in host (clock_in host) (record { image = v; said = said_after host.effects })

-- What was put is an open line, and then the last lines of what a run puts that is never stopped.
pub record PutsRest (plan : Planned) (input : List ℕ) (said : Option (List ℕ)) : Type 0 where
  pub held : List Event
  pub from : ℕ
  pub lines : List (List ℕ)
  pub put : said ≡ Some (ended (open_line held from ∷ lines))
  pub rest : IsSuffixOf lines (unstopped (terms_of plan) (lines_of input))

-- the status of a run whose store is sound and whose sources never fail: Ok or Memory, unless a put or a call on a file failed
abbrev pub EndsWell : Status → Type 0 → Type 0 → Type 0
EndsWell status put_failed disk_failed = (status ≡ Ok) ⊎ ((status ≡ Memory) ⊎ (((status ≡ Write) × put_failed) ⊎ ((status ≡ Disk) × disk_failed)))

-- the statuses with which a run may end whose store is sound and whose sources never fail
abbrev pub MayEnd : Status → Type 0
MayEnd status = (status ≡ Ok) ⊎ ((status ≡ Write) ⊎ ((status ≡ Disk) ⊎ (status ≡ Memory)))

module _ {H : Type 0} (now : H → Option Image) (may : H → Image → Type 0) (clock : H → ℕ) (since : H → ℕ → Moment → Type 0) (said : H → Option (List ℕ)) where
  -- What a run did over a store that is ready, whose first line has the offset 0. It began so over the host `old`, and left `new`.
  pub record HasRun (plan : Planned) (input : List ℕ) (status : Status) (old new : H) (ready : IsReadyRun plan (now old) (may old) (said old)) : Type 0 where
    pub from : ℕ
    pub last : List ℕ
    pub last_is : IsLastOf status (begun_by ready from 0 input) last
    pub moments : Moments clock since old new (λ m. Promised (store_of plan) (course_for plan (begun_by ready from 0 input)) (may old) last m.image m.said)
    pub complete : status ≡ Ok → (u : Image) → may new u → Has plan (events_after (terms_of plan).basis ready.held 0 (lines_of input)) u
    pub resumes : status ≡ Ok → ready.held ≡ below (next_offset ready.held) (accepted_of plan input) → (begins : ℕ) × Resumes plan (begun_by ready begins 0 input) (said new)

  -- it did so if the store was ready
  pub record Runs (plan : Planned) (input : List ℕ) (status : Status) (old new : H) : Type 0 where
    pub has_run : (ready : IsReadyRun plan (now old) (may old) (said old)) → HasRun plan input status old new ready
