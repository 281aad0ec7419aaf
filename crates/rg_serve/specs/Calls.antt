-- What the calls within a request do with a task.
use Rattle.std.specs.Prelude.{◌≡◌, ◌⊎◌, ℕ, ◌<◌, ◌≤◌, ◌^◌, ◌==◌, true, false, ⊤, List, [], ◌∷◌, ◌++◌, length, Some, OnOk, OnErr, IfErr, IsErrOf, Result}
use Rattle.rg_bytes.specs.Counts.{Rose}
use Rattle.rg_host.specs.Moments.{Moments}
use Rattle.rg_config.specs.Plans.{Planned}
use Rattle.rg_pipe.specs.declared.request.Request.{Request}
use Rattle.rg_pipe.specs.declared.request.Request.TheVariants as request
use Rattle.std.specs.List.{list_any}
use Rattle.rg_pipe.specs.Handing.{Given}
use Rattle.rg_task.specs.View.{View}
use Rattle.rg_reply.specs.declared.reply.Reply.{Reply as TheReply}
use Rattle.rg_reply.specs.declared.reply.Reply.TheVariants.{Done}
use Rattle.rg_run_spec.specs.declared.control.Control.{Control}
use Rattle.rg_run_spec.specs.Verdicts.{Basis, control_at}
use Rattle.rg_run.specs.Due.{due_for}
use Rattle.rg_run.specs.Logs.{KeepsLog}
use Rattle.rg_run.specs.Turning.{IsRefused, IsDueDone}
use Rattle.rg_run.specs.declared.due.Due.TheVariants.{Nothing}
use Rattle.rg_run.specs.declared.due.Due.{Due}
use Rattle.rg_run.specs.declared.fault.TurnFault.{TurnFault}
use Rattle.rg_run.specs.declared.fault.TurnFault.TheVariants as turn
use Rattle.rg_task.specs.declared.fault.TaskFault.TheVariants as task
use Rattle.rg_serve_spec.specs.Frames.{Reply, text_of, framed}
use Rattle.rg_serve_spec.specs.Errands.{Errand, StaysOnErrand}
use Rattle.rg_serve.specs.Serving.{IsHeld, IsWithin, IsAwaiting, HasHalted, HasServed}

-- A text was gathered in a frame, or want of memory gathered nothing.
pub record GathersText {A : Type 0} (text gathered gathered_then : List ℕ) (result : Result A TurnFault) : Type 0 where
  pub all : OnOk result (gathered_then ≡ gathered ++ framed text)
  pub small : OnOk result (length text < 2 ^ 32)
  pub none : OnErr result (gathered_then ≡ gathered)
  pub fault : IfErr result (λ fault. fault ≡ turn.Task task.Memory)

-- That of a reply was.
abbrev pub Gathers : {A : Type 0} → Reply → List ℕ → List ℕ → Result A TurnFault → Type 0
Gathers reply gathered gathered_then result = GathersText (text_of reply) gathered gathered_then result

-- The line of a request brings no event, and this is its reply once this was done.
abbrev pub IsDecided : Basis → ℕ → List ℕ → TheReply → Due → Type 0
IsDecided basis offset item reply due =
    (IsRefused basis offset (Some item) reply × (due ≡ Nothing))
    ⊎ ((control : Control) × (control_at basis offset (Some item) ≡ Some control) × (reply ≡ Done) × (due ≡ due_for control))

-- A line that is handed out can be taken: its offset is below 2^62, and its text has no LF.
abbrev pub IsFit : Request → Type 0
IsFit (request.Line offset text) = (offset < 2 ^ 62) × (list_any (λ byte. byte == 10) text.now ≡ false)
IsFit (request.Again offset) = ⊤
IsFit (request.Gap offset expected) = ⊤
IsFit request.Commit = ⊤
IsFit request.Save = ⊤

-- It comes at the task's next offset or behind it.
abbrev pub IsDue : Request → ℕ → Type 0
IsDue (request.Line offset text) next = next ≤ offset
IsDue (request.Again offset) next = ⊤
IsDue (request.Gap offset expected) next = ⊤
IsDue request.Commit next = ⊤
IsDue request.Save next = ⊤

module _ {K : Type 0} (view : View K) (disk_faults out_faults : K → ℕ) where
  -- What a call leaves of a task in any state. Where it is answered, a task that runs still does, a node that can be carried on still can,
  -- edges stay at spelled spots, and one that has not ended has not ended then; a legal log keeps what it has; and no count of failed calls
  -- falls. `says` tells a fault of the task as the call does. A put that failed was counted, and so was a call on a file; a task says that
  -- it has ended where it has; none that runs, and no node that can be carried on, is told a bad state; and damage is told where it is.
  pub record Carries {A F : Type 0} (says : TurnFault → F) (result : Result A F) (old new : K) : Type 0 where
    pub running : (plan : Planned) → view.runs plan old → OnOk result (view.runs plan new)
    pub node : (plan : Planned) (n : ℕ) → view.node plan n old → OnOk result (view.node plan n new)
    pub placed : (plan : Planned) → view.placed plan old → OnOk result (view.placed plan new)
    pub going : (view.at old).ended ≡ false → OnOk result ((view.at new).ended ≡ false)
    pub goes : view.goes old new
    pub log : (plan : Planned) → KeepsLog view plan old new
    pub disk_faults_grow : disk_faults old ≤ disk_faults new
    pub out_faults_grow : out_faults old ≤ out_faults new
    pub write : IsErrOf result (says turn.Write) → Rose (out_faults old) (out_faults new)
    pub disk : IsErrOf result (says (turn.Task task.Disk)) → Rose (disk_faults old) (disk_faults new)
    pub ended : IsErrOf result (says (turn.Task task.Ended)) → (view.at old).ended ≡ true
    pub bad : (plan : Planned) (n : ℕ) → view.runs plan old ⊎ view.node plan n old → IsErrOf result (says (turn.Task (task.BadState n))) → ⊥
    pub undamaged : (plan : Planned) (p : ℕ) → view.placed plan old → IsErrOf result (says (turn.Task (task.Damaged p))) → ⊥
    pub damaged : (p : ℕ) → IsErrOf result (says (turn.Task (task.Damaged p))) → view.illegal p new

module _ {K : Type 0} (view : View K) where
  -- What is gathered is put, or a put failed.
  pub record Flushes {A : Type 0} (gathered gathered_then : List ℕ) (result : Result A TurnFault) (old new : K) : Type 0 where
    pub moments : (plan : Planned) (e : Errand) (replies : List Reply) → IsWithin view plan e replies old gathered → Moments view.clock view.since old new (StaysOnErrand (view.store plan) e [])
    pub within : (plan : Planned) (e : Errand) (replies : List Reply) → IsWithin view plan e replies old gathered → OnOk result (IsWithin view plan e replies new gathered_then)

  -- Replies that are held are put, or a put failed: then the serve stopped with whole replies put.
  pub record StopsHeld (result : TurnFault) (gathered : List ℕ) (old new : K) : Type 0 where
    pub moments : (plan : Planned) (e : Errand) → IsHeld view plan e old gathered → Moments view.clock view.since old new (StaysOnErrand (view.store plan) e [])
    pub halted : (plan : Planned) (e : Errand) → IsHeld view plan e old gathered → (result ≡ turn.Write) ⊎ HasHalted view plan e new

  -- What is due is done within a request, once all that is gathered is put; or the serve stopped with whole replies put.
  pub record Settles {A : Type 0} (due : Due) (gathered gathered_then : List ℕ) (result : Result A TurnFault) (old new : K) : Type 0 where
    pub moments : (plan : Planned) (e : Errand) (replies : List Reply) → IsWithin view plan e replies old gathered → Moments view.clock view.since old new (StaysOnErrand (view.store plan) e [])
    pub within : (plan : Planned) (e : Errand) (replies : List Reply) → IsWithin view plan e replies old gathered → OnOk result (IsWithin view plan e replies new gathered_then)
    pub halted : (plan : Planned) (e : Errand) (replies : List Reply) → IsWithin view plan e replies old gathered → IfErr result (λ fault. (fault ≡ turn.Write) ⊎ HasHalted view plan e new)
    pub events : (plan : Planned) → view.runs plan old → OnOk result ((view.at new).events ≡ (view.at old).events)
    pub done : (plan : Planned) → view.runs plan old → OnOk result (IsDueDone view due plan new)

  -- Chunks may have been loaded ahead: no event and no file changed; or the serve stopped with whole replies put.
  pub record Loads {A : Type 0} (gathered gathered_then : List ℕ) (result : Result A TurnFault) (old new : K) : Type 0 where
    pub moments : (plan : Planned) (e : Errand) (replies : List Reply) → IsWithin view plan e replies old gathered → Moments view.clock view.since old new (StaysOnErrand (view.store plan) e [])
    pub within : (plan : Planned) (e : Errand) (replies : List Reply) → IsWithin view plan e replies old gathered → OnOk result (IsWithin view plan e replies new gathered_then)
    pub halted : (plan : Planned) (e : Errand) (replies : List Reply) → IsWithin view plan e replies old gathered → IfErr result (λ fault. (fault ≡ turn.Write) ⊎ HasHalted view plan e new)
    pub events : OnOk result ((view.at new).events ≡ (view.at old).events)
    pub next_stays : (view.at new).next ≡ (view.at old).next

  -- The next request is answered by its one reply, or the serve stopped with whole replies put, unless a put failed.
  pub record Answers {A : Type 0} (plan : Planned) (given : Given) (gathered gathered_then : List ℕ) (result : Result A TurnFault) (old new : K) : Type 0 where
    pub moments : (e : Errand) (ahead : List Given) → IsAwaiting view plan e (given ∷ ahead) old gathered → Moments view.clock view.since old new (StaysOnErrand (view.store plan) e [])
    pub awaits : (e : Errand) (ahead : List Given) → IsAwaiting view plan e (given ∷ ahead) old gathered → OnOk result (IsAwaiting view plan e ahead new gathered_then)
    pub halted : (e : Errand) (ahead : List Given) → IsAwaiting view plan e (given ∷ ahead) old gathered → IfErr result (λ fault. (fault ≡ turn.Write) ⊎ HasHalted view plan e new)

  -- The input has ended where the next line would have this offset: all events are stored and saved, and all replies were put; or the serve
  -- stopped with whole replies put, unless a put failed.
  pub record Finishes {A : Type 0} (plan : Planned) (offset : ℕ) (gathered : List ℕ) (result : Result A TurnFault) (old new : K) : Type 0 where
    pub moments : (e : Errand) → e.offset ≡ offset → IsAwaiting view plan e [] old gathered → Moments view.clock view.since old new (StaysOnErrand (view.store plan) e [])
    pub served : (e : Errand) → e.offset ≡ offset → IsAwaiting view plan e [] old gathered → OnOk result (HasServed view plan e new)
    pub halted : (e : Errand) → e.offset ≡ offset → IsAwaiting view plan e [] old gathered → IfErr result (λ fault. (fault ≡ turn.Write) ⊎ HasHalted view plan e new)
