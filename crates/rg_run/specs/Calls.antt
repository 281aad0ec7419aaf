-- What the calls within a turn do with a task.
use Rattle.std.specs.Prelude.{◌≡◌, ◌⊎◌, ◌≤◌, ℕ, List, [], true, false, Option, OnOk, IfErr, IsErrOf, Result}
use Rattle.rg_bytes.specs.Counts.{Rose}
use Rattle.rg_host.specs.Moments.{Moments, LeavesFiles}
use Rattle.rg_host.specs.Puts.{IsPrefix, Puts}
use Rattle.rg_config.specs.Plans.{Planned}
use Rattle.rg_run_spec.specs.Stores.{Course, StaysOnCourse}
use Rattle.rg_task.specs.View.{View, Keeps}
use Rattle.rg_task.specs.declared.fault.TaskFault.TheVariants as task
use Rattle.rg_run.specs.Turning.{IsAwaiting, IsMidTurn, IsHeld, HasStopped, HasWay, IsDueDone}
use Rattle.rg_run.specs.Logs.{KeepsLog}
use Rattle.rg_run.specs.declared.due.Due.{Due}
use Rattle.rg_run.specs.declared.due.Due.TheVariants.{Nothing}
use Rattle.rg_run.specs.declared.fault.TurnFault.{TurnFault}
use Rattle.rg_run.specs.declared.fault.TurnFault.TheVariants as turn

-- Of a task in any state.

module _ {K : Type 0} (view : View K) where
  -- All of these bytes are put, or at a fault a prefix of them, and no file is touched.
  pub record PutsAll {A F : Type 0} (bytes : List ℕ) (result : Result A F) (old new : K) : Type 0 where
    pub all : OnOk result (Puts view.said view.clock view.since old new bytes)
    pub part : (part : List ℕ) × IsPrefix part bytes × Puts view.said view.clock view.since old new part
    pub leaves : LeavesFiles view.now view.may view.clock view.since old new

module _ {K : Type 0} (view : View K) (disk_faults out_faults : K → ℕ) where
  -- Nothing of the task changes but what is put, and how often that failed.
  pub record OnlyPuts (old new : K) : Type 0 where
    pub keeps : Keeps view old new
    pub files : LeavesFiles view.now view.may view.clock view.since old new
    pub disk_faults_stay : disk_faults new ≡ disk_faults old
    pub out_faults_grow : out_faults old ≤ out_faults new

  -- The task goes on: a node that can be carried on is carried on, edges stay at spelled spots, one that has not ended has not ended
  -- then, a legal log keeps what it has, and no count of failed calls falls.
  pub record Sustains {A : Type 0} (result : Result A TurnFault) (old new : K) : Type 0 where
    pub node : (plan : Planned) (n : ℕ) → view.node plan n old → OnOk result (view.node plan n new)
    pub placed : (plan : Planned) → view.placed plan old → OnOk result (view.placed plan new)
    pub going : (view.at old).ended ≡ false → OnOk result ((view.at new).ended ≡ false)
    pub goes : view.goes old new
    pub log : (plan : Planned) → KeepsLog view plan old new
    pub disk_faults_grow : disk_faults old ≤ disk_faults new
    pub out_faults_grow : out_faults old ≤ out_faults new

  -- A put that failed was counted, and so was a call on a file; and a task says that it has ended where it has.
  pub record HasCause {A : Type 0} (result : Result A TurnFault) (old new : K) : Type 0 where
    pub write : IsErrOf result turn.Write → Rose (out_faults old) (out_faults new)
    pub disk : IsErrOf result (turn.Task task.Disk) → Rose (disk_faults old) (disk_faults new)
    pub ended : IsErrOf result (turn.Task task.Ended) → (view.at old).ended ≡ true

module _ {K : Type 0} (view : View K) where
  -- What is called damaged is damaged, and nothing is where each edge stands at a spelled spot.
  pub record FindsDamage {A : Type 0} (result : Result A TurnFault) (old new : K) : Type 0 where
    pub damaged : (p : ℕ) → IsErrOf result (turn.Task (task.Damaged p)) → view.illegal p new
    pub undamaged : (plan : Planned) (p : ℕ) → view.placed plan old → IsErrOf result (turn.Task (task.Damaged p)) → ⊥

-- Of a task on the course of a run.

module _ {K : Type 0} (view : View K) where
  -- Lines that are held are put, or a put failed: at each moment the run is on its course, and then it stopped with whole lines put.
  pub record StopsHeld (result : TurnFault) (gathered : List ℕ) (old new : K) : Type 0 where
    pub moments : (plan : Planned) (course : Course) → IsHeld view plan course old gathered →
        Moments view.clock view.since old new (StaysOnCourse (view.store plan) course [])
    pub stopped : (plan : Planned) (course : Course) → IsHeld view plan course old gathered → (result ≡ turn.Write) ⊎ HasStopped view plan course new

  -- Between two lines: the run still awaits the same lines, and the next event has room or nothing is gathered.
  pub record MakesWay {A : Type 0} (gathered gathered_then : List ℕ) (result : Result A TurnFault) (old new : K) : Type 0 where
    pub moments : (plan : Planned) (course : Course) (offset : ℕ) (items : List (Option (List ℕ))) → IsAwaiting view plan course offset items old gathered →
        Moments view.clock view.since old new (StaysOnCourse (view.store plan) course [])
    pub awaits : (plan : Planned) (course : Course) (offset : ℕ) (items : List (Option (List ℕ))) → IsAwaiting view plan course offset items old gathered →
        OnOk result (IsAwaiting view plan course offset items new gathered_then)
    pub way : OnOk result (HasWay view new gathered_then)

  -- Between two lines: the run still awaits the same lines after the same events, or it stopped with whole lines put.
  pub record Loads {A : Type 0} (gathered gathered_then : List ℕ) (result : Result A TurnFault) (old new : K) : Type 0 where
    pub moments : (plan : Planned) (course : Course) (offset : ℕ) (items : List (Option (List ℕ))) → IsAwaiting view plan course offset items old gathered →
        Moments view.clock view.since old new (StaysOnCourse (view.store plan) course [])
    pub awaits : (plan : Planned) (course : Course) (offset : ℕ) (items : List (Option (List ℕ))) → IsAwaiting view plan course offset items old gathered →
        OnOk result (IsAwaiting view plan course offset items new gathered_then)
    pub events : (plan : Planned) (course : Course) (offset : ℕ) (items : List (Option (List ℕ))) → IsAwaiting view plan course offset items old gathered →
        OnOk result ((view.at new).events ≡ (view.at old).events)
    pub stopped : (plan : Planned) (course : Course) (offset : ℕ) (items : List (Option (List ℕ))) → IsAwaiting view plan course offset items old gathered →
        IfErr result (λ fault. (fault ≡ turn.Write) ⊎ HasStopped view plan course new)
    pub next_stays : (view.at new).next ≡ (view.at old).next

  -- Within a turn that began at any state: what is due is done, and no line of the turn is gathered yet; or the run stopped with whole
  -- lines put, unless a put failed. Where nothing is due, nothing is done.
  pub record Settles {A : Type 0} (due : Due) (gathered gathered_then : List ℕ) (result : Result A TurnFault) (old new : K) : Type 0 where
    pub moments : (plan : Planned) (course : Course) (offset : ℕ) (item : Option (List ℕ)) (items : List (Option (List ℕ))) (start : K) →
        IsMidTurn view plan course offset item items start old gathered → Moments view.clock view.since old new (StaysOnCourse (view.store plan) course [])
    pub stopped : (plan : Planned) (course : Course) (offset : ℕ) (item : Option (List ℕ)) (items : List (Option (List ℕ))) (start : K) →
        IsMidTurn view plan course offset item items start old gathered → IfErr result (λ fault. (fault ≡ turn.Write) ⊎ HasStopped view plan course new)
    pub mid_turn : (plan : Planned) (course : Course) (offset : ℕ) (item : Option (List ℕ)) (items : List (Option (List ℕ))) (start : K) →
        IsMidTurn view plan course offset item items start old gathered → OnOk result (IsMidTurn view plan course offset item items start new gathered_then)
    pub done : (plan : Planned) → view.runs plan old → OnOk result (IsDueDone view due plan new)
    pub idle : due ≡ Nothing → (new ≡ old) × (gathered_then ≡ gathered) × IfErr result (λ _. ⊥)
