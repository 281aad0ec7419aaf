-- How the requests of an input were answered.
use Rattle.std.specs.Prelude.{◌≡◌, ◌⊎◌, ◌≤◌, ◌^◌, ℕ, List, [], Option, Some, Result, Ok, Err, OnOk, IfErr, IsErrOf, ⊤}
use Rattle.rg_bytes.specs.Counts.{Rose}
use Rattle.rg_bytes.specs.Known.{IsAtEnd}
use Rattle.rg_event.specs.Rising.{next_offset}
use Rattle.rg_host.specs.Moments.{Moments}
use Rattle.rg_config.specs.Plans.{Planned}
use Rattle.rg_pipe.specs.Sent.{Sent}
use Rattle.rg_pipe.specs.Streams.{IsStream}
use Rattle.rg_task.specs.View.{View}
use Rattle.rg_task.specs.declared.fault.TaskFault.TheVariants as task
use Rattle.rg_run.specs.Logs.{KeepsLog}
use Rattle.rg_run.specs.Reading.{IsLonger, IsWithinLimit}
use Rattle.rg_run.specs.declared.fault.TurnFault.TheVariants as turn
use Rattle.rg_serve_spec.specs.Errands.{Errand, StaysOnErrand}
use Rattle.rg_serve.specs.Serving.{IsToOpen, HasServed}
use Rattle.rg_serve.specs.Coming.{ComesTo}
use Rattle.rg_serve.specs.UnderWay.{IsAskedFor, HasEnded}
use Rattle.rg_serve.specs.declared.fault.ServeFault.{ServeFault}
use Rattle.rg_serve.specs.declared.fault.ServeFault.TheVariants.{Turn, Read, Limit}

-- At the end there is no rest of the stream behind its requests; and there is one at a Frame, which says its place.
abbrev pub ComesOut : {A : Type 0} → List Sent → List ℕ → Result A ServeFault → Type 0
ComesOut requests rest (Ok done) = rest ≡ []
ComesOut requests rest (Err fault) = ComesTo requests rest ⊤ (Err fault)

module _ {K : Type 0} (view : View K) where
  -- A store was opened for a serve, and nothing is read or put yet: the input's bytes are those of these requests, and a rest that begins none.
  pub record IsToServe (plan : Planned) (e : Errand) (requests : List Sent) (rest : List ℕ) (left : Option (List ℕ)) (from : ℕ) (t : K) : Type 0 where
    pub opens : IsToOpen view plan e from t
    pub asked : IsAskedFor e requests
    -- which each log's events meet: none has an offset of 2^62
    pub small : next_offset e.held ≤ 2 ^ 62
    pub input : List ℕ
    pub comes : left ≡ Some input
    pub stream : IsStream requests rest input

  -- A serve of these requests: at each moment the store keeps all that whole frames say, and is at most one request ahead of them; at its
  -- end all replies were put, and all events are stored; and where it stopped, no reply to a request that was answered was lost, unless a
  -- put failed.
  pub record ServesTrue {A : Type 0} (plan : Planned) (e : Errand) (requests : List Sent) (rest : List ℕ) (left : Option (List ℕ)) (result : Result A ServeFault) (old new : K) : Type 0 where
    pub moments : Moments view.clock view.since old new (StaysOnErrand (view.store plan) e [])
    pub served : OnOk result (HasServed view plan e new)
    pub ended : IfErr result (HasEnded view plan e requests rest left new)

module _ {K I : Type 0} (view : View K) (disk_faults out_faults : K → ℕ) (left : I → Option (List ℕ)) (faults : I → ℕ) where
  -- Over any opened store each refusal has its cause, and at the end the whole input was read: it is whole requests, and a Frame comes
  -- just where it is not.
  pub record Explains {A : Type 0} (plan : Planned) (result : Result A ServeFault) (input input_then : I) (old new : K) : Type 0 where
    pub frame : (requests : List Sent) (rest bytes : List ℕ) → left input ≡ Some bytes → IsStream requests rest bytes → ComesOut requests rest result
    pub at_end : OnOk result (IsAtEnd (left input_then))
    pub within : OnOk result (IsWithinLimit (2 ^ 50) (left input))
    pub read : IsErrOf result Read → Rose (faults input) (faults input_then)
    pub limit : IsErrOf result Limit → IsLonger (2 ^ 50) (left input)
    pub write : IsErrOf result (Turn turn.Write) → Rose (out_faults old) (out_faults new)
    pub disk : IsErrOf result (Turn (turn.Task task.Disk)) → Rose (disk_faults old) (disk_faults new)
    pub ended : IsErrOf result (Turn (turn.Task task.Ended)) → ⊥
    pub bad : (n : ℕ) → view.runs plan old ⊎ view.node plan n old → IsErrOf result (Turn (turn.Task (task.BadState n))) → ⊥
    pub undamaged : (p : ℕ) → view.placed plan old → IsErrOf result (Turn (turn.Task (task.Damaged p))) → ⊥
    pub damaged : (p : ℕ) → IsErrOf result (Turn (turn.Task (task.Damaged p))) → view.illegal p new

  -- The task is still one of the same store, and no count of failed calls fell.
  pub record CountsGrow (input input_then : I) (old new : K) : Type 0 where
    pub goes : view.goes old new
    pub later : faults input ≤ faults input_then
    pub disk_faults_grow : disk_faults old ≤ disk_faults new
    pub out_faults_grow : out_faults old ≤ out_faults new

  -- a count of failed calls rose, of the input, of the files or of the output
  abbrev pub Failed : I → I → K → K → Type 0
  Failed input input_then old new = Rose (faults input) (faults input_then) ⊎ (Rose (disk_faults old) (disk_faults new) ⊎ Rose (out_faults old) (out_faults new))

  -- What a serve promises that goes on from a checkpoint of so many events.
  pub record Serves {A : Type 0} (plan : Planned) (from : ℕ) (result : Result A ServeFault) (input input_then : I) (old new : K) : Type 0 where
    -- at each moment it is on its errand; at its end all was answered, stored and put; and where it stopped, no reply was lost
    pub told : (e : Errand) (requests : List Sent) (rest : List ℕ) → IsToServe view plan e requests rest (left input) from old → ServesTrue view plan e requests rest (left input_then) result old new
    -- where no call failed, an input of whole requests that isn't too long is answered to its end, or memory ran out
    pub completes : (e : Errand) (requests : List Sent) → IsToServe view plan e requests [] (left input) from old → IsWithinLimit (2 ^ 50) (left input) → (Failed input input_then old new → ⊥) → IfErr result (λ fault. fault ≡ Turn (turn.Task task.Memory))
    -- each refusal has its cause
    pub cause : Explains plan result input input_then old new
    -- over a legal log, whatever the slots hold, its payments stay at each moment
    pub log_stays : KeepsLog view plan old new
    pub counts : CountsGrow input input_then old new
