-- A line that was handed out and answered by a task in any state.
use Rattle.std.proofs.Common.{◌≡◌, ◌⊎◌, ℕ, ◌+◌, ◌≤◌, ◌^◌, Bool, true, false, Option, List, Result, Ok, Err, refl, ap, sym, ◌∙◌, subst, arith}
use Rattle.std.specs.Prelude.{OnOk, IfErr, IsErrOf}
use Rattle.std.proofs.lemmas.Result.{on_ok_weaker}
use Rattle.rg_bytes.specs.Counts.{Rose}
use Rattle.rg_host.specs.Reading.{Reading}
use Rattle.rg_config.specs.Plans.{Planned}
use Rattle.rg_task.specs.declared.fault.TaskFault.TheVariants as task
use Rattle.rg_task.specs.State.{State}
use Rattle.rg_task.specs.View.{View, Keeps}
use Rattle.rg_run.specs.Answered.{CountsGrow}
use Rattle.rg_run.specs.Faults.{of_turn, of_line, of_end}
use Rattle.rg_run.specs.Reading.{HasTaken}
use Rattle.rg_run.specs.Turned.{MoreOr, CarriesOn, IsReadOut, TakesOn, StopsFor}
use Rattle.rg_run.specs.declared.fault.RunFault.{RunFault}
use Rattle.rg_run.specs.declared.fault.TurnFault.{TurnFault}
use Rattle.rg_run.specs.declared.fault.TurnFault.TheVariants as turn
use Rattle.rg_run.proofs.Called.{told_never}
use Rattle.rg_run.proofs.Causes.{EndsBy, end_others}
use Rattle.rg_run.proofs.Taking.{Item, TakesLine}
use Rattle.rg_run.proofs.Turned.{more, no_more, why_none, why_turn}

module _ {K : Type 0} (view : View K) (disk_faults out_faults : K → ℕ) where
  -- The line was answered, or it wasn't for a cause: the fault of a node or of an edge that was bad before, or one that was counted.
  pub record Handles {A : Type 0} (plan : Planned) (offset offset_then : ℕ) (result : Result A TurnFault) (old new : K) : Type 0 where
    pub node : (n : ℕ) → view.node plan n old → OnOk result (view.node plan n new)
    pub placed : view.placed plan old → OnOk result (view.placed plan new)
    pub going : OnOk result ((view.at new).ended ≡ false)
    pub offset_is : OnOk result (offset_then ≡ offset + 1)
    pub bad : (n : ℕ) → view.node plan n old → IsErrOf result (turn.Task (task.BadState n)) → ⊥
    pub undamaged : (p : ℕ) → view.placed plan old → IsErrOf result (turn.Task (task.Damaged p)) → ⊥
    pub damaged : (p : ℕ) → IsErrOf result (turn.Task (task.Damaged p)) → view.illegal p new
    pub write : IsErrOf result turn.Write → Rose (out_faults old) (out_faults new)
    pub disk : IsErrOf result (turn.Task task.Disk) → Rose (disk_faults old) (disk_faults new)
    pub goes : view.goes old new
    pub disk_faults_grow : disk_faults old ≤ disk_faults new
    pub out_faults_grow : out_faults old ≤ out_faults new

  -- a line that was refused before the task saw it
  pub refused_handles : {A : Type 0} (plan : Planned) (offset offset_then : ℕ) (result : Result A TurnFault) (old new : K) → Keeps view old new → (view.at old).ended ≡ false → OnOk result (offset_then ≡ offset + 1)
      → IfErr result (λ f. (f ≡ turn.Write) ⊎ (f ≡ turn.Task task.Memory)) → (IsErrOf result turn.Write → Rose (out_faults old) (out_faults new)) → disk_faults new ≡ disk_faults old → out_faults old ≤ out_faults new
      → Handles plan offset offset_then result old new
  refused_handles plan offset offset_then result old new keeps going moved faults write disk_faults_stay grow = record {
    node = λ n runs. on_ok_weaker result (λ _. keeps.node plan n runs) moved;
    placed = λ placed. on_ok_weaker result (λ _. keeps.placed plan placed) moved;
    going = on_ok_weaker result (λ _. ap (λ (x : State). x.ended) keeps.at_stays ∙ going) moved;
    offset_is = moved;
    bad = λ n runs is. told_never result faults (turn.Task (task.BadState n)) (λ e. cc) (λ e. cc) is;
    undamaged = λ p placed is. told_never result faults (turn.Task (task.Damaged p)) (λ e. cc) (λ e. cc) is;
    damaged = λ p is. absurd (told_never result faults (turn.Task (task.Damaged p)) (λ e. cc) (λ e. cc) is);
    write = write;
    disk = λ is. absurd (told_never result faults (turn.Task task.Disk) (λ e. cc) (λ e. cc) is);
    goes = keeps.goes;
    disk_faults_grow = omega (arith, disk_faults_stay);
    out_faults_grow = grow;
  }

module _ {K I A : Type 0} (view : View K) (disk_faults out_faults : K → ℕ) (left : I → Option (List ℕ)) (faults : I → ℕ) (plan : Planned) (offset offset_then : ℕ) (reading reading_then : Reading) (input input_then : I) (old new : K) where
  takes_by : (result : Result A TurnFault) → Handles view disk_faults out_faults plan offset offset_then result old new → (item : Item) → TakesLine reading reading_then (left input) (left input_then) item → offset ≤ 2 ^ 61 + reading.spent
      → ((start : Option (List ℕ)) → HasTaken start (left input) reading → HasTaken start (left input_then) reading_then) → faults input ≤ faults input_then
      → TakesOn view disk_faults out_faults left faults (MoreOr (CarriesOn view plan offset_then reading.spent reading_then.spent old new) (IsReadOut reading_then)) reading reading_then (of_line result) input input_then old new
  takes_by (Ok a) h item takes counted taken later = record {
    done = more (record {
      node = h.node;
      placed = h.placed;
      counted = omega (arith, takes.spent, h.offset_is, counted);
      within = (takes.spent, takes.within);
      going = h.going;
    });
    taken = taken;
    counts = record { goes = h.goes; later = later; disk_faults_grow = h.disk_faults_grow; out_faults_grow = h.out_faults_grow };
  }
  takes_by (Err fault) h item takes counted taken later = record {
    done = tt;
    taken = taken;
    counts = record { goes = h.goes; later = later; disk_faults_grow = h.disk_faults_grow; out_faults_grow = h.out_faults_grow };
  }

  -- what was taken of the input
  pub line_takes : (result : Result A TurnFault) → Handles view disk_faults out_faults plan offset offset_then result old new → (item : Item) → TakesLine reading reading_then (left input) (left input_then) item → offset ≤ 2 ^ 61 + reading.spent
      → ((start : Option (List ℕ)) → HasTaken start (left input) reading → HasTaken start (left input_then) reading_then) → faults input ≤ faults input_then
      → (ran : Result Bool RunFault) → ran ≡ of_line result
      → TakesOn view disk_faults out_faults left faults (MoreOr (CarriesOn view plan offset_then reading.spent reading_then.spent old new) (IsReadOut reading_then)) reading reading_then ran input input_then old new
  line_takes result h item takes counted taken later ran ran_is =
      subst (λ (r : Result Bool RunFault). TakesOn view disk_faults out_faults left faults (MoreOr (CarriesOn view plan offset_then reading.spent reading_then.spent old new) (IsReadOut reading_then)) reading reading_then r input input_then old new)
      (sym ran_is) (takes_by result h item takes counted taken later)

module _ {K I A : Type 0} (view : View K) (disk_faults out_faults : K → ℕ) (faults : I → ℕ) (plan : Planned) (offset offset_then : ℕ) (input input_then : I) (old new : K) where
  cause_by : (taken : ℕ) (result : Result A TurnFault) → Handles view disk_faults out_faults plan offset offset_then result old new → StopsFor view disk_faults out_faults faults plan taken (of_line result) input input_then old new
  cause_by taken (Ok a) h = why_none view disk_faults out_faults faults plan taken input input_then old new true
  cause_by taken (Err fault) h =
      why_turn view disk_faults out_faults faults plan taken input input_then old new fault (of_turn fault) refl
      (λ n runs is. h.bad n runs (ap (λ f. Err f) is))
      (λ p placed is. h.undamaged p placed (ap (λ f. Err f) is))
      (λ p is. h.damaged p (ap (λ f. Err f) is))
      (λ is. h.write (ap (λ f. Err f) is))
      (λ is. h.disk (ap (λ f. Err f) is))

  -- why it was not answered
  pub line_cause : (taken : ℕ) (result : Result A TurnFault) → Handles view disk_faults out_faults plan offset offset_then result old new → (ran : Result Bool RunFault) → ran ≡ of_line result → StopsFor view disk_faults out_faults faults plan taken ran input input_then old new
  line_cause taken result h ran ran_is = subst (λ (r : Result Bool RunFault). StopsFor view disk_faults out_faults faults plan taken r input input_then old new) (sym ran_is) (cause_by taken result h)

-- The end that was handed out, and answered by a task in any state.
module _ {K I A : Type 0} (view : View K) (disk_faults out_faults : K → ℕ) (left : I → Option (List ℕ)) (faults : I → ℕ) (On : Type 0) (reading reading_then : Reading) (input input_then : I) (old new : K) where
  end_takes_by : (result : Result A TurnFault) → IsReadOut reading_then → ((start : Option (List ℕ)) → HasTaken start (left input) reading → HasTaken start (left input_then) reading_then) → CountsGrow view disk_faults out_faults faults input input_then old new
      → TakesOn view disk_faults out_faults left faults (MoreOr On (IsReadOut reading_then)) reading reading_then (of_end result) input input_then old new
  end_takes_by (Ok a) out taken counts = record { done = no_more out; taken = taken; counts = counts }
  end_takes_by (Err fault) out taken counts = record { done = tt; taken = taken; counts = counts }

  -- what was taken of the input
  pub end_takes : (result : Result A TurnFault) → IsReadOut reading_then → ((start : Option (List ℕ)) → HasTaken start (left input) reading → HasTaken start (left input_then) reading_then) → CountsGrow view disk_faults out_faults faults input input_then old new
      → (ran : Result Bool RunFault) → ran ≡ of_end result
      → TakesOn view disk_faults out_faults left faults (MoreOr On (IsReadOut reading_then)) reading reading_then ran input input_then old new
  end_takes result out taken counts ran ran_is =
      subst (λ (r : Result Bool RunFault). TakesOn view disk_faults out_faults left faults (MoreOr On (IsReadOut reading_then)) reading reading_then r input input_then old new)
      (sym ran_is) (end_takes_by result out taken counts)

module _ {K I A : Type 0} (view : View K) (disk_faults out_faults : K → ℕ) (faults : I → ℕ) (plan : Planned) (taken : ℕ) (input input_then : I) (old new : K) where
  end_cause_by : (result : Result A TurnFault) → IfErr result EndsBy → (IsErrOf result turn.Write → Rose (out_faults old) (out_faults new)) → (IsErrOf result (turn.Task task.Disk) → Rose (disk_faults old) (disk_faults new))
      → StopsFor view disk_faults out_faults faults plan taken (of_end result) input input_then old new
  end_cause_by (Ok a) ends write disk = why_none view disk_faults out_faults faults plan taken input input_then old new false
  end_cause_by (Err fault) ends write disk =
      let not = end_others fault ends in
      why_turn view disk_faults out_faults faults plan taken input input_then old new fault (of_turn fault) refl
      (λ n runs is. not.0 n is)
      (λ p placed is. not.1 p is)
      (λ p is. absurd (not.1 p is))
      (λ is. write (ap (λ f. Err f) is))
      (λ is. disk (ap (λ f. Err f) is))

  -- why the run did not finish
  pub end_cause : (result : Result A TurnFault) → IfErr result EndsBy → (IsErrOf result turn.Write → Rose (out_faults old) (out_faults new)) → (IsErrOf result (turn.Task task.Disk) → Rose (disk_faults old) (disk_faults new))
      → (ran : Result Bool RunFault) → ran ≡ of_end result → StopsFor view disk_faults out_faults faults plan taken ran input input_then old new
  end_cause result ends write disk ran ran_is = subst (λ (r : Result Bool RunFault). StopsFor view disk_faults out_faults faults plan taken r input input_then old new) (sym ran_is) (end_cause_by result ends write disk)
