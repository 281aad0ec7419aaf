-- What a call within a turn leaves of a task.
use Rattle.std.proofs.Common.{◌≡◌, ◌⊎◌, inl, inr, ℕ, List, [], Result, Ok, Err, Bool, true, false, refl, sym, ◌∙◌, subst, arith}
use Rattle.std.specs.Prelude.{OnOk, IfErr, IsErrOf}
use Rattle.rg_bytes.specs.Counts.{Rose}
use Rattle.rg_host.specs.Moments.{Moments}
use Rattle.rg_config.specs.Plans.{Planned}
use Rattle.rg_run_spec.specs.Stores.{Course, StaysOnCourse}
use Rattle.rg_run_spec.proofs.Laws.{Item}
use Rattle.rg_task.specs.View.{View, OnlyNow, Sinks}
use Rattle.rg_task.specs.declared.fault.TaskFault.{TaskFault}
use Rattle.rg_task.specs.declared.fault.TaskFault.TheVariants as task
use Rattle.rg_run.specs.Calls.{PutsAll, OnlyPuts, Sustains, HasCause, FindsDamage}
use Rattle.rg_run.specs.Turning.{IsAwaiting}
use Rattle.rg_run.specs.declared.fault.TurnFault.{TurnFault}
use Rattle.rg_run.specs.declared.fault.TurnFault.TheVariants as turn
use Rattle.rg_run.proofs.Logged.{no_files, files_held}
use Rattle.rg_run.proofs.Gathering.{awaiting_held, awaiting_put, held_moments, keeps_none}

-- a result that is answered is no fault, and a refusal is of one
pub ok_turn : {A : Type 0} (a : A) (e : TurnFault) → IsErrOf (Ok a) e → ⊥
ok_turn {A} a e is = absurd (let same : ◌≡◌ {A = Result A TurnFault} (Ok a) (Err e) = is in cc)

pub turn_is : {A : Type 0} (f e : TurnFault) → IsErrOf {T = A} (Err f) e → f ≡ e
turn_is {A} f e is = let same : ◌≡◌ {A = Result A TurnFault} (Err f) (Err e) = is in cc

-- a put, or the writing before it, fails for no other cause
pub told_never : {A : Type 0} (r : Result A TurnFault) → IfErr r (λ f. (f ≡ turn.Write) ⊎ (f ≡ turn.Task task.Memory)) → (e : TurnFault) → (turn.Write ≡ e → ⊥) → (turn.Task task.Memory ≡ e → ⊥) → IsErrOf r e → ⊥
told_never (Ok a) which e write memory is = ok_turn a e is
told_never (Err f) (inl told) e write memory is = write (sym told ∙ turn_is f e is)
told_never (Err f) (inr told) e write memory is = memory (sym told ∙ turn_is f e is)

-- what has ended, and would not have ended else, had ended before
pub ended_before : (old new : Bool) → (old ≡ false → new ≡ false) → new ≡ true → old ≡ true
ended_before true new going ended = refl
ended_before false new going ended = absurd (let e : true ≡ false = sym ended ∙ going refl in cc)

module _ {K : Type 0} (view : View K) (disk_faults out_faults : K → ℕ) where
  -- nothing was done
  pub only_none : OnlyNow view → Sinks view → (t : K) → OnlyPuts view disk_faults out_faults t t
  only_none only sinks t = record { keeps = keeps_none view t; files = no_files view only sinks t; disk_faults_stay = refl; out_faults_grow = omega arith }

  pub sustains_none : {A : Type 0} (a : A) → OnlyNow view → Sinks view → (t : K) → Sustains view disk_faults out_faults (Ok a) t t
  sustains_none a only sinks t = record {
    node = λ plan n runs. runs;
    placed = λ plan placed. placed;
    going = λ going. going;
    goes = view.goes_same t;
    log = λ plan held placed holds. files_held view plan held t t (no_files view only sinks t) holds;
    disk_faults_grow = omega arith;
    out_faults_grow = omega arith;
  }

  pub cause_none : {A : Type 0} (a : A) (old new : K) → HasCause view disk_faults out_faults (Ok a) old new
  cause_none a old new = record {
    write = λ is. absurd (ok_turn a turn.Write is);
    disk = λ is. absurd (ok_turn a (turn.Task task.Disk) is);
    ended = λ is. absurd (ok_turn a (turn.Task task.Ended) is);
  }

  -- a put failed
  pub sustains_unput : {A : Type 0} (fault : TurnFault) (old new : K) → OnlyPuts view disk_faults out_faults old new → Sustains view disk_faults out_faults {A = A} (Err fault) old new
  sustains_unput fault old new only = record {
    node = λ plan n runs. tt;
    placed = λ plan placed. tt;
    going = λ going. tt;
    goes = only.keeps.goes;
    log = λ plan held placed holds. files_held view plan held old new only.files holds;
    disk_faults_grow = omega (arith, only.disk_faults_stay);
    out_faults_grow = only.out_faults_grow;
  }

  pub cause_unput : {A : Type 0} (fault : TurnFault) (old new : K) → fault ≡ turn.Write → Rose (out_faults old) (out_faults new) → HasCause view disk_faults out_faults {A = A} (Err fault) old new
  cause_unput fault old new write rose = record {
    write = λ is. rose;
    disk = λ is. absurd (let e : ◌≡◌ {A = TurnFault} turn.Write (turn.Task task.Disk) = sym write ∙ turn_is fault (turn.Task task.Disk) is in cc);
    ended = λ is. absurd (let e : ◌≡◌ {A = TurnFault} turn.Write (turn.Task task.Ended) = sym write ∙ turn_is fault (turn.Task task.Ended) is in cc);
  }

  -- a call on the task was refused, after what was gathered was put
  pub cause_task : {A : Type 0} (fault : TaskFault) (old new : K) → (fault ≡ task.Disk → Rose (disk_faults old) (disk_faults new)) → (fault ≡ task.Ended → (view.at old).ended ≡ true) → HasCause view disk_faults out_faults {A = A} (Err (turn.Task fault)) old new
  cause_task fault old new disk ended = record {
    write = λ is. absurd (let e : ◌≡◌ {A = TurnFault} (turn.Task fault) turn.Write = turn_is (turn.Task fault) turn.Write is in cc);
    disk = λ is. disk (let e : ◌≡◌ {A = TurnFault} (turn.Task fault) (turn.Task task.Disk) = turn_is (turn.Task fault) (turn.Task task.Disk) is in cc);
    ended = λ is. ended (let e : ◌≡◌ {A = TurnFault} (turn.Task fault) (turn.Task task.Ended) = turn_is (turn.Task fault) (turn.Task task.Ended) is in cc);
  }

module _ {K : Type 0} (view : View K) where
  pub damage_none : {A : Type 0} (a : A) (old new : K) → FindsDamage view (Ok a) old new
  damage_none a old new = record {
    damaged = λ p is. absurd (ok_turn a (turn.Task (task.Damaged p)) is);
    undamaged = λ plan p placed is. ok_turn a (turn.Task (task.Damaged p)) is;
  }

-- All that was gathered between two lines was put by a call, or a part of it.
module _ {K : Type 0} (view : View K) (disk_faults out_faults : K → ℕ) (old new : K) (gathered : List ℕ) (only : OnlyPuts view disk_faults out_faults old new) (plan : Planned) (course : Course) (offset : ℕ) (items : List Item)
    (a : IsAwaiting view plan course offset items old gathered) where
  pub put_moments : {A F : Type 0} (r : Result A F) → PutsAll view gathered r old new → Moments view.clock view.since old new (StaysOnCourse (view.store plan) course [])
  put_moments r puts = held_moments view plan course old new gathered (awaiting_held view plan course offset old gathered items a) puts.leaves puts.part

  pub put_awaits : {A F : Type 0} (r : Result A F) → PutsAll view gathered r old new → (gathered_then : List ℕ) → gathered_then ≡ [] → OnOk r (IsAwaiting view plan course offset items new gathered_then)
  put_awaits (Ok done) puts gathered_then empty =
      subst (λ (l : List ℕ). IsAwaiting view plan course offset items new l) (sym empty) (awaiting_put view plan course offset old new gathered puts.leaves only.keeps puts.all items a)
  put_awaits (Err fault) puts gathered_then empty = tt
