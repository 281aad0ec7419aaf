-- What calls leave of a task, one after another.
use Rattle.std.proofs.Common.{◌≡◌, ◌⊎◌, inl, inr, ⊎_elim, ℕ, ◌<◌, ◌≤◌, Bool, true, false, List, [], length, Result, Ok, Err, refl, sym, ◌∙◌, ap, subst, arith}
use Rattle.std.specs.Prelude.{⊤, IfOk, IsErrOf}
use Rattle.rg_bytes.specs.Counts.{Rose}
use Rattle.rg_config.specs.Plans.{Planned}
use Rattle.rg_pipe.specs.declared.fault.PipeFault.{PipeFault}
use Rattle.rg_pipe.specs.declared.fault.PipeFault.TheVariants as pipe
use Rattle.rg_run.specs.Calls.{OnlyPuts}
use Rattle.rg_run.specs.Logs.{KeepsLog}
use Rattle.rg_run.specs.declared.fault.TurnFault.{TurnFault}
use Rattle.rg_run.specs.declared.fault.TurnFault.TheVariants as turn
use Rattle.rg_run.proofs.Laws.{ended_before, files_held, held_then, no_files}
use Rattle.rg_task.specs.State.{State}
use Rattle.rg_task.specs.View.{View, OnlyNow, Sinks}
use Rattle.rg_task.specs.declared.fault.TaskFault.{TaskFault}
use Rattle.rg_task.specs.declared.fault.TaskFault.TheVariants as task
use Rattle.rg_serve.specs.Calls.{Carries}
use Rattle.rg_serve.specs.Coming.{of_pipe}
use Rattle.rg_serve.specs.declared.fault.ServeFault.{ServeFault}
use Rattle.rg_serve.specs.declared.fault.ServeFault.TheVariants.{Turn, Read, Limit, Frame}

-- a result that is answered is no fault, and a refusal is of one
never_err : {A F : Type 0} (a : A) (e : F) → IsErrOf (Ok a) e → ⊥
never_err {A} {F} a e is = absurd (let same : ◌≡◌ {A = Result A F} (Ok a) (Err e) = is in cc)

pub err_is : {A F : Type 0} (f e : F) → IsErrOf {T = A} (Err f) e → f ≡ e
err_is {A} {F} f e is = let same : ◌≡◌ {A = Result A F} (Err f) (Err e) = is in cc

pub turn_same : (f e : TurnFault) → Turn f ≡ Turn e → f ≡ e
turn_same f e is = let same : ◌≡◌ {A = ServeFault} (Turn f) (Turn e) = is in cc

-- the fault of a call that stores events is no other
pub store_others : (fault : TaskFault) → (fault ≡ task.Disk) ⊎ ((fault ≡ task.Memory) ⊎ (fault ≡ task.Ended)) → ((n : ℕ) → fault ≡ task.BadState n → ⊥) × ((p : ℕ) → fault ≡ task.Damaged p → ⊥)
store_others fault (inl is) = (λ n e. absurd (let both : ◌≡◌ {A = TaskFault} task.Disk (task.BadState n) = sym is ∙ e in cc), λ p e. absurd (let both : ◌≡◌ {A = TaskFault} task.Disk (task.Damaged p) = sym is ∙ e in cc))
store_others fault (inr (inl is)) = (λ n e. absurd (let both : ◌≡◌ {A = TaskFault} task.Memory (task.BadState n) = sym is ∙ e in cc), λ p e. absurd (let both : ◌≡◌ {A = TaskFault} task.Memory (task.Damaged p) = sym is ∙ e in cc))
store_others fault (inr (inr is)) = (λ n e. absurd (let both : ◌≡◌ {A = TaskFault} task.Ended (task.BadState n) = sym is ∙ e in cc), λ p e. absurd (let both : ◌≡◌ {A = TaskFault} task.Ended (task.Damaged p) = sym is ∙ e in cc))

module _ {K : Type 0} (view : View K) (disk_faults out_faults : K → ℕ) where
  abbrev C : {A F : Type 0} → (TurnFault → F) → Result A F → K → K → Type 0
  C says result old new = Carries view disk_faults out_faults says result old new

  -- a call that is answered
  pub carries_done : {A F : Type 0} (says : TurnFault → F) (a : A) (old new : K) → ((plan : Planned) → view.runs plan old → view.runs plan new) → ((plan : Planned) (n : ℕ) → view.node plan n old → view.node plan n new) → ((plan : Planned) → view.placed plan old → view.placed plan new)
      → ((view.at old).ended ≡ false → (view.at new).ended ≡ false) → view.goes old new → ((plan : Planned) → KeepsLog view plan old new) → disk_faults old ≤ disk_faults new → out_faults old ≤ out_faults new → C says (Ok a) old new
  carries_done says a old new running node placed going goes log disks outs = record {
    running = running;
    node = node;
    placed = placed;
    going = going;
    goes = goes;
    log = log;
    disk_faults_grow = disks;
    out_faults_grow = outs;
    write = λ is. absurd (never_err a (says turn.Write) is);
    disk = λ is. absurd (never_err a (says (turn.Task task.Disk)) is);
    ended = λ is. absurd (never_err a (says (turn.Task task.Ended)) is);
    bad = λ plan n runs is. never_err a (says (turn.Task (task.BadState n))) is;
    undamaged = λ plan p placed is. never_err a (says (turn.Task (task.Damaged p))) is;
    damaged = λ p is. absurd (never_err a (says (turn.Task (task.Damaged p))) is);
  }

  -- nothing was done
  pub carries_none : {A F : Type 0} (says : TurnFault → F) (a : A) → OnlyNow view → Sinks view → (t : K) → C says (Ok a) t t
  carries_none says a only sinks t =
      carries_done says a t t (λ plan runs. runs) (λ plan n runs. runs) (λ plan placed. placed) (λ going. going) (view.goes_same t)
      (λ plan held placed holds. files_held view plan held t t (no_files view only sinks t) holds) (omega arith) (omega arith)

  -- a call on the task was refused
  pub carries_refused : {A : Type 0} (fault : TaskFault) (old new : K) → view.goes old new → ((plan : Planned) → KeepsLog view plan old new) → disk_faults old ≤ disk_faults new → out_faults old ≤ out_faults new → (fault ≡ task.Disk → Rose (disk_faults old) (disk_faults new))
      → (fault ≡ task.Ended → (view.at old).ended ≡ true) → ((plan : Planned) (n : ℕ) → view.runs plan old ⊎ view.node plan n old → fault ≡ task.BadState n → ⊥) → ((plan : Planned) (p : ℕ) → view.placed plan old → fault ≡ task.Damaged p → ⊥)
      → ((p : ℕ) → fault ≡ task.Damaged p → view.illegal p new) → C {A = A} (λ f. f) (Err (turn.Task fault)) old new
  carries_refused {A} fault old new goes log disks outs disk ended bad undamaged damaged = record {
    running = λ plan runs. tt;
    node = λ plan n runs. tt;
    placed = λ plan placed. tt;
    going = λ going. tt;
    goes = goes;
    log = log;
    disk_faults_grow = disks;
    out_faults_grow = outs;
    write = λ is. absurd (let e : ◌≡◌ {A = TurnFault} (turn.Task fault) turn.Write = err_is {A = A} (turn.Task fault) turn.Write is in cc);
    disk = λ is. disk (same task.Disk (err_is {A = A} (turn.Task fault) (turn.Task task.Disk) is));
    ended = λ is. ended (same task.Ended (err_is {A = A} (turn.Task fault) (turn.Task task.Ended) is));
    bad = λ plan n runs is. bad plan n runs (same (task.BadState n) (err_is {A = A} (turn.Task fault) (turn.Task (task.BadState n)) is));
    undamaged = λ plan p placed is. undamaged plan p placed (same (task.Damaged p) (err_is {A = A} (turn.Task fault) (turn.Task (task.Damaged p)) is));
    damaged = λ p is. damaged p (same (task.Damaged p) (err_is {A = A} (turn.Task fault) (turn.Task (task.Damaged p)) is));
  }
    where
      same : (e : TaskFault) → turn.Task fault ≡ turn.Task e → fault ≡ e
      same e is = let both : ◌≡◌ {A = TurnFault} (turn.Task fault) (turn.Task e) = is in cc

  -- want of memory came before anything was done
  pub carries_memory : {A : Type 0} (fault : TurnFault) → fault ≡ turn.Task task.Memory → OnlyNow view → Sinks view → (t : K) → C {A = A} (λ f. f) (Err fault) t t
  carries_memory {A} fault is only sinks t =
      subst (λ (f : TurnFault). C {A = A} (λ f. f) (Err f) t t) (sym is)
      (carries_refused task.Memory t t (view.goes_same t) (λ plan held placed holds. files_held view plan held t t (no_files view only sinks t) holds) (omega arith) (omega arith) (λ e. absurd (let no : ◌≡◌ {A = TaskFault} task.Memory task.Disk = e in cc))
      (λ e. absurd (let no : ◌≡◌ {A = TaskFault} task.Memory task.Ended = e in cc)) (λ plan n runs e. absurd (let no : ◌≡◌ {A = TaskFault} task.Memory (task.BadState n) = e in cc)) (λ plan p placed e. absurd (let no : ◌≡◌ {A = TaskFault} task.Memory (task.Damaged p) = e in cc))
      (λ p e. absurd (let no : ◌≡◌ {A = TaskFault} task.Memory (task.Damaged p) = e in cc)))

  -- one call after another that was answered
  pub carries_then : {A B F G : Type 0} (first : TurnFault → G) (says : TurnFault → F) (a : A) (result : Result B F) (old mid new : K) → C first (Ok a) old mid → C says result mid new → C says result old new
  carries_then first says a result old mid new c d = record {
    running = λ plan runs. d.running plan (c.running plan runs);
    node = λ plan n runs. d.node plan n (c.node plan n runs);
    placed = λ plan placed. d.placed plan (c.placed plan placed);
    going = λ going. d.going (c.going going);
    goes = view.goes_join old mid new c.goes d.goes;
    log = λ plan held placed holds. held_then view plan held old mid new (c.log plan held placed holds) (d.log plan held (c.placed plan placed));
    disk_faults_grow = omega (arith, c.disk_faults_grow, d.disk_faults_grow);
    out_faults_grow = omega (arith, c.out_faults_grow, d.out_faults_grow);
    write = λ is. let rose = d.write is in omega (arith, c.out_faults_grow, rose);
    disk = λ is. let rose = d.disk is in omega (arith, c.disk_faults_grow, rose);
    ended = λ is. ended_before (view.at old).ended (view.at mid).ended c.going (d.ended is);
    bad = λ plan n runs is. d.bad plan n (⊎_elim (λ r. inl (c.running plan r)) (λ r. inr (c.node plan n r)) runs) is;
    undamaged = λ plan p placed is. d.undamaged plan p (c.placed plan placed) is;
    damaged = λ p is. d.damaged p is;
  }

  -- what is answered may be anything
  pub carries_ok : {A B F G : Type 0} (first : TurnFault → G) (says : TurnFault → F) (a : A) (b : B) (old new : K) → C first (Ok a) old new → C says (Ok b) old new
  carries_ok first says a b old new c = carries_done says b old new c.running c.node c.placed c.going c.goes c.log c.disk_faults_grow c.out_faults_grow

  -- a refusal that is handed on, by a call whose faults say it so
  pub carries_err : {A B F G : Type 0} (first : TurnFault → G) (says : TurnFault → F) (told : G) (fault : F) (old new : K) → ((e : TurnFault) → fault ≡ says e → told ≡ first e) → C {A = A} first (Err told) old new → C {A = B} says (Err fault) old new
  carries_err {A} {B} {F} {G} first says told fault old new by c = record {
    running = λ plan runs. tt;
    node = λ plan n runs. tt;
    placed = λ plan placed. tt;
    going = λ going. tt;
    goes = c.goes;
    log = c.log;
    disk_faults_grow = c.disk_faults_grow;
    out_faults_grow = c.out_faults_grow;
    write = λ is. c.write (back turn.Write is);
    disk = λ is. c.disk (back (turn.Task task.Disk) is);
    ended = λ is. c.ended (back (turn.Task task.Ended) is);
    bad = λ plan n runs is. c.bad plan n runs (back (turn.Task (task.BadState n)) is);
    undamaged = λ plan p placed is. c.undamaged plan p placed (back (turn.Task (task.Damaged p)) is);
    damaged = λ p is. c.damaged p (back (turn.Task (task.Damaged p)) is);
  }
    where
      back : (e : TurnFault) → IsErrOf {T = B} (Err fault) (says e) → IsErrOf {T = A} (Err told) (first e)
      back e is = ap (λ (f : G). Err f) (by e (err_is {A = B} fault (says e) is))

  -- the same refusal
  pub carries_same : {A B : Type 0} (fault : TurnFault) (old new : K) → C {A = A} (λ f. f) (Err fault) old new → C {A = B} (λ f. f) (Err fault) old new
  carries_same fault old new c = carries_err (λ f. f) (λ f. f) fault fault old new (λ e is. is) c

  pub carries_turn : {A B : Type 0} (fault : TurnFault) (old new : K) → C {A = A} (λ f. f) (Err fault) old new → C {A = B} Turn (Err (Turn fault)) old new
  carries_turn fault old new c = carries_err (λ f. f) Turn fault (Turn fault) old new (λ e is. turn_same fault e is) c

  pub carries_on : {A B : Type 0} (fault : ServeFault) (old new : K) → C {A = A} Turn (Err fault) old new → C {A = B} Turn (Err fault) old new
  carries_on fault old new c = carries_err Turn Turn fault fault old new (λ e is. is) c

  -- only something was put, or that failed
  module _ (old new : K) (only : OnlyPuts view disk_faults out_faults old new) where
    pub carries_put : {A F : Type 0} (says : TurnFault → F) (a : A) → C says (Ok a) old new
    carries_put says a =
        carries_done says a old new only.keeps.running only.keeps.node only.keeps.placed (λ going. ap (λ (s : State). s.ended) only.keeps.at_stays ∙ going) only.keeps.goes (λ plan held placed holds. files_held view plan held old new only.files holds)
        (omega (arith, only.disk_faults_stay)) only.out_faults_grow

    -- as the first of two calls
    pub carries_first : C {A = ⊤} (λ (f : TurnFault). f) (Ok tt) old new
    carries_first = carries_put (λ f. f) tt

    -- a refusal that is none of the task's but perhaps that put
    pub carries_unput : {A F : Type 0} (says : TurnFault → F) (fault : F) → ((e : TaskFault) → fault ≡ says (turn.Task e) → ⊥) → (fault ≡ says turn.Write → Rose (out_faults old) (out_faults new)) → C {A = A} says (Err fault) old new
    carries_unput {A} says fault other write = record {
      running = λ plan runs. tt;
      node = λ plan n runs. tt;
      placed = λ plan placed. tt;
      going = λ going. tt;
      goes = only.keeps.goes;
      log = λ plan held placed holds. files_held view plan held old new only.files holds;
      disk_faults_grow = omega (arith, only.disk_faults_stay);
      out_faults_grow = only.out_faults_grow;
      write = λ is. write (err_is {A = A} fault (says turn.Write) is);
      disk = λ is. absurd (other task.Disk (err_is {A = A} fault (says (turn.Task task.Disk)) is));
      ended = λ is. absurd (other task.Ended (err_is {A = A} fault (says (turn.Task task.Ended)) is));
      bad = λ plan n runs is. other (task.BadState n) (err_is {A = A} fault (says (turn.Task (task.BadState n))) is);
      undamaged = λ plan p placed is. other (task.Damaged p) (err_is {A = A} fault (says (turn.Task (task.Damaged p))) is);
      damaged = λ p is. absurd (other (task.Damaged p) (err_is {A = A} fault (says (turn.Task (task.Damaged p))) is));
    }

    -- a put that failed
    pub carries_failed : {A : Type 0} (fault : TurnFault) → fault ≡ turn.Write → Rose (out_faults old) (out_faults new) → C {A = A} (λ f. f) (Err fault) old new
    carries_failed fault is rose = carries_unput (λ f. f) fault (λ e same. absurd (let no : ◌≡◌ {A = TurnFault} turn.Write (turn.Task e) = sym is ∙ same in cc)) (λ write. rose)

  -- a refusal, and what was gathered is put
  pub carries_stop : {A B : Type 0} (told fault : TurnFault) (old mid new : K) → C {A = A} (λ f. f) (Err fault) old mid → OnlyPuts view disk_faults out_faults mid new → (told ≡ fault) ⊎ ((told ≡ turn.Write) × Rose (out_faults mid) (out_faults new)) → C {A = B} (λ f. f) (Err told) old new
  carries_stop {A} {B} told fault old mid new c only which = record {
    running = λ plan runs. tt;
    node = λ plan n runs. tt;
    placed = λ plan placed. tt;
    going = λ going. tt;
    goes = view.goes_join old mid new c.goes only.keeps.goes;
    log = λ plan held placed holds. held_then view plan held old mid new (c.log plan held placed holds) (files_held view plan held mid new only.files);
    disk_faults_grow = omega (arith, c.disk_faults_grow, only.disk_faults_stay);
    out_faults_grow = omega (arith, c.out_faults_grow, only.out_faults_grow);
    write = λ is.
        ⊎_elim (λ same. let rose = c.write (ap (λ (f : TurnFault). Err f) (sym same ∙ err_is {A = B} told turn.Write is)) in omega (arith, rose, only.out_faults_grow))
        (λ put. let rose = put.1 in omega (arith, c.out_faults_grow, rose)) which;
    disk = λ is. let rose = c.disk (back task.Disk is) in omega (arith, rose, only.disk_faults_stay);
    ended = λ is. c.ended (back task.Ended is);
    bad = λ plan n runs is. c.bad plan n runs (back (task.BadState n) is);
    undamaged = λ plan p placed is. c.undamaged plan p placed (back (task.Damaged p) is);
    damaged = λ p is. only.keeps.illegal p (c.damaged p (back (task.Damaged p) is));
  }
    where
      back : (e : TaskFault) → IsErrOf {T = B} (Err told) (turn.Task e) → IsErrOf {T = A} (Err fault) (turn.Task e)
      back e is =
          ⊎_elim (λ same. ap (λ (f : TurnFault). Err f) (sym same ∙ err_is {A = B} told (turn.Task e) is))
          (λ put. absurd (let no : ◌≡◌ {A = TurnFault} turn.Write (turn.Task e) = sym put.0 ∙ err_is {A = B} told (turn.Task e) is in cc)) which

-- a fault of the input is none of the task
pub read_no : (e : TurnFault) → Read ≡ Turn e → ⊥
read_no e is = absurd (let no : ◌≡◌ {A = ServeFault} Read (Turn e) = is in cc)

pub limit_no : (e : TurnFault) → Limit ≡ Turn e → ⊥
limit_no e is = absurd (let no : ◌≡◌ {A = ServeFault} Limit (Turn e) = is in cc)

pub frame_no : (place : ℕ) (e : TurnFault) → Frame place ≡ Turn e → ⊥
frame_no place e is = absurd (let no : ◌≡◌ {A = ServeFault} (Frame place) (Turn e) = is in cc)

pub pipe_no : (fault : PipeFault) (e : TurnFault) → of_pipe fault ≡ Turn e → ⊥
pipe_no (pipe.Frame place) e is = frame_no place e is

pub put_no : (e : TaskFault) → Turn turn.Write ≡ Turn (turn.Task e) → ⊥
put_no e is = absurd (let no : ◌≡◌ {A = TurnFault} turn.Write (turn.Task e) = turn_same turn.Write (turn.Task e) is in cc)

-- where there are no more, nothing is asked
pub short_over : (result : Result Bool ServeFault) (gathered : List ℕ) → IfOk result (λ more. more ≡ false) → IfOk result (λ more. more ≡ true → gathered ≡ [])
short_over (Ok more) gathered over = λ is. absurd (let both : true ≡ false = sym is ∙ over in cc)
short_over (Err fault) gathered over = tt

-- where there may be more, nothing is gathered, and so little
pub short_empty : (result : Result Bool ServeFault) (gathered : List ℕ) → IfOk result (λ more. more ≡ true → gathered ≡ []) → IfOk result (λ more. more ≡ true → length gathered < 65536)
short_empty (Ok more) gathered none = λ is. let empty = ap (λ (l : List ℕ). length l) (none is) in omega (arith, empty)
short_empty (Err fault) gathered none = tt

pub read_is : {A : Type 0} (fault : TurnFault) → IsErrOf {T = A} (Err (Turn fault)) Read → ⊥
read_is {A} fault is = read_no fault (sym (err_is {A = A} (Turn fault) Read is))

pub limit_is : {A : Type 0} (fault : TurnFault) → IsErrOf {T = A} (Err (Turn fault)) Limit → ⊥
limit_is {A} fault is = limit_no fault (sym (err_is {A = A} (Turn fault) Limit is))
