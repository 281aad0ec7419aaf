-- Which fault of a session a fault of a turn is.
use Rattle.std.proofs.Common.{◌≡◌, ◌⊎◌, inl, inr, ℕ, Result, Err, sym, ◌∙◌}
use Rattle.rg_task.specs.declared.fault.TaskFault.{TaskFault}
use Rattle.rg_task.specs.declared.fault.TaskFault.TheVariants.{Disk, Damaged, BadState, Memory, Ended}
use Rattle.rg_run.specs.declared.fault.TurnFault.{TurnFault}
use Rattle.rg_run.specs.declared.fault.TurnFault.TheVariants.{Task, Write}

pub same_task : {A : Type 0} (e f : TaskFault) → ◌≡◌ {A = Result A TurnFault} (Err (Task e)) (Err (Task f)) → e ≡ f
same_task e f is = cc

-- a run that stopped at a fault of a task, where what was gathered is put
pub task_of : {A P : Type 0} (told : TurnFault) (fault e : TaskFault) → (told ≡ Task fault) ⊎ ((told ≡ Write) × P) → ◌≡◌ {A = Result A TurnFault} (Err told) (Err (Task e)) → fault ≡ e
task_of told fault e (inl same) is = let t : ◌≡◌ {A = TurnFault} (Task fault) (Task e) = sym same ∙ (cc) in cc
task_of told fault e (inr write) is = absurd (let t : ◌≡◌ {A = TurnFault} Write (Task e) = sym write.0 ∙ (cc) in cc)

pub write_of : {A P : Type 0} (told : TurnFault) (fault : TaskFault) → (told ≡ Task fault) ⊎ ((told ≡ Write) × P) → ◌≡◌ {A = Result A TurnFault} (Err told) (Err Write) → P
write_of told fault (inl same) is = absurd (let t : ◌≡◌ {A = TurnFault} (Task fault) Write = sym same ∙ (cc) in cc)
write_of told fault (inr write) is = write.1

-- where that fault was want of memory
pub memory_of : {A P : Type 0} (told fault : TurnFault) (e : TaskFault) → (told ≡ fault) ⊎ ((told ≡ Write) × P) → fault ≡ Task Memory → ◌≡◌ {A = Result A TurnFault} (Err told) (Err (Task e)) → Memory ≡ e
memory_of told fault e (inl same) memory is = let t : ◌≡◌ {A = TurnFault} (Task Memory) (Task e) = sym memory ∙ sym same ∙ (cc) in cc
memory_of told fault e (inr write) memory is = absurd (let t : ◌≡◌ {A = TurnFault} Write (Task e) = sym write.0 ∙ (cc) in cc)

pub memory_write : {A P : Type 0} (told fault : TurnFault) → (told ≡ fault) ⊎ ((told ≡ Write) × P) → fault ≡ Task Memory → ◌≡◌ {A = Result A TurnFault} (Err told) (Err Write) → P
memory_write told fault (inl same) memory is = absurd (let t : ◌≡◌ {A = TurnFault} (Task Memory) Write = sym memory ∙ sym same ∙ (cc) in cc)
memory_write told fault (inr write) memory is = write.1

-- what a load ahead is never refused for
pub load_others : (fault : TaskFault) → (fault ≡ Disk) ⊎ ((fault ≡ Memory) ⊎ ((fault ≡ Ended) ⊎ ((p : ℕ) × (fault ≡ Damaged p)))) → (n : ℕ) → fault ≡ BadState n → ⊥
load_others Disk is n e = cc
load_others Memory is n e = cc
load_others Ended is n e = cc
load_others (Damaged p) is n e = cc
load_others (BadState m) (inl is) n e = absurd (let e : ◌≡◌ {A = TaskFault} (BadState m) Disk = is in cc)
load_others (BadState m) (inr (inl is)) n e = absurd (let e : ◌≡◌ {A = TaskFault} (BadState m) Memory = is in cc)
load_others (BadState m) (inr (inr (inl is))) n e = absurd (let e : ◌≡◌ {A = TaskFault} (BadState m) Ended = is in cc)
load_others (BadState m) (inr (inr (inr is))) n e = absurd (let e : ◌≡◌ {A = TaskFault} (BadState m) (Damaged is.0) = is.1 in cc)

-- nor a turn that obeys, once it has loaded
pub obey_others : (fault : TurnFault) → (fault ≡ Task Disk) ⊎ ((fault ≡ Task Memory) ⊎ ((fault ≡ Task Ended) ⊎ (fault ≡ Write))) → ((p : ℕ) → fault ≡ Task (Damaged p) → ⊥) × ((n : ℕ) → fault ≡ Task (BadState n) → ⊥)
obey_others fault (inl is) = (λ p e. absurd (let t : ◌≡◌ {A = TurnFault} (Task Disk) (Task (Damaged p)) = sym is ∙ e in cc), λ n e. absurd (let t : ◌≡◌ {A = TurnFault} (Task Disk) (Task (BadState n)) = sym is ∙ e in cc))
obey_others fault (inr (inl is)) = (λ p e. absurd (let t : ◌≡◌ {A = TurnFault} (Task Memory) (Task (Damaged p)) = sym is ∙ e in cc), λ n e. absurd (let t : ◌≡◌ {A = TurnFault} (Task Memory) (Task (BadState n)) = sym is ∙ e in cc))
obey_others fault (inr (inr (inl is))) = (λ p e. absurd (let t : ◌≡◌ {A = TurnFault} (Task Ended) (Task (Damaged p)) = sym is ∙ e in cc), λ n e. absurd (let t : ◌≡◌ {A = TurnFault} (Task Ended) (Task (BadState n)) = sym is ∙ e in cc))
obey_others fault (inr (inr (inr is))) = (λ p e. absurd (let t : ◌≡◌ {A = TurnFault} Write (Task (Damaged p)) = sym is ∙ e in cc), λ n e. absurd (let t : ◌≡◌ {A = TurnFault} Write (Task (BadState n)) = sym is ∙ e in cc))
