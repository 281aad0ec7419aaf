-- Which fault of a session a fault of its task is, and a count that is the sum of two.
use Rattle.std.proofs.Common.{◌≡◌, ◌⊎◌, inl, inr, ◌≤◌, ◌+◌, ℕ, Result, Err, refl, ap, sym, ◌∙◌, arith}
use Rattle.rg_bytes.specs.Counts.{Rose}
use Rattle.rg_recover.specs.declared.fault.TaskFault.{TaskFault as SessionFault}
use Rattle.rg_recover.specs.declared.fault.TaskFault.TheVariants as session
use Rattle.rg_task.specs.declared.fault.TaskFault.{TaskFault}
use Rattle.rg_task.specs.declared.fault.TaskFault.TheVariants.{Disk, Damaged, BadState, Memory, Ended}
use Rattle.rg_recover.specs.Living.{of_session}

pub same_fault : {A : Type 0} (e f : TaskFault) → ◌≡◌ {A = Result A TaskFault} (Err e) (Err f) → e ≡ f
same_fault e f is = cc

pub bad_by : (f : SessionFault) (n : ℕ) → of_session f ≡ BadState n → f ≡ session.BadState n
bad_by session.Disk n is = absurd cc
bad_by (session.Damaged place) n is = absurd cc
bad_by (session.BadState node) n is = let e : node ≡ n = cc in ap (λ (m : ℕ). session.BadState m) e
bad_by session.Memory n is = absurd cc
bad_by session.Ended n is = absurd cc
bad_by session.Table n is = absurd cc

pub damaged_by : (f : SessionFault) (p : ℕ) → of_session f ≡ Damaged p → f ≡ session.Damaged p
damaged_by session.Disk p is = absurd cc
damaged_by (session.Damaged place) p is = let e : place ≡ p = cc in ap (λ (m : ℕ). session.Damaged m) e
damaged_by (session.BadState node) p is = absurd cc
damaged_by session.Memory p is = absurd cc
damaged_by session.Ended p is = absurd cc
damaged_by session.Table p is = absurd cc

pub disk_by : (f : SessionFault) → of_session f ≡ Disk → (f ≡ session.Disk) ⊎ (f ≡ session.Table)
disk_by session.Disk is = inl refl
disk_by (session.Damaged place) is = absurd cc
disk_by (session.BadState node) is = absurd cc
disk_by session.Memory is = absurd cc
disk_by session.Ended is = absurd cc
disk_by session.Table is = inr refl

pub ended_by : (f : SessionFault) → of_session f ≡ Ended → f ≡ session.Ended
ended_by session.Disk is = absurd cc
ended_by (session.Damaged place) is = absurd cc
ended_by (session.BadState node) is = absurd cc
ended_by session.Memory is = absurd cc
ended_by session.Ended is = refl
ended_by session.Table is = absurd cc

-- a sum has risen where one of its parts has, and the other didn't fall
pub rose_first : (a b c d : ℕ) → Rose a b → c ≤ d → Rose (a + c) (b + d)
rose_first a b c d rose le = omega (arith, rose, le)

pub rose_second : (a b c d : ℕ) → a ≤ b → Rose c d → Rose (a + c) (b + d)
rose_second a b c d le rose = omega (arith, rose, le)

-- what the calls of a session are refused for, as their task is
pub commit_faults : (f : SessionFault) → (f ≡ session.Disk) ⊎ ((f ≡ session.Memory) ⊎ (f ≡ session.Ended)) → (of_session f ≡ Disk) ⊎ ((of_session f ≡ Memory) ⊎ (of_session f ≡ Ended))
commit_faults f (inl is) = inl (ap of_session is)
commit_faults f (inr (inl is)) = inr (inl (ap of_session is))
commit_faults f (inr (inr is)) = inr (inr (ap of_session is))

pub commit_no_table : (f : SessionFault) → (f ≡ session.Disk) ⊎ ((f ≡ session.Memory) ⊎ (f ≡ session.Ended)) → f ≡ session.Table → ⊥
commit_no_table f (inl is) e = let t : ◌≡◌ {A = SessionFault} session.Disk session.Table = sym is ∙ e in cc
commit_no_table f (inr (inl is)) e = let t : ◌≡◌ {A = SessionFault} session.Memory session.Table = sym is ∙ e in cc
commit_no_table f (inr (inr is)) e = let t : ◌≡◌ {A = SessionFault} session.Ended session.Table = sym is ∙ e in cc

pub save_faults : (f : SessionFault) → (f ≡ session.Disk) ⊎ ((f ≡ session.Memory) ⊎ ((f ≡ session.Ended) ⊎ (f ≡ session.Table))) → (of_session f ≡ Disk) ⊎ ((of_session f ≡ Memory) ⊎ (of_session f ≡ Ended))
save_faults f (inl is) = inl (ap of_session is)
save_faults f (inr (inl is)) = inr (inl (ap of_session is))
save_faults f (inr (inr (inl is))) = inr (inr (ap of_session is))
save_faults f (inr (inr (inr is))) = inl (ap of_session is)

pub ahead_faults : (f : SessionFault) → (f ≡ session.Disk) ⊎ ((f ≡ session.Memory) ⊎ ((f ≡ session.Ended) ⊎ ((p : ℕ) × (f ≡ session.Damaged p)))) → (of_session f ≡ Disk) ⊎ ((of_session f ≡ Memory) ⊎ ((of_session f ≡ Ended) ⊎ ((p : ℕ) × (of_session f ≡ Damaged p))))
ahead_faults f (inl is) = inl (ap of_session is)
ahead_faults f (inr (inl is)) = inr (inl (ap of_session is))
ahead_faults f (inr (inr (inl is))) = inr (inr (inl (ap of_session is)))
ahead_faults f (inr (inr (inr is))) = inr (inr (inr (is.0, ap of_session is.1)))

pub ahead_no_table : (f : SessionFault) → (f ≡ session.Disk) ⊎ ((f ≡ session.Memory) ⊎ ((f ≡ session.Ended) ⊎ ((p : ℕ) × (f ≡ session.Damaged p)))) → f ≡ session.Table → ⊥
ahead_no_table f (inl is) e = let t : ◌≡◌ {A = SessionFault} session.Disk session.Table = sym is ∙ e in cc
ahead_no_table f (inr (inl is)) e = let t : ◌≡◌ {A = SessionFault} session.Memory session.Table = sym is ∙ e in cc
ahead_no_table f (inr (inr (inl is))) e = let t : ◌≡◌ {A = SessionFault} session.Ended session.Table = sym is ∙ e in cc
ahead_no_table f (inr (inr (inr is))) e = let t : ◌≡◌ {A = SessionFault} (session.Damaged is.0) session.Table = sym is.1 ∙ e in cc

-- of a fault that isn't want of memory the session has ended
pub memory_or : {P : Type 0} (f : SessionFault) → (f ≡ session.Memory) ⊎ P → (of_session f ≡ Memory) ⊎ P
memory_or f (inl is) = inl (ap of_session is)
memory_or f (inr p) = inr p
