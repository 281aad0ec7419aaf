-- Which fault of the layers below a fault of a session is.
use Rattle.std.proofs.Common.{◌≡◌, ◌⊎◌, inl, inr, ℕ, Result, Err, refl, sym, ◌∙◌, ap, subst}
use Rattle.rg_past.specs.declared.past.PastFault.TheVariants as past
use Rattle.rg_engine.specs.declared.fault.EngineFault.{EngineFault}
use Rattle.rg_engine.specs.declared.fault.EngineFault.TheVariants as engine
use Rattle.rg_reservoir.specs.Kept.{base, opened}
use Rattle.rg_reservoir.specs.declared.fault.ReservoirFault.{ReservoirFault}
use Rattle.rg_reservoir.specs.declared.fault.ReservoirFault.TheVariants as reservoir
use Rattle.rg_reservoir.specs.declared.reservoir.Reservoir.{Reservoir}
use Rattle.rg_recover.specs.declared.fault.TaskFault.{TaskFault}
use Rattle.rg_recover.specs.declared.fault.TaskFault.TheVariants.{Disk, Damaged, BadState, Memory, Ended, Table}
use Rattle.rg_recover.specs.Faults.{of_engine, of_reservoir}
use Rattle.rg_recover.specs.Storing.{HasStoringCause}

pub same_fault : {A : Type 0} (e f : TaskFault) → ◌≡◌ {A = Result A TaskFault} (Err e) (Err f) → e ≡ f
same_fault e f is = cc

pub bad_by : (fault : EngineFault) (n : ℕ) → of_engine fault ≡ BadState n → fault ≡ engine.BadState n
bad_by (engine.Past past.Disk) n is = absurd cc
bad_by (engine.Past (past.Damaged place)) n is = absurd cc
bad_by (engine.Past past.Full) n is = absurd cc
bad_by (engine.Past past.Memory) n is = absurd cc
bad_by (engine.Past past.Ended) n is = absurd cc
bad_by (engine.BadState node) n is = let e : node ≡ n = cc in ap (λ (m : ℕ). engine.BadState m) e
bad_by engine.Memory n is = absurd cc
bad_by engine.Ended n is = absurd cc
bad_by engine.Table n is = absurd cc

pub damaged_by : (fault : EngineFault) (p : ℕ) → of_engine fault ≡ Damaged p → fault ≡ engine.Past (past.Damaged p)
damaged_by (engine.Past past.Disk) p is = absurd cc
damaged_by (engine.Past (past.Damaged place)) p is = let e : place ≡ p = cc in ap (λ (m : ℕ). engine.Past (past.Damaged m)) e
damaged_by (engine.Past past.Full) p is = absurd cc
damaged_by (engine.Past past.Memory) p is = absurd cc
damaged_by (engine.Past past.Ended) p is = absurd cc
damaged_by (engine.BadState node) p is = absurd cc
damaged_by engine.Memory p is = absurd cc
damaged_by engine.Ended p is = absurd cc
damaged_by engine.Table p is = absurd cc

pub disk_by : (fault : EngineFault) → of_engine fault ≡ Disk → fault ≡ engine.Past past.Disk
disk_by (engine.Past past.Disk) is = refl
disk_by (engine.Past (past.Damaged place)) is = absurd cc
disk_by (engine.Past past.Full) is = absurd cc
disk_by (engine.Past past.Memory) is = absurd cc
disk_by (engine.Past past.Ended) is = absurd cc
disk_by (engine.BadState node) is = absurd cc
disk_by engine.Memory is = absurd cc
disk_by engine.Ended is = absurd cc
disk_by engine.Table is = absurd cc

pub ended_by : (fault : EngineFault) → of_engine fault ≡ Ended → (fault ≡ engine.Past past.Full) ⊎ ((fault ≡ engine.Past past.Ended) ⊎ (fault ≡ engine.Ended))
ended_by (engine.Past past.Disk) is = absurd cc
ended_by (engine.Past (past.Damaged place)) is = absurd cc
ended_by (engine.Past past.Full) is = inl refl
ended_by (engine.Past past.Memory) is = absurd cc
ended_by (engine.Past past.Ended) is = inr (inl refl)
ended_by (engine.BadState node) is = absurd cc
ended_by engine.Memory is = absurd cc
ended_by engine.Ended is = inr (inr refl)
ended_by engine.Table is = absurd cc

pub table_by : (fault : EngineFault) → of_engine fault ≡ Table → fault ≡ engine.Table
table_by (engine.Past past.Disk) is = absurd cc
table_by (engine.Past (past.Damaged place)) is = absurd cc
table_by (engine.Past past.Full) is = absurd cc
table_by (engine.Past past.Memory) is = absurd cc
table_by (engine.Past past.Ended) is = absurd cc
table_by (engine.BadState node) is = absurd cc
table_by engine.Memory is = absurd cc
table_by engine.Ended is = absurd cc
table_by engine.Table is = refl

-- why a chunk wasn't stored
pub storing_cause : (Risen Untouched : Type 0) (fault : ReservoirFault) → (fault ≡ reservoir.Disk) ⊎ ((fault ≡ reservoir.Memory) ⊎ (fault ≡ reservoir.Ended)) → (fault ≡ reservoir.Disk → Risen) → (fault ≡ reservoir.Memory → Untouched) → (fault ≡ reservoir.Ended → ⊥)
    → HasStoringCause Risen Untouched (of_reservoir fault)
storing_cause Risen Untouched fault (inl is) disk memory ended = subst (λ (f : ReservoirFault). HasStoringCause Risen Untouched (of_reservoir f)) (sym is) (disk is)
storing_cause Risen Untouched fault (inr (inl is)) disk memory ended = subst (λ (f : ReservoirFault). HasStoringCause Risen Untouched (of_reservoir f)) (sym is) (memory is)
storing_cause Risen Untouched fault (inr (inr is)) disk memory ended = absurd (ended is)

-- what a commit is never refused for
pub never_stored : (fault : ReservoirFault) → (fault ≡ reservoir.Disk) ⊎ ((fault ≡ reservoir.Memory) ⊎ (fault ≡ reservoir.Ended)) → (fault ≡ reservoir.SchemaDiffers → ⊥) × (fault ≡ reservoir.Full → ⊥)
never_stored fault (inl is) = (λ e. absurd (let t : ◌≡◌ {A = ReservoirFault} reservoir.Disk reservoir.SchemaDiffers = sym is ∙ e in cc), λ e. absurd (let t : ◌≡◌ {A = ReservoirFault} reservoir.Disk reservoir.Full = sym is ∙ e in cc))
never_stored fault (inr (inl is)) = (λ e. absurd (let t : ◌≡◌ {A = ReservoirFault} reservoir.Memory reservoir.SchemaDiffers = sym is ∙ e in cc), λ e. absurd (let t : ◌≡◌ {A = ReservoirFault} reservoir.Memory reservoir.Full = sym is ∙ e in cc))
never_stored fault (inr (inr is)) = (λ e. absurd (let t : ◌≡◌ {A = ReservoirFault} reservoir.Ended reservoir.SchemaDiffers = sym is ∙ e in cc), λ e. absurd (let t : ◌≡◌ {A = ReservoirFault} reservoir.Ended reservoir.Full = sym is ∙ e in cc))

-- and at one fault
pub cause_at : (Risen Untouched : Type 0) (fault other : TaskFault) → fault ≡ other → HasStoringCause Risen Untouched fault → HasStoringCause Risen Untouched other
cause_at Risen Untouched fault other is cause = subst (λ (f : TaskFault). HasStoringCause Risen Untouched f) is cause

pub storing_faults : (Risen Untouched : Type 0) (fault : TaskFault) → HasStoringCause Risen Untouched fault → (fault ≡ Disk) ⊎ (fault ≡ Memory)
storing_faults Risen Untouched Disk cause = inl refl
storing_faults Risen Untouched (Damaged place) cause = absurd cause
storing_faults Risen Untouched (BadState node) cause = absurd cause
storing_faults Risen Untouched Memory cause = inr refl
storing_faults Risen Untouched Ended cause = absurd cause
storing_faults Risen Untouched Table cause = absurd cause

-- the events are as before where a chunk wasn't stored
pub same_at_fault : (r s : Reservoir) (fault : ReservoirFault) → (fault ≡ reservoir.Disk) ⊎ ((fault ≡ reservoir.Memory) ⊎ (fault ≡ reservoir.Ended)) → (fault ≡ reservoir.Disk → (opened s ≡ opened r) × ((base s).committed ≡ (base r).committed))
    → (fault ≡ reservoir.Memory → s ≡ r) → (fault ≡ reservoir.Ended → s ≡ r) → (opened s ≡ opened r) × ((base s).committed ≡ (base r).committed)
same_at_fault r s fault (inl is) disk memory ended = disk is
same_at_fault r s fault (inr (inl is)) disk memory ended = (ap (λ (x : Reservoir). opened x) (memory is), ap (λ (x : Reservoir). (base x).committed) (memory is))
same_at_fault r s fault (inr (inr is)) disk memory ended = (ap (λ (x : Reservoir). opened x) (ended is), ap (λ (x : Reservoir). (base x).committed) (ended is))
