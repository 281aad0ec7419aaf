-- Which fault of a frame a reservoir's fault comes from.
use Rattle.std.proofs.Common.{◌≡◌, ◌⊎◌, inl, inr, ℕ, refl, sym, ap, ◌∙◌}
use Rattle.rg_frame.specs.declared.fault.FrameFault.{FrameFault}
use Rattle.rg_frame.specs.declared.fault.FrameFault.TheVariants as frame
use Rattle.rg_reservoir.specs.declared.fault.ReservoirFault.{ReservoirFault}
use Rattle.rg_reservoir.specs.declared.fault.ReservoirFault.TheVariants.{Disk, Damaged, SchemaDiffers, Full, Memory, Ended}
use Rattle.rg_past.specs.declared.past.PastFault.{PastFault}
use Rattle.rg_past.specs.declared.past.PastFault.TheVariants as past
use Rattle.rg_reservoir.specs.Faults.{of_frame, to_past}

pub from_damaged : (f : FrameFault) (p : ℕ) → of_frame f ≡ Damaged p → f ≡ frame.Damaged p
from_damaged frame.Disk p e = cc
from_damaged (frame.Damaged q) p e = cc
from_damaged frame.Memory p e = cc
from_damaged frame.Ended p e = cc

pub never_differs : (f : FrameFault) → of_frame f ≡ SchemaDiffers → ⊥
never_differs frame.Disk e = cc
never_differs (frame.Damaged q) e = cc
never_differs frame.Memory e = cc
never_differs frame.Ended e = cc

-- a frame that is damaged stands at the place that was read
pub read_at : (f : FrameFault) (p q : ℕ) → f ≡ frame.Damaged p → (f ≡ frame.Disk) ⊎ (f ≡ frame.Memory) ⊎ (f ≡ frame.Damaged q) → p ≡ q
read_at f p q is (inl disk) = absurd (let e : frame.Damaged p ≡ frame.Disk = sym is ∙ disk in cc)
read_at f p q is (inr (inl memory)) = absurd (let e : frame.Damaged p ≡ frame.Memory = sym is ∙ memory in cc)
read_at f p q is (inr (inr at)) = let e : frame.Damaged p ≡ frame.Damaged q = sym is ∙ at in cc

pub never_full : (f : FrameFault) → of_frame f ≡ Full → ⊥
never_full frame.Disk e = cc
never_full (frame.Damaged q) e = cc
never_full frame.Memory e = cc
never_full frame.Ended e = cc

pub never_ended : (f : FrameFault) (q : ℕ) → (f ≡ frame.Disk) ⊎ (f ≡ frame.Memory) ⊎ (f ≡ frame.Damaged q) → of_frame f ≡ Ended → ⊥
never_ended f q (inl is) e = let g : Disk ≡ Ended = sym (ap of_frame is) ∙ e in cc
never_ended f q (inr (inl is)) e = let g : Memory ≡ Ended = sym (ap of_frame is) ∙ e in cc
never_ended f q (inr (inr is)) e = let g : Damaged q ≡ Ended = sym (ap of_frame is) ∙ e in cc

-- a frame that is refused stands at the place that was read
pub refused_at : (f : ReservoirFault) (q p : ℕ) (A : Type 0) → f ≡ Damaged p → ((f ≡ Damaged q) × A) ⊎ (f ≡ Memory) → (q ≡ p) × A
refused_at f q p A is (inl (at, why)) = let e : Damaged q ≡ Damaged p = sym at ∙ is in ((let same : q ≡ p = cc in same), why)
refused_at f q p A is (inr memory) = absurd (let e : Damaged p ≡ Memory = sym is ∙ memory in cc)

-- and it is refused as nothing else
pub refused_so : (f : ReservoirFault) (q : ℕ) (A : Type 0) → ((f ≡ Damaged q) × A) ⊎ (f ≡ Memory) → (f ≡ SchemaDiffers → ⊥) × (f ≡ Full → ⊥) × (f ≡ Ended → ⊥) × (f ≡ Disk → ⊥)
refused_so f q A (inl (is, why)) = (λ e. (let g : Damaged q ≡ SchemaDiffers = sym is ∙ e in cc), λ e. (let g : Damaged q ≡ Full = sym is ∙ e in cc), λ e. (let g : Damaged q ≡ Ended = sym is ∙ e in cc), λ e. (let g : Damaged q ≡ Disk = sym is ∙ e in cc))
refused_so f q A (inr is) = (λ e. (let g : Memory ≡ SchemaDiffers = sym is ∙ e in cc), λ e. (let g : Memory ≡ Full = sym is ∙ e in cc), λ e. (let g : Memory ≡ Ended = sym is ∙ e in cc), λ e. (let g : Memory ≡ Disk = sym is ∙ e in cc))

-- the same of the next frame, at the place that the log has come to
pub stopped_at : (f : ReservoirFault) (p q : ℕ) → f ≡ Damaged p → (f ≡ Disk) ⊎ (f ≡ Damaged q) ⊎ (f ≡ Memory) → p ≡ q
stopped_at f p q is (inl disk) = absurd (let e : Damaged p ≡ Disk = sym is ∙ disk in cc)
stopped_at f p q is (inr (inl at)) = let e : Damaged p ≡ Damaged q = sym is ∙ at in cc
stopped_at f p q is (inr (inr memory)) = absurd (let e : Damaged p ≡ Memory = sym is ∙ memory in cc)

-- whatever stops the reading of a log

pub stop_found : (f : ReservoirFault) (q : ℕ) → (f ≡ Disk) ⊎ (f ≡ Damaged q) ⊎ (f ≡ Memory) → (f ≡ Disk) ⊎ ((p : ℕ) × (f ≡ Damaged p)) ⊎ (f ≡ Memory)
stop_found f q (inl disk) = inl disk
stop_found f q (inr (inl at)) = inr (inl (q, at))
stop_found f q (inr (inr memory)) = inr (inr memory)

pub stop_refused : (f : ReservoirFault) (q : ℕ) (A : Type 0) → ((f ≡ Damaged q) × A) ⊎ (f ≡ Memory) → (f ≡ Disk) ⊎ ((p : ℕ) × (f ≡ Damaged p)) ⊎ (f ≡ Memory)
stop_refused f q A (inl (at, why)) = inr (inl (q, at))
stop_refused f q A (inr memory) = inr (inr memory)

-- which fault of a reservoir a past's fault comes from

pub past_disk : (f : ReservoirFault) (r : PastFault) → r ≡ to_past f → r ≡ past.Disk → f ≡ Disk
past_disk Disk r is e = refl
past_disk (Damaged q) r is e = absurd (let g : past.Damaged q ≡ past.Disk = sym is ∙ e in cc)
past_disk SchemaDiffers r is e = absurd (let g : past.Damaged 0 ≡ past.Disk = sym is ∙ e in cc)
past_disk Full r is e = absurd (let g : past.Full ≡ past.Disk = sym is ∙ e in cc)
past_disk Memory r is e = absurd (let g : past.Memory ≡ past.Disk = sym is ∙ e in cc)
past_disk Ended r is e = absurd (let g : past.Ended ≡ past.Disk = sym is ∙ e in cc)

pub past_ended : (f : ReservoirFault) (r : PastFault) → r ≡ to_past f → r ≡ past.Ended → f ≡ Ended
past_ended Disk r is e = absurd (let g : past.Disk ≡ past.Ended = sym is ∙ e in cc)
past_ended (Damaged q) r is e = absurd (let g : past.Damaged q ≡ past.Ended = sym is ∙ e in cc)
past_ended SchemaDiffers r is e = absurd (let g : past.Damaged 0 ≡ past.Ended = sym is ∙ e in cc)
past_ended Full r is e = absurd (let g : past.Full ≡ past.Ended = sym is ∙ e in cc)
past_ended Memory r is e = absurd (let g : past.Memory ≡ past.Ended = sym is ∙ e in cc)
past_ended Ended r is e = refl

pub past_full : (f : ReservoirFault) (r : PastFault) → r ≡ to_past f → r ≡ past.Full → f ≡ Full
past_full Disk r is e = absurd (let g : past.Disk ≡ past.Full = sym is ∙ e in cc)
past_full (Damaged q) r is e = absurd (let g : past.Damaged q ≡ past.Full = sym is ∙ e in cc)
past_full SchemaDiffers r is e = absurd (let g : past.Damaged 0 ≡ past.Full = sym is ∙ e in cc)
past_full Full r is e = refl
past_full Memory r is e = absurd (let g : past.Memory ≡ past.Full = sym is ∙ e in cc)
past_full Ended r is e = absurd (let g : past.Ended ≡ past.Full = sym is ∙ e in cc)

pub past_damaged : (f : ReservoirFault) (r : PastFault) (p : ℕ) → r ≡ to_past f → (f ≡ SchemaDiffers → ⊥) → r ≡ past.Damaged p → f ≡ Damaged p
past_damaged Disk r p is other e = absurd (let g : past.Disk ≡ past.Damaged p = sym is ∙ e in cc)
past_damaged (Damaged q) r p is other e = let g : past.Damaged q ≡ past.Damaged p = sym is ∙ e in cc
past_damaged SchemaDiffers r p is other e = absurd (other refl)
past_damaged Full r p is other e = absurd (let g : past.Full ≡ past.Damaged p = sym is ∙ e in cc)
past_damaged Memory r p is other e = absurd (let g : past.Memory ≡ past.Damaged p = sym is ∙ e in cc)
past_damaged Ended r p is other e = absurd (let g : past.Ended ≡ past.Damaged p = sym is ∙ e in cc)

-- a look is never refused as another schema, nor as full
pub look_fault : (f : ReservoirFault) → (f ≡ Disk) ⊎ (f ≡ Memory) ⊎ ((p : ℕ) × (f ≡ Damaged p)) ⊎ (f ≡ Ended) → (f ≡ SchemaDiffers → ⊥) × (f ≡ Full → ⊥)
look_fault f (inl is) = (λ e. (let g : Disk ≡ SchemaDiffers = sym is ∙ e in cc), λ e. (let g : Disk ≡ Full = sym is ∙ e in cc))
look_fault f (inr (inl is)) = (λ e. (let g : Memory ≡ SchemaDiffers = sym is ∙ e in cc), λ e. (let g : Memory ≡ Full = sym is ∙ e in cc))
look_fault f (inr (inr (inl (p, is)))) = (λ e. (let g : Damaged p ≡ SchemaDiffers = sym is ∙ e in cc), λ e. (let g : Damaged p ≡ Full = sym is ∙ e in cc))
look_fault f (inr (inr (inr is))) = (λ e. (let g : Ended ≡ SchemaDiffers = sym is ∙ e in cc), λ e. (let g : Ended ≡ Full = sym is ∙ e in cc))

-- an append is never refused otherwise
pub append_fault : (f : ReservoirFault) (r : PastFault) → (f ≡ Ended) ⊎ (f ≡ Full) → r ≡ to_past f → (r ≡ past.Ended) ⊎ (r ≡ past.Full)
append_fault f r (inl is) e = inl (e ∙ ap to_past is)
append_fault f r (inr is) e = inr (e ∙ ap to_past is)

-- nor as another schema
pub append_same : (f : ReservoirFault) → (f ≡ Ended) ⊎ (f ≡ Full) → f ≡ SchemaDiffers → ⊥
append_same f (inl is) e = let g : Ended ≡ SchemaDiffers = sym is ∙ e in cc
append_same f (inr is) e = let g : Full ≡ SchemaDiffers = sym is ∙ e in cc
