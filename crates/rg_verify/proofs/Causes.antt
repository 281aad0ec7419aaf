-- How causes of a refusal join, and what they say of each fault.
use Rattle.std.proofs.Common.{◌≡◌, ◌≤◌, inl, inr, ℕ, Result, Ok, Err, refl, subst, arith}
use Rattle.std.specs.Prelude.{OnOk}
use Rattle.rg_bytes.specs.Counts.{Rose}
use Rattle.rg_checkpoint.specs.declared.fault.SlotFault.{SlotFault}
use Rattle.rg_checkpoint.specs.declared.fault.SlotFault.TheVariants as slot
use Rattle.rg_reservoir.specs.declared.fault.ReservoirFault.{ReservoirFault}
use Rattle.rg_reservoir.specs.declared.fault.ReservoirFault.TheVariants as log
use Rattle.rg_verify.specs.Causes.{IsUnjudged}
use Rattle.rg_verify.specs.Faults.{of_log, of_slot, IsFromOutside}
use Rattle.rg_verify.specs.declared.fault.VerifyFault.{VerifyFault}
use Rattle.rg_verify.specs.declared.fault.VerifyFault.TheVariants.{Disk, Damaged, SchemaDiffers, Memory, Write}

-- what holds anyway holds where a call answers
pub on-ok : {T E P : Type 0} (result : Result T E) → P → OnOk result P
on-ok (Ok x) p = p
on-ok (Err e) p = tt

module _ (IsDamaged : ℕ → Type 0) (is_other : Type 0) (before after : ℕ) (fault : VerifyFault) (why : IsUnjudged IsDamaged is_other before after fault) where
  unjudged-as : (other : VerifyFault) → fault ≡ other → IsUnjudged IsDamaged is_other before after other
  unjudged-as other is = subst (λ f. IsUnjudged IsDamaged is_other before after f) is why

  pub unjudged-disk : fault ≡ Disk → Rose before after
  unjudged-disk is = unjudged-as Disk is

  pub unjudged-damaged : (place : ℕ) → fault ≡ Damaged place → IsDamaged place
  unjudged-damaged place is = unjudged-as (Damaged place) is

  pub unjudged-differs : fault ≡ SchemaDiffers → is_other
  unjudged-differs is = unjudged-as SchemaDiffers is

  pub unjudged-write : fault ≡ Write → ⊥
  unjudged-write is = unjudged-as Write is

-- where no place is damaged and the schema is this one, it comes from outside
pub outside-of : (IsDamaged : ℕ → Type 0) (is_other : Type 0) (before after : ℕ) (fault : VerifyFault) → ((place : ℕ) → IsDamaged place → ⊥) → (is_other → ⊥) → IsUnjudged IsDamaged is_other before after fault → IsFromOutside fault
outside-of IsDamaged is_other before after Disk whole ours why = inl refl
outside-of IsDamaged is_other before after (Damaged place) whole ours why = absurd (whole place why)
outside-of IsDamaged is_other before after SchemaDiffers whole ours why = absurd (ours why)
outside-of IsDamaged is_other before after Memory whole ours why = inr (inl refl)
outside-of IsDamaged is_other before after Write whole ours why = absurd why

-- a refusal of a later part of a call is one of the call
pub unjudged-within : (IsDamaged PartDamaged : ℕ → Type 0) (is_other part_other : Type 0) (before between after : ℕ) (fault : VerifyFault) → before ≤ between → ((place : ℕ) → PartDamaged place → IsDamaged place) → (part_other → is_other) →
    IsUnjudged PartDamaged part_other between after fault → IsUnjudged IsDamaged is_other before after fault
unjudged-within IsDamaged PartDamaged is_other part_other before between after Disk later damaged other why = omega (arith, later, why)
unjudged-within IsDamaged PartDamaged is_other part_other before between after (Damaged place) later damaged other why = damaged place why
unjudged-within IsDamaged PartDamaged is_other part_other before between after SchemaDiffers later damaged other why = other why
unjudged-within IsDamaged PartDamaged is_other part_other before between after Memory later damaged other why = tt
unjudged-within IsDamaged PartDamaged is_other part_other before between after Write later damaged other why = why

-- of a log that was read
pub unjudged-log : (IsDamaged : ℕ → Type 0) (is_other : Type 0) (before after : ℕ) (fault : ReservoirFault) → (fault ≡ log.Disk → Rose before after) → ((place : ℕ) → fault ≡ log.Damaged place → IsDamaged place) → (fault ≡ log.SchemaDiffers → is_other) →
    IsUnjudged IsDamaged is_other before after (of_log fault)
unjudged-log IsDamaged is_other before after log.Disk disk damaged other = disk refl
unjudged-log IsDamaged is_other before after (log.Damaged place) disk damaged other = damaged place refl
unjudged-log IsDamaged is_other before after log.Memory disk damaged other = tt
unjudged-log IsDamaged is_other before after log.SchemaDiffers disk damaged other = other refl
unjudged-log IsDamaged is_other before after log.Full disk damaged other = tt
unjudged-log IsDamaged is_other before after log.Ended disk damaged other = tt

-- of slots that were read
pub unjudged-slot : (IsDamaged : ℕ → Type 0) (is_other : Type 0) (before after : ℕ) (fault : SlotFault) → (fault ≡ slot.Disk → Rose before after) → IsUnjudged IsDamaged is_other before after (of_slot fault)
unjudged-slot IsDamaged is_other before after slot.Disk disk = disk refl
unjudged-slot IsDamaged is_other before after slot.Memory disk = tt
unjudged-slot IsDamaged is_other before after slot.Ended disk = tt
