-- How what calls keep of a past joins.
use Rattle.std.proofs.Common.{◌≡◌, ◌≤◌, ℕ, refl, arith}
use Rattle.rg_bytes.specs.Counts.{Rose}
use Rattle.rg_past.specs.declared.past.PastFault.{PastFault}
use Rattle.rg_past.specs.declared.past.PastFault.TheVariants.{Disk, Damaged, Full, Memory, Ended}
use Rattle.rg_past.specs.Keeping.{Kept, HasCause}

module _ {P : Type 0} (Goes : P → P → Type 0) (IsSound HasEnded : P → Type 0) (faults : P → ℕ) where
  -- nothing was called
  pub kept-same : (past : P) → Goes past past → Kept Goes IsSound HasEnded faults past past
  kept-same past goes = record { goes = goes; sound = λ sound. sound; ended = (λ ended. ended, λ ended. ended); later = omega arith }

  -- one call after another
  pub kept-then : (old middle new : P) → ((p q r : P) → Goes p q → Goes q r → Goes p r) → Kept Goes IsSound HasEnded faults old middle → Kept Goes IsSound HasEnded faults middle new → Kept Goes IsSound HasEnded faults old new
  kept-then old middle new transitive first second = record {
    goes = transitive old middle new first.goes second.goes;
    sound = λ sound. second.sound (first.sound sound);
    ended = (λ ended. first.ended.0 (second.ended.0 ended), λ ended. second.ended.1 (first.ended.1 ended));
    later = omega (arith, first.later, second.later);
  }

-- a fault's cause from that of each
pub cause_of : (IsIllegal : ℕ → Type 0) (is_full had_ended : Type 0) (before after : ℕ) (fault : PastFault) → (fault ≡ Disk → Rose before after) → ((place : ℕ) → fault ≡ Damaged place → IsIllegal place) → (fault ≡ Full → is_full) → (fault ≡ Ended → had_ended) → HasCause IsIllegal is_full had_ended before after fault
cause_of IsIllegal is_full had_ended before after Disk disk damaged full ended = disk refl
cause_of IsIllegal is_full had_ended before after (Damaged place) disk damaged full ended = damaged place refl
cause_of IsIllegal is_full had_ended before after Full disk damaged full ended = full refl
cause_of IsIllegal is_full had_ended before after Memory disk damaged full ended = tt
cause_of IsIllegal is_full had_ended before after Ended disk damaged full ended = ended refl

-- a cause that came about in a part of a call, or after some of it, is one of the call
pub cause-within : (IsIllegal : ℕ → Type 0) (is_full had_ended is_full' had_ended' : Type 0) (before before' after : ℕ) (fault : PastFault) → before ≤ before' → (is_full' → is_full) → (had_ended' → had_ended) → HasCause IsIllegal is_full' had_ended' before' after fault → HasCause IsIllegal is_full had_ended before after fault
cause-within IsIllegal is_full had_ended is_full' had_ended' before before' after Disk later full ended cause = omega (arith, later, cause)
cause-within IsIllegal is_full had_ended is_full' had_ended' before before' after (Damaged place) later full ended cause = cause
cause-within IsIllegal is_full had_ended is_full' had_ended' before before' after Full later full ended cause = full cause
cause-within IsIllegal is_full had_ended is_full' had_ended' before before' after Memory later full ended cause = tt
cause-within IsIllegal is_full had_ended is_full' had_ended' before before' after Ended later full ended cause = ended cause
