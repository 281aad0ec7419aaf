-- What every call keeps of the past that it is lent, a refused one too.
use Rattle.std.specs.Prelude.{◌↔◌, ◌≤◌, ℕ, ⊤}
use Rattle.rg_bytes.specs.Counts.{Rose}
use Rattle.rg_past.specs.declared.past.PastFault.{PastFault}
use Rattle.rg_past.specs.declared.past.PastFault.TheVariants.{Disk, Damaged, Full, Memory, Ended}

-- it goes on, a sound one stays sound, whether it has ended stays, and its count of faults doesn't fall
pub record Kept {P : Type 0} (Goes : P → P → Type 0) (IsSound HasEnded : P → Type 0) (faults : P → ℕ) (old new : P) : Type 0 where
  pub goes : Goes old new
  pub sound : IsSound old → IsSound new
  pub ended : HasEnded new ↔ HasEnded old
  pub later : faults old ≤ faults new

-- why a call may be refused with a fault of the past: the disk's count rose, that place is damaged, it is full, or it had ended; want of memory has no cause
abbrev pub HasCause : (ℕ → Type 0) → Type 0 → Type 0 → ℕ → ℕ → PastFault → Type 0
HasCause IsIllegal is_full had_ended before after Disk = Rose before after
HasCause IsIllegal is_full had_ended before after (Damaged place) = IsIllegal place
HasCause IsIllegal is_full had_ended before after Full = is_full
HasCause IsIllegal is_full had_ended before after Memory = ⊤
HasCause IsIllegal is_full had_ended before after Ended = had_ended
