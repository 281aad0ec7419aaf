-- How a checkpoint is chosen from two slots.
use Rattle.std.specs.Prelude.{◌≡◌, ◌⊎◌, ℕ, Option, Some, None, ⊤}
use Rattle.rg_checkpoint.specs.declared.base.Checkpoint.{Checkpoint}
use Rattle.rg_restore.specs.declared.choosing.Candidate.{Candidate}
use Rattle.rg_restore.specs.Slots.{IsBehind, IsBest, NoneFits}

-- it stands in its slot
abbrev pub IsIn : (ℕ → Option Checkpoint) → Candidate → Type 0
IsIn slots candidate = slots candidate.slot ≡ Some candidate.checkpoint

abbrev pub AreIn : (ℕ → Option Checkpoint) → Option Candidate → Type 0
AreIn slots None = ⊤
AreIn slots (Some candidate) = IsIn slots candidate

-- the second one is behind the first, where there are both
abbrev pub IsSecond : Option Candidate → Option Candidate → Type 0
IsSecond first None = ⊤
IsSecond None (Some other) = ⊥
IsSecond (Some candidate) (Some other) = IsBehind candidate.slot candidate.checkpoint other.slot other.checkpoint

abbrev pub candidate_of : ℕ → Checkpoint → Candidate
candidate_of i checkpoint = record { slot = i; checkpoint = checkpoint }

-- these two are all checkpoints of the slots, the one to try first in front
pub record AreOrdered (slots : ℕ → Option Checkpoint) (newer older : Option Candidate) : Type 0 where
  pub newer_in : AreIn slots newer
  pub older_in : AreIn slots older
  pub second : IsSecond newer older
  pub all : (i : ℕ) (checkpoint : Checkpoint) → slots i ≡ Some checkpoint → (newer ≡ Some (candidate_of i checkpoint)) ⊎ (older ≡ Some (candidate_of i checkpoint))

-- it was judged: it is taken, and then it is usable and fit; or it isn't, and isn't fit
abbrev pub IsJudged : Type 0 → (Checkpoint → Type 0) → (Checkpoint → Type 0) → Option Candidate → Option Candidate → Type 0
IsJudged told Fit Usable None taken = taken ≡ None
IsJudged told Fit Usable (Some candidate) taken =
    ((taken ≡ Some candidate) × (told → Fit candidate.checkpoint) × Usable candidate.checkpoint) ⊎ ((taken ≡ None) × (told → Fit candidate.checkpoint → ⊥))

-- the best of the slots' checkpoints, or none where none is fit
abbrev pub IsChosen : Type 0 → (Checkpoint → Type 0) → (Checkpoint → Type 0) → (ℕ → Option Checkpoint) → Option Candidate → Type 0
IsChosen told Fit Usable slots None = told → NoneFits Fit slots
IsChosen told Fit Usable slots (Some candidate) = IsIn slots candidate × (told → IsBest Fit slots candidate.slot candidate.checkpoint) × Usable candidate.checkpoint
