-- The logs of complete slots, which have come to the end of their frames.
use Rattle.std.specs.Prelude.{◌≡◌, ℕ, Bool, true, false, Option, Some, None, ⊤}
use Rattle.rg_checkpoint.specs.declared.base.Checkpoint.{Checkpoint}
use Rattle.rg_checkpoint.specs.declared.sizes.SlotSizes.{SlotSizes}
use Rattle.rg_checkpoint.specs.declared.slot.Read.{Read}
use Rattle.rg_checkpoint.specs.declared.slot.SlotEnd.{SlotEnd}
use Rattle.rg_checkpoint.specs.Sizes.{end_of}
use Rattle.rg_checkpoint.specs.Slots.{Attached, sizes_in, with_sizes}

-- a log of that file, which has come to the end of frames of these sizes; where the slots haven't ended, none of its calls failed
pub record IsEnd (file : ℕ) (ended : Bool) (end : SlotEnd) : Type 0 where
  pub file_is : end.log.file ≡ file
  pub ready : end.log.ready ≡ true
  pub place : end.log.end ≡ end_of end.sizes
  pub going : ended ≡ false → end.log.ended ≡ false

-- one, where a slot is complete
abbrev pub IsEndOf : ℕ → Bool → Option SlotEnd → Type 0
IsEndOf file ended None = ⊤
IsEndOf file ended (Some end) = IsEnd file ended end

-- the sizes of its frames
abbrev pub sizes_at : Option SlotEnd → Option SlotSizes
sizes_at None = None
sizes_at (Some end) = Some end.sizes

-- the log of a slot was taken
pub record IsTaken (i : ℕ) (old new : Attached) (end : Option SlotEnd) : Type 0 where
  pub sizes : sizes_at end ≡ sizes_in old i
  pub is_end : IsEndOf i old.ended end
  pub rest : new ≡ with_sizes i None old

-- the parts of what was read of a slot

abbrev pub checkpoint_at : Option Read → Option Checkpoint
checkpoint_at None = None
checkpoint_at (Some read) = Some read.checkpoint

abbrev pub end_at : Option Read → Option SlotEnd
end_at None = None
end_at (Some read) = Some read.end
