use Rattle.std.proofs.Common.{ℕ, ◌∙◌, subst}
use Rattle.rg_checkpoint.specs.Slots.{HasNoSlot}
use Rattle.rg_checkpoint.proofs.slot.read_changes.Goals as goal

pub returns-in-Ok-Incomplete-clause-slot : goal.returns-in-Ok-Incomplete-clause-slot
returns-in-Ok-Incomplete-clause-slot g c = λ v told.
    let inv = c.frames.invariant in
    let stage = rw c.in-Ok-Incomplete.field-0-is at c.in-Ok-Incomplete.ensures.stage in
    subst (λ (f : ℕ). HasNoSlot (v f)) inv.begun.file_is (stage v (inv.quiet.leaves.now_stays ∙ told))
