use Rattle.std.proofs.Common.{Option, ◌∙◌, sym, subst}
use Rattle.rg_checkpoint.specs.declared.base.Checkpoint.{Checkpoint}
use Rattle.rg_checkpoint.specs.declared.slot.SlotEnd.{SlotEnd}
use Rattle.rg_checkpoint.specs.Ends.{sizes_at}
use Rattle.rg_checkpoint.specs.Sizes.{ReachesSizes}
use Rattle.rg_checkpoint.specs.Slots.{IsSlot, AreSizes}
use Rattle.rg_checkpoint.proofs.Attaching.{slot_read, sizes_read, reaches_read}
use Rattle.rg_checkpoint.proofs.slots.Slots.attach.Goals as goal

pub returns-clause-first : goal.returns-clause-first
returns-clause-first g c = λ v told. subst (λ (o : Option Checkpoint). IsSlot (v 0) o) (sym c.parts.ensures.0) (slot_read (g.H.Host.now c.args.host.now) 0 c.in-Ok.read c.in-Ok.ensures.slot v told)

pub returns-clause-second : goal.returns-clause-second
returns-clause-second g c = λ v told.
    subst (λ (o : Option Checkpoint). IsSlot (v 1) o) (sym c.parts-in-Ok-read_slot.ensures.0)
    (slot_read (g.H.Host.now c.read_slot.new.host) 1 c.in-Ok-read_slot.read c.in-Ok-read_slot.ensures.slot v (c.read_slot.ensures.quiet.leaves.now_stays ∙ told))

pub returns-clause-first_sizes : goal.returns-clause-first_sizes
returns-clause-first_sizes g c = λ v told. subst (λ (o : Option SlotEnd). AreSizes (v 0) (sizes_at o)) (sym c.parts.ensures.1) (sizes_read (g.H.Host.now c.args.host.now) 0 c.in-Ok.read c.in-Ok.ensures.slot v told)

pub returns-clause-second_sizes : goal.returns-clause-second_sizes
returns-clause-second_sizes g c = λ v told.
    subst (λ (o : Option SlotEnd). AreSizes (v 1) (sizes_at o)) (sym c.parts-in-Ok-read_slot.ensures.1)
    (sizes_read (g.H.Host.now c.read_slot.new.host) 1 c.in-Ok-read_slot.read c.in-Ok-read_slot.ensures.slot v (c.read_slot.ensures.quiet.leaves.now_stays ∙ told))

pub returns-clause-reaches : goal.returns-clause-reaches
returns-clause-reaches g c = λ going v told.
    let second = sym c.read_slot-2.ensures.quiet.leaves.now_stays ∙ told in
    let first = sym c.read_slot.ensures.quiet.leaves.now_stays ∙ second in (
      subst (λ (o : Option SlotEnd). ReachesSizes (sizes_at o) (v 0)) (sym c.parts.ensures.1) (reaches_read (g.H.Host.now c.args.host.now) 0 c.in-Ok.read c.in-Ok.ensures.slot v first),
      subst (λ (o : Option SlotEnd). ReachesSizes (sizes_at o) (v 1)) (sym c.parts-in-Ok-read_slot.ensures.1) (reaches_read (g.H.Host.now c.read_slot.new.host) 1 c.in-Ok-read_slot.read c.in-Ok-read_slot.ensures.slot v second),
    )
