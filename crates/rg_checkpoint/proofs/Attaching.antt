-- What was read of a slot, as the slots keep it.
use Rattle.std.proofs.Common.{ℕ, ◌<◌, List, ◌∷◌, length, Option, Some, None, ap, arith, length-append}
use Rattle.std.specs.Option.{ForSome}
use Rattle.rg_host.specs.Image.{Image}
use Rattle.rg_frame.specs.Frames.{frames}
use Rattle.rg_checkpoint.specs.declared.sizes.SlotSizes.{SlotSizes}
use Rattle.rg_checkpoint.specs.declared.slot.Read.{Read}
use Rattle.rg_checkpoint.specs.Ends.{checkpoint_at, end_at, sizes_at}
use Rattle.rg_checkpoint.specs.Reached.{IsReadSlot}
use Rattle.rg_checkpoint.specs.Sizes.{HasSizes, ReachesSizes, end_of}
use Rattle.rg_checkpoint.specs.Slots.{IsSlot, AreSizes}
use Rattle.rg_checkpoint.proofs.SlotFrames.{end_is, stops_behind}

-- a file is longer than the place where its frames end
pub sizes_reach : (bytes : List ℕ) (sizes : SlotSizes) → HasSizes bytes sizes → end_of sizes < length bytes
sizes_reach bytes sizes has =
    let log = has.has.frames.1 in
    let all : List (List ℕ) = has.base ∷ has.changes in
    omega (arith, ap length log.is, length-append (frames all) log.rest, end_is has.base has.changes sizes has.are, (stops_behind has.base has.changes log.rest log.stops).0)

module _ (now : Option Image) (file : ℕ) where
  pub slot_read : (read : Option Read) → IsReadSlot now file read → ForSome now (λ v. IsSlot (v file) (checkpoint_at read))
  slot_read None none = none
  slot_read (Some read) whole = whole.slot

  pub sizes_read : (read : Option Read) → IsReadSlot now file read → ForSome now (λ v. AreSizes (v file) (sizes_at (end_at read)))
  sizes_read None none = none
  sizes_read (Some read) whole = λ v told. (whole.sizes v told, (read.checkpoint, whole.slot v told))

  pub reaches_read : (read : Option Read) → IsReadSlot now file read → ForSome now (λ v. ReachesSizes (sizes_at (end_at read)) (v file))
  reaches_read None none = λ v told. tt
  reaches_read (Some read) whole = λ v told. sizes_reach (v file) read.end.sizes (whole.sizes v told)
