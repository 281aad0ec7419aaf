-- What is read of a slot, frame by frame.
use Rattle.std.specs.Prelude.{◌≡◌, ℕ, ◌+◌, ◌<◌, ◌^◌, true, false, List, ◌∷◌, length, Option, Some, None}
use Rattle.std.specs.Option.{ForSome}
use Rattle.rg_host.specs.Image.{Image}
use Rattle.rg_frame.specs.Frames.{Begins}
use Rattle.rg_frame.specs.LogState.{LogState}
use Rattle.rg_frame.specs.Looks.{HoldsFrame, IsClosed, IsTorn}
use Rattle.rg_checkpoint.specs.declared.base.Checkpoint.{Checkpoint}
use Rattle.rg_checkpoint.specs.declared.sizes.SlotSizes.{SlotSizes}
use Rattle.rg_checkpoint.specs.declared.slot.Found.{Found}
use Rattle.rg_checkpoint.specs.declared.slot.Found.TheVariants.{Payload, End, Torn}
use Rattle.rg_checkpoint.specs.declared.slot.Read.{Read}
use Rattle.rg_checkpoint.specs.declared.slot.Stage.{Stage}
use Rattle.rg_checkpoint.specs.declared.slot.Stage.TheVariants.{Goes, Complete, Incomplete}
use Rattle.rg_checkpoint.specs.Ends.{IsEnd}
use Rattle.rg_checkpoint.specs.Sizes.{AreOf, HasSizes, end_of}
use Rattle.rg_checkpoint.specs.Slots.{Says, HasSlot, HasNoSlot}

-- the payload of the frame that stands where the log was, which has moved behind it
pub record IsPayload (now : Option Image) (old new : LogState) (payload : List ℕ) : Type 0 where
  pub moved : new ≡ record old { end = old.end + 9 + length payload; ready = false }
  pub below : new.end < 2 ^ 62
  pub there : ForSome now (λ v. HoldsFrame old.end payload (v old.file))

-- no open gate stands where the log is
pub record IsFrameEnd (now : Option Image) (old new : LogState) : Type 0 where
  pub stays : new ≡ record old { ready = true }
  pub there : ForSome now (λ v. IsClosed old.end (v old.file))

-- what stands at the log
abbrev pub IsFound : Option Image → LogState → LogState → Found → Type 0
IsFound now old new (Payload payload) = IsPayload now old new payload.items
IsFound now old new End = IsFrameEnd now old new
IsFound now old new Torn = ForSome now (λ v. IsTorn old.end (v old.file))

-- a file begins with frames of these sizes that say this checkpoint
pub record Reached (checkpoint : Checkpoint) (sizes : SlotSizes) (bytes : List ℕ) : Type 0 where
  pub base : List ℕ
  pub changes : List (List ℕ)
  pub begins : Begins (base ∷ changes) (end_of sizes) bytes
  pub says : Says (base ∷ changes) checkpoint
  pub are : AreOf base changes sizes

-- what was read of a file so far: the log stands behind the frames
pub record IsBegun (now : Option Image) (file : ℕ) (read : Read) : Type 0 where
  pub file_is : read.end.log.file ≡ file
  pub going : read.end.log.ended ≡ false
  pub place : read.end.log.end ≡ end_of read.end.sizes
  pub below : read.end.log.end < 2 ^ 62
  pub reached : ForSome now (λ v. Reached read.checkpoint read.end.sizes (v file))

-- what was read of a complete slot
pub record IsWhole (now : Option Image) (file : ℕ) (read : Read) : Type 0 where
  pub end : IsEnd file false read.end
  pub slot : ForSome now (λ v. HasSlot (v file) read.checkpoint)
  pub sizes : ForSome now (λ v. HasSizes (v file) read.end.sizes)

-- and of any
abbrev pub IsReadSlot : Option Image → ℕ → Option Read → Type 0
IsReadSlot now file None = ForSome now (λ v. HasNoSlot (v file))
IsReadSlot now file (Some read) = IsWhole now file read

-- one frame more was read
pub record GoesOn (now : Option Image) (file : ℕ) (old new : Read) : Type 0 where
  pub begun : IsBegun now file new
  pub later : old.end.log.end < new.end.log.end

-- where the reading stands
abbrev pub IsStage : Option Image → ℕ → Read → Read → Stage → Type 0
IsStage now file old new Goes = GoesOn now file old new
IsStage now file old new Complete = IsWhole now file new
IsStage now file old new Incomplete = ForSome now (λ v. HasNoSlot (v file))
