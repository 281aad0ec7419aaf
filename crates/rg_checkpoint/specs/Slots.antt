-- The two slots of a store, files 0 and 1.
use Rattle.std.specs.Prelude.{◌≡◌, ◌⊎◌, ℕ, zero, suc, ◌==◌, ◌<◌, Bool, false, List, [], ◌∷◌, Option, Some, None, ⊤, if◌then◌else◌}
use Rattle.std.specs.Option.{ForSome}
use Rattle.rg_frame.specs.Frames.{HasPayloads}
use Rattle.rg_host.specs.Image.{Image}
use Rattle.rg_checkpoint.specs.declared.base.Checkpoint.{Checkpoint}
use Rattle.rg_checkpoint.specs.declared.sizes.SlotSizes.{SlotSizes}
use Rattle.rg_checkpoint.specs.Base.{IsBase}
use Rattle.rg_checkpoint.specs.Sizes.{HasSizes, ReachesSizes}
use Rattle.rg_checkpoint.specs.Updates.{Applies}

-- What the slots held when they were read, the sizes of what stands in them now, whether nothing was saved, added or taken since they were read, and whether a save or an extend failed.
pub record Attached : Type 0 where
  pub first : Option Checkpoint
  pub second : Option Checkpoint
  pub first_sizes : Option SlotSizes
  pub second_sizes : Option SlotSizes
  pub fresh : Bool
  pub ended : Bool

-- the checkpoint of the slot of that number
abbrev pub slot_in : Attached → ℕ → Option Checkpoint
slot_in slots zero = slots.first
slot_in slots (suc zero) = slots.second
slot_in slots (suc (suc n)) = None

-- and the sizes of what stands in it now
abbrev pub sizes_in : Attached → ℕ → Option SlotSizes
sizes_in slots zero = slots.first_sizes
sizes_in slots (suc zero) = slots.second_sizes
sizes_in slots (suc (suc n)) = None

-- the slots with these sizes for the one of that number
abbrev pub with_sizes : ℕ → Option SlotSizes → Attached → Attached
with_sizes i sizes slots = record slots { first_sizes = if i == 0 then sizes else slots.first_sizes; second_sizes = if i == 1 then sizes else slots.second_sizes }

-- the frame list of a file is this one payload
abbrev pub IsOnly : List ℕ → List ℕ → Type 0
IsOnly payload bytes = HasPayloads (payload ∷ []) bytes

-- each of these is a change payload that applies to what those before it make of the first checkpoint, and all of them make the other
abbrev pub Extends : Checkpoint → List (List ℕ) → Checkpoint → Type 0
Extends from [] checkpoint = checkpoint ≡ from
Extends from (payload ∷ payloads) checkpoint = (next : Checkpoint) × Applies payload from next × Extends next payloads checkpoint

-- payloads say a checkpoint: the first one is a base payload, and those behind it, applied in order, make the checkpoint of the base's
abbrev pub Says : List (List ℕ) → Checkpoint → Type 0
Says [] checkpoint = ⊥
Says (payload ∷ payloads) checkpoint = (base : Checkpoint) × IsBase payload base × Extends base payloads checkpoint

-- a slot is complete, with this checkpoint: its frame list says it
pub record HasSlot (bytes : List ℕ) (checkpoint : Checkpoint) : Type 0 where
  pub payloads : List (List ℕ)
  pub has : HasPayloads payloads bytes
  pub says : Says payloads checkpoint

-- a slot isn't complete
abbrev pub HasNoSlot : List ℕ → Type 0
HasNoSlot bytes = (checkpoint : Checkpoint) → HasSlot bytes checkpoint → ⊥

-- what a slot holds
abbrev pub IsSlot : List ℕ → Option Checkpoint → Type 0
IsSlot bytes None = HasNoSlot bytes
IsSlot bytes (Some checkpoint) = HasSlot bytes checkpoint

-- the sizes of a slot: none exactly where it isn't complete
abbrev pub AreSizes : List ℕ → Option SlotSizes → Type 0
AreSizes bytes None = HasNoSlot bytes
AreSizes bytes (Some sizes) = HasSizes bytes sizes × ((checkpoint : Checkpoint) × HasSlot bytes checkpoint)

-- the files of slots that haven't ended are longer than the places where their frames end
abbrev pub ReachesSlots : Attached → Option Image → Type 0
ReachesSlots slots now = slots.ended ≡ false → ForSome now (λ v. ReachesSizes slots.first_sizes (v 0) × ReachesSizes slots.second_sizes (v 1))

-- a slot into which a base payload is written: as it was, not complete, or with the new checkpoint
abbrev pub Turns : List ℕ → List ℕ → List ℕ → Type 0
Turns payload old new = (checkpoint : Checkpoint) → IsBase payload checkpoint → (new ≡ old) ⊎ (HasNoSlot new ⊎ HasSlot new checkpoint)

-- a slot into which a base payload was written
abbrev pub Written : List ℕ → List ℕ → List ℕ → Type 0
Written payload old new = (checkpoint : Checkpoint) → IsBase payload checkpoint → HasSlot new checkpoint

-- a slot behind whose frames a change payload is written: with its old checkpoint, or with the changes in it
abbrev pub Lengthens : List ℕ → List ℕ → List ℕ → Type 0
Lengthens payload old new = (before after : Checkpoint) → HasSlot old before → Applies payload before after → HasSlot new before ⊎ HasSlot new after

-- a slot behind whose frames one was written
abbrev pub Lengthened : List ℕ → List ℕ → List ℕ → Type 0
Lengthened payload old new = (before after : Checkpoint) → HasSlot old before → Applies payload before after → HasSlot new after

-- a number of a slot, or none
abbrev pub IsKeep : Option ℕ → Type 0
IsKeep None = ⊤
IsKeep (Some i) = i < 2

-- the slot that is written where that one is kept: the other one, or slot 0
abbrev pub other_of : Option ℕ → ℕ
other_of None = 0
other_of (Some i) = if i == 0 then 1 else 0
