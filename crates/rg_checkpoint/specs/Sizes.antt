-- How large the payloads of a slot are, and where its frames end.
use Rattle.std.specs.Prelude.{◌≡◌, ℕ, ◌+◌, ◌*◌, ◌<◌, List, [], ◌∷◌, length, Option, Some, None, ⊤}
use Rattle.rg_frame.specs.Frames.{HasPayloads}
use Rattle.rg_checkpoint.specs.declared.sizes.SlotSizes.{SlotSizes}

-- the lengths of these together
abbrev pub total : List (List ℕ) → ℕ
total [] = 0
total (payload ∷ payloads) = length payload + total payloads

-- a base payload and the change payloads behind it are of these sizes
pub record AreOf (base : List ℕ) (changes : List (List ℕ)) (sizes : SlotSizes) : Type 0 where
  pub base_is : sizes.base ≡ length base
  pub changes_is : sizes.changes ≡ total changes
  pub frames_is : sizes.frames ≡ length changes

-- the frame list of a file is a payload and others behind it, of these sizes
pub record HasSizes (bytes : List ℕ) (sizes : SlotSizes) : Type 0 where
  pub base : List ℕ
  pub changes : List (List ℕ)
  pub has : HasPayloads (base ∷ changes) bytes
  pub are : AreOf base changes sizes

-- the place where the frames end: each has a gate of 1 byte and a length of 8 before its payload
abbrev pub end_of : SlotSizes → ℕ
end_of sizes = 9 + sizes.base + (9 * sizes.frames + sizes.changes)

-- those of a base payload of that length alone
abbrev pub sizes_of : ℕ → SlotSizes
sizes_of base = record { base = base; changes = 0; frames = 0 }

-- with one change payload of that length more
abbrev pub more_sizes : SlotSizes → ℕ → SlotSizes
more_sizes sizes change = record { base = sizes.base; changes = sizes.changes + change; frames = sizes.frames + 1 }

-- the sizes of a slot, if it has any, with one change payload of that length more
abbrev pub longer : Option SlotSizes → ℕ → Option SlotSizes
longer None change = None
longer (Some sizes) change = Some (more_sizes sizes change)

-- a step of a file, where it was of these sizes before it
abbrev pub OfSizes : Option SlotSizes → (List ℕ → List ℕ → Type 0) → List ℕ → List ℕ → Type 0
OfSizes known Step old new = (sizes : SlotSizes) → known ≡ Some sizes → HasSizes old sizes → Step old new

-- a file is longer than the place where frames of these sizes end
abbrev pub ReachesSizes : Option SlotSizes → List ℕ → Type 0
ReachesSizes None bytes = ⊤
ReachesSizes (Some sizes) bytes = end_of sizes < length bytes
