-- What a run of calls that write one file leaves.
use Rattle.std.specs.Prelude.{◌≡◌, ◌≢◌, ℕ, ◌+◌, ◌<◌, ◌≤◌, ◌^◌, List, [], ◌∷◌, length, slice_index, Option, ⊤}
use Rattle.std.specs.Option.{ForSome}
use Rattle.rg_host.specs.Image.{Image, Becomes, InFile, Holds, NothingPending}
use Rattle.rg_host.specs.Moments.{Moment, Moments, LeavesAll}
use Rattle.rg_frame.specs.Frames.{FitsFrame, HasPayloads}
use Rattle.rg_frame.specs.LogState.{Reaches}
use Rattle.rg_frame.specs.Steps.{Leaves, OldOrNone, Added, Appended, Shut, Staged}

module _ {H : Type 0} (now : H → Option Image) (may : H → Image → Type 0) (clock : H → ℕ) (since : H → ℕ → Moment → Type 0) (said : H → Option (List ℕ)) where
  -- this file alone was written, such that it was after this step at each moment, and nothing was put out
  pub record Writes (file : ℕ) (Step : List ℕ → List ℕ → Type 0) (old new : H) : Type 0 where
    pub moments : Moments clock since old new (λ m. Leaves file Step (now old) (may old) m.image × ForSome (said old) (λ s. m.said ≡ s))
    pub left : (v : Image) → may new v → Leaves file Step (now old) (may old) v
    pub said_stays : said new ≡ said old

-- a frame may be added at that place of a file: there is such a file, and it reaches the place
pub record MayAdd (now : Option Image) (file end : ℕ) : Type 0 where
  pub numbered : file < 8
  pub room : end ≤ 2 ^ 62
  pub reaches : ForSome now (λ v. Reaches end (v file))

-- What the steps of an append do, and a close.
module _ {H : Type 0} (now : H → Option Image) (may : H → Image → Type 0) where
  -- a frame with a closed gate behind it was written behind the gate at that place and settled, and may be so long
  pub record HasStaged (file end : ℕ) (payload : List ℕ) (old new : H) : Type 0 where
    pub staged : Becomes (now old) (now new) (InFile file (Staged end payload))
    pub settled : NothingPending file (now new) (may new)
    pub limit : end + 10 + length payload ≤ 2 ^ 62
    pub fits : FitsFrame payload

  -- the gate at that place was opened and settled
  pub record HasOpened (file end : ℕ) (old new : H) : Type 0 where
    pub opened : Becomes (now old) (now new) (InFile file (Holds end (1 ∷ [])))
    pub settled : NothingPending file (now new) (may new)

  -- a frame was added at that place and settled, the file reaches the next one, and the frame may be so long
  pub record HasAdded (file end : ℕ) (payload : List ℕ) (old new : H) : Type 0 where
    pub appended : Becomes (now old) (now new) (InFile file (Appended end payload (end + 9 + length payload)))
    pub added : Becomes (now old) (now new) (InFile file (Added end payload))
    pub reaches : ForSome (now new) (λ v. Reaches (end + 9 + length payload) (v file))
    pub pending : NothingPending file (now new) (may new)
    pub limit : end + 10 + length payload ≤ 2 ^ 62

  -- the file has no frame, its gate is closed and the rest as it was, and where nothing of it was pending nothing is
  pub record HasClosed (file : ℕ) (old new : H) : Type 0 where
    pub none : Becomes (now old) (now new) (InFile file (λ _ bytes. HasPayloads [] bytes))
    pub shut : Becomes (now old) (now new) (InFile file Shut)
    pub pending : NothingPending file (now old) (may old) → NothingPending file (now new) (may new)

-- What a call that reads, a step of an append, and a close leave, done or not.
module _ {H : Type 0} (now : H → Option Image) (may : H → Image → Type 0) (clock : H → ℕ) (since : H → ℕ → Moment → Type 0) (said : H → Option (List ℕ)) (disk out looks : H → ℕ) where
  -- nothing was written or put; and as each call does, it counts what failed and what was read
  pub record ReadsOnly (old new : H) : Type 0 where
    pub leaves : LeavesAll now may clock since said old new
    pub disk_faults : disk old ≤ disk new
    pub out_faults : out new ≡ out old
    pub reads : looks old ≤ looks new

  -- this file alone was written, such that it was after this step at each moment, and nothing was put or read
  pub record WritesOne (file : ℕ) (Step : List ℕ → List ℕ → Type 0) (old new : H) : Type 0 where
    pub writes : Writes now may clock since said file Step old new
    pub others : Becomes (now old) (now new) (InFile file (λ _ _. ⊤))
    pub disk_faults : disk old ≤ disk new
    pub out_faults : out new ≡ out old
    pub reads : looks new ≡ looks old

  -- this file alone was written, where its gate was open, such that it is as it was or has no frame at each moment, and nothing was put
  pub record WritesShut (file : ℕ) (old new : H) : Type 0 where
    pub closed : ForSome (now old) (λ v. slice_index (v file) 0 ≢ 1 → LeavesAll now may clock since said old new)
    pub writes : Writes now may clock since said file OldOrNone old new
    pub others : Becomes (now old) (now new) (InFile file (λ _ _. ⊤))
    pub disk_faults : disk old ≤ disk new
    pub out_faults : out new ≡ out old
    pub reads : looks old ≤ looks new
