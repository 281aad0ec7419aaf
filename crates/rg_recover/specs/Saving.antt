-- What can be saved, and what a save writes.
use Rattle.std.specs.Prelude.{◌≡◌, ◌≢◌, ◌⊎◌, ◌<◌, ◌≤◌, ◌+◌, ◌&&◌, nat_le, nat_lt, ℕ, Bool, true, false, List, [], length, Option, Some, None, OnOk, Result, ⊤}
use Rattle.rg_bytes.specs.Counts.{Rose}
use Rattle.rg_host.specs.Image.{Image, Becomes, InFile, NothingPending}
use Rattle.rg_host.specs.Moments.{Moment}
use Rattle.rg_frame.specs.Calls.{Writes}
use Rattle.rg_frame.specs.Steps.{Grown}
use Rattle.rg_past.specs.declared.past.Spot.{Spot}
use Rattle.rg_config.specs.Plans.{Planned}
use Rattle.rg_state.specs.Changes.{Marks, NoMarks, SameMarks}
use Rattle.rg_state.specs.Keeping.{TableKept}
use Rattle.rg_state.specs.Rows.{Cells, Same}
use Rattle.rg_engine.specs.Seen.{Seen}
use Rattle.rg_checkpoint.specs.Base.{IsBase}
use Rattle.rg_checkpoint.specs.Sizes.{HasSizes, OfSizes, sizes_of, more_sizes, longer}
use Rattle.rg_checkpoint.specs.Slots.{Attached, IsKeep, IsOnly, Lengthened, Lengthens, ReachesSlots, Turns, Written, other_of, sizes_in}
use Rattle.rg_checkpoint.specs.Writing.{Encodes, EncodesChanges}
use Rattle.rg_checkpoint.specs.declared.base.Checkpoint.{Checkpoint}
use Rattle.rg_checkpoint.specs.declared.sizes.SlotSizes.{SlotSizes}
use Rattle.rg_reservoir.specs.Kept.{opened}
use Rattle.rg_open.specs.Stores.{store_of}
use Rattle.rg_open.specs.Truth.{texts_of, IsTrueOf}
use Rattle.rg_recover.specs.Sessions.{Sitting, HasKept, IsRunning, count_in}
use Rattle.rg_recover.specs.Sparing.{SparesOne}
use Rattle.rg_task.specs.Stepping.{IsWithinStep}
use Rattle.rg_recover.specs.Stepping.{LogStays}
use Rattle.rg_recover.specs.declared.fault.TaskFault.{TaskFault}
use Rattle.rg_recover.specs.declared.fault.TaskFault.TheVariants.{Disk, Memory, Table}
use Rattle.rg_recover.specs.declared.payload.Payload.{Payload}
use Rattle.rg_recover.specs.declared.payload.Payload.TheVariants.{Base, Changes}

-- The payload is a checkpoint of the plan's queries that is true of the log of each image that might be left, and nothing of the
-- slot that it is to be written into is pending.
pub record IsToWrite (plan : Planned) (now : Option Image) (may : Image → Type 0) (keep : Option ℕ) (payload : List ℕ) (checkpoint : Checkpoint) : Type 0 where
  pub base : IsBase payload checkpoint
  pub image : Image
  pub told : now ≡ Some image
  pub settled : NothingPending (other_of keep) now may
  pub true_of : (u : Image) → may u → IsTrueOf (u 2) checkpoint
  pub texts : checkpoint.queries ≡ texts_of plan.shape plan.queries

-- all events of the session are stored, and the slot that was used or written last has a checkpoint of as many
abbrev pub IsSaved : {T : Type 0} → Sitting T → Type 0
IsSaved s = (slot : ℕ) × (s.keep ≡ Some slot) × (s.saved ≡ count_in s.reservoir) × (opened s.reservoir ≡ [])

-- The rule of a save

-- A change payload of so many bytes may come behind frames of these sizes: the changes are together no longer than the base, and there
-- are fewer than 64 of them before it.
abbrev pub may_extend : SlotSizes → ℕ → Bool
may_extend sizes change = nat_le (sizes.changes + change) sizes.base && nat_lt sizes.frames 64

-- one of the two slots changed so, and the other one is as it was
pub record InSlot (slot : ℕ) (Step : List ℕ → List ℕ → Type 0) (old new : Image) : Type 0 where
  pub there : Step (old slot) (new slot)
  pub beside : (other : ℕ) → other < 2 → other ≢ slot → new other ≡ old other

-- A save of a table, of that count and these spots: `keep` was the slot that was used or written last, and `then` is so now; of the
-- slots the sizes were known that `slots` has, and those of `put` are so now.
module _ (named there : Marks) (cells : Cells) (texts : List (List ℕ)) (count : ℕ) (spots : List Spot) (slots put : Attached) (keep then : Option ℕ) where
  -- What changed since the mark may come behind the frames of the kept slot, and stands there.
  pub record IsAdded (old new : Image) : Type 0 where
    pub slot : ℕ
    pub kept : keep ≡ Some slot
    pub same : then ≡ Some slot
    pub sizes : SlotSizes
    pub known : sizes_in slots slot ≡ Some sizes
    pub change : List ℕ
    pub encodes : EncodesChanges named there cells count spots [] change
    pub allowed : may_extend sizes (length change) ≡ true
    pub more : sizes_in put slot ≡ Some (more_sizes sizes (length change))
    pub frames : InSlot slot (OfSizes (Some sizes) (Grown change)) old new

  -- What changed may not come behind the frames of the kept slot, if there is one whose sizes are known; and the other slot has all rows,
  -- in one frame.
  pub record IsRebased (old new : Image) : Type 0 where
    pub other : then ≡ Some (other_of keep)
    pub why : (slot : ℕ) (sizes : SlotSizes) → keep ≡ Some slot → sizes_in slots slot ≡ Some sizes →
        (change : List ℕ) × EncodesChanges named there cells count spots [] change × (may_extend sizes (length change) ≡ false)
    pub base : List ℕ
    pub encodes : Encodes cells texts count spots [] base
    pub sizes : sizes_in put (other_of keep) ≡ Some (sizes_of (length base))
    pub frames : InSlot (other_of keep) (λ _ bytes. IsOnly base bytes) old new

  -- one of the two
  abbrev pub IsByRule : Image → Image → Type 0
  IsByRule old new = IsAdded old new ⊎ IsRebased old new

-- a save of a session, of all its events, by what its table tells
abbrev pub SavesByRule : {T : Type 0} → (T → Marks) → (T → Marks) → (T → Cells) → Sitting T → Sitting T → Image → Image → Type 0
SavesByRule named there cell s t old new = IsByRule (named s.engine.table) (there s.engine.table) (cell s.engine.table) s.texts (count_in t.reservoir) s.engine.spots s.slots t.slots s.keep t.keep old new

-- A save by the rule where the sizes of the kept slot are known, which are those of its file: so what changed stands
-- behind its frames exactly where
-- it may come there.
pub record SavesExactly {T : Type 0} (named there : T → Marks) (cell : T → Cells) (s t : Sitting T) (old new : Image) : Type 0 where
  pub by_rule : SavesByRule named there cell s t old new
  pub sized : (slot : ℕ) → s.keep ≡ Some slot → (sizes : SlotSizes) × (sizes_in s.slots slot ≡ Some sizes) × HasSizes (old slot) sizes

-- the kept slot has one change payload more, as the rule allows it
pub record IsExtended {T : Type 0} (old new : Sitting T) : Type 0 where
  pub slot : ℕ
  pub kept : old.keep ≡ Some slot
  pub same : new.keep ≡ Some slot
  pub sizes : SlotSizes
  pub change : ℕ
  pub known : sizes_in old.slots slot ≡ Some sizes
  pub allowed : may_extend sizes change ≡ true
  pub more : sizes_in new.slots slot ≡ Some (more_sizes sizes change)

-- What is written

-- into which slot a payload is written
abbrev pub slot_for : Option ℕ → Payload → ℕ
slot_for keep (Base bytes) = other_of keep
slot_for keep (Changes slot bytes) = slot

-- what its file is at a moment of that
abbrev pub Turning : Attached → Payload → List ℕ → List ℕ → Type 0
Turning slots (Base bytes) = Turns bytes.items
Turning slots (Changes slot bytes) = OfSizes (sizes_in slots slot) (Lengthens bytes.items)

-- what it has after it
abbrev pub Turned : Attached → Payload → List ℕ → List ℕ → Type 0
Turned slots (Base bytes) = Written bytes.items
Turned slots (Changes slot bytes) = OfSizes (sizes_in slots slot) (Lengthened bytes.items)

-- and what its frames are
abbrev pub Framed : Attached → Payload → List ℕ → List ℕ → Type 0
Framed slots (Base bytes) = λ _ new. IsOnly bytes.items new
Framed slots (Changes slot bytes) = OfSizes (sizes_in slots slot) (Grown bytes.items)

-- and of what sizes
abbrev pub sizes_then : Attached → Payload → Option SlotSizes
sizes_then slots (Base bytes) = Some (sizes_of (length bytes.items))
sizes_then slots (Changes slot bytes) = longer (sizes_in slots slot) (length bytes.items)

-- the kept slot, and the sizes that are known of what stands in it
abbrev pub IsKnown : Attached → Option ℕ → Option (ℕ × SlotSizes) → Type 0
IsKnown slots keep None = (slot : ℕ) (sizes : SlotSizes) → keep ≡ Some slot → sizes_in slots slot ≡ Some sizes → ⊥
IsKnown slots keep (Some found) = (keep ≡ Some found.0) × (sizes_in slots found.0 ≡ Some found.1)

-- what was chosen where a slot of these sizes is kept
abbrev pub IsChosenOver : Marks → Marks → Cells → List (List ℕ) → ℕ → List Spot → SlotSizes → Payload → Type 0
IsChosenOver named there cells texts count spots sizes (Base bytes) = Encodes cells texts count spots [] bytes.items × ((change : List ℕ) × EncodesChanges named there cells count spots [] change × (may_extend sizes (length change) ≡ false))
IsChosenOver named there cells texts count spots sizes (Changes slot bytes) = EncodesChanges named there cells count spots [] bytes.items × (may_extend sizes (length bytes.items) ≡ true)

-- changes are of that slot, and may come behind its frames
abbrev pub IsOfSlot : ℕ → SlotSizes → Payload → Type 0
IsOfSlot slot sizes (Base bytes) = ⊤
IsOfSlot slot sizes (Changes number bytes) = (number ≡ slot) × (may_extend sizes (length bytes.items) ≡ true)

-- changes are of the kept slot, and may come behind its frames, whose sizes are known
abbrev pub IsOfKept : Option ℕ → Attached → Payload → Type 0
IsOfKept keep slots (Base bytes) = ⊤
IsOfKept keep slots (Changes slot bytes) = (keep ≡ Some slot) × ((sizes : SlotSizes) × (sizes_in slots slot ≡ Some sizes) × (may_extend sizes (length bytes.items) ≡ true))

-- a payload was chosen by the rule
abbrev pub IsChosen : Marks → Marks → Cells → List (List ℕ) → ℕ → List Spot → Attached → Option ℕ → Payload → Type 0
IsChosen named there cells texts count spots slots keep (Base bytes) = Encodes cells texts count spots [] bytes.items × ((slot : ℕ) (sizes : SlotSizes) → keep ≡ Some slot → sizes_in slots slot ≡ Some sizes →
    (change : List ℕ) × EncodesChanges named there cells count spots [] change × (may_extend sizes (length change) ≡ false))
IsChosen named there cells texts count spots slots keep (Changes slot bytes) = EncodesChanges named there cells count spots [] bytes.items × (keep ≡ Some slot)
    × ((sizes : SlotSizes) × (sizes_in slots slot ≡ Some sizes) × (may_extend sizes (length bytes.items) ≡ true))

-- Of an engine nothing but its table may have changed, and that keeps its rows.
pub record KeepsRows {T : Type 0} (Tells : T → Type 0) (faults : T → ℕ) (cell : T → Cells) (old new : Seen T) : Type 0 where
  pub engine : new ≡ record old { table = new.table }
  pub rows : TableKept Tells faults old.table new.table
  pub same : Tells old.table → Same (cell old.table) (cell new.table)

-- Of an engine nothing but its table may have changed, and that keeps its rows and its marks.
pub record KeepsMarks {T : Type 0} (Tells : T → Type 0) (faults : T → ℕ) (cell : T → Cells) (named there : T → Marks) (old new : Seen T) : Type 0 where
  pub engine : new ≡ record old { table = new.table }
  pub rows : TableKept Tells faults old.table new.table
  pub same : Tells old.table → Same (cell old.table) (cell new.table)
  pub same_named : Tells old.table → SameMarks (named old.table) (named new.table)
  pub same_there : Tells old.table → SameMarks (there old.table) (there new.table)

-- and the table was marked
pub record IsMarked {T : Type 0} (Tells : T → Type 0) (named there : T → Marks) (old new : T) : Type 0 where
  pub none_named : Tells old → NoMarks (named new)
  pub none_there : Tells old → NoMarks (there new)

-- why nothing could be encoded
abbrev pub IsWant : {T : Type 0} → (T → ℕ) → T → T → TaskFault → Type 0
IsWant faults old new fault = (fault ≡ Memory) ⊎ ((fault ≡ Table) × Rose (faults old) (faults new))

-- What must hold before a payload is put: the slots go on and lie inside their files, and changes are of the kept slot.
pub record IsToPut (now : Option Image) (keep : Option ℕ) (slots : Attached) (payload : Payload) : Type 0 where
  pub keep_is : IsKeep keep
  pub going : slots.ended ≡ false
  pub kept : IsOfKept keep slots payload
  pub reaches : ReachesSlots slots now

module _ {H : Type 0} (now : H → Option Image) (may : H → Image → Type 0) (clock : H → ℕ) (since : H → ℕ → Moment → Type 0) (said : H → Option (List ℕ)) (disk out : H → ℕ) where
  -- That slot alone was written, such that it was after this step at each moment, and nothing was put out.
  pub record WritesSlot (slot : ℕ) (Step : List ℕ → List ℕ → Type 0) (old new : H) : Type 0 where
    pub writes : Writes now may clock since said slot Step old new
    pub others : Becomes (now old) (now new) (InFile slot (λ _ _. ⊤))
    pub others_pending : (f : ℕ) → f ≢ slot → NothingPending f (now old) (may old) → NothingPending f (now new) (may new)
    pub disk_faults : disk old ≤ disk new
    pub out_faults : out new ≡ out old

module _ {H : Type 0} (now : H → Option Image) (may : H → Image → Type 0) where
  -- The writing of a slot is done, and nothing of it is pending.
  pub record HasWritten (slot : ℕ) (After Frames : List ℕ → List ℕ → Type 0) (old new : H) : Type 0 where
    pub after : Becomes (now old) (now new) (InFile slot After)
    pub frames : Becomes (now old) (now new) (InFile slot Frames)
    pub pending : NothingPending slot (now new) (may new)

-- The writing of a checkpoint

-- What must hold before it: the session goes on, all its events are stored, and its slots lie inside their files.
pub record IsToSave {T : Type 0} (now : Option Image) (s : Sitting T) : Type 0 where
  pub going : s.ended ≡ false
  pub empty : opened s.reservoir ≡ []
  pub slots : ReachesSlots s.slots now

module _ {H T : Type 0} (now : H → Option Image) (may : H → Image → Type 0) (said : H → Option (List ℕ)) (disk out : H → ℕ) (Tells : T → Type 0) (faults : T → ℕ) (cell : T → Cells) where
  -- What it leaves of a session and its host, whatever the answer: the log, the events and the rows.
  pub record IsBeside (s t : Sitting T) (old new : H) : Type 0 where
    pub log : LogStays (now old) (now new) (may old) (may new)
    pub reservoir : t.reservoir ≡ s.reservoir
    pub grace : t.grace ≡ s.grace
    pub engine : KeepsRows Tells faults cell s.engine t.engine
    pub slots : ReachesSlots t.slots (now new)
    pub said_stays : said new ≡ said old
    pub disk_faults : disk old ≤ disk new
    pub out_faults : out new ≡ out old

module _ {H T : Type 0} (now : H → Option Image) (may : H → Image → Type 0) (cell : T → Cells) (named there : T → Marks) where
  -- What is told of it, where the table tells its rows: it is by the rule, what is kept of a slot is kept of the one that was written, and
  -- nothing is marked.
  pub record IsSavedAs (s t : Sitting T) (old new : H) : Type 0 where
    pub rule : Becomes (now old) (now new) (SavesByRule named there cell s t)
    pub keeps : HasKept (now old) (may old) cell named there s → HasKept (now new) (may new) cell named there t
    pub none_named : NoMarks (named t.engine.table)
    pub none_there : NoMarks (there t.engine.table)

module _ {H T : Type 0} (now : H → Option Image) (may : H → Image → Type 0) (clock : H → ℕ) (since : H → ℕ → Moment → Type 0) (said : H → Option (List ℕ)) (Tells : T → Type 0) (cell : T → Cells) (named there : T → Marks) where
  -- Of a session of a plan that runs: each moment of it is within a step that adds nothing, and it runs then.
  pub record RunsOn {A : Type 0} (plan : Planned) (result : Result A TaskFault) (s t : Sitting T) (old new : H) : Type 0 where
    pub within_step : IsWithinStep may clock since said (store_of plan) s.keep [] old new
    pub running : OnOk result (IsRunning plan (now new) (may new) Tells cell named there t)

-- What a session has after it.
pub record IsSavedNow {T : Type 0} (Spared : ℕ → Type 0) (s t : Sitting T) (count : ℕ) : Type 0 where
  pub count_is : count ≡ count_in t.reservoir
  pub saved : t.saved ≡ count_in t.reservoir
  pub kept : (slot : ℕ) × (t.keep ≡ Some slot)
  pub written : (t.keep ≡ Some (other_of s.keep)) ⊎ IsExtended s t
  pub spared : (slot : ℕ) → slot < 2 → t.keep ≢ Some slot → Spared slot
  pub going : t.ended ≡ false

-- Why it failed: the session has ended, the marks are as they were, and one of the slots at least was left alone.
pub record IsLeft {T : Type 0} (Tells : T → Type 0) (faults : T → ℕ) (named there : T → Marks) (Spared : ℕ → Type 0) (rose : Type 0) (s t : Sitting T) (fault : TaskFault) : Type 0 where
  pub cause : (fault ≡ Disk) ⊎ ((fault ≡ Memory) ⊎ (fault ≡ Table))
  pub disk : fault ≡ Disk → rose
  pub table : fault ≡ Table → Rose (faults s.engine.table) (faults t.engine.table)
  pub same_named : Tells s.engine.table → SameMarks (named s.engine.table) (named t.engine.table)
  pub same_there : Tells s.engine.table → SameMarks (there s.engine.table) (there t.engine.table)
  pub spares : SparesOne Spared s.keep fault
  pub ended : t.ended ≡ true
