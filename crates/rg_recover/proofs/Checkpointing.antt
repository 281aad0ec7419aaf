-- A checkpoint that was chosen and written.
use Rattle.std.proofs.Common.{◌≡◌, ◌<◌, ℕ, false, List, [], length, Option, Some, refl, sym, ap, subst, arith}
use Rattle.rg_host.specs.Image.{Image, NothingPending}
use Rattle.rg_host.specs.Moments.{Moment}
use Rattle.rg_frame.specs.Steps.{Leaves}
use Rattle.rg_config.specs.Plans.{Planned}
use Rattle.rg_state.specs.Changes.{Marks}
use Rattle.rg_state.specs.Rows.{Cells, Entry, Lists}
use Rattle.rg_engine.specs.Seen.{Seen}
use Rattle.rg_checkpoint.specs.Base.{IsBase}
use Rattle.rg_checkpoint.specs.Sizes.{OfSizes}
use Rattle.rg_checkpoint.specs.Slots.{Attached, IsKeep, Lengthened, Lengthens, Turns, Written, other_of, with_sizes}
use Rattle.rg_checkpoint.specs.declared.base.Checkpoint.{Checkpoint}
use Rattle.rg_checkpoint.specs.declared.sizes.SlotSizes.{SlotSizes}
use Rattle.rg_reservoir.specs.Kept.{base, opened, all_events}
use Rattle.rg_run_spec.specs.Steps.{IsMidStep, IsSavedTo}
use Rattle.rg_open.specs.Opened.{IsToExtend, IsToSave}
use Rattle.rg_open.specs.Stores.{store_of}
use Rattle.rg_open.specs.Truth.{IsTrueOf, texts_of}
use Rattle.rg_recover.specs.Saving.{Framed, HasWritten, IsChosen, IsMarked, IsOfKept, KeepsRows, Turned, Turning, WritesSlot, sizes_then, slot_for}
use Rattle.rg_recover.specs.Sessions.{Sitting, HasKept, IsRunning, count_in}
use Rattle.rg_task.specs.Stepping.{IsWithinStep}
use Rattle.rg_recover.specs.declared.payload.Payload.{Payload}
use Rattle.rg_recover.proofs.Choosing.{keeps_then, slot_below}
use Rattle.rg_recover.proofs.Keeping.{running_keeps}
use Rattle.rg_recover.proofs.Saved.{mid_is_stepped, running_saved, turned_saved, turning_mid}
use Rattle.rg_recover.proofs.Within.{writes_within}
use Rattle.rg_recover.proofs.Writing.{log_stays, written_left}
use Rattle.rg_recover.proofs.Written.{written_keeps}

module _ {H T : Type 0} (now : H → Option Image) (may : H → Image → Type 0) (clock : H → ℕ) (since : H → ℕ → Moment → Type 0) (said : H → Option (List ℕ)) (disk out : H → ℕ)
    (Tells : T → Type 0) (faults : T → ℕ) (cell : T → Cells) (named there : T → Marks) (plan : Planned) (s : Sitting T) (old new : H) (count : ℕ)
    (runs : IsRunning plan (now old) (may old) Tells cell named there s) (empty : opened s.reservoir ≡ []) (legal : IsKeep s.keep) (count_is : count ≡ count_in s.reservoir)
    (law : (checkpoint : Checkpoint) → IsToSave plan (now old) (may old) s.reservoir (cell s.engine.table) checkpoint.spots checkpoint.queries → Lists (cell s.engine.table) checkpoint.rows → checkpoint.count ≡ length (all_events (now old) (base s.reservoir) (opened s.reservoir)) → (u : Image) → may old u → IsTrueOf (u 2) checkpoint)
    (rows : List Entry) (lists : Lists (cell s.engine.table) rows) (payload : Payload)
    (chosen : IsChosen (named s.engine.table) (there s.engine.table) (cell s.engine.table) s.texts count s.engine.spots s.slots s.keep payload)
    (saves : (bytes : List ℕ) (checkpoint : Checkpoint) (v u : Image) → IsKeep s.keep → IsBase bytes checkpoint → now old ≡ Some v → NothingPending (other_of s.keep) (now old) (may old) → ((w : Image) → may old w → IsTrueOf (w 2) checkpoint)
    → Leaves (other_of s.keep) (Turns bytes) (now old) (may old) u → IsMidStep (store_of plan) s.keep [] (may old) u)
    (extends : (slot : ℕ) (sizes : Option SlotSizes) (bytes : List ℕ) (before after : Checkpoint) (u : Image) → IsToExtend plan (now old) (may old) slot sizes bytes before after → Leaves slot (OfSizes sizes (Lengthens bytes)) (now old) (may old) u → IsMidStep (store_of plan) s.keep [] (may old) u)
    (writes : WritesSlot now may clock since said disk out (slot_for s.keep payload) (Turning s.slots payload) old new) where
  -- each moment of it is within a step of the store
  pub chosen_within : IsWithinStep may clock since said (store_of plan) s.keep [] old new
  chosen_within = writes_within now may clock since said (store_of plan) s.keep [] (slot_for s.keep payload) (Turning s.slots payload) old new writes.writes
      (turning_mid plan (now old) (may old) Tells cell named there s count runs empty legal count_is law rows lists saves extends payload chosen)

  module _ (saved : (bytes : List ℕ) (checkpoint : Checkpoint) (v u : Image) → IsKeep s.keep → IsBase bytes checkpoint → now old ≡ Some v → NothingPending (other_of s.keep) (now old) (may old) → ((w : Image) → may old w → IsTrueOf (w 2) checkpoint)
      → checkpoint.queries ≡ texts_of plan.shape plan.queries → Leaves (other_of s.keep) (Written bytes) (now old) (may old) u → IsSavedTo (store_of plan) (other_of s.keep) checkpoint.count (may old) u)
      (extended : (slot : ℕ) (sizes : Option SlotSizes) (bytes : List ℕ) (before after : Checkpoint) (u : Image) → IsToExtend plan (now old) (may old) slot sizes bytes before after → Leaves slot (OfSizes sizes (Lengthened bytes)) (now old) (may old) u → IsSavedTo (store_of plan) slot after.count (may old) u)
      (now_may : (v : Image) → now old ≡ Some v → may old v) (of_kept : IsOfKept s.keep s.slots payload)
      (m f : Seen T) (first : KeepsRows Tells faults cell s.engine m) (second : KeepsRows Tells faults cell m f) (marked : IsMarked Tells named there m.table f.table)
      (done : HasWritten now may (slot_for s.keep payload) (Turned s.slots payload) (Framed s.slots payload) old new)
      (put : Attached) (slot : ℕ) (at : slot ≡ slot_for s.keep payload) (put_is : put ≡ with_sizes slot (sizes_then s.slots payload) (record s.slots { fresh = false })) where
    below : slot < 2
    below = subst (λ (n : ℕ). n < 2) (sym at) (slot_below s.slots s.keep payload legal of_kept)

    all_saved : (u : Image) → may new u → IsSavedTo (store_of plan) slot count (may old) u
    all_saved u one = subst (λ (n : ℕ). IsSavedTo (store_of plan) n count (may old) u) (sym at)
        (turned_saved plan (now old) (may old) Tells cell named there s count runs empty legal count_is law rows lists saved extended payload chosen u
        (written_left (slot_for s.keep payload) (Turned s.slots payload) (now old) (now new) (may old) (may new) done.after done.pending (λ w left. (writes.writes.left w left).0) u one))

    told : Tells m.table
    told = first.rows.tells.1 runs.ready.tells

    both : KeepsRows Tells faults cell s.engine f
    both = keeps_then Tells faults cell s.engine m f first second

    keeps : HasKept (now new) (may new) cell named there (record { reservoir = s.reservoir; engine = f; texts = s.texts; grace = s.grace; slots = put; keep = Some slot; saved = count; ended = false })
    keeps = written_keeps now may clock since said disk out Tells faults cell named there s old new count payload legal of_kept empty count_is runs.ready.tells rows lists chosen writes done now_may m f first second marked put slot at put_is
        (running_keeps plan (now old) (may old) Tells cell named there s runs)

    -- and the session runs behind it
    pub chosen_running : IsRunning plan (now new) (may new) Tells cell named there (record { reservoir = s.reservoir; engine = f; texts = s.texts; grace = s.grace; slots = put; keep = Some slot; saved = count; ended = false })
    chosen_running = running_saved plan (now old) (now new) (may old) (may new) Tells cell named there s f put slot count runs (second.rows.tells.1 told) (both.same runs.ready.tells)
        (ap (λ (e : Seen T). e.plan) both.engine) (ap (λ (e : Seen T). e.spots) both.engine)
        (log_stays (slot_for s.keep payload) (slot_below s.slots s.keep payload legal of_kept) (now old) (now new) (may old) (may new) writes.others (λ w left. (writes.writes.left w left).0))
        keeps.first_settled keeps.second_settled below (omega (arith, count_is, ap length empty))
        (λ u one. mid_is_stepped (store_of plan) s.keep (may old) u (chosen_within.left u one)) all_saved (keeps.since slot refl)
