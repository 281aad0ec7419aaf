-- A slot that was written for a session.
use Rattle.std.proofs.Common.{◌≡◌, ◌≢◌, ◌⊎◌, inl, inr, ◌<◌, ℕ, true, false, List, [], length, Option, Some, refl, sym, ap, subst, arith}
use Rattle.rg_bytes.specs.Counts.{Rose}
use Rattle.rg_host.specs.Image.{Image, NothingPending}
use Rattle.rg_host.specs.Moments.{Moment}
use Rattle.rg_state.specs.Changes.{Marks}
use Rattle.rg_state.specs.Rows.{Cells, Entry, Lists}
use Rattle.rg_engine.specs.Seen.{Seen}
use Rattle.rg_checkpoint.specs.Slots.{Attached, IsKeep, other_of, sizes_in, with_sizes}
use Rattle.rg_checkpoint.specs.declared.sizes.SlotSizes.{SlotSizes}
use Rattle.rg_reservoir.specs.Kept.{opened}
use Rattle.rg_open.specs.Opened.{IsKeptSince}
use Rattle.rg_recover.specs.Saving.{Framed, HasWritten, IsChosen, IsLeft, IsMarked, IsOfKept, IsWant, KeepsMarks, KeepsRows, Turned, Turning, WritesSlot, sizes_then, slot_for}
use Rattle.rg_recover.specs.Sessions.{Sitting, HasKept, count_in}
use Rattle.rg_recover.specs.Sparing.{IsSpared}
use Rattle.rg_recover.specs.declared.fault.TaskFault.{TaskFault}
use Rattle.rg_recover.specs.declared.fault.TaskFault.TheVariants.{Disk, Memory, Table}
use Rattle.rg_recover.specs.declared.payload.Payload.{Payload}
use Rattle.rg_recover.specs.declared.payload.Payload.TheVariants.{Base, Changes}
use Rattle.rg_recover.proofs.Choosing.{keeps_then, sizes_put, slot_below}
use Rattle.rg_recover.proofs.Keeping.{kept_chosen}
use Rattle.rg_recover.proofs.Saved.{some_same}
use Rattle.rg_recover.proofs.Sparing.{spared_beside, spares_both}
use Rattle.rg_recover.proofs.Writing.{settled_by}

module _ {H : Type 0} (now : H → Option Image) (may : H → Image → Type 0) (clock : H → ℕ) (since : H → ℕ → Moment → Type 0) (said : H → Option (List ℕ)) (disk out : H → ℕ) (keep : Option ℕ) (slots : Attached) (payload : Payload) (old new : H)
    (writes : WritesSlot now may clock since said disk out (slot_for keep payload) (Turning slots payload) old new) where
  -- a slot beside it is spared
  pub written_spares : (slot : ℕ) → slot ≢ slot_for keep payload → IsSpared now may clock since slot old new
  written_spares slot apart = spared_beside now may clock since said (slot_for keep payload) slot (Turning slots payload) old new apart writes.writes

  -- nothing of a slot is pending after it
  pub written_settled : HasWritten now may (slot_for keep payload) (Turned slots payload) (Framed slots payload) old new → (file : ℕ) → NothingPending file (now old) (may old) → NothingPending file (now new) (may new)
  written_settled done file was = settled_by file (slot_for keep payload) (λ (f : ℕ). NothingPending f (now new) (may new)) done.pending (λ apart. writes.others_pending file apart was)

-- what is kept of it
module _ {H T : Type 0} (now : H → Option Image) (may : H → Image → Type 0) (clock : H → ℕ) (since : H → ℕ → Moment → Type 0) (said : H → Option (List ℕ)) (disk out : H → ℕ) (Tells : T → Type 0) (faults : T → ℕ) (cell : T → Cells) (named there : T → Marks)
    (s : Sitting T) (old new : H) (count : ℕ) (payload : Payload) (legal : IsKeep s.keep) (of_kept : IsOfKept s.keep s.slots payload) (empty : opened s.reservoir ≡ []) (count_is : count ≡ count_in s.reservoir) (told : Tells s.engine.table)
    (rows : List Entry) (lists : Lists (cell s.engine.table) rows) (chosen : IsChosen (named s.engine.table) (there s.engine.table) (cell s.engine.table) s.texts count s.engine.spots s.slots s.keep payload)
    (writes : WritesSlot now may clock since said disk out (slot_for s.keep payload) (Turning s.slots payload) old new) (done : HasWritten now may (slot_for s.keep payload) (Turned s.slots payload) (Framed s.slots payload) old new)
    (now_may : (v : Image) → now old ≡ Some v → may old v) (m f : Seen T) (first : KeepsRows Tells faults cell s.engine m) (second : KeepsRows Tells faults cell m f) (marked : IsMarked Tells named there m.table f.table)
    (put : Attached) (slot : ℕ) (at : slot ≡ slot_for s.keep payload) (put_is : put ≡ with_sizes slot (sizes_then s.slots payload) (record s.slots { fresh = false })) (keeps : HasKept (now old) (may old) cell named there s) where
  kept : IsKeptSince (may new) slot count s.texts (sizes_in put slot) (named f.table) (there f.table) (cell f.table)
  kept =
      subst (λ (o : Option SlotSizes). IsKeptSince (may new) slot count s.texts o (named f.table) (there f.table) (cell f.table)) (sym (sizes_put s.slots put slot (sizes_then s.slots payload) (subst (λ (n : ℕ). n < 2) (sym at) (slot_below s.slots s.keep payload legal of_kept)) put_is))
      (subst (λ (n : ℕ). IsKeptSince (may new) n count s.texts (sizes_then s.slots payload) (named f.table) (there f.table) (cell f.table)) (sym at)
      (kept_chosen (now old) (may old) cell named there s count keeps empty count_is rows lists now_may (now new) (may new) f.table ((keeps_then Tells faults cell s.engine m f first second).same told) (marked.none_named (first.rows.tells.1 told)) payload chosen done.after done.frames done.pending))

  pub written_keeps : HasKept (now new) (may new) cell named there (record { reservoir = s.reservoir; engine = f; texts = s.texts; grace = s.grace; slots = put; keep = Some slot; saved = count; ended = false })
  written_keeps =
      let after = done.after.told keeps.image keeps.told in
      let settled = written_settled now may clock since said disk out s.keep s.slots payload old new writes done in
      record {
        image = after.0;
        told = after.1;
        first_settled = settled 0 keeps.first_settled;
        second_settled = settled 1 keeps.second_settled;
        stored = λ n is. omega (arith, count_is, ap length empty);
        since = λ n is. subst (λ (i : ℕ). IsKeptSince (may new) i count s.texts (sizes_in put i) (named f.table) (there f.table) (cell f.table)) (some_same slot n is) kept;
      }

-- why a checkpoint wasn't written
module _ {T : Type 0} (Tells : T → Type 0) (faults : T → ℕ) (cell : T → Cells) (named there : T → Marks) (Spared : ℕ → Type 0) (rose : Type 0) (s t : Sitting T) (fault : TaskFault) (ends : t.ended ≡ true) (keeps : KeepsMarks Tells faults cell named there s.engine t.engine) where
  -- nothing was encoded
  pub left_unchosen : IsWant faults s.engine.table t.engine.table fault → ((slot : ℕ) → slot < 2 → Spared slot) → IsLeft Tells faults named there Spared rose s t fault
  left_unchosen want both = record {
    cause = cause_of want;
    disk = λ is. absurd (no_disk want is);
    table = at_table want;
    same_named = keeps.same_named;
    same_there = keeps.same_there;
    spares = spares_both Spared s.keep fault both;
    ended = ends;
  }
    where
      cause_of : IsWant faults s.engine.table t.engine.table fault → (fault ≡ Disk) ⊎ ((fault ≡ Memory) ⊎ (fault ≡ Table))
      cause_of (inl memory) = inr (inl memory)
      cause_of (inr rows) = inr (inr rows.0)

      no_disk : IsWant faults s.engine.table t.engine.table fault → fault ≡ Disk → ⊥
      no_disk (inl memory) is = absurd cc
      no_disk (inr rows) is = let e = rows.0 in absurd cc

      at_table : IsWant faults s.engine.table t.engine.table fault → fault ≡ Table → Rose (faults s.engine.table) (faults t.engine.table)
      at_table (inl memory) is = absurd cc
      at_table (inr rows) is = rows.1

  -- it was encoded, and wasn't written whole
  pub left_unput : (payload : Payload) → IsOfKept s.keep s.slots payload → fault ≡ Disk → rose → ((slot : ℕ) → slot ≢ slot_for s.keep payload → Spared slot) → IsLeft Tells faults named there Spared rose s t fault
  left_unput payload of_kept is rises beside = record {
    cause = inl is;
    disk = λ same. rises;
    table = λ table. absurd cc;
    same_named = keeps.same_named;
    same_there = keeps.same_there;
    spares = record { slot = slot_for s.keep payload; which = which_of payload of_kept; beside = λ other below apart. beside other apart; both = λ none. absurd (none is) };
    ended = ends;
  }
    where
      which_of : (p : Payload) → IsOfKept s.keep s.slots p → (slot_for s.keep p ≡ other_of s.keep) ⊎ (s.keep ≡ Some (slot_for s.keep p))
      which_of (Base bytes) of = inl refl
      which_of (Changes slot bytes) of = inr of.0
