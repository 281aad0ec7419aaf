-- What is kept of the slot that was used or written last, over any image that reads give.
use Rattle.std.proofs.Common.{◌≡◌, ◌<◌, ◌≤◌, ℕ, zero, suc, true, List, [], length, Option, Some, refl, sym, ◌∙◌, ap, subst, arith, true≢false}
use Rattle.std.specs.Prelude.{is_some}
use Rattle.rg_host.specs.Image.{Image, Becomes, InFile, NothingPending}
use Rattle.rg_frame.specs.Steps.{Grown}
use Rattle.rg_past.specs.declared.past.Spot.{Spot}
use Rattle.rg_config.specs.Plans.{Planned}
use Rattle.rg_state.specs.Changes.{Marks, NoMarks, IsSince}
use Rattle.rg_state.specs.Rows.{Cells, Entry, Lists, Same, at_in}
use Rattle.rg_state.proofs.Laws.{at_lists}
use Rattle.rg_checkpoint.specs.Base.{IsBase}
use Rattle.rg_checkpoint.specs.Sizes.{HasSizes, OfSizes, longer, more_sizes, sizes_of}
use Rattle.rg_checkpoint.specs.Slots.{AreSizes, Attached, HasSlot, IsOnly, Lengthened, Written, other_of, sizes_in}
use Rattle.rg_checkpoint.specs.Updates.{Applies, IsUpdate}
use Rattle.rg_checkpoint.specs.Writing.{Encodes, EncodesChanges}
use Rattle.rg_checkpoint.specs.declared.base.Checkpoint.{Checkpoint}
use Rattle.rg_checkpoint.specs.declared.sizes.SlotSizes.{SlotSizes}
use Rattle.rg_checkpoint.proofs.Laws.{payload_applies, grown_sizes, only_sizes}
use Rattle.rg_reservoir.specs.Kept.{base, opened}
use Rattle.rg_open.specs.Opened.{IsKeptSince}
use Rattle.rg_recover.specs.Saving.{Framed, IsChosen, Turned, sizes_then, slot_for}
use Rattle.rg_recover.specs.Sessions.{Sitting, HasKept, IsRunning, count_in}
use Rattle.rg_recover.specs.Stepping.{SlotsStay}
use Rattle.rg_recover.specs.declared.payload.Payload.{Payload}
use Rattle.rg_recover.specs.declared.payload.Payload.TheVariants.{Base, Changes}
use Rattle.rg_recover.proofs.Stays.{kept_on, slot_settled}

-- of a session that runs
pub running_keeps : {T : Type 0} (plan : Planned) (now : Option Image) (may : Image → Type 0) (Tells : T → Type 0) (cell : T → Cells) (named there : T → Marks) (s : Sitting T) → IsRunning plan now may Tells cell named there s → HasKept now may cell named there s
running_keeps plan now may Tells cell named there s runs = record {
  image = runs.ready.in_step.reservoir.sound.0;
  told = runs.ready.in_step.reservoir.sound.1;
  first_settled = runs.first_settled;
  second_settled = runs.second_settled;
  stored = λ slot is. (runs.kept slot is).stored;
  since = runs.since;
}

-- a slot whose sizes are known is one of the two
pub known_below : (slots : Attached) (slot : ℕ) → is_some (sizes_in slots slot) ≡ true → slot < 2
known_below slots zero known = omega arith
known_below slots (suc zero) known = omega arith
known_below slots (suc (suc slot)) known = absurd cc

-- where the slots' files stay and a table goes on
pub keeps_still : {T : Type 0} (now then : Option Image) (may after : Image → Type 0) (cell : T → Cells) (named there : T → Marks) (s new : Sitting T) → HasKept now may cell named there s → SlotsStay now then may after
    → ((rows : Cells) → IsSince rows (named s.engine.table) (there s.engine.table) (cell s.engine.table) → IsSince rows (named new.engine.table) (there new.engine.table) (cell new.engine.table))
    → new.keep ≡ s.keep → new.saved ≡ s.saved → new.texts ≡ s.texts → new.slots ≡ s.slots → (base s.reservoir).committed ≤ (base new.reservoir).committed → HasKept then after cell named there new
keeps_still now then may after cell named there s new keeps stays goes keep saved texts slots more = record {
  image = (stays.told keeps.image keeps.told).0;
  told = (stays.told keeps.image keeps.told).1;
  first_settled = slot_settled now then may after 0 (omega arith) stays keeps.first_settled;
  second_settled = slot_settled now then may after 1 (omega arith) stays keeps.second_settled;
  stored = λ slot is. omega (arith, saved, keeps.stored slot (sym keep ∙ is), more);
  since = λ slot is.
      let was = keeps.since slot (sym keep ∙ is) in
      let e = new.engine.table in
      subst (λ (n : ℕ). IsKeptSince after slot n new.texts (sizes_in new.slots slot) (named e) (there e) (cell e)) (sym saved)
      (subst (λ (l : List (List ℕ)). IsKeptSince after slot s.saved l (sizes_in new.slots slot) (named e) (there e) (cell e)) (sym texts)
      (subst (λ (p : Attached). IsKeptSince after slot s.saved s.texts (sizes_in p slot) (named e) (there e) (cell e)) (sym slots)
      (kept_on may after slot s.saved s.texts (sizes_in s.slots slot) (named s.engine.table) (there s.engine.table) (named e) (there e) (cell s.engine.table) (cell e) (known_below s.slots slot was.known) stays.left goes was)));
}

abbrev pub checkpoint_of : List (List ℕ) → ℕ → List Spot → List Entry → Checkpoint
checkpoint_of texts count spots rows = record { queries = texts; count = count; spots = spots; rows = rows }

-- what changed since a checkpoint makes of it the checkpoint of now
pub change_applies : (may : Image → Type 0) (slot saved : ℕ) (texts : List (List ℕ)) (sizes : Option SlotSizes) (named there : Marks) (cells : Cells) (since : IsKeptSince may slot saved texts sizes named there cells) (count : ℕ) (spots : List Spot) (payload : List ℕ)
    → EncodesChanges named there cells count spots [] payload → (rows : List Entry) → Lists cells rows → saved ≤ count → Applies payload since.checkpoint (checkpoint_of texts count spots rows)
change_applies may slot saved texts sizes named there cells since count spots payload enc rows lists few =
    payload_applies payload since.checkpoint (checkpoint_of texts count spots rows) enc.rows named there cells since.since enc.lists
    (subst (λ (p : List ℕ). IsUpdate p (record { count = count; spots = spots; rows = enc.rows })) (sym enc.added) enc.is) lists (sym since.texts_are) (omega (arith, since.count, few))

-- of the slot that was written, where all events are stored and the table was marked
module _ {T : Type 0} (now : Option Image) (may : Image → Type 0) (cell : T → Cells) (named there : T → Marks) (s : Sitting T) (count : ℕ) (keeps : HasKept now may cell named there s) (empty : opened s.reservoir ≡ []) (count_is : count ≡ count_in s.reservoir)
    (rows : List Entry) (lists : Lists (cell s.engine.table) rows) (now_may : (v : Image) → now ≡ Some v → may v) (then : Option Image) (after : Image → Type 0) (f : T) (same : Same (cell s.engine.table) (cell f)) (none : NoMarks (named f)) where
  since_mark : (l : List Entry) → Lists (cell s.engine.table) l → IsSince (at_in l) (named f) (there f) (cell f)
  since_mark l is = record {
    unnamed = λ n key off. same n key ∙ at_lists (cell s.engine.table) l n key is;
    stood = λ n key on. absurd (true≢false (sym on ∙ none n key));
  }

  -- in each image that might be left it is as reads give it
  settled_as : (slot : ℕ) (P : List ℕ → Type 0) (w : Image) → then ≡ Some w → NothingPending slot then after → P (w slot) → (u : Image) → after u → P (u slot)
  settled_as slot P w told pending is u one = subst P (sym (pending w told u one)) is

  kept_base : (payload : List ℕ) (enc : Encodes (cell s.engine.table) s.texts count s.engine.spots [] payload) → Becomes now then (InFile (other_of s.keep) (Written payload)) → Becomes now then (InFile (other_of s.keep) (λ _ bytes. IsOnly payload bytes))
      → NothingPending (other_of s.keep) then after → IsKeptSince after (other_of s.keep) count s.texts (Some (sizes_of (length payload))) (named f) (there f) (cell f)
  kept_base payload enc written only pending =
      let slot = other_of s.keep in
      let saved = checkpoint_of s.texts count s.engine.spots enc.rows in
      let is : IsBase payload saved = subst (λ (p : List ℕ). IsBase p saved) (sym enc.added) enc.base in
      let w = written.told keeps.image keeps.told in
      let x = only.told keeps.image keeps.told in
      let has = settled_as slot (λ bytes. HasSlot bytes saved) w.0 w.1 pending (w.2.there saved is) in
      record {
        checkpoint = saved;
        has = has;
        known = refl;
        sizes_are = λ u one. (settled_as slot (λ bytes. HasSizes bytes (sizes_of (length payload))) x.0 x.1 pending (only_sizes payload (x.0 slot) x.2.there) u one, (saved, has u one));
        count = refl;
        texts_are = refl;
        since = since_mark enc.rows enc.lists;
      }

  kept_more : (slot : ℕ) (payload : List ℕ) (kept : s.keep ≡ Some slot) (sizes : SlotSizes) → sizes_in s.slots slot ≡ Some sizes → EncodesChanges (named s.engine.table) (there s.engine.table) (cell s.engine.table) count s.engine.spots [] payload
      → Becomes now then (InFile slot (OfSizes (sizes_in s.slots slot) (Lengthened payload))) → Becomes now then (InFile slot (OfSizes (sizes_in s.slots slot) (Grown payload))) → NothingPending slot then after
      → IsKeptSince after slot count s.texts (longer (sizes_in s.slots slot) (length payload)) (named f) (there f) (cell f)
  kept_more slot payload kept sizes known enc lengthened grown pending =
      let since = keeps.since slot kept in
      let saved = checkpoint_of s.texts count s.engine.spots rows in
      let applies = change_applies may slot s.saved s.texts (sizes_in s.slots slot) (named s.engine.table) (there s.engine.table) (cell s.engine.table) since count s.engine.spots payload enc rows lists (omega (arith, keeps.stored slot kept, count_is)) in
      let at = now_may keeps.image keeps.told in
      let of : HasSizes (keeps.image slot) sizes = (subst (λ (o : Option SlotSizes). AreSizes (keeps.image slot) o) known (since.sizes_are keeps.image at)).0 in
      let w = lengthened.told keeps.image keeps.told in
      let x = grown.told keeps.image keeps.told in
      let has = settled_as slot (λ bytes. HasSlot bytes saved) w.0 w.1 pending (w.2.there sizes known of since.checkpoint saved (since.has keeps.image at) applies) in
      record {
        checkpoint = saved;
        has = has;
        known = ap (λ (o : Option SlotSizes). is_some (longer o (length payload))) known;
        sizes_are = λ u one. subst (λ (o : Option SlotSizes). AreSizes (u slot) (longer o (length payload))) (sym known)
            (settled_as slot (λ bytes. HasSizes bytes (more_sizes sizes (length payload))) x.0 x.1 pending (grown_sizes payload (keeps.image slot) (x.0 slot) sizes of (x.2.there sizes known of)) u one, (saved, has u one));
        count = refl;
        texts_are = refl;
        since = since_mark rows lists;
      }

  pub kept_chosen : (payload : Payload) → IsChosen (named s.engine.table) (there s.engine.table) (cell s.engine.table) s.texts count s.engine.spots s.slots s.keep payload → Becomes now then (InFile (slot_for s.keep payload) (Turned s.slots payload))
      → Becomes now then (InFile (slot_for s.keep payload) (Framed s.slots payload)) → NothingPending (slot_for s.keep payload) then after
      → IsKeptSince after (slot_for s.keep payload) count s.texts (sizes_then s.slots payload) (named f) (there f) (cell f)
  kept_chosen (Base bytes) chosen turned framed pending = kept_base bytes.items chosen.0 turned framed pending
  kept_chosen (Changes slot bytes) chosen turned framed pending = kept_more slot bytes.items chosen.1 chosen.2.0 chosen.2.1 chosen.0 turned framed pending
