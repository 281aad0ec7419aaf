-- A truthful image stays truthful.
use Rattle.std.proofs.Common.{◌≡◌, ◌≢◌, ◌⊎◌, inl, inr, ℕ, ◌<◌, ◌==◌, Bool, true, false, List, [], refl, sym, subst, arith}
use Rattle.std.proofs.lemmas.Bool.Decides.{Decides-eqb}
use Rattle.std.proofs.lemmas.List.Elements.{All-nil}
use Rattle.rg_host.specs.Image.{Image}
use Rattle.rg_event.specs.Shapes.{Shape, IsSchema}
use Rattle.rg_event.specs.declared.event.Event.{Event}
use Rattle.rg_frame.specs.Frames.{FitsFrame, HasPayloads}
use Rattle.rg_frame.specs.Steps.{Grows}
use Rattle.rg_frame.proofs.Laws.{payloads_one}
use Rattle.rg_log.specs.Log.{schema_payload, IsChunkOf, HasLegalLog}
use Rattle.rg_log.proofs.Laws.{events_in, begins_log}
use Rattle.rg_checkpoint.specs.declared.base.Checkpoint.{Checkpoint}
use Rattle.rg_checkpoint.specs.Slots.{HasSlot, HasNoSlot}
use Rattle.rg_checkpoint.proofs.Laws.{slot_is_one, none_slot}
use Rattle.rg_open.specs.Truth.{IsTrueOf, IsTruthfulImage, MayGrow}
use Rattle.rg_open.proofs.Truths.{no_schema, true_for, grows_true, grows_legal}

pub below_apart : (i : ℕ) → i < 2 → i ≢ 2
below_apart i below e = absurd (omega (arith, below, e))

-- a slot is as it was, where another file was written
slot_stays : (i : ℕ) (u v : Image) (checkpoint : Checkpoint) → v i ≡ u i → HasSlot (v i) checkpoint → HasSlot (u i) checkpoint
slot_stays i u v checkpoint same slot = subst (λ (bytes : List ℕ). HasSlot bytes checkpoint) same slot

-- a commit: the log may have a chunk more, and the other files are as they were
pub commits : (shape : Shape) (payload : List ℕ) (chunk : List Event) (u v : Image) → IsSchema shape → MayGrow shape chunk (u 2) → IsChunkOf shape payload chunk → Grows payload (u 2) (v 2) → ((f : ℕ) → f ≢ 2 → v f ≡ u f)
    → IsTruthfulImage u → IsTruthfulImage v
commits shape payload chunk u v schema may said step others is =
    let events = events_in payloads_one shape (u 2) may.framed is.log in
    record {
      log = grows_legal shape payload chunk (u 2) (v 2) may said step events.0 events.1;
      slots = λ i below checkpoint slot.
          let was = is.slots i below checkpoint (slot_stays i u v checkpoint (others i (below_apart i below)) slot) in
          (shape, grows_true shape payload chunk (u 2) (v 2) may said step checkpoint (true_for shape (u 2) checkpoint may.framed was));
    }

-- the schema's frame comes behind a log without a frame
pub begins : (shape : Shape) (u v : Image) → IsSchema shape → HasPayloads [] (u 2) → Grows (schema_payload shape) (u 2) (v 2) → ((f : ℕ) → f ≢ 2 → v f ≡ u f) → IsTruthfulImage u → IsTruthfulImage v
begins shape u v schema none step others is = record {
  log = let has = (begins_log shape (u 2) (v 2) schema none step).1 in inr (shape, has.0, has.1);
  slots = λ i below checkpoint slot.
      let was = is.slots i below checkpoint (slot_stays i u v checkpoint (others i (below_apart i below)) slot) in
      absurd (no_schema was.0 (u 2) none was.1.framed);
}

log_stays : (u v : Image) → v 2 ≡ u 2 → HasLegalLog (u 2) → HasLegalLog (v 2)
log_stays u v same log = subst HasLegalLog (sym same) log

true_stays : (u v : Image) (checkpoint : Checkpoint) → v 2 ≡ u 2 → IsTrueOf (u 2) checkpoint → IsTrueOf (v 2) checkpoint
true_stays u v checkpoint same is = subst (λ (bytes : List ℕ). IsTrueOf bytes checkpoint) (sym same) is

-- a slot that was written: it is as it was, is not complete, or has a checkpoint that is true
pub writes : (i : ℕ) (u v : Image) (checkpoint : Checkpoint) → i < 2 → ((f : ℕ) → f ≢ i → v f ≡ u f) → (v i ≡ u i) ⊎ (HasNoSlot (v i) ⊎ HasSlot (v i) checkpoint) → IsTrueOf (u 2) checkpoint → IsTruthfulImage u → IsTruthfulImage v
writes i u v checkpoint written others step true_of is = record {
  log = log_stays u v log_same is.log;
  slots = λ j below other slot. true_stays u v other log_same (by j below other slot (j == i) refl);
}
  where
    log_same : v 2 ≡ u 2
    log_same = others 2 (λ e. below_apart i written (sym e))

    there : (j : ℕ) → j < 2 → (other : Checkpoint) → HasSlot (v j) other → (v j ≡ u j) ⊎ (HasNoSlot (v j) ⊎ HasSlot (v j) checkpoint) → IsTrueOf (u 2) other
    there j below other slot (inl same) = is.slots j below other (slot_stays j u v other same slot)
    there j below other slot (inr (inl none)) = absurd (none other slot)
    there j below other slot (inr (inr new)) = subst (λ (c : Checkpoint). IsTrueOf (u 2) c) (slot_is_one (v j) checkpoint other new slot) true_of

    by : (j : ℕ) → j < 2 → (other : Checkpoint) → HasSlot (v j) other → (at : Bool) → (j == i) ≡ at → IsTrueOf (u 2) other
    by j below other slot true at =
        let e : j ≡ i = (Decides-eqb j i).0 at in
        there j below other slot (subst (λ (n : ℕ). (v n ≡ u n) ⊎ (HasNoSlot (v n) ⊎ HasSlot (v n) checkpoint)) (sym e) step)
    by j below other slot false at = there j below other slot (inl (others j (λ e. let yes : (j == i) ≡ true = (Decides-eqb j i).1 e in absurd cc)))

-- a slot that was lost: it is as it was, or isn't complete
pub loses : (i : ℕ) (u v : Image) → i < 2 → ((f : ℕ) → f ≢ i → v f ≡ u f) → (v i ≡ u i) ⊎ HasNoSlot (v i) → IsTruthfulImage u → IsTruthfulImage v
loses i u v written others step is = record {
  log = log_stays u v log_same is.log;
  slots = λ j below other slot. true_stays u v other log_same (by j below other slot (j == i) refl);
}
  where
    log_same : v 2 ≡ u 2
    log_same = others 2 (λ e. below_apart i written (sym e))

    there : (j : ℕ) → j < 2 → (other : Checkpoint) → HasSlot (v j) other → (v j ≡ u j) ⊎ HasNoSlot (v j) → IsTrueOf (u 2) other
    there j below other slot (inl same) = is.slots j below other (slot_stays j u v other same slot)
    there j below other slot (inr none) = absurd (none other slot)

    by : (j : ℕ) → j < 2 → (other : Checkpoint) → HasSlot (v j) other → (at : Bool) → (j == i) ≡ at → IsTrueOf (u 2) other
    by j below other slot true at =
        let e : j ≡ i = (Decides-eqb j i).0 at in
        there j below other slot (subst (λ (n : ℕ). (v n ≡ u n) ⊎ HasNoSlot (v n)) (sym e) step)
    by j below other slot false at = there j below other slot (inl (others j (λ e. let yes : (j == i) ≡ true = (Decides-eqb j i).1 e in absurd cc)))

-- nothing was written in any file
pub same_image : (u v : Image) → ((f : ℕ) → v f ≡ u f) → IsTruthfulImage u → IsTruthfulImage v
same_image u v same is = record {
  log = log_stays u v (same 2) is.log;
  slots = λ i below checkpoint slot. true_stays u v checkpoint (same 2) (is.slots i below checkpoint (slot_stays i u v checkpoint (same i) slot));
}

no_frames : HasPayloads [] []
no_frames = record { frames = (0, record { rest = []; ends = refl; is = refl; stops = refl }); fit = All-nil FitsFrame }

-- an image without a byte
pub empty_truthful : IsTruthfulImage (λ file. [])
empty_truthful = record { log = inl no_frames; slots = λ i below checkpoint slot. absurd (none_slot [] no_frames checkpoint slot) }
