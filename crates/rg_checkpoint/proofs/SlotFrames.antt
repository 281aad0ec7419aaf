-- The frames of a slot, as they are read one behind another.
use Rattle.std.proofs.Common.{◌≡◌, ◌⊎◌, inl, inr, ℕ, ◌+◌, ◌*◌, ◌<◌, ◌^◌, List, [], ◌∷◌, ◌++◌, length, drop, Option, Some, refl, ap, sym, ◌∙◌, subst, arith, append_assoc, length-append}
use Rattle.std.specs.Prelude.{All}
use Rattle.std.proofs.lemmas.List.{drop_at}
use Rattle.std.proofs.lemmas.List.Elements.{All-head, All-tail}
use Rattle.rg_frame.specs.Frames.{body, frames, FitsFrame, Ends, HasPayloads, Begins, payload_in}
use Rattle.rg_frame.specs.Looks.{HoldsFrame, IsClosed, IsTorn}
use Rattle.rg_frame.proofs.Laws.{length-body, length-frames, length-frames-push, frames-between, frame_list-has, frame_list-damaged, fits_below, has_payloads, begins-none, log-closed, damaged-torn, payload_in-frame}
use Rattle.rg_checkpoint.specs.declared.base.Checkpoint.{Checkpoint}
use Rattle.rg_checkpoint.specs.declared.sizes.SlotSizes.{SlotSizes}
use Rattle.rg_checkpoint.specs.Base.{IsBase}
use Rattle.rg_checkpoint.specs.Updates.{Applies}
use Rattle.rg_checkpoint.specs.Sizes.{total, AreOf, HasSizes, end_of, sizes_of, more_sizes}
use Rattle.rg_checkpoint.specs.Slots.{Says, HasSlot, HasNoSlot}
use Rattle.rg_checkpoint.specs.Reached.{Reached}
use Rattle.rg_checkpoint.proofs.Saying.{says_push, applies_behind}
use Rattle.rg_checkpoint.proofs.SlotLaws.{none_slot, bad_first}

-- one frame more stands behind these
pub begins_more : (front : List (List ℕ)) (end : ℕ) (payload bytes : List ℕ) → Begins front end bytes → HoldsFrame end payload bytes → Begins (front ++ payload ∷ []) (end + 9 + length payload) bytes
begins_more front end payload bytes begins holds =
    let behind : begins.rest ≡ 1 ∷ (body payload ++ holds.rest) = sym (ap (λ (l : List ℕ). drop end l) begins.is ∙ drop_at (frames front) begins.rest end begins.ends) ∙ holds.is in
    record {
      rest = holds.rest;
      ends = omega (arith, length-frames-push front payload, begins.ends);
      is = begins.is ∙ ap (λ (l : List ℕ). frames front ++ l) behind ∙ sym (frames-between front payload [] holds.rest);
      goes = inr holds.more;
    }

-- a file whose frame list is known begins with no other frames
some_first : (found : List ℕ) (other : List ℕ) (o : Option (List ℕ)) → o ≡ Some found → o ≡ Some other → found ≡ other
some_first found other o one two = cc

frames_first : (p : List ℕ) (payloads : List (List ℕ)) (rest : List ℕ) → frames (p ∷ payloads) ++ rest ≡ 1 ∷ (body p ++ (frames payloads ++ rest))
frames_first p payloads rest = append_assoc (1 ∷ body p) (frames payloads) rest

rest_behind : (p : List ℕ) (payloads : List (List ℕ)) (rest : List ℕ) → drop (9 + length p) (frames (p ∷ payloads) ++ rest) ≡ frames payloads ++ rest
rest_behind p payloads rest = ap (λ (l : List ℕ). drop (9 + length p) l) (frames_first p payloads rest) ∙ drop_at (1 ∷ body p) (frames payloads ++ rest) (9 + length p) (omega (arith, length-body p))

pub stops_behind : (p : List ℕ) (payloads : List (List ℕ)) (rest : List ℕ) → Ends (p ∷ payloads) rest → (0 < length rest) × Ends payloads rest
stops_behind p payloads [] stops = absurd cc
stops_behind p payloads (gate ∷ rest) (inl closed) = (omega arith, inl closed)
stops_behind p payloads (gate ∷ rest) (inr none) = absurd cc

no_more : (p : List ℕ) (payloads : List (List ℕ)) (more rest : List ℕ) → frames (p ∷ payloads) ++ more ≡ rest → Ends [] rest → ⊥
no_more p payloads more [] is stops = omega (arith, ap length is, length-append (frames (p ∷ payloads)) more, length-frames p payloads)
no_more p payloads more (gate ∷ rest) is (inl closed) = closed (head_is gate 1 rest _ (sym is ∙ frames_first p payloads more))
  where
    head_is : (a b : ℕ) (x y : List ℕ) → a ∷ x ≡ b ∷ y → a ≡ b
    head_is a b x y e = cc
no_more p payloads more (gate ∷ rest) is (inr none) = omega (arith, ap length is, ap length none.1, length-append (frames (p ∷ payloads)) more, length-frames p payloads)

begins_with : (found payloads : List (List ℕ)) (more rest : List ℕ) → All FitsFrame found → All FitsFrame payloads → 0 < length more → Ends payloads rest → frames found ++ more ≡ frames payloads ++ rest → (back : List (List ℕ)) × (payloads ≡ found ++ back)
begins_with [] payloads more rest fit fits some stops same = (payloads, refl)
begins_with (f ∷ found) [] more rest fit fits some stops same = absurd (no_more f found more rest same stops)
begins_with (f ∷ found) (p ∷ payloads) more rest fit fits some stops same =
    let behind = stops_behind p payloads rest stops in
    let one : payload_in (frames (f ∷ found) ++ more) ≡ Some f =
    ap payload_in (frames_first f found more) ∙ payload_in-frame f (frames found ++ more) (All-head FitsFrame f found fit) (omega (arith, some, length-append (frames found) more)) in
    let two : payload_in (frames (f ∷ found) ++ more) ≡ Some p =
    ap payload_in (same ∙ frames_first p payloads rest) ∙ payload_in-frame p (frames payloads ++ rest) (All-head FitsFrame p payloads fits) (omega (arith, behind.0, length-append (frames payloads) rest)) in
    let first : f ≡ p = some_first f p (payload_in (frames (f ∷ found) ++ more)) one two in
    let left : frames found ++ more ≡ frames payloads ++ rest =
    sym (rest_behind f found more) ∙ ap (λ (l : List ℕ). drop (9 + length f) l) same ∙ ap (λ (q : List ℕ). drop (9 + length q) (frames (p ∷ payloads) ++ rest)) first ∙ rest_behind p payloads rest in
    let tail = begins_with found payloads more rest (All-tail FitsFrame f found fit) (All-tail FitsFrame p payloads fits) some behind.1 left in
    (tail.0, ap (λ (l : List (List ℕ)). p ∷ l) tail.1 ∙ ap (λ (q : List ℕ). q ∷ (found ++ tail.0)) (sym first))

pub begins_list : (found payloads : List (List ℕ)) (payload : List ℕ) (end : ℕ) (bytes : List ℕ) → end < 2 ^ 64 → Begins (found ++ payload ∷ []) end bytes → HasPayloads payloads bytes → (back : List (List ℕ)) × (payloads ≡ found ++ payload ∷ back)
begins_list found payloads payload end bytes below begins has =
    let all : List (List ℕ) = found ++ payload ∷ [] in
    let log = has.frames.1 in
    let is = begins_with all payloads begins.rest log.rest (fits_below all (omega (arith, below, begins.ends))) has.fit (more begins.rest begins.goes) log.stops (sym begins.is ∙ log.is) in
    (is.0, is.1 ∙ append_assoc found (payload ∷ []) is.0)
  where
    none : (front : List (List ℕ)) → front ++ payload ∷ [] ≡ [] → ⊥
    none [] same = cc
    none (first ∷ front) same = cc

    more : (rest : List ℕ) → (found ++ payload ∷ [] ≡ []) ⊎ (0 < length rest) → 0 < length rest
    more rest (inl same) = absurd (none found same)
    more rest (inr some) = some

-- sums of lengths

pub total_push : (payloads : List (List ℕ)) (payload : List ℕ) → total (payloads ++ payload ∷ []) ≡ total payloads + length payload
total_push [] payload = omega arith
total_push (first ∷ payloads) payload = omega (arith, total_push payloads payload)

pub frames_length : (payloads : List (List ℕ)) → length (frames payloads) ≡ 9 * length payloads + total payloads
frames_length [] = refl
frames_length (payload ∷ payloads) = omega (arith, length-frames payload payloads, frames_length payloads)

pub end_is : (base : List ℕ) (changes : List (List ℕ)) (sizes : SlotSizes) → AreOf base changes sizes → length (frames (base ∷ changes)) ≡ end_of sizes
end_is base changes sizes are = omega (arith, length-frames base changes, frames_length changes, are.base_is, are.changes_is, are.frames_is)

pub more_are : (base : List ℕ) (changes : List (List ℕ)) (payload : List ℕ) (sizes : SlotSizes) → AreOf base changes sizes → AreOf base (changes ++ payload ∷ []) (more_sizes sizes (length payload))
more_are base changes payload sizes are = record {
  base_is = are.base_is;
  changes_is = omega (arith, are.changes_is, total_push changes payload);
  frames_is = omega (arith, are.frames_is, length-append changes (payload ∷ []));
}

pub more_end : (sizes : SlotSizes) (change : ℕ) → end_of (more_sizes sizes change) ≡ end_of sizes + 9 + change
more_end sizes change = omega arith

-- the reading, frame by frame

-- a base payload
pub reached_first : (payload bytes : List ℕ) (checkpoint : Checkpoint) → HoldsFrame 0 payload bytes → IsBase payload checkpoint → Reached checkpoint (sizes_of (length payload)) bytes
reached_first payload bytes checkpoint holds base = record {
  base = payload;
  changes = [];
  begins =
      let at : 0 + 9 + length payload ≡ end_of (sizes_of (length payload)) = omega arith in
      subst (λ (n : ℕ). Begins (payload ∷ []) n bytes) at (begins_more [] 0 payload bytes (begins-none bytes) holds);
  says = (checkpoint, base, refl);
  are = record { base_is = refl; changes_is = refl; frames_is = refl };
}

-- no base payload
pub first_bad : (payload bytes : List ℕ) → HoldsFrame 0 payload bytes → length payload < 2 ^ 62 → ((checkpoint : Checkpoint) → IsBase payload checkpoint → ⊥) → HasNoSlot bytes
first_bad payload bytes holds below bad = λ checkpoint slot.
    let is = begins_list [] slot.payloads payload (0 + 9 + length payload) bytes (omega (arith, below)) (begins_more [] 0 payload bytes (begins-none bytes) holds) slot.has in
    bad_first payload is.0 checkpoint bad (subst (λ (l : List (List ℕ)). Says l checkpoint) is.1 slot.says)

pub first_closed : (bytes : List ℕ) → IsClosed 0 bytes → HasNoSlot bytes
first_closed bytes closed = none_slot bytes (has_payloads [] 0 bytes (omega arith) (log-closed [] 0 bytes (begins-none bytes) closed))

torn_slot : (payloads : List (List ℕ)) (end : ℕ) (bytes : List ℕ) → end < 2 ^ 64 → Begins payloads end bytes → IsTorn end bytes → HasNoSlot bytes
torn_slot payloads end bytes below begins torn = λ checkpoint slot.
    let listed = frame_list-has slot.payloads bytes slot.has in
    let undefined = frame_list-damaged end bytes (damaged-torn payloads end bytes below begins torn) in
    cc

pub first_torn : (bytes : List ℕ) → IsTorn 0 bytes → HasNoSlot bytes
first_torn bytes torn = torn_slot [] 0 bytes (omega arith) (begins-none bytes) torn

module _ (checkpoint : Checkpoint) (sizes : SlotSizes) (bytes : List ℕ) (reached : Reached checkpoint sizes bytes) where
  -- a change payload that applies
  pub reached_more : (payload : List ℕ) (next : Checkpoint) → HoldsFrame (end_of sizes) payload bytes → Applies payload checkpoint next → Reached next (more_sizes sizes (length payload)) bytes
  reached_more payload next holds applies = record {
    base = reached.base;
    changes = reached.changes ++ payload ∷ [];
    begins = subst (λ (n : ℕ). Begins (reached.base ∷ (reached.changes ++ payload ∷ [])) n bytes) (sym (more_end sizes (length payload))) (begins_more (reached.base ∷ reached.changes) (end_of sizes) payload bytes reached.begins holds);
    says = says_push (reached.base ∷ reached.changes) payload checkpoint next reached.says applies;
    are = more_are reached.base reached.changes payload sizes reached.are;
  }

  -- one that doesn't
  pub reached_bad : (payload : List ℕ) → HoldsFrame (end_of sizes) payload bytes → end_of sizes + 9 + length payload < 2 ^ 62 → ((next : Checkpoint) → Applies payload checkpoint next → ⊥) → HasNoSlot bytes
  reached_bad payload holds below bad = λ other slot.
      let found : List (List ℕ) = reached.base ∷ reached.changes in
      let is = begins_list found slot.payloads payload (end_of sizes + 9 + length payload) bytes (omega (arith, below)) (begins_more found (end_of sizes) payload bytes reached.begins holds) slot.has in
      let next = applies_behind found is.0 payload checkpoint other reached.says (subst (λ (l : List (List ℕ)). Says l other) is.1 slot.says) in
      bad next.0 next.1

  pub reached_torn : end_of sizes < 2 ^ 62 → IsTorn (end_of sizes) bytes → HasNoSlot bytes
  reached_torn below torn = torn_slot (reached.base ∷ reached.changes) (end_of sizes) bytes (omega (arith, below)) reached.begins torn

  -- no more
  all_read : end_of sizes < 2 ^ 62 → IsClosed (end_of sizes) bytes → HasPayloads (reached.base ∷ reached.changes) bytes
  all_read below closed = has_payloads (reached.base ∷ reached.changes) (end_of sizes) bytes (omega (arith, below)) (log-closed (reached.base ∷ reached.changes) (end_of sizes) bytes reached.begins closed)

  pub reached_slot : end_of sizes < 2 ^ 62 → IsClosed (end_of sizes) bytes → HasSlot bytes checkpoint
  reached_slot below closed = record { payloads = reached.base ∷ reached.changes; has = all_read below closed; says = reached.says }

  pub reached_sizes : end_of sizes < 2 ^ 62 → IsClosed (end_of sizes) bytes → HasSizes bytes sizes
  reached_sizes below closed = record { base = reached.base; changes = reached.changes; has = all_read below closed; are = reached.are }
