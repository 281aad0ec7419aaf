-- A frame, as a log steps over it and then reads its payload.
use Rattle.std.proofs.Common.{◌≡◌, ◌⊎◌, inl, inr, ℕ, ◌+◌, ◌<◌, ◌^◌, List, length, Option, Some, false, ap, sym, ◌∙◌, subst, arith}
use Rattle.std.specs.Option.{ForSome}
use Rattle.rg_host.specs.Image.{Image}
use Rattle.rg_frame.specs.LogState.{LogState}
use Rattle.rg_frame.specs.Looks.{HoldsFrame, HoldsHead, IsClosed, IsTorn}
use Rattle.rg_frame.specs.Frames.{payload_at}
use Rattle.rg_frame.specs.declared.fault.FrameFault.{FrameFault}
use Rattle.rg_frame.specs.declared.fault.FrameFault.TheVariants.{Disk, Damaged, Memory}
use Rattle.rg_frame.proofs.Laws.{holds_payload, closed_payload}
use Rattle.rg_checkpoint.specs.declared.base.Checkpoint.{Checkpoint}
use Rattle.rg_checkpoint.specs.declared.slot.Read.{Read}
use Rattle.rg_checkpoint.specs.Base.{IsBase}
use Rattle.rg_checkpoint.specs.Sizes.{end_of, more_sizes, sizes_of}
use Rattle.rg_checkpoint.specs.Slots.{HasNoSlot}
use Rattle.rg_checkpoint.specs.Updates.{Applies}
use Rattle.rg_checkpoint.specs.Reached.{IsPayload, IsFrameEnd, IsBegun, IsWhole, GoesOn}
use Rattle.rg_checkpoint.proofs.SlotFrames.{reached_first, reached_more, reached_bad, reached_torn, reached_slot, reached_sizes, more_end, first_bad, first_closed, first_torn}

some_is : (a b : List ℕ) (o : Option (List ℕ)) → o ≡ Some a → o ≡ Some b → a ≡ b
some_is a b o x y = cc

-- a log that stepped over a frame that ends at that place
abbrev Stepped : LogState → ℕ → LogState → Type 0
Stepped old next new = new ≡ record old { end = next; ready = false }

file_is : (old new : LogState) (next : ℕ) → Stepped old next new → new.file ≡ old.file
file_is old new next stepped = ap (λ (l : LogState). l.file) stepped

-- what was read is the payload of that frame
holds_here : (old new : LogState) (place next : ℕ) (out : List ℕ) (v : Image) → place ≡ old.end → Stepped old next new → HoldsFrame place out (v new.file) → HoldsFrame old.end out (v old.file)
holds_here old new place next out v at stepped holds = subst (λ (n : ℕ). HoldsFrame n out (v old.file)) at (subst (λ (f : ℕ). HoldsFrame place out (v f)) (file_is old new next stepped) holds)

pub payload_found : (old new : LogState) (place size next : ℕ) (out : List ℕ) (now : Option Image) → place ≡ old.end → next ≡ old.end + 9 + size → Stepped old next new → next < 2 ^ 62 → next ≡ place + 9 + length out → ForSome now (λ v. HoldsFrame place out (v new.file)) → IsPayload now old new out
payload_found old new place size next out now at is stepped below read holds =
    let end : next ≡ old.end + 9 + length out = omega (arith, read, at) in
    record {
      moved = subst (λ (n : ℕ). new ≡ record old { end = n; ready = false }) end stepped;
      below = subst (λ (l : LogState). l.end < 2 ^ 62) (sym stepped) below;
      there = λ v told. holds_here old new place next out v at stepped (holds v told);
    }

-- a payload of another length can't be read there
pub other_length : (old new : LogState) (place size next end : ℕ) (head out : List ℕ) (v : Image) → place ≡ old.end → next ≡ old.end + 9 + size → Stepped old next new → next < 2 ^ 62 → end ≡ place + 9 + length out → end < 2 ^ 62 → (end ≡ next → ⊥)
    → HoldsHead old.end size head (v old.file) → HoldsFrame place out (v new.file) → IsTorn old.end (v old.file)
other_length old new place size next end head out v at is stepped below read within differs found holds =
    let one = holds_payload old.end found.payload (v old.file) found.holds (omega (arith, found.size_is, is, below)) in
    let two = holds_payload old.end out (v old.file) (holds_here old new place next out v at stepped holds) (omega (arith, read, within)) in
    let same : found.payload ≡ out = some_is found.payload out (payload_at old.end (v old.file)) one two in
    absurd (differs (omega (arith, read, at, is, found.size_is, ap length same)))

-- nor is there none
pub none_found : (old new : LogState) (place size next : ℕ) (head : List ℕ) (v : Image) → place ≡ old.end → next ≡ old.end + 9 + size → Stepped old next new → next < 2 ^ 62 → HoldsHead old.end size head (v old.file) → IsClosed place (v new.file) → IsTorn old.end (v old.file)
none_found old new place size next head v at is stepped below found closed =
    let one = holds_payload old.end found.payload (v old.file) found.holds (omega (arith, found.size_is, is, below)) in
    let here : IsClosed old.end (v old.file) = subst (λ (n : ℕ). IsClosed n (v old.file)) at (subst (λ (f : ℕ). IsClosed place (v f)) (file_is old new next stepped) closed) in
    let two = closed_payload old.end (v old.file) here in
    absurd cc

place_is : (fault : FrameFault) (p place : ℕ) → (fault ≡ Disk) ⊎ ((fault ≡ Memory) ⊎ (fault ≡ Damaged place)) → fault ≡ Damaged p → p ≡ place
place_is fault p place (inl disk) is = cc
place_is fault p place (inr (inl memory)) is = cc
place_is fault p place (inr (inr damaged)) is = cc

pub torn_found : (old new : LogState) (fault : FrameFault) (p place next : ℕ) (v : Image) → place ≡ old.end → Stepped old next new → (fault ≡ Disk) ⊎ ((fault ≡ Memory) ⊎ (fault ≡ Damaged place)) → fault ≡ Damaged p → IsTorn p (v new.file) → IsTorn old.end (v old.file)
torn_found old new fault p place next v at stepped causes is torn =
    subst (λ (n : ℕ). IsTorn n (v old.file)) (place_is fault p place causes is ∙ at) (subst (λ (f : ℕ). IsTorn p (v f)) (file_is old new next stepped) torn)

-- the reading of a slot goes on

module _ (now : Option Image) (read : Read) (log : LogState) (begun : IsBegun now read.end.log.file read) where
  below : end_of read.end.sizes < 2 ^ 62
  below = omega (arith, begun.place, begun.below)

  -- its frames end
  pub all_found : IsFrameEnd now read.end.log log → IsWhole now read.end.log.file (record { checkpoint = read.checkpoint; end = record { log = log; sizes = read.end.sizes } })
  all_found found =
      let closed : ForSome now (λ v. IsClosed (end_of read.end.sizes) (v read.end.log.file)) = λ v told. subst (λ (n : ℕ). IsClosed n (v read.end.log.file)) begun.place (found.there v told) in
      record {
        end = record {
          file_is = ap (λ (l : LogState). l.file) found.stays;
          ready = ap (λ (l : LogState). l.ready) found.stays;
          place = ap (λ (l : LogState). l.end) found.stays ∙ begun.place;
          going = λ same. ap (λ (l : LogState). l.ended) found.stays ∙ begun.going;
        };
        slot = λ v told. reached_slot read.checkpoint read.end.sizes (v read.end.log.file) (begun.reached v told) below (closed v told);
        sizes = λ v told. reached_sizes read.checkpoint read.end.sizes (v read.end.log.file) (begun.reached v told) below (closed v told);
      }

  -- it has no frame list
  pub none_listed : ForSome now (λ v. IsTorn read.end.log.end (v read.end.log.file)) → ForSome now (λ v. HasNoSlot (v read.end.log.file))
  none_listed torn = λ v told. reached_torn read.checkpoint read.end.sizes (v read.end.log.file) (begun.reached v told) below (subst (λ (n : ℕ). IsTorn n (v read.end.log.file)) begun.place (torn v told))

  module _ (payload : List ℕ) (found : IsPayload now read.end.log log payload) where
    there : ForSome now (λ v. HoldsFrame (end_of read.end.sizes) payload (v read.end.log.file))
    there = λ v told. subst (λ (n : ℕ). HoldsFrame n payload (v read.end.log.file)) begun.place (found.there v told)

    end_at : log.end ≡ read.end.log.end + 9 + length payload
    end_at = ap (λ (l : LogState). l.end) found.moved

    -- one payload more, which doesn't apply
    pub none_applies : ((next : Checkpoint) → Applies payload read.checkpoint next → ⊥) → ForSome now (λ v. HasNoSlot (v read.end.log.file))
    none_applies bad = λ v told. reached_bad read.checkpoint read.end.sizes (v read.end.log.file) (begun.reached v told) payload (there v told) (omega (arith, found.below, end_at, begun.place)) bad

    -- or one that does
    pub one_applies : (next : Checkpoint) → Applies payload read.checkpoint next → GoesOn now read.end.log.file read (record { checkpoint = next; end = record { log = log; sizes = more_sizes read.end.sizes (length payload) } })
    one_applies next applies = record {
      begun = record {
        file_is = ap (λ (l : LogState). l.file) found.moved;
        going = ap (λ (l : LogState). l.ended) found.moved ∙ begun.going;
        place = omega (arith, end_at, begun.place, more_end read.end.sizes (length payload));
        below = found.below;
        reached = λ v told. reached_more read.checkpoint read.end.sizes (v read.end.log.file) (begun.reached v told) payload next (there v told) applies;
      };
      later = omega (arith, end_at);
    }

-- and its beginning, by a log of a file that is new

abbrev pub new_log : ℕ → LogState
new_log file = record { file = file; end = 0; ready = false; ended = false }

module _ (now : Option Image) (file : ℕ) (first log : LogState) (new : first ≡ new_log file) where
  pub none_first : IsFrameEnd now first log → ForSome now (λ v. HasNoSlot (v file))
  none_first found = λ v told. first_closed (v file) (subst (λ (l : LogState). IsClosed l.end (v l.file)) new (found.there v told))

  pub torn_first : ForSome now (λ v. IsTorn first.end (v first.file)) → ForSome now (λ v. HasNoSlot (v file))
  torn_first torn = λ v told. first_torn (v file) (subst (λ (l : LogState). IsTorn l.end (v l.file)) new (torn v told))

  module _ (payload : List ℕ) (found : IsPayload now first log payload) where
    here : ForSome now (λ v. HoldsFrame 0 payload (v file))
    here = λ v told. subst (λ (l : LogState). HoldsFrame l.end payload (v l.file)) new (found.there v told)

    log_is : log ≡ record { file = file; end = 9 + length payload; ready = false; ended = false }
    log_is = found.moved ∙ subst (λ (l : LogState). record l { end = l.end + 9 + length payload; ready = false } ≡ record { file = file; end = 9 + length payload; ready = false; ended = false }) (sym new) (ap (λ (n : ℕ). record { file = file; end = n; ready = false; ended = false }) (omega arith))

    short : 9 + length payload < 2 ^ 62
    short = omega (arith, found.below, ap (λ (l : LogState). l.end) log_is)

    pub bad_base : ((checkpoint : Checkpoint) → IsBase payload checkpoint → ⊥) → ForSome now (λ v. HasNoSlot (v file))
    bad_base bad = λ v told. first_bad payload (v file) (here v told) (omega (arith, short)) bad

    pub base_read : (checkpoint : Checkpoint) → IsBase payload checkpoint → IsBegun now file (record { checkpoint = checkpoint; end = record { log = log; sizes = sizes_of (length payload) } })
    base_read checkpoint base = record {
      file_is = ap (λ (l : LogState). l.file) log_is;
      going = ap (λ (l : LogState). l.ended) log_is;
      place = omega (arith, ap (λ (l : LogState). l.end) log_is);
      below = found.below;
      reached = λ v told. reached_first payload (v file) checkpoint (here v told) base;
    }
