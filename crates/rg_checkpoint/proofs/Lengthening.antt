-- A slot behind whose frames a change payload is added.
use Rattle.std.proofs.Common.{◌≡◌, ◌≢◌, ◌⊎◌, inl, inr, ℕ, zero, suc, ◌<◌, ◌≤◌, List, [], ◌∷◌, ◌++◌, length, Option, Some, None, false, refl, ap, sym, ◌∙◌, subst, arith}
use Rattle.std.specs.Prelude.{⊤}
use Rattle.std.specs.Option.{ForSome}
use Rattle.rg_host.specs.Image.{Image, Becomes, InFile, NothingPending}
use Rattle.rg_host.specs.Moments.{Moment, Moments}
use Rattle.rg_host.proofs.Laws.{becomes-weaker, moments-weaker}
use Rattle.rg_frame.specs.Calls.{Writes}
use Rattle.rg_frame.specs.Frames.{IsLog, HasPayloads, EndsAt}
use Rattle.rg_frame.specs.LogState.{LogState, Reaches, ReachesEnd}
use Rattle.rg_frame.specs.Steps.{Grows, Grown, From, Appended}
use Rattle.rg_frame.proofs.Laws.{Same, for_some-after, writes-none, writes-weaker}
use Rattle.rg_checkpoint.specs.declared.base.Checkpoint.{Checkpoint}
use Rattle.rg_checkpoint.specs.declared.sizes.SlotSizes.{SlotSizes}
use Rattle.rg_checkpoint.specs.Updates.{Applies}
use Rattle.rg_checkpoint.specs.Sizes.{HasSizes, OfSizes, ReachesSizes, end_of, sizes_of, more_sizes}
use Rattle.rg_checkpoint.specs.Slots.{Attached, HasSlot, IsOnly, Written, Lengthens, Lengthened, ReachesSlots, sizes_in, with_sizes}
use Rattle.rg_checkpoint.proofs.Saying.{says_push}
use Rattle.rg_checkpoint.proofs.SlotLaws.{written_only, kept_left}
use Rattle.rg_checkpoint.proofs.SlotFrames.{end_is, more_are}

-- the frame list of a file ends where its sizes say
ends_of : (sizes : SlotSizes) (bytes : List ℕ) → HasSizes bytes sizes → EndsAt (end_of sizes) bytes
ends_of sizes bytes has =
    let log = has.has.frames.1 in
    (has.base ∷ has.changes, subst (λ (n : ℕ). IsLog (has.base ∷ has.changes) n bytes) (sym log.ends ∙ end_is has.base has.changes sizes has.are) log)

ends_known : (known : Option SlotSizes) (sizes s : SlotSizes) (end : ℕ) (bytes : List ℕ) → known ≡ Some sizes → end ≡ end_of sizes → known ≡ Some s → HasSizes bytes s → EndsAt end bytes
ends_known known sizes s end bytes one at other has =
    let same : sizes ≡ s = cc in
    subst (λ (n : ℕ). EndsAt n bytes) (sym (at ∙ ap end_of same)) (ends_of s bytes has)

-- the frame list with one payload more is of these sizes
pub grown_sizes : (payload old new : List ℕ) (sizes : SlotSizes) → HasSizes old sizes → Grown payload old new → HasSizes new (more_sizes sizes (length payload))
grown_sizes payload old new sizes has step = record {
  base = has.base;
  changes = has.changes ++ payload ∷ [];
  has = step (has.base ∷ has.changes) has.has;
  are = more_are has.base has.changes payload sizes has.are;
}

-- a payload alone
pub only_sizes : (payload bytes : List ℕ) → IsOnly payload bytes → HasSizes bytes (sizes_of (length payload))
only_sizes payload bytes only = record { base = payload; changes = []; has = only; are = record { base_is = refl; changes_is = refl; frames_is = refl } }

-- what it says then
pub grown_slot : (payload old new : List ℕ) → Grown payload old new → Lengthened payload old new
grown_slot payload old new step = λ before after slot applies. record { payloads = slot.payloads ++ payload ∷ []; has = step slot.payloads slot.has; says = says_push slot.payloads payload before after slot.says applies }

longer_by : (payload old new : List ℕ) (before after : Checkpoint) (slot : HasSlot old before) → Applies payload before after → HasPayloads slot.payloads new ⊎ HasPayloads (slot.payloads ++ payload ∷ []) new → HasSlot new before ⊎ HasSlot new after
longer_by payload old new before after slot applies (inl has) = inl (record { payloads = slot.payloads; has = has; says = slot.says })
longer_by payload old new before after slot applies (inr has) = inr (record { payloads = slot.payloads ++ payload ∷ []; has = has; says = says_push slot.payloads payload before after slot.says applies })

pub grows_slot : (payload old new : List ℕ) → Grows payload old new → Lengthens payload old new
grows_slot payload old new step = λ before after slot applies. longer_by payload old new before after slot applies (step slot.payloads slot.has)

-- the steps of an append, where the log has come to the end of frames of these sizes

pub lengthens_appended : (known : Option SlotSizes) (sizes : SlotSizes) (end : ℕ) (payload old new : List ℕ) → known ≡ Some sizes → end ≡ end_of sizes → From end (Grows payload) old new → OfSizes known (Lengthens payload) old new
lengthens_appended known sizes end payload old new is at step = λ s one has. grows_slot payload old new (step (ends_known known sizes s end old is at one has))

pub grown_appended : (known : Option SlotSizes) (sizes : SlotSizes) (end next : ℕ) (payload old new : List ℕ) → known ≡ Some sizes → end ≡ end_of sizes → Appended end payload next old new → OfSizes known (Grown payload) old new
grown_appended known sizes end next payload old new is at step = λ s one has. (step (ends_known known sizes s end old is at one has)).0

pub lengthened_grown : (known : Option SlotSizes) (payload old new : List ℕ) → OfSizes known (Grown payload) old new → OfSizes known (Lengthened payload) old new
lengthened_grown known payload old new step = λ s one has. grown_slot payload old new (step s one has)

-- before a payload is added, nothing changes
pub lengthens_same : (known : Option SlotSizes) (payload old new : List ℕ) → new ≡ old → OfSizes known (Lengthens payload) old new
lengthens_same known payload old new same = λ s one has before after slot applies. inl (subst (λ (l : List ℕ). HasSlot l before) (sym same) slot)

-- the files are longer than the places where the frames end

pub log_reaches : (log : LogState) (file end : ℕ) (now : Option Image) → log.file ≡ file → log.end ≡ end → 0 < end → log.ended ≡ false → ReachesEnd log now → ForSome now (λ v. end < length (v file))
log_reaches log file end now file_is at some going reaches = λ v told. by v (reaches going v told)
  where
    by : (v : Image) → Reaches log.end (v log.file) → end < length (v file)
    by v (inl more) = subst (λ (f : ℕ). end < length (v f)) file_is (omega (arith, more, at))
    by v (inr none) = absurd (omega (arith, none.0, at, some))

pub reaches_log : (slots : Attached) (i : ℕ) (sizes : SlotSizes) (log : LogState) (now : Option Image) → log.file ≡ i → log.end ≡ end_of sizes → sizes_in slots i ≡ Some sizes → slots.ended ≡ false → ReachesSlots slots now → ReachesEnd log now
reaches_log slots i sizes log now file_is at known going reaches = λ lasting v told. inl (of i file_is known v told)
  where
    here : (f : ℕ) (v : Image) → log.file ≡ f → end_of sizes < length (v f) → log.end < length (v log.file)
    here f v is more = subst (λ (n : ℕ). log.end < length (v n)) (sym is) (omega (arith, at, more))

    of : (n : ℕ) → log.file ≡ n → sizes_in slots n ≡ Some sizes → (v : Image) → now ≡ Some v → log.end < length (v log.file)
    of zero is known v told = here 0 v is (subst (λ (o : Option SlotSizes). ReachesSizes o (v 0)) known (reaches going v told).0)
    of (suc zero) is known v told = here 1 v is (subst (λ (o : Option SlotSizes). ReachesSizes o (v 1)) known (reaches going v told).1)
    of (suc (suc n)) is known v told = absurd cc

same_reaches : (sizes : Option SlotSizes) (old new : List ℕ) → new ≡ old → ReachesSizes sizes old → ReachesSizes sizes new
same_reaches sizes old new same reaches = subst (ReachesSizes sizes) (sym same) reaches

pub reaches_put : (slots put : Attached) (i : ℕ) (sizes : SlotSizes) (old new : Option Image) → i < 2 → slots.ended ≡ false → put ≡ with_sizes i (Some sizes) (record slots { fresh = false }) → Becomes old new (InFile i (λ _ _. ⊤)) → ForSome new (λ v. end_of sizes < length (v i))
    → ReachesSlots slots old → ReachesSlots put new
reaches_put slots put i sizes old new low going is step more reaches = λ lasting. subst (λ (s : Attached). ForSome new (λ v. ReachesSizes s.first_sizes (v 0) × ReachesSizes s.second_sizes (v 1))) (sym is) (λ v told. of i low step more v told)
  where
    Both : Attached → Image → Type 0
    Both s v = ReachesSizes s.first_sizes (v 0) × ReachesSizes s.second_sizes (v 1)

    of : (n : ℕ) → n < 2 → Becomes old new (InFile n (λ _ _. ⊤)) → ForSome new (λ v. end_of sizes < length (v n)) → (v : Image) → new ≡ Some v → Both (with_sizes n (Some sizes) (record slots { fresh = false })) v
    of zero low changed longer v told =
        (longer v told, for_some-after old new (InFile 0 (λ _ _. ⊤)) (λ u. ReachesSizes slots.second_sizes (u 1)) (λ u. ReachesSizes slots.second_sizes (u 1)) (λ u was. (reaches going u was).1) changed (λ x y here one. same_reaches slots.second_sizes (x 1) (y 1) (one.elsewhere 1 (λ e. cc)) here) v told)
    of (suc zero) low changed longer v told =
        (for_some-after old new (InFile 1 (λ _ _. ⊤)) (λ u. ReachesSizes slots.first_sizes (u 0)) (λ u. ReachesSizes slots.first_sizes (u 0)) (λ u was. (reaches going u was).0) changed (λ x y here one. same_reaches slots.first_sizes (x 0) (y 0) (one.elsewhere 0 (λ e. cc)) here) v told, longer v told)
    of (suc (suc n)) low changed longer v told = absurd (omega (arith, low))

-- the sizes of a slot of which the log was taken

sizes_fresh : (slots : Attached) (i : ℕ) → sizes_in (record slots { fresh = false }) i ≡ sizes_in slots i
sizes_fresh slots zero = refl
sizes_fresh slots (suc zero) = refl
sizes_fresh slots (suc (suc n)) = refl

pub known_sizes : (slots taken : Attached) (i : ℕ) (sizes : SlotSizes) → taken ≡ record slots { fresh = false } → Some sizes ≡ sizes_in taken i → sizes_in slots i ≡ Some sizes
known_sizes slots taken i sizes is known = sym (known ∙ ap (λ (s : Attached). sizes_in s i) is ∙ sizes_fresh slots i)

pub below_two : (slots : Attached) (i : ℕ) (sizes : SlotSizes) → sizes_in slots i ≡ Some sizes → i < 2
below_two slots zero sizes known = omega arith
below_two slots (suc zero) sizes known = omega arith
below_two slots (suc (suc n)) sizes known = absurd cc

with_twice : (slots : Attached) (i : ℕ) (a b : Option SlotSizes) → i < 2 → with_sizes i a (with_sizes i b slots) ≡ with_sizes i a slots
with_twice slots zero a b below = refl
with_twice slots (suc zero) a b below = refl
with_twice slots (suc (suc n)) a b below = absurd (omega (arith, below))

-- a log that was taken and is put back
pub put_back : (slots taken left put : Attached) (i : ℕ) (sizes now : SlotSizes) → taken ≡ record slots { fresh = false } → Some sizes ≡ sizes_in taken i → left ≡ with_sizes i None taken → put ≡ with_sizes i (Some now) left → put ≡ with_sizes i (Some now) (record slots { fresh = false })
put_back slots taken left put i sizes now is known out back =
    back ∙ ap (λ (s : Attached). with_sizes i (Some now) s) (out ∙ ap (λ (s : Attached). with_sizes i None s) is) ∙ with_twice (record slots { fresh = false }) i (Some now) None (below_two slots i sizes (known_sizes slots taken i sizes is known))

-- the calls

module _ {H : Type 0} (now : H → Option Image) (may : H → Image → Type 0) (clock : H → ℕ) (since : H → ℕ → Moment → Type 0) (said : H → Option (List ℕ)) where
  pub extends_leaves : (file i end : ℕ) (known : Option SlotSizes) (sizes : SlotSizes) (payload : List ℕ) (old new : H) → file ≡ i → known ≡ Some sizes → end ≡ end_of sizes → Writes now may clock since said file (From end (Grows payload)) old new
      → Writes now may clock since said i (OfSizes known (Lengthens payload)) old new
  extends_leaves file i end known sizes payload old new is one at run =
      writes-weaker now may clock since said i (From end (Grows payload)) (OfSizes known (Lengthens payload)) old new (subst (λ (f : ℕ). Writes now may clock since said f (From end (Grows payload)) old new) is run)
      (λ w told bytes step. lengthens_appended known sizes end payload (w i) bytes one at step)

  pub extends_none : (i : ℕ) (known : Option SlotSizes) (payload : List ℕ) (host : H) → ((t u : ℕ) (m : Moment) → t ≤ u → since host u m → since host t m) → ((m : Moment) → since host (clock host) m → may host m.image × ForSome (said host) (λ s. m.said ≡ s))
      → Writes now may clock since said i (OfSizes known (Lengthens payload)) host host
  extends_none i known payload host sinks only =
      writes-weaker now may clock since said i Same (OfSizes known (Lengthens payload)) host host (writes-none now may clock since said i host sinks only) (λ w told bytes same. lengthens_same known payload (w i) bytes same)

  -- another file, of which nothing was pending, is as it was at each moment
  pub elsewhere_stays : (file other : ℕ) (R : List ℕ → List ℕ → Type 0) (old new : H) → Writes now may clock since said file R old new → other ≢ file → NothingPending other (now old) (may old) → Moments clock since old new (λ m. ForSome (now old) (λ w. m.image other ≡ w other))
  elsewhere_stays file other R old new run apart settled = moments-weaker clock since old new _ _ run.moments (λ m has. kept_left file other R (now old) (may old) apart settled m.image has.0)

pub extends_grown : (file i end next : ℕ) (known : Option SlotSizes) (sizes : SlotSizes) (payload : List ℕ) (old new : Option Image) → file ≡ i → known ≡ Some sizes → end ≡ end_of sizes → Becomes old new (InFile file (Appended end payload next)) → Becomes old new (InFile i (OfSizes known (Grown payload)))
extends_grown file i end next known sizes payload old new is one at step =
    becomes-weaker old new (InFile i (Appended end payload next)) (InFile i (OfSizes known (Grown payload))) (subst (λ (f : ℕ). Becomes old new (InFile f (Appended end payload next))) is step)
    (λ x y changed. record { there = grown_appended known sizes end next payload (x i) (y i) one at changed.there; elsewhere = changed.elsewhere })

pub extends_written : (i : ℕ) (known : Option SlotSizes) (payload : List ℕ) (old new : Option Image) → Becomes old new (InFile i (OfSizes known (Grown payload))) → Becomes old new (InFile i (OfSizes known (Lengthened payload)))
extends_written i known payload old new step =
    becomes-weaker old new (InFile i (OfSizes known (Grown payload))) (InFile i (OfSizes known (Lengthened payload))) step (λ x y changed. record { there = lengthened_grown known payload (x i) (y i) changed.there; elsewhere = changed.elsewhere })

pub only_written : (i : ℕ) (payload : List ℕ) (old new : Option Image) → Becomes old new (InFile i (λ _ bytes. IsOnly payload bytes)) → Becomes old new (InFile i (Written payload))
only_written i payload old new step = becomes-weaker old new (InFile i (λ _ bytes. IsOnly payload bytes)) (InFile i (Written payload)) step (λ x y changed. record { there = written_only payload (x i) (y i) changed.there; elsewhere = changed.elsewhere })
