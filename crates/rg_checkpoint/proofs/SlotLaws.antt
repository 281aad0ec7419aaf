-- What the frames of a file say of a slot.
use Rattle.std.proofs.Common.{◌≡◌, ◌≢◌, ◌⊎◌, inl, inr, ℕ, zero, suc, List, [], ◌∷◌, Option, Some, None, refl, ap, sym, ◌∙◌, subst, arith}
use Rattle.std.specs.Option.{ForSome}
use Rattle.rg_host.specs.Image.{Image, NothingPending}
use Rattle.rg_frame.specs.Frames.{IsLog, HasPayloads, EndsAt}
use Rattle.rg_frame.specs.Steps.{OldOrNone, Grows, From, Appended, Leaves}
use Rattle.rg_frame.proofs.Laws.{payloads_one}
use Rattle.rg_checkpoint.specs.declared.base.Checkpoint.{Checkpoint}
use Rattle.rg_checkpoint.specs.Base.{IsBase}
use Rattle.rg_checkpoint.specs.Slots.{IsOnly, Says, HasSlot, HasNoSlot, IsSlot, Turns, Written, other_of, IsKeep}
use Rattle.rg_checkpoint.proofs.Saying.{says_one}

-- a slot has one checkpoint
pub slot_is_one : (bytes : List ℕ) (a b : Checkpoint) → HasSlot bytes a → HasSlot bytes b → a ≡ b
slot_is_one bytes a b x y =
    says_one y.payloads a b (subst (λ (l : List (List ℕ)). Says l a) (payloads_one x.payloads y.payloads bytes x.has y.has) x.says) y.says

-- what is read of a slot is what it holds
pub slot_told : (bytes : List ℕ) (slot : Option Checkpoint) (checkpoint : Checkpoint) → IsSlot bytes slot → HasSlot bytes checkpoint → slot ≡ Some checkpoint
slot_told bytes None checkpoint none has = absurd (none checkpoint has)
slot_told bytes (Some read) checkpoint is has = ap (λ (c : Checkpoint). Some c) (slot_is_one bytes read checkpoint is has)

-- a file without a frame
pub none_slot : (bytes : List ℕ) → HasPayloads [] bytes → HasNoSlot bytes
none_slot bytes none = λ checkpoint slot. subst (λ (l : List (List ℕ)). Says l checkpoint) (payloads_one slot.payloads [] bytes slot.has none) slot.says

-- payloads of which the first is no base payload
pub bad_first : (payload : List ℕ) (back : List (List ℕ)) (checkpoint : Checkpoint) → ((base : Checkpoint) → IsBase payload base → ⊥) → Says (payload ∷ back) checkpoint → ⊥
bad_first payload back checkpoint bad says = bad says.0 says.1

-- one base payload alone
pub base_slot : (payload bytes : List ℕ) (checkpoint : Checkpoint) → IsOnly payload bytes → IsBase payload checkpoint → HasSlot bytes checkpoint
base_slot payload bytes checkpoint only base = record { payloads = payload ∷ []; has = only; says = (checkpoint, base, refl) }

pub slot_base : (payload bytes : List ℕ) (checkpoint : Checkpoint) → IsOnly payload bytes → HasSlot bytes checkpoint → IsBase payload checkpoint
slot_base payload bytes checkpoint only slot =
    let says : Says (payload ∷ []) checkpoint = subst (λ (l : List (List ℕ)). Says l checkpoint) (payloads_one slot.payloads (payload ∷ []) bytes slot.has only) slot.says in
    subst (λ (c : Checkpoint). IsBase payload c) (sym says.2) says.1

-- writing

pub turns_same : (payload old new : List ℕ) → new ≡ old → Turns payload old new
turns_same payload old new same = λ checkpoint base. inl same

pub turns_cleared : (payload old new : List ℕ) → OldOrNone old new → Turns payload old new
turns_cleared payload old new (inl same) = λ checkpoint base. inl same
turns_cleared payload old new (inr none) = λ checkpoint base. inr (inl (none_slot new none))

-- the frame list of a file without a frame ends at place 0
front_ends : (bytes : List ℕ) → HasPayloads [] bytes → EndsAt 0 bytes
front_ends bytes none = ([], subst (λ (n : ℕ). IsLog [] n bytes) (sym none.frames.1.ends) none.frames.1)

turned_by : (payload old new : List ℕ) (checkpoint : Checkpoint) → IsBase payload checkpoint → HasPayloads [] new ⊎ HasPayloads (payload ∷ []) new → (new ≡ old) ⊎ (HasNoSlot new ⊎ HasSlot new checkpoint)
turned_by payload old new checkpoint base (inl none) = inr (inl (none_slot new none))
turned_by payload old new checkpoint base (inr only) = inr (inr (base_slot payload new checkpoint only base))

pub turns_appended : (end : ℕ) (payload old middle new : List ℕ) → end ≡ 0 → HasPayloads [] middle → From end (Grows payload) middle new → Turns payload old new
turns_appended end payload old middle new front none step = λ checkpoint base. turned_by payload old new checkpoint base (step (subst (λ (n : ℕ). EndsAt n middle) (sym front) (front_ends middle none)) [] none)

pub written_appended : (end next : ℕ) (payload middle new : List ℕ) → end ≡ 0 → HasPayloads [] middle → Appended end payload next middle new → HasPayloads (payload ∷ []) new
written_appended end next payload middle new front none step = (step (subst (λ (n : ℕ). EndsAt n middle) (sym front) (front_ends middle none))).0 [] none

pub written_only : (payload old new : List ℕ) → IsOnly payload new → Written payload old new
written_only payload old new only = λ checkpoint base. base_slot payload new checkpoint only base

-- the kept slot is another one
pub kept_apart : (keep : Option ℕ) (i : ℕ) → IsKeep keep → keep ≡ Some i → i ≢ other_of keep
kept_apart None i is same = λ e. cc
kept_apart (Some zero) i is same = λ e. cc
kept_apart (Some (suc zero)) i is same = λ e. cc
kept_apart (Some (suc (suc j))) i is same = absurd (omega (arith, is))

-- another file, which had nothing pending, is as it was
pub kept_left : (file i : ℕ) (R : List ℕ → List ℕ → Type 0) (now : Option Image) (may : Image → Type 0) → i ≢ file → NothingPending i now may → (v : Image) → Leaves file R now may v → ForSome now (λ w. v i ≡ w i)
kept_left file i R now may apart settled v left = λ w told. left.0.2 i apart ∙ settled w told left.0.0 left.0.1
