-- A store stays truthful while a truthful checkpoint is written.
use Rattle.std.proofs.Common.{◌≡◌, ◌≢◌, ◌⊎◌, inl, inr, ℕ, zero, suc, ◌<◌, ◌==◌, Bool, true, false, List, Option, Some, None, refl, sym, ◌∙◌, subst, arith}
use Rattle.std.proofs.lemmas.Bool.Decides.{Decides-eqb}
use Rattle.rg_host.specs.Image.{Image, NothingPending}
use Rattle.rg_frame.specs.Steps.{Leaves}
use Rattle.rg_checkpoint.specs.declared.base.Checkpoint.{Checkpoint}
use Rattle.rg_checkpoint.specs.Base.{IsBase}
use Rattle.rg_checkpoint.specs.Slots.{HasSlot, HasNoSlot, Turns, other_of, IsKeep}
use Rattle.rg_checkpoint.specs.Truth.{AreTruthful}
use Rattle.rg_checkpoint.proofs.SlotLaws.{slot_is_one}

log_apart : (keep : Option ℕ) → IsKeep keep → 2 ≢ other_of keep
log_apart None is = λ e. cc
log_apart (Some zero) is = λ e. cc
log_apart (Some (suc zero)) is = λ e. cc
log_apart (Some (suc (suc j))) is = absurd (omega (arith, is))

module _ (Truth : List ℕ → Checkpoint → Type 0) where
  -- the written slot
  turned : (v u : Image) (i : ℕ) (checkpoint other : Checkpoint) → i < 2 → v 2 ≡ u 2 → AreTruthful Truth u → Truth (u 2) checkpoint → (v i ≡ u i) ⊎ (HasNoSlot (v i) ⊎ HasSlot (v i) checkpoint) → HasSlot (v i) other → Truth (v 2) other
  turned v u i checkpoint other below log truthful true_of (inl same) slot =
      subst (λ (l : List ℕ). Truth l other) (sym log) (truthful i below other (subst (λ (l : List ℕ). HasSlot l other) same slot))
  turned v u i checkpoint other below log truthful true_of (inr (inl none)) slot = absurd (none other slot)
  turned v u i checkpoint other below log truthful true_of (inr (inr new)) slot =
      subst (λ (l : List ℕ). Truth l other) (sym log) (subst (λ (c : Checkpoint). Truth (u 2) c) (slot_is_one (v i) checkpoint other new slot) true_of)

  same_from : (v w u : Image) (i : ℕ) (checkpoint : Checkpoint) → u i ≡ w i → (v i ≡ w i) ⊎ (HasNoSlot (v i) ⊎ HasSlot (v i) checkpoint) → (v i ≡ u i) ⊎ (HasNoSlot (v i) ⊎ HasSlot (v i) checkpoint)
  same_from v w u i checkpoint settled (inl same) = inl (same ∙ sym settled)
  same_from v w u i checkpoint settled (inr rest) = inr rest

  by_slot : (keep : Option ℕ) (payload : List ℕ) (w : Image) (may : Image → Type 0) (checkpoint : Checkpoint) → IsKeep keep → NothingPending (other_of keep) (Some w) may → IsBase payload checkpoint
      → ((u : Image) → may u → AreTruthful Truth u) → ((u : Image) → may u → Truth (u 2) checkpoint)
      → (v : Image) → Leaves (other_of keep) (Turns payload) (Some w) may v → (i : ℕ) → i < 2 → (is : Bool) → (i == other_of keep) ≡ is → (other : Checkpoint) → HasSlot (v i) other → Truth (v 2) other
  by_slot keep payload w may checkpoint legal settled base truthful true_of v left i below true is other slot =
      let u = left.0.0 in
      let at : i ≡ other_of keep = (Decides-eqb i (other_of keep)).0 is in
      let log : v 2 ≡ u 2 = left.0.2 2 (log_apart keep legal) in
      let pending : u i ≡ w i = subst (λ (n : ℕ). u n ≡ w n) (sym at) (settled w refl u left.0.1) in
      let step : (v i ≡ w i) ⊎ (HasNoSlot (v i) ⊎ HasSlot (v i) checkpoint) = subst (λ (n : ℕ). (v n ≡ w n) ⊎ (HasNoSlot (v n) ⊎ HasSlot (v n) checkpoint)) (sym at) (left.1 settled w refl checkpoint base) in
      turned v u i checkpoint other below log (truthful u left.0.1) (true_of u left.0.1) (same_from v w u i checkpoint pending step) slot
  by_slot keep payload w may checkpoint legal settled base truthful true_of v left i below false is other slot =
      let u = left.0.0 in
      let apart : i ≢ other_of keep = λ e. let yes : (i == other_of keep) ≡ true = (Decides-eqb i (other_of keep)).1 e in cc in
      let log : v 2 ≡ u 2 = left.0.2 2 (log_apart keep legal) in
      turned v u i checkpoint other below log (truthful u left.0.1) (true_of u left.0.1) (inl (left.0.2 i apart)) slot

  -- where each image that a crash could leave is truthful, and the new checkpoint is true of its log, each image that may be left is truthful
  pub stays_truthful : (keep : Option ℕ) (payload : List ℕ) (now : Option Image) (w : Image) (may : Image → Type 0) (checkpoint : Checkpoint) → IsKeep keep → now ≡ Some w → NothingPending (other_of keep) now may → IsBase payload checkpoint
      → ((u : Image) → may u → AreTruthful Truth u) → ((u : Image) → may u → Truth (u 2) checkpoint)
      → (v : Image) → Leaves (other_of keep) (Turns payload) now may v → AreTruthful Truth v
  stays_truthful keep payload now w may checkpoint legal told settled base truthful true_of v left =
      λ i below other slot. by_slot keep payload w may checkpoint legal (subst (λ (o : Option Image). NothingPending (other_of keep) o may) told settled) base truthful true_of v
      (subst (λ (o : Option Image). Leaves (other_of keep) (Turns payload) o may v) told left) i below (i == other_of keep) refl other slot
