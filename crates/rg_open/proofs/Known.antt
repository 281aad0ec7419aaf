-- The slot that was used, over any image that reads give: its sizes are known, and changes are told since its rows.
use Rattle.std.proofs.Common.{◌≡◌, ◌∙◌, ◌<◌, ◌≤◌, ℕ, zero, suc, true, List, Option, Some, None, refl, sym, ap, subst, arith}
use Rattle.std.specs.Prelude.{is_some}
use Rattle.rg_host.specs.Image.{Image}
use Rattle.rg_event.specs.declared.schema.Field.{Field}
use Rattle.rg_past.specs.declared.past.Spot.{Spot}
use Rattle.rg_plan.specs.Plans.{Tasks}
use Rattle.rg_state.specs.Changes.{Marks, IsSince}
use Rattle.rg_state.specs.Rows.{Cells, Entry, at_in}
use Rattle.rg_checkpoint.specs.declared.base.Checkpoint.{Checkpoint}
use Rattle.rg_checkpoint.specs.declared.sizes.SlotSizes.{SlotSizes}
use Rattle.rg_checkpoint.specs.Slots.{Attached, HasSlot, IsSlot, AreSizes, sizes_in}
use Rattle.rg_restore.specs.declared.choosing.Saved.{Saved}
use Rattle.rg_restore.specs.Fit.{IsFit}
use Rattle.rg_restore.specs.Since.{IsSinceSlot}
use Rattle.rg_restore.specs.Slots.{slot_in, IsFrom}
use Rattle.rg_open.specs.Opened.{AreSized, AreSizesLeft, IsKeptSince}
use Rattle.rg_open.specs.Opening.{AreSlots}

-- the sizes of a complete slot are known
known_by : (bytes : List ℕ) (sizes : Option SlotSizes) (checkpoint : Checkpoint) → AreSizes bytes sizes → HasSlot bytes checkpoint → is_some sizes ≡ true
known_by bytes None checkpoint none slot = absurd (none checkpoint slot)
known_by bytes (Some sizes) checkpoint are slot = refl

-- its checkpoint is of no more events than there are
pub from_stored : (Names : Spot → Type 0) (texts : List (List ℕ)) (fields : List Field) (tasks : Tasks) (committed : ℕ) (slots : ℕ → Option Checkpoint) (keep : Option ℕ) (from : ℕ) → IsFrom (IsFit Names texts fields tasks committed) slots keep from → from ≤ committed
from_stored Names texts fields tasks committed slots None from is = omega (arith, is.1)
from_stored Names texts fields tasks committed slots (Some i) from (checkpoint, best, count) = omega (arith, count, best.fit.within)

one_checkpoint : (slot : Option Checkpoint) (a b : Checkpoint) → slot ≡ Some a → slot ≡ Some b → a ≡ b
one_checkpoint slot a b x y = let e : ◌≡◌ {A = Option Checkpoint} (Some a) (Some b) = sym x ∙ y in cc

slot_below : (saved : Saved) (i : ℕ) (checkpoint : Checkpoint) → slot_in saved i ≡ Some checkpoint → i < 2
slot_below saved zero checkpoint there = omega arith
slot_below saved (suc zero) checkpoint there = omega arith
slot_below saved (suc (suc i)) checkpoint there = absurd cc

-- the sizes of one of the two slots, and its checkpoint
sized_at : (slots : Attached) (u : Image) → AreSized slots u → (i : ℕ) → i < 2 → AreSizes (u i) (sizes_in slots i)
sized_at slots u sized zero below = sized.first
sized_at slots u sized (suc zero) below = sized.second
sized_at slots u sized (suc (suc i)) below = absurd (omega (arith, below))

held_at : (saved : Saved) (u : Image) → AreSlots u saved → (i : ℕ) (checkpoint : Checkpoint) → slot_in saved i ≡ Some checkpoint → HasSlot (u i) checkpoint
held_at saved u are zero checkpoint there = subst (IsSlot (u 0)) there are.first
held_at saved u are (suc zero) checkpoint there = subst (IsSlot (u 1)) there are.second
held_at saved u are (suc (suc i)) checkpoint there = absurd cc

-- Where each image that might be left has these checkpoints in its slots, in files of these sizes: what is kept of the slot that was used.
module _ (may after : Image → Type 0) (fewer : (u : Image) → after u → may u) (saved : Saved) (slots : Attached) (held : (u : Image) → may u → AreSlots u saved) (sized : AreSizesLeft may slots) (here : Image) (left : may here) where
  pub kept_since : (Names : Spot → Type 0) (texts : List (List ℕ)) (fields : List Field) (tasks : Tasks) (committed : ℕ) (keep : Option ℕ) (from : ℕ) → IsFrom (IsFit Names texts fields tasks committed) (slot_in saved) keep from
      → (named there : Marks) (cells : Cells) → IsSinceSlot (slot_in saved) keep named there cells → (slot : ℕ) → keep ≡ Some slot → IsKeptSince after slot from texts (sizes_in slots slot) named there cells
  kept_since Names texts fields tasks committed None from is named there cells since slot e = absurd cc
  kept_since Names texts fields tasks committed (Some i) from (checkpoint, best, count) named there cells (rows, at, since) slot e =
      let same : i ≡ slot = cc in
      let one : at.0 ≡ checkpoint = one_checkpoint (slot_in saved i) at.0 checkpoint at.1 best.there in
      subst (λ (n : ℕ). IsKeptSince after n from texts (sizes_in slots n) named there cells) same (record {
        checkpoint = checkpoint;
        has = λ u one. held_at saved u (held u (fewer u one)) i checkpoint best.there;
        known = known_by (here i) (sizes_in slots i) checkpoint (sized_at slots here (sized here left) i (slot_below saved i checkpoint best.there)) (held_at saved here (held here left) i checkpoint best.there);
        sizes_are = λ u one. sized_at slots u (sized u (fewer u one)) i (slot_below saved i checkpoint best.there);
        count = sym count;
        texts_are = best.fit.queries_are;
        since = subst (λ (l : List Entry). IsSince (at_in l) named there cells) (at.2 ∙ ap (λ (c : Checkpoint). c.rows) one) since;
      })
