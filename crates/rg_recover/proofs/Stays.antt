-- Files of slots that stay, and what is kept of the slot that may be extended.
use Rattle.std.proofs.Common.{◌≡◌, ◌≢◌, ◌<◌, ℕ, List, Option, Some, None, refl, sym, ◌∙◌, ap, subst, arith}
use Rattle.rg_host.specs.Image.{Image, Becomes, InFile, NothingPending}
use Rattle.rg_frame.specs.Steps.{OthersStay}
use Rattle.rg_state.specs.Changes.{Marks, IsSince}
use Rattle.rg_state.specs.Rows.{Cells}
use Rattle.rg_checkpoint.specs.declared.sizes.SlotSizes.{SlotSizes}
use Rattle.rg_checkpoint.specs.Sizes.{ReachesSizes}
use Rattle.rg_checkpoint.specs.Slots.{Attached, AreSizes, HasSlot, ReachesSlots}
use Rattle.rg_open.specs.Opened.{IsKeptSince}
use Rattle.rg_recover.specs.Stepping.{SlotsStay}

-- neither slot is the log
pub below_log : (slot : ℕ) → slot < 2 → slot ≢ 2
below_log slot below e = absurd (omega (arith, below, e))

-- where the log alone was written
pub slots_of_log : (now then : Option Image) (may after : Image → Type 0) (Step : List ℕ → List ℕ → Type 0) → Becomes now then (InFile 2 Step) → ((u : Image) → after u → OthersStay 2 may u) → SlotsStay now then may after
slots_of_log now then may after Step step others = record {
  told = λ v told. let b = step.told v told in (b.0, b.1, λ slot below. b.2.elsewhere slot (below_log slot below));
  untold = step.untold;
  left = λ u left. let x = others u left in (x.0, x.1, λ slot below. x.2 slot (below_log slot below));
}

-- where no file was
pub slots_quiet : (now then : Option Image) (may after : Image → Type 0) → then ≡ now → ((u : Image) → after u → may u) → SlotsStay now then may after
slots_quiet now then may after same fewer = record {
  told = λ v told. (v, same ∙ told, λ slot below. refl);
  untold = λ none. same ∙ none;
  left = λ u left. (u, fewer u left, λ slot below. refl);
}

pub slots_then : (now mid then : Option Image) (may between after : Image → Type 0) → SlotsStay now mid may between → SlotsStay mid then between after → SlotsStay now then may after
slots_then now mid then may between after first second = record {
  told = λ v told.
      let a = first.told v told in
      let b = second.told a.0 a.1 in
      (b.0, b.1, λ slot below. b.2 slot below ∙ a.2 slot below);
  untold = λ none. second.untold (first.untold none);
  left = λ u left.
      let b = second.left u left in
      let a = first.left b.0 b.1 in
      (a.0, a.1, λ slot below. b.2 slot below ∙ a.2 slot below);
}

-- nothing of a slot is pending still
pub slot_settled : (now then : Option Image) (may after : Image → Type 0) (slot : ℕ) → slot < 2 → SlotsStay now then may after → NothingPending slot now may → NothingPending slot then after
slot_settled (Some v) then may after slot below stays settled = λ w told u left.
    let a = stays.told v refl in
    let x = stays.left u left in
    let same : a.0 ≡ w = let both : ◌≡◌ {A = Option Image} (Some a.0) (Some w) = sym a.1 ∙ told in cc in
    x.2 slot below ∙ settled v refl x.0 x.1 ∙ sym (a.2 slot below) ∙ ap (λ (i : Image). i slot) same
slot_settled None then may after slot below stays settled = λ w told u left.
    absurd (let none : ◌≡◌ {A = Option Image} None (Some w) = sym (stays.untold refl) ∙ told in cc)

-- they reach as far as before
pub slots_reach : (slots : Attached) (now then : Option Image) (may after : Image → Type 0) → SlotsStay now then may after → ReachesSlots slots now → ReachesSlots slots then
slots_reach slots (Some v) then may after stays reaches going w told =
    let a = stays.told v refl in
    let same : a.0 ≡ w = let both : ◌≡◌ {A = Option Image} (Some a.0) (Some w) = sym a.1 ∙ told in cc in
    let was = reaches going v refl in
    subst (λ (i : Image). ReachesSizes slots.first_sizes (i 0) × ReachesSizes slots.second_sizes (i 1)) same (
      subst (λ (bytes : List ℕ). ReachesSizes slots.first_sizes bytes) (sym (a.2 0 (omega arith))) was.0,
      subst (λ (bytes : List ℕ). ReachesSizes slots.second_sizes bytes) (sym (a.2 1 (omega arith))) was.1,
    )
slots_reach slots None then may after stays reaches going w told =
    absurd (let none : ◌≡◌ {A = Option Image} None (Some w) = sym (stays.untold refl) ∙ told in cc)

-- what is kept of a slot, where the slots' files stay and a table goes on
pub kept_on : (may after : Image → Type 0) (slot saved : ℕ) (texts : List (List ℕ)) (sizes : Option SlotSizes) (named there named' there' : Marks) (cells cells' : Cells) → slot < 2
    → ((u : Image) → after u → (x : Image) × may x × ((i : ℕ) → i < 2 → u i ≡ x i)) → ((base : Cells) → IsSince base named there cells → IsSince base named' there' cells')
    → IsKeptSince may slot saved texts sizes named there cells → IsKeptSince after slot saved texts sizes named' there' cells'
kept_on may after slot saved texts sizes named there named' there' cells cells' below left goes kept = record {
  checkpoint = kept.checkpoint;
  has = λ u one. let x = left u one in subst (λ (bytes : List ℕ). HasSlot bytes kept.checkpoint) (sym (x.2 slot below)) (kept.has x.0 x.1);
  known = kept.known;
  sizes_are = λ u one. let x = left u one in subst (λ (bytes : List ℕ). AreSizes bytes sizes) (sym (x.2 slot below)) (kept.sizes_are x.0 x.1);
  count = kept.count;
  texts_are = kept.texts_are;
  since = goes _ kept.since;
}
