-- A log that was attached over a store of the plan.
use Rattle.std.proofs.Common.{◌≡◌, ◌≢◌, ◌∙◌, ℕ, false, List, [], Option, Some, None, refl, sym, subst, arith}
use Rattle.std.specs.Option.{ForSome}
use Rattle.rg_host.specs.Image.{Image, NothingPending}
use Rattle.rg_event.specs.Shapes.{IsSchema}
use Rattle.rg_event.specs.declared.event.Event.{Event}
use Rattle.rg_frame.specs.Steps.{Leaves}
use Rattle.rg_frame.proofs.Laws.{payloads_one}
use Rattle.rg_log.specs.Filled.{HasEventsFor}
use Rattle.rg_log.proofs.Laws.{for_legal}
use Rattle.rg_config.specs.Plans.{Planned}
use Rattle.rg_checkpoint.specs.Sizes.{ReachesSizes}
use Rattle.rg_checkpoint.specs.Slots.{Attached, IsSlot, AreSizes, ReachesSlots}
use Rattle.rg_restore.specs.declared.choosing.Saved.{Saved}
use Rattle.rg_reservoir.specs.Attached.{LogOpens}
use Rattle.rg_reservoir.specs.Kept.{base, opened, all_events, IsSound}
use Rattle.rg_reservoir.specs.declared.reservoir.Reservoir.{Reservoir}
use Rattle.rg_run_spec.specs.Steps.{IsMidStep, IsStepped}
use Rattle.rg_open.specs.Stores.{store_of}
use Rattle.rg_open.proofs.Sound.{open_left, opened_left}
use Rattle.rg_open.specs.Opened.{AreSized, AreSizesLeft}
use Rattle.rg_open.specs.Opening.{IsOpenable, AreSlots, IsFound}
use Rattle.rg_open.specs.Settling.{AreSettled}

-- what is openable stays so, where the host tells the same and a crash leaves no more
pub openable_still : (plan : Planned) (now then : Option Image) (may after : Image → Type 0) → then ≡ now → ((u : Image) → after u → may u) → IsOpenable plan now may → IsOpenable plan then after
openable_still plan now then may after same fewer is = record { image = is.image; told = same ∙ is.told; truthful = λ u left. is.truthful u (fewer u left); schema = is.schema }

module _ (plan : Planned) (schema : IsSchema plan.shape) (keep : Option ℕ) (now : Option Image) (may : Image → Type 0) (v : Image) (told : now ≡ Some v) (settled : NothingPending 2 now may) (u : Image) (left : Leaves 2 (LogOpens plan.shape plan.defaults) now may u) where
  -- within the opening of a log, and after it
  pub mid_step : IsMidStep (store_of plan) keep [] may u
  mid_step = open_left plan schema keep v may (subst (λ (n : Option Image). NothingPending 2 n may) told settled) u (subst (λ (n : Option Image). Leaves 2 (LogOpens plan.shape plan.defaults) n may u) told left)

  pub stepped : IsStepped (store_of plan) keep [] may u
  stepped = opened_left plan schema keep v may (subst (λ (n : Option Image). NothingPending 2 n may) told settled) u (subst (λ (n : Option Image). Leaves 2 (LogOpens plan.shape plan.defaults) n may u) told left)

-- a slot isn't written
slot_same : (i : ℕ) (Step : List ℕ → List ℕ → Type 0) (now : Option Image) (may : Image → Type 0) (v u : Image) → i ≢ 2 → now ≡ Some v → NothingPending i now may → Leaves 2 Step now may u → u i ≡ v i
slot_same i Step now may v u apart told settled left = left.0.2 i apart ∙ settled v told left.0.0 left.0.1

pub pending_stays : (i : ℕ) (Step : List ℕ → List ℕ → Type 0) (now then : Option Image) (may after : Image → Type 0) (v : Image) → i ≢ 2 → now ≡ Some v → ((w : Image) → then ≡ Some w → after w) → ((u : Image) → after u → Leaves 2 Step now may u)
    → NothingPending i now may → NothingPending i then after
pending_stays i Step now then may after v apart told reads left settled w also u one = slot_same i Step now may v u apart told settled (left u one) ∙ sym (slot_same i Step now may v w apart told settled (left w (reads w also)))

-- the sizes of the slots stay
pub sized_left : (Step : List ℕ → List ℕ → Type 0) (now : Option Image) (may after : Image → Type 0) (v : Image) → now ≡ Some v → AreSettled now may → ((u : Image) → after u → Leaves 2 Step now may u)
    → (slots : Attached) → AreSized slots v → AreSizesLeft after slots
sized_left Step now may after v told settled left slots sized u one = record {
  first = subst (λ (bytes : List ℕ). AreSizes bytes slots.first_sizes) (sym (slot_same 0 Step now may v u (λ e. absurd (omega (arith, e))) told settled.first (left u one))) sized.first;
  second = subst (λ (bytes : List ℕ). AreSizes bytes slots.second_sizes) (sym (slot_same 1 Step now may v u (λ e. absurd (omega (arith, e))) told settled.second (left u one))) sized.second;
}

-- and what they hold
pub held_left : (Step : List ℕ → List ℕ → Type 0) (now : Option Image) (may after : Image → Type 0) (v : Image) → now ≡ Some v → AreSettled now may → ((u : Image) → after u → Leaves 2 Step now may u)
    → (saved : Saved) → AreSlots v saved → (u : Image) → after u → AreSlots u saved
held_left Step now may after v told settled left saved are u one = record {
  first = subst (λ (bytes : List ℕ). IsSlot bytes saved.first) (sym (slot_same 0 Step now may v u (λ e. absurd (omega (arith, e))) told settled.first (left u one))) are.first;
  second = subst (λ (bytes : List ℕ). IsSlot bytes saved.second) (sym (slot_same 1 Step now may v u (λ e. absurd (omega (arith, e))) told settled.second (left u one))) are.second;
}

-- and their files are still longer than those
pub reach_left : (Step : List ℕ → List ℕ → Type 0) (now then : Option Image) (may after : Image → Type 0) → (now ≡ None → then ≡ None) → ((w : Image) → then ≡ Some w → after w) → AreSettled now may → ((u : Image) → after u → Leaves 2 Step now may u)
    → (slots : Attached) → ReachesSlots slots now → ReachesSlots slots then
reach_left Step None then may after untold reads settled left slots reach going w also = let e : ◌≡◌ {A = Option Image} (Some w) None = sym also ∙ untold refl in absurd cc
reach_left Step (Some v) then may after untold reads settled left slots reach going w also =
    let step = left w (reads w also) in
    let was = reach going v refl in (
      subst (ReachesSizes slots.first_sizes) (sym (slot_same 0 Step (Some v) may v w (λ e. absurd (omega (arith, e))) refl settled.first step)) was.0,
      subst (ReachesSizes slots.second_sizes) (sym (slot_same 1 Step (Some v) may v w (λ e. absurd (omega (arith, e))) refl settled.second step)) was.1,
    )

module _ (plan : Planned) (schema : IsSchema plan.shape) (now then : Option Image) (may after : Image → Type 0) (openable : IsOpenable plan now may) (settled : AreSettled now may) (left : (u : Image) → after u → Leaves 2 (LogOpens plan.shape plan.defaults) now may u) where
  -- what was found
  pub found_by : (r : Reservoir) (saved : Saved) → ((v : Image) (events : List Event) → now ≡ Some v → NothingPending 2 now may → HasEventsFor plan.shape plan.defaults events (v 2) → IsSound then after r × (all_events then (base r) (opened r) ≡ events))
      → ForSome now (λ v. AreSlots v saved) → ((v : Image) → now ≡ Some v → may v) → (base r).ended ≡ false → (base r).file ≡ 2 → (base r).shape ≡ plan.shape → opened r ≡ [] → IsFound plan then after r saved
  found_by r saved sound slots reads going file shape empty =
      let v = openable.image in
      let at : may v = reads v openable.told in
      let events = for_legal payloads_one plan.shape plan.defaults (v 2) schema (openable.truthful v at).log openable.schema in
      record {
        reservoir = record { sound = (sound v events.0 openable.told settled.log events.1).0; going = going; file = file; shape = shape };
        empty = empty;
        truthful = λ u one. let step = stepped plan schema None now may v openable.told settled.log u (left u one) in step.truthful (openable.truthful step.from step.left);
        slots = held_left (LogOpens plan.shape plan.defaults) now may after v openable.told settled left saved (slots v openable.told);
      }
