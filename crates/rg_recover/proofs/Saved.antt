-- A session that runs still after a checkpoint was written.
use Rattle.std.proofs.Common.{◌≡◌, ◌⊎◌, inl, inr, ◌<◌, ◌≤◌, ℕ, zero, suc, false, List, [], ◌++◌, length, Option, Some, refl, sym, ◌∙◌, subst, arith}
use Rattle.std.proofs.lemmas.List.{append-nil}
use Rattle.rg_host.specs.Image.{Image, NothingPending}
use Rattle.rg_frame.specs.Steps.{Leaves}
use Rattle.rg_event.specs.Rising.{last_time}
use Rattle.rg_event.specs.declared.event.Event.{Event}
use Rattle.rg_past.specs.declared.past.Spot.{Spot}
use Rattle.rg_config.specs.Plans.{Planned}
use Rattle.rg_plan.specs.Named.{node_at}
use Rattle.rg_plan.specs.Plans.{Tasks, plan_for}
use Rattle.rg_agg.specs.Held.{Held}
use Rattle.rg_state.specs.Changes.{Marks}
use Rattle.rg_state.specs.Rows.{Cells, Entry, Lists, Same}
use Rattle.rg_engine.specs.Seen.{Seen}
use Rattle.rg_engine.specs.Standing.{RowIs}
use Rattle.rg_checkpoint.specs.Base.{IsBase}
use Rattle.rg_checkpoint.specs.Sizes.{OfSizes}
use Rattle.rg_checkpoint.specs.Slots.{Attached, IsKeep, Lengthened, Lengthens, Turns, Written, other_of, sizes_in}
use Rattle.rg_checkpoint.specs.Writing.{Encodes, EncodesChanges}
use Rattle.rg_checkpoint.specs.declared.base.Checkpoint.{Checkpoint}
use Rattle.rg_checkpoint.specs.declared.sizes.SlotSizes.{SlotSizes}
use Rattle.rg_reservoir.specs.Kept.{base, opened, all_events, Spells}
use Rattle.rg_restore.specs.Truthful.{StandsFor, EngineStands}
use Rattle.rg_run_spec.specs.Stores.{Store}
use Rattle.rg_run_spec.specs.Steps.{IsMidStep, IsStepped, IsSavedTo}
use Rattle.rg_open.specs.Stores.{store_of, HasSaved}
use Rattle.rg_open.specs.Opened.{IsKeptSince, IsToExtend, IsToSave}
use Rattle.rg_open.specs.Truth.{IsTrueOf, texts_of}
use Rattle.rg_open.proofs.Laws.{other_below}
use Rattle.rg_recover.specs.Saving.{IsChosen, IsToWrite, Turned, Turning, slot_for}
use Rattle.rg_recover.specs.Sessions.{Sitting, IsRunning, count_in}
use Rattle.rg_recover.specs.Stepping.{LogStays}
use Rattle.rg_recover.specs.declared.payload.Payload.{Payload}
use Rattle.rg_recover.specs.declared.payload.Payload.TheVariants.{Base, Changes}
use Rattle.rg_recover.proofs.Beside.{sound_beside, events_beside, spells_beside}
use Rattle.rg_recover.proofs.Keeping.{change_applies, checkpoint_of}
use Rattle.rg_recover.proofs.Ready.{stands_still}
use Rattle.rg_recover.proofs.Sound.{long}

-- within a step that adds nothing, it is done
pub mid_is_stepped : (store : Store Image) (keep : Option ℕ) (may : Image → Type 0) (u : Image) → IsMidStep store keep [] may u → IsStepped store keep [] may u
mid_is_stepped store keep may u step = record {
  from = step.from;
  left = step.left;
  truthful = step.truthful;
  schema = step.schema;
  grown = step.grown;
  events = λ es has. by es (step.events es has);
  slots = step.slots;
}
  where
    by : (es : List Event) → store.HasEvents es u ⊎ store.HasEvents (es ++ []) u → store.HasEvents (es ++ []) u
    by es (inl has) = subst (λ (l : List Event). store.HasEvents l u) (sym (append-nil es)) has
    by es (inr has) = has

-- rows that are the same stand for the same events
pub rows_still : (plan : Tasks) (events : List Event) (cells rows : Cells) → Same cells rows → StandsFor plan events cells → StandsFor plan events rows
rows_still plan events cells rows same stand n key = subst (λ (row : Option Held). RowIs (node_at plan n) key (last_time events) events row) (sym (same n key)) (stand n key)

-- of one of the two slots
pub of_slot : (slot : ℕ) (P : ℕ → Type 0) → slot < 2 → P 0 → P 1 → P slot
of_slot zero P below first second = first
of_slot (suc zero) P below first second = second
of_slot (suc (suc n)) P below first second = absurd (omega (arith, below))

pub some_same : (a b : ℕ) → ◌≡◌ {A = Option ℕ} (Some a) (Some b) → a ≡ b
some_same a b is = cc

-- what was chosen of a session that runs, once all its events are stored
module _ {T : Type 0} (plan : Planned) (now : Option Image) (may : Image → Type 0) (Tells : T → Type 0) (cell : T → Cells) (named there : T → Marks) (s : Sitting T) (count : ℕ)
    (runs : IsRunning plan now may Tells cell named there s) (empty : opened s.reservoir ≡ []) (legal : IsKeep s.keep) (count_is : count ≡ count_in s.reservoir)
    (law : (checkpoint : Checkpoint) → IsToSave plan now may s.reservoir (cell s.engine.table) checkpoint.spots checkpoint.queries → Lists (cell s.engine.table) checkpoint.rows → checkpoint.count ≡ length (all_events now (base s.reservoir) (opened s.reservoir)) → (u : Image) → may u → IsTrueOf (u 2) checkpoint) where
  true_of_all : (rows : List Entry) → Lists (cell s.engine.table) rows → (u : Image) → may u → IsTrueOf (u 2) (checkpoint_of s.texts count s.engine.spots rows)
  true_of_all rows lists = law (checkpoint_of s.texts count s.engine.spots rows) (record { in_step = runs.ready.in_step; empty = empty }) lists (count_is ∙ sym (long now s.reservoir))

  -- all rows are to be written
  to_write : (payload : List ℕ) (enc : Encodes (cell s.engine.table) s.texts count s.engine.spots [] payload) → IsToWrite plan now may s.keep payload (checkpoint_of s.texts count s.engine.spots enc.rows)
  to_write payload enc = record {
    base = subst (λ (p : List ℕ). IsBase p (checkpoint_of s.texts count s.engine.spots enc.rows)) (sym enc.added) enc.base;
    image = runs.ready.in_step.reservoir.sound.0;
    told = runs.ready.in_step.reservoir.sound.1;
    settled = of_slot (other_of s.keep) (λ (f : ℕ). NothingPending f now may) (other_below s.keep legal) runs.first_settled runs.second_settled;
    true_of = true_of_all enc.rows enc.lists;
    texts = runs.ready.in_step.texts_are;
  }

  -- or what changed
  to_extend : (slot : ℕ) (payload : List ℕ) (rows : List Entry) (kept : s.keep ≡ Some slot) → EncodesChanges (named s.engine.table) (there s.engine.table) (cell s.engine.table) count s.engine.spots [] payload → Lists (cell s.engine.table) rows
      → IsToExtend plan now may slot (sizes_in s.slots slot) payload (runs.since slot kept).checkpoint (checkpoint_of s.texts count s.engine.spots rows)
  to_extend slot payload rows kept enc lists =
      let since = runs.since slot kept in
      let was = runs.kept slot kept in
      record {
        below = was.below;
        image = runs.ready.in_step.reservoir.sound.0;
        told = runs.ready.in_step.reservoir.sound.1;
        settled = of_slot slot (λ (f : ℕ). NothingPending f now may) was.below runs.first_settled runs.second_settled;
        known = since.known;
        sizes_are = since.sizes_are;
        has = since.has;
        applies = change_applies may slot s.saved s.texts (sizes_in s.slots slot) (named s.engine.table) (there s.engine.table) (cell s.engine.table) since count s.engine.spots payload enc rows lists (omega (arith, was.stored, count_is));
        true_of = true_of_all rows lists;
        texts = runs.ready.in_step.texts_are;
      }

  module _ (rows : List Entry) (lists : Lists (cell s.engine.table) rows) where
    abbrev Chosen : Payload → Type 0
    Chosen = IsChosen (named s.engine.table) (there s.engine.table) (cell s.engine.table) s.texts count s.engine.spots s.slots s.keep

    -- an image at a moment of the writing is one within a step of the store
    pub turning_mid : ((payload : List ℕ) (checkpoint : Checkpoint) (v u : Image) → IsKeep s.keep → IsBase payload checkpoint → now ≡ Some v → NothingPending (other_of s.keep) now may → ((w : Image) → may w → IsTrueOf (w 2) checkpoint)
        → Leaves (other_of s.keep) (Turns payload) now may u → IsMidStep (store_of plan) s.keep [] may u)
        → ((slot : ℕ) (sizes : Option SlotSizes) (payload : List ℕ) (before after : Checkpoint) (u : Image) → IsToExtend plan now may slot sizes payload before after → Leaves slot (OfSizes sizes (Lengthens payload)) now may u → IsMidStep (store_of plan) s.keep [] may u)
        → (payload : Payload) → Chosen payload → (u : Image) → Leaves (slot_for s.keep payload) (Turning s.slots payload) now may u → IsMidStep (store_of plan) s.keep [] may u
    turning_mid saves extends (Base bytes) chosen u left =
        let to = to_write bytes.items chosen.0 in
        saves bytes.items (checkpoint_of s.texts count s.engine.spots chosen.0.rows) to.image u legal to.base to.told to.settled to.true_of left
    turning_mid saves extends (Changes slot bytes) chosen u left =
        extends slot (sizes_in s.slots slot) bytes.items (runs.since slot chosen.1).checkpoint (checkpoint_of s.texts count s.engine.spots rows) u (to_extend slot bytes.items rows chosen.1 chosen.0 lists) left

    -- and one after it has the new checkpoint
    pub turned_saved : ((payload : List ℕ) (checkpoint : Checkpoint) (v u : Image) → IsKeep s.keep → IsBase payload checkpoint → now ≡ Some v → NothingPending (other_of s.keep) now may → ((w : Image) → may w → IsTrueOf (w 2) checkpoint)
        → checkpoint.queries ≡ texts_of plan.shape plan.queries → Leaves (other_of s.keep) (Written payload) now may u → IsSavedTo (store_of plan) (other_of s.keep) checkpoint.count may u)
        → ((slot : ℕ) (sizes : Option SlotSizes) (payload : List ℕ) (before after : Checkpoint) (u : Image) → IsToExtend plan now may slot sizes payload before after → Leaves slot (OfSizes sizes (Lengthened payload)) now may u → IsSavedTo (store_of plan) slot after.count may u)
        → (payload : Payload) → Chosen payload → (u : Image) → Leaves (slot_for s.keep payload) (Turned s.slots payload) now may u → IsSavedTo (store_of plan) (slot_for s.keep payload) count may u
    turned_saved saved extended (Base bytes) chosen u left =
        let to = to_write bytes.items chosen.0 in
        saved bytes.items (checkpoint_of s.texts count s.engine.spots chosen.0.rows) to.image u legal to.base to.told to.settled to.true_of to.texts left
    turned_saved saved extended (Changes slot bytes) chosen u left =
        extended slot (sizes_in s.slots slot) bytes.items (runs.since slot chosen.1).checkpoint (checkpoint_of s.texts count s.engine.spots rows) u (to_extend slot bytes.items rows chosen.1 chosen.0 lists) left

-- it runs then
module _ {T : Type 0} (plan : Planned) (now then : Option Image) (may after : Image → Type 0) (Tells : T → Type 0) (cell : T → Cells) (named there : T → Marks) (s : Sitting T) (f : Seen T) (put : Attached) (slot count : ℕ)
    (runs : IsRunning plan now may Tells cell named there s) where
  pub running_saved : Tells f.table → Same (cell s.engine.table) (cell f.table) → f.plan ≡ s.engine.plan → f.spots ≡ s.engine.spots → LogStays now then may after → NothingPending 0 then after → NothingPending 1 then after → slot < 2 → count ≤ (base s.reservoir).committed
      → ((u : Image) → after u → IsStepped (store_of plan) s.keep [] may u) → ((u : Image) → after u → IsSavedTo (store_of plan) slot count may u)
      → IsKeptSince after slot count s.texts (sizes_in put slot) (named f.table) (there f.table) (cell f.table)
      → IsRunning plan then after Tells cell named there (record { reservoir = s.reservoir; engine = f; texts = s.texts; grace = s.grace; slots = put; keep = Some slot; saved = count; ended = false })
  running_saved tells same plan_same spots_same stays first second below few stepped saved_to since =
      let r = s.reservoir in
      let e = s.engine in
      let step = runs.ready.in_step in
      let log = step.reservoir in
      record {
        ready = record {
          in_step = record {
            reservoir = record { sound = sound_beside now then may after r log.file stays log.sound; going = log.going; file = log.file; shape = log.shape };
            said = step.said;
            truthful = λ u one. (stepped u one).truthful (step.truthful (stepped u one).from (stepped u one).left);
            stands = subst (λ (at : List Spot). EngineStands (Spells then (base r) (opened r)) (plan_for plan.queries) (all_events then (base r) (opened r)) (cell f.table) at) (sym spots_same)
                (stands_still (Spells now (base r) (opened r)) (Spells then (base r) (opened r)) (plan_for plan.queries) (all_events now (base r) (opened r)) (all_events then (base r) (opened r)) (cell f.table) e.spots
                (spells_beside now then may after r log.file stays) (events_beside now then may after r log.file stays log.sound)
                (record { rows = rows_still (plan_for plan.queries) (all_events now (base r) (opened r)) (cell e.table) (cell f.table) same step.stands.rows; spots = step.stands.spots }));
            texts_are = step.texts_are;
          };
          tells = tells;
          serves = runs.ready.serves;
          plan_is = plan_same ∙ runs.ready.plan_is;
        };
        limit_is = runs.limit_is;
        grace_is = runs.grace_is;
        going = refl;
        first_settled = first;
        second_settled = second;
        kept = λ n is.
            let at : slot ≡ n = some_same slot n is in
            record {
              below = subst (λ (m : ℕ). m < 2) at below;
              stored = few;
              has = λ u one. subst (λ (m : ℕ). HasSaved plan m count u) at (saved_to u one).saved;
            };
        since = λ n is. subst (λ (m : ℕ). IsKeptSince after m count s.texts (sizes_in put m) (named f.table) (there f.table) (cell f.table)) (some_same slot n is) since;
      }
