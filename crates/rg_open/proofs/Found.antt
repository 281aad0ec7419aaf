-- A store that was found, and the engine that is started over it.
use Rattle.std.proofs.Common.{◌≡◌, ◌∙◌, ◌↔◌, ℕ, zero, suc, ◌<◌, Bool, true, false, List, [], ◌∷◌, length, Option, Some, None, refl, sym, ap, subst, arith}
use Rattle.std.specs.Prelude.{All}
use Rattle.rg_host.specs.Image.{Image}
use Rattle.rg_event.specs.Rising.{next_offset}
use Rattle.rg_event.specs.declared.event.Event.{Event}
use Rattle.rg_event.specs.declared.schema.Field.{Field}
use Rattle.rg_past.specs.declared.past.Spot.{Spot}
use Rattle.rg_frame.specs.LogState.{Reaches, ReachesEnd}
use Rattle.rg_log.specs.Log.{joined}
use Rattle.rg_log.specs.Spots.{SpotIn}
use Rattle.rg_config.specs.Plans.{Planned}
use Rattle.rg_config.specs.Read.{IsSaid}
use Rattle.rg_query.specs.Legal.{IsLegalQuery}
use Rattle.rg_plan.specs.Plans.{Tasks, plan_for}
use Rattle.rg_state.specs.Rows.{Cells}
use Rattle.rg_engine.specs.Feeding.{Serves}
use Rattle.rg_engine.specs.Seen.{Seen}
use Rattle.rg_engine.proofs.Laws.{serves}
use Rattle.rg_checkpoint.specs.declared.base.Checkpoint.{Checkpoint}
use Rattle.rg_checkpoint.specs.Slots.{HasSlot, IsSlot, IsKeep}
use Rattle.rg_restore.specs.declared.choosing.Saved.{Saved}
use Rattle.rg_restore.specs.Fit.{IsFit}
use Rattle.rg_restore.specs.Naming.{HeadsName, NamesIn}
use Rattle.rg_restore.specs.Slots.{slot_in, AreTruthful, IsFrom, HaveBegun}
use Rattle.rg_restore.specs.Truthful.{IsTruthful, EngineStands}
use Rattle.rg_restore.proofs.Laws.{truthful_fits, same_past, fit_same}
use Rattle.rg_reservoir.specs.Kept.{Base, base, opened, next_of, time_of, cache_of, log_of, all_events, IsSound, IsRight, Spells}
use Rattle.rg_reservoir.specs.GoingLaws.{all_long}
use Rattle.rg_reservoir.specs.declared.reservoir.Reservoir.{Reservoir}
use Rattle.rg_open.specs.Truth.{texts_of, IsTrueOf}
use Rattle.rg_open.specs.Opened.{IsKeptInSlot}
use Rattle.rg_open.proofs.Sound.{framed}
use Rattle.rg_open.proofs.Saving.{of_plan}
use Rattle.rg_open.specs.Opening.{IsFound, IsStarted}
use Rattle.rg_open.proofs.Logs as log

-- the slot that was used is one of the two
pub begun_keep : (offsets : List ℕ) (saved : Saved) (keep : Option ℕ) (numbers : List ℕ) → HaveBegun offsets (slot_in saved) keep numbers → IsKeep keep
begun_keep offsets saved None numbers begun = tt
begun_keep offsets saved (Some zero) numbers begun = omega arith
begun_keep offsets saved (Some (suc zero)) numbers begun = omega arith
begun_keep offsets saved (Some (suc (suc n))) numbers (checkpoint, there, at) = absurd cc

-- the next offset that is kept is the one behind all events
pub next_is : (now : Option Image) (may : Image → Type 0) (r : Reservoir) (events : List Event) → IsSound now may r → (base r).ended ≡ false → opened r ≡ [] → all_events now (base r) [] ≡ events → next_of r ≡ next_offset events
next_is now may r events sound going none all =
    (sound.2.right going).next_is ∙ ap (λ (l : List Event). next_offset (all_events (Some sound.0) (base r) l)) none ∙ ap (λ (o : Option Image). next_offset (all_events o (base r) [])) (sym sound.1) ∙ ap next_offset all

-- no event is in the open chunk still, where the events are the same
pub none_still : (now then : Option Image) (r s : Reservoir) → base s ≡ base r → opened r ≡ [] → all_events then (base s) (opened s) ≡ all_events now (base r) (opened r) → opened s ≡ []
none_still now then r s based none same = by (opened s) (omega (arith, all_long now (base r) (opened r), all_long then (base s) (opened s), ap length same, ap (λ (b : Base). b.committed) based, ap length none))
  where
    by : (l : List Event) → length l ≡ 0 → l ≡ []
    by [] is = refl
    by (x ∷ l) is = absurd (omega (arith, is))

-- the log still reaches its end, where only the open chunk changed
pub reaches_still : (now then : Option Image) (r s : Reservoir) → then ≡ now → base s ≡ base r → ReachesEnd (log_of r) now → ReachesEnd (log_of s) then
reaches_still now then r s same based reach going w told =
    subst (λ (f : ℕ). Reaches s.log.end (w f)) (sym (ap (λ (b : Base). b.file) based))
    (subst (λ (n : ℕ). Reaches n (w r.log.file)) (sym (ap (λ (b : Base). b.end) based)) (reach (r.same ∙ sym (ap (λ (b : Base). b.ended) based) ∙ sym s.same ∙ going) w (sym same ∙ told)))

-- which checkpoint is used, where the heads name the spots
pub from_heads : (now : Option Image) (b : Base) (chunk : List Event) (texts : List (List ℕ)) (given fields : List Field) (tasks : Tasks) (n : ℕ) (slots : ℕ → Option Checkpoint) (keep : Option ℕ) (from : ℕ) → chunk ≡ [] → b.ended ≡ false → given ≡ fields → n ≡ b.committed
    → IsFrom (IsFit (λ (s : Spot). NamesIn now b b.ended chunk s) texts given tasks n) slots keep from → IsFrom (IsFit (HeadsName now b) texts fields tasks b.committed) slots keep from
from_heads now b chunk texts given fields tasks n slots keep from none going same count is =
    let s1 = subst (λ (l : List Event). IsFrom (IsFit (λ (s : Spot). NamesIn now b b.ended l s) texts given tasks n) slots keep from) none is in
    let s2 = subst (λ (e : Bool). IsFrom (IsFit (λ (s : Spot). NamesIn now b e [] s) texts given tasks n) slots keep from) going s1 in
    let s3 = subst (λ (l : List Field). IsFrom (IsFit (HeadsName now b) texts l tasks n) slots keep from) same s2 in
    subst (λ (m : ℕ). IsFrom (IsFit (HeadsName now b) texts fields tasks m) slots keep from) count s3

-- the same of a later state, which keeps what only a commit changes
pub from_later : (now then : Option Image) (b a : Base) (texts : List (List ℕ)) (fields : List Field) (given tasks : Tasks) (slots : ℕ → Option Checkpoint) (keep : Option ℕ) (from : ℕ) → then ≡ now → a ≡ b → given ≡ tasks
    → IsFrom (IsFit (HeadsName now b) texts fields given b.committed) slots keep from → IsFrom (IsFit (HeadsName then a) texts fields tasks a.committed) slots keep from
from_later now then b a texts fields given tasks slots keep from same based copied is =
    let s1 = subst (λ (o : Option Image). IsFrom (IsFit (HeadsName o b) texts fields given b.committed) slots keep from) (sym same) is in
    let s2 = subst (λ (c : Base). IsFrom (IsFit (HeadsName then c) texts fields given c.committed) slots keep from) (sym based) s1 in
    subst (λ (t : Tasks). IsFrom (IsFit (HeadsName then a) texts fields t a.committed) slots keep from) copied s2

-- the same by another test, which the checkpoints of the slots pass where they pass this one
pub from_same : (A B : Checkpoint → Type 0) (slots : ℕ → Option Checkpoint) → ((i : ℕ) (c : Checkpoint) → slots i ≡ Some c → A c ↔ B c) → (keep : Option ℕ) (from : ℕ) → IsFrom A slots keep from → IsFrom B slots keep from
from_same A B slots same None from is = (λ i c there fits. is.0 i c there ((same i c there).1 fits), is.1)
from_same A B slots same (Some i) from (checkpoint, best, count) = (
  checkpoint,
  record {
    there = best.there;
    fit = (same i checkpoint best.there).0 best.fit;
    others = λ j other there fits. best.others j other there ((same j other there).1 fits);
  },
  count,
)

module _ (plan : Planned) (now : Option Image) (may : Image → Type 0) (r : Reservoir) (saved : Saved) (found : IsFound plan now may r saved) where
  abbrev image : Image
  image = found.reservoir.sound.0

  abbrev right : IsRight image may (base r) [] (next_of r) (time_of r) (cache_of r)
  right = log.right plan now may r found.reservoir found.empty

  abbrev pub all : List Event
  all = all_events now (base r) (opened r)

  -- the checkpoint of a slot, in each image
  pub slot_of : (i : ℕ) (checkpoint : Checkpoint) → slot_in saved i ≡ Some checkpoint → (u : Image) → may u → (i < 2) × HasSlot (u i) checkpoint
  slot_of zero checkpoint there u left = (omega arith, subst (IsSlot (u 0)) there (found.slots u left).first)
  slot_of (suc zero) checkpoint there u left = (omega arith, subst (IsSlot (u 1)) there (found.slots u left).second)
  slot_of (suc (suc i)) checkpoint there u left = absurd cc

  module _ (tasks : Tasks) (tasks_are : tasks ≡ plan_for plan.queries) where
    -- each checkpoint of the plan's queries is true of its events
    pub are_truthful : (texts : List (List ℕ)) → texts ≡ texts_of plan.shape plan.queries → ((v : Image) → now ≡ Some v → may v) → All (IsSaid plan.shape) plan.queries → AreTruthful (Spells now (base r) (opened r)) texts tasks all (slot_in saved)
    are_truthful texts texts_are reads said i checkpoint there same =
        let left = reads image found.reservoir.sound.1 in
        let slot = slot_of i checkpoint there image left in
        let is : IsTrueOf (image 2) checkpoint = (found.truthful image left).slots i slot.0 checkpoint slot.1 in
        let here = framed plan image may (base r) [] (next_of r) (time_of r) (cache_of r) right found.reservoir.file found.reservoir.shape in
        same_past (SpotIn (image 2)) (Spells now (base r) (opened r)) tasks (joined right.chunks) all checkpoint (log.spelled plan now may r found.reservoir found.empty) (log.all_is plan now may r found.reservoir found.empty)
        (subst (λ (t : Tasks). IsTruthful (SpotIn (image 2)) t (joined right.chunks) checkpoint) (sym tasks_are) (of_plan plan said (image 2) (joined right.chunks) here (log.has plan now may r found.reservoir found.empty) checkpoint is (same ∙ texts_are)))

    module _ (texts : List (List ℕ)) (printed : texts ≡ texts_of plan.shape plan.queries) (reads : (v : Image) → now ≡ Some v → may v) (said : All (IsSaid plan.shape) plan.queries) (legal : All (IsLegalQuery plan.shape) plan.queries) where
      -- each checkpoint of the plan's queries is fit
      fits : (i : ℕ) (checkpoint : Checkpoint) → slot_in saved i ≡ Some checkpoint → checkpoint.queries ≡ texts → IsFit (HeadsName now (base r)) texts plan.shape.fields tasks (base r).committed checkpoint
      fits i checkpoint there same =
          let serve : Serves plan.shape.fields tasks = subst (Serves plan.shape.fields) (sym tasks_are) (serves plan.shape plan.queries legal) in
          let count : length all ≡ (base r).committed = omega (arith, all_long now (base r) (opened r), ap length found.empty) in
          fit_same (Spells now (base r) (opened r)) (HeadsName now (base r)) texts plan.shape.fields tasks (length all) (base r).committed checkpoint (log.names plan now may r found.reservoir found.empty) count
          (truthful_fits (Spells now (base r) (opened r)) texts plan.shape.fields tasks all checkpoint serve (log.are_events plan now may r found.reservoir found.empty) same (are_truthful texts printed reads said i checkpoint there same))

      -- so the greatest count of one of the plan's queries is that of a fit one
      pub from_texts : (keep : Option ℕ) (from : ℕ) → IsFrom (IsFit (HeadsName now (base r)) texts plan.shape.fields tasks (base r).committed) (slot_in saved) keep from → IsFrom (λ (c : Checkpoint). c.queries ≡ texts_of plan.shape plan.queries) (slot_in saved) keep from
      from_texts keep from is = from_same (IsFit (HeadsName now (base r)) texts plan.shape.fields tasks (base r).committed) (λ (c : Checkpoint). c.queries ≡ texts_of plan.shape plan.queries) (slot_in saved)
          (λ i checkpoint there. (λ fit. fit.queries_are ∙ printed, λ same. fits i checkpoint there (same ∙ sym printed))) keep from is

    -- the slot that was used
    pub kept_by : (after : Image → Type 0) → ((u : Image) → after u → may u) → (Names : Spot → Type 0) (texts : List (List ℕ)) (fields : List Field) (committed : ℕ) → texts ≡ texts_of plan.shape plan.queries
        → (keep : Option ℕ) (from : ℕ) → IsFrom (IsFit Names texts fields tasks committed) (slot_in saved) keep from → (slot : ℕ) → keep ≡ Some slot → IsKeptInSlot plan after slot from committed
    kept_by after fewer Names texts fields committed texts_are None from is slot e = absurd cc
    kept_by after fewer Names texts fields committed texts_are (Some i) from (checkpoint, best, count) slot e =
        let same : i ≡ slot = cc in
        subst (λ (n : ℕ). IsKeptInSlot plan after n from committed) same (record {
          below = below i checkpoint best.there;
          stored = omega (arith, count, best.fit.within);
          has = λ u left. let s = slot_of i checkpoint best.there u (fewer u left) in record {
            below = s.0;
            checkpoint = checkpoint;
            complete = s.1;
            texts = best.fit.queries_are ∙ texts_are;
            most = omega (arith, count);
          };
        })
      where
        below : (n : ℕ) (c : Checkpoint) → slot_in saved n ≡ Some c → n < 2
        below zero c there = omega arith
        below (suc zero) c there = omega arith
        below (suc (suc n)) c there = absurd cc

    -- an engine that was started over it
    module _ (then : Option Image) (after : Image → Type 0) (s : Reservoir) (based : base s ≡ base r) (none : opened s ≡ []) (sound : IsSound then after s) (fewer : (u : Image) → after u → may u) where
      pub started : {T : Type 0} (is_told : Type 0) (cells : Cells) (engine : Seen T) (texts : List (List ℕ)) (keep : Option ℕ) (from : ℕ) → texts ≡ texts_of plan.shape plan.queries → All (IsSaid plan.shape) plan.queries → All (IsLegalQuery plan.shape) plan.queries
          → is_told → engine.plan ≡ tasks → EngineStands (Spells then (base s) (opened s)) tasks (all_events then (base s) (opened s)) cells engine.spots → ((slot : ℕ) → keep ≡ Some slot → IsKeptInSlot plan after slot from (base r).committed)
          → IsStarted plan then after is_told cells s engine texts keep from
      started is_told cells engine texts keep from texts_are said legal tells plan_is stands kept = record {
        in_step = record {
          reservoir = record {
            sound = sound;
            going = ap (λ (b : Base). b.ended) based ∙ found.reservoir.going;
            file = ap (λ (b : Base). b.file) based ∙ found.reservoir.file;
            shape = ap (λ (b : Base). b.shape) based ∙ found.reservoir.shape;
          };
          said = said;
          truthful = λ u left. found.truthful u (fewer u left);
          stands = subst (λ (t : Tasks). EngineStands (Spells then (base s) (opened s)) t (all_events then (base s) (opened s)) cells engine.spots) tasks_are stands;
          texts_are = texts_are;
        };
        empty = none;
        tells = tells;
        serves = serves plan.shape plan.queries legal;
        plan_is = plan_is ∙ tasks_are;
        kept = λ slot is. subst (λ (b : Base). IsKeptInSlot plan after slot from b.committed) (sym based) (kept slot is);
      }
