-- Which node of the used checkpoint isn't true, from the spots of a reservoir to those of its log.
use Rattle.std.proofs.Common.{◌≡◌, ◌∙◌, ◌↔◌, inl, inr, ℕ, List, [], ◌∷◌, ◌++◌, length, Option, Some, option_and_then, refl, sym, ap, subst}
use Rattle.std.specs.Prelude.{All}
use Rattle.std.proofs.lemmas.List.{append-nil}
use Rattle.std.proofs.lemmas.List.Elements.{All-nil}
use Rattle.rg_host.specs.Image.{Image}
use Rattle.rg_event.specs.Shapes.{Shape}
use Rattle.rg_event.specs.declared.event.Event.{Event}
use Rattle.rg_event.specs.declared.schema.Field.{Field}
use Rattle.rg_event.specs.declared.value.Value.{Value}
use Rattle.rg_growth.specs.Filling.{IsFilled, filled}
use Rattle.rg_growth.proofs.Laws.{not_itself}
use Rattle.rg_past.specs.declared.past.Spot.{Spot}
use Rattle.rg_frame.specs.Frames.{FitsFrame, HasPayloads}
use Rattle.rg_frame.proofs.Laws.{payloads_one}
use Rattle.rg_log.specs.Entries.{unread, behind, entries_after}
use Rattle.rg_log.specs.Spots.{SpotAt}
use Rattle.rg_log.specs.declared.entry.LogSoFar.{LogSoFar}
use Rattle.rg_log.specs.declared.summary.LogSummary.{LogSummary}
use Rattle.rg_config.specs.Plans.{Planned}
use Rattle.rg_plan.specs.Plans.{Tasks, plan_for}
use Rattle.rg_query.specs.Legal.{IsLegalQuery}
use Rattle.rg_state.specs.Rows.{Cells}
use Rattle.rg_engine.specs.Seen.{Seen}
use Rattle.rg_engine.proofs.Laws.{serves}
use Rattle.rg_checkpoint.specs.declared.base.Checkpoint.{Checkpoint}
use Rattle.rg_restore.specs.declared.choosing.Saved.{Saved}
use Rattle.rg_restore.specs.Fit.{IsFit}
use Rattle.rg_restore.specs.Naming.{NamesIn}
use Rattle.rg_restore.specs.NamingLaws.{sound_names}
use Rattle.rg_restore.specs.Slots.{slot_in, IsBest}
use Rattle.rg_restore.specs.Truthful.{NodeGoes, NodeIsTrue}
use Rattle.rg_restore.proofs.Laws.{node_later, fit_same}
use Rattle.rg_reservoir.specs.Attached.{growth_payload, Opens}
use Rattle.rg_reservoir.specs.Kept.{Base, base, opened, all_events, IsSound, Spells}
use Rattle.rg_reservoir.specs.declared.reservoir.Reservoir.{Reservoir}
use Rattle.rg_open.specs.Truth.{texts_of}
use Rattle.rg_open.specs.Opened.{IsOpenedFor}
use Rattle.rg_open.specs.Stores.{Has}
use Rattle.rg_open.specs.Blame.{payload_of, growth_behind, opened_list, IsAmiss, NodeRuns}
use Rattle.rg_open.proofs.Logs.{spelled, in_log}
use Rattle.rg_open.proofs.ToGrow.{has_frame}

-- the best one is the best by another test that each passes where it passes this one
best_same : (A B : Checkpoint → Type 0) (slots : ℕ → Option Checkpoint) (i : ℕ) (used : Checkpoint) → ((c : Checkpoint) → A c ↔ B c) → IsBest A slots i used → IsBest B slots i used
best_same A B slots i used same best = record { there = best.there; fit = (same used).0 best.fit; others = λ j other there fits. best.others j other there ((same other).1 fits) }

-- where the same spots are spelled
amiss_same : (Spells Other : Spot → Type 0) (plan : Planned) (events : List Event) (saved : Saved) (n : ℕ) → ((spot : Spot) → Spells spot ↔ Other spot) → IsAmiss Spells plan events saved n → IsAmiss Other plan events saved n
amiss_same Spells Other plan events saved n same amiss =
    let texts = texts_of plan.shape plan.queries in
    let tasks = plan_for plan.queries in
    let count = length events in
    record {
      slot = amiss.slot;
      used = amiss.used;
      best = best_same (IsFit Spells texts plan.shape.fields tasks count) (IsFit Other texts plan.shape.fields tasks count) (slot_in saved) amiss.slot amiss.used
          (λ c. (fit_same Spells Other texts plan.shape.fields tasks count count c (λ spot. (same spot).0) refl, fit_same Other Spells texts plan.shape.fields tasks count count c (λ spot. (same spot).1) refl)) amiss.best;
      untrue = λ node. amiss.untrue (node_later Other Spells tasks n events events amiss.used (λ spot. (same spot).1) refl node);
    }

module _ (plan : Planned) (now : Option Image) (may : Image → Type 0) (r : Reservoir) (log : IsOpenedFor plan now may r) where
  abbrev all : List Event
  all = all_events now (base r) (opened r)

  abbrev Spelled : Spot → Type 0
  Spelled = Spells now (base r) (opened r)

  abbrev Named : Spot → Type 0
  Named = λ (spot : Spot). NamesIn now (base r) (base r).ended (opened r) spot

  -- a sound reservoir names just what it spells
  pub amiss_by : (texts : List (List ℕ)) (fields : List Field) (tasks : Tasks) (saved : Saved) (n i : ℕ) (used : Checkpoint) → texts ≡ texts_of plan.shape plan.queries → fields ≡ plan.shape.fields → tasks ≡ plan_for plan.queries
      → IsBest (IsFit Named texts fields tasks (length all)) (slot_in saved) i used → (NodeIsTrue Spelled tasks n all used → ⊥) → IsAmiss Spelled plan all saved n
  amiss_by texts fields tasks saved n i used texts_are fields_are tasks_are best untrue = record {
    slot = i;
    used = used;
    best = best_same (IsFit Named (texts_of plan.shape plan.queries) plan.shape.fields (plan_for plan.queries) (length all)) (IsFit Spelled (texts_of plan.shape plan.queries) plan.shape.fields (plan_for plan.queries) (length all)) (slot_in saved) i used
        (λ c. (fit_same Named Spelled _ _ _ _ _ c (λ spot. (sound_names now may r spot log.sound).0) refl, fit_same Spelled Named _ _ _ _ _ c (λ spot. (sound_names now may r spot log.sound).1) refl)) of_plan;
    untrue = λ node. untrue (subst (λ (t : Tasks). NodeIsTrue Spelled t n all used) (sym tasks_are) node);
  }
    where
      of_plan : IsBest (IsFit Named (texts_of plan.shape plan.queries) plan.shape.fields (plan_for plan.queries) (length all)) (slot_in saved) i used
      of_plan = subst (λ (t : Tasks). IsBest (IsFit Named (texts_of plan.shape plan.queries) plan.shape.fields t (length all)) (slot_in saved) i used) tasks_are
          (subst (λ (l : List Field). IsBest (IsFit Named (texts_of plan.shape plan.queries) l tasks (length all)) (slot_in saved) i used) fields_are
          (subst (λ (l : List (List ℕ)). IsBest (IsFit Named l fields tasks (length all)) (slot_in saved) i used) texts_are best))

  -- a node that an engine stands for can be carried on over a later state of the reservoir
  pub runs_by : {T : Type 0} (tasks : Tasks) → tasks ≡ plan_for plan.queries → (then : Option Image) (after : Image → Type 0) (s : Reservoir) → base s ≡ base r → IsSound then after s → (n : ℕ) (is_told : Type 0) (cells : Cells) (engine : Seen T)
      → All (IsLegalQuery plan.shape) plan.queries → is_told → engine.plan ≡ tasks → NodeGoes (Spells then (base s) (opened s)) tasks n (all_events then (base s) (opened s)) cells engine.spots → NodeRuns plan n then after is_told cells s engine
  runs_by tasks tasks_are then after s based sound n is_told cells engine legal tells plan_is goes = record {
    reservoir = record {
      sound = sound;
      going = ap (λ (b : Base). b.ended) based ∙ log.going;
      file = ap (λ (b : Base). b.file) based ∙ log.file;
      shape = ap (λ (b : Base). b.shape) based ∙ log.shape;
    };
    goes = subst (λ (t : Tasks). NodeGoes (Spells then (base s) (opened s)) t n (all_events then (base s) (opened s)) cells engine.spots) tasks_are goes;
    tells = tells;
    serves = serves plan.shape plan.queries legal;
    plan_is = plan_is ∙ tasks_are;
  }

  module _ (empty : opened r ≡ []) (payloads : List (List ℕ)) (has : (v : Image) → now ≡ Some v → HasPayloads payloads (v 2)) where
    here : HasPayloads payloads (log.sound.0 2)
    here = has log.sound.0 log.sound.1

    -- it spells what its frame list does
    at : (spot : Spot) → Spelled spot ↔ SpotAt payloads spot
    at spot = (
      λ spells. let there = in_log plan now may r log empty spot spells in subst (λ (l : List (List ℕ)). SpotAt l spot) (payloads_one there.0 payloads (log.sound.0 2) there.1 here) there.2,
      λ there. spelled plan now may r log empty spot (payloads, here, there),
    )

    pub amiss_in : (events : List Event) (saved : Saved) (n : ℕ) → all ≡ events → IsAmiss Spelled plan all saved n → IsAmiss (SpotAt payloads) plan events saved n
    amiss_in events saved n same amiss = subst (λ (l : List Event). IsAmiss (SpotAt payloads) plan l saved n) same (amiss_same Spelled (SpotAt payloads) plan all saved n at amiss)

-- a log has its frame list, whether its own schema is the plan's or grows to it
pub list_for : (plan : Planned) (events : List Event) (v : Image) → Has plan events v → (payloads : List (List ℕ)) × HasPayloads payloads (v 2)
list_for plan events v (inl has) = (has.1.payloads, has.1.has)
list_for plan events v (inr filled) = (filled.has.1.payloads, filled.has.1.has)

-- the frame list of an opened log whose frames say a schema
list_said : (plan : Planned) (p : List ℕ) (payloads : List (List ℕ)) (shape : Shape) (summary : LogSummary) → entries_after unread (p ∷ payloads) ≡ Some (behind shape summary) → opened_list plan (p ∷ payloads) ≡ (p ∷ payloads) ++ payload_of plan.shape (filled shape plan.shape plan.defaults)
list_said plan p payloads shape summary say = ap (λ (o : Option LogSoFar). (p ∷ payloads) ++ growth_behind plan (option_and_then (λ (so_far : LogSoFar). so_far.schema) o)) say

-- no schema grows to itself
list_same : (plan : Planned) (p : List ℕ) (payloads : List (List ℕ)) (summary : LogSummary) → entries_after unread (p ∷ payloads) ≡ Some (behind plan.shape summary) → opened_list plan (p ∷ payloads) ≡ p ∷ payloads
list_same plan p payloads summary say =
    list_said plan p payloads plan.shape summary say ∙ ap (λ (values : Option (List Value)). (p ∷ payloads) ++ payload_of plan.shape values) (not_itself plan.shape plan.defaults) ∙ append-nil (p ∷ payloads)

list_grown : (plan : Planned) (p : List ℕ) (payloads : List (List ℕ)) (from : Shape) (values : List Value) (summary : LogSummary) → IsFilled from plan.shape plan.defaults values → entries_after unread (p ∷ payloads) ≡ Some (behind from summary)
    → opened_list plan (p ∷ payloads) ≡ (p ∷ payloads) ++ growth_payload plan.shape values ∷ []
list_grown plan p payloads from values summary fills say = list_said plan p payloads from summary say ∙ ap (λ (o : Option (List Value)). (p ∷ payloads) ++ payload_of plan.shape o) fills.filled_is

-- A log that was opened has its frame list, or the schema's frame where it had none, or a growth behind it; then the plan's schema is in force.
module _ (plan : Planned) (first end : ℕ) (old new start : List ℕ) (further : List (List ℕ)) (here : HasPayloads (start ∷ further) new) (summary : LogSummary) (say : entries_after unread (start ∷ further) ≡ Some (behind plan.shape summary)) where
  pub list_opened : (payloads : List (List ℕ)) → Opens plan.shape plan.defaults first end old new → HasPayloads payloads old → HasPayloads (opened_list plan payloads) new
  list_opened [] (inl same) has =
      let one : ◌≡◌ {A = List (List ℕ)} [] (start ∷ further) = payloads_one [] (start ∷ further) new (subst (λ (l : List ℕ). HasPayloads [] l) (sym same) has) here in
      absurd cc
  list_opened (p ∷ payloads) (inl same) has =
      let still : HasPayloads (p ∷ payloads) new = subst (λ (l : List ℕ). HasPayloads (p ∷ payloads) l) (sym same) has in
      let says : entries_after unread (p ∷ payloads) ≡ Some (behind plan.shape summary) = ap (entries_after unread) (payloads_one (p ∷ payloads) (start ∷ further) new still here) ∙ say in
      subst (λ (l : List (List ℕ)). HasPayloads l new) (sym (list_same plan p payloads summary says)) still
  list_opened [] (inr (inl (none, ends, grown))) has = grown [] has
  list_opened (p ∷ payloads) (inr (inl (none, ends, grown))) has =
      let one : ◌≡◌ {A = List (List ℕ)} [] (p ∷ payloads) = payloads_one [] (p ∷ payloads) old (record { frames = (0, none); fit = All-nil FitsFrame }) has in
      absurd cc
  list_opened [] (inr (inr (g, grown))) has = absurd (has_frame plan.shape plan.defaults old g has)
  list_opened (p ∷ payloads) (inr (inr (g, grown))) has =
      let says : entries_after unread (p ∷ payloads) ≡ Some (behind g.from g.summary) = ap (entries_after unread) (payloads_one (p ∷ payloads) g.payloads old has g.has) ∙ g.say in
      subst (λ (l : List (List ℕ)). HasPayloads l new) (sym (list_grown plan p payloads g.from g.values g.summary g.fills says)) (grown (p ∷ payloads) has)
