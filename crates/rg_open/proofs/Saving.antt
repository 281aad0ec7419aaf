-- Checkpoints that are true of a log, and what they are to a plan over its schema.
use Rattle.std.proofs.Common.{◌≡◌, ◌∙◌, ℕ, List, [], ◌∷◌, length, Option, Some, refl, sym, ap, subst}
use Rattle.std.specs.Prelude.{All}
use Rattle.std.proofs.lemmas.List.{append-nil}
use Rattle.std.proofs.lemmas.List.Elements.{All-head, All-tail, All-weaker}
use Rattle.rg_host.specs.Image.{Image}
use Rattle.rg_event.specs.Shapes.{Shape, IsSchema}
use Rattle.rg_event.specs.declared.event.Event.{Event}
use Rattle.rg_past.specs.declared.past.Spot.{Spot}
use Rattle.rg_frame.proofs.Laws.{payloads_one}
use Rattle.rg_metric.specs.Queries.{Asked}
use Rattle.rg_query.specs.Printing.{query_text}
use Rattle.rg_query.proofs.Laws.{differ}
use Rattle.rg_config.specs.Plans.{Planned}
use Rattle.rg_config.specs.Read.{IsSaid}
use Rattle.rg_plan.specs.Plans.{plan_for}
use Rattle.rg_log.specs.Log.{joined, HasEvents, IsInForce}
use Rattle.rg_log.specs.Spots.{SpotIn}
use Rattle.rg_log.proofs.Laws.{one_list, events_of_schema}
use Rattle.rg_state.specs.Rows.{Cells, Lists}
use Rattle.rg_engine.specs.Feeding.{Serves}
use Rattle.rg_checkpoint.specs.declared.base.Checkpoint.{Checkpoint}
use Rattle.rg_restore.specs.Fit.{IsFit}
use Rattle.rg_restore.specs.Truthful.{IsTruthful, EngineStands}
use Rattle.rg_restore.proofs.Laws.{saved, truthful_fits}
use Rattle.rg_reservoir.specs.declared.reservoir.Reservoir.{Reservoir}
use Rattle.rg_reservoir.specs.Kept.{base, opened, all_events, next_of, time_of, cache_of, IsRight, Spells}
use Rattle.rg_reservoir.proofs.Laws.{spelled_there}
use Rattle.rg_open.specs.Truth.{texts_of, IsTrueOf}
use Rattle.rg_open.specs.Opened.{IsToSave}
use Rattle.rg_open.proofs.Truths.{true_for}
use Rattle.rg_open.proofs.Sound.{framed, has_events, all_are, pending}

first_texts : (a b : List ℕ) (x y : List (List ℕ)) → a ∷ x ≡ b ∷ y → (a ≡ b) × (x ≡ y)
first_texts a b x y e = (cc, cc)

-- the texts of queries are those of no others
pub one_queries : (shape : Shape) (qs rs : List Asked) → IsSchema shape → All (IsSaid shape) qs → All (IsSaid shape) rs → texts_of shape qs ≡ texts_of shape rs → qs ≡ rs
one_queries shape [] [] schema a b same = refl
one_queries shape [] (r ∷ rs) schema a b same = absurd cc
one_queries shape (q ∷ qs) [] schema a b same = absurd cc
one_queries shape (q ∷ qs) (r ∷ rs) schema a b same =
    let e = first_texts (query_text shape q) (query_text shape r) (texts_of shape qs) (texts_of shape rs) same in
    let x = All-head (IsSaid shape) q qs a in
    let y = All-head (IsSaid shape) r rs b in
    ap (λ (z : Asked). z ∷ qs) (differ shape q r x.text y.text schema x.means y.means e.0)
    ∙ ap (λ (l : List Asked). r ∷ l) (one_queries shape qs rs schema (All-tail (IsSaid shape) q qs a) (All-tail (IsSaid shape) r rs b) e.1)

-- Of a log of the plan's schema with these events.
module _ (plan : Planned) (said : All (IsSaid plan.shape) plan.queries) (bytes : List ℕ) (events : List Event) (here : IsInForce plan.shape bytes) (has : HasEvents plan.shape events bytes) where
  -- a checkpoint of the plan's queries that is true of the log is one of the plan
  pub of_plan : (checkpoint : Checkpoint) → IsTrueOf bytes checkpoint → checkpoint.queries ≡ texts_of plan.shape plan.queries → IsTruthful (SpotIn bytes) (plan_for plan.queries) events checkpoint
  of_plan checkpoint is texts =
      let t = true_for plan.shape bytes checkpoint here is in
      let queries : t.queries ≡ plan.queries = one_queries plan.shape t.queries plan.queries has.1.schema t.said said (sym t.texts ∙ texts) in
      let same : t.events ≡ events = one_list payloads_one plan.shape plan.shape t.events events bytes t.has has in
      subst (λ (l : List Event). IsTruthful (SpotIn bytes) (plan_for plan.queries) l checkpoint) same
      (subst (λ (q : List Asked). IsTruthful (SpotIn bytes) (plan_for q) t.events checkpoint) queries t.truthful)

  -- and it is fit
  pub fit_of : Serves plan.shape.fields (plan_for plan.queries) → (checkpoint : Checkpoint) → IsTrueOf bytes checkpoint → checkpoint.queries ≡ texts_of plan.shape plan.queries
      → IsFit (SpotIn bytes) (texts_of plan.shape plan.queries) plan.shape.fields (plan_for plan.queries) (length events) checkpoint
  fit_of serves checkpoint is texts = truthful_fits (SpotIn bytes) (texts_of plan.shape plan.queries) plan.shape.fields (plan_for plan.queries) events checkpoint serves (events_of_schema plan.shape events bytes has) texts (of_plan checkpoint is texts)

  -- what is saved of an engine that stands for the events is true of the log
  pub saved_true : (cells : Cells) (checkpoint : Checkpoint) → EngineStands (SpotIn bytes) (plan_for plan.queries) events cells checkpoint.spots → Lists cells checkpoint.rows → checkpoint.queries ≡ texts_of plan.shape plan.queries
      → checkpoint.count ≡ length events → IsTrueOf bytes checkpoint
  saved_true cells checkpoint stands lists texts count = (
    plan.shape,
    record {
      framed = here;
      events = events;
      has = has;
      queries = plan.queries;
      said = said;
      texts = texts;
      truthful = saved (SpotIn bytes) (plan_for plan.queries) events cells checkpoint stands lists count;
    },
  )

-- an engine at spots that are spelled elsewhere too
respelled : (Old New : Spot → Type 0) (plan : Planned) (events : List Event) (cells : Cells) (at : List Spot) → ((spot : Spot) → Old spot → New spot) → EngineStands Old (plan_for plan.queries) events cells at → EngineStands New (plan_for plan.queries) events cells at
respelled Old New plan events cells at goes stands = record { rows = stands.rows; spots = record { numbers = stands.spots.numbers; spelled = All-weaker Old New goes at stands.spots.spelled } }

-- what is saved of an engine in step with a reservoir is true of each log that might be left
pub saved_left : (plan : Planned) (now : Option Image) (may : Image → Type 0) (r : Reservoir) (cells : Cells) (checkpoint : Checkpoint) → IsToSave plan now may r cells checkpoint.spots checkpoint.queries → Lists cells checkpoint.rows
    → checkpoint.count ≡ length (all_events now (base r) (opened r)) → (u : Image) → may u → IsTrueOf (u 2) checkpoint
saved_left plan now may r cells checkpoint to_save lists count u left =
    let step = to_save.in_step in
    let o = step.reservoir in
    let v = o.sound.0 in
    let told : now ≡ Some v = o.sound.1 in
    let b = base r in
    let right : IsRight v may b [] (next_of r) (time_of r) (cache_of r) = subst (λ (l : List Event). IsRight v may b l (next_of r) (time_of r) (cache_of r)) to_save.empty (o.sound.2.right o.going) in
    let Here : Spot → Type 0 = SpotIn (v 2) in
    let events : List Event = joined right.chunks in
    let all : all_events now b (opened r) ≡ events = ap (λ (l : List Event). all_events now b l) to_save.empty ∙ ap (λ (i : Option Image). all_events i b []) told ∙ all_are plan v may b [] (next_of r) (time_of r) (cache_of r) right o.file o.shape ∙ append-nil events in
    let goes : (spot : Spot) → Spells now b (opened r) spot → Here spot = λ spot spells.
    subst (λ (f : ℕ). SpotIn (v f) spot) o.file (spelled_there v may b (next_of r) (time_of r) (cache_of r) right now spot told (subst (λ (l : List Event). Spells now b l spot) to_save.empty spells)) in
    let stands : EngineStands Here (plan_for plan.queries) events cells checkpoint.spots = subst (λ (l : List Event). EngineStands Here (plan_for plan.queries) l cells checkpoint.spots) all
    (respelled (Spells now b (opened r)) Here plan (all_events now b (opened r)) cells checkpoint.spots goes step.stands) in
    subst (λ (bytes : List ℕ). IsTrueOf bytes checkpoint) (sym (pending plan v may b [] (next_of r) (time_of r) (cache_of r) right o.file o.shape v refl u left))
    (saved_true plan step.said (v 2) events (framed plan v may b [] (next_of r) (time_of r) (cache_of r) right o.file o.shape) (has_events plan v may b [] (next_of r) (time_of r) (cache_of r) right o.file o.shape)
    cells checkpoint stands lists step.texts_are (count ∙ ap length all))
