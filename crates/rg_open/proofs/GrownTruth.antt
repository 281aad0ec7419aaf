-- A truthful image stays truthful when its log grows to another schema.
use Rattle.std.proofs.Common.{◌≡◌, ◌≢◌, ◌∙◌, ◌⊎◌, inl, inr, ℕ, List, All, refl, sym, subst}
use Rattle.std.proofs.lemmas.List.Elements.{All-weaker}
use Rattle.rg_host.specs.Image.{Image}
use Rattle.rg_event.specs.Shapes.{Shape}
use Rattle.rg_event.specs.declared.event.Event.{Event}
use Rattle.rg_past.specs.declared.past.Spot.{Spot}
use Rattle.rg_query.specs.Legal.{IsLegalQuery}
use Rattle.rg_config.specs.Read.{IsSaid}
use Rattle.rg_frame.specs.Steps.{Grows}
use Rattle.rg_frame.proofs.Laws.{payloads_one}
use Rattle.rg_growth.specs.Payloads.{IsGrowth}
use Rattle.rg_growth.specs.declared.growth.Growth.{Growth}
use Rattle.rg_chunk.specs.Extended.{all_extended}
use Rattle.rg_log.specs.Log.{HasEvents, HasLegalLog, IsInForce}
use Rattle.rg_log.specs.Spots.{SpotIn}
use Rattle.rg_log.proofs.Laws.{events_in, grows_log, spot_stays_in, events_of_schema}
use Rattle.rg_plan.specs.Plans.{plan_for}
use Rattle.rg_checkpoint.specs.declared.base.Checkpoint.{Checkpoint}
use Rattle.rg_checkpoint.specs.Slots.{HasSlot}
use Rattle.rg_restore.proofs.Laws.{same_past}
use Rattle.rg_open.specs.Truth.{IsTrueFor, IsTrueOf, IsTruthfulImage}
use Rattle.rg_open.proofs.GrownRows.{checkpoint_stays}
use Rattle.rg_open.proofs.GrownTexts.{said_stays, texts_stay}
use Rattle.rg_open.proofs.Images.{below_apart}
use Rattle.rg_open.proofs.Truths.{true_for}

module _ (shape : Shape) (growth : Growth) (payload old new : List ℕ) (framed : IsInForce shape old) (said : IsGrowth shape payload growth) (step : Grows payload old new) where
  -- the events of the log are as they were, or each has the growth's values behind its own
  abbrev Left : List Event → Type 0
  Left events = (IsInForce shape new × HasEvents shape events new) ⊎ (IsInForce growth.to new × HasEvents growth.to (all_extended growth.values events) new)

  grows_by : (events : List Event) → HasEvents shape events old → Left events
  grows_by events has = grows_log payloads_one shape growth events payload old new framed has said step

  spelled : (spot : Spot) → SpotIn old spot → SpotIn new spot
  spelled spot at = spot_stays_in payload old new spot step at

  true_by : (checkpoint : Checkpoint) → (is : IsTrueFor shape old checkpoint) → Left is.events → IsTrueOf new checkpoint
  true_by checkpoint is (inl same) = (
    shape,
    record {
      framed = same.0;
      events = is.events;
      has = same.1;
      queries = is.queries;
      said = is.said;
      texts = is.texts;
      truthful = same_past (SpotIn old) (SpotIn new) (plan_for is.queries) is.events is.events checkpoint spelled refl is.truthful;
    },
  )
  true_by checkpoint is (inr grown) =
      let grows = said.of.grows in
      let legal : All (IsLegalQuery shape) is.queries = All-weaker (IsSaid shape) (IsLegalQuery shape) (λ q asked. asked.legal) is.queries is.said in (
        growth.to,
        record {
          framed = grown.0;
          events = all_extended growth.values is.events;
          has = grown.1;
          queries = is.queries;
          said = All-weaker (IsSaid shape) (IsSaid growth.to) (said_stays shape growth.to said.of.added grows) is.queries is.said;
          texts = is.texts ∙ sym (texts_stay shape growth.to said.of.added grows is.queries is.said);
          truthful = checkpoint_stays (SpotIn old) (SpotIn new) shape is.queries growth.values is.events checkpoint spelled legal (events_of_schema shape is.events old is.has) is.truthful;
        },
      )

  -- at each moment of its append a growth leaves a checkpoint true
  pub grown_true : (checkpoint : Checkpoint) → IsTrueFor shape old checkpoint → IsTrueOf new checkpoint
  grown_true checkpoint is = true_by checkpoint is (grows_by is.events is.has)

  legal_by : (events : List Event) → Left events → HasLegalLog new
  legal_by events (inl same) = inr (shape, same.1.0, same.1.1)
  legal_by events (inr grown) = inr (growth.to, grown.1.0, grown.1.1)

  pub grown_legal : (events : List Event) → HasEvents shape events old → HasLegalLog new
  grown_legal events has = legal_by events (grows_by events has)

-- a growth comes behind the log, and the other files are as they were
pub grows : (shape : Shape) (growth : Growth) (payload : List ℕ) (u v : Image) → IsInForce shape (u 2) → IsGrowth shape payload growth → Grows payload (u 2) (v 2) → ((f : ℕ) → f ≢ 2 → v f ≡ u f) → IsTruthfulImage u → IsTruthfulImage v
grows shape growth payload u v framed said step others is =
    let events = events_in payloads_one shape (u 2) framed is.log in
    record {
      log = grown_legal shape growth payload (u 2) (v 2) framed said step events.0 events.1;
      slots = λ i below checkpoint slot.
          let was = is.slots i below checkpoint (subst (λ (bytes : List ℕ). HasSlot bytes checkpoint) (others i (below_apart i below)) slot) in
          grown_true shape growth payload (u 2) (v 2) framed said step checkpoint (true_for shape (u 2) checkpoint framed was);
    }
