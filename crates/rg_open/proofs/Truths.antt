-- A checkpoint that is true of a log stays true when a chunk comes behind it.
use Rattle.std.proofs.Common.{◌≡◌, ◌⊎◌, inl, inr, ℕ, List, [], ◌∷◌, ◌++◌, refl, subst}
use Rattle.rg_event.specs.Shapes.{Shape}
use Rattle.rg_event.specs.declared.event.Event.{Event}
use Rattle.rg_past.specs.declared.past.Spot.{Spot}
use Rattle.rg_plan.specs.Plans.{plan_for}
use Rattle.rg_frame.specs.Frames.{HasPayloads}
use Rattle.rg_frame.specs.Steps.{Grows, Grown}
use Rattle.rg_frame.proofs.Laws.{payloads_one}
use Rattle.rg_log.specs.Log.{IsChunkOf, HasEvents, HasLegalLog, IsInForce}
use Rattle.rg_log.specs.Spots.{SpotIn}
use Rattle.rg_log.proofs.Laws.{one_schema, adds_log, spot_stays_in}
use Rattle.rg_checkpoint.specs.declared.base.Checkpoint.{Checkpoint}
use Rattle.rg_restore.proofs.Laws.{later, same_past}
use Rattle.rg_open.specs.Truth.{IsTrueFor, IsTrueOf, MayGrow}

-- in a log without a frame no schema is in force
pub no_schema : (shape : Shape) (bytes : List ℕ) → HasPayloads [] bytes → IsInForce shape bytes → ⊥
no_schema shape bytes none framed = let e : framed.0 ∷ framed.1 ≡ [] = payloads_one (framed.0 ∷ framed.1) [] bytes framed.3 none in absurd cc

-- what is true of a log is true for the schema in force at its end
pub true_for : (shape : Shape) (bytes : List ℕ) (checkpoint : Checkpoint) → IsInForce shape bytes → IsTrueOf bytes checkpoint → IsTrueFor shape bytes checkpoint
true_for shape bytes checkpoint framed is = subst (λ (s : Shape). IsTrueFor s bytes checkpoint) (one_schema payloads_one is.0 shape bytes is.1.framed framed) is.1

pub grown_grows : (payload old new : List ℕ) → Grown payload old new → Grows payload old new
grown_grows payload old new step = λ payloads has. inr (step payloads has)

module _ (shape : Shape) (payload : List ℕ) (chunk : List Event) (old new : List ℕ) (may : MayGrow shape chunk old) (said : IsChunkOf shape payload chunk) (step : Grows payload old new) where
  grows_by : (events : List Event) → HasEvents shape events old → IsInForce shape new × (HasEvents shape events new ⊎ HasEvents shape (events ++ chunk) new)
  grows_by events has = adds_log payloads_one shape events chunk payload old new may.framed has said (may.rises events has) (may.fits events has) step

  spelled : (spot : Spot) → SpotIn old spot → SpotIn new spot
  spelled spot at = spot_stays_in payload old new spot step at

  true_by : (checkpoint : Checkpoint) → (is : IsTrueFor shape old checkpoint) → IsInForce shape new × (HasEvents shape is.events new ⊎ HasEvents shape (is.events ++ chunk) new) → IsTrueFor shape new checkpoint
  true_by checkpoint is (framed, inl has) = record {
    framed = framed;
    events = is.events;
    has = has;
    queries = is.queries;
    said = is.said;
    texts = is.texts;
    truthful = same_past (SpotIn old) (SpotIn new) (plan_for is.queries) is.events is.events checkpoint spelled refl is.truthful;
  }
  true_by checkpoint is (framed, inr has) = record {
    framed = framed;
    events = is.events ++ chunk;
    has = has;
    queries = is.queries;
    said = is.said;
    texts = is.texts;
    truthful = later (SpotIn old) (SpotIn new) (plan_for is.queries) is.events chunk checkpoint spelled is.truthful;
  }

  -- at each moment of an append
  pub grows_true : (checkpoint : Checkpoint) → IsTrueFor shape old checkpoint → IsTrueFor shape new checkpoint
  grows_true checkpoint is = true_by checkpoint is (grows_by is.events is.has)

  pub grows_framed : (events : List Event) → HasEvents shape events old → IsInForce shape new
  grows_framed events has = (grows_by events has).0

  legal_by : (events : List Event) → IsInForce shape new × (HasEvents shape events new ⊎ HasEvents shape (events ++ chunk) new) → HasLegalLog new
  legal_by events (framed, inl has) = inr (shape, has.0, has.1)
  legal_by events (framed, inr has) = inr (shape, has.0, has.1)

  pub grows_legal : (events : List Event) → HasEvents shape events old → HasLegalLog new
  grows_legal events has = legal_by events (grows_by events has)
