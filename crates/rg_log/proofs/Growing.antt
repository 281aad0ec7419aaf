-- The log of a file is one, and what a frame more makes of its events and of the schema in force at its end.
use Rattle.std.proofs.Common.{◌≡◌, ◌∙◌, ◌⊎◌, inl, inr, ℕ, ◌≤◌, ◌^◌, List, [], ◌∷◌, ◌++◌, length, refl, sym, ap, subst, arith}
use Rattle.rg_event.specs.Rising.{IsRising}
use Rattle.rg_event.specs.Shapes.{Shape, IsSchema}
use Rattle.rg_event.specs.declared.event.Event.{Event}
use Rattle.rg_growth.specs.Payloads.{IsGrowth}
use Rattle.rg_growth.specs.declared.growth.Growth.{Growth}
use Rattle.rg_frame.specs.Frames.{HasPayloads}
use Rattle.rg_frame.specs.Steps.{Grows, Grown}
use Rattle.rg_chunk.specs.Extended.{all_extended}
use Rattle.rg_log.specs.Log.{schema_payload, IsChunkOf, IsLegalLog, HasEvents, HasFrame, IsInForce}
use Rattle.rg_log.specs.Stages.{Stage, chunk, growth, shape_after, IsStage, logged, HasStages}
use Rattle.rg_log.proofs.Extending.{length-extended, rising-extended}
pub use Rattle.rg_log.proofs.Shapes.{one_shape}
use Rattle.rg_log.proofs.StageReading.{one_log, stages_by}
use Rattle.rg_log.proofs.Staging.{has-push, logged-growth, logged-chunk}

-- a log with its first frame alone
first_legal : (shape : Shape) (bytes : List ℕ) → IsSchema shape → HasPayloads (schema_payload shape ∷ []) bytes → IsInForce shape bytes × HasEvents shape [] bytes
first_legal shape bytes schema has =
    let log : HasStages shape (schema_payload shape ∷ []) [] = (shape, schema, refl, tt, refl) in
    ((schema_payload shape, [], [], has, log), ([], record { schema = schema; payloads = schema_payload shape ∷ []; has = has; log = log; rising = tt; few = omega arith }, refl))

-- a log without a frame
pub none_legal : (shape : Shape) (bytes : List ℕ) → IsSchema shape → HasPayloads [] bytes → HasEvents shape [] bytes
none_legal shape bytes schema has = ([], record { schema = schema; payloads = []; has = has; log = refl; rising = tt; few = omega arith }, refl)

-- the schema's frame comes behind a log without a frame
pub begins_log : (shape : Shape) (old new : List ℕ) → IsSchema shape → HasPayloads [] old → Grows (schema_payload shape) old new → (HasPayloads [] new ⊎ IsInForce shape new) × HasEvents shape [] new
begins_log shape old new schema none step = by (step [] none)
  where
    by : HasPayloads [] new ⊎ HasPayloads (schema_payload shape ∷ []) new → (HasPayloads [] new ⊎ IsInForce shape new) × HasEvents shape [] new
    by (inl has) = (inl has, none_legal shape new schema has)
    by (inr has) = let f = first_legal shape new schema has in (inr f.0, f.1)

pub begun_log : (shape : Shape) (old new : List ℕ) → IsSchema shape → HasPayloads [] old → Grown (schema_payload shape) old new → IsInForce shape new × HasEvents shape [] new
begun_log shape old new schema none step = first_legal shape new schema (step [] none)

-- from here on, a file has one frame list
module _ (unique : (a b : List (List ℕ)) (bytes : List ℕ) → HasPayloads a bytes → HasPayloads b bytes → a ≡ b) where
  pub log_by : (shape : Shape) (stages : List Stage) (payloads : List (List ℕ)) (bytes : List ℕ) → HasPayloads payloads bytes → IsLegalLog shape stages bytes → HasStages shape payloads stages
  log_by shape stages payloads bytes has log = subst (λ (l : List (List ℕ)). HasStages shape l stages) (unique log.payloads payloads bytes log.has has) log.log

  -- a file has one list of stages
  pub one_stages_in : (shape other : Shape) (stages others : List Stage) (bytes : List ℕ) → IsLegalLog shape stages bytes → IsLegalLog other others bytes → stages ≡ others
  one_stages_in shape other stages others bytes x y = stages_by y.payloads shape other stages others (log_by shape stages y.payloads bytes y.has x) y.log

  -- with a frame it has one schema in force at its end
  pub one_shape_in : (shape other : Shape) (stages others : List Stage) (bytes : List ℕ) → HasFrame bytes → IsLegalLog shape stages bytes → IsLegalLog other others bytes → shape ≡ other
  one_shape_in shape other stages others bytes frame x y =
      (one_log frame.0 frame.1 shape other stages others (log_by shape stages (frame.0 ∷ frame.1) bytes frame.2 x) (log_by other others (frame.0 ∷ frame.1) bytes frame.2 y)).shapes

  pub one_schema : (shape other : Shape) (bytes : List ℕ) → IsInForce shape bytes → IsInForce other bytes → shape ≡ other
  one_schema shape other bytes x y =
      let same : x.0 ∷ x.1 ≡ y.0 ∷ y.1 = unique (x.0 ∷ x.1) (y.0 ∷ y.1) bytes x.3 y.3 in
      (one_log y.0 y.1 shape other x.2 y.2 (subst (λ (l : List (List ℕ)). HasStages shape l x.2) same x.4) y.4).shapes

  -- and one list of events
  pub one_list : (shape other : Shape) (events others : List Event) (bytes : List ℕ) → HasEvents shape events bytes → HasEvents other others bytes → events ≡ others
  one_list shape other events others bytes x y = sym x.2 ∙ ap logged (one_stages_in shape other x.0 y.0 bytes x.1 y.1) ∙ y.2

  -- the schema in force is that of the log, where it has a frame
  pub in_force_of : (shape : Shape) (events : List Event) (bytes : List ℕ) → HasFrame bytes → HasEvents shape events bytes → IsInForce shape bytes
  in_force_of shape events bytes frame x = (frame.0, frame.1, x.0, frame.2, log_by shape x.0 (frame.0 ∷ frame.1) bytes frame.2 x.1)

  -- a log whose frame list is as it was
  pub stays : (shape : Shape) (events : List Event) (payloads : List (List ℕ)) (old new : List ℕ) → HasEvents shape events old → HasPayloads payloads old → HasPayloads payloads new → HasEvents shape events new
  stays shape events payloads old new x has same =
      let e : payloads ≡ x.1.payloads = unique payloads x.1.payloads old has x.1.has in
      (x.0, record { schema = x.1.schema; payloads = x.1.payloads; has = subst (λ (l : List (List ℕ)). HasPayloads l new) e same; log = x.1.log; rising = x.1.rising; few = x.1.few }, x.2)

  stays_framed : (shape : Shape) (events : List Event) (old new : List ℕ) (here : IsInForce shape old) → HasEvents shape events old → HasPayloads (here.0 ∷ here.1) new → IsInForce shape new × HasEvents shape events new
  stays_framed shape events old new here x same = ((here.0, here.1, here.2, same, here.4), stays shape events (here.0 ∷ here.1) old new x here.3 same)

  -- and with a frame more
  grown_by : (shape : Shape) (events then : List Event) (payload old new : List ℕ) (stage : Stage) (here : IsInForce shape old) (x : HasEvents shape events old) → IsStage shape payload stage → IsSchema (shape_after shape stage)
      → HasPayloads (here.0 ∷ (here.1 ++ payload ∷ [])) new → logged (x.0 ++ stage ∷ []) ≡ then → IsRising then → length then ≤ 2 ^ 40 → IsInForce (shape_after shape stage) new × HasEvents (shape_after shape stage) then new
  grown_by shape events then payload old new stage here x is schema has same rising few =
      let log : HasStages (shape_after shape stage) (here.0 ∷ (here.1 ++ payload ∷ [])) (x.0 ++ stage ∷ []) = has-push shape here.0 here.1 x.0 payload stage (log_by shape x.0 (here.0 ∷ here.1) old here.3 x.1) is in (
        (here.0, here.1 ++ payload ∷ [], x.0 ++ stage ∷ [], has, log),
        (
          x.0 ++ stage ∷ [],
          record {
            schema = schema;
            payloads = here.0 ∷ (here.1 ++ payload ∷ []);
            has = has;
            log = log;
            rising = subst IsRising (sym same) rising;
            few = subst (λ (l : List Event). length l ≤ 2 ^ 40) (sym same) few;
          },
          same,
        ),
      )

  -- a chunk comes
  chunk_more : (shape : Shape) (events more : List Event) (payload old new : List ℕ) (here : IsInForce shape old) → HasEvents shape events old → IsChunkOf shape payload more → IsRising (events ++ more) → length (events ++ more) ≤ 2 ^ 40
      → HasPayloads (here.0 ∷ (here.1 ++ payload ∷ [])) new → IsInForce shape new × HasEvents shape (events ++ more) new
  chunk_more shape events more payload old new here x is rising few has =
      grown_by shape events (events ++ more) payload old new (chunk more) here x is x.1.schema has (logged-chunk x.0 more ∙ ap (λ (l : List Event). l ++ more) x.2) rising few

  pub adds_log : (shape : Shape) (events more : List Event) (payload old new : List ℕ) → IsInForce shape old → HasEvents shape events old → IsChunkOf shape payload more → IsRising (events ++ more) → length (events ++ more) ≤ 2 ^ 40 → Grows payload old new
      → IsInForce shape new × (HasEvents shape events new ⊎ HasEvents shape (events ++ more) new)
  adds_log shape events more payload old new here x is rising few step = by (step (here.0 ∷ here.1) here.3)
    where
      by : HasPayloads (here.0 ∷ here.1) new ⊎ HasPayloads (here.0 ∷ (here.1 ++ payload ∷ [])) new → IsInForce shape new × (HasEvents shape events new ⊎ HasEvents shape (events ++ more) new)
      by (inl same) = let f = stays_framed shape events old new here x same in (f.0, inl f.1)
      by (inr has) = let f = chunk_more shape events more payload old new here x is rising few has in (f.0, inr f.1)

  pub added_log : (shape : Shape) (events more : List Event) (payload old new : List ℕ) → IsInForce shape old → HasEvents shape events old → IsChunkOf shape payload more → IsRising (events ++ more) → length (events ++ more) ≤ 2 ^ 40 → Grown payload old new
      → IsInForce shape new × HasEvents shape (events ++ more) new
  added_log shape events more payload old new here x is rising few step = chunk_more shape events more payload old new here x is rising few (step (here.0 ∷ here.1) here.3)

  -- a growth comes
  growth_more : (shape : Shape) (grown : Growth) (events : List Event) (payload old new : List ℕ) (here : IsInForce shape old) → HasEvents shape events old → IsGrowth shape payload grown → HasPayloads (here.0 ∷ (here.1 ++ payload ∷ [])) new
      → IsInForce grown.to new × HasEvents grown.to (all_extended grown.values events) new
  growth_more shape grown events payload old new here x is has =
      let rising : IsRising events = subst IsRising x.2 x.1.rising in
      let few : length events ≤ 2 ^ 40 = subst (λ (l : List Event). length l ≤ 2 ^ 40) x.2 x.1.few in
      grown_by shape events (all_extended grown.values events) payload old new (growth grown) here x is is.of.grows.legal has (logged-growth x.0 grown ∙ ap (λ (l : List Event). all_extended grown.values l) x.2)
      (rising-extended grown.values events rising) (omega (arith, few, length-extended grown.values events))

  pub grows_log : (shape : Shape) (grown : Growth) (events : List Event) (payload old new : List ℕ) → IsInForce shape old → HasEvents shape events old → IsGrowth shape payload grown → Grows payload old new
      → (IsInForce shape new × HasEvents shape events new) ⊎ (IsInForce grown.to new × HasEvents grown.to (all_extended grown.values events) new)
  grows_log shape grown events payload old new here x is step = by (step (here.0 ∷ here.1) here.3)
    where
      by : HasPayloads (here.0 ∷ here.1) new ⊎ HasPayloads (here.0 ∷ (here.1 ++ payload ∷ [])) new → (IsInForce shape new × HasEvents shape events new) ⊎ (IsInForce grown.to new × HasEvents grown.to (all_extended grown.values events) new)
      by (inl same) = inl (stays_framed shape events old new here x same)
      by (inr has) = inr (growth_more shape grown events payload old new here x is has)

  pub grown_log : (shape : Shape) (grown : Growth) (events : List Event) (payload old new : List ℕ) → IsInForce shape old → HasEvents shape events old → IsGrowth shape payload grown → Grown payload old new
      → IsInForce grown.to new × HasEvents grown.to (all_extended grown.values events) new
  grown_log shape grown events payload old new here x is step = growth_more shape grown events payload old new here x is (step (here.0 ∷ here.1) here.3)
