-- An engine that is ready, from one call to the next.
use Rattle.std.proofs.Common.{◌≡◌, ℕ, false, List, [], ◌∷◌, ◌++◌, length, slice_get, Option, Some, sym, ◌∙◌, ap, subst}
use Rattle.std.proofs.lemmas.Option.{slice_get_within}
use Rattle.std.specs.Prelude.{All}
use Rattle.std.proofs.lemmas.List.Elements.{All-weaker, All-push}
use Rattle.rg_host.specs.Image.{Image}
use Rattle.rg_event.specs.Codec.{IsEventOf}
use Rattle.rg_event.specs.Shapes.{Shape}
use Rattle.rg_event.specs.declared.event.Event.{Event}
use Rattle.rg_past.specs.declared.past.Spot.{Spot}
use Rattle.rg_config.specs.Plans.{Planned}
use Rattle.rg_plan.specs.Plans.{Tasks, plan_for}
use Rattle.rg_state.specs.Rows.{Cells}
use Rattle.rg_engine.specs.Carrying.{CarriesOn}
use Rattle.rg_engine.specs.Feeding.{Serves, IsFed}
use Rattle.rg_engine.specs.Seen.{Seen}
use Rattle.rg_engine.specs.Standing.{IsAtPosition, NodeStands}
use Rattle.rg_window.specs.Placed.{IsSpelledAt, numbers_of}
use Rattle.rg_reservoir.specs.Kept.{Base, base, opened, all_events, IsSound, Spells}
use Rattle.rg_reservoir.specs.declared.reservoir.Reservoir.{Reservoir}
use Rattle.rg_restore.specs.Truthful.{EngineStands}
use Rattle.rg_restore.proofs.Laws.{are_at, spelled_in, carries, stands}
use Rattle.rg_run_spec.specs.Steps.{IsStepped}
use Rattle.rg_open.specs.Stores.{store_of}
use Rattle.rg_open.specs.Opened.{IsOpenedFor, IsInStep}
use Rattle.rg_recover.specs.Sessions.{IsReady}
use Rattle.rg_recover.proofs.Sound.{all_fit}

-- an engine that stands, where more spots are spelled and the events are the same
pub stands_still : (Spells Later : Spot → Type 0) (plan : Tasks) (events then : List Event) (cells : Cells) (spots : List Spot) → ((spot : Spot) → Spells spot → Later spot) → then ≡ events → EngineStands Spells plan events cells spots → EngineStands Later plan then cells spots
stands_still Spells Later plan events then cells spots spelled same is = subst (λ (l : List Event). EngineStands Later plan l cells spots) (sym same) (record {
  rows = is.rows;
  spots = record { numbers = is.spots.numbers; spelled = All-weaker Spells Later spelled spots is.spots.spelled };
})

module _ (plan : Planned) (now then : Option Image) (may after : Image → Type 0) (r s : Reservoir) (cells : Cells) (spots : List Spot) (texts : List (List ℕ)) (is : IsInStep plan now may r cells spots texts) where
  -- a reservoir that is sound still, over the same log
  pub opened_still : IsSound then after s → (base s).ended ≡ false → (base s).file ≡ (base r).file → (base s).shape ≡ (base r).shape → IsOpenedFor plan then after s
  opened_still sound going file shape = record { sound = sound; going = going; file = file ∙ is.reservoir.file; shape = shape ∙ is.reservoir.shape }

  -- after a step that stores a chunk
  pub stepped_in_step : (keep : Option ℕ) (chunk : List Event) → IsOpenedFor plan then after s → all_events then (base s) (opened s) ≡ all_events now (base r) (opened r) → ((spot : Spot) → Spells now (base r) (opened r) spot → Spells then (base s) (opened s) spot)
      → ((u : Image) → after u → IsStepped (store_of plan) keep chunk may u) → IsInStep plan then after s cells spots texts
  stepped_in_step keep chunk log same spelled stepped = record {
    reservoir = log;
    said = is.said;
    truthful = λ u left. (stepped u left).truthful (is.truthful (stepped u left).from (stepped u left).left);
    stands = stands_still (Spells now (base r) (opened r)) (Spells then (base s) (opened s)) (plan_for plan.queries) (all_events now (base r) (opened r)) (all_events then (base s) (opened s)) cells spots spelled same is.stands;
    texts_are = is.texts_are;
  }

  -- after a call that leaves the files, with an engine that stands
  pub quiet_in_step : IsOpenedFor plan then after s → ((u : Image) → after u → may u) → (rows : Cells) (at : List Spot) → EngineStands (Spells then (base s) (opened s)) (plan_for plan.queries) (all_events then (base s) (opened s)) rows at → IsInStep plan then after s rows at texts
  quiet_in_step log fewer rows at stands = record { reservoir = log; said = is.said; truthful = λ u left. is.truthful u (fewer u left); stands = stands; texts_are = is.texts_are }

-- events of columns that serve the plan, and one more of them
pub fed_with : (plan : Planned) (now : Option Image) (may : Image → Type 0) (r : Reservoir) (event : Event) → IsOpenedFor plan now may r → Serves plan.shape.fields (plan_for plan.queries) → IsEventOf (base r).shape.fields event
    → IsFed (plan_for plan.queries) (all_events now (base r) (opened r) ++ event ∷ [])
fed_with plan now may r event log serves fits = record {
  fields = plan.shape.fields;
  serves = serves;
  are = subst (λ (shape : Shape). All (IsEventOf shape.fields) (all_events now (base r) (opened r) ++ event ∷ [])) log.shape
      (All-push (IsEventOf (base r).shape.fields) (all_events now (base r) (opened r)) event (all_fit now may r log.sound log.going) fits);
}

module _ {T : Type 0} (plan : Planned) (now : Option Image) (may : Image → Type 0) (is_told : Type 0) (cells : Cells) (r : Reservoir) (engine : Seen T) (texts : List (List ℕ)) (event : Event) (ready : IsReady plan now may is_told cells r engine texts) (fits : IsEventOf (base r).shape.fields event) where
  abbrev pub before : List Event
  before = all_events now (base r) (opened r)

  abbrev pub Spelled : Spot → Type 0
  Spelled = Spells now (base r) (opened r)

  pub standing : EngineStands Spelled engine.plan before cells engine.spots
  standing = subst (λ (p : Tasks). EngineStands Spelled p before cells engine.spots) (sym ready.plan_is) ready.in_step.stands

  -- each node can be carried on to the event
  pub carries_on : (n : ℕ) → CarriesOn engine.plan n (IsSound now may r) Spelled is_told before (before ++ event ∷ []) before cells engine.spots
  carries_on n = carries (IsSound now may r) Spelled is_told engine.plan before (before ++ event ∷ []) cells engine.spots n (record {
    sound = ready.in_step.reservoir.sound;
    tells = ready.tells;
    fed = subst (λ (p : Tasks). IsFed p (before ++ event ∷ [])) (sym ready.plan_is) (fed_with plan now may r event ready.in_step.reservoir ready.serves fits);
  }) standing

  module _ (then : Option Image) (after : Image → Type 0) (told_still : Type 0) (rows : Cells) (s : Reservoir) (new : Seen T) where
    -- it is ready for the next one after it took the event
    pub ready_again : told_still → base s ≡ base r → IsSound then after s → ((u : Image) → after u → may u) → new.plan ≡ engine.plan → length new.spots ≡ length new.plan.offsets
        → ((n : ℕ) → NodeStands engine.plan n (all_events then (base s) (opened s)) rows (numbers_of new.spots))
        → ((edge offset : ℕ) → IsSpelledAt Spelled engine.spots edge → slice_get engine.plan.offsets edge ≡ Some offset → IsAtPosition before (numbers_of engine.spots) edge offset → IsAtPosition (all_events then (base s) (opened s)) (numbers_of new.spots) edge offset)
        → ((edge : ℕ) → IsSpelledAt Spelled engine.spots edge → IsSpelledAt (Spells then (base s) (opened s)) new.spots edge)
        → IsReady plan then after told_still rows s new texts
    ready_again tells same sound fewer plan_is many nodes places spelled = record {
      in_step = quiet_in_step plan now then may after r s cells engine.spots texts ready.in_step
          (opened_still plan now then may after r s cells engine.spots texts ready.in_step sound (ap (λ (b : Base). b.ended) same ∙ ready.in_step.reservoir.going) (ap (λ (b : Base). b.file) same) (ap (λ (b : Base). b.shape) same))
          fewer rows new.spots (subst (λ (p : Tasks). EngineStands (Spells then (base s) (opened s)) p (all_events then (base s) (opened s)) rows new.spots) ready.plan_is by_nodes);
      tells = tells;
      serves = ready.serves;
      plan_is = plan_is ∙ ready.plan_is;
    }
      where
        at : (edge offset : ℕ) → slice_get engine.plan.offsets edge ≡ Some offset → IsSpelledAt Spelled engine.spots edge
        at edge offset there = spelled_in Spelled engine.plan before engine.spots standing.spots edge (slice_get_within engine.plan.offsets edge offset there)

        by_nodes : EngineStands (Spells then (base s) (opened s)) engine.plan (all_events then (base s) (opened s)) rows new.spots
        by_nodes = stands (Spells then (base s) (opened s)) engine.plan (all_events then (base s) (opened s)) rows new.spots (many ∙ ap (λ (p : Tasks). length p.offsets) plan_is) nodes
            (λ edge offset there. places edge offset (at edge offset there) there (are_at Spelled engine.plan before engine.spots standing.spots edge offset there))
            (λ edge offset there. spelled edge (at edge offset there))

-- it is ready still after a step that stored a chunk
pub ready_stepped : {T : Type 0} (plan : Planned) (now then : Option Image) (may after : Image → Type 0) (is_told : Type 0) (cells : Cells) (r s : Reservoir) (engine : Seen T) (texts : List (List ℕ)) → IsReady plan now may is_told cells r engine texts
    → IsInStep plan then after s cells engine.spots texts → IsReady plan then after is_told cells s engine texts
ready_stepped plan now then may after is_told cells r s engine texts ready step = record { in_step = step; tells = ready.tells; serves = ready.serves; plan_is = ready.plan_is }
