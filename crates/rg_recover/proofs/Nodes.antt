-- A node that can be carried on, from one call to the next.
use Rattle.std.proofs.Common.{◌≡◌, ℕ, List, [], ◌∷◌, ◌++◌, Option, sym, ◌∙◌, ap, subst}
use Rattle.std.proofs.lemmas.List.{append-nil}
use Rattle.rg_host.specs.Image.{Image}
use Rattle.rg_event.specs.Codec.{IsEventOf}
use Rattle.rg_event.specs.Rising.{last_time}
use Rattle.rg_event.specs.declared.event.Event.{Event}
use Rattle.rg_past.specs.declared.past.Spot.{Spot}
use Rattle.rg_config.specs.Plans.{Planned}
use Rattle.rg_plan.specs.Named.{node_at}
use Rattle.rg_plan.specs.Plans.{Tasks, plan_for}
use Rattle.rg_agg.specs.Held.{Held}
use Rattle.rg_state.specs.Rows.{Cells, Same}
use Rattle.rg_window.specs.Placed.{IsSpelledAt, numbers_of}
use Rattle.rg_engine.specs.Carrying.{CarriesOn}
use Rattle.rg_engine.specs.Seen.{Seen}
use Rattle.rg_engine.specs.Standing.{NodeStands, RowIs}
use Rattle.rg_engine.proofs.Laws.{told_later}
use Rattle.rg_reservoir.specs.Kept.{Base, base, opened, all_events, IsSound, Spells}
use Rattle.rg_reservoir.specs.declared.reservoir.Reservoir.{Reservoir}
use Rattle.rg_restore.specs.Truthful.{NodeGoes}
use Rattle.rg_open.specs.Opened.{IsOpenedFor}
use Rattle.rg_open.specs.Blame.{NodeRuns}
use Rattle.rg_restore.proofs.Laws.{node_stands, node_told}
use Rattle.rg_recover.specs.Sessions.{IsReady}
use Rattle.rg_recover.specs.Stepping.{LogStays}
use Rattle.rg_recover.proofs.Beside.{sound_beside, events_beside, spells_beside}
use Rattle.rg_recover.proofs.Ready.{fed_with}

-- a node that stands, where more spots are spelled and the events are the same
pub goes_still : (Spells Later : Spot → Type 0) (plan : Tasks) (n : ℕ) (events then : List Event) (cells : Cells) (spots : List Spot) → ((spot : Spot) → Spells spot → Later spot) → then ≡ events → NodeGoes Spells plan n events cells spots → NodeGoes Later plan n then cells spots
goes_still Spells Later plan n events then cells spots spelled same goes = subst (λ (l : List Event). NodeGoes Later plan n l cells spots) (sym same) (record { told = told_later plan n Spells Later spots spelled goes.told; stands = goes.stands })

-- each node of an engine that is ready can be carried on
pub ready_node : {T : Type 0} (plan : Planned) (now : Option Image) (may : Image → Type 0) (is_told : Type 0) (cells : Cells) (r : Reservoir) (engine : Seen T) (texts : List (List ℕ)) → IsReady plan now may is_told cells r engine texts → (n : ℕ) → NodeRuns plan n now may is_told cells r engine
ready_node plan now may is_told cells r engine texts ready n =
    let events = all_events now (base r) (opened r) in
    let spelled = Spells now (base r) (opened r) in
    let stands = ready.in_step.stands in
    record {
      reservoir = ready.in_step.reservoir;
      goes = record { told = node_told spelled (plan_for plan.queries) events engine.spots stands.spots n; stands = node_stands spelled (plan_for plan.queries) events cells engine.spots stands.rows stands.spots n };
      tells = ready.tells;
      serves = ready.serves;
      plan_is = ready.plan_is;
    }

module _ {T : Type 0} (plan : Planned) (n : ℕ) (now : Option Image) (may : Image → Type 0) (is_told : Type 0) (cells : Cells) (r : Reservoir) (engine : Seen T) (runs : NodeRuns plan n now may is_told cells r engine) where
  abbrev before : List Event
  before = all_events now (base r) (opened r)

  abbrev Spelled : Spot → Type 0
  Spelled = Spells now (base r) (opened r)

  -- it can be carried on to an event
  pub node_carries : (event : Event) → IsEventOf (base r).shape.fields event → CarriesOn engine.plan n (IsSound now may r) Spelled is_told before (before ++ event ∷ []) before cells engine.spots
  node_carries event fits = subst (λ (p : Tasks). CarriesOn p n (IsSound now may r) Spelled is_told before (before ++ event ∷ []) before cells engine.spots) (sym runs.plan_is) (record {
    sound = runs.reservoir.sound;
    spelled = runs.goes.told;
    tells = runs.tells;
    fed = fed_with plan now may r event runs.reservoir runs.serves fits;
    more = [];
    begins = sym (append-nil before);
    stood = runs.goes.stands;
  })

  module _ (then : Option Image) (after : Image → Type 0) (told_still : Type 0) (rows : Cells) (s : Reservoir) (new : Seen T) where
    -- it can be carried on from where the engine took the event
    pub node_again : told_still → base s ≡ base r → IsSound then after s → new.plan ≡ engine.plan → NodeStands engine.plan n (all_events then (base s) (opened s)) rows (numbers_of new.spots)
        → ((edge : ℕ) → IsSpelledAt Spelled engine.spots edge → IsSpelledAt (Spells then (base s) (opened s)) new.spots edge) → NodeRuns plan n then after told_still rows s new
    node_again tells same sound plan_is stands spelled = record {
      reservoir = record {
        sound = sound;
        going = ap (λ (b : Base). b.ended) same ∙ runs.reservoir.going;
        file = ap (λ (b : Base). b.file) same ∙ runs.reservoir.file;
        shape = ap (λ (b : Base). b.shape) same ∙ runs.reservoir.shape;
      };
      goes = record {
        told = λ edge offset there has. spelled edge (runs.goes.told edge offset there has);
        stands = subst (λ (p : Tasks). NodeStands p n (all_events then (base s) (opened s)) rows (numbers_of new.spots)) runs.plan_is stands;
      };
      tells = tells;
      serves = runs.serves;
      plan_is = plan_is ∙ runs.plan_is;
    }

  -- and over the log that a chunk was stored in
  pub node_stored : (then : Option Image) (after : Image → Type 0) (s : Reservoir) → IsOpenedFor plan then after s → all_events then (base s) (opened s) ≡ before → ((spot : Spot) → Spelled spot → Spells then (base s) (opened s) spot) → NodeRuns plan n then after is_told cells s engine
  node_stored then after s log same spelled = record {
    reservoir = log;
    goes = goes_still Spelled (Spells then (base s) (opened s)) (plan_for plan.queries) n before (all_events then (base s) (opened s)) cells engine.spots spelled same runs.goes;
    tells = runs.tells;
    serves = runs.serves;
    plan_is = runs.plan_is;
  }

  -- and where another file than the log was written, by an engine with the same rows
  pub node_beside : (then : Option Image) (after : Image → Type 0) (told_still : Type 0) (rows : Cells) (new : Seen T) → LogStays now then may after → told_still → Same cells rows → new.plan ≡ engine.plan → new.spots ≡ engine.spots → NodeRuns plan n then after told_still rows r new
  node_beside then after told_still rows new stays tells same plan_same spots_same =
      let log = runs.reservoir in
      let tasks = plan_for plan.queries in
      let kept : NodeGoes Spelled tasks n before rows engine.spots = record {
        told = runs.goes.told;
        stands = record {
          rows = λ key. subst (λ (row : Option Held). RowIs (node_at tasks n) key (last_time before) before row) (sym (same n key)) (runs.goes.stands.rows key);
          places = runs.goes.stands.places;
        };
      } in
      record {
        reservoir = record { sound = sound_beside now then may after r log.file stays log.sound; going = log.going; file = log.file; shape = log.shape };
        goes = subst (λ (at : List Spot). NodeGoes (Spells then (base r) (opened r)) tasks n (all_events then (base r) (opened r)) rows at) (sym spots_same)
            (goes_still Spelled (Spells then (base r) (opened r)) tasks n before (all_events then (base r) (opened r)) rows engine.spots (spells_beside now then may after r log.file stays) (events_beside now then may after r log.file stays log.sound) kept);
        tells = tells;
        serves = runs.serves;
        plan_is = plan_same ∙ runs.plan_is;
      }
