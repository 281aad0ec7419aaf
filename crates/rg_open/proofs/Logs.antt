-- A log that was attached, and an engine that can stand for its events.
use Rattle.std.proofs.Common.{◌≡◌, ◌∙◌, ◌+◌, ◌<◌, ℕ, Bool, List, [], ◌∷◌, length, Option, Some, sym, ap, subst, arith}
use Rattle.std.specs.Prelude.{All}
use Rattle.std.proofs.lemmas.List.{append-nil}
use Rattle.rg_host.specs.Image.{Image}
use Rattle.rg_event.specs.Codec.{IsEventOf}
use Rattle.rg_event.specs.Rising.{last_time}
use Rattle.rg_event.specs.declared.event.Event.{Event}
use Rattle.rg_past.specs.declared.past.Spot.{Spot}
use Rattle.rg_log.specs.Log.{joined, HasEvents}
use Rattle.rg_log.specs.Spots.{SpotIn}
use Rattle.rg_log.proofs.Laws.{events_of_schema}
use Rattle.rg_config.specs.Plans.{Planned}
use Rattle.rg_query.specs.Legal.{IsLegalQuery}
use Rattle.rg_plan.specs.Plans.{Tasks, plan_for}
use Rattle.rg_engine.specs.Feeding.{Serves}
use Rattle.rg_engine.proofs.Laws.{serves}
use Rattle.rg_restore.specs.Naming.{HeadsName, NamesIn}
use Rattle.rg_restore.specs.NamingLaws.{sound_names}
use Rattle.rg_restore.specs.Opening.{CanStand}
use Rattle.rg_reservoir.specs.Kept.{base, opened, next_of, time_of, cache_of, all_events, IsSound, IsRight, Spells}
use Rattle.rg_reservoir.specs.GoingLaws.{all_long}
use Rattle.rg_reservoir.specs.declared.reservoir.Reservoir.{Reservoir}
use Rattle.rg_reservoir.proofs.Laws.{spelled_here, spelled_there}
use Rattle.rg_open.specs.Opened.{IsOpenedFor}
use Rattle.rg_open.proofs.Sound.{has_events, all_are}

module _ (plan : Planned) (now : Option Image) (may : Image → Type 0) (r : Reservoir) (log : IsOpenedFor plan now may r) (empty : opened r ≡ []) where
  abbrev pub image : Image
  image = log.sound.0

  pub told : now ≡ Some image
  told = log.sound.1

  pub right : IsRight image may (base r) [] (next_of r) (time_of r) (cache_of r)
  right = subst (λ (l : List Event). IsRight image may (base r) l (next_of r) (time_of r) (cache_of r)) empty (log.sound.2.right log.going)

  abbrev pub all : List Event
  all = all_events now (base r) (opened r)

  pub has : HasEvents plan.shape (joined right.chunks) (image 2)
  has = has_events plan image may (base r) [] (next_of r) (time_of r) (cache_of r) right log.file log.shape

  pub all_is : all ≡ joined right.chunks
  all_is = ap (λ (l : List Event). all_events now (base r) l) empty
      ∙ ap (λ (i : Option Image). all_events i (base r) []) told
      ∙ all_are plan image may (base r) [] (next_of r) (time_of r) (cache_of r) right log.file log.shape
      ∙ append-nil (joined right.chunks)

  -- what the log spells is spelled
  pub spelled : (spot : Spot) → SpotIn (image 2) spot → Spells now (base r) (opened r) spot
  spelled spot there =
      let at : SpotIn (image (base r).file) spot = subst (λ (f : ℕ). SpotIn (image f) spot) (sym log.file) there in
      subst (λ (l : List Event). Spells now (base r) l spot) (sym empty) (spelled_here image may (base r) (next_of r) (time_of r) (cache_of r) right now spot told at)

  -- and the other way round
  pub in_log : (spot : Spot) → Spells now (base r) (opened r) spot → SpotIn (image 2) spot
  in_log spot spells =
      let there : SpotIn (image (base r).file) spot =
      spelled_there image may (base r) (next_of r) (time_of r) (cache_of r) right now spot told (subst (λ (l : List Event). Spells now (base r) l spot) empty spells) in
      subst (λ (f : ℕ). SpotIn (image f) spot) log.file there

  -- the heads name what is spelled
  pub names : (spot : Spot) → Spells now (base r) (opened r) spot → HeadsName now (base r) spot
  names spot spells = subst (λ (e : Bool). NamesIn now (base r) e [] spot) log.going
      (subst (λ (l : List Event). NamesIn now (base r) (base r).ended l spot) empty ((sound_names now may r spot log.sound).1 spells))

  pub are_events : All (IsEventOf plan.shape.fields) all
  are_events = subst (All (IsEventOf plan.shape.fields)) (sym all_is) (events_of_schema plan.shape (joined right.chunks) (image 2) has)

  -- a time that is the last event's, and 0 without one
  pub last_is : (n : ℕ) → (0 < (base r).committed + length (opened r) → n ≡ time_of r) → ((base r).committed + length (opened r) ≡ 0 → n ≡ 0) → last_time all ≡ n
  last_is n some none = by all (all_long now (base r) (opened r)) (right.time_is ∙ ap last_time (sym same))
    where
      same : all ≡ all_events (Some image) (base r) []
      same = ap (λ (l : List Event). all_events now (base r) l) empty ∙ ap (λ (i : Option Image). all_events i (base r) []) told

      by : (events : List Event) → length events ≡ (base r).committed + length (opened r) → time_of r ≡ last_time events → last_time events ≡ n
      by [] long is = sym (none (sym long))
      by (x ∷ events) long is = sym is ∙ sym (some (omega (arith, long)))

  -- an engine can stand for its events
  pub can_stand : (tasks : Tasks) → tasks ≡ plan_for plan.queries → (is_told : Type 0) → All (IsLegalQuery plan.shape) plan.queries → is_told → CanStand (IsSound now may r) is_told tasks all
  can_stand tasks tasks_are is_told legal tells = record {
    sound = log.sound;
    tells = tells;
    fed = record {
      fields = plan.shape.fields;
      serves = subst (Serves plan.shape.fields) (sym tasks_are) (serves plan.shape plan.queries legal);
      are = are_events;
    };
  }
