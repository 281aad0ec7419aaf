-- A store that is ready for a run.
use Rattle.std.specs.Prelude.{◌≡◌, ℕ, List, Option, Some}
use Rattle.rg_host.specs.Image.{Image}
use Rattle.rg_event.specs.declared.event.Event.{Event}
use Rattle.rg_config.specs.Plans.{Planned}
use Rattle.rg_open.specs.Stores.{Has}
use Rattle.rg_open.specs.Opening.{IsOpenable}
use Rattle.rg_run.specs.Begun.{Begun}

-- Before a run: the host tells its image; each image that might be left is truthful, and its log is of the plan's schema, of one that
-- grows to it by the plan's defaults, or has no frame; and these are the events of the image's log for the plan.
pub record IsReadyStore (plan : Planned) (now : Option Image) (may : Image → Type 0) : Type 0 where
  pub openable : IsOpenable plan now may
  pub held : List Event
  pub has : Has plan held openable.image

-- Before a run: the host tells its image and what had been put; each image that might be left is truthful, and its log is of the
-- plan's schema, of one that grows to it by the plan's defaults, or has no frame; and these are the events of the image's log for the
-- plan.
pub record IsReadyRun (plan : Planned) (now : Option Image) (may : Image → Type 0) (said : Option (List ℕ)) : Type 0 where
  pub openable : IsOpenable plan now may
  pub put : List ℕ
  pub told : said ≡ Some put
  pub held : List Event
  pub has : Has plan held openable.image

-- the store of a run that is ready
abbrev pub store_in : {plan : Planned} → {now : Option Image} → {may : Image → Type 0} → {said : Option (List ℕ)} → IsReadyRun plan now may said → IsReadyStore plan now may
store_in ready = record { openable = ready.openable; held = ready.held; has = ready.has }

-- of a run over a store that is ready
abbrev pub begun_by : {plan : Planned} → {now : Option Image} → {may : Image → Type 0} → {said : Option (List ℕ)} → IsReadyRun plan now may said → ℕ → ℕ → List ℕ → Begun
begun_by ready from first input = record { said = ready.put; held = ready.held; from = from; first = first; input = input }
