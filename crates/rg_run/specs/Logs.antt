-- What a run does to the log of its store, whatever the slots hold.
use Rattle.std.specs.Prelude.{List}
use Rattle.rg_host.specs.Image.{Image}
use Rattle.rg_host.specs.Moments.{Moments}
use Rattle.rg_event.specs.declared.event.Event.{Event}
use Rattle.rg_config.specs.Plans.{Planned}
use Rattle.rg_run_spec.specs.Stores.{HasAtLeast}
use Rattle.rg_task.specs.View.{View}

module _ {K : Type 0} (view : View K) where
  -- each image that might be left has at least these events
  abbrev pub Holds : Planned → List Event → K → Type 0
  Holds plan held t = (u : Image) → view.may t u → HasAtLeast (view.store plan) held u

  -- From old to new each image of a moment, and each that is left, has at least these events.
  pub record StaysHeld (plan : Planned) (held : List Event) (old new : K) : Type 0 where
    pub moments : Moments view.clock view.since old new (λ m. HasAtLeast (view.store plan) held m.image)
    pub left : Holds plan held new

  -- over a legal log what each image has that might be left stays, at each moment and in each image that is left
  abbrev pub KeepsLog : Planned → K → K → Type 0
  KeepsLog plan old new = (held : List Event) → view.placed plan old → Holds plan held old → StaysHeld plan held old new
