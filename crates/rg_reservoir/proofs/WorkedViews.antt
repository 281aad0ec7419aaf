-- A view by hand. Behind a first frame that ends at 20 stand a chunk at 20, growths at 29 and 39, and a chunk at 50; the frames end at 59.
use Rattle.std.specs.Prelude.{◌≡◌, ℕ, List, [], ◌∷◌, ◌++◌, refl}
use Rattle.rg_event.specs.Shapes.{Shape}
use Rattle.rg_event.specs.declared.event.Event.{Event}
use Rattle.rg_event.specs.declared.value.Value.{Value}
use Rattle.rg_log.specs.Stages.{Stage, chunk, growth, in_force}
use Rattle.rg_reservoir.specs.GrownViews.{growths_from}
use Rattle.rg_reservoir.specs.Views.{View, seen_from, shape_at, grown_at, passed}

abbrev payloads : List (List ℕ)
payloads = [] ∷ (0 ∷ []) ∷ (0 ∷ 0 ∷ []) ∷ [] ∷ []

module _ (first second third : Shape) (x y : List Value) (a b : List Event) where
  abbrev stages : List Stage
  stages = chunk a ∷ growth (record { to = second; values = x }) ∷ growth (record { to = third; values = y }) ∷ chunk b ∷ []

  abbrev view : View
  view = seen_from (in_force first stages) (growths_from 20 first payloads stages)

  -- the chunk at 20 is read by the first schema, and the values of both growths come behind those of its events, in order
  schema_before : shape_at view 20 ≡ first
  schema_before = refl

  values_before : (event : Event) → grown_at view.growths 20 (event ∷ []) ≡ record { offset = event.offset; time = event.time; values = (event.values ++ x) ++ y } ∷ []
  values_before event = refl

  -- behind it both growths are passed, and so they are from the second one on
  both_passed : passed view.growths 29 ≡ 50
  both_passed = refl

  one_passed : passed view.growths 39 ≡ 50
  one_passed = refl

  schema_between : shape_at view 39 ≡ second
  schema_between = refl

  -- the chunk at 50 is read by the last schema, and its events are as they stand there
  schema_behind : shape_at view 50 ≡ third
  schema_behind = refl

  values_behind : (event : Event) → grown_at view.growths 50 (event ∷ []) ≡ event ∷ []
  values_behind event = refl

  end_stays : passed view.growths 59 ≡ 59
  end_stays = refl
