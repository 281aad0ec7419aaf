-- A log as its end sees it: the schema in force there, and the growths before it by their places. A chunk in front of a growth is
-- read by the schema that was in force there, and the growth's values stand behind those of each of its events.
use Rattle.std.specs.Prelude.{◌==◌, nat_le, ℕ, List, [], ◌∷◌, Option, Some, None, if◌then◌else◌}
use Rattle.std.specs.Option.{unwrap_or}
use Rattle.rg_event.specs.Shapes.{Shape}
use Rattle.rg_event.specs.declared.event.Event.{Event}
use Rattle.rg_chunk.specs.Extended.{all_extended}
use Rattle.rg_reservoir.specs.declared.growing.Growing.{Growing}

-- the schema in force at the log's end, and the growths by rising place
pub record View : Type 0 where
  pub shape : Shape
  pub growths : List Growing

abbrev pub seen_from : Shape → List Growing → View
seen_from shape growths = record { shape = shape; growths = growths }

-- that of a log without a growth
abbrev pub plain : Shape → View
plain shape = seen_from shape []

-- the schema that the first growth at or behind a place found in force
abbrev pub before : List Growing → ℕ → Option Shape
before [] place = None
before (growing ∷ growths) place = if nat_le place growing.place then Some growing.from else before growths place

-- the schema in force at a place
abbrev pub shape_at : View → ℕ → Shape
shape_at view place = unwrap_or (before view.growths place) view.shape

-- the events of a chunk at a place, each with the values of the growths at or behind that place, in order
abbrev pub grown_at : List Growing → ℕ → List Event → List Event
grown_at [] place events = events
grown_at (growing ∷ growths) place events = grown_at growths place (if nat_le place growing.place then all_extended growing.values events else events)

-- the place behind the growths that stand at a place, one after another
abbrev pub passed : List Growing → ℕ → ℕ
passed [] place = place
passed (growing ∷ growths) place = passed growths (if growing.place == place then growing.next else place)
