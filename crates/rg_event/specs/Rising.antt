-- The order of the events of a past.
use Rattle.std.specs.Prelude.{ℕ, ◌+◌, ◌≤◌, ◌<◌, List, [], ◌∷◌, ⊤}
use Rattle.rg_event.specs.declared.event.Event.{Event}

-- the offset of the last event plus one, and 0 where there is none
abbrev pub next_offset : List Event → ℕ
next_offset [] = 0
next_offset (x ∷ []) = x.offset + 1
next_offset (x ∷ (y ∷ events)) = next_offset (y ∷ events)

-- the time of the last event, and 0 where there is none
abbrev pub last_time : List Event → ℕ
last_time [] = 0
last_time (x ∷ []) = x.time
last_time (x ∷ (y ∷ events)) = last_time (y ∷ events)

-- the offsets rise strictly and the times never fall
abbrev pub IsRising : List Event → Type 0
IsRising [] = ⊤
IsRising (x ∷ []) = ⊤
IsRising (x ∷ (y ∷ events)) = (x.offset < y.offset) × (x.time ≤ y.time) × IsRising (y ∷ events)

-- the event may follow these: its offset is above the last one's, and its time isn't below
pub record MayFollow (events : List Event) (event : Event) : Type 0 where
  pub offset : next_offset events ≤ event.offset
  pub time : last_time events ≤ event.time
