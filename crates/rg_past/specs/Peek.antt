-- A look at a spot.
use Rattle.std.specs.Prelude.{◌≡◌, ℕ, ◌<◌, List, Option, Result, IfOk, IfSome, length, slice_get}
use Rattle.std.specs.Borrow.{Bor}
use Rattle.std.specs.Option.{option_copied}
use Rattle.rg_event.specs.declared.event.Event.{Event}
use Rattle.rg_past.specs.declared.past.Spot.{Spot}
use Rattle.rg_past.specs.declared.past.PastFault.{PastFault}

-- what a look answers
abbrev pub Look : Type 0
Look = Result (Option (Bor Event)) PastFault

-- an event comes only below the count, at an index below 4,096
abbrev pub IsLookWithin : List Event → Spot → Look → Type 0
IsLookWithin events spot result = IfOk result (λ look. IfSome look (λ _. (spot.number < length events) × (spot.index < 4096)))

-- it is the event of that number, and there is none just at the end
abbrev pub Shows : List Event → ℕ → Look → Type 0
Shows events number result = IfOk result (λ look. option_copied look ≡ slice_get events number)
