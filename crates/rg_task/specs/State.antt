-- What a task holds, as plain data.
use Rattle.std.specs.Prelude.{ℕ, Bool, List, Option}
use Rattle.rg_event.specs.declared.event.Event.{Event}

-- Its events, those of them that are stored and those that aren't yet, the slot that was used or written last, the least offset that the
-- next line may have, and whether an earlier failure ended it.
pub record State : Type 0 where
  pub events : List Event
  pub stored : List Event
  pub chunk : List Event
  pub keep : Option ℕ
  pub next : ℕ
  pub ended : Bool
