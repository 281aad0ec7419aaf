use Rattle.std.proofs.Common.{ℕ, List, take}
use Rattle.rg_event.specs.declared.event.Event.{Event}
use Rattle.rg_plan.specs.Named.{Node}
use Rattle.rg_checkpoint.specs.Entries.{entries_of}
use Rattle.rg_row_audit.specs.Gathering.{AreGathered}
use Rattle.rg_row_audit.specs.Keeping.{AreSuited, AreLeft}
use Rattle.rg_row_audit.proofs.keeping.are_kept.Given as goal

abbrev pub invariant-rows : goal.invariant-rows
invariant-rows l =
    (at : Node) (time : ℕ) (events : List Event) → AreSuited at time events → AreGathered at time events l.fn.gathered
    → AreLeft (entries_of (take l.row-index l.rows)) l.node at time events l.left
