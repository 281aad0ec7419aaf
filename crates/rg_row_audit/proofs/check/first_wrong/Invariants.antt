use Rattle.std.proofs.Common.{ℕ, ◌<◌}
use Rattle.rg_checkpoint.specs.Entries.{entries_of}
use Rattle.rg_row_audit.specs.Rows.{AreServed, AreRight}
use Rattle.rg_row_audit.proofs.check.first_wrong.Given as goal

abbrev pub invariant-nodes : goal.invariant-nodes
invariant-nodes l = AreServed l.plan l.events → (m : ℕ) → m < l.node → AreRight (entries_of l.rows) l.plan l.events m
