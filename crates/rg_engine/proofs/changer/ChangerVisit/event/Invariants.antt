use Rattle.std.proofs.Common.{◌≡◌, ◌+◌, ◌≤◌, ℕ, List, take}
use Rattle.rg_engine.specs.Parts.{nodes_numbered, ticks_at}
use Rattle.rg_engine.specs.Since.{KeepsSince}
use Rattle.rg_engine.specs.Stepping.{Done}
use Rattle.rg_engine.proofs.changer.ChangerVisit.event.Given as goal

-- in the loop the table is `l.rows.1.1.1.0`, and the steps are `l.self.1.1.1.0`
abbrev pub invariant-filters : goal.invariant-filters
invariant-filters g l = record {
  done : g.T.Table.tells l.fn.self.rows.now.table → (n : ℕ) (q : List ℕ) → Done q l.offset l.event (nodes_numbered n (take l.part-index l.part-items)) (g.T.Table.cell l.fn.self.rows.now.table n q) (g.T.Table.cell l.rows.1.1.1.0 n q);
  ticked : l.self.1.1.1.0.now ≡ l.fn.self.steps.now + ticks_at l.offset (take l.part-index l.part-items);
  lent : l.self.1.1.1.0.ghost_name ≡ l.fn.self.steps.ghost_name;
  since : KeepsSince g.T.Table.tells g.T.Table.named g.T.Table.there g.T.Table.cell l.fn.self.rows.now.table l.rows.1.1.1.0;
  later : g.T.Table.faults l.fn.self.rows.now.table ≤ g.T.Table.faults l.rows.1.1.1.0;
}
