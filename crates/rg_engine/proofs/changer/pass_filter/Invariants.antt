use Rattle.std.proofs.Common.{◌≤◌, ℕ, List, take}
use Rattle.rg_engine.specs.Parts.{group_nodes}
use Rattle.rg_engine.specs.Since.{KeepsSince}
use Rattle.rg_engine.specs.Stepping.{Done}
use Rattle.rg_engine.proofs.changer.pass_filter.Given as goal

abbrev pub invariant-groups : goal.invariant-groups
invariant-groups g l = record {
  done : g.T.Table.tells l.fn.table → (n : ℕ) (q : List ℕ) → Done q l.offset l.event (group_nodes l.part.window l.part.filter n (take l.group-index l.group-items)) (g.T.Table.cell l.fn.table n q) (g.T.Table.cell l.table n q);
  since : KeepsSince g.T.Table.tells g.T.Table.named g.T.Table.there g.T.Table.cell l.fn.table l.table;
  later : g.T.Table.faults l.fn.table ≤ g.T.Table.faults l.table;
}
