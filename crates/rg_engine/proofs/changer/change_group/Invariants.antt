use Rattle.std.proofs.Common.{◌≤◌, ℕ, List, Option, take}
use Rattle.rg_metric.specs.declared.query.Window.{Window}
use Rattle.rg_metric.specs.Conditions.{Test}
use Rattle.rg_engine.specs.Parts.{agg_nodes}
use Rattle.rg_engine.specs.Since.{KeepsSince}
use Rattle.rg_engine.specs.Stepping.{IsPassed, Done}
use Rattle.rg_engine.proofs.changer.change_group.Given as goal

abbrev pub invariant-aggs : goal.invariant-aggs
invariant-aggs g l = record {
  done : g.T.Table.tells l.fn.table → (window : Window) (condition : Option Test) (offset : ℕ) → IsPassed window condition offset l.change l.event →
      (n : ℕ) (q : List ℕ) → Done q offset l.event (agg_nodes window condition l.part.columns n (take l.agg-index l.agg-items)) (g.T.Table.cell l.fn.table n q) (g.T.Table.cell l.table n q);
  since : KeepsSince g.T.Table.tells g.T.Table.named g.T.Table.there g.T.Table.cell l.fn.table l.table;
  later : g.T.Table.faults l.fn.table ≤ g.T.Table.faults l.table;
}
