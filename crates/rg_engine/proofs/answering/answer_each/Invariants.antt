use Rattle.std.proofs.Common.{◌≡◌, ◌↔◌, ◌≤◌, ◌+◌, ◌++◌, ℕ, List, length, take, vec_capacity}
use Rattle.rg_event.specs.declared.event.Event.{Event}
use Rattle.rg_plan.specs.Named.{node_at}
use Rattle.rg_plan.specs.Plans.{Tasks}
use Rattle.rg_plan.specs.Whole.{IsWhole}
use Rattle.rg_state.specs.Rows.{Same}
use Rattle.rg_engine.specs.Answering.{keys_for, node_answers}
use Rattle.rg_engine.specs.Since.{KeepsSince}
use Rattle.rg_engine.specs.Standing.{RowIs}
use Rattle.rg_engine.proofs.answering.answer_each.Given as goal

abbrev pub invariant-nodes : goal.invariant-nodes
invariant-nodes g l = record {
  answers : g.T.Table.tells l.initial.table → (plan : Tasks) (events : List Event) (e : Event) → IsWhole plan → plan.aggs ≡ l.aggs → l.keys ≡ keys_for plan.groups e →
      ((n : ℕ) (key : List ℕ) → RowIs (node_at plan n) key e.time events (g.T.Table.cell l.initial.table n key)) →
      l.answers.items ≡ l.initial.answers.items ++ node_answers plan events e (take l.node-index l.nodes);
  count : length l.answers.items ≡ length l.initial.answers.items + l.node-index;
  room : vec_capacity l.answers ≡ vec_capacity l.initial.answers;
  same : g.T.Table.tells l.initial.table → Same (g.T.Table.cell l.initial.table) (g.T.Table.cell l.table);
  since : KeepsSince g.T.Table.tells g.T.Table.named g.T.Table.there g.T.Table.cell l.initial.table l.table;
  tells : g.T.Table.tells l.table ↔ g.T.Table.tells l.initial.table;
  later : g.T.Table.faults l.initial.table ≤ g.T.Table.faults l.table;
}
