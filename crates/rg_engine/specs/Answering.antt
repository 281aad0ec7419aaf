-- What the nodes of a plan answer to an event.
use Rattle.std.specs.Prelude.{◌≡◌, ℕ, List, ◌++◌, map, flat_map, Option, Some, None, Result, OnOk, IsErrOf}
use Rattle.rg_event.specs.declared.event.Event.{Event}
use Rattle.rg_metric.specs.declared.answer.Answer.{Answer}
use Rattle.rg_metric.specs.declared.answer.Answer.TheVariants.{Dash}
use Rattle.rg_metric.specs.Answers.{answer_of}
use Rattle.rg_metric.specs.Replies.{key_of}
use Rattle.rg_group.specs.Keys.{key_bytes}
use Rattle.rg_plan.specs.declared.node.AggNode.{AggNode}
use Rattle.rg_plan.specs.declared.node.GroupNode.{GroupNode}
use Rattle.rg_plan.specs.Named.{Node, node_at}
use Rattle.rg_plan.specs.Plans.{Tasks}
use Rattle.rg_plan.specs.Whole.{IsWhole}
use Rattle.rg_state.specs.Rows.{Cells, Same}
use Rattle.rg_state.specs.declared.table.TableFault.{TableFault}
use Rattle.rg_state.specs.declared.table.TableFault.TheVariants.{BadState}
use Rattle.rg_engine.specs.Standing.{RowIs}
use Rattle.rg_engine.specs.Windows.{node_values}

-- the key of the event e at each group node
abbrev pub keys_for : List GroupNode → Event → List (List ℕ)
keys_for groups e = map (λ (group : GroupNode). key_bytes (key_of group.columns e)) groups

-- the answer of a node to e, the last one of these events, from scratch
abbrev pub node_answer : List Event → Event → Option Node → Answer
node_answer events e None = Dash
node_answer events e (Some node) = answer_of node.agg.func (node_values node (key_bytes (key_of node.columns e)) e.time events)

-- the answers of the nodes of these numbers to e, the last one of these events, from scratch
abbrev pub node_answers : Tasks → List Event → Event → List ℕ → List Answer
node_answers plan events e nodes = map (λ n. node_answer events e (node_at plan n)) nodes

-- the numbers of the nodes of all queries, in order
abbrev pub nodes_asked : Tasks → List ℕ
nodes_asked plan = flat_map (λ path. path) plan.paths

-- A table that tells its rows: where they stand for some events, the answers of the nodes of these numbers are those to the last event, and no node is
-- to blame; and the rows stay.
pub record TellsAnswers (is_told : Type 0) (aggs : List AggNode) (keys : List (List ℕ)) (nodes : List ℕ) (cells cells' : Cells) (old new : List Answer) (result : Result Unit TableFault) : Type 0 where
  pub answers : is_told → (plan : Tasks) (events : List Event) (e : Event) → IsWhole plan → plan.aggs ≡ aggs → keys ≡ keys_for plan.groups e →
      ((n : ℕ) (key : List ℕ) → RowIs (node_at plan n) key e.time events (cells n key)) → OnOk result (new ≡ old ++ node_answers plan events e nodes)
  pub bad : (n : ℕ) → IsErrOf result (BadState n) → is_told → (plan : Tasks) (events : List Event) (e : Event) → IsWhole plan → plan.aggs ≡ aggs →
      ((key : List ℕ) → RowIs (node_at plan n) key e.time events (cells n key)) → ⊥
  pub same : is_told → Same cells cells'
