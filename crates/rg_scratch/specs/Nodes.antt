-- What the nodes of a plan answer, from scratch.
use Rattle.std.specs.Prelude.{ℕ, List, [], ◌∷◌, map, Option, Some, None, ⊤}
use Rattle.std.specs.List.{filter}
use Rattle.rg_event.specs.declared.event.Event.{Event}
use Rattle.rg_metric.specs.declared.answer.Answer.{Answer}
use Rattle.rg_metric.specs.declared.answer.Answer.TheVariants.{Dash}
use Rattle.rg_metric.specs.Queries.{Asked, filter_test}
use Rattle.rg_metric.specs.Replies.{agg_answer, counts_for, values_in}
use Rattle.rg_plan.specs.Named.{Node, node_at}
use Rattle.rg_plan.specs.Plans.{Tasks}
use Rattle.rg_scratch.specs.declared.asking.Asking.{Asking}
use Rattle.rg_scratch.specs.Tallies.{IsExact}

abbrev pub node_of : Asking → Node
node_of a = record { window = a.window; condition = filter_test a.condition.now; columns = a.columns.now; agg = a.agg }

-- the node as a query of one aggregator
abbrev pub query_at : Node → Asked
query_at node = record { aggs = node.agg ∷ []; filter = node.condition; group = node.columns; window = node.window }

-- its answer to the event e over these events
abbrev pub node_answer : List Event → Event → Option Node → Answer
node_answer events e None = Dash
node_answer events e (Some node) = agg_answer node.agg (filter (counts_for (query_at node) e) events)

-- a sum of squares that it asks for is below 2^127
abbrev pub IsExactAt : List Event → Event → Option Node → Type 0
IsExactAt events e None = ⊤
IsExactAt events e (Some node) = IsExact node.agg.func (values_in node.agg.field (filter (counts_for (query_at node) e) events))

-- each sum of squares that a node of the plan asks for is below 2^127
abbrev pub AreExact : Tasks → List Event → Event → Type 0
AreExact plan events e = (n : ℕ) → IsExactAt events e (node_at plan n)

-- the answers of the nodes of these numbers, in order
abbrev pub answers_of : Tasks → List Event → Event → List ℕ → List Answer
answers_of plan events e nodes = map (λ n. node_answer events e (node_at plan n)) nodes
