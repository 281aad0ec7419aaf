-- The answers to an event, from scratch: each query over the whole list of events anew.
use Rattle.std.specs.Prelude.{ℕ, zero, suc, ◌+◌, nat_le, not, ◌&&◌, Bool, true, false, List, [], ◌∷◌, ◌++◌, map, Option, Some, None}
use Rattle.std.specs.List.{filter}
use Rattle.rg_event.specs.declared.event.Event.{Event}
use Rattle.rg_event.specs.declared.value.Value.{Value}
use Rattle.rg_event.specs.declared.value.Value.TheVariants.{Flag}
use Rattle.rg_metric.specs.declared.answer.Answer.{Answer}
use Rattle.rg_metric.specs.declared.query.Agg.{Agg}
use Rattle.rg_metric.specs.declared.query.Window.{Window}
use Rattle.rg_metric.specs.Conditions.{value_in, passes}
use Rattle.rg_metric.specs.Queries.{Asked}
use Rattle.rg_metric.specs.Same.{same_values}
use Rattle.rg_metric.specs.Answers.{answer_of}

-- by time t an event of time `since` has left a window of this length after this delay: one that is exactly so old has left
abbrev pub has_left : Option ℕ → ℕ → ℕ → Bool
has_left None since t = false
has_left (Some length) since t = nat_le (since + length) t

-- x is in the window at time t: it has entered, and hasn't left
abbrev pub in_window : Window → Event → ℕ → Bool
in_window w x t = nat_le (x.time + w.delay) t && not (has_left w.length (x.time + w.delay) t)

abbrev pub and_value : Option Value → List Value → List Value
and_value None values = values
and_value (Some v) values = v ∷ values

-- the key of an event: its values in these columns, in order; a column that it lacks adds none
abbrev pub key_of : List ℕ → Event → List Value
key_of [] x = []
key_of (column ∷ columns) x = and_value (value_in column x.values) (key_of columns x)

-- x counts for the event e: it is in the window that ends at e's time, meets the condition and has e's key
abbrev pub counts_for : Asked → Event → Event → Bool
counts_for q e x = in_window q.window x e.time && (passes q.filter x && same_values (key_of q.group x) (key_of q.group e))

-- the values of a column in these events; column 0 has a flag for each event
abbrev pub values_in : ℕ → List Event → List Value
values_in column [] = []
values_in zero (x ∷ xs) = Flag true ∷ values_in zero xs
values_in (suc n) (x ∷ xs) = and_value (value_in (suc n) x.values) (values_in (suc n) xs)

abbrev pub agg_answer : Agg → List Event → Answer
agg_answer agg counted = answer_of agg.func (values_in agg.field counted)

-- the answers of one query to the event e, which is the last one of these events
abbrev pub query_answers : Asked → List Event → Event → List Answer
query_answers q events e = map (λ agg. agg_answer agg (filter (counts_for q e) events)) q.aggs

-- the answers of all queries, in order
abbrev pub answers_to : List Asked → List Event → Event → List Answer
answers_to [] events e = []
answers_to (q ∷ qs) events e = query_answers q events e ++ answers_to qs events e
