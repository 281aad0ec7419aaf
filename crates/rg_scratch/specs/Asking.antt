-- What is asked of events, from scratch.
use Rattle.std.specs.Prelude.{ℕ, zero, suc, Bool, true, false, List, [], ◌∷◌, Option, Some, None}
use Rattle.std.specs.List.{filter}
use Rattle.rg_event.specs.declared.event.Event.{Event}
use Rattle.rg_event.specs.declared.value.Value.{Value}
use Rattle.rg_event.specs.declared.value.Value.TheVariants.{Flag}
use Rattle.rg_metric.specs.Conditions.{value_in}
use Rattle.rg_metric.specs.Queries.{Asked, filter_test}
use Rattle.rg_metric.specs.Replies.{counts_for, values_in}
use Rattle.rg_metric.specs.Same.{same_value}
use Rattle.rg_scratch.specs.declared.asking.Asking.{Asking}

-- a query of one aggregator
abbrev pub query_of : Asking → Asked
query_of a = record { aggs = a.agg ∷ []; filter = filter_test a.condition.now; group = a.columns.now; window = a.window }

-- the values of its column in the events that count for the event e
abbrev pub counted : Asking → Event → List Event → List Value
counted a e events = values_in a.agg.field (filter (counts_for (query_of a) e) events)

-- what an aggregator of a column is handed of an event; column 0 has a flag for each event
abbrev pub handed : ℕ → Event → Option Value
handed zero x = Some (Flag true)
handed (suc n) x = value_in (suc n) x.values

abbrev pub value_if : Bool → Option Value → Option Value
value_if true value = value
value_if false value = None

-- what it is handed of the event x, where that counts for e
abbrev pub value_counted : Asking → Event → Event → Option Value
value_counted a e x = value_if (counts_for (query_of a) e x) (handed a.agg.field x)

-- there are two values and they are the same, or there is none
abbrev pub alike : Option Value → Option Value → Bool
alike (Some x) (Some y) = same_value x y
alike (Some x) None = false
alike None (Some y) = false
alike None None = true

abbrev pub listed : Option Value → List Value
listed None = []
listed (Some v) = v ∷ []
