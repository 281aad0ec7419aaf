-- The definitions on worked rows.
use Rattle.std.proofs.Common.{◌≡◌, ℕ, pos, negsuc, List, [], ◌∷◌, ◌++◌, Some, None, refl}
use Rattle.std.specs.Prelude.{codes}
use Rattle.rg_event.specs.declared.event.Event.{Event}
use Rattle.rg_event.specs.declared.value.Value.TheVariants.{Int, Id, Text}
use Rattle.rg_keywords.specs.declared.func.Func.TheVariants.{Count, Avg, SumSq, Min, Max, CountDistinct}
use Rattle.rg_keywords.specs.declared.op.Op.TheVariants.{Ge}
use Rattle.rg_metric.specs.declared.answer.Answer.{Answer}
use Rattle.rg_metric.specs.declared.answer.Answer.TheVariants.{Number, Ratio, Dash}
use Rattle.rg_metric.specs.declared.query.Window.{Window}
use Rattle.rg_metric.specs.Answers.{answer_of}
use Rattle.rg_metric.specs.Conditions.{compared}
use Rattle.rg_metric.specs.Queries.{Asked}
use Rattle.rg_metric.specs.Replies.{answers_to}

-- the replies to these events, each over those up to it; `past` are those before them
abbrev replies : List Asked → List Event → List Event → List (List Answer)
replies queries past [] = []
replies queries past (x ∷ xs) = answers_to queries (past ++ x ∷ []) x ∷ replies queries (past ++ x ∷ []) xs

abbrev bare : ℕ → Event
bare time = record { offset = 0; time = time; values = [] }

abbrev sliding : ℕ → ℕ → Window
sliding length delay = record { delay = delay; length = Some length }

-- `count(*)` without a condition or a key
abbrev counting : Window → Asked
counting window = record { aggs = record { func = Count; field = 0 } ∷ []; filter = None; group = []; window = window }

delayed_by_five : replies (counting (sliding 10 5) ∷ []) [] (bare 0 ∷ (bare 5 ∷ (bare 15 ∷ []))) ≡ (Number (pos 0) ∷ []) ∷ ((Number (pos 1) ∷ []) ∷ ((Number (pos 1) ∷ []) ∷ []))
delayed_by_five = refl

in_and_out_between_events : replies (counting (sliding 1 5) ∷ []) [] (bare 0 ∷ (bare 100 ∷ [])) ≡ (Number (pos 0) ∷ []) ∷ ((Number (pos 0) ∷ []) ∷ [])
in_and_out_between_events = refl

abbrev paid : ℕ → ℕ → Event
paid time amount = record { offset = 0; time = time; values = Int (pos amount) ∷ [] }

-- the least and the mean amount of the payments of at least 100
abbrev at_least_100 : Asked
at_least_100 = record { aggs = record { func = Min; field = 1 } ∷ (record { func = Avg; field = 1 } ∷ []); filter = Some (compared 1 Ge (Int (pos 100))); group = []; window = sliding 10 0 }

least_and_mean : replies (at_least_100 ∷ []) [] (paid 0 50 ∷ (paid 1 100 ∷ (paid 2 200 ∷ []))) ≡ (Dash ∷ (Dash ∷ [])) ∷ ((Number (pos 100) ∷ (Ratio (pos 100) 1 ∷ [])) ∷ ((Number (pos 100) ∷ (Ratio (pos 300) 2 ∷ [])) ∷ []))
least_and_mean = refl

abbrev bought : ℕ → List ℕ → Event
bought time merchant = record { offset = 0; time = time; values = Text (codes "c1") ∷ (Text merchant ∷ []) }

abbrev merchants : Asked
merchants = record { aggs = record { func = CountDistinct; field = 2 } ∷ []; filter = None; group = 1 ∷ []; window = sliding 10 0 }

different_merchants : replies (merchants ∷ []) [] (bought 0 (codes "m1") ∷ (bought 5 (codes "m2") ∷ (bought 9 (codes "m1") ∷ (bought 10 (codes "m2") ∷ (bought 19 (codes "m2") ∷ []))))) ≡ (Number (pos 1) ∷ []) ∷ ((Number (pos 2) ∷ []) ∷ ((Number (pos 2) ∷ []) ∷ ((Number (pos 2) ∷ []) ∷ ((Number (pos 1) ∷ []) ∷ []))))
different_merchants = refl

greatest_id : answer_of Max (Id 18446744073709551615 ∷ []) ≡ Number (pos 18446744073709551615)
greatest_id = refl

square_of_the_least_int : answer_of SumSq (Int (negsuc 999999999999) ∷ []) ≡ Number (pos 1000000000000000000000000)
square_of_the_least_int = refl
