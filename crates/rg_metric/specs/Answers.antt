-- What an aggregator answers over a list of values.
use Rattle.std.specs.Prelude.{ℕ, ◌+◌, ◌-◌, ◌*◌, ◌/◌, nat_le, ◌&&◌, ℤ, pos, ◌+ℤ◌, ◌*ℤ◌, int_lt, List, [], ◌∷◌, length, map, if◌then◌else◌}
use Rattle.std.specs.List.{list_any}
use Rattle.rg_event.specs.declared.value.Value.{Value}
use Rattle.rg_event.specs.declared.value.Value.TheVariants.{Int, Id, Text, Flag}
use Rattle.rg_keywords.specs.declared.func.Func.{Func}
use Rattle.rg_keywords.specs.declared.func.Func.TheVariants.{Count, Sum, Avg, SumSq, Min, Max, CountDistinct, First, Last, Median, Pct}
use Rattle.rg_metric.specs.declared.answer.Answer.{Answer}
use Rattle.rg_metric.specs.declared.answer.Answer.TheVariants.{Number, Ratio, Dash}
use Rattle.rg_metric.specs.Same.{same_value}

-- the number that a value is: an int's or an id's (no sum or extreme is asked of a text or a flag)
abbrev pub number_of : Value → ℤ
number_of (Int n) = n
number_of (Id n) = pos n
number_of (Text text) = pos 0
number_of (Flag flag) = pos 0

abbrev pub numbers : List Value → List ℤ
numbers values = map number_of values

abbrev pub total : List ℤ → ℤ
total [] = pos 0
total (n ∷ ns) = n +ℤ total ns

abbrev pub total_of_squares : List ℤ → ℤ
total_of_squares [] = pos 0
total_of_squares (n ∷ ns) = (n *ℤ n) +ℤ total_of_squares ns

-- the least, and the greatest, of a number and more of them
abbrev pub least : ℤ → List ℤ → ℤ
least n [] = n
least n (m ∷ ms) = least (if int_lt m n then m else n) ms

abbrev pub greatest : ℤ → List ℤ → ℤ
greatest n [] = n
greatest n (m ∷ ms) = greatest (if int_lt n m then m else n) ms

-- how many of the values stand at no earlier place, behind those that came before
abbrev pub distinct_after : List Value → List Value → ℕ
distinct_after earlier [] = 0
distinct_after earlier (v ∷ vs) = (if list_any (same_value v) earlier then 0 else 1) + distinct_after (v ∷ earlier) vs

abbrev pub last_of : ℤ → List ℤ → ℤ
last_of n [] = n
last_of n (m ∷ ms) = last_of m ms

-- a number in front of the first one that is not less
abbrev pub put_in : ℤ → List ℤ → List ℤ
put_in n [] = n ∷ []
put_in n (m ∷ ms) = if int_lt m n then m ∷ put_in n ms else n ∷ (m ∷ ms)

-- the numbers in rising order
abbrev pub in_order : List ℤ → List ℤ
in_order [] = []
in_order (n ∷ ns) = put_in n (in_order ns)

-- the number at a place, counted from 1; none without one
abbrev pub number_at : ℕ → List ℤ → Answer
number_at place [] = Dash
number_at place (n ∷ ns) = if nat_le place 1 then Number n else number_at (place - 1) ns

-- the number at so many hundredths of their rising order, from 1 to 100: at that part of their number, rounded up
abbrev pub percentile : ℕ → List ℤ → Answer
percentile percent ns = if nat_le 1 percent && nat_le percent 100 then number_at ((percent * length ns + 99) / 100) (in_order ns) else Dash

-- the answer of the aggregators that have one over values alone
abbrev pub answer_over : Func → ℤ → List ℤ → Answer
answer_over Avg n ns = Ratio (total (n ∷ ns)) (length (n ∷ ns))
answer_over Min n ns = Number (least n ns)
answer_over Max n ns = Number (greatest n ns)
answer_over First n ns = Number n
answer_over Last n ns = Number (last_of n ns)
answer_over func n ns = Dash

-- without a value they answer none
abbrev pub answer_over_any : Func → List ℤ → Answer
answer_over_any func [] = Dash
answer_over_any func (n ∷ ns) = answer_over func n ns

abbrev pub answer_of : Func → List Value → Answer
answer_of Count values = Number (pos (length values))
answer_of Sum values = Number (total (numbers values))
answer_of SumSq values = Number (total_of_squares (numbers values))
answer_of CountDistinct values = Number (pos (distinct_after [] values))
answer_of Median values = percentile 50 (numbers values)
answer_of (Pct percent) values = percentile percent (numbers values)
answer_of func values = answer_over_any func (numbers values)
