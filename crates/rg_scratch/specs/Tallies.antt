-- What a tally of values says.
use Rattle.std.specs.Prelude.{◌≡◌, ℕ, ℤ, List, [], ◌∷◌, length, Option, Some, None, ⊤, int_lt, if◌then◌else◌}
use Rattle.std.specs.Int.{w128, int_wrap}
use Rattle.rg_event.specs.declared.value.Value.{Value}
use Rattle.rg_keywords.specs.declared.func.Func.{Func}
use Rattle.rg_keywords.specs.declared.func.Func.TheVariants.{CountDistinct, SumSq, Median, Pct}
use Rattle.rg_metric.specs.Answers.{numbers, total, total_of_squares, least, greatest, last_of}
use Rattle.rg_scratch.specs.declared.tally.Ends.{Ends}

-- of these numbers
pub record AreEnds (e : Ends) (n : ℤ) (ns : List ℤ) : Type 0 where
  pub least_is : e.least ≡ least n ns
  pub greatest_is : e.greatest ≡ greatest n ns
  pub first_is : e.first ≡ n
  pub last_is : e.last ≡ last_of n ns

-- of some numbers, where there are any
abbrev pub HasEnds : Option Ends → List ℤ → Type 0
HasEnds None [] = ⊤
HasEnds None (n ∷ ns) = ⊥
HasEnds (Some e) [] = ⊥
HasEnds (Some e) (n ∷ ns) = AreEnds e n ns

-- the ends with one number more, behind the others
abbrev pub ends_with : Option Ends → ℤ → Ends
ends_with None m = record { least = m; greatest = m; first = m; last = m }
ends_with (Some e) m = record { least = if int_lt m e.least then m else e.least; greatest = if int_lt e.greatest m then m else e.greatest; first = e.first; last = m }

-- how many values these are, their sum, the sum of their squares up to multiples of 2^128, and their ends
pub record IsTally (count : ℕ) (sum squares : ℤ) (ends : Option Ends) (values : List Value) : Type 0 where
  pub counted : count ≡ length values
  pub summed : sum ≡ total (numbers values)
  pub squared : squares ≡ int_wrap w128 (total_of_squares (numbers values))
  pub ended : HasEnds ends (numbers values)

-- a sum of squares that is asked of these values is below 2^127
abbrev pub IsExact : Func → List Value → Type 0
IsExact func values = func ≡ SumSq → int_wrap w128 (total_of_squares (numbers values)) ≡ total_of_squares (numbers values)

-- a function of sums or of ends
abbrev pub IsTallied : Func → Type 0
IsTallied CountDistinct = ⊥
IsTallied Median = ⊥
IsTallied (Pct percent) = ⊥
IsTallied func = ⊤
