-- What a deque of pairs keeps, and what it stands for.
use Rattle.std.specs.Prelude.{ℕ, List}
use Rattle.rg_agg.specs.Numbers.{value_of}
use Rattle.rg_agg.specs.Unbeaten.{IsExtreme}
use Rattle.rg_agg.specs.declared.number.Number.{Number}
use Rattle.rg_event.specs.declared.value.Value.{Value}
use Rattle.rg_multiset.specs.Pairs.{pairs_by}
use Rattle.rg_extreme.specs.Deques.{IsDeque}
use Rattle.rg_extreme.specs.Sides.{beats}
use Rattle.rg_extreme.specs.declared.side.Side.{Side}
use Rattle.rg_extreme.specs.declared.deque.Deque.{Deque}

-- the pairs of a number and a count as those of a value and a count
abbrev pub as_pairs : List (Number × ℕ) → List (Value × ℕ)
as_pairs pairs = pairs_by value_of pairs

abbrev pub pairs_in : Deque → List (Value × ℕ)
pairs_in deque = as_pairs deque.pairs.items

abbrev pub IsSound : Side → Deque → Type 0
IsSound side deque = IsDeque (beats side) deque.size deque.kept (pairs_in deque)

abbrev pub StandsIn : Side → Deque → List Value → Type 0
StandsIn side deque values = IsExtreme (beats side) deque.size (pairs_in deque) values

-- what a deque keeps: how many values there are, and the pairs
abbrev pub kept_by : Deque → ℕ × List (Value × ℕ)
kept_by deque = (deque.size, pairs_in deque)
