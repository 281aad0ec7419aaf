-- The shape of a search tree: which pairs stand below which.
use Rattle.std.specs.Prelude.{◌≡◌, ℕ, ◌+◌, ◌-◌, ◌*◌, ◌/◌, ◌≤◌, ◌^◌, nat_lt, List, [], ◌∷◌, ◌++◌, length, if◌then◌else◌}
use Rattle.rg_agg.specs.Standing.{counts_sum}
use Rattle.rg_event.specs.declared.value.Value.{Value}

-- no pairs, or a pair between two sides
pub data Shape : Type 0 where
  Leaf : Shape
  Fork : Shape → Value × ℕ → Shape → Shape

-- its pairs in order: the left side's, its own, and the right side's
abbrev pub listed : Shape → List (Value × ℕ)
listed Leaf = []
listed (Fork left pair right) = listed left ++ pair ∷ listed right

-- how many nodes lie on the way down to the value at a place in rising order, counted from 0, with the one that has it
abbrev pub nodes_to : ℕ → Shape → ℕ
nodes_to place Leaf = 0
nodes_to place (Fork left pair right) =
    if nat_lt place (counts_sum (listed left)) then nodes_to place left + 1
    else if nat_lt (place - counts_sum (listed left)) pair.1 then 1
    else nodes_to (place - counts_sum (listed left) - pair.1) right + 1

-- the place in rising order, counted from 0, of the value at so many hundredths of so many
abbrev pub place_of : ℕ → ℕ → ℕ
place_of percent n = (percent * n + 99) / 100 - 1

-- a tick for each node on the way down to a place, of which there are so few that four to their power is at most three to it
-- times the number of pairs and one
pub record AreVisits (place : ℕ) (shape : Shape) (before after : ℕ) : Type 0 where
  pub each : after ≡ before + nodes_to place shape
  pub few : 4 ^ nodes_to place shape ≤ 3 ^ nodes_to place shape * (length (listed shape) + 1)
