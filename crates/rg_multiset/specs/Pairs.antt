-- Values with how often each is there.
use Rattle.std.specs.Prelude.{◌≡◌, ℕ, ◌+◌, ◌<◌, ◌≤◌, ◌^◌, true, false, IsTrue, Bool, List, [], ◌∷◌, None, Some, ⊤, if◌then◌else◌}
use Rattle.std.specs.BTreeMap.{BTreeMap, IsOrdered, get}
use Rattle.std.specs.declared.cmp.Ordering.{Ordering}
use Rattle.rg_agg.specs.Standing.{counts_sum, count_in, pairs_kind}
use Rattle.rg_event.specs.Tagged.{value_kind}
use Rattle.rg_event.specs.declared.value.Kind.{Kind}
use Rattle.rg_event.specs.declared.value.Value.{Value}
use Rattle.rg_metric.specs.Same.{same_value}

-- the values that the keys of a map stand for, each with its count
abbrev pub pairs_by : {K : Type 0} → (K → Value) → List (K × ℕ) → List (Value × ℕ)
pairs_by value_of [] = []
pairs_by value_of (entry ∷ entries) = (value_of entry.0, entry.1) ∷ pairs_by value_of entries

-- how often a list of one value holds another: once or not at all
abbrev pub once : Value → Value → ℕ
once value other = if same_value value other then 1 else 0

-- this value is there once more, and each other one as often as before
pub record OneMore (value : Value) (fewer more : List (Value × ℕ)) : Type 0 where
  pub size : counts_sum more ≡ counts_sum fewer + 1
  pub counts : (v : Value) → count_in v more ≡ count_in v fewer + once v value

-- each value may be kept, is of this kind and is there at least once
abbrev pub AreOf : (Value → Type 0) → Kind → List (Value × ℕ) → Type 0
AreOf legal kind [] = ⊤
AreOf legal kind (pair ∷ pairs) = legal pair.0 × (value_kind pair.0 ≡ kind) × (0 < pair.1) × AreOf legal kind pairs

-- all of them are so, of the first one's kind
abbrev pub AreAlike : (Value → Type 0) → List (Value × ℕ) → Type 0
AreAlike legal pairs = (kind : Kind) → pairs_kind pairs ≡ Some kind → AreOf legal kind pairs

-- each value is below the next one
abbrev pub AreRising : (Value → Value → Bool) → List (Value × ℕ) → Type 0
AreRising below [] = ⊤
AreRising below (pair ∷ []) = ⊤
AreRising below (pair ∷ (next ∷ pairs)) = (below pair.0 next.0 ≡ true) × AreRising below (next ∷ pairs)

-- values of one kind that may be kept, rising, each there at least once, at most 2^40 in all
pub record IsTally (legal : Value → Type 0) (below : Value → Value → Bool) (pairs : List (Value × ℕ)) : Type 0 where
  pub few : counts_sum pairs ≤ 2 ^ 40
  pub alike : AreAlike legal pairs
  pub rising : AreRising below pairs

-- pairs of one kind, of so many values, at most 2^40
pub record IsSized (legal : Value → Type 0) (n : ℕ) (pairs : List (Value × ℕ)) : Type 0 where
  pub size : n ≡ counts_sum pairs
  pub few : n ≤ 2 ^ 40
  pub alike : AreAlike legal pairs

-- A key of a map is counted once more where it is there; where it isn't, the entries stay, and none of them has its value.
pub record Raises {K : Type 0} (cmp : K → K → Ordering) (value_of : K → Value) (legal : Value → Type 0) (key : K) (old new : BTreeMap K ℕ) (was_there : Bool) : Type 0 where
  pub there : IsTrue was_there → OneMore (value_of key) (pairs_by value_of old.entries) (pairs_by value_of new.entries)
  pub kept : (kind : Kind) → AreOf legal kind (pairs_by value_of old.entries) → AreOf legal kind (pairs_by value_of new.entries)
  pub none : was_there ≡ false → count_in (value_of key) (pairs_by value_of old.entries) ≡ 0
  pub absent : was_there ≡ false → get cmp new key ≡ None
  pub same : was_there ≡ false → new.entries ≡ old.entries
  pub ordered : IsOrdered cmp new
