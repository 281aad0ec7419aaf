-- What a state stands for, by what it keeps.
use Rattle.std.specs.Prelude.{◌≡◌, ℕ, ◌+◌, ◌-◌, ◌<◌, ⊤, ◌-ℤ◌, ◌*ℤ◌, true, List, [], ◌∷◌, length, count_by, Option, Some, None, if◌then◌else◌}
use Rattle.rg_event.specs.Tagged.{value_kind}
use Rattle.rg_event.specs.declared.value.Kind.{Kind}
use Rattle.rg_event.specs.declared.value.Value.{Value}
use Rattle.rg_keywords.specs.declared.func.Func.{Func}
use Rattle.rg_keywords.specs.declared.func.Func.TheVariants.{Count, Sum, Avg, SumSq, Min, Max, CountDistinct, First, Last, Median}
use Rattle.rg_metric.specs.Answers.{number_of}
use Rattle.rg_metric.specs.Same.{same_value}
use Rattle.rg_agg.specs.Held.{Held, counted, summed, averaged, squared, queued, ended, lowest, highest, varied, ranked, is_square_sum}
use Rattle.rg_agg.specs.Stands.{IsInt, IsTotal, IsSquareTotal, IsEnd}
use Rattle.rg_agg.specs.Unbeaten.{IsExtreme, is_less, is_greater}

-- the function whose state keeps this
abbrev pub func_of : Held → Func
func_of (counted n) = Count
func_of (summed n sum) = Sum
func_of (averaged n sum) = Avg
func_of (squared n sum) = SumSq
func_of (queued values) = First
func_of (ended n last) = Last
func_of (lowest n pairs) = Min
func_of (highest n pairs) = Max
func_of (varied pairs) = CountDistinct
func_of (ranked pairs) = Median

-- how often all values of some pairs are there
abbrev pub counts_sum : List (Value × ℕ) → ℕ
counts_sum [] = 0
counts_sum (pair ∷ pairs) = pair.1 + counts_sum pairs

-- how many values a state stands for that keeps this
abbrev pub size_in : Held → ℕ
size_in (counted n) = n
size_in (summed n sum) = n
size_in (averaged n sum) = n
size_in (squared n sum) = n
size_in (queued values) = length values
size_in (ended n last) = n
size_in (lowest n pairs) = n
size_in (highest n pairs) = n
size_in (varied pairs) = counts_sum pairs
size_in (ranked pairs) = counts_sum pairs

abbrev pub first_kind : List Value → Option Kind
first_kind [] = None
first_kind (value ∷ values) = Some (value_kind value)

abbrev pub seen_kind : Option Value → Option Kind
seen_kind None = None
seen_kind (Some value) = Some (value_kind value)

abbrev pub pairs_kind : List (Value × ℕ) → Option Kind
pairs_kind [] = None
pairs_kind (pair ∷ pairs) = Some (value_kind pair.0)

-- the kind of the values themselves that a state keeps; none where it keeps none of them
abbrev pub kind_in : Held → Option Kind
kind_in (counted n) = None
kind_in (summed n sum) = None
kind_in (averaged n sum) = None
kind_in (squared n sum) = None
kind_in (queued values) = first_kind values
kind_in (ended n last) = seen_kind last
kind_in (lowest n pairs) = pairs_kind pairs
kind_in (highest n pairs) = pairs_kind pairs
kind_in (varied pairs) = pairs_kind pairs
kind_in (ranked pairs) = pairs_kind pairs

-- the value is of that kind, if there is one
abbrev pub IsLike : Option Kind → Value → Type 0
IsLike None value = Unit {0}
IsLike (Some kind) value = value_kind value ≡ kind

-- how many places of a list hold this value
abbrev pub places : Value → List Value → ℕ
places value values = count_by (same_value value) values

-- how often a value is there by these pairs
abbrev pub count_in : Value → List (Value × ℕ) → ℕ
count_in value [] = 0
count_in value (pair ∷ pairs) = if same_value value pair.0 then pair.1 else count_in value pairs

-- each of these is there at least once
abbrev pub AreThere : List (Value × ℕ) → Type 0
AreThere [] = ⊤
AreThere (pair ∷ pairs) = (0 < pair.1) × AreThere pairs

-- the pairs are the values of the list, each with the number of its places
abbrev pub AreCounts : List (Value × ℕ) → List Value → Type 0
AreCounts pairs values = (counts_sum pairs ≡ length values) × ((value : Value) → count_in value pairs ≡ places value values) × AreThere pairs

-- a state that keeps this stands for these values
abbrev pub Stands : Held → List Value → Type 0
Stands (counted n) values = n ≡ length values
Stands (summed n sum) values = IsTotal n sum values
Stands (averaged n sum) values = IsTotal n sum values
Stands (squared n sum) values = IsSquareTotal n sum values
Stands (queued kept) values = kept ≡ values
Stands (ended n last) values = IsEnd n last values
Stands (lowest n pairs) values = IsExtreme is_less n pairs values
Stands (highest n pairs) values = IsExtreme is_greater n pairs values
Stands (varied pairs) values = AreCounts pairs values
Stands (ranked pairs) values = AreCounts pairs values

-- a state that keeps this stands for values with this one first. Of a sum of squares only so much is said: the value is an int, and what
-- is left without its square lies within what one square fewer can sum to
abbrev pub MayBeginWith : Held → Value → Type 0
MayBeginWith (squared n sum) value = IsInt value × (0 < n) × (is_square_sum (n - 1) (sum -ℤ (number_of value *ℤ number_of value)) ≡ true)
MayBeginWith held value = (values : List Value) × Stands held (value ∷ values)
