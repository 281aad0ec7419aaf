-- The reading of values with their counts.
use Rattle.std.specs.Prelude.{ℕ, ◌+◌, ◌==◌, nat_le, ◌&&◌, Bool, true, List, [], ◌∷◌, Option, Some, None, Ok}
use Rattle.std.specs.Cmp.Lexicographic.{slice_cmp}
use Rattle.std.specs.Ordering.{is_lt, nat_cmp}
use Rattle.rg_agg.specs.Held.{Begins, as_part, tag_at}
use Rattle.rg_bytes.specs.Reading.{and_then, tested, u64_at, more_at}
use Rattle.rg_agg.specs.Standing.{counts_sum}
use Rattle.rg_agg.specs.declared.fault.StateFault.TheVariants.{Short, Unfit}
use Rattle.rg_event.specs.Tagged.{tag_of, tagged_at, tagged_bytes, value_kind}
use Rattle.rg_event.specs.declared.value.Value.{Value}

-- the first value's tagged bytes come before those of the other
abbrev pub is_before : Value → Value → Bool
is_before value other = is_lt (slice_cmp nat_cmp (tagged_bytes value) (tagged_bytes other))

-- a value of any kind, with its kind's tag
abbrev pub any_value_at : List ℕ → Begins Value
any_value_at bytes = as_part (tagged_at bytes)

-- the last one of these values, if there is one
abbrev pub last_kept : List (Value × ℕ) → Option Value
last_kept [] = None
last_kept (pair ∷ []) = Some pair.0
last_kept (pair ∷ (next ∷ pairs)) = last_kept (next ∷ pairs)

-- two values are of one kind
abbrev pub same_kind : Value → Value → Bool
same_kind value other = tag_of (value_kind value) == tag_of (value_kind other)

-- a value may stand behind this last one, if there is one: it is of its kind and above it
abbrev pub comes_behind : (Value → Value → Bool) → Option Value → Value → Bool
comes_behind below None value = true
comes_behind below (Some last) value = same_kind last value && below last value

-- at least one, and with those so far at most so many
abbrev pub is_count : ℕ → List (Value × ℕ) → ℕ → Bool
is_count most so_far count = nat_le 1 count && nat_le (counts_sum so_far + count) most

-- a value that may stand behind those so far
unfoldable pub behind_at : (List ℕ → Begins Value) → (Value → Value → Bool) → List (Value × ℕ) → List ℕ → Begins Value
behind_at value_at below so_far bytes = and_then (value_at bytes) (λ value left. tested Unfit (comes_behind below (last_kept so_far) value) value left)

-- how often it is there, in 8 bytes
unfoldable pub count_at : ℕ → List (Value × ℕ) → List ℕ → Begins ℕ
count_at most so_far bytes = and_then (u64_at Short bytes) (λ count left. tested Unfit (is_count most so_far count) count left)

-- one pair more
unfoldable pub pair_at : (List ℕ → Begins Value) → (Value → Value → Bool) → ℕ → List (Value × ℕ) → List ℕ → Begins (Value × ℕ)
pair_at value_at below most so_far bytes =
    and_then (behind_at value_at below so_far bytes) (λ value behind.
    and_then (count_at most so_far behind) (λ count left. Ok ((value, count), left)))

-- so many pairs more
abbrev pub more_pairs_at : (List ℕ → Begins Value) → (Value → Value → Bool) → ℕ → List (Value × ℕ) → ℕ → List ℕ → Begins (List (Value × ℕ))
more_pairs_at value_at below most so_far n bytes = more_at (pair_at value_at below most) so_far n bytes

-- the number of pairs, in 8 bytes: at least 1
unfoldable pub length_at : List ℕ → Begins ℕ
length_at bytes = and_then (u64_at Short bytes) (λ n left. tested Unfit (nat_le 1 n) n left)

-- this tag, and the number of pairs
unfoldable pub length_behind_at : ℕ → List ℕ → Begins ℕ
length_behind_at tag bytes = and_then (tag_at tag bytes) (λ byte behind. length_at behind)

-- a tag, the number of pairs, and the pairs, of at most 2^40 values
unfoldable pub pairs_at : (List ℕ → Begins Value) → (Value → Value → Bool) → ℕ → List ℕ → Begins (List (Value × ℕ))
pairs_at value_at below tag bytes = and_then (length_behind_at tag bytes) (λ n behind. more_pairs_at value_at below 1099511627776 [] n behind)
