-- The states of a least and of a greatest value.
use Rattle.std.specs.Prelude.{Bool, ℕ, List, [], Ok}
use Rattle.rg_agg.specs.Held.{Begins, Held, lowest, highest, number_value_at, size_behind_at}
use Rattle.rg_bytes.specs.Reading.{and_then}
use Rattle.rg_agg.specs.Unbeaten.{is_less, is_greater}
use Rattle.rg_event.specs.declared.value.Value.{Value}
use Rattle.rg_multiset.specs.Reading.{length_at, more_pairs_at}

-- a tag, the number of values and that of pairs, and the pairs: ints or ids, each of which beats the next one,
-- with their numbers, in sum at most that of the values
unfoldable pub extreme_at : (Value → Value → Bool) → ℕ → List ℕ → Begins (ℕ × List (Value × ℕ))
extreme_at beats tag bytes =
    and_then (size_behind_at tag bytes) (λ n behind.
    and_then (length_at behind) (λ count left.
    and_then (more_pairs_at number_value_at beats n [] count left) (λ pairs rest. Ok ((n, pairs), rest))))

-- 15 in hexadecimal, and values that rise
abbrev pub lowest_at : List ℕ → Begins Held
lowest_at bytes = and_then (extreme_at is_less 21 bytes) (λ read left. Ok (lowest read.0 read.1, left))

-- 16 in hexadecimal, and values that fall
abbrev pub highest_at : List ℕ → Begins Held
highest_at bytes = and_then (extreme_at is_greater 22 bytes) (λ read left. Ok (highest read.0 read.1, left))
