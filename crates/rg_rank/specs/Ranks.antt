-- The states of ranks.
use Rattle.std.specs.Prelude.{ℕ, List, [], Ok}
use Rattle.std.proofs.Props.{props}
use Rattle.rg_agg.specs.Held.{Begins, Held, number_value_at, ranked}
use Rattle.rg_agg.specs.Stands.{IsNumber}
use Rattle.rg_agg.specs.Unbeaten.{is_less}
use Rattle.rg_bytes.specs.Reading.{and_then}
use Rattle.rg_event.specs.declared.value.Value.{Value}
use Rattle.rg_multiset.specs.Pairs.{IsTally}
use Rattle.rg_multiset.specs.Props.{IsTally-prop}
use Rattle.rg_multiset.specs.Reading.{pairs_at}

-- 17 in hexadecimal, and ints or ids that rise as numbers, with their counts
abbrev pub ranked_at : List ℕ → Begins Held
ranked_at bytes = and_then (pairs_at number_value_at is_less 23 bytes) (λ pairs left. Ok (ranked pairs, left))

-- the pairs that a state of ranks keeps
abbrev pub ranked_pairs : Held → List (Value × ℕ)
ranked_pairs (ranked pairs) = pairs
ranked_pairs held = []

IsNumber-prop : (value : Value) → IsProp (IsNumber value)
IsNumber-prop value = Prim.hlevel props

-- that pairs are a tally of numbers has at most one proof
pub IsTally-numbers : (pairs : List (Value × ℕ)) → IsProp (IsTally IsNumber is_less pairs)
IsTally-numbers pairs = IsTally-prop IsNumber IsNumber-prop is_less pairs
