-- The states of a distinct count.
use Rattle.std.specs.Prelude.{ℕ, List, Ok}
use Rattle.std.proofs.Props.{props}
use mathlib.Core.HLevel.{Unit-prop}
use Rattle.rg_agg.specs.Held.{Begins, Held, varied}
use Rattle.rg_bytes.specs.Reading.{and_then}
use Rattle.rg_event.specs.Tagged.{IsLegal}
use Rattle.rg_event.specs.declared.value.Value.{Value}
use Rattle.rg_event.specs.declared.value.Value.TheVariants.{Int, Id, Text, Flag}
use Rattle.rg_multiset.specs.Pairs.{IsTally}
use Rattle.rg_multiset.specs.Props.{IsTally-prop}
use Rattle.rg_multiset.specs.Reading.{any_value_at, is_before, pairs_at}

-- 07, and values of one kind that rise by their tagged bytes, with their counts
abbrev pub varied_at : List ℕ → Begins Held
varied_at bytes = and_then (pairs_at any_value_at is_before 7 bytes) (λ pairs left. Ok (varied pairs, left))

IsLegal-prop : (value : Value) → IsProp (IsLegal value)
IsLegal-prop (Int number) = Prim.hlevel props
IsLegal-prop (Id number) = Prim.hlevel props
IsLegal-prop (Text text) = Prim.hlevel props
IsLegal-prop (Flag flag) = Unit-prop

-- that pairs are a tally of legal values has at most one proof
pub IsTally-values : (pairs : List (Value × ℕ)) → IsProp (IsTally IsLegal is_before pairs)
IsTally-values pairs = IsTally-prop IsLegal IsLegal-prop is_before pairs
