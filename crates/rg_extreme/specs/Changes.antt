-- What a call that changes a deque of pairs does, by its answer.
use Rattle.std.specs.Prelude.{◌≡◌, ◌⊎◌, ℕ, ◌+◌, ◌<◌, ◌≤◌, ◌^◌, true, false, List, ◌∷◌, [], ◌++◌, length, Result, OnOk, OnErr}
use Rattle.rg_agg.specs.Held.{Held}
use Rattle.rg_agg.specs.Standing.{IsLike, Stands, counts_sum, kind_in, pairs_kind, size_in}
use Rattle.rg_agg.specs.Stands.{IsNumber}
use Rattle.rg_agg.specs.declared.fault.Unfit.{Unfit}
use Rattle.rg_agg.specs.declared.number.Number.{Number}
use Rattle.rg_bytes.specs.declared.memory.Memory.{Memory}
use Rattle.rg_event.specs.declared.value.Kind.{Kind}
use Rattle.rg_event.specs.declared.value.Value.{Value}
use Rattle.rg_multiset.specs.Pairs.{AreOf, IsTally}
use Rattle.rg_multiset.specs.Reading.{comes_behind, last_kept}
use Rattle.rg_extreme.specs.Deques.{begun, first_value, is_beaten, with_value, without_first}
use Rattle.rg_extreme.specs.Sides.{beats, some_can_beat}
use Rattle.rg_extreme.specs.States.{IsSound, StandsIn, as_pairs, pairs_in}
use Rattle.rg_extreme.specs.declared.deque.Deque.{Deque}
use Rattle.rg_extreme.specs.declared.side.Side.{Side}

-- a value may come to the values of a deque
pub record MayTake (side : Side) (deque : Deque) (value : Value) : Type 0 where
  pub sound : IsSound side deque
  pub room : deque.size < 2 ^ 40
  pub takes : IsNumber value
  pub like : IsLike (pairs_kind (pairs_in deque)) value

-- A value comes to the back, with a tick for each pair that it beats; where memory runs out the deque keeps the same, and there is no tick.
pub record Gains (side : Side) (value : Value) (old new : Deque) (steps steps' : ℕ) (result : Result Unit Memory) : Type 0 where
  pub sound : IsSound side new
  pub pairs : OnOk result (pairs_in new ≡ with_value (beats side) value (pairs_in old))
  pub size : OnOk result (new.size ≡ old.size + 1)
  pub ticks : OnOk result (steps' + length (pairs_in new) ≡ steps + length (pairs_in old) + begun (pairs_in new))
  pub err : OnErr result (pairs_in new ≡ pairs_in old)
  pub err_size : OnErr result (new.size ≡ old.size)
  pub no_tick : OnErr result (steps' ≡ steps)

-- The first value goes; it is refused where the deque stands for no values that begin with it, and then the deque stays.
pub record Loses (side : Side) (value : Value) (old new : Deque) (result : Result Unit Unfit) : Type 0 where
  pub sound : IsSound side new
  pub ok : OnOk result ((values : List Value) → StandsIn side old (value ∷ values) → StandsIn side new values)
  pub size : OnOk result (old.size ≡ new.size + 1)
  pub begins : OnOk result ((values : List Value) × StandsIn side old (value ∷ values))
  pub pairs : length (pairs_in new) ≤ length (pairs_in old)
  pub unfit : OnErr result ((values : List Value) → StandsIn side old (value ∷ values) → ⊥)
  pub err : OnErr result (new ≡ old)

-- A removal of the first pair's value takes the first value away. It is refused where there are more values than in the
-- pairs, and none of those left can beat them.
pub record LosesFirst (side : Side) (old new : Deque) (result : Result Unit Unfit) : Type 0 where
  pub sound : IsSound side new
  pub pairs : OnOk result (pairs_in new ≡ without_first (pairs_in old))
  pub size : OnOk result (old.size ≡ new.size + 1)
  pub may : OnOk result ((old.kept ≡ old.size) ⊎ (some_can_beat side (first_value (without_first (pairs_in old))) ≡ true))
  pub more : OnErr result (old.kept < old.size)
  pub none : OnErr result (some_can_beat side (first_value (without_first (pairs_in old))) ≡ false)
  pub err : OnErr result (new ≡ old)

-- A removal of another value takes the first value away. It is refused where all values are in the pairs, or the first
-- pair's doesn't beat it.
pub record LosesBeaten (side : Side) (first value : Value) (old new : Deque) (result : Result Unit Unfit) : Type 0 where
  pub sound : IsSound side new
  pub pairs : OnOk result (pairs_in new ≡ pairs_in old)
  pub size : OnOk result (old.size ≡ new.size + 1)
  pub beaten : OnOk result (beats side first value ≡ true)
  pub more : OnOk result (old.kept < old.size)
  pub unfit : OnErr result ((old.kept ≡ old.size) ⊎ (beats side first value ≡ false))
  pub err : OnErr result (new ≡ old)

-- The pairs that a value beats are gone from the back, with a tick each and so many values in all; the others stay, and so does the room.
pub record DropsBeaten (side : Side) (value : Value) (old new : List (Number × ℕ)) (room room' steps steps' gone : ℕ) : Type 0 where
  pub tally : IsTally IsNumber (beats side) (as_pairs new)
  pub kept : (kind : Kind) → AreOf IsNumber kind (as_pairs old) → AreOf IsNumber kind (as_pairs new)
  pub same : with_value (beats side) value (as_pairs new) ≡ with_value (beats side) value (as_pairs old)
  pub stays : is_beaten (beats side) (last_kept (as_pairs new)) value ≡ false
  pub ticks : steps' + length new ≡ steps + length old
  pub sum : gone + counts_sum (as_pairs new) ≡ counts_sum (as_pairs old)
  pub fewer : length new ≤ length old
  pub whole : length new ≡ length old → new ≡ old
  pub capacity : room' ≡ room

-- a deque of so many pairs and values was read
pub record IsMade (side : Side) (n pairs : ℕ) (deque : Deque) : Type 0 where
  pub size : deque.size ≡ n
  pub count : length (pairs_in deque) ≡ pairs
  pub sound : IsSound side deque

-- By what a state keeps: a value may come to it, and did, or memory ran out and it keeps the same.

pub record MayAdd (held : Held) (value : Value) : Type 0 where
  pub room : size_in held < 2 ^ 40
  pub takes : IsNumber value
  pub like : IsLike (kind_in held) value

pub record IsAdded (value : Value) (old new : Held) (result : Result Unit Memory) : Type 0 where
  pub ok : OnOk result ((values : List Value) → Stands old values → Stands new (values ++ value ∷ []))
  pub size : OnOk result (size_in new ≡ size_in old + 1)
  pub err : OnErr result (new ≡ old)
