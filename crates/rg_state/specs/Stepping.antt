-- What a call that changes a state, a row or the rows of a key does, by its answer.
use Rattle.std.specs.Prelude.{◌≡◌, ℕ, ◌+◌, ◌<◌, ◌≤◌, ◌^◌, Bool, true, false, List, ◌∷◌, ◌++◌, [], length, take, Option, Some, Result, IfErr, OnOk, OnErr, ⊤}
use Rattle.std.specs.List.{All}
use Rattle.rg_agg.specs.Held.{Held}
use Rattle.rg_agg.specs.Sharing.{kept_as}
use Rattle.rg_agg.specs.Standing.{Stands, MayBeginWith, func_of, size_in, kind_in, IsLike}
use Rattle.rg_bytes.specs.declared.memory.Memory.{Memory as NoMemory}
use Rattle.rg_event.specs.declared.value.Value.{Value}
use Rattle.rg_keywords.specs.declared.func.Func.{Func}
use Rattle.rg_state.specs.Clean.{IsClean}
use Rattle.rg_state.specs.Kepts.{seen, seen_at, settled, are_sound, OthersKept, IsKeptSame, IsMarked, Stepped}
use Rattle.rg_state.specs.Rows.{AreLike, Suits, IsRefused, Unfit as IsUnfit}
use Rattle.rg_state.specs.declared.key_rows.Kept.{Kept}
use Rattle.rg_state.specs.declared.one.Refusal.{Refusal}
use Rattle.rg_state.specs.declared.one.Refusal.TheVariants.{Memory, Unfit}
use Rattle.rg_state.specs.declared.table.Change.{Change}
use Rattle.rg_state.specs.declared.table.Change.TheVariants.{Add, Remove}

-- States

-- Whether there is room for a value more in what a state keeps: there are fewer than 2^40, and it is of their kind. A state that stands for so many
-- values, all of its kind, has room.
pub record HasRoom (value : Value) (held : Held) (room : Bool) : Type 0 where
  pub few : room ≡ true → size_in held < 2 ^ 40
  pub like : room ≡ true → IsLike (kind_in held) value
  pub unfit : room ≡ false → (values : List Value) → Stands held values → length values < 2 ^ 40 → AreLike value values → ⊥
  pub causes : room ≡ false → size_in held < 2 ^ 40 → IsLike (kind_in held) value → ⊥

-- A value comes to the back of what a state keeps, or for want of memory the state keeps the same.
pub record Adds (value : Value) (old new : Held) (result : Result Unit NoMemory) : Type 0 where
  pub ok : OnOk result ((values : List Value) → Stands old values → Stands new (values ++ value ∷ []))
  pub size : OnOk result (size_in new ≡ size_in old + 1)
  pub err : OnErr result (new ≡ old)

-- The first value goes. It is refused by a state that stands for no list that begins with it, and then the state keeps the same.
pub record Drops (value : Value) (old new : Held) (result : Result Unit Refusal) : Type 0 where
  pub ok : OnOk result ((values : List Value) → Stands old (value ∷ values) → Stands new values)
  pub size : OnOk result (size_in old ≡ size_in new + 1)
  pub begins : OnOk result (MayBeginWith old value)
  pub unfit : OnErr result ((values : List Value) → Stands old (value ∷ values) → ⊥)
  pub err : OnErr result (new ≡ old)

-- Rows

-- why a change of a row is refused: a value more for want of memory, or since the row is unfit; one fewer for that alone
abbrev pub Refuses : Func → Change → Value → Option Held → Refusal → Type 0
Refuses func Add value old Memory = ⊤
Refuses func Add value old Unfit = IsUnfit func Add value old × IsRefused func Add value old
Refuses func Remove value old refusal = IsUnfit func Remove value old

-- why no value comes to a state that serves the function: for want of memory, or since it stands for no list that has room for the value
abbrev pub LacksRoom : Func → Value → Held → Refusal → Type 0
LacksRoom func value old Memory = ⊤
LacksRoom func value old Unfit = func_of old ≡ kept_as func → (values : List Value) → Stands old values → length values < 2 ^ 40 → AreLike value values → ⊥

-- A value comes to the back of what a state of the function keeps that it suits, or it is refused for its cause, and the state keeps the same.
pub record Comes (func : Func) (value : Value) (old new : Held) (result : Result Unit Refusal) : Type 0 where
  pub suits : OnOk result (Suits func Add value (Some old))
  pub own : OnOk result (func_of new ≡ kept_as func)
  pub ok : OnOk result ((values : List Value) → Stands old values → Stands new (values ++ value ∷ []))
  pub size : OnOk result (size_in new ≡ size_in old + 1)
  pub refuses : IfErr result (Refuses func Add value (Some old))
  pub room : IfErr result (LacksRoom func value old)
  pub err : OnErr result (new ≡ old)

-- What a change of a row does: it is a step, or it is refused for its cause, and the row stays.
pub record KeptStep (func : Func) (change : Change) (value : Value) (old new : Kept) (result : Result Unit Refusal) : Type 0 where
  pub node : new.node ≡ old.node
  pub stepped : OnOk result (Stepped func change value (seen old) (seen new))
  pub err : OnErr result (seen new ≡ seen old)
  pub refuses : IfErr result (Refuses func change value (seen old).held)

-- What a change does to the row of a node among those of a key: the others stay.
pub record RowsStep (func : Func) (change : Change) (value : Value) (node : ℕ) (old new : List Kept) (result : Result Unit Refusal) : Type 0 where
  pub stepped : OnOk result (Stepped func change value (seen_at old node) (seen_at new node))
  pub others : OthersKept node old new
  pub err : OnErr result (IsKeptSame old new)
  pub refuses : IfErr result (Refuses func change value (seen_at old node).held)

-- A row that wasn't there is put among those of a key, or none for want of memory; the others stay.
pub record RowsGet (held : Held) (node : ℕ) (old new : List Kept) (result : Result Unit NoMemory) : Type 0 where
  pub row : OnOk result ((seen_at new node).held ≡ Some held)
  pub marks : OnOk result (IsMarked (seen_at old node) (seen_at new node))
  pub others : OthersKept node old new
  pub err : OnErr result (IsKeptSame old new)

-- What is remembered of the row in a place is forgotten, and a row that is gone is dropped: of those before the next place then nothing is remembered,
-- and as many are left behind it as were behind this one.
pub record SettlesAt (place next : ℕ) (old new : List Kept) : Type 0 where
  pub sound : are_sound new ≡ true
  pub rows : (node : ℕ) → settled (seen_at new node) ≡ settled (seen_at old node)
  pub clean : All IsClean (take place old) → All IsClean (take next new)
  pub left : length new + place + 1 ≡ length old + next
  pub within : next ≤ length new
