-- What a call that changes a row does to all rows, by its answer.
use Rattle.std.specs.Prelude.{◌≡◌, ℕ, List, Some, Result, IfErr, OnOk, OnErr}
use Rattle.rg_agg.specs.Held.{Held}
use Rattle.rg_bytes.specs.declared.memory.Memory.{Memory}
use Rattle.rg_event.specs.declared.value.Value.{Value}
use Rattle.rg_keywords.specs.declared.func.Func.{Func}
use Rattle.rg_state.specs.Cells.{OthersSeen, SameSeen}
use Rattle.rg_state.specs.Kepts.{Seen, fresh, IsMarked, Stepped}
use Rattle.rg_state.specs.Stepping.{Refuses}
use Rattle.rg_state.specs.declared.one.Refusal.{Refusal}
use Rattle.rg_state.specs.declared.table.Change.{Change}

-- A change of the row of a node and a key is a step, or it is refused for its cause and leaves all rows as they are; the others stay.
pub record SlotsStep (func : Func) (change : Change) (value : Value) (node : ℕ) (key : List ℕ) (old new : ℕ → List ℕ → Seen) (result : Result Unit Refusal) : Type 0 where
  pub stepped : OnOk result (Stepped func change value (old node key) (new node key))
  pub others : OthersSeen node key old new
  pub err : OnErr result (SameSeen old new)
  pub refuses : IfErr result (Refuses func change value (old node key).held)

-- A row that wasn't there is put there, or none for want of memory; the others stay.
pub record SlotsGet (held : Held) (node : ℕ) (key : List ℕ) (old new : ℕ → List ℕ → Seen) (result : Result Unit Memory) : Type 0 where
  pub row : OnOk result ((new node key).held ≡ Some held)
  pub marks : OnOk result (IsMarked (old node key) (new node key))
  pub others : OthersSeen node key old new
  pub err : OnErr result (SameSeen old new)

-- A key that has no rows is given that of one node, or none for want of memory; the others stay.
pub record Puts (held : Held) (node : ℕ) (key : List ℕ) (old new : ℕ → List ℕ → Seen) (result : Result Unit Memory) : Type 0 where
  pub row : OnOk result (new node key ≡ fresh held)
  pub others : OthersSeen node key old new
  pub err : OnErr result (SameSeen old new)
