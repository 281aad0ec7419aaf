-- What an event that passed an edge makes of the rows of a table.
use Rattle.std.specs.Prelude.{◌≡◌, ◌↔◌, ◌⊎◌, ℕ, ◌+◌, ◌≤◌, List, [], ◌∷◌, Option, Some, None, Result, OnOk, IsErrOf, true}
use Rattle.rg_bytes.specs.Counts.{Rose}
use Rattle.rg_event.specs.declared.event.Event.{Event}
use Rattle.rg_event.specs.declared.value.Value.{Value}
use Rattle.rg_metric.specs.declared.query.Agg.{Agg}
use Rattle.rg_metric.specs.declared.query.Window.{Window}
use Rattle.rg_metric.specs.Conditions.{Test, passes}
use Rattle.rg_agg.specs.Held.{Held}
use Rattle.rg_plan.specs.Named.{Node}
use Rattle.rg_state.specs.declared.table.Change.{Change}
use Rattle.rg_state.specs.declared.table.TableFault.{TableFault}
use Rattle.rg_state.specs.declared.table.TableFault.TheVariants.{BadState, Disk}
use Rattle.rg_state.specs.Changes.{Marks, IsSince}
use Rattle.rg_state.specs.Rows.{Cells, Unfit}
use Rattle.rg_metric.specs.Admitted.{IsAdmitted}
use Rattle.rg_engine.specs.Windows.{passes_at}
use Rattle.rg_engine.specs.Deeds.{side_of, handed, node_deed, Does}

-- the event meets the condition, and at this offset the window does this with it
pub record IsPassed (window : Window) (condition : Option Test) (offset : ℕ) (change : Change) (x : Event) : Type 0 where
  pub side : side_of window offset ≡ Some change
  pub passes : passes condition x ≡ true

-- the row of a key was changed by these nodes, one after another, for an event that passed the edge of this offset
abbrev pub Done : List ℕ → ℕ → Event → List Node → Option Held → Option Held → Type 0
Done key offset x [] old new = new ≡ old
Done key offset x (node ∷ nodes) old new = (between : Option Held) × Does node.agg.func (node_deed node key offset x) old between × Done key offset x nodes between new

-- the value that an event hands an aggregator, where the aggregator takes it
abbrev pub IsTaken : Agg → Event → Option Value → Type 0
IsTaken agg x None = (value : Value) → handed agg.field x ≡ Some value → IsAdmitted agg.func value → ⊥
IsTaken agg x (Some value) = (handed agg.field x ≡ Some value) × IsAdmitted agg.func value

-- the row can't be changed with a value of the column that the function takes
abbrev pub Refuses : Node → Change → Event → Option Held → Type 0
Refuses node change x row = (value : Value) → handed node.agg.field x ≡ Some value → IsAdmitted node.agg.func value → Unfit node.agg.func change value row

-- the event enters the node's window there, or leaves it, and the row of its key refuses it
pub record Balks (node : Node) (key : List ℕ) (offset : ℕ) (x : Event) (row : Option Held) : Type 0 where
  pub change : Change
  pub side : side_of node.window offset ≡ Some change
  pub passes : passes_at node key x ≡ true
  pub refuses : Refuses node change x row

-- one of these nodes balked, behind others that changed the row
abbrev pub Stuck : List ℕ → ℕ → Event → List Node → Option Held → Type 0
Stuck key offset x [] row = ⊥
Stuck key offset x (node ∷ nodes) row = Balks node key offset x row ⊎ ((between : Option Held) × Does node.agg.func (node_deed node key offset x) row between × Stuck key offset x nodes between)

-- Rows before and after an event that passed the edge of this offset: each was changed by the nodes of its number; or one of these balked.
pub record ChangesRows (nodes : ℕ → List Node) (offset : ℕ) (x : Event) (result : Result Unit TableFault) (cells cells' : Cells) : Type 0 where
  pub done : OnOk result ((n : ℕ) (key : List ℕ) → Done key offset x (nodes n) (cells n key) (cells' n key))
  pub stuck : (n : ℕ) → IsErrOf result (BadState n) → (key : List ℕ) × Stuck key offset x (nodes n) (cells n key)

-- a table before and after an event that passed the edge of this offset: each row by the nodes of its number
pub record Stepped (nodes : ℕ → List Node) (ticks offset : ℕ) (x : Event) (result : Result Unit TableFault) (told told' : Type 0) (named named' there there' : Marks) (cells cells' : Cells) (faults faults' steps steps' : ℕ) : Type 0 where
  pub done : OnOk result (told → (n : ℕ) (key : List ℕ) → Done key offset x (nodes n) (cells n key) (cells' n key))
  pub stuck : (n : ℕ) → IsErrOf result (BadState n) → told → (key : List ℕ) × Stuck key offset x (nodes n) (cells n key)
  pub ticked : OnOk result (steps' ≡ steps + ticks)
  pub disk : IsErrOf result Disk → Rose faults faults'
  pub tells : told' ↔ told
  pub since : told → (base : Cells) → IsSince base named there cells → IsSince base named' there' cells'
  pub later : faults ≤ faults'
