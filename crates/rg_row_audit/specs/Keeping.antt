-- How far rows were compared with what was gathered.
use Rattle.std.specs.Prelude.{◌≡◌, ℕ, List, Option, Some, None}
use Rattle.std.specs.BTreeMap.{BTreeMap, get}
use Rattle.std.specs.Cmp.Lexicographic.{slice_cmp}
use Rattle.std.specs.Ordering.{nat_cmp}
use Rattle.rg_event.specs.declared.event.Event.{Event}
use Rattle.rg_event.specs.declared.value.Value.{Value}
use Rattle.rg_keywords.specs.declared.func.Func.{Func}
use Rattle.rg_agg.specs.Held.{Held}
use Rattle.rg_plan.specs.Named.{Node}
use Rattle.rg_state.specs.Rows.{Entry, RowStands}
use Rattle.rg_engine.specs.Windows.{node_values}
use Rattle.rg_row_audit.specs.Gathering.{Suits, IsGathered}
use Rattle.rg_row_audit.specs.Rows.{row_in}
use Rattle.rg_row_audit.specs.declared.gathered.Gathered.{Gathered}

-- one state of the node's function can stand for its values, whatever the key is
abbrev pub AreSuited : Node → ℕ → List Event → Type 0
AreSuited node t events = (key : List ℕ) → Suits node.agg.func (node_values node key t events)

-- the rows of a node stand for its values
abbrev pub AreKept : List Entry → ℕ → Node → ℕ → List Event → Type 0
AreKept rows n node t events = (key : List ℕ) → RowStands node.agg.func (row_in rows n key) (node_values node key t events)

-- a key that came with a row stands for its values, and is taken out; another one is there as it was gathered
abbrev pub IsLeft : Func → Option Held → Option Gathered → List Value → Type 0
IsLeft func None found values = IsGathered func found values
IsLeft func (Some held) found values = (found ≡ None) × RowStands func (Some held) values

-- behind these rows each key that came with a row stands for its values and is taken out, and each other one is there
-- as it was gathered
abbrev pub AreLeft : List Entry → ℕ → Node → ℕ → List Event → BTreeMap (List ℕ) Gathered → Type 0
AreLeft front n node t events left = (key : List ℕ) → IsLeft node.agg.func (row_in front n key) (get (slice_cmp nat_cmp) left key) (node_values node key t events)
