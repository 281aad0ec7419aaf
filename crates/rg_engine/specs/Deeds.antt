-- What a passed event does to the row of a node and a key.
use Rattle.std.specs.Prelude.{◌≡◌, ℕ, zero, suc, ◌==◌, ◌<◌, ◌^◌, Bool, true, false, List, [], ◌∷◌, ◌++◌, length, Option, Some, None, slice_index_or, if◌then◌else◌}
use Rattle.rg_event.specs.declared.event.Event.{Event}
use Rattle.rg_event.specs.declared.value.Value.{Value}
use Rattle.rg_event.specs.declared.value.Value.TheVariants.{Flag}
use Rattle.rg_metric.specs.Conditions.{value_in}
use Rattle.rg_metric.specs.declared.query.Window.{Window}
use Rattle.rg_keywords.specs.declared.func.Func.{Func}
use Rattle.rg_agg.specs.Held.{Held}
use Rattle.rg_plan.specs.Named.{Node}
use Rattle.rg_state.specs.declared.table.Change.{Change}
use Rattle.rg_state.specs.declared.table.Change.TheVariants.{Add, Remove}
use Rattle.rg_state.specs.Rows.{AreLike, Changed, Unfit}
use Rattle.rg_engine.specs.Windows.{passes_at}
use Rattle.rg_engine.specs.Standing.{leaves_at}

pub record Deed : Type 0 where
  pub change : Change
  pub value : Value

-- what a window does with an event that passed the edge of this offset: it enters, or leaves, or neither
abbrev pub side_of : Window → ℕ → Option Change
side_of window offset = if window.delay == offset then Some Add else (if leaves_at window window.length offset then Some Remove else None)

-- the value of an event that an aggregator of this column is handed: column 0 has a flag for each event
abbrev pub handed : ℕ → Event → Option Value
handed zero x = Some (Flag true)
handed (suc n) x = value_in (suc n) x.values

abbrev pub deed_with : Change → Option Value → Option Deed
deed_with change None = None
deed_with change (Some value) = Some (record { change = change; value = value })

abbrev pub deed_by : Option Change → Bool → Option Value → Option Deed
deed_by None passes value = None
deed_by (Some change) false value = None
deed_by (Some change) true value = deed_with change value

-- of a node and a key, for an event that passed the edge of this offset
abbrev pub node_deed : Node → List ℕ → ℕ → Event → Option Deed
node_deed node key offset x = deed_by (side_of node.window offset) (passes_at node key x) (handed node.agg.field x)

-- of a node and a key, for an event that passed the edge of this index among these offsets
abbrev pub edge_deed : Node → List ℕ → List ℕ → ℕ → Event → Option Deed
edge_deed node key offsets edge x = node_deed node key (slice_index_or offsets edge 0) x

-- what a deed does to a row
abbrev pub Does : Func → Option Deed → Option Held → Option Held → Type 0
Does func None old new = new ≡ old
Does func (Some deed) old new = Changed func deed.change deed.value old new

-- there is a deed, and the row can't take it
abbrev pub Blocked : Func → Option Deed → Option Held → Type 0
Blocked func None row = ⊥
Blocked func (Some deed) row = Unfit func deed.change deed.value row

-- What a deed makes of the values that a row stands for, and then what follows. A value is added where there is room, and to values of its kind;
-- what is removed comes first.
abbrev pub lead_change : Change → Value → (List Value → Type 0) → List Value → Type 0
lead_change Add value next values = (length values < 2 ^ 40) × AreLike value values × next (values ++ value ∷ [])
lead_change Remove value next values = (rest : List Value) × (values ≡ value ∷ rest) × next rest

abbrev pub lead_by : Option Deed → (List Value → Type 0) → List Value → Type 0
lead_by None next values = next values
lead_by (Some deed) next values = lead_change deed.change deed.value next values

-- by their deeds these visits lead from the last list to the one before it
abbrev pub Leads : (ℕ → Event → Option Deed) → List (ℕ × Event) → List Value → List Value → Type 0
Leads deed [] after values = values ≡ after
Leads deed (visit ∷ visits) after values = lead_by (deed visit.0 visit.1) (Leads deed visits after) values
