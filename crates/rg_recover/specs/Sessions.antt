-- A session as plain data, and when it runs.
use Rattle.std.specs.Prelude.{◌≡◌, ◌+◌, ◌≤◌, ℕ, Bool, false, List, length, Option, Some, refl}
use Rattle.std.specs.Coded.{Coded, code_by, coded×, coded_bool, coded_list, coded_ℕ, coded_option}
use Rattle.rg_host.specs.Image.{Image, NothingPending}
use Rattle.rg_event.specs.Shapes.{Shape}
use Rattle.rg_event.specs.declared.event.Event.{Event}
use Rattle.rg_config.specs.Plans.{Planned}
use Rattle.rg_plan.specs.Plans.{plan_for}
use Rattle.rg_state.specs.Changes.{Marks}
use Rattle.rg_state.specs.Rows.{Cells}
use Rattle.rg_window.specs.Placed.{AreWithin}
use Rattle.rg_engine.specs.Feeding.{Serves}
use Rattle.rg_engine.specs.Seen.{Seen, seen_code}
use Rattle.rg_reservoir.specs.Kept.{base, opened, room_of, stored, all_events}
use Rattle.rg_reservoir.specs.contracts.reservoir.Reservoir.{the_row as reservoir_row}
use Rattle.rg_reservoir.specs.declared.reservoir.Reservoir.{Reservoir}
use Rattle.rg_checkpoint.specs.Slots.{Attached, IsKeep, sizes_in}
use Rattle.rg_checkpoint.specs.contracts.slots.Slots.{the_row as slots_row}
use Rattle.rg_open.specs.Opened.{IsInStep, IsKeptInSlot, IsKeptSince}

-- its reservoir, its engine, the printed texts of its queries, by how much an event may be earlier than the last one, the slots and the
-- sizes of what stands in them, the slot that was used or written last and of how many events that one is, and whether it has ended
pub record Sitting (T : Type 0) : Type 0 where
  pub reservoir : Reservoir
  pub engine : Seen T
  pub texts : List (List ℕ)
  pub grace : ℕ
  pub slots : Attached
  pub keep : Option ℕ
  pub saved : ℕ
  pub ended : Bool

-- a session as a tuple of its parts
abbrev pub sitting_code : {T : Type 0} → Coded T → Coded (Sitting T)
sitting_code {T} code =
    code_by (Reservoir × (Seen T × (List (List ℕ) × (ℕ × (Attached × (Option ℕ × (ℕ × Bool)))))))
    (coded× reservoir_row.coded (coded× (seen_code code) (coded× (coded_list (coded_list coded_ℕ)) (coded× coded_ℕ (coded× slots_row.coded (coded× (coded_option coded_ℕ) (coded× coded_ℕ coded_bool)))))))
    (λ s. (s.reservoir, (s.engine, (s.texts, (s.grace, (s.slots, (s.keep, (s.saved, s.ended))))))))
    (λ p. record { reservoir = p.0; engine = p.1.0; texts = p.1.1.0; grace = p.1.1.1.0; slots = p.1.1.1.1.0; keep = p.1.1.1.1.1.0; saved = p.1.1.1.1.1.1.0; ended = p.1.1.1.1.1.1.1 })
    (λ _. refl)

-- how many events a reservoir has, stored or not
abbrev pub count_in : Reservoir → ℕ
count_in r = (base r).committed + length (opened r)

-- Of any session: its schema and its limit are those of the reservoir, no edge of its engine is behind the end of the events, and
-- where it hasn't ended, neither have reservoir, engine and slots.
pub record IsWhole {T : Type 0} (shape : Shape) (most : ℕ) (s : Sitting T) : Type 0 where
  pub shape_is : shape ≡ (base s.reservoir).shape
  pub most_is : most ≡ (base s.reservoir).limit
  pub within : AreWithin s.engine.spots (count_in s.reservoir)
  pub some_room : 1 ≤ room_of s.reservoir
  pub few : room_of s.reservoir ≤ 4096
  pub fits : length (opened s.reservoir) ≤ room_of s.reservoir
  pub engine_goes : s.ended ≡ false → s.engine.ended ≡ false
  pub reservoir_goes : s.ended ≡ false → (base s.reservoir).ended ≡ false
  pub slots_go : s.ended ≡ false → s.slots.ended ≡ false
  pub keep : IsKeep s.keep

-- An engine stands for all events of a sound reservoir over the plan's log, its table tells its rows, and the events are of columns
-- that serve the plan: it answers the next event as from scratch.
pub record IsReady {T : Type 0} (plan : Planned) (now : Option Image) (may : Image → Type 0) (is_told : Type 0) (cells : Cells) (r : Reservoir) (engine : Seen T) (texts : List (List ℕ)) : Type 0 where
  pub in_step : IsInStep plan now may r cells engine.spots texts
  pub tells : is_told
  pub serves : Serves plan.shape.fields (plan_for plan.queries)
  pub plan_is : engine.plan ≡ plan_for plan.queries

-- What is kept of the slot that was used or written last, over any image that reads give: nothing of a slot is pending, and in each
-- image that might be left that slot has one and the same checkpoint, of no more events than are stored, in a file of the sizes that
-- are known of it; what the table tells of changes is told since that checkpoint.
pub record HasKept {T : Type 0} (now : Option Image) (may : Image → Type 0) (cell : T → Cells) (named there : T → Marks) (s : Sitting T) : Type 0 where
  pub image : Image
  pub told : now ≡ Some image
  pub first_settled : NothingPending 0 now may
  pub second_settled : NothingPending 1 now may
  pub stored : (slot : ℕ) → s.keep ≡ Some slot → s.saved ≤ (base s.reservoir).committed
  pub since : (slot : ℕ) → s.keep ≡ Some slot → IsKeptSince may slot s.saved s.texts (sizes_in s.slots slot) (named s.engine.table) (there s.engine.table) (cell s.engine.table)

-- A session of that plan runs: its engine is ready, each image that might be left is truthful, nothing of a slot is pending, and the
-- slot that was used or written last has what it should, of the sizes that are known of it; what the table tells of changes is told
-- since that slot's checkpoint. The functions are those that tell a table's rows and marks.
pub record IsRunning {T : Type 0} (plan : Planned) (now : Option Image) (may : Image → Type 0) (Tells : T → Type 0) (cell : T → Cells) (named there : T → Marks) (s : Sitting T) : Type 0 where
  pub ready : IsReady plan now may (Tells s.engine.table) (cell s.engine.table) s.reservoir s.engine s.texts
  pub limit_is : (base s.reservoir).limit ≡ plan.settings.events
  pub grace_is : s.grace ≡ plan.settings.grace
  pub going : s.ended ≡ false
  pub first_settled : NothingPending 0 now may
  pub second_settled : NothingPending 1 now may
  pub kept : (slot : ℕ) → s.keep ≡ Some slot → IsKeptInSlot plan may slot s.saved (base s.reservoir).committed
  pub since : (slot : ℕ) → s.keep ≡ Some slot → IsKeptSince may slot s.saved s.texts (sizes_in s.slots slot) (named s.engine.table) (there s.engine.table) (cell s.engine.table)

-- its events, those in the open chunk included
abbrev pub events_of : {T : Type 0} → Option Image → Sitting T → List Event
events_of now s = all_events now (base s.reservoir) (opened s.reservoir)

-- those of them that are stored
abbrev pub stored_of : {T : Type 0} → Option Image → Sitting T → List Event
stored_of now s = stored now (base s.reservoir)
