-- From where a replay goes on, and what a step of it comes to.
use Rattle.std.specs.Prelude.{◌≡◌, ℕ, ◌≤◌, ◌^◌, List, Option, Some, None, length, take, slice_get, All, ⊤}
use Rattle.rg_event.specs.declared.event.Event.{Event}
use Rattle.rg_metric.specs.Queries.{Asked}
use Rattle.rg_past.specs.declared.past.Spot.{Spot}
use Rattle.rg_past.specs.declared.past.PastFault.TheVariants as past
use Rattle.rg_plan.specs.Plans.{Tasks, plan_for}
use Rattle.rg_state.specs.Rows.{Cells}
use Rattle.rg_window.specs.Placed.{numbers_of}
use Rattle.rg_engine.specs.declared.fault.EngineFault.{EngineFault}
use Rattle.rg_engine.specs.declared.fault.EngineFault.TheVariants as fault
use Rattle.rg_engine.specs.Feeding.{IsFed}
use Rattle.rg_engine.specs.Standing.{NodeStands}
use Rattle.rg_replay.specs.declared.stepping.Told.{Told}
use Rattle.rg_replay.specs.Replay.{replayed}

-- The past is sound and spells the spot of the next event and those of the edges, the table tells its rows, the events are at most 2^40 and serve the
-- plan of these queries, and each of its nodes stands for the first ones.
pub record Replays (queries : List Asked) (is_sound is_at is_told : Type 0) (Spells : Spot → Type 0) (events : List Event) (shown : ℕ) (cells : Cells) (plan : Tasks) (spots : List Spot) : Type 0 where
  pub plan_is : plan ≡ plan_for queries
  pub sound : is_sound
  pub at : is_at
  pub told : is_told
  pub small : length events ≤ 2 ^ 40
  pub fed : IsFed plan events
  pub many : length spots ≡ length plan.offsets
  pub spelled : All Spells spots
  pub stands : (n : ℕ) → NodeStands plan n (take shown events) cells (numbers_of spots)

-- it is the event of that number, and the answers are those from scratch
pub record IsAnswered (queries : List Asked) (events : List Event) (number : ℕ) (told : Told) : Type 0 where
  pub event : slice_get events number ≡ Some told.event
  pub answers : told.answers ≡ replayed queries events number told.event

-- the next event was answered, or there is none; and then this holds
abbrev pub Came : List Asked → List Event → ℕ → Option Told → Type 0 → Type 0
Came queries events number (Some told) Then = IsAnswered queries events number told × Then
Came queries events number None Then = (number ≡ length events) × Then

-- a fault that neither what is stored nor the rows have caused
abbrev pub IsOutside : EngineFault → Type 0
IsOutside (fault.Past past.Disk) = ⊤
IsOutside (fault.Past (past.Damaged place)) = ⊥
IsOutside (fault.Past past.Full) = ⊥
IsOutside (fault.Past past.Memory) = ⊤
IsOutside (fault.Past past.Ended) = ⊤
IsOutside (fault.BadState node) = ⊥
IsOutside fault.Memory = ⊤
IsOutside fault.Ended = ⊤
IsOutside fault.Table = ⊤
