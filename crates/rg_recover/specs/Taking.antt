-- What a call does that lets an engine take an event over a reservoir.
use Rattle.std.specs.Prelude.{◌≡◌, ◌≤◌, ◌<◌, ◌++◌, [], ◌∷◌, ℕ, List, Option, Some, Result, length, slice_get, false, IfOk, OnOk, IsErrOf}
use Rattle.std.specs.Option.{ForSome}
use Rattle.rg_bytes.specs.Counts.{Rose}
use Rattle.rg_host.specs.Image.{Image}
use Rattle.rg_host.specs.Moments.{Moment, LeavesAll}
use Rattle.rg_event.specs.Codec.{IsEventOf}
use Rattle.rg_event.specs.declared.event.Event.{Event}
use Rattle.rg_frame.specs.LogState.{ReachesEnd}
use Rattle.rg_metric.specs.Replies.{answers_to}
use Rattle.rg_metric.specs.declared.answer.Answer.{Answer}
use Rattle.rg_config.specs.Plans.{Planned}
use Rattle.rg_state.specs.Changes.{Marks}
use Rattle.rg_state.specs.Keeping.{TableKept}
use Rattle.rg_state.specs.Rows.{Cells}
use Rattle.rg_past.specs.declared.past.Spot.{Spot}
use Rattle.rg_window.specs.Placed.{AreWithin}
use Rattle.rg_engine.specs.Seen.{Seen}
use Rattle.rg_engine.specs.Since.{KeepsSince}
use Rattle.rg_reservoir.specs.Chain.{IsIllegalBy}
use Rattle.rg_reservoir.specs.Kept.{base, view_of, opened, room_of, cache_of, log_of, next_of, time_of, stored, all_events}
use Rattle.rg_reservoir.specs.Reached.{AsksIllegal}
use Rattle.rg_reservoir.specs.declared.reservoir.Reservoir.{Reservoir}
use Rattle.rg_open.specs.Stores.{store_of}
use Rattle.rg_open.specs.Blame.{NodeRuns, IsPlaced}
use Rattle.rg_open.specs.Opened.{IsOpenedFor}
use Rattle.rg_recover.specs.Sessions.{IsReady, count_in}
use Rattle.rg_task.specs.Stepping.{IsWithinStep, IsStored}
use Rattle.rg_recover.specs.Stepping.{SlotsStay}
use Rattle.rg_recover.specs.Storing.{CanStore, KeepsLog}
use Rattle.rg_recover.specs.declared.fault.TaskFault.{TaskFault}
use Rattle.rg_recover.specs.declared.fault.TaskFault.TheVariants.{Disk, Damaged, BadState, Ended, Table}

-- The event is of the log's columns, no earlier than the last one, and there is room for it below the limit; no edge of the engine is
-- behind the end, and neither engine nor log has ended.
pub record CanTake {T : Type 0} (now : Option Image) (r : Reservoir) (engine : Seen T) (event : Event) : Type 0 where
  pub log : CanStore now r
  pub fits : IsEventOf (base r).shape.fields event
  pub next : next_of r ≤ event.offset
  pub in_time : 0 < count_in r → time_of r ≤ event.time
  pub below : count_in r < (base r).limit
  pub within : AreWithin engine.spots (count_in r)
  pub going : engine.ended ≡ false

-- An edge stands at a spot whose look comes to an illegal chunk of the log, as reads give it.
pub record AsksIllegalChunk (now : Option Image) (r : Reservoir) (spots : List Spot) : Type 0 where
  pub edge : ℕ
  pub spot : Spot
  pub stands : slice_get spots edge ≡ Some spot
  pub asks : AsksIllegal now (base r) (cache_of r) spot

module _ {H T : Type 0} (now : H → Option Image) (may : H → Image → Type 0) (clock : H → ℕ) (since : H → ℕ → Moment → Type 0) (said : H → Option (List ℕ)) (tells : T → Type 0) (cells : T → Cells) where
  -- By a ready engine: the answers are those from scratch, and it is ready again, behind a step that stores the open chunk where there
  -- was no room beside it.
  pub record AnswersReady (plan : Planned) (texts : List (List ℕ)) (event : Event) (result : Result (List Answer) TaskFault) (r s : Reservoir) (engine then : Seen T) (old new : H) : Type 0 where
    pub answers : IfOk result (λ answers. answers ≡ answers_to plan.queries (all_events (now old) (base r) (opened r) ++ event ∷ []) event)
    pub ready : OnOk result (IsReady plan (now new) (may new) (tells then.table) (cells then.table) s then texts)
    pub events : OnOk result (all_events (now new) (base s) (opened s) ≡ all_events (now old) (base r) (opened r) ++ event ∷ [])
    pub never_bad : (n : ℕ) → IsErrOf result (BadState n) → ⊥
    pub never_damaged : (p : ℕ) → IsErrOf result (Damaged p) → ⊥
    pub within_step : (keep : Option ℕ) → IsWithinStep may clock since said (store_of plan) keep (opened r) old new
    pub step : (keep : Option ℕ) → OnOk result (IsStored (store_of plan) keep (opened r) (stored (now old) (base r)) (stored (now new) (base s)) (may old) (may new))

module _ {H T : Type 0} (now : H → Option Image) (may : H → Image → Type 0) (tells : T → Type 0) (cells : T → Cells) where
  -- A node that can be carried on is carried on, and its state is never bad; where each edge stands at a spelled spot it does so still,
  -- and nothing is refused as damaged.
  pub record CarriesNodes {A : Type 0} (result : Result A TaskFault) (r s : Reservoir) (engine then : Seen T) (old new : H) : Type 0 where
    pub node : (plan : Planned) (n : ℕ) → NodeRuns plan n (now old) (may old) (tells engine.table) (cells engine.table) r engine → OnOk result (NodeRuns plan n (now new) (may new) (tells then.table) (cells then.table) s then)
    pub never_bad : (plan : Planned) (n : ℕ) → NodeRuns plan n (now old) (may old) (tells engine.table) (cells engine.table) r engine → IsErrOf result (BadState n) → ⊥
    pub placed : (plan : Planned) → IsPlaced plan (now old) (may old) r engine → OnOk result (IsPlaced plan (now new) (may new) s then)
    pub undamaged : (plan : Planned) (p : ℕ) → IsPlaced plan (now old) (may old) r engine → IsErrOf result (Damaged p) → ⊥

module _ {H T : Type 0} (now : H → Option Image) (may : H → Image → Type 0) (clock : H → ℕ) (since : H → ℕ → Moment → Type 0) (said : H → Option (List ℕ)) (disk_faults out_faults : H → ℕ) (tells : T → Type 0) (named there : T → Marks) (cells : T → Cells) (faults : T → ℕ) where
  -- Of any engine and any log: what stays, what is written of a log of a plan, why an event was refused, and that where there is room no file is written, and none is
  -- taken where an edge comes to an illegal chunk.
  pub record TakesEvent {A : Type 0} (result : Result A TaskFault) (r s : Reservoir) (engine then : Seen T) (old new : H) : Type 0 where
    pub log : KeepsLog said disk_faults out_faults r s old new
    pub within_step : (plan : Planned) (keep : Option ℕ) → IsOpenedFor plan (now old) (may old) r → IsWithinStep may clock since said (store_of plan) keep (opened r) old new
    pub roomy : length (opened r) < room_of r → LeavesAll now may clock since said old new × (base s ≡ base r)
    pub legal : length (opened r) < room_of r → AsksIllegalChunk (now old) r engine.spots → OnOk result ⊥
    pub fits : length (opened s) ≤ room_of s
    pub within : AreWithin then.spots (count_in s)
    pub plan_stays : then.plan ≡ engine.plan
    pub rows : TableKept tells faults engine.table then.table
    pub changed : KeepsSince tells named there cells engine.table then.table
    pub going : OnOk result ((then.ended ≡ false) × ((base s).ended ≡ false))
    pub reaches : OnOk result (ReachesEnd (log_of s) (now new))
    pub slots : OnOk result (SlotsStay (now old) (now new) (may old) (may new))
    pub damaged : (p : ℕ) → IsErrOf result (Damaged p) → ForSome (now new) (λ v. IsIllegalBy (view_of (base s)) p (v (base s).file))
    pub disk : IsErrOf result Disk → Rose (disk_faults old) (disk_faults new)
    pub table : IsErrOf result Table → Rose (faults engine.table) (faults then.table)
    pub not_ended : IsErrOf result Ended → ⊥
