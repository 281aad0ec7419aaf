-- What is made for an event before a past takes it, and why it is refused.
use Rattle.std.specs.Prelude.{◌≡◌, ◌<◌, ◌≤◌, ℕ, List, [], ◌∷◌, ◌++◌, length, Result, OnOk, OnErr, IfErr, ⊤}
use Rattle.rg_event.specs.Rising.{MayFollow}
use Rattle.rg_event.specs.declared.event.Event.{Event}
use Rattle.rg_metric.specs.declared.answer.Answer.{Answer}
use Rattle.rg_past.specs.declared.past.PastFault.TheVariants as past
use Rattle.rg_plan.specs.declared.node.GroupNode.{GroupNode}
use Rattle.rg_engine.specs.Answering.{keys_for}
use Rattle.rg_engine.specs.declared.fault.EngineFault.{EngineFault}
use Rattle.rg_engine.specs.declared.fault.EngineFault.TheVariants as fault

-- There are as many keys as before. Without a refusal they are those of the event, and the list is empty and has room for so many answers.
pub record IsPrepared {E : Type 0} (groups : List GroupNode) (event : Event) (count : ℕ) (result : Result Unit E) (keys keys' : List (List ℕ)) (answers : List Answer) (capacity : ℕ) : Type 0 where
  pub same : length keys' ≡ length keys
  pub made : OnOk result (keys' ≡ keys_for groups event)
  pub empty : OnOk result (answers ≡ [])
  pub room : OnOk result (count ≤ capacity)

-- why an event is refused before any row is changed: memory ran out, the past had ended, or it hadn't and is full
abbrev pub IsRefusal : Type 0 → Type 0 → EngineFault → Type 0
IsRefusal had_ended is_full fault.Memory = ⊤
IsRefusal had_ended is_full (fault.Past past.Memory) = ⊤
IsRefusal had_ended is_full (fault.Past past.Ended) = had_ended
IsRefusal had_ended is_full (fault.Past past.Full) = (had_ended → ⊥) × is_full
IsRefusal had_ended is_full cause = ⊥

-- the event was appended to a past that hadn't ended and wasn't full; or it was refused, and the events and the room are those before
pub record IsAccepted (event : Event) (had_ended : Type 0) (limit : ℕ) (events events' : List Event) (has_room has_room' : Type 0) (result : Result Unit EngineFault) : Type 0 where
  pub appended : OnOk result (events' ≡ events ++ event ∷ [])
  pub not_ended : OnOk result (had_ended → ⊥)
  pub below : OnOk result (length events < limit)
  pub same : OnErr result (events' ≡ events)
  pub room : OnErr result (has_room → has_room')
  pub refused : IfErr result (IsRefusal had_ended (limit ≤ length events))

-- an event may come to a past: there is room, it fits, and it may follow the events of a sound past that hasn't ended
pub record MayAppend (has_room does_fit is_sound had_ended : Type 0) (events : List Event) (event : Event) : Type 0 where
  pub room : has_room
  pub fits : does_fit
  pub follows : is_sound → (had_ended → ⊥) → MayFollow events event
