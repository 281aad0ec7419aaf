-- How a contract sees a task.
use Rattle.std.specs.Prelude.{◌≡◌, ◌≤◌, ◌^◌, ℕ, false, List, ◌++◌, length, Option, Some, Result, IsErrOf}
use Rattle.std.specs.Option.{ForSome}
use Rattle.rg_host.specs.Image.{Image}
use Rattle.rg_host.specs.Moments.{Moment, LeavesAll}
use Rattle.rg_event.specs.Rising.{next_offset}
use Rattle.rg_config.specs.Plans.{Planned}
use Rattle.rg_run_spec.specs.Stores.{Store}
use Rattle.rg_task.specs.State.{State}
use Rattle.rg_task.specs.declared.fault.TaskFault.{TaskFault}
use Rattle.rg_task.specs.declared.fault.TaskFault.TheVariants.{Ended}

-- What is asked of tasks of one type, and what holds of each.
pub record View (K : Type 0) : Type 1 where
  -- what images say to the runs of a plan
  pub store : Planned → Store Image
  -- the image of its files as reads give it, where it is told, and what a crash might leave
  pub now : K → Option Image
  pub may : K → Image → Type 0
  -- the present moment, and the moments since one
  pub clock : K → ℕ
  pub since : K → ℕ → Moment → Type 0
  -- all bytes put, where they are told
  pub said : K → Option (List ℕ)
  -- what it holds
  pub at : K → State
  -- the next event has room beside those that aren't stored yet
  pub roomy : K → Type 0
  -- it runs over a store of that plan: it answers the next line as from scratch
  pub runs : Planned → K → Type 0
  -- the node of that number can be carried on
  pub node : Planned → ℕ → K → Type 0
  -- each edge stands at a spelled spot of a log of that plan
  pub placed : Planned → K → Type 0
  -- what stands at that place of its log is damaged
  pub illegal : ℕ → K → Type 0
  -- the look of an edge at its log comes to an illegal chunk
  pub asks_illegal : K → Type 0
  -- from an earlier state of one task to a later one its log stays that of the same schema, in the same file
  pub goes : K → K → Type 0
  pub whole : (t : K) → (at t).stored ++ (at t).chunk ≡ (at t).events
  pub next_is : (plan : Planned) (t : K) → runs plan t → (at t).next ≡ next_offset (at t).events
  pub few : (plan : Planned) (t : K) → runs plan t → length (at t).events ≤ 2 ^ 40
  pub runs_going : (plan : Planned) (t : K) → runs plan t → (at t).ended ≡ false
  pub run_placed : (plan : Planned) (t : K) → runs plan t → placed plan t
  pub goes_same : (t : K) → goes t t
  pub goes_join : (p q r : K) → goes p q → goes q r → goes p r

-- what reads give is an image that a crash may leave
abbrev pub NowMay : {K : Type 0} → View K → Type 0
NowMay {K} view = (t : K) (v : Image) → view.now t ≡ Some v → view.may t v

-- since the present moment there is no other
abbrev pub OnlyNow : {K : Type 0} → View K → Type 0
OnlyNow {K} view = (t : K) (m : Moment) → view.since t (view.clock t) m → view.may t m.image × ForSome (view.said t) (λ s. m.said ≡ s)

-- the moments since a later one are among those since an earlier one
abbrev pub Sinks : {K : Type 0} → View K → Type 0
Sinks {K} view = (t : K) (earlier later : ℕ) (m : Moment) → earlier ≤ later → view.since t later m → view.since t earlier m

-- A call on a task that has ended is refused for that, and nothing changes.
pub record StaysEnded {K A : Type 0} (view : View K) (result : Result A TaskFault) (old new : K) : Type 0 where
  pub refused : IsErrOf result Ended
  pub at_stays : view.at new ≡ view.at old
  pub leaves : LeavesAll view.now view.may view.clock view.since view.said old new

-- From old to new nothing of a task changed but what is put, and what failed.
pub record Keeps {K : Type 0} (view : View K) (old new : K) : Type 0 where
  pub at_stays : view.at new ≡ view.at old
  pub roomy : view.roomy old → view.roomy new
  pub running : (plan : Planned) → view.runs plan old → view.runs plan new
  pub node : (plan : Planned) (n : ℕ) → view.node plan n old → view.node plan n new
  pub placed : (plan : Planned) → view.placed plan old → view.placed plan new
  pub illegal : (place : ℕ) → view.illegal place old → view.illegal place new
  pub asks_illegal : view.asks_illegal old → view.asks_illegal new
  pub goes : view.goes old new
