-- A durable run between two lines, within a turn, and stopped.
use Rattle.std.specs.Prelude.{◌≡◌, ◌⊎◌, ℕ, List, [], ◌∷◌, ◌++◌, Option, Some, None, Err, ⊤}
use Rattle.rg_host.specs.Image.{Image}
use Rattle.rg_host.specs.Lines.{ended}
use Rattle.rg_event.specs.declared.event.Event.{Event}
use Rattle.rg_config.specs.Plans.{Planned}
use Rattle.rg_reply.specs.declared.reply.Reply.{Reply}
use Rattle.rg_run_spec.specs.Verdicts.{Basis, control_at, read_as}
use Rattle.rg_run_spec.specs.Ahead.{after_line}
use Rattle.rg_run_spec.specs.Laws.{IsPrefixOf}
use Rattle.rg_run_spec.specs.Pieces.{AreLines}
use Rattle.rg_run_spec.specs.Stores.{Course, Store, IsNear, IsKeptInStore}
use Rattle.rg_run_spec.specs.Steps.{IsAtRest}
use Rattle.rg_run_spec.specs.Turns.{IsBetween, IsStopped}
use Rattle.rg_task.specs.Stepping.{IsAllSaved}
use Rattle.rg_task.specs.Terms.{terms_of}
use Rattle.rg_task.specs.View.{View}
use Rattle.rg_run.specs.declared.due.Due.{Due}
use Rattle.rg_run.specs.declared.due.Due.TheVariants.{Nothing, Commit, Save}

-- It asks for nothing, and is refused with this reply before there is a row.
pub record IsRefused (basis : Basis) (offset : ℕ) (item : Option (List ℕ)) (reply : Reply) : Type 0 where
  pub asks_nothing : control_at basis offset item ≡ None
  pub reads : read_as basis offset item ≡ Err reply

-- A run stopped where only whole lines were put: what was put is told, and whatever image is left is kept.
pub record HasStoppedIn (store : Store Image) (course : Course) (may : Image → Type 0) (said : Option (List ℕ)) : Type 0 where
  pub put : List ℕ
  pub told : said ≡ Some put
  pub stopped : IsStopped store course may put

-- Of the lines of all turns so far, the first ones are put and the others are gathered, to be put together: the events that are stored came
-- with at most one line more than was put.
pub record IsGathered (course : Course) (stored : List Event) (put gathered : List ℕ) : Type 0 where
  pub first : List (List ℕ)
  pub rest : List (List ℕ)
  pub put_is : put ≡ course.said ++ ended first
  pub gathered_is : gathered ≡ ended rest
  pub are_first : AreLines first
  pub are_rest : AreLines rest
  pub near : IsNear course first stored

module _ {K : Type 0} (view : View K) where
  -- Between two lines: the task runs, and these lines are still to come, the first of them at this offset.
  pub record IsAwaiting (plan : Planned) (course : Course) (offset : ℕ) (items : List (Option (List ℕ))) (t : K) (gathered : List ℕ) : Type 0 where
    pub running : view.runs plan t
    pub put : List ℕ
    pub told : view.said t ≡ Some put
    pub between : IsBetween (view.store plan) (terms_of plan) course (view.at t).events offset items (view.at t).stored (view.at t).keep (view.may t) (put ++ gathered)
    pub apart : IsGathered course (view.at t).stored put gathered

  -- Within a turn that began at `start`: the line at this offset is taken, and no line of its turn is gathered yet.
  pub record IsMidTurn (plan : Planned) (course : Course) (offset : ℕ) (item : Option (List ℕ)) (items : List (Option (List ℕ))) (start t : K) (gathered : List ℕ) : Type 0 where
    pub running : view.runs plan t
    pub put : List ℕ
    pub told : view.said t ≡ Some put
    pub between : IsBetween (view.store plan) (terms_of plan) course (view.at start).events offset (item ∷ items) (view.at start).stored (view.at start).keep (view.may start) (put ++ gathered)
    pub at_rest : IsAtRest (view.store plan) course between.lines (view.at t).stored (view.at t).keep (view.may t)
    pub apart : IsGathered course (view.at t).stored put gathered
    pub follows : (view.at t).events ≡ after_line (terms_of plan).basis (view.at start).events offset item

  -- the next event has room, or nothing is gathered: what is stored before it is taken is then no more than a line ahead of what was put
  abbrev pub HasWay : K → List ℕ → Type 0
  HasWay t gathered = view.roomy t ⊎ (gathered ≡ [])

  -- what was due is done: all events are stored, and in the slot that is kept
  abbrev pub IsDueDone : Due → Planned → K → Type 0
  IsDueDone Nothing plan t = ⊤
  IsDueDone Commit plan t = (view.at t).stored ≡ (view.at t).events
  IsDueDone Save plan t = IsAllSaved (view.store plan) (view.may t) (view.at t)

  -- the run stopped where only whole lines were put
  abbrev pub HasStopped : Planned → Course → K → Type 0
  HasStopped plan course t = HasStoppedIn (view.store plan) course (view.may t) (view.said t)

  -- Whole lines were put, and others are gathered: whatever image is left is kept, however many of these are put.
  pub record IsHeld (plan : Planned) (course : Course) (t : K) (gathered : List ℕ) : Type 0 where
    pub put : List ℕ
    pub told : view.said t ≡ Some put
    pub first : List (List ℕ)
    pub rest : List (List ℕ)
    pub more : List (List ℕ)
    pub put_is : put ≡ course.said ++ ended first
    pub gathered_is : gathered ≡ ended rest
    pub are_first : AreLines first
    pub are_rest : AreLines rest
    pub of_text : first ++ (rest ++ more) ≡ course.text
    pub kept : (v : Image) → view.may t v → (some : List (List ℕ)) → IsPrefixOf some rest → IsKeptInStore (view.store plan) course (first ++ some) v
    -- once there is a line
    pub grown : ((v : Image) → view.may t v → (view.store plan).IsGrown v) ⊎ (first ++ rest ≡ [])
