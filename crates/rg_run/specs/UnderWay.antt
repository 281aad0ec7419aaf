-- A run of an input in mid-way, stopped at a read, and done.
use Rattle.std.specs.Prelude.{◌≡◌, ◌⊎◌, ℕ, ◌+◌, ◌≤◌, List, [], ◌∷◌, ◌++◌, length, Option, Some, OnOk, IfErr, Result}
use Rattle.rg_bytes.specs.Known.{before}
use Rattle.rg_host.specs.Image.{Image}
use Rattle.rg_host.specs.Lines.{ended, whole_lines}
use Rattle.rg_host.specs.Moments.{Moments}
use Rattle.rg_host.specs.Reading.{Reading}
use Rattle.rg_config.specs.Plans.{Planned}
use Rattle.rg_run_spec.specs.Accepted.{events_after}
use Rattle.rg_run_spec.specs.Ahead.{after_line}
use Rattle.rg_run_spec.specs.Output.{open_line, put_before}
use Rattle.rg_run_spec.specs.Stores.{Course, Store, StaysOnCourse}
use Rattle.rg_run_spec.specs.Turns.{IsDone}
use Rattle.rg_task.specs.Terms.{terms_of}
use Rattle.rg_task.specs.View.{View}
use Rattle.rg_task.specs.declared.fault.TaskFault.TheVariants as task
use Rattle.rg_run.specs.declared.fault.TurnFault.{TurnFault}
use Rattle.rg_run.specs.declared.fault.TurnFault.TheVariants as turn
use Rattle.rg_run.specs.Turning.{IsAwaiting, HasStopped}
use Rattle.rg_run.specs.Begun.{Begun, lines_in, course_for}
use Rattle.rg_run.specs.Reading.{HasRead}

-- The run stopped at a read of the input: each line that LF ended within the bytes taken was answered, and nothing else was put.
-- `limit` says that the input is too long; then a byte past the limit was taken, and dropped.
pub record HasAnswered (plan : Planned) (b : Begun) (left : Option (List ℕ)) (said : Option (List ℕ)) (limit : Type 0) : Type 0 where
  pub got : List ℕ
  pub past : List ℕ
  pub took : Some b.input ≡ before (got ++ past) left
  pub one : length past ≤ 1
  pub none_past : (past ≡ []) ⊎ limit
  pub put : said ≡ Some (b.said ++ ended (open_line b.held b.from ∷ put_before (terms_of plan) b.held b.first (whole_lines got) (length (whole_lines got))))

-- All of a run was put, and each image that might be left has all accepted events.
pub record HasFinishedIn (store : Store Image) (course : Course) (may : Image → Type 0) (said : Option (List ℕ)) : Type 0 where
  pub put : List ℕ
  pub told : said ≡ Some put
  pub done : IsDone store course may put

module _ {K : Type 0} (view : View K) where
  -- Between two lines: these were handed out and answered, and these are still to come, the first of them at this offset.
  pub record IsUnderWay (plan : Planned) (b : Begun) (left : Option (List ℕ)) (reading : Reading) (offset : ℕ) (t : K) (gathered : List ℕ) : Type 0 where
    pub handed : List (Option (List ℕ))
    pub items : List (Option (List ℕ))
    pub read : HasRead b.input left reading handed
    pub whole : handed ++ items ≡ lines_in b
    pub offset_is : offset ≡ b.first + length handed
    pub awaiting : IsAwaiting view plan (course_for plan b) offset items t gathered
    pub events : (view.at t).events ≡ events_after (terms_of plan).basis b.held b.first handed

  -- A call that was given this line of the input, None for one that is too long, of a run that awaits it.
  pub record Answers {A : Type 0} (plan : Planned) (item : Option (List ℕ)) (offset offset_then : ℕ) (gathered gathered_then : List ℕ) (old new : K) (result : Result A TurnFault) : Type 0 where
    pub moments : (course : Course) (items : List (Option (List ℕ))) → IsAwaiting view plan course offset (item ∷ items) old gathered → Moments view.clock view.since old new (StaysOnCourse (view.store plan) course [])
    pub awaits : (course : Course) (items : List (Option (List ℕ))) → IsAwaiting view plan course offset (item ∷ items) old gathered → OnOk result (IsAwaiting view plan course offset_then items new gathered_then)
    pub events : (course : Course) (items : List (Option (List ℕ))) → IsAwaiting view plan course offset (item ∷ items) old gathered → OnOk result ((view.at new).events ≡ after_line (terms_of plan).basis (view.at old).events offset item)
    pub stopped : (course : Course) (items : List (Option (List ℕ))) → IsAwaiting view plan course offset (item ∷ items) old gathered → IfErr result (λ fault. (fault ≡ turn.Write) ⊎ HasStopped view plan course new)
    pub never_damaged : (course : Course) (items : List (Option (List ℕ))) → IsAwaiting view plan course offset (item ∷ items) old gathered → IfErr result (λ fault. (p : ℕ) → fault ≡ turn.Task (task.Damaged p) → ⊥)
    pub never_bad : (course : Course) (items : List (Option (List ℕ))) → IsAwaiting view plan course offset (item ∷ items) old gathered → IfErr result (λ fault. (n : ℕ) → fault ≡ turn.Task (task.BadState n) → ⊥)

  -- all was put, and each image that might be left has all accepted events
  abbrev pub HasFinished : Planned → Begun → K → Type 0
  HasFinished plan b t = HasFinishedIn (view.store plan) (course_for plan b) (view.may t) (view.said t)
