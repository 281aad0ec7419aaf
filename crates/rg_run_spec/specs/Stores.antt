-- What holds of the store and of what was put, at each moment of a run. `Image` is any type of images.
use Rattle.std.specs.Prelude.{◌≡◌, ◌⊎◌, ℕ, ◌+◌, ◌<◌, ◌≤◌, ◌^◌, List, ◌∷◌, ◌++◌, length, Option}
use Rattle.rg_event.specs.declared.event.Event.{Event}
use Rattle.rg_host.specs.Image as host
use Rattle.rg_host.specs.Moments.{Moment}
use Rattle.rg_host.specs.Puts.{IsPrefix, IsPartWay, IsPut}
use Rattle.rg_run_spec.specs.Accepted.{events_before, events_after}
use Rattle.rg_run_spec.specs.Output.{Terms, open_line, put_before, text_of_run}
use Rattle.rg_run_spec.specs.Laws.{IsPrefixOf}
use Rattle.rg_run_spec.specs.Acknowledged.{SaysSaved, HoldsStored}
use Rattle.rg_run_spec.specs.Pieces.{whole_pieces}

-- What images say to the runs of one plan.
pub record Store (Image : Type 0) : Type 1 where
  -- nothing in the image says what isn't so
  pub IsTruthful : Image → Type 0
  -- the log is of the plan's schema, or of one that grows to it by the plan's defaults, or has no frame
  pub IsOfSchema : Image → Type 0
  -- the plan's schema is in force at the log's end
  pub IsGrown : Image → Type 0
  -- these are the log's events, for the plan of a run
  pub HasEvents : List Event → Image → Type 0
  -- the slot of that number is complete, has the plan's queries, and counts at least so many events
  pub HasSaved : ℕ → ℕ → Image → Type 0
  pub has_fewer : (slot n count : ℕ) (v : Image) → n ≤ count → HasSaved slot count v → HasSaved slot n v

-- the image's log has these events, and maybe more behind them
abbrev pub HasAtLeast : {Image : Type 0} → Store Image → List Event → Image → Type 0
HasAtLeast store held v = (events : List Event) × IsPrefixOf held events × store.HasEvents events v

-- What a run begins with, and what it is to accept and to put.
pub record Course : Type 0 where
  -- what had been put before it
  pub said : List ℕ
  -- the events of the store at its start
  pub held : List Event
  -- these, and then those accepted of the whole input
  pub accepted : List Event
  -- the lines of its text
  pub text : List (List ℕ)
  -- how many lines the input has, the lines put up to and with the answers to the first of them, and the events then
  pub turns : ℕ
  pub answers : ℕ → List (List ℕ)
  pub events : ℕ → List Event

abbrev pub course_of : Terms → List ℕ → List Event → ℕ → ℕ → List (Option (List ℕ)) → Course
course_of terms said held from first lines = record {
  said = said;
  held = held;
  accepted = events_after terms.basis held first lines;
  text = text_of_run terms held from first lines;
  turns = length lines;
  answers = λ count. open_line held from ∷ put_before terms held first lines count;
  events = λ count. events_before terms.basis held first lines count;
}

-- the events are those of the start, or came with at most one line more than were answered whole
abbrev pub IsNear : Course → List (List ℕ) → List Event → Type 0
IsNear course lines events =
    (events ≡ course.held)
    ⊎ ((count reach : ℕ) × (reach ≤ count + 1) × (reach ≤ course.turns) × IsPrefixOf (course.answers count) lines × IsPrefixOf events (course.events reach))

-- Of an image and the whole lines that were put: the image is truthful, and its events are the first of the accepted ones, with
-- all that the store held and all that the lines say is stored, and of at most one line more than was answered; where a line says
-- what is saved, some slot has it.
pub record IsKeptInStore {Image : Type 0} (store : Store Image) (course : Course) (lines : List (List ℕ)) (v : Image) : Type 0 where
  pub truthful : store.IsTruthful v
  pub schema : store.IsOfSchema v
  pub events : List Event
  pub has : store.HasEvents events v
  pub begins : IsPrefixOf events course.accepted
  pub keeps : IsPrefixOf course.held events
  pub near : IsNear course lines events
  pub stored : HoldsStored lines course.accepted events
  pub saved : (count : ℕ) → count < 2 ^ 64 → SaysSaved lines count → (slot : ℕ) × store.HasSaved slot count v

-- A moment once the store is opened: this image might be left, and just that was said.
pub record IsOnCourse {Image : Type 0} (store : Store Image) (course : Course) (last : List ℕ) (v : Image) (said : List ℕ) : Type 0 where
  pub put : List ℕ
  pub since : said ≡ course.said ++ put
  pub text : IsPut course.text last put
  pub kept : IsKeptInStore store course (whole_pieces put) v
  -- unless nothing but of the last line was put
  pub grown : store.IsGrown v ⊎ IsPrefix put last

-- a moment since the start: nothing but of the last line was put, and the image is one that might be left at the start; or the store is opened
abbrev pub IsOnCourseSince : {Image : Type 0} → Store Image → Course → (Image → Type 0) → List ℕ → Image → List ℕ → Type 0
IsOnCourseSince store course start last v said = (start v × IsPartWay course.said last said) ⊎ IsOnCourse store course last v said

-- a moment on a host is on course
abbrev pub StaysOnCourse : Store host.Image → Course → List ℕ → Moment → Type 0
StaysOnCourse store course last m = IsOnCourse store course last m.image m.said

abbrev pub StaysOnCourseSince : Store host.Image → Course → (host.Image → Type 0) → List ℕ → Moment → Type 0
StaysOnCourseSince store course start last m = IsOnCourseSince store course start last m.image m.said

-- What is promised of each moment since a run's start over a store of which each image that might be left is truthful.
pub record Promised {Image : Type 0} (store : Store Image) (course : Course) (start : Image → Type 0) (last : List ℕ) (v : Image) (said : List ℕ) : Type 0 where
  pub put : List ℕ
  pub since : said ≡ course.said ++ put
  pub text : IsPut course.text last put
  pub truthful : store.IsTruthful v
  pub schema : start v ⊎ store.IsOfSchema v
  -- from the first byte of the open line on the plan's schema is in force
  pub grown : store.IsGrown v ⊎ IsPrefix put last
  pub image : (start v × IsPrefix put last) ⊎ IsKeptInStore store course (whole_pieces put) v
