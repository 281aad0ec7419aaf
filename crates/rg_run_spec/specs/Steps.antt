-- What each step of a run on the disk does to the images that might be left.
use Rattle.std.specs.Prelude.{◌≡◌, ◌⊎◌, ℕ, ◌<◌, ◌≤◌, ◌^◌, List, ◌++◌, length, Option, Some}
use Rattle.rg_event.specs.declared.event.Event.{Event}
use Rattle.rg_event.specs.Rising.{next_offset, IsRising}
use Rattle.rg_run_spec.specs.Laws.{IsPrefixOf}
use Rattle.rg_run_spec.specs.Acknowledged.{SaysStored, SaysSaved}
use Rattle.rg_run_spec.specs.Stores.{Store, Course, IsNear}

-- so many of these events are in the slot that is kept
abbrev pub HasInKept : {Image : Type 0} → Store Image → List Event → Option ℕ → (Image → Type 0) → ℕ → Type 0
HasInKept {Image} store stored keep may count = (count ≤ length stored) × ((slot : ℕ) × (keep ≡ Some slot) × ((v : Image) → may v → store.HasSaved slot count v))

-- What these lines would say is so already.
pub record MarksHold {Image : Type 0} (store : Store Image) (stored : List Event) (keep : Option ℕ) (may : Image → Type 0) (lines : List (List ℕ)) : Type 0 where
  pub stored_by : (n : ℕ) → n < 2 ^ 64 → SaysStored lines n → n ≤ next_offset stored
  pub saved_by : (count : ℕ) → count < 2 ^ 64 → SaysSaved lines count → HasInKept store stored keep may count

-- Between two steps on the disk, where nothing is pending: these whole lines were put, each image that might be left has just
-- these events, and `keep` is the slot that was used or written last.
pub record IsAtRest {Image : Type 0} (store : Store Image) (course : Course) (lines : List (List ℕ)) (stored : List Event) (keep : Option ℕ) (may : Image → Type 0) : Type 0 where
  pub truthful : (v : Image) → may v → store.IsTruthful v
  pub schema : (v : Image) → may v → store.IsOfSchema v
  pub grown : (v : Image) → may v → store.IsGrown v
  pub has : (v : Image) → may v → store.HasEvents stored v
  pub rising : IsRising course.accepted
  pub begins : IsPrefixOf stored course.accepted
  pub keeps : IsPrefixOf course.held stored
  pub near : IsNear course lines stored
  pub stored_by : (n : ℕ) → n < 2 ^ 64 → SaysStored lines n → n ≤ next_offset stored
  pub saved_by : (count : ℕ) → count < 2 ^ 64 → SaysSaved lines count → HasInKept store stored keep may count

-- An image within a step: behind the events there may be those of a chunk, whole; the slot that is kept is as before.
pub record IsMidStep {Image : Type 0} (store : Store Image) (keep : Option ℕ) (chunk : List Event) (may : Image → Type 0) (v : Image) : Type 0 where
  pub from : Image
  pub left : may from
  pub truthful : store.IsTruthful from → store.IsTruthful v
  pub schema : store.IsOfSchema from → store.IsOfSchema v
  pub grown : store.IsGrown from → store.IsGrown v
  pub events : (es : List Event) → store.HasEvents es from → store.HasEvents es v ⊎ store.HasEvents (es ++ chunk) v
  pub slots : (slot count : ℕ) → keep ≡ Some slot → store.HasSaved slot count from → store.HasSaved slot count v

-- Of the log alone: behind the events of an image that might be left there may be those of a chunk, whole.
pub record IsMidLog {Image : Type 0} (store : Store Image) (chunk : List Event) (may : Image → Type 0) (v : Image) : Type 0 where
  pub from : Image
  pub left : may from
  pub events : (es : List Event) → store.HasEvents es from → store.HasEvents es v ⊎ store.HasEvents (es ++ chunk) v

-- An image after a step that is done: the chunk stands behind the events.
pub record IsStepped {Image : Type 0} (store : Store Image) (keep : Option ℕ) (chunk : List Event) (may : Image → Type 0) (v : Image) : Type 0 where
  pub from : Image
  pub left : may from
  pub truthful : store.IsTruthful from → store.IsTruthful v
  pub schema : store.IsOfSchema from → store.IsOfSchema v
  pub grown : store.IsGrown from → store.IsGrown v
  pub events : (es : List Event) → store.HasEvents es from → store.HasEvents (es ++ chunk) v
  pub slots : (slot count : ℕ) → keep ≡ Some slot → store.HasSaved slot count from → store.HasSaved slot count v

-- An image after a checkpoint was saved: that slot has it, and the events are as before.
pub record IsSavedTo {Image : Type 0} (store : Store Image) (slot count : ℕ) (may : Image → Type 0) (v : Image) : Type 0 where
  pub from : Image
  pub left : may from
  pub truthful : store.IsTruthful from → store.IsTruthful v
  pub schema : store.IsOfSchema from → store.IsOfSchema v
  pub grown : store.IsGrown from → store.IsGrown v
  pub events : (es : List Event) → store.HasEvents es from → store.HasEvents es v
  pub saved : store.HasSaved slot count v
