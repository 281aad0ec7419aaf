-- The lines on a store, without their LF.
use Rattle.std.specs.Prelude.{◌≡◌, ℕ, zero, suc, List, [], ◌∷◌, ◌++◌, length, codes, decimal, Option, Some, None}
use Rattle.rg_event.specs.declared.event.Event.{Event}
use Rattle.rg_host.specs.Image.{Image}
use Rattle.rg_checkpoint.specs.Slots.{IsSlot}
use Rattle.rg_checkpoint.specs.declared.base.Checkpoint.{Checkpoint}
use Rattle.rg_info.specs.Summary.{summary_in, summary_with}
use Rattle.rg_info.specs.declared.summary.Summary.{Summary}

-- the last event's time, where there are so many events
abbrev pub time_of : ℕ → ℕ → List ℕ
time_of zero time = codes "-"
time_of (suc events) time = decimal time

abbrev pub time_text : Summary → List ℕ
time_text summary = codes "time " ++ time_of summary.events summary.time

-- how many events there are, the last one's offset plus one, its time, and how many frames there are
abbrev pub log_lines : Summary → List (List ℕ)
log_lines summary = (codes "events " ++ decimal summary.events) ∷ ((codes "next " ++ decimal summary.next) ∷ (time_text summary ∷ ((codes "frames " ++ decimal summary.frames) ∷ [])))

-- a slot that is complete: how many events its checkpoint is of, and how many queries it has
abbrev pub complete_text : ℕ → ℕ → ℕ → List ℕ
complete_text i count queries = codes "slot " ++ (decimal i ++ (codes " " ++ (decimal count ++ (codes " " ++ decimal queries))))

-- a slot that isn't
abbrev pub none_text : ℕ → List ℕ
none_text i = codes "slot " ++ (decimal i ++ codes " none")

abbrev pub slot_text : ℕ → Option Checkpoint → List ℕ
slot_text i None = none_text i
slot_text i (Some checkpoint) = complete_text i checkpoint.count (length checkpoint.queries)

abbrev pub info_lines : Summary → Option Checkpoint → Option Checkpoint → List (List ℕ)
info_lines summary first second = log_lines summary ++ (slot_text 0 first ∷ (slot_text 1 second ∷ []))

-- these are the lines on the store of an image, of which the log is file 2 and the slots are files 0 and 1
pub record IsInfo (v : Image) (lines : List (List ℕ)) : Type 0 where
  pub first : Option Checkpoint
  pub second : Option Checkpoint
  pub first_is : IsSlot (v 0) first
  pub second_is : IsSlot (v 1) second
  pub are : lines ≡ info_lines (summary_in (v 2)) first second

-- the lines begin with those on a log of these events in so many frames
abbrev pub LogSays : List Event → ℕ → List (List ℕ) → Type 0
LogSays events frames lines = (slots : List (List ℕ)) × (lines ≡ log_lines (summary_with frames events) ++ slots)
