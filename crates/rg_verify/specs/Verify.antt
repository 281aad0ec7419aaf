-- What is put of a store whose slots are held against its log.
use Rattle.std.specs.Prelude.{◌≡◌, ◌||◌, ℕ, Bool, List, [], ◌∷◌, Option}
use Rattle.rg_event.specs.declared.event.Event.{Event}
use Rattle.rg_host.specs.Image.{Image}
use Rattle.rg_host.specs.Lines.{ended}
use Rattle.rg_host.specs.Puts.{IsPrefix}
use Rattle.rg_growth.specs.Filling.{Given}
use Rattle.rg_log.specs.Filled.{HasEventsFor}
use Rattle.rg_engine.specs.Feeding.{Serves}
use Rattle.rg_checkpoint.specs.Slots.{IsSlot}
use Rattle.rg_checkpoint.specs.declared.base.Checkpoint.{Checkpoint}
use Rattle.rg_verify.specs.Verdicts.{Terms, IsVerdict, differs, verdict_text}
use Rattle.rg_verify.specs.declared.verdict.Verdict.{Verdict}

-- the image's log, file 2, is legal, of these columns, of fewer that grow to them by these defaults, or without a frame, and has these events; and the columns serve the plan
pub record IsVerifiable (terms : Terms) (defaults : Given) (v : Image) (events : List Event) : Type 0 where
  pub has : HasEventsFor terms.shape defaults events (v 2)
  pub serves : Serves terms.shape.fields terms.tasks

-- these are said of the image's slots, files 0 and 1, beside a log of these events
pub record IsVerified (terms : Terms) (v : Image) (events : List Event) (first second : Verdict) : Type 0 where
  pub one : Option Checkpoint
  pub two : Option Checkpoint
  pub one_is : IsSlot (v 0) one
  pub two_is : IsSlot (v 1) two
  pub first_is : IsVerdict terms (v 2) events one first
  pub second_is : IsVerdict terms (v 2) events two second

-- the two lines
abbrev pub verify_lines : Verdict → Verdict → List (List ℕ)
verify_lines first second = verdict_text 0 first ∷ (verdict_text 1 second ∷ [])

-- a checkpoint isn't what the events give
abbrev pub one_differs : Verdict → Verdict → Bool
one_differs first second = differs first || differs second

-- all lines were put, and this tells whether a checkpoint isn't what the events give
pub record IsSaid (terms : Terms) (v : Image) (events : List Event) (Put : List ℕ → Type 0) (differ : Bool) : Type 0 where
  pub first : Verdict
  pub second : Verdict
  pub verified : IsVerified terms v events first second
  pub puts : Put (ended (verify_lines first second))
  pub tells : differ ≡ one_differs first second

-- where a put failed, a prefix of the lines was put
pub record IsCut (terms : Terms) (v : Image) (events : List Event) (Put : List ℕ → Type 0) : Type 0 where
  pub first : Verdict
  pub second : Verdict
  pub verified : IsVerified terms v events first second
  pub part : List ℕ
  pub prefix : IsPrefix part (ended (verify_lines first second))
  pub puts : Put part
