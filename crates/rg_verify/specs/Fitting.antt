-- When a checkpoint fits a plan, but for its queries and what its spots name.
use Rattle.std.specs.Prelude.{◌≡◌, ◌≤◌, ℕ, Bool, true, List, length, Option, All}
use Rattle.rg_event.specs.Shapes.{Shape}
use Rattle.rg_event.specs.declared.event.Event.{Event}
use Rattle.rg_event.specs.declared.schema.Field.{Field}
use Rattle.rg_plan.specs.Plans.{Tasks}
use Rattle.rg_checkpoint.specs.declared.base.Checkpoint.{Checkpoint}
use Rattle.rg_reservoir.specs.Naming.{IsNamed}
use Rattle.rg_restore.specs.Fit.{AreRowsOf}
use Rattle.rg_restore.specs.Truthful.{AreRowsFor}
use Rattle.rg_row_audit.specs.Rows.{IsLeastWrong}
use Rattle.rg_verify.specs.Verdicts.{Terms, IsVerdict, first_of}
use Rattle.rg_verify.specs.declared.verdict.Verdict.{Verdict}
use Rattle.rg_verify.specs.declared.verdict.Verdict.TheVariants.{Missing, Other, Unfit, Right, Wrong}

-- the log has a frame and so many events; the checkpoint is of at most so many, and has a spot for each offset and rows of the plan
pub record FitsBeside (fields : List Field) (tasks : Tasks) (framed : Bool) (count : ℕ) (checkpoint : Checkpoint) : Type 0 where
  pub has_frame : framed ≡ true
  pub within : checkpoint.count ≤ count
  pub same : length checkpoint.spots ≡ length tasks.offsets
  pub rows : AreRowsOf fields tasks checkpoint.rows

-- and the frames of the log name its spots
pub record FitsAmong (fields : List Field) (tasks : Tasks) (framed : Bool) (count : ℕ) (payloads : List (List ℕ)) (checkpoint : Checkpoint) : Type 0 where
  pub beside : FitsBeside fields tasks framed count checkpoint
  pub named : All (IsNamed payloads count) checkpoint.spots

abbrev pub terms_of : List (List ℕ) → Shape → Tasks → Terms
terms_of queries shape tasks = record { queries = queries; shape = shape; tasks = tasks }

-- the rows of a fit checkpoint stand for the first of these events, or this is the least node of which they don't
abbrev pub IsRowVerdict : Tasks → List Event → Checkpoint → Verdict → Type 0
IsRowVerdict tasks events c Missing = ⊥
IsRowVerdict tasks events c (Other count) = ⊥
IsRowVerdict tasks events c (Unfit count) = ⊥
IsRowVerdict tasks events c (Right count) = (count ≡ c.count) × AreRowsFor c.rows tasks (first_of c events)
IsRowVerdict tasks events c (Wrong node) = IsLeastWrong c.rows tasks (first_of c events) node

-- these are said of two slots
pub record AreVerdicts (terms : Terms) (bytes : List ℕ) (events : List Event) (one two : Option Checkpoint) (first second : Verdict) : Type 0 where
  pub first_is : IsVerdict terms bytes events one first
  pub second_is : IsVerdict terms bytes events two second
