-- What a slot's checkpoint is to the queries of a plan.
use Rattle.std.specs.Prelude.{◌≡◌, ℕ, Bool, true, false, List, ◌++◌, length, take, codes, decimal, Option, Some, None, ⊤}
use Rattle.rg_event.specs.Shapes.{Shape}
use Rattle.rg_event.specs.declared.event.Event.{Event}
use Rattle.rg_past.specs.declared.past.Spot.{Spot}
use Rattle.rg_frame.specs.Frames.{HasPayloads}
use Rattle.rg_plan.specs.Plans.{Tasks}
use Rattle.rg_reservoir.specs.Naming.{IsNamed}
use Rattle.rg_checkpoint.specs.declared.base.Checkpoint.{Checkpoint}
use Rattle.rg_restore.specs.Fit.{IsFit}
use Rattle.rg_restore.specs.Truthful.{AreRowsFor}
use Rattle.rg_row_audit.specs.Rows.{IsLeastWrong}
use Rattle.rg_verify.specs.Payments.{is_framed}
use Rattle.rg_verify.specs.declared.verdict.Verdict.{Verdict}
use Rattle.rg_verify.specs.declared.verdict.Verdict.TheVariants.{Missing, Other, Unfit, Right, Wrong}

-- the printed texts of the queries, the columns and the task plan that a checkpoint is held against
pub record Terms : Type 0 where
  pub queries : List (List ℕ)
  pub shape : Shape
  pub tasks : Tasks

-- the log of a file, by the heads of its chunks and by its growths, names the spot, which isn't behind so many events
abbrev pub Named : List ℕ → ℕ → Spot → Type 0
Named bytes count spot = (payloads : List (List ℕ)) × HasPayloads payloads bytes × IsNamed payloads count spot

-- The checkpoint is fit beside a log of these events in a file: the log has a frame, and the checkpoint is of just these queries, of at
-- most so many events, has a spot for each offset, each of which names an event or the end, and rows of the plan's nodes, each of its
-- node's function and kind of value.
pub record IsFitIn (terms : Terms) (bytes : List ℕ) (events : List Event) (checkpoint : Checkpoint) : Type 0 where
  pub framed : is_framed bytes ≡ true
  pub fit : IsFit (Named bytes (length events)) terms.queries terms.shape.fields terms.tasks (length events) checkpoint

-- the first events, as many as the checkpoint is of
abbrev pub first_of : Checkpoint → List Event → List Event
first_of checkpoint events = take checkpoint.count events

-- This is said of a slot, which is complete with this checkpoint or isn't: it is of other queries, or it is unfit; or it is fit, and its rows
-- stand for the first events, or this is the least node of which they don't.
abbrev pub IsVerdict : Terms → List ℕ → List Event → Option Checkpoint → Verdict → Type 0
IsVerdict terms bytes events None Missing = ⊤
IsVerdict terms bytes events None (Other count) = ⊥
IsVerdict terms bytes events None (Unfit count) = ⊥
IsVerdict terms bytes events None (Right count) = ⊥
IsVerdict terms bytes events None (Wrong node) = ⊥
IsVerdict terms bytes events (Some c) Missing = ⊥
IsVerdict terms bytes events (Some c) (Other count) = (count ≡ c.count) × (c.queries ≡ terms.queries → ⊥)
IsVerdict terms bytes events (Some c) (Unfit count) = (count ≡ c.count) × (c.queries ≡ terms.queries) × (IsFitIn terms bytes events c → ⊥)
IsVerdict terms bytes events (Some c) (Right count) = (count ≡ c.count) × IsFitIn terms bytes events c × AreRowsFor c.rows terms.tasks (first_of c events)
IsVerdict terms bytes events (Some c) (Wrong node) = IsFitIn terms bytes events c × IsLeastWrong c.rows terms.tasks (first_of c events) node

-- the checkpoint of the slot isn't what the events give
abbrev pub differs : Verdict → Bool
differs Missing = false
differs (Other count) = false
differs (Unfit count) = true
differs (Right count) = false
differs (Wrong node) = true

-- the line of slot i, without its LF

abbrev pub said_of : ℕ → List ℕ → ℕ → List ℕ
said_of i word number = codes "slot " ++ (decimal i ++ (word ++ decimal number))

abbrev pub verdict_text : ℕ → Verdict → List ℕ
verdict_text i Missing = codes "slot " ++ (decimal i ++ codes " none")
verdict_text i (Other count) = said_of i (codes " other ") count
verdict_text i (Unfit count) = said_of i (codes " unfit ") count
verdict_text i (Right count) = said_of i (codes " ok ") count
verdict_text i (Wrong node) = said_of i (codes " wrong ") node
