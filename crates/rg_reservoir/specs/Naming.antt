-- How far a look at the frames of a log has come that asks which spots they name.
use Rattle.std.specs.Prelude.{◌≡◌, ◌+◌, ℕ, List, ◌++◌, length, count_by, Option, Some, None, ◌≤◌, Result, IfOk, OnOk}
use Rattle.std.specs.Option.{ForSome}
use Rattle.rg_event.specs.Shapes.{Shape}
use Rattle.rg_host.specs.Image.{Image}
use Rattle.rg_past.specs.declared.past.Spot.{Spot}
use Rattle.rg_frame.specs.Frames.{frames, HasPayloads}
use Rattle.rg_log.specs.Entries.{behind, count_of}
use Rattle.rg_log.specs.Spots.{is_in_chunk, named_from, named_by_heads, NamedByHeads}
use Rattle.rg_log.specs.declared.entry.Entry.{Entry}
use Rattle.rg_log.specs.declared.entry.LogSoFar.{LogSoFar}
use Rattle.rg_log.specs.declared.summary.LogSummary.{LogSummary}
use Rattle.rg_reservoir.specs.Heads.{Passed}
use Rattle.rg_reservoir.specs.declared.fault.ReservoirFault.{ReservoirFault}

-- a frame begins at that place, and stands behind these ones of the frame list
pub record Reached (payloads : List (List ℕ)) (place : ℕ) : Type 0 where
  pub done : List (List ℕ)
  pub rest : List (List ℕ)
  pub is : payloads ≡ done ++ rest
  pub place_is : place ≡ length (frames done)

-- The look has come to that place, where that schema is in force, behind so many events, and so many spots were not named before it: of
-- the spots that this frame list names, those from there on are still among them.
pub record LeftOf (spots : List Spot) (shape : Shape) (place before left : ℕ) (payloads : List (List ℕ)) : Type 0 where
  pub at : Reached payloads place
  pub count : left + count_by (named_by_heads payloads) spots ≡ length spots + count_by (named_from shape place before at.rest) spots

-- the look has come to that place of the frame list of a file, if it has one, behind frames that say so much
pub record Left (spots : List Spot) (place left : ℕ) (so_far : LogSoFar) (bytes : List ℕ) : Type 0 where
  pub shape : Shape
  pub summary : LogSummary
  pub so_far_is : so_far ≡ behind shape summary
  pub passed : Passed bytes place so_far
  pub each : (payloads : List (List ℕ)) → HasPayloads payloads bytes → LeftOf spots shape place summary.count left payloads

-- a spot is named by heads and growths, and its number is at most that one
abbrev pub IsNamed : List (List ℕ) → ℕ → Spot → Type 0
IsNamed payloads committed spot = NamedByHeads payloads spot × (spot.number ≤ committed)

-- how many of the spots are named by a frame at that place, behind so many events
abbrev pub count_found : List Spot → ℕ → ℕ → Option Entry → ℕ
count_found spots place before None = 0
count_found spots place before (Some entry) = count_by (is_in_chunk place before (count_of entry)) spots

-- so many of the spots name nothing by the heads and growths of that file, which has a frame list
pub record HasCounted (spots : List Spot) (now : Option Image) (file : ℕ) (result : Result ℕ ReservoirFault) : Type 0 where
  pub counted : IfOk result (λ left. ForSome now (λ v. (payloads : List (List ℕ)) → HasPayloads payloads (v file) → left + count_by (named_by_heads payloads) spots ≡ length spots))
  pub lists : OnOk result (ForSome now (λ v. (payloads : List (List ℕ)) × HasPayloads payloads (v file)))
