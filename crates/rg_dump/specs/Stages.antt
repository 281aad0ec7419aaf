-- What is read of a log's bytes, frame by frame.
use Rattle.std.specs.Prelude.{◌+◌, nat_lt, ◌&&◌, ℕ, zero, suc, Bool, List, [], ◌∷◌, length, drop, Option, Some, None, if◌then◌else◌}
use Rattle.rg_frame.specs.FrameList.{is_open}
use Rattle.rg_frame.specs.Frames.{payload_at}
use Rattle.rg_log.specs.Entries.{unread}
use Rattle.rg_log.specs.declared.entry.LogSoFar.{LogSoFar}
use Rattle.rg_reservoir.specs.Walked.{stage_after}
use Rattle.rg_reservoir.specs.declared.walk.Stage.{Stage}

-- the frames of a log up to where it ends or is damaged, and that place, where it is damaged
pub record Stages : Type 0 where
  pub stages : List Stage
  pub damage : Option ℕ

-- an open gate stands at that place; a file of at most one byte has none
abbrev pub is_open_at : ℕ → List ℕ → Bool
is_open_at place bytes = nat_lt 1 (length bytes) && is_open (drop place bytes)

-- this frame, and then those behind it
abbrev pub before : Stage → Stages → Stages
before s behind = record { stages = s ∷ behind.stages; damage = behind.damage }

-- a frame, and then what stands behind it; without a frame the log is damaged at that place
abbrev pub with_frame : ℕ → Option (Stage × LogSoFar) → (LogSoFar → Stages) → Stages
with_frame place None behind = record { stages = []; damage = Some place }
with_frame place (Some frame) behind = before frame.0 (behind frame.1)

abbrev pub with_payload : ℕ → LogSoFar → Option (List ℕ) → (ℕ → LogSoFar → Stages) → Stages
with_payload place so_far None behind = record { stages = []; damage = Some place }
with_payload place so_far (Some payload) behind = with_frame place (stage_after so_far payload) (behind (place + 9 + length payload))

-- at most so many frames from that place on, behind frames that say so much
unfoldable pub stages_from : ℕ → ℕ → LogSoFar → List ℕ → Stages
stages_from zero place so_far bytes = record { stages = []; damage = None }
stages_from (suc most) place so_far bytes =
    if is_open_at place bytes then with_payload place so_far (payload_at place bytes) (λ next said. stages_from most next said bytes)
    else record { stages = []; damage = None }

-- the frames of a file; it has fewer of them than bytes
abbrev pub stages_of : List ℕ → Stages
stages_of bytes = stages_from (length bytes) 0 unread bytes
