-- How far a step of a test goes.
use Rattle.std.specs.Prelude.{◌≡◌, ℕ, ◌+◌, ◌≤◌, List, length}
use Rattle.rg_pipe.specs.State.{PipeState}

-- So many first bytes of a piece were taken.
pub record IsStep (old new : PipeState) (piece : List ℕ) (count : ℕ) : Type 0 where
  pub within : count ≤ length piece
  pub counted : new.place + length new.pending ≡ old.place + length old.pending + count
