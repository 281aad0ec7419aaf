-- Where a pipe is in its stream.
use Rattle.std.specs.Prelude.{ℕ, Bool, List}

-- A pipe between two calls.
pub record PipeState : Type 0 where
  -- the bytes in hand: those that were taken and not handed out yet
  pub pending : List ℕ
  -- how many bytes of the stream come before them
  pub place : ℕ
  -- the offset that the next line is to have
  pub expected : ℕ
  -- `next` has refused the bytes in hand
  pub refused : Bool

-- A pipe, and the text of the line that was handed out last.
pub record Assembled : Type 0 where
  pub pipe : PipeState
  pub text : List ℕ
