-- A source in memory.
use Rattle.std.specs.Prelude.{ℕ, List}

-- What a source in memory still gives, and how its calls go.
pub record Supply : Type 0 where
  -- the bytes still to come
  pub left : List ℕ
  -- the numbers of the calls that fail
  pub fail : List ℕ
  -- the number of the next call
  pub next : ℕ
  -- how many calls have failed
  pub faults : ℕ
