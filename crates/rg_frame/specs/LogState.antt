-- A log of frames, and the hosts that may be lent to it.
use Rattle.std.specs.Prelude.{◌≡◌, ◌⊎◌, ◌<◌, ◌≤◌, ℕ, Bool, false, List, length, Option}
use Rattle.std.specs.Option.{ForSome}
use Rattle.rg_host.specs.Image.{Image}

-- What a log knows: the number of its file, the place that it has come to, whether the frame list was seen to end there, and whether an append or a clear of it failed.
pub record LogState : Type 0 where
  pub file : ℕ
  pub end : ℕ
  pub ready : Bool
  pub ended : Bool

-- the file is longer than that place, or the place is 0 and the file has at most one byte
abbrev pub Reaches : ℕ → List ℕ → Type 0
Reaches end bytes = (end < length bytes) ⊎ ((end ≡ 0) × (length bytes ≤ 1))

-- the file of a log that hasn't ended reaches its end
abbrev pub ReachesEnd : LogState → Option Image → Type 0
ReachesEnd log now = log.ended ≡ false → ForSome now (λ v. Reaches log.end (v log.file))
