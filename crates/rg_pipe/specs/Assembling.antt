-- How the bytes in hand are kept.
use Rattle.std.specs.Prelude.{◌≡◌, ℕ, ◌+◌, ◌<◌, ◌≤◌, ◌^◌, ◌==◌, nat_lt, Bool, true, false, List, [], ◌++◌, length, take, drop, if◌then◌else◌}
use Rattle.rg_pipe.specs.Sent.{has_lf}
use Rattle.rg_pipe.specs.Hand.{IsShort, size_of}
use Rattle.rg_pipe.specs.declared.judge.Kind.{Kind}
use Rattle.rg_pipe.specs.declared.judge.Kind.TheVariants as kind
use Rattle.rg_pipe.specs.declared.progress.Found.{Found}
use Rattle.rg_pipe.specs.declared.progress.Found.TheVariants as found

-- the bytes in hand, of those that are kept: none once they were handed out
abbrev pub in_hand : Bool → List ℕ → List ℕ
in_hand true bytes = []
in_hand false bytes = bytes

-- The bytes are no more than one request, there is room for one, and it is known whether the text has an LF.
pub record IsBuffered (bytes : List ℕ) (room : ℕ) (lf : Bool) : Type 0 where
  pub roomy : 65548 ≤ room
  pub sized : length bytes ≤ size_of bytes
  pub lf_is : lf ≡ has_lf (drop 13 bytes)

-- The counts fit.
pub record IsCounted (pending : List ℕ) (place expected : ℕ) : Type 0 where
  pub counted : place + length pending ≤ 2 ^ 62
  pub small : expected ≤ 2 ^ 62

-- The first n bytes of a piece stand behind the old ones: one after another, as long as the request lacked some.
pub record TakesIn (old new piece : List ℕ) (n : ℕ) : Type 0 where
  pub within : n ≤ length piece
  pub taken : new ≡ old ++ take n piece
  pub lacked : (k : ℕ) → k < n → IsShort (old ++ take k piece)
  pub no_more : n < length piece → IsShort new → ⊥
  pub sized : length new ≤ size_of new

-- what is found for a request of this kind where the next line is to have the expected offset
abbrev pub found_for : ℕ → Kind → Found
found_for expected (kind.Line offset) = if offset == expected then found.Line offset else if nat_lt offset expected then found.Again offset else found.Gap offset expected
found_for expected kind.Commit = found.Commit
found_for expected kind.Save = found.Save
