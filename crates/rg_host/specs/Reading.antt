-- The reading of lines from a source.
use Rattle.std.specs.Prelude.{◌≡◌, ◌⊎◌, ◌↔◌, ℕ, ◌+◌, ◌<◌, ◌≤◌, ◌^◌, Bool, true, false, List, [], ◌∷◌, ◌++◌, length, Option, Some, None, Result, Ok, Err, IfOk, IsErr, OnOk, MatchOption, MatchResult}
use Rattle.rg_bytes.specs.Known.{before, IsAtEnd}
use Rattle.rg_host.specs.Lines.{lines_of, HasNoLf}
use Rattle.rg_host.specs.declared.lines.Line.{Line}
use Rattle.rg_host.specs.declared.lines.Line.TheVariants.{Text, Long, End}
use Rattle.rg_host.specs.declared.lines.LineFault.{LineFault}
use Rattle.rg_host.specs.declared.lines.LineFault.TheVariants.{Limit}

-- Where a reading of lines stands.
pub record Reading : Type 0 where
  -- what was taken and not handed out; of a line of which more than 65,535 bytes came, any such bytes without LF
  pub pending : List ℕ
  -- how many bytes were taken; one above the limit where a byte past it came
  pub taken : ℕ
  -- how many bytes were handed out or read past; of a line that is being read past, all but one
  pub spent : ℕ
  -- the source was at its end, and no byte of it is left
  pub ended : Bool

-- the line that is handed out, and nothing at the end
abbrev pub handed : Line → Option (Option (List ℕ))
handed (Text text) = Some (Some text.now)
handed Long = Some None
handed End = None

-- A line was handed out of the bytes that had come, of a source that has `now` to come.
pub record HandsOut (came : List ℕ) (item : Option (List ℕ)) (new : Reading) (now : Option (List ℕ)) : Type 0 where
  -- whatever comes behind them, it is the first of the lines to come
  pub first : new.ended ≡ false → (rest : List ℕ) → lines_of (came ++ rest) ≡ item ∷ lines_of (new.pending ++ rest)
  -- or the source is at its end, it is the only line, and no byte is left
  pub last : new.ended ≡ true → (lines_of came ≡ item ∷ []) × (new.pending ≡ []) × IsAtEnd now

-- What a call of `next` does, whose source had `left` to come before it and has `now` after it.
pub record Next (old new : Reading) (left now : Option (List ℕ)) (result : Result Line LineFault) : Type 0 where
  -- the bytes that this call took, and a byte past the limit, which is dropped
  pub got : List ℕ
  pub past : List ℕ
  pub took : left ≡ before (got ++ past) now
  pub count : new.taken ≡ old.taken + length (got ++ past)
  pub none_past : (past ≡ []) ⊎ (result ≡ Err Limit)
  pub one_past : length past ≤ 1
  pub most : new.taken ≤ 2 ^ 50 + 1
  -- the line is cut from what was pending and these bytes. At the end there is no line, and where the source wasn't known to be at its end, it is now
  pub line : IfOk result (λ line. MatchOption (handed line) ((old.pending ++ got ≡ []) × (old.ended ≡ false → IsAtEnd now)) (λ item. HandsOut (old.pending ++ got) item new now))
  -- after a refusal the same lines are to come, and none of them has come whole
  pub nothing_lost : IsErr result → (rest : List ℕ) → lines_of (new.pending ++ rest) ≡ lines_of ((old.pending ++ got) ++ rest)
  pub no_line_held : IsErr result → HasNoLf new.pending
  -- Limit comes exactly where a byte past 2^50 came, in this call or an earlier one
  pub limit : (result ≡ Err Limit) ↔ (2 ^ 50 < new.taken)
  -- a line hands out at least one byte, of those taken
  pub spent : IfOk result (λ line. MatchOption (handed line) (new.spent ≡ old.spent) (λ _. old.spent < new.spent))
  pub within : OnOk result (new.spent ≤ 2 ^ 50)
  -- a line is handed out only before the end, and a refusal leaves it as it was
  pub ended : MatchResult result (λ line. MatchOption (handed line) (new.ended ≡ true) (λ _. old.ended ≡ false)) (λ _. new.ended ≡ old.ended)
  -- the end and the limit stay
  pub end_stays : old.ended ≡ true → (result ≡ Ok End) × (new ≡ old) × (got ++ past ≡ [])
  pub limit_stays : 2 ^ 50 < old.taken → (result ≡ Err Limit) × (new ≡ old) × (got ++ past ≡ [])
