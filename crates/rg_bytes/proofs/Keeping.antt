-- Bytes in front stay where more are put behind them.
use Rattle.std.proofs.Common.{◌≡◌, ◌≤◌, ℕ, List, ◌++◌, length, take, sym, ◌∙◌, ap, arith}
use Rattle.std.proofs.lemmas.List.{take_all, take_at, take-take, length-take}
use Rattle.rg_bytes.specs.Keeps.{Keeps}

pub kept_same : (old new : List ℕ) → new ≡ old → Keeps old new
kept_same old new same = record { front = rw same (take_all (length old) old (omega arith)) }

pub kept_added : (old more new : List ℕ) → new ≡ old ++ more → Keeps old new
kept_added old more new added = record { front = rw added (take_at old more (length old) (omega arith)) }

pub kept_on : (old middle new : List ℕ) → Keeps old middle → Keeps middle new → Keeps old new
kept_on old middle new first second =
    let fits : length old ≤ length middle = omega (arith, length-take (length old) middle, ap length first.front) in
    record { front = sym (take-take (length old) (length middle) new fits) ∙ ap (take (length old)) second.front ∙ first.front }

pub kept_through : (old more middle new : List ℕ) → middle ≡ old ++ more → Keeps middle new → Keeps old new
kept_through old more middle new added keeps = kept_on old middle new (kept_added old more middle added) keeps
