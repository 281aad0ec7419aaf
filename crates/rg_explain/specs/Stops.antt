-- What may have been put where a call ended early.
use Rattle.std.specs.Prelude.{◌⊎◌, ℕ, List, []}
use Rattle.rg_host.specs.Lines.{ended}
use Rattle.rg_host.specs.Puts.{IsPrefix, StopsWith}

-- what may have been put of a text: whole lines, or any prefix of it where `write` says that a put failed
abbrev pub StopsAt : Type 0 → List (List ℕ) → List ℕ → Type 0
StopsAt write text put = StopsWith text [] put ⊎ (write × IsPrefix put (ended text))
