-- What every call keeps of the table that it is lent, a refused one too.
use Rattle.std.specs.Prelude.{◌↔◌, ◌≤◌, ℕ}

-- whether it tells its rows stays, and its count of faults doesn't fall
pub record TableKept {T : Type 0} (Tells : T → Type 0) (faults : T → ℕ) (old new : T) : Type 0 where
  pub tells : Tells new ↔ Tells old
  pub later : faults old ≤ faults new
