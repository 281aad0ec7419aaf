-- The numbers in a file.
use Rattle.std.specs.Prelude.{◌<◌, ℕ}

-- a number that one byte holds, as all those of a file are
abbrev pub IsByte : ℕ → Type 0
IsByte number = number < 256
