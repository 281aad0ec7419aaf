use Rattle.std.proofs.Common.{◌≡◌, drop}
use Rattle.rg_row.specs.Fields.{start}
use Rattle.rg_row.specs.Modes.{mode_of}
use Rattle.rg_row.proofs.Scans.{scans}
use Rattle.rg_row.proofs.quotes.is_split.Given as goal

abbrev pub invariant-loop-byte : goal.invariant-loop-byte
invariant-loop-byte l = scans start l.line ≡ scans (mode_of l.mode) (drop l.byte-index l.line)
