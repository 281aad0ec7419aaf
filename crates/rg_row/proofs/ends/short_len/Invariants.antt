use Rattle.std.proofs.Common.{◌≡◌, ◌+◌, drop}
use Rattle.rg_row.specs.Plain.{plain_len}
use Rattle.rg_row.proofs.ends.short_len.Given as goal

abbrev pub invariant-loop-i : goal.invariant-loop-i
invariant-loop-i l = plain_len l.bytes ≡ plain_len (drop l.i l.bytes) + l.i
