use Rattle.std.proofs.Common.{◌≡◌, take}
use Rattle.std.specs.List.{fold}
use Rattle.rg_group.specs.Mixes.{with_byte}
use Rattle.rg_group.proofs.key.with_bytes.Given as goal

abbrev pub invariant-loop-byte : goal.invariant-loop-byte
invariant-loop-byte l = record { so_far : l.mixed ≡ fold with_byte l.number (take l.byte-index l.bytes) }
