use Rattle.std.proofs.Common.{◌≡◌, ◌++◌, drop}
use Rattle.rg_query.specs.Resolving.{inside}
use Rattle.rg_query.proofs.Strings.{to_come}
use Rattle.rg_query.proofs.kinds.undoubled.Given as goal

abbrev pub invariant-loop-byte : goal.invariant-loop-byte
invariant-loop-byte l = l.bytes.items ++ to_come l.is_behind_quote (drop l.byte-index l.text) ≡ inside l.text
