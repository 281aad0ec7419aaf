use Rattle.std.proofs.Common.{◌≡◌, ◌++◌, take}
use Rattle.rg_verify.proofs.payments.push_chunk.Given as goal

abbrev pub invariant-places : goal.invariant-places
invariant-places l = l.events ≡ l.fn.events ++ take l.index l.chunk
