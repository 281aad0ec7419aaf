use Rattle.std.proofs.Common.{rules}
use Rattle.rg_verify.proofs.fitting.spots_are_named.Goals as goal

pub returns-clause-named : goal.returns-clause-named
returns-clause-named g c = λ v payloads told has. search (rules, c.are_named.ensures.named v payloads told has)
