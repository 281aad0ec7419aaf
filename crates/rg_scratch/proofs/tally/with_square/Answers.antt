use Rattle.std.proofs.Common.{rules}
use Rattle.std.specs.Int.{w128}
use Rattle.std.proofs.lemmas.Int.{wraps, wrapping_add-bits}
use Rattle.rg_scratch.proofs.tally.with_square.Goals as goal

pub returns : goal.returns
returns c = search (rules, wraps, wrapping_add-bits w128)
