use Rattle.std.proofs.Common.{◌∙◌, Option, sym, ap}
use Rattle.rg_event.specs.Shapes.{Shape}
use Rattle.rg_log.specs.Entries.{entry_of}
use Rattle.rg_log.proofs.Entries.{front_entry}
use Rattle.rg_log.proofs.entry.LogSoFar.chunk.Goals as goal

pub returns-in-Some-Some : goal.returns-in-Some-Some
returns-in-Some-Some c = λ payload same.
    ap (λ (o : Option Shape). entry_of o payload) c.in-Some-Some.is-0 ∙ front_entry c.in-Some-Some.field-0-0 c.args.front.now payload c.in-Some-Some.head (sym c.in-Some-Some.ensures.head) same
