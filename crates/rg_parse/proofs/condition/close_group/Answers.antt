use Rattle.std.proofs.Common.{All, Some}
use Rattle.std.proofs.lemmas.List.Elements.{All-pop}
use Rattle.rg_parse.specs.Steps.{IsLevel}
use Rattle.rg_parse.proofs.condition.close_group.Goals as goal

pub returns-in-Ok-take_operand-clause-made : goal.returns-in-Ok-take_operand-clause-made
returns-in-Ok-take_operand-clause-made c = λ text h.
    let parts : All (IsLevel text) c.pop.new.self.items × IsLevel text c.in-Some.here = All-pop (IsLevel text) c.args.after.outer.items c.pop.new.self.items (Some c.in-Some.here) c.in-Some.ensures.items h.outer in
    c.in-Ok-take_operand.ensures.made text (record { head = h.head; outer = parts.0; here = parts.1 }) (c.in-Ok.ensures.made text h.either h.last)
