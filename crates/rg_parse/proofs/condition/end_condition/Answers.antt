use Rattle.rg_parse.proofs.condition.end_condition.Goals as goal

pub returns-in-Ok-clause-made : goal.returns-in-Ok-clause-made
returns-in-Ok-clause-made c = λ text h. record { head = h.head; filter = c.in-Ok.ensures.made text h.either h.last }
